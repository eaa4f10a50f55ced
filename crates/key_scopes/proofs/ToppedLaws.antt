-- A definition at a place, and one more of them with its outermost one.
use Rattle.std.specs.Prelude.{◌≡◌, ◌<◌, ◌≤◌, ◌++◌, ◌⊎◌, ℕ, zero, suc, true, false, List, [], ◌∷◌, Some, length, nat_lt, slice_get, take}
use Rattle.std.proofs.Common.{refl, sym, ap, subst, ◌∙◌, arith, get_or, inl, inr, length-append}
use Rattle.std.proofs.Math.Seq.{take-append_seam}
use Rattle.std.proofs.lemmas.Bool.{cases_Bool}
use Rattle.std.proofs.lemmas.Bool.Decides.{nat_tests}
use Rattle.std.proofs.lemmas.List.{take-append-le}
use Rattle.key_scopes.specs.declared.definitions.Definition.{Definition}
use Rattle.key_scopes.specs.Outermost.{AreTopped, top_for}
use Rattle.plan_nodes.proofs.ListLaws.{get_more}

-- A definition at a place

pub record Found (definitions : List Definition) (at : ℕ) (definition : Definition) : Type 0 where
  pub within : at < length definitions
  pub got : (d : Definition) → get_or definitions at d ≡ definition

pub found : (definitions : List Definition) (at : ℕ) (definition : Definition) → slice_get definitions at
    ≡ Some definition
    → Found definitions at definition
found [] at definition is = absurd (cc)
found (first ∷ definitions) zero definition is =
    let same : first ≡ definition = cc in record { within = omega arith; got = λ d. same }
found (first ∷ definitions) (suc at) definition is =
    let behind = found definitions at definition is in
    record { within = let low = behind.within in omega (arith, low); got = behind.got }

pub taken : (definitions : List Definition) (count at : ℕ) → at < count
    → slice_get (take count definitions) at ≡ slice_get definitions at
taken [] zero at low = absurd (omega arith)
taken [] (suc count) at low = refl
taken (first ∷ definitions) zero at low = absurd (omega arith)
taken (first ∷ definitions) (suc count) zero low = refl
taken (first ∷ definitions) (suc count) (suc at) low = taken definitions count at (omega arith)

-- One more definition

get_end : (definitions : List Definition) (last : Definition)
    → slice_get (definitions ++ last ∷ []) (length definitions) ≡ Some last
get_end [] last = refl
get_end (first ∷ definitions) last = get_end definitions last

pub topped_more : (ends : List ℕ) (old new : List Definition) (last : Definition) → AreTopped ends old
    → last.top ≡ top_for ends old last.key last.scope → new ≡ old ++ last ∷ [] → AreTopped ends new
topped_more ends old new last topped top more = subst (AreTopped ends) (sym more)
    (λ at own is. by_test at own is (found (old ++ last ∷ []) at own is) (cases_Bool (nat_lt at (length old))))
  where
    by_test : (at : ℕ) (own : Definition) → slice_get (old ++ last ∷ []) at ≡ Some own → Found (old ++ last ∷ []) at own
        → (nat_lt at (length old) ≡ true) ⊎ (nat_lt at (length old) ≡ false)
        → own.top ≡ top_for ends (take at (old ++ last ∷ [])) own.key own.scope
    by_test at own is here (inl less) =
        let low : at < length old = grind (arith, nat_tests) in
        topped at own (sym (get_more old (last ∷ []) at low) ∙ is)
        ∙ ap (λ all. top_for ends all own.key own.scope) (sym (take-append-le at old (last ∷ []) (omega arith)))
    by_test at own is here (inr not_less) =
        let high : length old ≤ at = grind (arith, nat_tests) in
        let within = here.within in
        let same : at ≡ length old = omega (arith, high, within, length-append old (last ∷ [])) in
        let alike : Some last ≡ Some own =
        sym (get_end old last) ∙ ap (slice_get (old ++ last ∷ [])) (sym same) ∙ is in
        let own_is : last ≡ own = cc in
        let all : take at (old ++ last ∷ []) ≡ old =
        ap (λ n. take n (old ++ last ∷ [])) same ∙ take-append_seam old (last ∷ []) in
        subst (λ (d : Definition). d.top ≡ top_for ends (take at (old ++ last ∷ [])) d.key d.scope) own_is
        (top ∙ ap (λ some. top_for ends some last.key last.scope) (sym all))
