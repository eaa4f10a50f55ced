-- The first definition of a key among entries in their order is the scope's own.
use Rattle.std.specs.Prelude.{◌≡◌, ◌+◌, ◌<◌, ◌≤◌, ◌==◌, ◌&&◌, ◌++◌, ◌⊎◌, ℕ, suc, Bool, true, false, List, [], ◌∷◌, Option, Some, None, bytes_eq, filter, find, length, option_map, if◌then◌else◌}
use Rattle.std.specs.List.{All}
use Rattle.std.specs.Option.{option_or}
use Rattle.std.proofs.Common.{refl, sym, ap, subst, ◌∙◌, arith, get_or, inl, inr}
use Rattle.std.proofs.lemmas.Bool.{and_from, cases_Bool, eq-eqb, eqb-true, true≢false}
use Rattle.std.proofs.lemmas.Bool.Decides.{nat_tests}
use Rattle.std.proofs.lemmas.List.Elements.{All-cons, All-from_get_or, All-head, All-nil, All-tail}
use Rattle.std.proofs.lemmas.List.Folds.{find-append}
use Rattle.dita_doc.specs.declared.plan.PlanNode.{PlanNode}
use Rattle.dita_doc.proofs.Lists.{option_or_none}
use Rattle.dita_doc.proofs.Tests.{equal_text, first_holds, same_text, second_holds}
use Rattle.key_scopes.specs.Defined.{AreOrdered, first_by, firsts_by, is_entry_before, is_last_of, with_first}
use Rattle.key_scopes.specs.Numbered.{KeyEntry, entry}
use Rattle.key_scopes.specs.Table.{First, is_first}
use Rattle.key_scopes.proofs.OptionLaws.{or_assoc}
use Rattle.map_spec.specs.Scopes.{places_from}

-- A search

pub find_filter : {X : Type 0} (q r : X → Bool) (xs : List X) → find q (filter r xs) ≡ find (λ x. r x && q x) xs
find_filter q r [] = refl
find_filter q r (x ∷ xs) = by_two (find_filter q r xs) (r x) (q x) refl refl
  where
    by_two : find q (filter r xs) ≡ find (λ y. r y && q y) xs → (a b : Bool) → r x ≡ a → q x ≡ b
        → find q (filter r (x ∷ xs)) ≡ find (λ y. r y && q y) (x ∷ xs)
    by_two behind true true e f = simp (e, f) refl
    by_two behind true false e f = simp (e, f) behind
    by_two behind false true e f = simp (e, f) behind
    by_two behind false false e f = simp (e, f) behind

-- what is found passes the test, and is one of the list
pub find_is : {X : Type 0} (P : X → Type 0) (p : X → Bool) (xs : List X) (x : X) → find p xs ≡ Some x → All P xs
    → P x × (p x ≡ true)
find_is P p [] x found all = absurd (cc)
find_is P p (first ∷ xs) x found all =
    by_one (λ there. find_is P p xs x there (All-tail P first xs all)) (p first) refl
  where
    by_one : (find p xs ≡ Some x → P x × (p x ≡ true)) → (a : Bool) → p first ≡ a → P x × (p x ≡ true)
    by_one behind true e =
        let there = rw e at found in
        let same : first ≡ x = cc in
        (subst P same (All-head P first xs all), ap p (sym same) ∙ e)
    by_one behind false e = behind (rw e at found)

-- if none is found, none passes it
pub find_none : {X : Type 0} (p : X → Bool) (xs : List X) → find p xs ≡ None → All (λ x. p x ≡ false) xs
find_none p [] none = All-nil (λ x. p x ≡ false)
find_none p (first ∷ xs) none = by_one (λ there. find_none p xs there) (p first) refl
  where
    by_one : (find p xs ≡ None → All (λ x. p x ≡ false) xs) → (a : Bool) → p first ≡ a
        → All (λ x. p x ≡ false) (first ∷ xs)
    by_one behind true e = let there = rw e at none in absurd (cc)
    by_one behind false e = All-cons (λ x. p x ≡ false) first xs e (behind (rw e at none))

-- Entries in order: the first is the least

abbrev pub NotBefore : (KeyEntry → Bool) → KeyEntry → KeyEntry → Type 0
NotBefore p e other = p other ≡ true → is_entry_before other e ≡ false

pub least : (p : KeyEntry → Bool) (entries : List KeyEntry) (e : KeyEntry) → AreOrdered entries
    → find p entries ≡ Some e
    → All (NotBefore p e) entries
least p [] e ordered found = absurd (cc)
least p (first ∷ entries) e ordered found =
    by_one (λ there. least p entries e (λ i j d low high. ordered (suc i) (suc j) d (omega arith) (omega arith)) there)
    (p first) refl
  where
    by_one : (find p entries ≡ Some e → All (NotBefore p e) entries) → (a : Bool) → p first ≡ a
        → All (NotBefore p e) (first ∷ entries)
    by_one behind true f =
        let there = rw f at found in
        let same : first ≡ e = cc in
        All-from_get_or (NotBefore p e) (first ∷ entries) first
        (λ j within. λ _. subst (λ one. is_entry_before (get_or (first ∷ entries) j first) one ≡ false) same
        (ordered 0 j first (omega arith) within))
    by_one behind false f =
        All-cons (NotBefore p e) first entries (λ g. absurd (true≢false (sym g ∙ f))) (behind (rw f at found))

-- The first of each key and scope

-- an entry of this key in this scope
abbrev pub matches : ℕ → List ℕ → KeyEntry → Bool
matches scope key entry = (entry.1 == scope) && bytes_eq key entry.0

last_found : (scope : ℕ) (key : List ℕ) (firsts : List First) (entry : KeyEntry) → is_last_of firsts entry ≡ true
    → matches scope key entry ≡ true → (first : First) × (find (is_first scope key) firsts ≡ Some first)
last_found scope key [] entry last is = absurd (cc)
last_found scope key (first ∷ []) entry last is =
    let there = eqb-true first.scope entry.1 (first_holds (first.scope == entry.1) (bytes_eq entry.0 first.key) last) in
    let text = same_text entry.0 first.key (second_holds (first.scope == entry.1) (bytes_eq entry.0 first.key) last) in
    let scope_is = eqb-true entry.1 scope (first_holds (entry.1 == scope) (bytes_eq key entry.0) is) in
    let key_is = same_text key entry.0 (second_holds (entry.1 == scope) (bytes_eq key entry.0) is) in
    let here : is_first scope key first ≡ true =
    and_from (first.scope == scope) (bytes_eq key first.key) (eq-eqb first.scope scope (there ∙ scope_is))
    (equal_text key first.key (key_is ∙ text)) in
    (first, rw here refl)
last_found scope key (first ∷ next ∷ firsts) entry last is =
    by_one (is_first scope key first) refl (last_found scope key (next ∷ firsts) entry last is)
  where
    by_one : (a : Bool) → is_first scope key first ≡ a
        → (found : First) × (find (is_first scope key) (next ∷ firsts) ≡ Some found)
        → (found : First) × (find (is_first scope key) (first ∷ next ∷ firsts) ≡ Some found)
    by_one true e behind = (first, rw e refl)
    by_one false e behind = (behind.0, rw e behind.1)

pub first_among : (scope : ℕ) (key : List ℕ) (entries : List KeyEntry) (firsts : List First)
    → find (is_first scope key) (firsts_by firsts entries)
    ≡ option_or (find (is_first scope key) firsts) (option_map first_by (find (matches scope key) entries))
first_among scope key [] firsts = sym (option_or_none (find (is_first scope key) firsts))
first_among scope key (entry ∷ entries) firsts =
    first_among scope key entries (with_first firsts entry)
    ∙ by_two (is_last_of firsts entry) (matches scope key entry) refl refl
  where
    by_two : (a b : Bool) → is_last_of firsts entry ≡ a → matches scope key entry ≡ b
        → option_or (find (is_first scope key) (if is_last_of firsts entry then firsts else firsts ++ first_by entry
        ∷ []))
        (option_map first_by (find (matches scope key) entries))
        ≡ option_or (find (is_first scope key) firsts)
        (option_map first_by (find (matches scope key) (entry ∷ entries)))
    by_two true true e f =
        let found = last_found scope key firsts entry e f in
        simp (e, f, found.1) refl
    by_two true false e f = simp (e, f) refl
    by_two false b e f =
        rw e (ap (λ some. option_or some (option_map first_by (find (matches scope key) entries)))
        (find-append (is_first scope key) firsts (first_by entry ∷ []))
        ∙ or_assoc (find (is_first scope key) firsts) (find (is_first scope key) (first_by entry ∷ []))
        (option_map first_by (find (matches scope key) entries))
        ∙ ap (option_or (find (is_first scope key) firsts)) (by_one b f))
      where
        by_one : (b : Bool) → matches scope key entry ≡ b
            → option_or (find (is_first scope key) (first_by entry ∷ []))
            (option_map first_by (find (matches scope key) entries))
            ≡ option_map first_by (find (matches scope key) (entry ∷ entries))
        by_one true g = simp g refl
        by_one false g = simp g refl

-- A search of the places of nodes

pub record IsFirstAt (test : ℕ → Bool) (from to at : ℕ) : Type 0 where
  pub here : test at ≡ true
  pub low : from ≤ at
  pub high : at < to
  pub first : (other : ℕ) → from ≤ other → other < at → test other ≡ false

abbrev pub IsSearched : (ℕ → Bool) → ℕ → ℕ → Option ℕ → Type 0
IsSearched test from to None = (other : ℕ) → from ≤ other → other < to → test other ≡ false
IsSearched test from to (Some at) = IsFirstAt test from to at

pub searched : (test : ℕ → Bool) (from to : ℕ) (nodes : List PlanNode) → from + length nodes ≡ to
    → IsSearched test from to (find test (places_from from nodes))
searched test from to [] long = λ other low high. absurd (omega arith)
searched test from to (node ∷ nodes) long =
    by_one (test from) refl (find test (places_from (from + 1) nodes)) (searched test (from + 1) to nodes (omega arith))
  where
    at_first : test from ≡ false → (other : ℕ) → from ≤ other → ((from + 1 ≤ other) → test other ≡ false)
        → ((other == from) ≡ true) ⊎ ((other == from) ≡ false) → test other ≡ false
    at_first e other low behind (inl same) = ap test (eqb-true other from same) ∙ e
    at_first e other low behind (inr differs) =
        let less : from + 1 ≤ other = grind (arith, nat_tests) in behind less

    by_one : (a : Bool) → test from ≡ a → (found : Option ℕ) → IsSearched test (from + 1) to found
        → IsSearched test from to (if a then Some from else found)
    by_one true e found behind = record {
      here = e;
      low = omega arith;
      high = omega arith;
      first = λ other low high. absurd (omega arith);
    }
    by_one false e None behind = λ other low high.
        at_first e other low (λ less. behind other less high) (cases_Bool (other == from))
    by_one false e (Some at) behind = record {
      here = behind.here;
      low = let less = behind.low in omega (arith, less);
      high = behind.high;
      first = λ other low high. at_first e other low (λ less. behind.first other less high)
          (cases_Bool (other == from));
    }
