-- The first text that is not empty.
use Rattle.std.specs.Prelude.{◌≡◌, ◌+◌, ◌==◌, ◌<◌, ℕ, zero, suc, Bool, true, false, List, [], ◌∷◌, ◌++◌, IfOk, Option, Some, Result, codes, drop, length, map, unwrap_or}
use Rattle.std.specs.Option.{option_map_or}
use Rattle.std.proofs.Common.{refl, sym, ap, subst, ◌∙◌, arith, get_or}
use Rattle.std.proofs.lemmas.Bool.{eqb-true}
use Rattle.dita_doc.specs.declared.plan.PlanNode.{PlanNode}
use Rattle.dita_doc.specs.declared.plan.Target.{Target}
use Rattle.map_spec.specs.Cascade.{whole_at}
use Rattle.map_spec.specs.Elements.{attribute}
use Rattle.map_spec.specs.Keys.{metadata_texts, text_of_definition, title_of_target}
use Rattle.map_spec.specs.Titles.{first_text}
use Rattle.map_spec.specs.Written.{Whole}
use Rattle.reader_spec.specs.World.{World}
use Rattle.key_answers.specs.Seen.{text_seen, texts_of_whole, texts_with}
use Rattle.plan_nodes.specs.Home.{whole_at as whole_seen}
use Rattle.key_answers.proofs.SeenLaws.{texts_same}

first_one : (text : List ℕ) → first_text (text ∷ []) ≡ text
first_one [] = refl
first_one (b ∷ text) = refl

first_taken : (text : List ℕ) (more : List (List ℕ)) (empty : Bool) → empty ≡ (length text == 0)
    → empty ≡ false → first_text (text ∷ more) ≡ text
first_taken [] more empty is some = cc
first_taken (b ∷ text) more empty is some = refl

first_passed : (text : List ℕ) (more : List (List ℕ)) (empty : Bool) → empty ≡ (length text == 0)
    → empty ≡ true → first_text (text ∷ more) ≡ first_text more
first_passed [] more empty is none = refl
first_passed (b ∷ text) more empty is none = absurd (omega (arith, eqb-true _ _ (sym is ∙ none)))

-- the first of these texts, and then of others
first_behind : (texts more : List (List ℕ)) → (length (first_text texts) == 0) ≡ true
    → first_text (texts ++ more) ≡ first_text more
first_behind [] more none = refl
first_behind ([] ∷ texts) more none = first_behind texts more none
first_behind ((b ∷ text) ∷ texts) more none = absurd (omega (arith, eqb-true _ _ none))

first_before : (texts more : List (List ℕ)) → (length (first_text texts) == 0) ≡ false
    → first_text (texts ++ more) ≡ first_text texts
first_before [] more some = cc
first_before ([] ∷ texts) more some = first_before texts more some
first_before ((b ∷ text) ∷ texts) more some = refl

-- Of three texts, where the first two are empty

pub first_of_three : {E : Type 0} (result : Result (List ℕ) E) (first second a b c : List ℕ) (no_first no_second : Bool)
    → first ≡ a → second ≡ b → no_first ≡ (length first == 0) → no_first ≡ true → no_second ≡ (length second == 0)
    → no_second ≡ true → IfOk result (λ text. text ≡ c) → IfOk result (λ text. text ≡ first_text (a ∷ b ∷ c ∷ []))
first_of_three result first second a b c no_first no_second first_is second_is first_test none second_test empty is =
    let whole : first_text (a ∷ b ∷ c ∷ []) ≡ c =
    ap (λ t. first_text (t ∷ b ∷ c ∷ [])) (sym first_is) ∙ first_passed first (b ∷ c ∷ []) no_first first_test none
    ∙ ap (λ t. first_text (t ∷ c ∷ [])) (sym second_is) ∙ first_passed second (c ∷ []) no_second second_test empty
    ∙ first_one c in
    subst (λ t. IfOk result (λ text. text ≡ t)) (sym whole) is

-- Of a definition whose metadata has no text

pub text_behind : {E : Type 0} (result : Result (List ℕ) E) (homes : List (Option Whole)) (at : ℕ) (whole : Whole)
    (text last : List ℕ) (empty : Bool) → Some whole ≡ whole_seen homes at → text ≡ first_text (metadata_texts whole.1)
    → empty ≡ (length text == 0) → empty ≡ true → last ≡ unwrap_or (attribute (codes "navtitle") whole.0) []
    → IfOk result (λ made. made ≡ last) → IfOk result (λ made. made ≡ text_seen homes at)
text_behind result homes at whole text last empty here is test none last_is made =
    let same : text_seen homes at ≡ last =
    ap (λ (found : Option Whole). option_map_or (λ (some : Whole). first_text (texts_of_whole some)) found []) (sym here)
    ∙ first_behind (metadata_texts whole.1) (unwrap_or (attribute (codes "navtitle") whole.0) [] ∷ [])
    (ap (λ t. length t == 0) (sym is) ∙ sym test ∙ none)
    ∙ first_one _ ∙ sym last_is in
    subst (λ t. IfOk result (λ text. text ≡ t)) (sym same) made

-- Of definitions one after the other

pub text_taken : (f : ℕ → List ℕ) (met : List ℕ) (at : ℕ) (text : List ℕ) (empty : Bool) → at < length met
    → text ≡ f (get_or met at 0) → empty ≡ (length text == 0) → empty ≡ false
    → first_text (map f (drop at met)) ≡ text
text_taken f [] at text empty within is test some = absurd (omega arith)
text_taken f (x ∷ met) zero text empty within is test some =
    ap (λ t. first_text (t ∷ map f met)) (sym is) ∙ first_taken text (map f met) empty test some
text_taken f (x ∷ met) (suc at) text empty within is test some =
    text_taken f met at text empty (omega arith) is test some

pub text_passed : (f : ℕ → List ℕ) (met : List ℕ) (at : ℕ) (text : List ℕ) (empty : Bool) → at < length met
    → text ≡ f (get_or met at 0) → empty ≡ (length text == 0) → empty ≡ true
    → first_text (map f (drop at met)) ≡ first_text (map f (drop (at + 1) met))
text_passed f [] at text empty within is test none = absurd (omega arith)
text_passed f (x ∷ met) zero text empty within is test none =
    ap (λ t. first_text (t ∷ map f met)) (sym is) ∙ first_passed text (map f met) empty test none
text_passed f (x ∷ met) (suc at) text empty within is test none =
    let more : suc (at + 1) ≡ suc at + 1 = omega arith in
    text_passed f met at text empty (omega arith) is test none
    ∙ ap (λ n. first_text (map f (drop n (x ∷ met)))) more

-- The text of a key

module _ (world : World) (homes : List (Option Whole)) (nodes : List PlanNode) (met : List ℕ) (target : Target)
    (same : homes ≡ map (whole_at world) nodes) (own : List ℕ) (empty : Bool)
    (is : own ≡ first_text (map (text_seen homes) met)) (test : empty ≡ (length own == 0)) where
  abbrev texts : List (List ℕ)
  texts = map (text_of_definition world nodes) met

  own_first : own ≡ first_text texts
  own_first = is ∙ ap first_text (texts_same world homes nodes met same)

  tested : (length (first_text texts) == 0) ≡ empty
  tested = ap (λ text. length text == 0) (sym own_first) ∙ sym test

  pub label_own : empty ≡ false → own ≡ first_text (texts_with world nodes met target)
  label_own some = own_first ∙ sym (first_before texts (title_of_target world target ∷ []) (tested ∙ some))

  pub label_title : {E : Type 0} (result : Result (List ℕ) E) → empty ≡ true
      → IfOk result (λ text. text ≡ title_of_target world target)
      → IfOk result (λ text. text ≡ first_text (texts_with world nodes met target))
  label_title result none =
      let whole : first_text (texts_with world nodes met target) ≡ title_of_target world target =
      first_behind texts (title_of_target world target ∷ []) (tested ∙ none)
      ∙ first_one (title_of_target world target) in
      subst (λ t. IfOk result (λ text. text ≡ t)) (sym whole)
