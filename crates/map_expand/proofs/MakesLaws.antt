-- What an element makes, by its types.
use Rattle.std.specs.Prelude.{◌≡◌, ◌==◌, ◌||◌, ℕ, Bool, true, false, not, List, [], ◌∷◌, Option, length, if◌then◌else◌}
use Rattle.std.specs.List.{list_any}
use Rattle.std.proofs.Common.{refl, sym, ap, ◌∙◌, arith}
use Rattle.std.proofs.lemmas.Bool.{true≢false}
use Rattle.std.proofs.lemmas.Bool.Decides.{nat_tests}
use Rattle.dita_doc.specs.declared.plan.PlanKind.{PlanKind}
use Rattle.dita_doc.proofs.Tests.{or_assoc}
use Rattle.map_spec.specs.Elements.{is_dita, tokens_of}
use Rattle.map_spec.specs.Written.{Element}
use Rattle.map_expand.specs.Makes.{kind_by, made, makes_kind, types_among}
use Rattle.map_expand.specs.declared.element.MapTypes.{MapTypes}
use Rattle.map_expand.specs.declared.element.Makes.{Makes}
use Rattle.map_expand.specs.declared.element.Makes.TheVariants as makes

-- one word more
pub type_step : (test : List ℕ → Bool) (has new all : Bool) (word : List ℕ) (words more : List (List ℕ))
    → (has || list_any test words) ≡ all → words ≡ word ∷ more → new ≡ (has || test word)
    → (new || list_any test more) ≡ all
type_step test has new all word words more before is made =
    ap (λ b. b || list_any test more) made ∙ or_assoc has (test word) (list_any test more)
    ∙ sym (ap (λ ws. has || list_any test ws) is) ∙ before

any_of : (has : Bool) (word : List ℕ) (more : List (List ℕ)) → (has || not (length (word ∷ more) == 0)) ≡ true
any_of true word more = refl
any_of false word more = grind (arith, nat_tests)

pub any_step : (has new all : Bool) (word : List ℕ) (words more : List (List ℕ))
    → (has || not (length words == 0)) ≡ all → words ≡ word ∷ more → new ≡ true
    → (new || not (length more == 0)) ≡ all
any_step has new all word words more before is made =
    ap (λ b. b || not (length more == 0)) made ∙ sym (any_of has word more)
    ∙ sym (ap (λ ws. has || not (length ws == 0)) is) ∙ before

module _ (element : Element) (types : MapTypes) (is : types ≡ types_among (tokens_of element)) where
  has_any : types.any ≡ not (length (tokens_of element) == 0)
  has_any = ap (λ (t : MapTypes). t.any) is

  -- an element with types
  pub made_with : (kind : Option PlanKind) → types.any ≡ true → kind ≡ kind_by types → makes_kind kind ≡ made element
  made_with kind any by =
      let some : not (length (tokens_of element) == 0) ≡ true = sym has_any ∙ any in
      ap makes_kind (by ∙ ap kind_by is) ∙ sym (rw some refl)

  -- an element without types
  pub made_without : (result : Makes) → types.any ≡ false
      → result ≡ (if is_dita element then makes.Nothing else makes.Content) → result ≡ made element
  made_without result any is_made =
      is_made ∙ by_name (is_dita element) refl
    where
      none : (tokens : List (List ℕ)) → not (length tokens == 0) ≡ false → tokens ≡ []
      none [] e = refl
      none (token ∷ tokens) e = absurd (true≢false (sym (any_of false token tokens) ∙ e))

      by_name : (dita : Bool) → is_dita element ≡ dita → (if dita then makes.Nothing else makes.Content) ≡ made element
      by_name true named = rw (sym has_any ∙ any, named)
          (sym (ap (λ words. makes_kind (kind_by (types_among words))) (none (tokens_of element) (sym has_any ∙ any))))
      by_name false named = rw (sym has_any ∙ any, named) refl
