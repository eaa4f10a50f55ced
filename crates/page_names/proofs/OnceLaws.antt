-- Names and uses of which each is taken once: one more behind.
use Rattle.std.specs.Prelude.{◌≡◌, ◌||◌, ℕ, Bool, true, not, List, [], ◌∷◌, ◌++◌, bytes_eq, filter, if◌then◌else◌}
use Rattle.std.specs.List.{list_any}
use Rattle.std.proofs.Common.{refl, sym, ap, ◌∙◌}
use Rattle.std.proofs.lemmas.Slice.Eq.{bytes_eq-Decides}
use Rattle.dita_doc.proofs.Tests.{text_swaps}
use Rattle.map_spec.specs.Branches.{each_once}
use Rattle.map_spec.specs.Pages as pages_spec
use Rattle.map_spec.specs.Pages.{first_uses, is_same_page}
use Rattle.page_names.specs.PageUses.{with_use}
use Rattle.page_names.specs.Used.{with_name}
use Rattle.page_names.proofs.KeyLaws.{same_through}
use Rattle.plan_nodes.proofs.OnceLaws.{firsts, firsts_push}

-- Names

same_names : (a b c : List ℕ) → bytes_eq a b ≡ true → bytes_eq b c ≡ true → bytes_eq a c ≡ true
same_names a b c one two =
    (bytes_eq-Decides a c).1 ((bytes_eq-Decides a b).0 one ∙ (bytes_eq-Decides b c).0 two)

once_is : (names : List (List ℕ)) → each_once names ≡ firsts bytes_eq same_names names
once_is [] = refl
once_is (name ∷ names) = ap (λ more. name ∷ filter (λ other. not (bytes_eq name other)) more) (once_is names)

there_turned : (names : List (List ℕ)) (name : List ℕ)
    → list_any (λ other. bytes_eq other name) names ≡ list_any (bytes_eq name) names
there_turned [] name = refl
there_turned (first ∷ names) name =
    ap (λ b. b || list_any (λ other. bytes_eq other name) names) (text_swaps first name)
    ∙ ap (λ b. bytes_eq name first || b) (there_turned names name)

pub once_push : (names : List (List ℕ)) (name : List ℕ) → each_once (names ++ name ∷ []) ≡ with_name
    (each_once names) name
once_push names name =
    once_is (names ++ name ∷ []) ∙ firsts_push bytes_eq same_names names name
    ∙ ap (λ all. if list_any (λ other. bytes_eq other name) all then all else all ++ name ∷ []) (sym (once_is names))
    ∙ ap (λ b. if b then each_once names else each_once names ++ name ∷ []) (there_turned (each_once names) name)

-- Uses

abbrev same_use : pages_spec.Use → pages_spec.Use → Bool
same_use a b = is_same_page a.id b.id

same_uses : (a b c : pages_spec.Use) → same_use a b ≡ true → same_use b c ≡ true → same_use a c ≡ true
same_uses a b c = same_through a.id b.id c.id

uses_is : (uses : List pages_spec.Use) → first_uses uses ≡ firsts same_use same_uses uses
uses_is [] = refl
uses_is (page ∷ uses) = ap (λ more. page ∷ filter (λ other. not (same_use page other)) more) (uses_is uses)

pub uses_push : (uses : List pages_spec.Use) (page : pages_spec.Use)
    → first_uses (uses ++ page ∷ []) ≡ with_use (first_uses uses) page
uses_push uses page =
    uses_is (uses ++ page ∷ []) ∙ firsts_push same_use same_uses uses page
    ∙ ap (λ all. with_use all page) (sym (uses_is uses))
