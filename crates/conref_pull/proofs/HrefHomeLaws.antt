-- An element that has no href was written where its href would have been, also once it has taken what it takes.
use Rattle.std.specs.Prelude.{◌≡◌, ◌&&◌, ◌||◌, ℕ, Bool, true, false, not, List, [], ◌∷◌, bytes_eq, codes, filter, if◌then◌else◌}
use Rattle.std.specs.List.{list_any}
use Rattle.std.proofs.Common.{refl, sym, ap, ◌∙◌}
use Rattle.dita_doc.specs.Tree.{has_href}
use Rattle.dita_doc.specs.declared.doc.Attribute.{Attribute}
use Rattle.doc_maker.specs.Building.{href_written}
use Rattle.doc_maker.proofs.BuildingLaws.{href_own}
use Rattle.map_spec.specs.Written.{Element}
use Rattle.conref_spec.specs.Content.{merged_element, specified, takes_href, without_id}
use Rattle.conref_pull.specs.Merging.{is_missing}
use Rattle.conref_pull.proofs.AroundLaws.{home_kept}
use Rattle.conref_pull.proofs.TakingLaws.{has_append, has_kept, has_left, merged_parts}

-- an element has an href without its id if it has one
has_without : (is_range : Bool) (element : Element)
    → has_href (without_id is_range element).attributes ≡ has_href element.attributes
has_without true element = has_kept (λ (written : Attribute). not (list_any (bytes_eq written.name) (codes "id" ∷ [])))
    (codes "href") (λ one is. ap (λ (name : List ℕ). not (list_any (bytes_eq name) (codes "id" ∷ []))) is)
    element.attributes
has_without false element = refl

has_merged : (element target : Element) → has_href (merged_element element target).attributes
    ≡ (has_href (specified element.attributes)
    || has_href (filter (is_missing (specified element.attributes)) target.attributes))
has_merged element target =
    ap has_href (merged_parts element target)
    ∙ has_append (codes "href") (specified element.attributes)
    (filter (is_missing (specified element.attributes)) target.attributes)

-- one that has none afterwards has taken none
none_taken : (element target : Element) → has_href (merged_element element target).attributes ≡ false
    → takes_href element target ≡ false
none_taken element target none = by_test (has_href (specified element.attributes)) refl
  where
    by_test : (own : Bool) → has_href (specified element.attributes) ≡ own
        → (not (has_href (specified element.attributes)) && has_href target.attributes) ≡ false
    by_test true is = rw is refl
    by_test false is = rw is
        (sym (has_left (specified element.attributes) (codes "href") target.attributes refl is)
        ∙ ap (λ (own : Bool). own || has_href (filter (is_missing (specified element.attributes)) target.attributes))
        (sym is) ∙ sym (has_merged element target) ∙ none)

-- as it is
pub kept_home : (attributes : List Attribute) (is_range : Bool) (element : Element)
    → element.href_doc ≡ element.doc
    → href_written attributes element.doc element.href_doc ≡ (without_id is_range element).href_doc
kept_home attributes is_range element own =
    ap (href_written attributes element.doc) own ∙ href_own attributes element.doc ∙ sym own
    ∙ home_kept is_range element

-- with what it takes
module _ (is_range : Bool) (element target : Element) (own : element.href_doc ≡ element.doc) where
  abbrev left : Element
  left = without_id is_range (merged_element element target)

  by_test : (test : Bool) → has_href left.attributes ≡ test
      → href_written left.attributes element.doc left.href_doc ≡ left.href_doc
  by_test true is = rw is refl
  by_test false is = rw is
      (sym own
      ∙ ap (λ (test : Bool). if test then target.href_doc else element.href_doc)
      (sym (none_taken element target (sym (has_without is_range (merged_element element target)) ∙ is)))
      ∙ home_kept is_range (merged_element element target))

  pub taken_home : href_written (without_id is_range (merged_element element target)).attributes element.doc
      (without_id is_range (merged_element element target)).href_doc
      ≡ (without_id is_range (merged_element element target)).href_doc
  taken_home = by_test (has_href left.attributes) refl
