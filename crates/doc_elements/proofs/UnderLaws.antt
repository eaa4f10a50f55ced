-- The first element of a type, and the first below children of another type, where an element stands first.
use Rattle.std.specs.Prelude.{◌≡◌, ℕ, Bool, true, false, List, ◌++◌, Some, None, filter, find, if◌then◌else◌}
use Rattle.std.specs.List.{flat_map}
use Rattle.std.specs.Option.{option_or}
use Rattle.std.proofs.Common.{refl, sym, ap, ◌∙◌}
use Rattle.std.proofs.lemmas.Grind.{flat_map-append}
use Rattle.std.proofs.lemmas.List.Elements.{filter-append}
use Rattle.std.proofs.lemmas.List.Folds.{find-append}
use Rattle.dita_doc.specs.ClassValue.{has_type}
use Rattle.map_spec.specs.Elements.{children, first_under, is_a, is_transparent, is_whole, without_transparent}
use Rattle.map_spec.specs.Written.{Element, Whole, Written, Node, elements_below}
use Rattle.doc_elements.specs.Walk.{first_below}
use Rattle.doc_elements.proofs.ChildLaws.{is_of_type, siblings_side_by_side}

-- The first element

-- it is the first, if this is of the type, else one in it, else one behind it
below_at : (token : List ℕ) (element : Element) (inside rest : Written) (is : Bool) → is_a token element ≡ is
    → first_below token (Node element inside rest)
    ≡ (if is then Some (element, inside) else option_or (first_below token inside) (first_below token rest))
below_at token element inside rest true a = rw a refl
below_at token element inside rest false a =
    rw a (find-append (is_whole token) (elements_below inside) (elements_below rest))

module _ (nodes : Written) (element : Element) (inside rest : Written) (first : nodes ≡ Node element inside rest)
    (token : List ℕ) where
  -- the first element is of other types
  below_or : false ≡ has_type element.attributes token
      → first_below token nodes ≡ option_or (first_below token inside) (first_below token rest)
  below_or typed =
      ap (first_below token) first
      ∙ below_at token element inside rest false (is_of_type token element ∙ sym typed)

  -- it is, and one stands in it
  pub below_inside : (found : Whole) → false ≡ has_type element.attributes token
      → Some found ≡ first_below token inside → first_below token nodes ≡ Some found
  below_inside found typed one = below_or typed ∙ ap (λ below. option_or below (first_below token rest)) (sym one)

  -- it is, and none stands in it
  pub below_behind : false ≡ has_type element.attributes token → None ≡ first_below token inside
      → first_below token nodes ≡ first_below token rest
  below_behind typed none = below_or typed ∙ ap (λ below. option_or below (first_below token rest)) (sym none)

-- The first below children

abbrev all_below : List Whole → List Whole
all_below wholes = flat_map (λ (whole : Whole). elements_below whole.1) wholes

-- below children side by side it stands below the first of them, else below the others
under_both : (child token : List ℕ) (wholes more : List Whole)
    → find (is_whole token) (all_below (filter (is_whole child) (wholes ++ more)))
    ≡ option_or (find (is_whole token) (all_below (filter (is_whole child) wholes)))
    (find (is_whole token) (all_below (filter (is_whole child) more)))
under_both child token wholes more =
    ap (λ kept. find (is_whole token) (all_below kept)) (filter-append (is_whole child) wholes more)
    ∙ ap (find (is_whole token)) (flat_map-append (λ (whole : Whole). elements_below whole.1)
    (filter (is_whole child) wholes) (filter (is_whole child) more))
    ∙ find-append (is_whole token) (all_below (filter (is_whole child) wholes)) (all_below (filter (is_whole child) more))

-- it stands under the first element, if this is transparent, or below it, if it is such a child, else under the others
under_at : (child token : List ℕ) (element : Element) (inside rest : Written) (transparent is : Bool)
    → is_transparent element ≡ transparent → is_a child element ≡ is
    → first_under child token (Node element inside rest)
    ≡ (if transparent then option_or (first_under child token inside) (first_under child token rest)
    else if is then option_or (first_below token inside) (first_under child token rest)
    else first_under child token rest)
under_at child token element inside rest true is e a =
    rw (e, siblings_side_by_side (without_transparent inside) (without_transparent rest))
    (under_both child token (children inside) (children rest))
under_at child token element inside rest false true e a =
    rw (e, a) (find-append (is_whole token) (elements_below inside) (all_below (filter (is_whole child) (children rest))))
under_at child token element inside rest false false e a = rw (e, a) refl

module _ (nodes : Written) (element : Element) (inside rest : Written) (first : nodes ≡ Node element inside rest)
    (child token : List ℕ) where
  -- the first element is transparent
  under_or : true ≡ is_transparent element
      → first_under child token nodes ≡ option_or (first_under child token inside) (first_under child token rest)
  under_or is =
      ap (first_under child token) first
      ∙ under_at child token element inside rest true (is_a child element) (sym is) refl

  -- it is transparent, and the element stands under it
  pub under_transparent : (found : Whole) → true ≡ is_transparent element
      → Some found ≡ first_under child token inside → first_under child token nodes ≡ Some found
  under_transparent found is one = under_or is ∙ ap (λ under. option_or under (first_under child token rest)) (sym one)

  -- it is transparent, and none stands under it
  pub under_behind : true ≡ is_transparent element → None ≡ first_under child token inside
      → first_under child token nodes ≡ first_under child token rest
  under_behind is none = under_or is ∙ ap (λ under. option_or under (first_under child token rest)) (sym none)

  -- it is such a child
  child_or : false ≡ is_transparent element → true ≡ has_type element.attributes child
      → first_under child token nodes ≡ option_or (first_below token inside) (first_under child token rest)
  child_or is typed =
      ap (first_under child token) first
      ∙ under_at child token element inside rest false true (sym is) (is_of_type child element ∙ sym typed)

  -- it is such a child, and the element stands below it
  pub under_child : (found : Whole) → false ≡ is_transparent element → true ≡ has_type element.attributes child
      → Some found ≡ first_below token inside → first_under child token nodes ≡ Some found
  under_child found is typed one =
      child_or is typed ∙ ap (λ below. option_or below (first_under child token rest)) (sym one)

  -- it is such a child, and none stands below it
  pub under_none : false ≡ is_transparent element → true ≡ has_type element.attributes child
      → None ≡ first_below token inside → first_under child token nodes ≡ first_under child token rest
  under_none is typed none =
      child_or is typed ∙ ap (λ below. option_or below (first_under child token rest)) (sym none)

  -- it is of other types
  pub under_other_type : false ≡ is_transparent element → false ≡ has_type element.attributes child
      → first_under child token nodes ≡ first_under child token rest
  under_other_type is typed =
      ap (first_under child token) first
      ∙ under_at child token element inside rest false false (sym is) (is_of_type child element ∙ sym typed)
