-- The types of an element; and the first child of a type, where an element stands first.
use Rattle.std.specs.Prelude.{◌≡◌, ◌&&◌, ℕ, Bool, true, false, not, List, ◌∷◌, ◌++◌, Option, Some, None, Result, Ok, Err, bytes_eq, codes, if◌then◌else◌}
use Rattle.std.specs.List.{list_any}
use Rattle.std.specs.Option.{option_or}
use Rattle.std.proofs.Common.{refl, sym, ap, ◌∙◌}
use Rattle.std.proofs.lemmas.List.Folds.{find-append}
use Rattle.dita_doc.specs.ClassValue.{class_of, has_type, is_class_with, is_read_with}
use Rattle.dita_doc.specs.declared.class.ClassFault.{ClassFault}
use Rattle.dita_doc.specs.declared.class.ClassList.{ClassList}
use Rattle.map_spec.specs.Elements.{attribute, tokens_read, tokens_by, has_types, is_a, is_transparent, is_whole, first_child, without_transparent}
use Rattle.map_spec.specs.Written.{Element, Whole, Written, End, Chars, Node, side_by_side, siblings}

-- Types

-- the token is among those of what was read of a class value
type_read : (token : List ℕ) (read : Result ClassList ClassFault)
    → list_any (bytes_eq token) (tokens_read read) ≡ is_read_with token read
type_read token (Ok list) = refl
type_read token (Err fault) = refl

-- it is among those of a class value that may be there
type_by : (token : List ℕ) (value : Option (List ℕ))
    → list_any (bytes_eq token) (tokens_by value) ≡ is_class_with token value
type_by token None = refl
type_by token (Some value) = type_read token (class_of value)

-- an element is of a type if its class value has the token
pub is_of_type : (token : List ℕ) (element : Element) → is_a token element ≡ has_type element.attributes token
is_of_type token element = type_by token (attribute (codes "class") element)

-- it is transparent by whether it has types, and by its name
pub transparent_by : (element : Element) (types : Bool) (name : List ℕ) → types ≡ has_types element
    → name ≡ element.name → (not types && not (bytes_eq name (codes "dita"))) ≡ is_transparent element
transparent_by element types name typed named = rw (typed, named) refl

-- Children

-- the elements among siblings side by side are those of both, in their order
pub siblings_side_by_side : (nodes more : Written) → siblings (side_by_side nodes more) ≡ siblings nodes ++ siblings more
siblings_side_by_side End more = refl
siblings_side_by_side (Chars text doc rest) more = siblings_side_by_side rest more
siblings_side_by_side (Node element inside rest) more =
    ap (λ others. (element, inside) ∷ others) (siblings_side_by_side rest more)

-- the first child is one in a transparent element, or the element itself, else one behind it
child_at : (token : List ℕ) (element : Element) (inside rest : Written) (transparent is : Bool)
    → is_transparent element ≡ transparent → is_a token element ≡ is
    → first_child token (Node element inside rest)
    ≡ (if transparent then option_or (first_child token inside) (first_child token rest)
    else if is then Some (element, inside) else first_child token rest)
child_at token element inside rest true is e a =
    rw (e, siblings_side_by_side (without_transparent inside) (without_transparent rest))
    (find-append (is_whole token) (siblings (without_transparent inside)) (siblings (without_transparent rest)))
child_at token element inside rest false true e a = rw (e, a) refl
child_at token element inside rest false false e a = rw (e, a) refl

module _ (nodes : Written) (element : Element) (inside rest : Written) (first : nodes ≡ Node element inside rest)
    (token : List ℕ) where
  -- where the first element is transparent, the child stands in it, else behind it
  in_its_place : true ≡ is_transparent element
      → first_child token nodes ≡ option_or (first_child token inside) (first_child token rest)
  in_its_place is =
      ap (first_child token) first ∙ child_at token element inside rest true (is_a token element) (sym is) refl

  -- the child stands in the transparent element
  pub child_inside : (found : Whole) → true ≡ is_transparent element → Some found ≡ first_child token inside
      → first_child token nodes ≡ Some found
  child_inside found is one = in_its_place is ∙ ap (λ child. option_or child (first_child token rest)) (sym one)

  -- none stands in it
  pub child_behind : true ≡ is_transparent element → None ≡ first_child token inside
      → first_child token nodes ≡ first_child token rest
  child_behind is none = in_its_place is ∙ ap (λ child. option_or child (first_child token rest)) (sym none)

  -- the first element is of other types
  pub child_of_other_type : false ≡ is_transparent element → false ≡ has_type element.attributes token
      → first_child token nodes ≡ first_child token rest
  child_of_other_type is typed =
      ap (first_child token) first
      ∙ child_at token element inside rest false false (sym is) (is_of_type token element ∙ sym typed)
