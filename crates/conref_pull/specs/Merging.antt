-- What an element takes from its target (DITA 1.3, "Processing attributes when resolving conrefs"), attribute by attribute.
use Rattle.std.specs.Prelude.{◌≡◌, ◌&&◌, ◌||◌, ◌++◌, ℕ, Bool, not, List, [], ◌∷◌, bytes_eq, codes, filter, unwrap_or, if◌then◌else◌}
use Rattle.std.specs.List.{list_any}
use Rattle.dita_doc.specs.ClassValue.{value_of}
use Rattle.dita_doc.specs.Tree.{has_href}
use Rattle.dita_doc.specs.declared.doc.Attribute.{Attribute}
use Rattle.map_spec.specs.Written.{Element}
use Rattle.conref_spec.specs.Content.{is_written_in, names_not_taken, specified, use_target}
use Rattle.conref_pull.specs.Step.{Taken, merged_onto}
use Rattle.conref_pull.specs.declared.merge.Merged.{Merged}

-- these are the attributes of the element, and the document in which its href was written
pub record IsMerged (merged : Merged) (element : Element) : Type 0 where
  pub attributes : merged.attributes ≡ element.attributes
  pub href_doc : merged.href_doc ≡ element.href_doc

abbrev pub is_specified : Attribute → Bool
is_specified written = not (bytes_eq written.value use_target)

abbrev pub is_taken : List ℕ → Bool
is_taken name = not (list_any (bytes_eq name) names_not_taken)

-- an attribute of a target is taken by an element that has these of its own
abbrev pub is_missing : List Attribute → Attribute → Bool
is_missing own other = is_taken other.name && not (is_written_in own other)

-- one that is not left to another target, unless the target leaves none
abbrev pub is_given : Bool → List Attribute → Attribute → Bool
is_given leaves own other = (not leaves || is_specified other) && is_missing own other

-- an element without what it leaves to its target
abbrev pub own_part : Element → Element
own_part element = record element { attributes = specified element.attributes }

abbrev pub part_of : Bool → Element → Element
part_of leaves target = if leaves then own_part target else target

-- an element that keeps all that it has, with what it has not from a target
abbrev pub taking : Element → Element → Element
taking own target = record own {
  attributes = own.attributes ++ filter (is_missing own.attributes) target.attributes;
  href_doc = if not (has_href own.attributes) && has_href target.attributes then target.href_doc else own.href_doc;
}

-- the same attributes, and an href of the same document
pub record AreAlike (one other : Element) : Type 0 where
  pub attributes : one.attributes ≡ other.attributes
  pub href_doc : one.href_doc ≡ other.href_doc

-- what it then takes from any target is what the element takes from what these make of that target
pub record TakesAll (merged : Merged) (own : Element) (taken : List Taken) : Type 0 where
  pub made : Element
  pub is : IsMerged merged made
  pub alike : (target : Element) → AreAlike (taking made target) (taking own (merged_onto target taken))

abbrev pub is_no_id : Attribute → Bool
is_no_id written = not (list_any (bytes_eq written.name) (codes "id" ∷ []))

abbrev pub is_own_id : Attribute → Bool
is_own_id written = bytes_eq written.name (codes "id") && is_specified written

-- the id that an element of these attributes does not leave to its target
abbrev pub own_id : List Attribute → List ℕ
own_id own = unwrap_or (value_of (codes "id") (specified own)) []
