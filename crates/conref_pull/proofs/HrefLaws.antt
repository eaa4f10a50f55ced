-- Documents that hrefs name, in content that is put piece by piece.
use Rattle.std.specs.Prelude.{◌≡◌, ◌++◌, ℕ, Bool, true, false, List, [], ◌∷◌, IsTrue, bytes_eq, codes}
use Rattle.std.specs.Option.{option_and_then, option_to_list}
use Rattle.std.proofs.Common.{refl}
use Rattle.std.proofs.lemmas.Bool.{false≢true}
use Rattle.dita_doc.specs.ClassValue.{value_of}
use Rattle.dita_doc.specs.declared.doc.Attribute.{Attribute}
use Rattle.doc_maker.specs.Building.{Building, Top, Within, behind, closed, filled}
use Rattle.map_spec.specs.Written.{Element, Written, End, Chars, Node, side_by_side}
use Rattle.readers.specs.Founded.{AreAllowed, Grows, is_allowed}
use Rattle.readers.specs.Named.{link_names, linked_in, name_joined}
use Rattle.readers.specs.Told.{Told}
use Rattle.readers.proofs.AmongLaws.{among_either}
use Rattle.readers.proofs.GrowthLaws.{are_allowed_before}
use Rattle.conref_targets.specs.Hrefs.{AreNamed, HasNamed, HaveNamed}
use Rattle.conref_pull.specs.PutHrefs.{HaveNamedIn}

-- What is put

module _ (told : List Told) where
  pub beside_named : (nodes more : Written) → HaveNamed told nodes → HaveNamed told more
      → HaveNamed told (side_by_side nodes more)
  beside_named End more first second = second
  beside_named (Chars text doc rest) more first second = beside_named rest more first second
  beside_named (Node element inside rest) more first second =
      (first.0, first.1, beside_named rest more first.2 second)

  pub behind_named : (building : Building) (nodes : Written) → HaveNamedIn told building → HaveNamed told nodes
      → HaveNamedIn told (behind building nodes)
  behind_named (Top content) nodes before more = beside_named content nodes before more
  behind_named (Within outer element content) nodes before more =
      (before.0, before.1, beside_named content nodes before.2 more)

  pub closed_named : (building : Building) → HaveNamedIn told building → HaveNamedIn told (closed building)
  closed_named (Top content) before = before
  closed_named (Within outer element content) before =
      behind_named outer (Node element content End) before.0 (before.1, before.2, tt)

  pub filled_named : (building : Building) (nodes : Written) → HaveNamedIn told building → HaveNamed told nodes
      → HaveNamed told (filled building nodes)
  filled_named (Top content) nodes before more = beside_named content nodes before more
  filled_named (Within outer element content) nodes before more =
      filled_named outer (Node element (side_by_side content nodes) End) before.0
      (before.1, beside_named content nodes before.2 more, tt)

-- What was named stays named as more is told

module _ (old new : List Told) (grows : Grows old new) where
  attributes_later : (doc : List ℕ) (attributes : List Attribute) → AreNamed old doc attributes
      → AreNamed new doc attributes
  attributes_later doc [] named = named
  attributes_later doc (written ∷ attributes) named = (
    λ is. record {
      by = λ roots. are_allowed_before roots old new (option_to_list (name_joined doc written.value)) grows
          ((named.0 is).by roots);
    },
    attributes_later doc attributes named.1,
  )

  pub element_later : (element : Element) → HasNamed old element → HasNamed new element
  element_later element named = attributes_later element.href_doc element.attributes named

  pub nodes_later : (nodes : Written) → HaveNamed old nodes → HaveNamed new nodes
  nodes_later End named = named
  nodes_later (Chars text doc rest) named = nodes_later rest named
  nodes_later (Node element inside rest) named =
      (element_later element named.0, nodes_later inside named.1, nodes_later rest named.2)

  pub building_later : (building : Building) → HaveNamedIn old building → HaveNamedIn new building
  building_later (Top content) named = nodes_later content named
  building_later (Within outer element content) named =
      (building_later outer named.0, element_later element named.1, nodes_later content named.2)

-- What content names whose hrefs are named

module _ (roots : List (List ℕ)) (told : List Told) where
  first_allowed : (doc : List ℕ) (attributes : List Attribute) → AreNamed told doc attributes → AreAllowed roots told
      (option_to_list (option_and_then (name_joined doc) (value_of (codes "href") attributes)))
  first_allowed doc [] named = record { each = λ m among. absurd (false≢true among) }
  first_allowed doc (written ∷ attributes) named =
      by_name (bytes_eq written.name (codes "href")) refl (first_allowed doc attributes named.1)
    where
      by_name : (test : Bool) → bytes_eq written.name (codes "href") ≡ test → AreAllowed roots told
          (option_to_list (option_and_then (name_joined doc) (value_of (codes "href") attributes)))
          → AreAllowed roots told
          (option_to_list (option_and_then (name_joined doc) (value_of (codes "href") (written ∷ attributes))))
      by_name true is more = rw is ((named.0 is).by roots)
      by_name false is more = rw is more

  pub linked_allowed : (nodes : Written) → HaveNamed told nodes → AreAllowed roots told (linked_in nodes)
  linked_allowed End named = record { each = λ m among. absurd (false≢true among) }
  linked_allowed (Chars text doc rest) named = linked_allowed rest named
  linked_allowed (Node element inside rest) named = record {
    each = λ m among.
        among_either (link_names element) (linked_in inside ++ linked_in rest) m (IsTrue (is_allowed roots told m))
        ((first_allowed element.href_doc element.attributes named.0).each m)
        (among_either (linked_in inside) (linked_in rest) m (IsTrue (is_allowed roots told m))
        ((linked_allowed inside named.1).each m) ((linked_allowed rest named.2).each m)) among;
  }
