-- Documents that were given: answers name what their hrefs do.
use Rattle.std.specs.Prelude.{◌≡◌, ◌++◌, ℕ, true, List, [], ◌∷◌, Option, Some, IsTrue, bytes_eq, codes}
use Rattle.std.specs.Arc.{arc_value}
use Rattle.std.specs.List.{filter_map, list_any}
use Rattle.std.specs.Option.{option_to_list}
use Rattle.std.specs.declared.alloc.Global.{Global}
use Rattle.std.specs.declared.sync.Arc.{Arc}
use Rattle.std.proofs.Common.{refl, ap, subst}
use Rattle.std.proofs.lemmas.Slice.Eq.{bytes_eq-Decides}
use Rattle.dita_doc.specs.Tree.{Content, End, Chars, Element, tree_of}
use Rattle.dita_doc.specs.declared.doc.Attribute.{Attribute}
use Rattle.dita_doc.specs.declared.doc.Doc.{Doc}
use Rattle.readers.specs.Documents.{IsGiven}
use Rattle.readers.specs.Founded.{AreAllowed, is_among}
use Rattle.readers.specs.Named.{name_at, name_joined, name_written, under_names, named_found, named_tree, names_in, references}
use Rattle.readers.specs.Told.{Told}
use Rattle.readers.proofs.AmongLaws.{among_back, among_front}
use Rattle.readers.proofs.FoundedLaws.{cons_behind, cons_first}
use Rattle.readers.proofs.GivenLaws.{given_allowed_all}
use Rattle.conref_targets.specs.Hrefs.{AreNamed, HaveNamed}

module _ (told : List Told) where
  some_allowed : (some all : List (List ℕ)) → ((m : List ℕ) → IsTrue (is_among some m) → IsTrue (is_among all m))
      → ((roots : List (List ℕ)) → AreAllowed roots told all) → (roots : List (List ℕ)) → AreAllowed roots told some
  some_allowed some all among given roots = record { each = λ m here. (given roots).each m (among m here) }

  attributes_named : (doc : List ℕ) (attributes : List Attribute)
      → ((roots : List (List ℕ)) → AreAllowed roots told (filter_map (name_written doc) attributes))
      → AreNamed told doc attributes
  attributes_named doc [] given = tt
  attributes_named doc (written ∷ attributes) given = (
    λ is.
        (let own : list_any (bytes_eq written.name) references ≡ true =
        ap (λ (n : List ℕ). list_any (bytes_eq n) references) ((bytes_eq-Decides written.name (codes "href")).0 is) in
        let same : name_joined doc written.value ≡ name_written doc written = rw own refl in
        record {
          by = some_allowed (option_to_list (name_joined doc written.value)) _
              (λ m here. cons_first (name_written doc written) _ m
              (subst (λ (found : Option (List ℕ)). IsTrue (is_among (option_to_list found) m)) same here)) given;
        }),
    attributes_named doc attributes
        (some_allowed (filter_map (name_written doc) attributes) _
        (λ m here. cons_behind (name_written doc written) _ m here) given),
  )

  nodes_named : (names : List (List ℕ)) (nodes : Content)
      → ((roots : List (List ℕ)) → AreAllowed roots told (names_in (under_names names nodes)))
      → HaveNamed told (under_names names nodes)
  nodes_named names End given = tt
  nodes_named names (Chars text origin line rest) given = nodes_named names rest given
  nodes_named names (Element name attributes origin line inside rest) given =
      let doc = name_at names origin in
      let first = filter_map (name_written doc) attributes in
      let held = names_in (under_names names inside) in
      let later = names_in (under_names names rest) in (
        attributes_named doc attributes
            (some_allowed first _ (λ m here. among_front first (held ++ later) m here) given),
        nodes_named names inside
            (some_allowed held _ (λ m here. among_back first (held ++ later) m (among_front held later m here)) given),
        nodes_named names rest
            (some_allowed later _ (λ m here. among_back first (held ++ later) m (among_back held later m here)) given),
      )

-- a document of which answers name all that its references do
pub doc_named : (told : List Told) (doc : Doc)
    → ((roots : List (List ℕ)) → AreAllowed roots told (names_in (named_tree doc)))
    → HaveNamed told (named_tree doc)
doc_named told doc given = nodes_named told doc.origins (tree_of doc.nodes) given

pub found_named : (told : List Told) (found : Option (Arc Doc Global)) (doc : Arc Doc Global) → found ≡ Some doc
    → IsGiven told (named_found found) → HaveNamed told (named_tree (arc_value doc))
found_named told found doc is given = doc_named told (arc_value doc)
    (λ roots. given_allowed_all roots told (Some (named_tree (arc_value doc)))
    (subst (λ (f : Option (Arc Doc Global)). IsGiven told (named_found f)) is given))
