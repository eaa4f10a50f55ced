-- What content references in parts of a document name, those of the document name.
use Rattle.std.specs.Prelude.{◌≡◌, ◌++◌, ℕ, zero, suc, List, [], Some, IsTrue}
use Rattle.std.proofs.Common.{subst}
use Rattle.std.proofs.lemmas.Bool.{false≢true}
use Rattle.dita_doc.specs.Siblings.{content_from, content_at, first_element, content_behind}
use Rattle.dita_doc.specs.Tree.{Content, End, Chars, Element}
use Rattle.dita_doc.specs.declared.doc.Attribute.{Attribute}
use Rattle.map_spec.specs.Written as written
use Rattle.readers.specs.Founded.{is_among}
use Rattle.readers.specs.Named.{name_at, under_names, reused_by, reused_in}
use Rattle.readers.proofs.AmongLaws.{among_back, among_either, among_front}

module _ (names : List (List ℕ)) where
  abbrev label : List ℕ → List Attribute → ℕ → ℕ → written.Element
  label name attributes origin line = record {
    name = name;
    attributes = attributes;
    doc = name_at names origin;
    line = line;
    href_doc = name_at names origin;
  }

  joined_reused : (a b : Content) (m : List ℕ)
      → IsTrue (is_among (reused_in (under_names names (content_behind a b))) m)
      → IsTrue (is_among (reused_in (under_names names a) ++ reused_in (under_names names b)) m)
  joined_reused End b m among = among
  joined_reused (Chars text origin line rest) b m among = joined_reused rest b m among
  joined_reused (Element name attributes origin line inside rest) b m among =
      let first = reused_by (label name attributes origin line) in
      let held = reused_in (under_names names inside) in
      let later = reused_in (under_names names rest) in
      let last = reused_in (under_names names b) in
      let P = IsTrue (is_among ((first ++ (held ++ later)) ++ last) m) in
      among_either first (held ++ reused_in (under_names names (content_behind rest b))) m P
      (λ here. among_front (first ++ (held ++ later)) last m (among_front first (held ++ later) m here))
      (λ there. among_either held (reused_in (under_names names (content_behind rest b))) m P
      (λ here. among_front (first ++ (held ++ later)) last m
      (among_back first (held ++ later) m (among_front held later m here)))
      (λ behind. among_either later last m P
      (λ here. among_front (first ++ (held ++ later)) last m
      (among_back first (held ++ later) m (among_back held later m here)))
      (λ here. among_back (first ++ (held ++ later)) last m here) (joined_reused rest b m behind)) there) among

  from_reused : (n : ℕ) (all : Content) (m : List ℕ)
      → IsTrue (is_among (reused_in (under_names names (content_from n all))) m)
      → IsTrue (is_among (reused_in (under_names names all)) m)
  from_reused zero all m among = among
  from_reused (suc n) End m among = among
  from_reused (suc n) (Chars text origin line rest) m among = from_reused n rest m among
  from_reused (suc n) (Element name attributes origin line inside rest) m among =
      among_back (reused_by (label name attributes origin line)) _ m
      (joined_reused inside rest m (from_reused n (content_behind inside rest) m among))

  first_reused : (all one : Content) (m : List ℕ) → first_element all ≡ Some one
      → IsTrue (is_among (reused_in (under_names names one)) m)
      → IsTrue (is_among (reused_in (under_names names all)) m)
  first_reused End one m is among = cc
  first_reused (Chars text origin line rest) one m is among = cc
  first_reused (Element name attributes origin line inside rest) one m is among =
      let same : one ≡ Element name attributes origin line inside End = cc in
      let first = reused_by (label name attributes origin line) in
      let held = reused_in (under_names names inside) in
      let later = reused_in (under_names names rest) in
      let here : IsTrue (is_among (first ++ (held ++ [])) m) =
      subst (λ (c : Content). IsTrue (is_among (reused_in (under_names names c)) m)) same among in
      among_either first (held ++ []) m (IsTrue (is_among (first ++ (held ++ later)) m))
      (λ h. among_front first (held ++ later) m h)
      (λ there. among_back first (held ++ later) m
      (among_either held [] m (IsTrue (is_among (held ++ later) m)) (λ h. among_front held later m h)
      (λ none. absurd (false≢true none)) there)) here

  -- an element that stands at a place, and what it holds
  pub below_reused : (all : Content) (place : ℕ) (name : List ℕ) (attributes : List Attribute) (origin line : ℕ)
      (inside : Content) (m : List ℕ)
      → content_at all place ≡ Some (Element name attributes origin line inside End)
      → IsTrue (is_among (reused_by (label name attributes origin line) ++ reused_in (under_names names inside)) m)
      → IsTrue (is_among (reused_in (under_names names all)) m)
  below_reused all place name attributes origin line inside m is among =
      let first = reused_by (label name attributes origin line) in
      let held = reused_in (under_names names inside) in
      from_reused place all m
      (first_reused (content_from place all) (Element name attributes origin line inside End) m is
      (among_either first held m (IsTrue (is_among (first ++ (held ++ [])) m))
      (λ h. among_front first (held ++ []) m h) (λ h. among_back first (held ++ []) m (among_front held [] m h)) among))
