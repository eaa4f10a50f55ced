-- What documents that were told give: it may be asked about, and what their content references name may be asked for.
use Rattle.std.proofs.Common.{◌≡◌, ◌++◌, ℕ, Bool, List, [], ◌∷◌, IsTrue, false, true, bytes_eq, codes, refl, ap, ◌∙◌}
use Rattle.std.specs.Prelude.{Option, Some, None, option_map, ◌+◌}
use Rattle.std.specs.List.{filter_map, list_any}
use Rattle.std.specs.Option.{option_and_then, option_to_list}
use Rattle.std.proofs.Math.Logic.{⊎_elim}
use Rattle.std.proofs.lemmas.Bool.{false≢true, or_cases, or_left, or_right}
use Rattle.std.proofs.lemmas.Slice.Eq.{bytes_eq-Decides}
use Rattle.dita_doc.specs.ClassValue.{value_of}
use Rattle.dita_doc.specs.Tree.{Content, size_of}
use Rattle.dita_doc.specs.declared.doc.Attribute.{Attribute}
use Rattle.map_spec.specs.Written.{Element, Written, End, Chars, Node, written_in, size}
use Rattle.readers.specs.Documents.{Covers, Follows, IsGiven, MayAsk, may_ask, of_documents}
use Rattle.readers.specs.Founded.{AreAllowed, Grows, is_allowed, is_among, names_given}
use Rattle.readers.specs.Named.{name_joined, name_written, under_names, names_in, names_of_element, names_of_found, references, reused_by, reused_in, reused_of_found}
use Rattle.readers.specs.Told.{Told, document, kind, title, first, key, pushes, page_of, pending, pending_document}
use Rattle.readers.proofs.AmongLaws.{among_back, among_either, among_front}
use Rattle.readers.proofs.DocumentLaws.{all_before, covers_same, follows_may, none_may}
use Rattle.readers.proofs.FoundedLaws.{cons_behind, cons_first}
use Rattle.dita_doc.specs.Tree as tree

-- What may be asked for by what documents give

-- by a rule that gives less, without roots, and so by one that gives more, with roots
pub may_by : (rule less : Follows) (roots : List (List ℕ)) (ts : List Told) (m : List ℕ) → Covers rule less
    → IsTrue (may_ask less [] ts m) → IsTrue (may_ask rule roots ts m)
may_by rule less roots [] m covers may = absurd (false≢true may)
may_by rule less roots (t ∷ ts) m covers may = ⊎_elim (λ here. or_left (is_among (rule t) m) _ (covers.each t m here))
    (λ there. or_right (is_among (rule t) m) _ (may_by rule less roots ts m covers there))
    (or_cases (is_among (less t) m) _ may)

-- a name that documents give may be asked about
pub allowed_by : (roots : List (List ℕ)) (ts : List Told) (m : List ℕ)
    → IsTrue (may_ask (of_documents names_of_element) [] ts m) → IsTrue (is_allowed roots ts m)
allowed_by roots [] m may = absurd (false≢true may)
allowed_by roots (t ∷ ts) m may = ⊎_elim (λ here. or_left (is_among (names_given t) m) _ (given t here))
    (λ there. or_right (is_among (names_given t) m) _ (allowed_by roots ts m there))
    (or_cases (is_among (of_documents names_of_element t) m) _ may)
  where
    given : (t : Told) → IsTrue (is_among (of_documents names_of_element t) m) → IsTrue (is_among (names_given t) m)
    given (document name tree) among = among
    given (kind name answer) among = absurd (false≢true among)
    given (title name topic text) among = absurd (false≢true among)
    given (first name id) among = absurd (false≢true among)
    given (key nodes scope text answer) among = absurd (false≢true among)
    given (pushes documents name answer) among = absurd (false≢true among)
    given (page_of pages name context answer) among = absurd (false≢true among)
    given (pending names) among = absurd (false≢true among)
    given (pending_document name) among = absurd (false≢true among)

-- Content of which documents that were told give all

pub given_later : (old new : List Told) (found : Option Written) → Grows old new → IsGiven old found → IsGiven new found
given_later old new found grows given = record {
  named = all_before (of_documents names_of_element) [] old new (names_of_found found) grows given.named;
  reused = all_before (of_documents reused_by) [] old new (reused_of_found found) grows given.reused;
}

pub none_given : (ts : List Told) → IsGiven ts None
none_given ts = record {
  named = none_may (of_documents names_of_element) [] ts;
  reused = none_may (of_documents reused_by) [] ts;
}

-- a document gives what is in it once it was told
pub told_given : (name : List ℕ) (tree : Option Content) (old new : List Told) → new ≡ document name tree ∷ old
    → IsGiven new (option_map (written_in name) tree)
told_given name tree old new is = record {
  named = follows_may (of_documents names_of_element) (of_documents names_of_element) [] (document name tree) old new
      (covers_same (of_documents names_of_element)) is;
  reused = follows_may (of_documents reused_by) (of_documents reused_by) [] (document name tree) old new
      (covers_same (of_documents reused_by)) is;
}

pub given_allowed_all : (roots : List (List ℕ)) (ts : List Told) (found : Option Written) → IsGiven ts found
    → AreAllowed roots ts (names_of_found found)
given_allowed_all roots ts found given =
    record { each = λ m among. allowed_by roots ts m (given.named.each m among) }

pub reused_may : (rule : Follows) (roots : List (List ℕ)) (ts : List Told) (found : Option Written)
    → Covers rule (of_documents reused_by) → IsGiven ts found → MayAsk rule roots ts (reused_of_found found)
reused_may rule roots ts found covers given =
    record { each = λ m among. may_by rule (of_documents reused_by) roots ts m covers (given.reused.each m among) }

-- What content references name is among what references do

-- what the first attribute of a name gives is among what all references do
pub first_among : (name doc : List ℕ) (attributes : List Attribute) (m : List ℕ)
    → list_any (bytes_eq name) references ≡ true
    → IsTrue (is_among (option_to_list (option_and_then (name_joined doc) (value_of name attributes))) m)
    → IsTrue (is_among (filter_map (name_written doc) attributes) m)
first_among name doc [] m is among = absurd (false≢true among)
first_among name doc (written ∷ attributes) m is among =
    by_name (bytes_eq written.name name) refl among (λ more. first_among name doc attributes m is more)
  where
    by_name : (test : Bool) → bytes_eq written.name name ≡ test
        → IsTrue (is_among (option_to_list
        (option_and_then (name_joined doc) (value_of name (written ∷ attributes)))) m)
        → (IsTrue (is_among (option_to_list (option_and_then (name_joined doc) (value_of name attributes))) m)
        → IsTrue (is_among (filter_map (name_written doc) attributes) m))
        → IsTrue (is_among (filter_map (name_written doc) (written ∷ attributes)) m)
    by_name true same here more =
        let own : list_any (bytes_eq written.name) references ≡ true =
        ap (λ (n : List ℕ). list_any (bytes_eq n) references) ((bytes_eq-Decides written.name name).0 same) ∙ is in
        cons_first (name_written doc written) _ m (rw own (rw same at here))
    by_name false same here more = cons_behind (name_written doc written) _ m (more (rw same at here))

reused_named : (element : Element) (m : List ℕ) → IsTrue (is_among (reused_by element) m)
    → IsTrue (is_among (names_of_element element) m)
reused_named element m among = first_among (codes "conref") element.doc element.attributes m refl among

pub reused_named_in : (nodes : Written) (m : List ℕ) → IsTrue (is_among (reused_in nodes) m)
    → IsTrue (is_among (names_in nodes) m)
reused_named_in End m among = among
reused_named_in (Chars text doc rest) m among = reused_named_in rest m among
reused_named_in (Node element inside rest) m among =
    among_either (reused_by element) (reused_in inside ++ reused_in rest) m _
    (λ own. among_front (names_of_element element) _ m (reused_named element m own))
    (λ more. among_either (reused_in inside) (reused_in rest) m _
    (λ below. among_back (names_of_element element) _ m
    (among_front (names_in inside) _ m (reused_named_in inside m below)))
    (λ later. among_back (names_of_element element) _ m
    (among_back (names_in inside) _ m (reused_named_in rest m later))) more)
    among

pub reused_allowed : (roots : List (List ℕ)) (ts : List Told) (found : Option Written) → IsGiven ts found
    → AreAllowed roots ts (reused_of_found found)
reused_allowed roots ts None given = record { each = λ m among. absurd (false≢true among) }
reused_allowed roots ts (Some nodes) given = record {
  each = λ m among. allowed_by roots ts m (given.named.each m (reused_named_in nodes m among));
}

-- what was written in several documents is as large as its content
pub size_named : (names : List (List ℕ)) (c : Content) → size (under_names names c) ≡ size_of c
size_named names tree.End = refl
size_named names (tree.Chars text origin line rest) = ap (λ n. 1 + n) (size_named names rest)
size_named names (tree.Element name attributes origin line inside rest) =
    rw (size_named names inside, size_named names rest) refl
