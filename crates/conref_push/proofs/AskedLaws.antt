-- What is known of a document with its pushes once it was asked for, and those that the pushes come from.
use Rattle.std.specs.Prelude.{◌≡◌, ℕ, List, [], ◌∷◌, Option, Some, None, IsTrue, is_some, option_map}
use Rattle.std.specs.BTreeMap as tree
use Rattle.std.specs.Cmp.Lexicographic.{slice_cmp}
use Rattle.std.specs.Ordering.{nat_cmp}
use Rattle.std.specs.declared.alloc.Global.{Global}
use Rattle.std.specs.declared.sync.Arc.{Arc}
use Rattle.std.proofs.Common.{refl, sym, ap, subst, ◌∙◌}
use Rattle.std.proofs.lemmas.Bool.{false≢true}
use Rattle.dita_doc.specs.Tree.{Content}
use Rattle.dita_doc.specs.declared.content.Push.{Push}
use Rattle.dita_doc.specs.declared.doc.Doc.{Doc}
use Rattle.map_spec.specs.Written.{Written, document, written_in}
use Rattle.map_spec.specs.Pushes.{pushed_from}
use Rattle.reader_spec.specs.World.{World}
use Rattle.readers.specs.Documents.{IsGiven, may_ask, of_documents}
use Rattle.readers.specs.Founded.{Grows, is_among}
use Rattle.readers.specs.Named.{names_of_element, reused_by}
use Rattle.readers.specs.Told.{Told, tree_found}
use Rattle.readers.specs.Told as told
use Rattle.readers.proofs.GivenLaws.{given_later, none_given, told_given}
use Rattle.conref_push.specs.Into.{froms, pushed_by}
use Rattle.conref_push.specs.Making.{AreAsked, GivesAsked}
use Rattle.conref_push.specs.Sources.{AreGiven, AreSources, IsGivenAs}
use Rattle.conref_push.specs.declared.sources.PushSources.{PushSources}
use Rattle.conref_push.proofs.DocLaws.{IsPut, known_none, known_put}
use Rattle.conref_push.proofs.GivenLaws.{pushed_names, pushed_reused}
use Rattle.conref_push.proofs.SameLaws.{same_by_pushes}

-- What documents that were told give

-- of one that was found so

pub given_asked : (old middle new : List Told) (name : List ℕ) (found other : Option (Arc Doc Global))
    → middle ≡ told.document name (tree_found found) ∷ old → found ≡ other → Grows middle new
    → IsGivenAs new name other
given_asked old middle new name found other is same grows =
    given_later middle new (option_map (written_in name) (tree_found other)) grows
    (subst (IsGivenAs middle name) same (told_given name (tree_found found) old middle is))

pub given_none : (ts : List Told) (sources : PushSources) → sources.docs.entries ≡ [] → AreGiven ts sources
given_none ts sources none = known_none (IsGivenAs ts) sources.docs none

pub given_grown : (old new : List Told) (sources : PushSources) → Grows old new → AreGiven old sources
    → AreGiven new sources
given_grown old new sources grows are = λ name found is.
    given_later old new (option_map (written_in name) (tree_found found)) grows (are name found is)

-- one document more was asked for
pub given_put : (old new : List Told) (name key : List ℕ) (found : Option (Arc Doc Global))
    (before after : PushSources) → IsPut before.docs after.docs key found → key ≡ name → Grows old new
    → new ≡ told.document name (tree_found found) ∷ old → AreGiven old before → AreGiven new after
given_put old new name key found before after put same grows is are =
    known_put (IsGivenAs new) before.docs after.docs name key found put same
    (told_given name (tree_found found) old new is) (given_grown old new before grows are)

-- The documents that pushes come from

abbrev found_for : PushSources → List ℕ → Option (Option (Arc Doc Global))
found_for sources name = tree.get (slice_cmp nat_cmp) sources.docs name

from_given : (world : World) (names : List (List ℕ)) (ts : List Told) (sources : PushSources) (name : List ℕ)
    → AreSources world names sources → AreGiven ts sources → IsTrue (is_among names name)
    → IsGiven ts (document world name)
from_given world names ts sources name are given among =
    by_found (found_for sources name) refl (are.each name among)
  where
    by_found : (found : Option (Option (Arc Doc Global))) → found_for sources name ≡ found → IsTrue (is_some found)
        → IsGiven ts (document world name)
    by_found None is there = absurd (false≢true there)
    by_found (Some doc) is there = subst (λ tree. IsGiven ts (option_map (written_in name) tree))
        (sym (are.known name doc is)) (given name doc is)

from_same : (one other : World) (names : List (List ℕ)) (sources : PushSources) (name : List ℕ)
    → AreSources one names sources → AreSources other names sources → IsTrue (is_among names name)
    → one name ≡ other name
from_same one other names sources name first second among =
    by_found (found_for sources name) refl (first.each name among)
  where
    by_found : (found : Option (Option (Arc Doc Global))) → found_for sources name ≡ found → IsTrue (is_some found)
        → one name ≡ other name
    by_found None is there = absurd (false≢true there)
    by_found (Some doc) is there = first.known name doc is ∙ sym (second.known name doc is)

-- The document with its pushes

abbrev by_tree : World → List Push → List ℕ → Option Content → Option Written
by_tree world pushes name found = option_map (pushed_from world pushes 0) (option_map (written_in name) found)

-- it is the same in all worlds in which this was found
pub asked_same : (one other : World) (name : List ℕ) (pushes : List Push)
    (found : Option (Arc Doc Global × PushSources)) → AreAsked one name pushes found → AreAsked other name pushes found
    → pushed_by one pushes name ≡ pushed_by other pushes name
asked_same one other name pushes None first second =
    ap (by_tree one pushes name) (sym first) ∙ ap (by_tree other pushes name) second
asked_same one other name pushes (Some asked) first second =
    same_by_pushes one other pushes name (sym first.0 ∙ second.0)
    (λ from. from_same one other (froms pushes) asked.1 from first.1 second.1)

-- and documents that were told give what it gives
pub asked_given : (world : World) (ts : List Told) (name : List ℕ) (pushes : List Push)
    (found : Option (Arc Doc Global × PushSources)) → AreAsked world name pushes found → GivesAsked ts name found
    → IsGiven ts (pushed_by world pushes name)
asked_given world ts name pushes None is given =
    subst (λ tree. IsGiven ts (by_tree world pushes name tree)) is (none_given ts)
asked_given world ts name pushes (Some asked) is given =
    let own : IsGiven ts (document world name) =
    subst (λ tree. IsGiven ts (option_map (written_in name) tree)) is.0 given.0 in
    let other : (from : List ℕ) → IsTrue (is_among (froms pushes) from) → IsGiven ts (document world from) =
    λ from among. from_given world (froms pushes) ts asked.1 from is.1 given.1 among in
    record {
      named = record {
        each = pushed_names (λ m. IsTrue (may_ask (of_documents names_of_element) [] ts m)) world pushes name
            own.named.each (λ from among. (other from among).named.each);
      };
      reused = record {
        each = pushed_reused (λ m. IsTrue (may_ask (of_documents reused_by) [] ts m)) world pushes name
            own.reused.each (λ from among. (other from among).reused.each);
      };
    }

-- none stands where none was found, and else the one that was found has what is pushed to it
pub none_asked : (world : World) (name : List ℕ) (pushes : List Push) → None ≡ world name
    → None ≡ pushed_by world pushes name
none_asked world name pushes is = ap (by_tree world pushes name) is

pub some_asked : (world : World) (name : List ℕ) (pushes : List Push) (tree : Content) → Some tree ≡ world name
    → Some (pushed_from world pushes 0 (written_in name tree)) ≡ pushed_by world pushes name
some_asked world name pushes tree is = ap (by_tree world pushes name) is
