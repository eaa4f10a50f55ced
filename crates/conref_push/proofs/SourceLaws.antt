-- The documents that pushes come from.
use Rattle.std.specs.Prelude.{◌≡◌, ◌+◌, ◌<◌, ◌≤◌, ℕ, zero, suc, List, [], ◌∷◌, ◌++◌, Option, Some, None, IsTrue, bytes_eq, is_some, length, option_map, take}
use Rattle.std.specs.BTreeMap as tree
use Rattle.std.specs.Cmp.Lexicographic.{slice_cmp}
use Rattle.std.specs.Option.{option_and_then}
use Rattle.std.specs.Ordering.{nat_cmp}
use Rattle.std.specs.declared.alloc.Global.{Global}
use Rattle.std.specs.declared.sync.Arc.{Arc}
use Rattle.std.proofs.Common.{sym, ap, subst, ◌∙◌, arith, get_or}
use Rattle.std.proofs.lemmas.List.{map-append, take_all}
use Rattle.std.proofs.Math.Logic.{⊎_elim}
use Rattle.std.proofs.lemmas.Bool.{false≢true, or_cases}
use Rattle.dita_doc.specs.Tree.{Content}
use Rattle.dita_doc.specs.declared.content.Push.{Push}
use Rattle.dita_doc.specs.declared.doc.Doc.{Doc}
use Rattle.dita_doc.proofs.Tests.{same_text}
use Rattle.map_spec.specs.Written.{Whole, element_at, element_in, written_in}
use Rattle.reader_spec.specs.World.{World}
use Rattle.plan_nodes.proofs.HomeLaws.{push_of}
use Rattle.readers.specs.Documents.{AsksOnly, nothing}
use Rattle.readers.specs.Founded.{Grows, StaysFounded, is_among}
use Rattle.readers.specs.Only.{TellsOnly, is_document_of}
use Rattle.readers.specs.Told.{Told, document, tree_found}
use Rattle.readers.proofs.DocumentLaws.{asks_after, asks_among, asks_one, covers_same}
use Rattle.readers.proofs.FoundedLaws.{among_behind, among_first, stays_after, stays_among, stays_one}
use Rattle.readers.proofs.OnlyLaws.{document_is_of, documents_among, only_after, only_one, only_told, only_weaker}
use Rattle.conref_push.specs.Into.{docs_of, froms}
use Rattle.conref_push.specs.Sources.{AreSources, IsSource}
use Rattle.conref_push.specs.declared.sources.PushSources.{PushSources}
use Rattle.conref_push.proofs.AmongLaws.{among_push}
use Rattle.conref_push.proofs.DocLaws.{IsPut, known_none, known_put, put_here, put_there}

pub sources_none : (world : World) (sources : PushSources) → sources.docs.entries ≡ [] → AreSources world [] sources
sources_none world sources none = record {
  known = known_none (IsSource world) sources.docs none;
  each = λ m among. absurd (false≢true among);
}

-- one name more, which is there
pub sources_more : (world : World) (names : List (List ℕ)) (name : List ℕ) (sources : PushSources)
    → AreSources world names sources → IsTrue (is_some (tree.get (slice_cmp nat_cmp) sources.docs name))
    → AreSources world (names ++ name ∷ []) sources
sources_more world names name sources are there = record {
  known = are.known;
  each = λ m among. ⊎_elim (are.each m)
      (λ same. subst (λ n. IsTrue (is_some (tree.get (slice_cmp nat_cmp) sources.docs n))) (same_text name m same)
      there)
      (or_cases (is_among names m) (bytes_eq name m) (subst IsTrue (among_push names name m) among));
}

-- one name more, which was asked for
pub sources_put : (world : World) (names : List (List ℕ)) (name key : List ℕ) (found : Option (Arc Doc Global))
    (old new : PushSources) → IsPut old.docs new.docs key found → key ≡ name → world name ≡ tree_found found
    → AreSources world names old → AreSources world (names ++ name ∷ []) new
sources_put world names name key found old new put same here are =
    sources_more world names name new (record {
      known = known_put (IsSource world) old.docs new.docs name key found put same here are.known;
      each = λ m among. put_there old.docs new.docs key found m put (are.each m among);
    })
    (subst (λ n. IsTrue (is_some (tree.get (slice_cmp nat_cmp) new.docs n))) same
    (put_here old.docs new.docs key found put))

pub source_found : (world : World) (names : List (List ℕ)) (name : List ℕ) (sources : PushSources)
    (found : Option (Arc Doc Global)) → Some found ≡ tree.get (slice_cmp nat_cmp) sources.docs name
    → AreSources world names sources → tree_found found ≡ world name
source_found world names name sources found is are = sym (are.known name found (sym is))

pub source_missing : (world : World) (names : List (List ℕ)) (name : List ℕ) (sources : PushSources)
    → None ≡ tree.get (slice_cmp nat_cmp) sources.docs name → AreSources world names sources
    → IsTrue (is_among names name) → ⊥
source_missing world names name sources none are among =
    false≢true (ap is_some none ∙ are.each name among)

-- no element stands in a document that is not stored
pub no_source : (world : World) (name : List ℕ) (place : ℕ) → None ≡ world name
    → None ≡ element_in world name place
no_source world name place none =
    ap (λ (t : Option Content). option_and_then (λ nodes. element_at nodes place) (option_map (written_in name) t))
    none

pub source_element : (world : World) (name : List ℕ) (place : ℕ) (tree : Content) (found : Option Whole)
    → Some tree ≡ world name → found ≡ element_at (written_in name tree) place → found ≡ element_in world name place
source_element world name place tree found is at = at
    ∙ ap (λ (t : Option Content). option_and_then (λ nodes. element_at nodes place) (option_map (written_in name) t)) is

-- A push more

pub sources_step : (world : World) (pushes : List Push) (at : ℕ) (one : Push) (sources : PushSources)
    → at < length pushes → one ≡ get_or pushes at one
    → AreSources world (froms (take at pushes) ++ one.from ∷ []) sources
    → AreSources world (froms (take (at + 1) pushes)) sources
sources_step world pushes at one sources within is = subst (λ names. AreSources world names sources)
    (sym (ap froms (push_of pushes at one within is)
    ∙ map-append (λ (push : Push). push.from) (take at pushes) (one ∷ [])))

pub sources_all : (world : World) (pushes : List Push) (at : ℕ) (sources : PushSources) → length pushes ≤ at
    → AreSources world (froms (take at pushes)) sources → AreSources world (froms pushes) sources
sources_all world pushes at sources past =
    subst (λ some. AreSources world (froms some) sources) (take_all at pushes past)

pub from_among : (pushes : List Push) (at : ℕ) (one : Push) → at < length pushes → one ≡ get_or pushes at one
    → IsTrue (is_among (froms pushes) one.from)
from_among [] at one within is = absurd (omega arith)
from_among (push ∷ pushes) zero one within is = subst (λ (p : Push). IsTrue (is_among (froms (push ∷ pushes)) p.from))
    (sym is) (among_first push.from (froms pushes))
from_among (push ∷ pushes) (suc at) one within is =
    among_behind push.from (froms pushes) one.from (from_among pushes at one (omega arith) is)

-- The document, and those that pushes come from

pub stays_docs : (name : List ℕ) (pushes : List Push) (a b c : List Told) → Grows a b → StaysFounded (name ∷ []) a b
    → StaysFounded (froms pushes) b c → StaysFounded (docs_of name pushes) a c
stays_docs name pushes a b c grows first next = stays_after (docs_of name pushes) a b c grows
    (stays_one name (docs_of name pushes) a b (among_first name (froms pushes)) first)
    (stays_among (froms pushes) (docs_of name pushes) b c (among_behind name (froms pushes)) next)

pub asks_docs : (name : List ℕ) (pushes : List Push) (a b c : List Told) → Grows a b
    → AsksOnly nothing (name ∷ []) a b → AsksOnly nothing (froms pushes) b c
    → AsksOnly nothing (docs_of name pushes) a c
asks_docs name pushes a b c grows first next = asks_after nothing (docs_of name pushes) a b c grows
    (asks_one nothing name (docs_of name pushes) a b (among_first name (froms pushes)) first)
    (asks_among nothing nothing (froms pushes) (docs_of name pushes) b c (covers_same nothing)
    (among_behind name (froms pushes)) next)

-- those of pushes that are the same
pub same_stays : (name : List ℕ) (some pushes : List Push) (old new : List Told) → some ≡ pushes
    → StaysFounded (docs_of name some) old new → StaysFounded (docs_of name pushes) old new
same_stays name some pushes old new same = subst (λ all. StaysFounded (docs_of name all) old new) same

pub same_asks : (name : List ℕ) (some pushes : List Push) (old new : List Told) → some ≡ pushes
    → AsksOnly nothing (docs_of name some) old new → AsksOnly nothing (docs_of name pushes) old new
same_asks name some pushes old new same = subst (λ all. AsksOnly nothing (docs_of name all) old new) same

pub only_docs : (name : List ℕ) (pushes : List Push) (a b c : List Told) → TellsOnly (is_document_of (name ∷ [])) a b
    → TellsOnly (is_document_of (froms pushes)) b c → TellsOnly (is_document_of (docs_of name pushes)) a c
only_docs name pushes a b c first next = only_after (is_document_of (docs_of name pushes)) a b c
    (only_one name (docs_of name pushes) a b (among_first name (froms pushes)) first)
    (only_weaker (is_document_of (froms pushes)) (is_document_of (docs_of name pushes)) b c
    (documents_among (froms pushes) (docs_of name pushes) (among_behind name (froms pushes))) next)

-- one document was asked for
pub only_doc : (name : List ℕ) (tree : Option Content) (old new : List Told) → new ≡ document name tree ∷ old
    → TellsOnly (is_document_of (name ∷ [])) old new
only_doc name tree old new = only_told _ (document name tree) old new (document_is_of name tree)
