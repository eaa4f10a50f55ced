-- Documents that are kept while readers come and go: what is told again fixes such a document, so that it is that of each
-- world that agrees.
use Rattle.std.specs.Prelude.{◌≡◌, ℕ, false, List, [], Option, IsTrue, option_map}
use Rattle.std.specs.declared.alloc.Global.{Global}
use Rattle.std.specs.declared.sync.Arc.{Arc}
use Rattle.std.proofs.Common.{refl, sym, ap, subst, ◌∙◌}
use Rattle.std.proofs.lemmas.Bool.{false≢true}
use Rattle.conref_push.specs.Into.{pushed_by}
use Rattle.conref_push.proofs.DocLaws.{IsPut, known_none, known_put}
use Rattle.conref_push.proofs.UntouchedLaws.{pushed_as}
use Rattle.dita_doc.specs.declared.content.PushList.{PushList}
use Rattle.dita_doc.specs.declared.doc.Doc.{Doc}
use Rattle.map_spec.specs.Written.{Written}
use Rattle.map_spec.specs.Pushes.{pushed, pushes_into}
use Rattle.pushed_docs.specs.Made.{AreKept, IsKept, is_without_conaction}
use Rattle.pushed_docs.specs.declared.docs.PushedDocs.{PushedDocs}
use Rattle.pushed_docs.proofs.MadeLaws.{touched_known}
use Rattle.reader_spec.specs.World.{World}
use Rattle.readers.specs.Documents.{IsGiven}
use Rattle.readers.specs.Named.{named_tree}
use Rattle.readers.specs.Setting.{Stand}
use Rattle.readers.specs.Told.{Told, doc_of}

pub kept_shared : (world : World) (documents : List (List ℕ)) (name : List ℕ) (found copy : Option (Arc Doc Global))
    → doc_of copy ≡ doc_of found → IsKept world documents name found → IsKept world documents name copy
kept_shared world documents name found copy same is = ap (option_map named_tree) same ∙ is

pub kept_made : (world : World) (documents documents' : List (List ℕ)) (name : List ℕ)
    (found copy : Option (Arc Doc Global)) → documents' ≡ documents → doc_of copy ≡ doc_of found
    → IsKept world documents name found → IsKept world documents' name copy
kept_made world documents documents' name found copy plan same is =
    subst (λ ds. IsKept world ds name copy) (sym plan) (kept_shared world documents name found copy same is)

-- the reader below still stands on the same world
pub kept_still : (old new : Stand) (documents : List (List ℕ)) (docs : PushedDocs) → new ≡ old
    → AreKept old.world documents docs → AreKept new.world documents docs
kept_still old new documents docs same = subst (λ (s : Stand). AreKept s.world documents docs) (sym same)

-- What is kept

module _ (world : World) (documents : List (List ℕ)) where
  -- nothing is kept yet
  pub kept_none : (docs : PushedDocs) → docs.docs.entries ≡ [] → docs.quiet.keys ≡ [] → AreKept world documents docs
  kept_none docs made quiet = record {
    made = known_none (IsKept world documents) docs.docs made;
    quiet = λ name is.
        let none : is_without_conaction docs.quiet name ≡ false = rw quiet refl in absurd (false≢true (sym none ∙ is));
  }

  -- one more document is kept
  pub kept_put : (old new : PushedDocs) (name key : List ℕ) (found : Option (Arc Doc Global))
      → IsPut old.docs new.docs key found → new.quiet ≡ old.quiet → key ≡ name → IsKept world documents name found
      → AreKept world documents old → AreKept world documents new
  kept_put old new name key found put still same is kept = record {
    made = known_put (IsKept world documents) old.docs new.docs name key found put same is kept.made;
    quiet = λ other there. kept.quiet other (subst (λ names. IsTrue (is_without_conaction names other)) still there);
  }

module _ (own : World) (documents : List (List ℕ)) (name : List ℕ) (list : PushList) (named : Option Written) where
  kept_by : pushes_into own documents name ≡ list → named ≡ pushed own documents name
      → named ≡ pushed_by own list.pushes name
  kept_by told is = is ∙ sym (pushed_as own documents name list.pushes (ap (λ (l : PushList). l.pushes) told))

  pub kept_known : (world : World) → pushes_into own documents name ≡ list → pushes_into world documents name ≡ list
      → pushed_by own list.pushes name ≡ pushed_by world list.pushes name → named ≡ pushed own documents name
      → named ≡ pushed world documents name
  kept_known world own_told told fixed is =
      touched_known world documents name list named told (kept_by own_told is ∙ fixed)

  pub kept_given : (ts : List Told) → pushes_into own documents name ≡ list → named ≡ pushed own documents name
      → IsGiven ts (pushed_by own list.pushes name) → IsGiven ts named
  kept_given ts own_told is = subst (IsGiven ts) (sym (kept_by own_told is))
