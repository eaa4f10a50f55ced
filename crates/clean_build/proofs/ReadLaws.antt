-- Which documents are read by calls one after another.
use Rattle.std.specs.Prelude.{◌≡◌, ◌++◌, ℕ, List, [], ◌∷◌, IsTrue, OnOk, Result, Ok, Err, bytes_eq}
use Rattle.std.specs.List.{AllByRecursion}
use Rattle.std.proofs.Common.{sym, subst, inl}
use Rattle.std.proofs.Math.Logic.{∥∥₁_elim, ⊎_elim}
use Rattle.std.proofs.lemmas.Bool.{false≢true, or_cases}
use Rattle.std.proofs.lemmas.List.Elements.{recursion_from_All}
use Rattle.std.proofs.lemmas.Slice.Eq.{bytes_eq-Decides}
use Rattle.conref_spec.specs.PageDocuments.{own}
use Rattle.conref_targets.specs.PageAsking.{AsksPage, IsAbout, MayRead, PageAt}
use Rattle.readers.specs.Documents.{AreOnly, AsksOnly, documents_asked, is_sought, nothing}
use Rattle.readers.specs.Founded.{is_among}
use Rattle.readers.specs.Told.{Told, document, kind, title, first, key, pushes, page_of, pending, pending_document}
use Rattle.readers.proofs.FoundedLaws.{among_behind, among_first}
use Rattle.clean_build.specs.Reads.{AllRead, ReadsOnly}

module _ (may : List ℕ → Type 0) where
  pub reads_same : (old new : List Told) → new ≡ old → ReadsOnly may old new
  reads_same old new is = record { each = λ read. ∣ subst (AllRead may) (sym is) read ∣₁ }

  pub reads_after : (a b c : List Told) → ReadsOnly may a b → ReadsOnly may b c → ReadsOnly may a c
  reads_after a b c before next = record {
    each = λ read. ∥∥₁_elim (before.each read) (hlevel) (λ then. next.each then);
  }

  pub reads_then : {A E : Type 0} (r : Result A E) (a b c : List Told) → ReadsOnly may a b → OnOk r (ReadsOnly may b c)
      → OnOk r (ReadsOnly may a c)
  reads_then (Ok x) a b c before next = reads_after a b c before next
  reads_then (Err e) a b c before next = tt

  pub reads_held : {A E : Type 0} (r : Result A E) (old new : List Told) → ReadsOnly may old new
      → OnOk r (ReadsOnly may old new)
  reads_held (Ok x) old new reads = reads
  reads_held (Err e) old new reads = tt

  -- Documents that are named

  pub among_read : (names : List (List ℕ)) → AllByRecursion may names → (m : List ℕ) → IsTrue (is_among names m)
      → may m
  among_read [] read m among = absurd (false≢true among)
  among_read (name ∷ names) read m among = ⊎_elim (λ here. subst may ((bytes_eq-Decides name m).0 here) read.0)
      (λ there. among_read names read.1 m there) (or_cases (bytes_eq name m) (is_among names m) among)

  pub read_each : (names : List (List ℕ)) → ((m : List ℕ) → IsTrue (is_among names m) → may m)
      → AllByRecursion may names
  read_each [] each = tt
  read_each (name ∷ names) each =
      (each name (among_first name names), read_each names (λ m here. each m (among_behind name names m here)))

  -- what was asked for before may be read
  sought_read : (names : List (List ℕ)) → AllByRecursion may names → (ts : List Told) → AllRead may ts → (m : List ℕ)
      → IsTrue (is_sought nothing names ts m) → may m
  sought_read names given [] read m sought = among_read names given m sought
  sought_read names given (t ∷ ts) read m sought = ⊎_elim (λ asked. among_read (documents_asked t) read.0 m asked)
      (λ older. sought_read names given ts read.1 m older)
      (or_cases (is_among (documents_asked t) m) (is_sought nothing names ts m) sought)

  more_read : (names : List (List ℕ)) → AllByRecursion may names → (more old : List Told) → AllRead may old
      → AreOnly nothing names more old → AllRead may (more ++ old)
  more_read names given [] old read only = read
  more_read names given (t ∷ more) old read only =
      let before = more_read names given more old read only.1 in
      (read_each (documents_asked t) (λ m here. sought_read names given (more ++ old) before m (only.0.each m here)), before)

  -- a call that asks for these documents, from whose answers nothing follows
  pub reads_asked : (names : List (List ℕ)) (old new : List Told) → AllByRecursion may names
      → AsksOnly nothing names old new → ReadsOnly may old new
  reads_asked names old new given asks = record {
    each = λ read. ∥∥₁_elim asks.is (hlevel)
        (λ p. ∣ subst (AllRead may) (sym p.1) (more_read names given p.0 old read p.2) ∣₁);
  }

  -- a call that asks for no document
  pub reads_none : (old new : List Told) → AsksOnly nothing [] old new → ReadsOnly may old new
  reads_none old new asks = reads_asked [] old new tt asks

-- What is read for the content of a page

module _ (page : PageAt) where
  about_read : (t : Told) → IsAbout page t → AllByRecursion (MayRead page) (documents_asked t)
  about_read (document name tree) about = (about, tt)
  about_read (kind name answer) about = tt
  about_read (title name topic text) about = tt
  about_read (first name id) about = tt
  about_read (key nodes scope text answer) about = tt
  about_read (pushes documents name answer) about = tt
  about_read (page_of pages name context answer) about = tt
  about_read (pending names) about = tt
  about_read (pending_document name) about = (about, tt)

  all_about : (more old : List Told) → AllByRecursion (IsAbout page) more → AllRead (MayRead page) old
      → AllRead (MayRead page) (more ++ old)
  all_about [] old about read = read
  all_about (t ∷ more) old about read = (about_read t about.0, all_about more old about.1 read)

  pub reads_page : (old new : List Told) → AsksPage page old new → ReadsOnly (MayRead page) old new
  reads_page old new asks = record {
    each = λ read. ∥∥₁_elim asks.is (hlevel) (λ p. ∣ subst (AllRead (MayRead page)) (sym p.1.0)
        (all_about p.0 old (recursion_from_All (IsAbout page) p.0 p.1.1) read) ∣₁);
  }

  -- the document of the page
  pub reads_own : (old new : List Told) → AsksOnly nothing (page.id.doc ∷ []) old new
      → ReadsOnly (MayRead page) old new
  reads_own old new asks = reads_asked (MayRead page) (page.id.doc ∷ []) old new (inl own, tt) asks
