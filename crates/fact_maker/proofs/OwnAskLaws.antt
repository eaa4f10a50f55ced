-- What is said of each question that was told for a part holds of each that is recorded.
use Rattle.std.specs.Prelude.{◌≡◌, ◌++◌, ℕ, Bool, false, zero, suc, List, [], ◌∷◌, Some, IsTrue, reverse, slice_get}
use Rattle.std.specs.List.{AllByRecursion, cons_option, list_all}
use Rattle.std.proofs.Common.{sym, ap, subst, ◌∙◌}
use Rattle.std.proofs.lemmas.Bool.{and_parts, false≢true}
use Rattle.std.proofs.lemmas.List.{reverse-append}
use Rattle.std.proofs.lemmas.List.Elements.{filter_map-append}
use Rattle.dita_doc.specs.declared.content.KeyAnswer.{KeyAnswer}
use Rattle.dita_doc.specs.declared.question.Answered.{Answered}
use Rattle.dita_doc.specs.declared.question.Answered.TheVariants as answers
use Rattle.dita_doc.specs.declared.question.Asked.{Asked}
use Rattle.dita_doc.specs.declared.question.Question.{Question}
use Rattle.dita_doc.specs.declared.question.Question.TheVariants as questions
use Rattle.fact_judge.specs.Asks.{AskNoKey, IsNoKey, document_in, nothing_given, whole_documents}
use Rattle.fact_judge.specs.Order.{InOrder}
use Rattle.readers.proofs.AmongLaws.{among_front}
use Rattle.readers.proofs.FoundedLaws.{among_one}
use Rattle.readers.specs.Documents.{documents_asked}
use Rattle.readers.specs.Founded.{AreAmong, is_among}
use Rattle.readers.specs.Noted.{answered_of, if_answered, told_asked, told_by, told_of, told_onto}
use Rattle.readers.specs.Setting.{Setting}
use Rattle.readers.specs.Told.{Told, key}
use Rattle.readers.specs.declared.questions.Note.{Note}
use Rattle.readers.specs.declared.questions.Note.TheVariants.{Document, Kind, Title, First, Answer, PendingDocument, Pending, PendingKey}
use Rattle.fact_maker.specs.Own.{if_own, own_asked}

-- From notes to questions with their answers

module _ (setting : Setting) (P : Told → Type 0) where
  abbrev Each : List Asked → Type 0
  Each asked = AllByRecursion (λ (one : Asked). P (told_asked setting one)) asked

  each_of : (note : Note) → P (told_of setting note) → Each (answered_of (note ∷ []))
  each_of (Document name found) is = (is, tt)
  each_of (Kind name answer) is = (is, tt)
  each_of (Title name topic text) is = (is, tt)
  each_of (First name id) is = (is, tt)
  each_of (Answer asked) is = (is, tt)
  each_of (Pending name) is = tt
  each_of (PendingDocument name) is = tt
  each_of PendingKey is = tt

  each_both : (some more : List Asked) → Each some → Each more → Each (some ++ more)
  each_both [] more first rest = rest
  each_both (one ∷ some) more first rest = (first.0, each_both some more first.1 rest)

  pub each_answered : (notes : List Note) → AllByRecursion P (told_onto setting [] notes)
      → Each (answered_of (reverse notes))
  each_answered [] all = tt
  each_answered (note ∷ older) all =
      let split : answered_of (reverse (note ∷ older)) ≡ answered_of (reverse older) ++ answered_of (note ∷ []) =
      ap answered_of (reverse-append (note ∷ []) older) ∙ filter_map-append if_answered (reverse older) (note ∷ []) in
      subst Each (sym split) (each_both (answered_of (reverse older)) (answered_of (note ∷ []))
      (each_answered older all.1) (each_of note all.0))

pub all_pass : (test : Told → Bool) (ts : List Told) → IsTrue (list_all test ts)
    → AllByRecursion (λ (t : Told). IsTrue (test t)) ts
all_pass test [] all = tt
all_pass test (t ∷ ts) all =
    let parts = and_parts (test t) (list_all test ts) all in (parts.0, all_pass test ts parts.1)

-- The documents that are recorded

module _ (setting : Setting) (count : ℕ) (may : List ℕ → Type 0) where
  abbrev Reads : Asked → Type 0
  Reads one = AllByRecursion may (documents_asked (told_asked setting one))

  with_document : (question : Question) (answered : Answered) (more : List Asked)
      → AllByRecursion may (documents_asked (told_by setting question answered))
      → AllByRecursion may (whole_documents more)
      → AllByRecursion may
      (whole_documents (cons_option (if_own count (record { question = question; answered = answered })) more))
  with_document (questions.Document name) (answers.Document found) more reads rest = (reads.0, rest)
  with_document (questions.Kind name) (answers.Kind kind) more reads rest = rest
  with_document (questions.Title name topic) (answers.Title text) more reads rest = rest
  with_document (questions.First name) (answers.First id) more reads rest = rest
  with_document (questions.Key scope text) (answers.Key answer) more reads rest = rest
  with_document (questions.Pushes name) (answers.Pushes pushes faults) more reads rest = rest
  with_document question answered more reads rest = rest

  pub own_reads : (asked : List Asked) → AllByRecursion Reads asked
      → AllByRecursion may (whole_documents (own_asked count asked))
  own_reads [] all = tt
  own_reads (one ∷ more) all =
      with_document one.question one.answered (own_asked count more) all.0 (own_reads more all.1)

-- Documents that are known from the start are in order

module _ (start : List (List ℕ)) where
  abbrev Listed : List (List ℕ) → Type 0
  Listed names = AllByRecursion (λ (name : List ℕ). IsTrue (is_among start name)) names

  by_question : (known : List (List ℕ)) → ((m : List ℕ) → IsTrue (is_among start m) → IsTrue (is_among known m))
      → (question : Question) (more : List (List ℕ)) → Listed (document_in question ++ more)
      → AreAmong (document_in question) known × Listed more
  by_question known within (questions.Document name) more all = (
    record { each = λ m here. within m (subst (λ n. IsTrue (is_among start n)) (among_one name m here) all.0) },
    all.1,
  )
  by_question known within question more all = (record { each = λ m here. absurd (false≢true here) }, all)

  pub listed_order : (known : List (List ℕ)) → ((m : List ℕ) → IsTrue (is_among start m) → IsTrue (is_among known m))
      → (asked : List Asked) → Listed (whole_documents asked) → InOrder document_in nothing_given known asked
  listed_order known within [] all = tt
  listed_order known within (one ∷ more) all =
      let both = by_question known within one.question (whole_documents more) all in (
        both.0,
        listed_order (known ++ []) (λ m here. among_front known [] m (within m here)) more both.1,
      )

-- No key is recorded

module _ (setting : Setting) (count : ℕ) (test : Told → Bool)
    (none : (scope : ℕ) (text : List ℕ) (answer : KeyAnswer) → test (key setting.nodes scope text answer) ≡ false) where
  abbrev Passes : Asked → Type 0
  Passes one = IsTrue (test (told_asked setting one))

  abbrev NoKeys : List Asked → Type 0
  NoKeys asked = AllByRecursion (λ (one : Asked). IsNoKey one.question) asked

  with_no_key : (question : Question) (answered : Answered) (more : List Asked)
      → IsTrue (test (told_by setting question answered)) → NoKeys more
      → NoKeys (cons_option (if_own count (record { question = question; answered = answered })) more)
  with_no_key (questions.Document name) (answers.Document found) more is rest = (tt, rest)
  with_no_key (questions.Kind name) (answers.Kind kind) more is rest = (tt, rest)
  with_no_key (questions.Title name topic) (answers.Title text) more is rest = (tt, rest)
  with_no_key (questions.First name) (answers.First id) more is rest = (tt, rest)
  with_no_key (questions.Key scope text) (answers.Key answer) more is rest =
      absurd (false≢true (sym (none scope text answer) ∙ is))
  with_no_key (questions.Pushes name) (answers.Pushes pushes faults) more is rest = (tt, rest)
  with_no_key question answered more is rest = rest

  no_keys : (asked : List Asked) → AllByRecursion Passes asked → NoKeys (own_asked count asked)
  no_keys [] all = tt
  no_keys (one ∷ more) all =
      with_no_key one.question one.answered (own_asked count more) all.0 (no_keys more all.1)

  at_place : (asked : List Asked) → NoKeys asked → (at : ℕ) (one : Asked) → slice_get asked at ≡ Some one
      → IsNoKey one.question
  at_place [] all zero one is = cc
  at_place [] all (suc at) one is = cc
  at_place (first ∷ more) all zero one is =
      let same : first ≡ one = cc in subst (λ (o : Asked). IsNoKey o.question) same all.0
  at_place (first ∷ more) all (suc at) one is = at_place more all.1 at one is

  pub own_no_key : (asked : List Asked) → AllByRecursion Passes asked → AskNoKey (own_asked count asked)
  own_no_key asked all =
      record { each = λ one stands. at_place (own_asked count asked) (no_keys asked all) stands.0 one stands.1 }
