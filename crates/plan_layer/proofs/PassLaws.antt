-- Which documents a reader that tells pushes asks for, call by call.
use Rattle.std.proofs.Common.{◌≡◌, ℕ, List, [], ◌∷◌, ◌⊎◌, Option, IsTrue, drop, sym, ap, subst, ◌∙◌}
use Rattle.std.proofs.Math.Logic.{⊎_elim}
use Rattle.std.proofs.lemmas.Bool.{false≢true, or_cases, or_left, or_right}
use Rattle.dita_doc.specs.declared.plan.Context.{Context}
use Rattle.dita_doc.specs.declared.plan.PagePlan.{PagePlan}
use Rattle.plan_layer.specs.Passing.{FollowsPlan, PassesOn}
use Rattle.readers.specs.Documents.{AsksOnly, Follows, MayAsk, documents_asked, may_ask, nothing}
use Rattle.readers.specs.Founded.{Grows, is_among}
use Rattle.readers.specs.Noted.{told_of, told_onto}
use Rattle.readers.specs.Setting.{Setting}
use Rattle.readers.specs.Told.{Told, page_of, pending_document, pending}
use Rattle.readers.specs.declared.questions.Note.{Note}
use Rattle.readers.specs.declared.questions.Note.TheVariants.{PendingDocument}
use Rattle.readers.proofs.DocumentLaws.{asks_by, covers_nothing, may_ask_before, may_behind, none_may, root_may}

module _ (documents : List (List ℕ)) where
  -- a reader begins with what the reader below it was told
  pub passes_start : (ts : List Told) → PassesOn documents ts ts
  passes_start ts =
      record { may = λ rule roots m plan among may. may; asked = λ rule roots plan among asked. asked }

  -- a question was put, and then the reader below was asked, but for no document
  pub passes_tried : (names : List (List ℕ)) (below below' above above' : List Told) → PassesOn documents below above
      → above' ≡ pending names ∷ above → Grows below below' → AsksOnly nothing [] below below'
      → PassesOn documents below' above'
  passes_tried names below below' above above' passed put grows asks = subst (PassesOn documents below') (sym put)
      (record {
        may = λ rule roots m plan among may. may_ask_before rule roots below below' m grows
            (passed.may rule roots m plan among (may_behind rule roots (pending names) above m (plan.tried names) may));
        asked = λ rule roots plan among a. asks_by nothing [] below below' asks rule roots (covers_nothing rule)
            (none_may rule roots below) (passed.asked rule roots plan among a.1);
      })

  -- a document was sought, and then the reader below was asked for it
  pub passes_sought : (name : List ℕ) (below below' above above' : List Told) → PassesOn documents below above
      → above' ≡ pending_document name ∷ above → Grows below below' → AsksOnly nothing (name ∷ []) below below'
      → PassesOn documents below' above'
  passes_sought name below below' above above' passed put grows asks = subst (PassesOn documents below') (sym put)
      (record {
        may = λ rule roots m plan among may. may_ask_before rule roots below below' m grows
            (passed.may rule roots m plan among
            (may_behind rule roots (pending_document name) above m (plan.sought name) may));
        asked = λ rule roots plan among a. asks_by nothing (name ∷ []) below below' asks rule roots (covers_nothing rule)
            (record { each = λ m here. passed.may rule roots m plan among (a.0.each m here) })
            (passed.asked rule roots plan among a.1);
      })

  -- a question that was put gets the answer that the reader below told last
  pub passes_settled : (t put : Told) (before below older above above' : List Told) → PassesOn documents below above
      → above ≡ put ∷ older → above' ≡ t ∷ older → documents_asked put ≡ documents_asked t → below ≡ t ∷ before
      → PassesOn documents below above'
  passes_settled t put before below older above above' passed was is same told =
      let whole : PassesOn documents below (put ∷ older) = subst (PassesOn documents below) was passed in
      subst (PassesOn documents below) (sym is) (record {
        may = λ rule roots m plan among may. ⊎_elim
            (λ here. subst (λ ts. IsTrue (may_ask rule roots ts m)) (sym told)
            (or_left (is_among (rule t) m) (may_ask rule roots before m) here))
            (λ behind. whole.may rule roots m plan among (or_right (is_among (rule put) m) _ behind))
            (or_cases (is_among (rule t) m) (may_ask rule roots older m) may);
        asked = λ rule roots plan among a. whole.asked rule roots plan among
            (subst (MayAsk rule roots older) (sym same) a.0, a.1);
      })

  -- an answer is told from which no more follows than documents of the plan, and nothing is asked below
  pub passes_known : (t : Told) (below above above' : List Told) → PassesOn documents below above → above' ≡ t ∷ above
      → ((rule : Follows) (m : List ℕ) → FollowsPlan rule → IsTrue (is_among (rule t) m)
      → IsTrue (is_among documents m))
      → PassesOn documents below above'
  passes_known t below above above' passed is follows = subst (PassesOn documents below) (sym is) (record {
    may = λ rule roots m plan among may. ⊎_elim
        (λ here. root_may rule roots below m (among.each m (follows rule m plan here)))
        (passed.may rule roots m plan among) (or_cases (is_among (rule t) m) (may_ask rule roots above m) may);
    asked = λ rule roots plan among a. passed.asked rule roots plan among a.1;
  })

-- from a page nothing follows
pub page_follows : (documents : List (List ℕ)) (pages : List PagePlan) (name : List ℕ) (context : Context)
    (answer : Option ℕ) (rule : Follows) (m : List ℕ) → FollowsPlan rule
    → IsTrue (is_among (rule (page_of pages name context answer)) m) → IsTrue (is_among documents m)
page_follows documents pages name context answer rule m plan here =
    absurd (false≢true (subst (λ names. IsTrue (is_among names m)) (plan.pages pages name context answer) here))

-- the same of the notes in which a reader keeps its questions
module _ (documents : List (List ℕ)) (setting : Setting) (start : List Told) where
  pub note_tried : (put : Note) (names : List (List ℕ)) (below below' : List Told) (notes notes' : List Note)
      → PassesOn documents below (told_onto setting start notes) → told_of setting put ≡ pending names
      → notes' ≡ put ∷ notes → Grows below below' → AsksOnly nothing [] below below'
      → PassesOn documents below' (told_onto setting start notes')
  note_tried put names below below' notes notes' passed about is =
      passes_tried documents names below below' (told_onto setting start notes) _ passed
      (ap (told_onto setting start) is ∙ ap (λ t. t ∷ told_onto setting start notes) about)

  pub note_sought : (name sought_name : List ℕ) (below below' : List Told) (notes notes' : List Note)
      → PassesOn documents below (told_onto setting start notes) → sought_name ≡ name
      → notes' ≡ PendingDocument sought_name ∷ notes → Grows below below' → AsksOnly nothing (name ∷ []) below below'
      → PassesOn documents below' (told_onto setting start notes')
  note_sought name sought_name below below' notes notes' passed same is =
      passes_sought documents name below below' (told_onto setting start notes) _ passed
      (ap (told_onto setting start) is ∙ ap (λ n. pending_document n ∷ told_onto setting start notes) same)

  pub note_settled : (t : Told) (put note : Note) (before below : List Told) (older notes notes' : List Note)
      → PassesOn documents below (told_onto setting start notes) → notes ≡ put ∷ older
      → documents_asked (told_of setting put) ≡ documents_asked t → told_of setting note ≡ t
      → notes' ≡ note ∷ drop 1 notes → below ≡ t ∷ before
      → PassesOn documents below (told_onto setting start notes')
  note_settled t put note before below older notes notes' passed was same tells is told =
      passes_settled documents t (told_of setting put) before below (told_onto setting start older) _ _ passed
      (ap (told_onto setting start) was)
      (ap (told_onto setting start) (is ∙ ap (λ ns. note ∷ drop 1 ns) was)
      ∙ ap (λ t. t ∷ told_onto setting start older) tells) same told

  -- an answer that is known is told, if there is memory
  pub note_known : (t : Told) (note : Note) (below : List Told) (notes notes' : List Note)
      → PassesOn documents below (told_onto setting start notes) → told_of setting note ≡ t
      → (notes' ≡ notes) ⊎ (notes' ≡ note ∷ notes)
      → ((rule : Follows) (m : List ℕ) → FollowsPlan rule → IsTrue (is_among (rule t) m)
      → IsTrue (is_among documents m))
      → PassesOn documents below (told_onto setting start notes')
  note_known t note below notes notes' passed tells either follows = ⊎_elim
      (λ same. subst (λ ns. PassesOn documents below (told_onto setting start ns)) (sym same) passed)
      (λ is. passes_known documents t below (told_onto setting start notes) _ passed
      (ap (told_onto setting start) is ∙ ap (λ t. t ∷ told_onto setting start notes) tells) follows) either
