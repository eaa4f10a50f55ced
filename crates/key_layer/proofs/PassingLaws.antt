-- What a reader that passes its questions on asks for, call by call.
use Rattle.std.proofs.Common.{◌≡◌, ℕ, List, [], ◌∷◌, ◌⊎◌, IsTrue, drop, sym, ap, subst, ◌∙◌}
use Rattle.std.proofs.Math.Logic.{⊎_elim}
use Rattle.std.proofs.lemmas.Bool.{false≢true, or_cases, or_left, or_right}
use Rattle.readers.specs.Documents.{AsksOnly, Follows, MayAsk, documents_asked, may_ask, nothing}
use Rattle.readers.specs.Founded.{Grows, is_among}
use Rattle.readers.specs.Noted.{told_of, told_onto}
use Rattle.readers.specs.Setting.{Setting}
use Rattle.readers.specs.Told.{Told, pending_document, pending}
use Rattle.readers.specs.declared.questions.Note.{Note}
use Rattle.readers.specs.declared.questions.Note.TheVariants.{PendingDocument}
use Rattle.readers.proofs.DocumentLaws.{asks_by, covers_nothing, may_ask_before, may_behind, none_may}
use Rattle.readers.proofs.LayerLaws.{told_settled}
use Rattle.key_layer.specs.Passing.{FollowsNoKey, PassesOn}

pub passes_same : (ts : List Told) → PassesOn ts ts
passes_same ts = record { may = λ rule roots m plain may. may; asked = λ rule roots plain asked. asked }

-- a question was put, and then the reader below was asked, but for no document
pub passes_tried : (names : List (List ℕ)) (below below' above above' : List Told) → PassesOn below above
    → above' ≡ pending names ∷ above → Grows below below' → AsksOnly nothing [] below below' → PassesOn below' above'
passes_tried names below below' above above' passed put grows asks = subst (PassesOn below') (sym put) (record {
  may = λ rule roots m plain may. may_ask_before rule roots below below' m grows
      (passed.may rule roots m plain (may_behind rule roots (pending names) above m (plain.tried names) may));
  asked = λ rule roots plain a. asks_by nothing [] below below' asks rule roots (covers_nothing rule)
      (none_may rule roots below) (passed.asked rule roots plain a.1);
})

-- a document was sought, and then the reader below was asked for it
pub passes_sought : (name : List ℕ) (below below' above above' : List Told) → PassesOn below above
    → above' ≡ pending_document name ∷ above → Grows below below' → AsksOnly nothing (name ∷ []) below below'
    → PassesOn below' above'
passes_sought name below below' above above' passed put grows asks = subst (PassesOn below') (sym put) (record {
  may = λ rule roots m plain may. may_ask_before rule roots below below' m grows
      (passed.may rule roots m plain (may_behind rule roots (pending_document name) above m (plain.sought name) may));
  asked = λ rule roots plain a. asks_by nothing (name ∷ []) below below' asks rule roots (covers_nothing rule)
      (record { each = λ m among. passed.may rule roots m plain (a.0.each m among) })
      (passed.asked rule roots plain a.1);
})

-- a question that was put gets its answer, from which nothing follows that does not below
pub passes_settled : (t put : Told) (below older above above' : List Told) → PassesOn below above
    → above ≡ put ∷ older → above' ≡ t ∷ older → documents_asked put ≡ documents_asked t
    → ((rule : Follows) (roots : List (List ℕ)) (m : List ℕ) → FollowsNoKey rule → IsTrue (is_among (rule t) m)
    → IsTrue (may_ask rule roots below m))
    → PassesOn below above'
passes_settled t put below older above above' passed was is same follows =
    let before : PassesOn below (put ∷ older) = subst (PassesOn below) was passed in
    subst (PassesOn below) (sym is) (record {
      may = λ rule roots m plain may. ⊎_elim (follows rule roots m plain)
          (λ behind. before.may rule roots m plain (or_right (is_among (rule put) m) _ behind))
          (or_cases (is_among (rule t) m) (may_ask rule roots older m) may);
      asked = λ rule roots plain a. before.asked rule roots plain
          (subst (MayAsk rule roots older) (sym same) a.0, a.1);
    })

-- an answer is told from which nothing follows, and nothing is asked below
pub passes_known : (t : Told) (below above above' : List Told) → PassesOn below above → above' ≡ t ∷ above
    → ((rule : Follows) → FollowsNoKey rule → rule t ≡ []) → PassesOn below above'
passes_known t below above above' passed is none = subst (PassesOn below) (sym is) (record {
  may = λ rule roots m plain may. passed.may rule roots m plain
      (may_behind rule roots t above m (none rule plain) may);
  asked = λ rule roots plain a. passed.asked rule roots plain a.1;
})

-- what the reader below told last follows below
told_below : (t : Told) (before below : List Told) → below ≡ t ∷ before → (rule : Follows) (roots : List (List ℕ))
    (m : List ℕ) → IsTrue (is_among (rule t) m) → IsTrue (may_ask rule roots below m)
told_below t before below told rule roots m among = subst (λ ts. IsTrue (may_ask rule roots ts m)) (sym told)
    (or_left (is_among (rule t) m) (may_ask rule roots before m) among)

-- the same of the notes in which a reader keeps its questions
module _ (setting : Setting) (start : List Told) where
  pub note_tried : (put : Note) (names : List (List ℕ)) (below below' : List Told) (notes notes' : List Note)
      → PassesOn below (told_onto setting start notes) → told_of setting put ≡ pending names → notes' ≡ put ∷ notes
      → Grows below below' → AsksOnly nothing [] below below' → PassesOn below' (told_onto setting start notes')
  note_tried put names below below' notes notes' passed about is =
      passes_tried names below below' (told_onto setting start notes) _ passed
      (ap (told_onto setting start) is ∙ ap (λ t. t ∷ told_onto setting start notes) about)

  pub note_sought : (name sought_name : List ℕ) (below below' : List Told) (notes notes' : List Note)
      → PassesOn below (told_onto setting start notes) → sought_name ≡ name
      → notes' ≡ PendingDocument sought_name ∷ notes
      → Grows below below' → AsksOnly nothing (name ∷ []) below below'
      → PassesOn below' (told_onto setting start notes')
  note_sought name sought_name below below' notes notes' passed same is =
      passes_sought name below below' (told_onto setting start notes) _ passed
      (ap (told_onto setting start) is ∙ ap (λ n. pending_document n ∷ told_onto setting start notes) same)

  -- a question gets the answer that the reader below told last
  pub note_passed : (t : Told) (put note : Note) (before below : List Told) (older notes notes' : List Note)
      → PassesOn below (told_onto setting start notes) → notes ≡ put ∷ older
      → documents_asked (told_of setting put) ≡ documents_asked t → told_of setting note ≡ t
      → notes' ≡ note ∷ drop 1 notes → below ≡ t ∷ before → PassesOn below (told_onto setting start notes')
  note_passed t put note before below older notes notes' passed was same tells is told =
      passes_settled t (told_of setting put) below (told_onto setting start older) _ _ passed
      (ap (told_onto setting start) was) (told_settled setting start t put note older notes notes' tells was is) same
      (λ rule roots m plain among. told_below t before below told rule roots m among)

  -- a question gets an answer from which nothing follows
  pub note_plain : (t : Told) (put note : Note) (below : List Told) (older notes notes' : List Note)
      → PassesOn below (told_onto setting start notes) → notes ≡ put ∷ older
      → documents_asked (told_of setting put) ≡ documents_asked t → told_of setting note ≡ t
      → notes' ≡ note ∷ drop 1 notes → ((rule : Follows) → FollowsNoKey rule → rule t ≡ [])
      → PassesOn below (told_onto setting start notes')
  note_plain t put note below older notes notes' passed was same tells is none =
      passes_settled t (told_of setting put) below (told_onto setting start older) _ _ passed
      (ap (told_onto setting start) was) (told_settled setting start t put note older notes notes' tells was is) same
      (λ rule roots m plain among. absurd (false≢true
      (subst (λ names. IsTrue (is_among names m)) (none rule plain) among)))

  -- an answer from which nothing follows is told, if there is memory
  pub note_remembered : (t : Told) (note : Note) (below : List Told) (notes notes' : List Note)
      → PassesOn below (told_onto setting start notes) → told_of setting note ≡ t
      → (notes' ≡ notes) ⊎ (notes' ≡ note ∷ notes) → ((rule : Follows) → FollowsNoKey rule → rule t ≡ [])
      → PassesOn below (told_onto setting start notes')
  note_remembered t note below notes notes' passed tells either none = ⊎_elim
      (λ same. subst (λ ns. PassesOn below (told_onto setting start ns)) (sym same) passed)
      (λ is. passes_known t below (told_onto setting start notes) _ passed
      (ap (told_onto setting start) is ∙ ap (λ t. t ∷ told_onto setting start notes) tells) none) either
