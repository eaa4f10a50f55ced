-- What goes down from the questions of a reader that tells pushes to the reader below it, call by call.
use Rattle.std.proofs.Common.{◌≡◌, ℕ, List, [], ◌∷◌, ◌⊎◌, drop, sym, ap, subst, ◌∙◌}
use Rattle.std.proofs.Math.Logic.{⊎_elim}
use Rattle.std.proofs.lemmas.Bool.{or_right}
use Rattle.conref_push.specs.Into.{froms}
use Rattle.dita_doc.specs.declared.content.PushList.{PushList}
use Rattle.dita_doc.specs.declared.plan.PlanNode.{PlanNode}
use Rattle.plan_layer.specs.Carried.{CarriesFrom, WereAllowed}
use Rattle.readers.specs.Founded.{AreAllowed, AreAmong, Grows, IsFounded, StaysFounded, homes, is_among, names_asked, names_given}
use Rattle.readers.specs.Noted.{told_of, told_onto}
use Rattle.readers.specs.Setting.{Setting}
use Rattle.readers.specs.Told.{Told, Holds, Knows, pending, pending_document}
use Rattle.readers.specs.declared.questions.Note.{Note}
use Rattle.readers.specs.declared.questions.Note.TheVariants.{PendingDocument, PendingKey}
use Rattle.readers.proofs.FoundedLaws.{given_allowed, stays_by}
use Rattle.readers.proofs.GrowthLaws.{agrees_before, allowed_before, are_allowed_before, founded_before, told_answer}
use Rattle.readers.proofs.LayerLaws.{allowed_with}

-- a reader begins with what the reader below it was told
pub carries_start : (ts : List Told) → CarriesFrom ts ts ts
carries_start ts =
    record { agrees = λ world a. a; allowed = λ roots m base a. a; founded = λ roots base founded. founded }

-- what might be asked about still may
pub were_allowed_later : (old new : List Told) (documents : List (List ℕ)) → Grows old new → WereAllowed old documents
    → WereAllowed new documents
were_allowed_later old new documents grows were = record {
  by = λ roots founded. are_allowed_before roots old new documents grows
      (were.by roots (founded_before roots old new grows founded));
}

-- the documents that pushes come from may be asked about below
pub froms_allowed : (start below : List Told) (documents : List (List ℕ)) (answer : PushList)
    → WereAllowed start documents → Grows start below → AreAmong (froms answer.pushes) documents
    → (roots : List (List ℕ)) → IsFounded roots start → AreAllowed roots below (froms answer.pushes)
froms_allowed start below documents answer were grows among roots base = record {
  each = λ m here. allowed_before roots start below m grows ((were.by roots base).each m (among.each m here));
}

module _ (start : List Told) where
  -- a question was put, and then the reader below was asked about its documents
  pub carries_tried : (names : List (List ℕ)) (below below' above above' : List Told) → CarriesFrom start below above
      → above' ≡ pending names ∷ above → Grows below below' → StaysFounded names below below'
      → CarriesFrom start below' above'
  carries_tried names below below' above above' carried put grows stays =
      subst (CarriesFrom start below') (sym put) (record {
        agrees = λ world a. (tt, carried.agrees world (agrees_before world below below' grows a));
        allowed = λ roots m base a. allowed_before roots below below' m grows (carried.allowed roots m base a);
        founded = λ roots base f. stays_by _ below below' stays roots
            (record { each = λ m among. carried.allowed roots m base (f.0.each m among) })
            (carried.founded roots base f.1);
      })

  -- a document was sought, and then the reader below was asked for it
  pub carries_sought : (name : List ℕ) (below below' above above' : List Told) → CarriesFrom start below above
      → above' ≡ pending_document name ∷ above → Grows below below' → StaysFounded (name ∷ []) below below'
      → CarriesFrom start below' above'
  carries_sought name below below' above above' carried put grows stays =
      subst (CarriesFrom start below') (sym put) (record {
        agrees = λ world a. (tt, carried.agrees world (agrees_before world below below' grows a));
        allowed = λ roots m base a. allowed_before roots below below' m grows (carried.allowed roots m base a);
        founded = λ roots base f. stays_by _ below below' stays roots
            (record { each = λ m among. carried.allowed roots m base (f.0.each m among) })
            (carried.founded roots base f.1);
      })

  -- a question that was put gets the answer that the reader below told last
  pub carries_settled : (t put : Told) (before below older above above' : List Told) → CarriesFrom start below above
      → above ≡ put ∷ older → above' ≡ t ∷ older → names_asked put ≡ names_asked t → below ≡ t ∷ before
      → CarriesFrom start below above'
  carries_settled t put before below older above above' carried was is same told =
      let whole : CarriesFrom start below (put ∷ older) = subst (CarriesFrom start below) was carried in
      subst (CarriesFrom start below) (sym is) (record {
        agrees = λ world a. (told_answer world t before below told a, (whole.agrees world a).1);
        allowed = λ roots m base. allowed_with t roots below older m (given_allowed roots t before below told)
            (λ behind. whole.allowed roots m base (or_right (is_among (names_given put) m) _ behind));
        founded = λ roots base f. whole.founded roots base (subst (AreAllowed roots older) (sym same) f.0, f.1);
      })

  -- an answer is told that is known, and nothing is asked below
  pub carries_known : (t : Told) (below above above' : List Told) → CarriesFrom start below above → above' ≡ t ∷ above
      → Knows below (λ world. Holds world t)
      → ((roots : List (List ℕ)) → IsFounded roots start → AreAllowed roots below (names_given t))
      → CarriesFrom start below above'
  carries_known t below above above' carried is known given = subst (CarriesFrom start below) (sym is) (record {
    agrees = λ world a. (known world a, carried.agrees world a);
    allowed = λ roots m base. allowed_with t roots below above m (given roots base) (carried.allowed roots m base);
    founded = λ roots base f. carried.founded roots base f.1;
  })

-- the same of the notes in which a reader keeps its questions
module _ (setting : Setting) (start : List Told) where
  pub note_tried : (put : Note) (names : List (List ℕ)) (below below' : List Told) (notes notes' : List Note)
      → CarriesFrom start below (told_onto setting start notes) → told_of setting put ≡ pending names
      → notes' ≡ put ∷ notes → Grows below below' → StaysFounded names below below'
      → CarriesFrom start below' (told_onto setting start notes')
  note_tried put names below below' notes notes' carried about is =
      carries_tried start names below below' (told_onto setting start notes) _ carried
      (ap (told_onto setting start) is ∙ ap (λ t. t ∷ told_onto setting start notes) about)

  -- a key was asked for
  pub note_key_tried : (nodes : List PlanNode) (below below' : List Told) (notes notes' : List Note)
      → CarriesFrom start below (told_onto setting start notes) → nodes ≡ setting.nodes
      → notes' ≡ PendingKey ∷ notes → Grows below below' → StaysFounded (homes nodes) below below'
      → CarriesFrom start below' (told_onto setting start notes')
  note_key_tried nodes below below' notes notes' carried same =
      note_tried PendingKey (homes nodes) below below' notes notes' carried (ap (λ ns. pending (homes ns)) (sym same))

  pub note_sought : (name sought_name : List ℕ) (below below' : List Told) (notes notes' : List Note)
      → CarriesFrom start below (told_onto setting start notes) → sought_name ≡ name
      → notes' ≡ PendingDocument sought_name ∷ notes → Grows below below' → StaysFounded (name ∷ []) below below'
      → CarriesFrom start below' (told_onto setting start notes')
  note_sought name sought_name below below' notes notes' carried same is =
      carries_sought start name below below' (told_onto setting start notes) _ carried
      (ap (told_onto setting start) is ∙ ap (λ n. pending_document n ∷ told_onto setting start notes) same)

  pub note_settled : (t : Told) (put note : Note) (before below : List Told) (older notes notes' : List Note)
      → CarriesFrom start below (told_onto setting start notes) → notes ≡ put ∷ older
      → names_asked (told_of setting put) ≡ names_asked t → told_of setting note ≡ t
      → notes' ≡ note ∷ drop 1 notes → below ≡ t ∷ before → CarriesFrom start below (told_onto setting start notes')
  note_settled t put note before below older notes notes' carried was same tells is told =
      carries_settled start t (told_of setting put) before below (told_onto setting start older) _ _ carried
      (ap (told_onto setting start) was)
      (ap (told_onto setting start) (is ∙ ap (λ ns. note ∷ drop 1 ns) was)
      ∙ ap (λ t. t ∷ told_onto setting start older) tells) same told

  -- an answer that is known is told, if there is memory
  pub note_known : (t : Told) (note : Note) (below : List Told) (notes notes' : List Note)
      → CarriesFrom start below (told_onto setting start notes) → told_of setting note ≡ t
      → (notes' ≡ notes) ⊎ (notes' ≡ note ∷ notes) → Knows below (λ world. Holds world t)
      → ((roots : List (List ℕ)) → IsFounded roots start → AreAllowed roots below (names_given t))
      → CarriesFrom start below (told_onto setting start notes')
  note_known t note below notes notes' carried tells either known given = ⊎_elim
      (λ same. subst (λ ns. CarriesFrom start below (told_onto setting start ns)) (sym same) carried)
      (λ is. carries_known start t below (told_onto setting start notes) _ carried
      (ap (told_onto setting start) is ∙ ap (λ t. t ∷ told_onto setting start notes) tells) known given) either
