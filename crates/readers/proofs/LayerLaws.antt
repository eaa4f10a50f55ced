-- What a reader above another keeps: the questions that it was asked, against what the reader below was told.
use Rattle.std.proofs.Common.{◌≡◌, ℕ, List, [], ◌∷◌, Option, ◌⊎◌, IsTrue, drop, sym, ap, subst, refl, ◌∙◌}
use Rattle.std.proofs.Math.Logic.{⊎_elim}
use Rattle.std.proofs.lemmas.Bool.{or_cases}
use Rattle.dita_doc.specs.Tree.{Content}
use Rattle.reader_spec.specs.World.{World}
use Rattle.readers.specs.Founded.{AreAllowed, Carries, Grows, IsFounded, StaysFounded, is_allowed, is_among, names_asked, names_given}
use Rattle.readers.specs.Noted.{told_of, told_onto}
use Rattle.readers.specs.Setting.{Setting}
use Rattle.readers.specs.Told.{Told, document, pending, Holds, Knows}
use Rattle.readers.specs.declared.questions.Note.{Note}
use Rattle.readers.specs.declared.questions.Note.TheVariants.{Pending}
use Rattle.readers.proofs.FoundedLaws.{given_allowed, none_allowed, stays_by, stays_same, stays_told}
use Rattle.readers.proofs.GrowthLaws.{agrees_before, allowed_before, grows_equal, grows_one, grows_same, grows_trans, told_answer}

pub knows_more : (P : World → Type 0) (old new : List Told) → Grows old new → Knows old P → Knows new P
knows_more P old new grows known world agrees = known world (agrees_before world old new grows agrees)

-- a reader begins with what the reader below it was told
pub carries_same : (ts : List Told) → Carries ts ts
carries_same ts = record { agrees = λ world a. a; allowed = λ roots m a. a; founded = λ roots f. f }

-- the reader below was told more
pub carries_more : (below below' above : List Told) → Carries below above → Grows below below'
    → ((roots : List (List ℕ)) → IsFounded roots above → IsFounded roots below') → Carries below' above
carries_more below below' above carried grows founded = record {
  agrees = λ world a. carried.agrees world (agrees_before world below below' grows a);
  allowed = λ roots m a. allowed_before roots below below' m grows (carried.allowed roots m a);
  founded = founded;
}

-- a question was put, and then the reader below was asked about its documents
pub carries_asked : (names : List (List ℕ)) (below below' above above' : List Told) → Carries below above
    → above' ≡ pending names ∷ above → Grows below below' → StaysFounded names below below' → Carries below' above'
carries_asked names below below' above above' carried put grows stays =
    subst (Carries below') (sym put) (record {
      agrees = λ world a. (tt, carried.agrees world (agrees_before world below below' grows a));
      allowed = λ roots m a. allowed_before roots below below' m grows (carried.allowed roots m a);
      founded = λ roots f. stays_by names below below' stays roots
          (record { each = λ m among. carried.allowed roots m (f.0.each m among) }) (carried.founded roots f.1);
    })

pub allowed_with : (t : Told) (roots : List (List ℕ)) (below above : List Told) (m : List ℕ)
    → AreAllowed roots below (names_given t)
    → (IsTrue (is_allowed roots above m) → IsTrue (is_allowed roots below m))
    → IsTrue (is_allowed roots (t ∷ above) m) → IsTrue (is_allowed roots below m)
allowed_with t roots below above m given before allowed =
    ⊎_elim (given.each m) before (or_cases (is_among (names_given t) m) (is_allowed roots above m) allowed)

-- a question that was put gets its answer
pub carries_settled : (t : Told) (below older above above' : List Told) → Carries below above
    → above ≡ pending (names_asked t) ∷ older → above' ≡ t ∷ older → Knows below (λ world. Holds world t)
    → ((roots : List (List ℕ)) → AreAllowed roots below (names_given t)) → Carries below above'
carries_settled t below older above above' carried was is known given =
    let before : Carries below (pending (names_asked t) ∷ older) = subst (Carries below) was carried in
    subst (Carries below) (sym is) (record {
      agrees = λ world a. (known world a, (before.agrees world a).1);
      allowed = λ roots m. allowed_with t roots below older m (given roots) (before.allowed roots m);
      founded = before.founded;
    })

-- an answer that was known is told, and nothing is asked below
pub carries_known : (t : Told) (below above above' : List Told) → Carries below above → above' ≡ t ∷ above
    → Knows below (λ world. Holds world t) → ((roots : List (List ℕ)) → AreAllowed roots below (names_given t))
    → Carries below above'
carries_known t below above above' carried is known given = subst (Carries below) (sym is) (record {
  agrees = λ world a. (known world a, carried.agrees world a);
  allowed = λ roots m. allowed_with t roots below above m (given roots) (carried.allowed roots m);
  founded = λ roots f. carried.founded roots f.1;
})

-- the same of the notes in which a reader keeps its questions, on top of what the reader below was told at its start
module _ (setting : Setting) (start : List Told) where
  pub grows_kept : (old new : List Note) → new ≡ old → Grows (told_onto setting start old) (told_onto setting start new)
  grows_kept old new is = grows_equal _ _ (ap (told_onto setting start) is)

  pub grows_put : (note : Note) (old new : List Note) → new ≡ note ∷ old
      → Grows (told_onto setting start old) (told_onto setting start new)
  grows_put note old new is = grows_one (told_of setting note) _ _ (ap (told_onto setting start) is)

  -- the question that was put is written over
  pub grows_settled : (put note : Note) (old between new : List Note) → between ≡ put ∷ old
      → new ≡ note ∷ drop 1 between → Grows (told_onto setting start old) (told_onto setting start new)
  grows_settled put note old between new was is =
      grows_put note old new (is ∙ ap (λ notes. note ∷ drop 1 notes) was)

  -- a question was put or not
  pub grows_tried : (note : Note) (old new : List Note) → (new ≡ old) ⊎ (new ≡ note ∷ old)
      → Grows (told_onto setting start old) (told_onto setting start new)
  grows_tried note old new either = ⊎_elim (grows_kept old new) (grows_put note old new) either

  -- what was told before a reader began is told still
  pub grows_start : (notes : List Note) → Grows start (told_onto setting start notes)
  grows_start [] = grows_same start
  grows_start (note ∷ notes) =
      grows_trans _ _ _ (grows_start notes) (grows_one (told_of setting note) _ _ refl)

  pub stays_kept : (names : List (List ℕ)) (old new : List Note) → new ≡ old
      → StaysFounded names (told_onto setting start old) (told_onto setting start new)
  stays_kept names old new is = stays_same names _ _ (ap (told_onto setting start) is)

  -- a question about these documents was put, or is told with its answer
  pub stays_put : (note : Note) (names : List (List ℕ)) (old new : List Note)
      → names_asked (told_of setting note) ≡ names → new ≡ note ∷ old
      → StaysFounded names (told_onto setting start old) (told_onto setting start new)
  stays_put note names old new asked is =
      stays_told (told_of setting note) names _ _ asked (ap (told_onto setting start) is)

  pub stays_settled : (put note : Note) (names : List (List ℕ)) (old between new : List Note)
      → names_asked (told_of setting note) ≡ names → between ≡ put ∷ old → new ≡ note ∷ drop 1 between
      → StaysFounded names (told_onto setting start old) (told_onto setting start new)
  stays_settled put note names old between new asked was is =
      stays_put note names old new asked (is ∙ ap (λ notes. note ∷ drop 1 notes) was)

  pub stays_tried : (note : Note) (names : List (List ℕ)) (old new : List Note)
      → names_asked (told_of setting note) ≡ names → (new ≡ old) ⊎ (new ≡ note ∷ old)
      → StaysFounded names (told_onto setting start old) (told_onto setting start new)
  stays_tried note names old new asked either =
      ⊎_elim (stays_kept names old new) (stays_put note names old new asked) either

  pub note_asked : (put : Note) (names : List (List ℕ)) (below below' : List Told) (notes notes' : List Note)
      → Carries below (told_onto setting start notes) → told_of setting put ≡ pending names → notes' ≡ put ∷ notes
      → Grows below below' → StaysFounded names below below' → Carries below' (told_onto setting start notes')
  note_asked put names below below' notes notes' carried about is grows stays =
      carries_asked names below below' (told_onto setting start notes) _ carried
      (ap (told_onto setting start) is ∙ ap (λ t. t ∷ told_onto setting start notes) about) grows stays

  -- a document is tried, and then the reader below is asked about it
  pub tried_asked : (name tried_name : List ℕ) (below below' : List Told) (notes notes' : List Note)
      → Carries below (told_onto setting start notes) → tried_name ≡ name → notes' ≡ Pending tried_name ∷ notes
      → Grows below below' → StaysFounded (name ∷ []) below below' → Carries below' (told_onto setting start notes')
  tried_asked name tried_name below below' notes notes' carried same is =
      note_asked (Pending tried_name) (name ∷ []) below below' notes notes' carried
      (ap (λ n. pending (n ∷ [])) same) is

  -- the question that was put gets its answer
  pub note_settled : (t : Told) (put note : Note) (below : List Told) (older notes notes' : List Note)
      → Carries below (told_onto setting start notes) → notes ≡ put ∷ older
      → told_of setting put ≡ pending (names_asked t) → told_of setting note ≡ t → notes' ≡ note ∷ drop 1 notes
      → Knows below (λ world. Holds world t) → ((roots : List (List ℕ)) → AreAllowed roots below (names_given t))
      → Carries below (told_onto setting start notes')
  note_settled t put note below older notes notes' carried was about tells is known given =
      carries_settled t below (told_onto setting start older) (told_onto setting start notes) _ carried
      (ap (told_onto setting start) was ∙ ap (λ t. t ∷ told_onto setting start older) about)
      (ap (told_onto setting start) (is ∙ ap (λ ns. note ∷ drop 1 ns) was)
      ∙ ap (λ t. t ∷ told_onto setting start older) tells) known given

  -- a document is told that the reader below told last
  pub document_settled : (name : List ℕ) (tree : Option Content) (note : Note) (before below : List Told)
      (older notes notes' : List Note) → Carries below (told_onto setting start notes) → notes ≡ Pending name ∷ older
      → told_of setting note ≡ document name tree → notes' ≡ note ∷ drop 1 notes
      → below ≡ document name tree ∷ before → Carries below (told_onto setting start notes')
  document_settled name tree note before below older notes notes' carried was tells is told =
      note_settled (document name tree) (Pending name) note below older notes notes' carried was refl tells is
      (λ world. told_answer world (document name tree) before below told)
      (λ roots. given_allowed roots (document name tree) before below told)

  -- an answer that names no document is told: a kind, a title, an id or a page
  pub plain_settled : (t : Told) (put note : Note) (below : List Told) (older notes notes' : List Note)
      → Carries below (told_onto setting start notes) → notes ≡ put ∷ older
      → told_of setting put ≡ pending (names_asked t) → told_of setting note ≡ t → names_given t ≡ []
      → notes' ≡ note ∷ drop 1 notes → Knows below (λ world. Holds world t)
      → Carries below (told_onto setting start notes')
  plain_settled t put note below older notes notes' carried was about tells plain is known =
      note_settled t put note below older notes notes' carried was about tells is known
      (λ roots. subst (AreAllowed roots below) (sym plain) (none_allowed roots below))

  -- an answer that was known is told, if there is memory, and nothing is asked below
  pub note_known : (t : Told) (note : Note) (below : List Told) (notes notes' : List Note)
      → Carries below (told_onto setting start notes) → told_of setting note ≡ t
      → (notes' ≡ notes) ⊎ (notes' ≡ note ∷ notes) → Knows below (λ world. Holds world t)
      → ((roots : List (List ℕ)) → AreAllowed roots below (names_given t))
      → Carries below (told_onto setting start notes')
  note_known t note below notes notes' carried tells either known given = ⊎_elim
      (λ same. subst (λ ns. Carries below (told_onto setting start ns)) (sym same) carried)
      (λ is. carries_known t below (told_onto setting start notes) _ carried
      (ap (told_onto setting start) is ∙ ap (λ t. t ∷ told_onto setting start notes) tells) known given) either

  pub plain_known : (t : Told) (note : Note) (below : List Told) (notes notes' : List Note)
      → Carries below (told_onto setting start notes) → told_of setting note ≡ t → names_given t ≡ []
      → (notes' ≡ notes) ⊎ (notes' ≡ note ∷ notes) → Knows below (λ world. Holds world t)
      → Carries below (told_onto setting start notes')
  plain_known t note below notes notes' carried tells plain either known =
      note_known t note below notes notes' carried tells either known
      (λ roots. subst (AreAllowed roots below) (sym plain) (none_allowed roots below))

-- what closes most claims that what was told to a reader with notes grows
pub ruleset putting = (grows_kept, grows_put, grows_settled, grows_tried)

-- what closes most claims that what was told to a reader with notes stays founded
pub ruleset keeping = (stays_kept, stays_put, stays_settled, stays_tried)

-- the note that was put is told
pub told_put : (setting : Setting) (start : List Told) (t : Told) (note : Note) (old new : List Note)
    → told_of setting note ≡ t → new ≡ note ∷ old → told_onto setting start new ≡ t ∷ told_onto setting start old
told_put setting start t note old new tells is =
    ap (told_onto setting start) is ∙ ap (λ t. t ∷ told_onto setting start old) tells

-- the note that was written over the one that was put is told
pub told_settled : (setting : Setting) (start : List Told) (t : Told) (put note : Note) (old between new : List Note)
    → told_of setting note ≡ t → between ≡ put ∷ old → new ≡ note ∷ drop 1 between
    → told_onto setting start new ≡ t ∷ told_onto setting start old
told_settled setting start t put note old between new tells was is =
    told_put setting start t note old new tells (is ∙ ap (λ notes. note ∷ drop 1 notes) was)
