-- A document that a reader above another asks for as a whole: it is sought, and then told as the reader below told it.
use Rattle.std.proofs.Common.{◌≡◌, ℕ, List, [], ◌∷◌, Option, drop, sym, ap, subst, ◌∙◌}
use Rattle.dita_doc.specs.Tree.{Content}
use Rattle.readers.specs.Founded.{Carries, Grows, StaysFounded}
use Rattle.readers.specs.Noted.{told_of, told_onto}
use Rattle.readers.specs.Setting.{Setting}
use Rattle.readers.specs.Told.{Told, document, pending_document}
use Rattle.readers.specs.declared.questions.Note.{Note}
use Rattle.readers.specs.declared.questions.Note.TheVariants.{PendingDocument}
use Rattle.readers.proofs.FoundedLaws.{given_allowed, stays_by}
use Rattle.readers.proofs.GrowthLaws.{agrees_before, allowed_before, told_answer}
use Rattle.readers.proofs.LayerLaws.{allowed_with}

-- it was sought, and then the reader below was asked for it
pub carries_sought : (name : List ℕ) (below below' above above' : List Told) → Carries below above
    → above' ≡ pending_document name ∷ above → Grows below below' → StaysFounded (name ∷ []) below below'
    → Carries below' above'
carries_sought name below below' above above' carried put grows stays =
    subst (Carries below') (sym put) (record {
      agrees = λ world a. (tt, carried.agrees world (agrees_before world below below' grows a));
      allowed = λ roots m a. allowed_before roots below below' m grows (carried.allowed roots m a);
      founded = λ roots f. stays_by (name ∷ []) below below' stays roots
          (record { each = λ m among. carried.allowed roots m (f.0.each m among) }) (carried.founded roots f.1);
    })

-- it is told that the reader below told last
pub carries_found : (name : List ℕ) (tree : Option Content) (before below older above above' : List Told)
    → Carries below above → above ≡ pending_document name ∷ older → above' ≡ document name tree ∷ older
    → below ≡ document name tree ∷ before → Carries below above'
carries_found name tree before below older above above' carried was is told =
    let t = document name tree in
    let sought_before : Carries below (pending_document name ∷ older) = subst (Carries below) was carried in
    subst (Carries below) (sym is) (record {
      agrees = λ world a. (told_answer world t before below told a, (sought_before.agrees world a).1);
      allowed = λ roots m. allowed_with t roots below older m (given_allowed roots t before below told)
          (sought_before.allowed roots m);
      founded = sought_before.founded;
    })

module _ (setting : Setting) (start : List Told) where
  pub sought_asked : (name sought_name : List ℕ) (below below' : List Told) (notes notes' : List Note)
      → Carries below (told_onto setting start notes) → sought_name ≡ name
      → notes' ≡ PendingDocument sought_name ∷ notes
      → Grows below below' → StaysFounded (name ∷ []) below below' → Carries below' (told_onto setting start notes')
  sought_asked name sought_name below below' notes notes' carried same is =
      carries_sought name below below' (told_onto setting start notes) _ carried
      (ap (told_onto setting start) is ∙ ap (λ n. pending_document n ∷ told_onto setting start notes) same)

  pub sought_settled : (name : List ℕ) (tree : Option Content) (note : Note) (before below : List Told)
      (older notes notes' : List Note) → Carries below (told_onto setting start notes)
      → notes ≡ PendingDocument name ∷ older
      → told_of setting note ≡ document name tree → notes' ≡ note ∷ drop 1 notes
      → below ≡ document name tree ∷ before → Carries below (told_onto setting start notes')
  sought_settled name tree note before below older notes notes' carried was tells is told =
      carries_found name tree before below (told_onto setting start older) (told_onto setting start notes) _ carried
      (ap (told_onto setting start) was)
      (ap (told_onto setting start) (is ∙ ap (λ ns. note ∷ drop 1 ns) was)
      ∙ ap (λ t. t ∷ told_onto setting start older) tells) told
