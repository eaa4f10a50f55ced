-- A turn of a party at the gate (own): what it has of the slot from the try that shuts the gate to the step that opens
-- it. It has the book as it took the gate. It takes the book out, and has nothing of it. It puts a book back: the one
-- that it took, or the one after its one event. Its view is the same all the while. The rule does not say this: it is
-- over the words, the slots and the views of a desk, and what a party has of a slot is its own.
use Rattle.std.specs.Prelude.{◌≡◌, ◌⊎◌, [], ◌∷◌, Option, Some, None}
use Rattle.atomic_table.specs.Table.{Me}
use Rattle.desk_core.specs.Book.{BookData}
use Rattle.desk_core.specs.Steps.{EventDone, IsStep}
use Rattle.desk_lock.specs.Meaning.{Meaning}
use Rattle.desk_lock.specs.declared.view.View.{View}

-- the book that is given up is the one that was taken, or the one after one event
abbrev pub IsAfterOne : Meaning → BookData → BookData → Type 0
IsAfterOne means taken back =
    (back ≡ taken) ⊎ ((done : EventDone) × IsStep means.agrees means.is_sound taken done back)

-- the slot has nothing
abbrev pub TakesOut : {B : Type 0} → Me (Option B) View → Me (Option B) View → Type 0
TakesOut m n = n ≡ (m.0, (0, None) ∷ [])

-- the slot has this book
abbrev pub PutsBack : {B : Type 0} → Me (Option B) View → B → Me (Option B) View → Type 0
PutsBack m book n = n ≡ (m.0, (0, Some book) ∷ [])

module _ {B : Type 0} (shown : B → BookData) where
  -- it knows the book as it took the gate, and has this book in the slot
  pub record HasBook (m : Me (Option B) View) (book : B) : Type 0 where
    pub held : m.0.held ≡ Some (shown book)
    pub slot : m.1 ≡ (0, Some book) ∷ []

  -- the gate was shut; the book is out; the gate is to be opened
  pub record GateTurn (means : Meaning) (shut out ready : Me (Option B) View) : Type 0 where
    pub taken : B
    pub back : B
    pub has : HasBook shut taken
    pub takes : TakesOut shut out
    pub puts : PutsBack out back ready
    pub one : IsAfterOne means (shown taken) (shown back)
