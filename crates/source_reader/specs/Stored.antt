-- What the notes of a reader tell that was made for nothing, with no reader below it (own).
use Rattle.std.specs.Prelude.{List, []}
use Rattle.dita_doc.specs.Desk.{State}
use Rattle.reader_spec.specs.World.{world_of}
use Rattle.readers.specs.Noted.{told_onto}
use Rattle.readers.specs.Setting.{no_setting}
use Rattle.readers.specs.Told.{Told, Agrees}
use Rattle.readers.specs.declared.questions.Note.{Note}

abbrev pub told_alone : List Note → List Told
told_alone all = told_onto no_setting [] all

-- what they tell is so in what is stored
abbrev pub AreAnswers : State → List Note → Type 0
AreAnswers state all = Agrees (world_of state) (told_alone all)
