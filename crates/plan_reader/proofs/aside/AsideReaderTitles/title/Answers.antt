use Rattle.std.proofs.Common.{[], refl, ap}
use Rattle.readers.specs.Setting.{no_setting}
use Rattle.reader_spec.specs.World.{world_of}
use Rattle.readers.specs.Documents.{documents_asked}
use Rattle.readers.specs.Founded.{names_asked}
use Rattle.readers.specs.Told.{title}
use Rattle.readers.proofs.DocumentLaws.{asks_kept, asks_put, asks_same}
use Rattle.readers.proofs.FoundedLaws.{stays_same}
use Rattle.readers.proofs.GrowthLaws.{grows_same}
use Rattle.readers.proofs.LayerLaws.{grows_kept, grows_put, stays_kept, stays_put, told_put}
use Rattle.plan_reader.proofs.ToldLaws.{agrees_put}
use Rattle.plan_reader.proofs.aside.AsideReaderTitles.title.Goals as goal

pub invariant_of-self-2 : goal.invariant_of-self-2
invariant_of-self-2 c = record {
  agreed = agrees_put no_setting [] (title c.args.name.now c.args.topic.now c.in_ok-text.text)
      _ _ _ _ _ (ap world_of c.in_ok-text.ensures.sources) c.args.self.now.agreed (c.in_ok-note.ensures no_setting)
      c.begin.ensures.either c.in_ok-text.ensures.value;
}

pub returns-in_err-text-clause-founded : goal.returns-in_err-text-clause-founded
returns-in_err-text-clause-founded c = stays_same _ _ _ refl

pub returns-in_err-text-clause-asks : goal.returns-in_err-text-clause-asks
returns-in_err-text-clause-asks c = asks_same _ _ _ _ refl

pub returns-in_err-text-clause-grows : goal.returns-in_err-text-clause-grows
returns-in_err-text-clause-grows c = grows_same _

pub returns-in_err-note-clause-founded : goal.returns-in_err-note-clause-founded
returns-in_err-note-clause-founded c = stays_same _ _ _ refl

pub returns-in_err-note-clause-asks : goal.returns-in_err-note-clause-asks
returns-in_err-note-clause-asks c = asks_same _ _ _ _ refl

pub returns-in_err-note-clause-grows : goal.returns-in_err-note-clause-grows
returns-in_err-note-clause-grows c = grows_same _

pub returns-in_err-begin-clause-founded : goal.returns-in_err-begin-clause-founded
returns-in_err-begin-clause-founded c = stays_kept no_setting [] _ _ _ c.in_err-begin.ensures.err

pub returns-in_err-begin-clause-asks : goal.returns-in_err-begin-clause-asks
returns-in_err-begin-clause-asks c = asks_kept no_setting [] _ _ _ _ c.in_err-begin.ensures.err

pub returns-in_err-begin-clause-grows : goal.returns-in_err-begin-clause-grows
returns-in_err-begin-clause-grows c = grows_kept no_setting [] _ _ c.in_err-begin.ensures.err

pub returns-clause-told : goal.returns-clause-told
returns-clause-told c = told_put no_setting [] _ _ _ _ (c.in_ok-note.ensures no_setting) c.in_ok-begin.ensures.ok

pub returns-clause-founded : goal.returns-clause-founded
returns-clause-founded c = stays_put no_setting [] _ _ _ _
    (ap names_asked (c.in_ok-note.ensures no_setting)) c.in_ok-begin.ensures.ok

pub returns-clause-asks : goal.returns-clause-asks
returns-clause-asks c = asks_put no_setting [] _ _ _ _ _ (ap documents_asked (c.in_ok-note.ensures no_setting)) c.in_ok-begin.ensures.ok

pub returns-clause-grows : goal.returns-clause-grows
returns-clause-grows c = grows_put no_setting [] _ _ _ c.in_ok-begin.ensures.ok
