use Rattle.std.proofs.Common.{[], refl, ap}
use Rattle.readers.specs.Documents.{documents_asked}
use Rattle.readers.specs.Founded.{names_asked}
use Rattle.readers.specs.Setting.{no_setting}
use Rattle.readers.specs.Told.{first}
use Rattle.readers.proofs.DocumentLaws.{asks_kept, asks_put, asks_same}
use Rattle.readers.proofs.FoundedLaws.{stays_same}
use Rattle.readers.proofs.GrowthLaws.{grows_same}
use Rattle.readers.proofs.LayerLaws.{grows_kept, grows_put, stays_kept, stays_put}
use Rattle.source_reader.proofs.KindLaws.{first_put}
use Rattle.source_reader.proofs.StoredLaws.{answers_put}
use Rattle.source_reader.proofs.reader.SourceReaderTitles.first.Goals as goal

pub invariant_of-self-clause-agrees : goal.invariant_of-self-clause-agrees
invariant_of-self-clause-agrees c =
    answers_put (first c.args.name.now c.in_ok-id.id) _ _ _ _ _ refl c.args.self.now.agrees
    (c.in_ok-note.ensures no_setting) c.begin.ensures.either c.in_ok-id.ensures

pub invariant_of-self-clause-kinds : goal.invariant_of-self-clause-kinds
invariant_of-self-clause-kinds c =
    first_put c.in_ok-note.note c.args.self.now.asked _ c.args.self.now.kinds
    c.args.name.now c.in_ok-id.id
    (c.in_ok-note.ensures no_setting) c.begin.ensures.either

pub returns-in_err-id-clause-founded : goal.returns-in_err-id-clause-founded
returns-in_err-id-clause-founded c = stays_same _ _ _ refl

pub returns-in_err-id-clause-asks : goal.returns-in_err-id-clause-asks
returns-in_err-id-clause-asks c = asks_same _ _ _ _ refl

pub returns-in_err-id-clause-grows : goal.returns-in_err-id-clause-grows
returns-in_err-id-clause-grows c = grows_same _

pub returns-in_err-note-clause-founded : goal.returns-in_err-note-clause-founded
returns-in_err-note-clause-founded c = stays_same _ _ _ refl

pub returns-in_err-note-clause-asks : goal.returns-in_err-note-clause-asks
returns-in_err-note-clause-asks c = asks_same _ _ _ _ refl

pub returns-in_err-note-clause-grows : goal.returns-in_err-note-clause-grows
returns-in_err-note-clause-grows c = grows_same _

pub returns-in_err-begin-clause-founded : goal.returns-in_err-begin-clause-founded
returns-in_err-begin-clause-founded c = stays_kept no_setting [] _ _ _ c.in_err-begin.ensures.err

pub returns-in_err-begin-clause-asks : goal.returns-in_err-begin-clause-asks
returns-in_err-begin-clause-asks c = asks_kept no_setting [] _ _ _ _ c.in_err-begin.ensures.err

pub returns-in_err-begin-clause-grows : goal.returns-in_err-begin-clause-grows
returns-in_err-begin-clause-grows c = grows_kept no_setting [] _ _ c.in_err-begin.ensures.err

pub returns-clause-founded : goal.returns-clause-founded
returns-clause-founded c = stays_put no_setting [] _ _ _ _ (ap names_asked (c.in_ok-note.ensures no_setting)) c.in_ok-begin.ensures.ok

pub returns-clause-asks : goal.returns-clause-asks
returns-clause-asks c = asks_put no_setting [] _ _ _ _ _ (ap documents_asked (c.in_ok-note.ensures no_setting)) c.in_ok-begin.ensures.ok

pub returns-clause-grows : goal.returns-clause-grows
returns-clause-grows c = grows_put no_setting [] _ _ _ c.in_ok-begin.ensures.ok
