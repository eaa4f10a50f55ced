use Rattle.std.proofs.Common.{[], refl, ap, sym}
use Rattle.plan_reader.specs.Made.{made_for}
use Rattle.pushed_docs.proofs.MadeLaws.{memo_tried}
use Rattle.readers.specs.Documents.{documents_asked}
use Rattle.readers.specs.Founded.{names_asked}
use Rattle.readers.specs.Told.{pushes}
use Rattle.pushed_docs.proofs.AskedLaws.{pushes_told}
use Rattle.reader_spec.specs.World.{world_of}
use Rattle.readers.proofs.DocumentLaws.{asks_kept, asks_put, asks_same}
use Rattle.readers.proofs.FoundedLaws.{stays_same}
use Rattle.readers.proofs.GrowthLaws.{grows_same}
use Rattle.readers.proofs.LayerLaws.{grows_kept, grows_put, stays_kept, stays_put, told_put}
use Rattle.plan_reader.proofs.ToldLaws.{agrees_put}
use Rattle.plan_reader.proofs.asker.PlanReaderTellsPushes.tell_pushes.Goals as goal

pub invariant_of-self-clause-agreed : goal.invariant_of-self-clause-agreed
invariant_of-self-clause-agreed c =
    let r = c.args.self.now in
    let setting = made_for r.nodes.now r.documents.now r.pages.now in
    let world = world_of r.known.sources.now in
    let told = pushes_told setting world c.args.name.now c.in_ok-note.note c.in_ok-answer.answer
    (c.in_ok-answer.ensures world r.documents.now r.tabled.pushed)
    (c.in_ok-note.ensures world r.documents.now r.tabled.pushed setting) in
    agrees_put setting [] (pushes r.documents.now c.args.name.now c.in_ok-answer.answer) _ _ _ _ _ refl r.agreed told
    c.begin.ensures.either (sym (c.in_ok-answer.ensures world r.documents.now r.tabled.pushed))

pub invariant_of-self-clause-made : goal.invariant_of-self-clause-made
invariant_of-self-clause-made c = memo_tried _ _ _ c.args.self.now.memo _ _ _ c.begin.ensures.either c.args.self.now.made

pub returns-in_err-answer-clause-founded : goal.returns-in_err-answer-clause-founded
returns-in_err-answer-clause-founded c = stays_same _ _ _ refl

pub returns-in_err-answer-clause-asks : goal.returns-in_err-answer-clause-asks
returns-in_err-answer-clause-asks c = asks_same _ _ _ _ refl

pub returns-in_err-answer-clause-grows : goal.returns-in_err-answer-clause-grows
returns-in_err-answer-clause-grows c = grows_same _

pub returns-in_err-note-clause-founded : goal.returns-in_err-note-clause-founded
returns-in_err-note-clause-founded c = stays_same _ _ _ refl

pub returns-in_err-note-clause-asks : goal.returns-in_err-note-clause-asks
returns-in_err-note-clause-asks c = asks_same _ _ _ _ refl

pub returns-in_err-note-clause-grows : goal.returns-in_err-note-clause-grows
returns-in_err-note-clause-grows c = grows_same _

pub returns-in_err-begin-clause-founded : goal.returns-in_err-begin-clause-founded
returns-in_err-begin-clause-founded c =
    let r = c.args.self.now in
    let setting = made_for r.nodes.now r.documents.now r.pages.now in
    stays_kept setting [] _ _ _ c.in_err-begin.ensures.err

pub returns-in_err-begin-clause-asks : goal.returns-in_err-begin-clause-asks
returns-in_err-begin-clause-asks c =
    let r = c.args.self.now in
    let setting = made_for r.nodes.now r.documents.now r.pages.now in
    asks_kept setting [] _ _ _ _ c.in_err-begin.ensures.err

pub returns-in_err-begin-clause-grows : goal.returns-in_err-begin-clause-grows
returns-in_err-begin-clause-grows c =
    let r = c.args.self.now in
    let setting = made_for r.nodes.now r.documents.now r.pages.now in
    grows_kept setting [] _ _ c.in_err-begin.ensures.err

pub returns-clause-told : goal.returns-clause-told
returns-clause-told c =
    let r = c.args.self.now in
    let setting = made_for r.nodes.now r.documents.now r.pages.now in
    let world = world_of r.known.sources.now in
    let told = pushes_told setting world c.args.name.now c.in_ok-note.note c.in_ok-answer.answer
    (c.in_ok-answer.ensures world r.documents.now r.tabled.pushed)
    (c.in_ok-note.ensures world r.documents.now r.tabled.pushed setting) in
    told_put setting [] _ _ _ _ told c.in_ok-begin.ensures.ok

pub returns-clause-founded : goal.returns-clause-founded
returns-clause-founded c =
    let r = c.args.self.now in
    let setting = made_for r.nodes.now r.documents.now r.pages.now in
    let world = world_of r.known.sources.now in
    let told = pushes_told setting world c.args.name.now c.in_ok-note.note c.in_ok-answer.answer
    (c.in_ok-answer.ensures world r.documents.now r.tabled.pushed)
    (c.in_ok-note.ensures world r.documents.now r.tabled.pushed setting) in
    stays_put setting [] _ _ _ _ (ap names_asked told) c.in_ok-begin.ensures.ok

pub returns-clause-asks : goal.returns-clause-asks
returns-clause-asks c =
    let r = c.args.self.now in
    let setting = made_for r.nodes.now r.documents.now r.pages.now in
    let world = world_of r.known.sources.now in
    let told = pushes_told setting world c.args.name.now c.in_ok-note.note c.in_ok-answer.answer
    (c.in_ok-answer.ensures world r.documents.now r.tabled.pushed)
    (c.in_ok-note.ensures world r.documents.now r.tabled.pushed setting) in
    asks_put setting [] _ _ _ _ _ (ap documents_asked told) c.in_ok-begin.ensures.ok

pub returns-clause-grows : goal.returns-clause-grows
returns-clause-grows c =
    let r = c.args.self.now in
    let setting = made_for r.nodes.now r.documents.now r.pages.now in
    grows_put setting [] _ _ _ c.in_ok-begin.ensures.ok
