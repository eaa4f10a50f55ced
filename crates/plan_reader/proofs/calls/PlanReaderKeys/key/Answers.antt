use Rattle.std.proofs.Common.{[], refl, ap}
use Rattle.plan_reader.specs.Made.{made_for}
use Rattle.pushed_docs.proofs.MadeLaws.{memo_tried}
use Rattle.readers.specs.Documents.{documents_asked}
use Rattle.readers.specs.Founded.{names_asked}
use Rattle.readers.specs.Told.{key}
use Rattle.readers.proofs.DocumentLaws.{asks_kept, asks_put, asks_same}
use Rattle.readers.proofs.FoundedLaws.{stays_same}
use Rattle.readers.proofs.GrowthLaws.{grows_same}
use Rattle.readers.proofs.LayerLaws.{grows_kept, grows_put, stays_kept, stays_put, told_put}
use Rattle.plan_reader.proofs.ToldLaws.{agrees_put, agrees_there, kept_there, stand_there, tables_there}
use Rattle.plan_reader.proofs.calls.PlanReaderKeys.key.Goals as goal

pub invariant_of-self-2-clause-agreed : goal.invariant_of-self-2-clause-agreed
invariant_of-self-2-clause-agreed c =
    let r = c.args.self.now in
    let setting = made_for r.nodes.now r.documents.now r.pages.now in
    agrees_put setting [] (key r.nodes.now c.args.scope c.args.key.now c.in_ok-answer.answer)
    _ _ _ _ _ c.in_ok-answer.ensures.world r.agreed (c.in_ok-note.ensures setting)
    c.begin.ensures.either c.in_ok-answer.ensures.value

pub invariant_of-self-2-clause-made : goal.invariant_of-self-2-clause-made
invariant_of-self-2-clause-made c = memo_tried _ _ _ c.args.self.now.memo _ _ _ c.begin.ensures.either c.args.self.now.made

pub returns-in_err-answer-clause-founded : goal.returns-in_err-answer-clause-founded
returns-in_err-answer-clause-founded c = stays_same _ _ _ refl

pub returns-in_err-answer-clause-asks : goal.returns-in_err-answer-clause-asks
returns-in_err-answer-clause-asks c = asks_same _ _ _ _ refl

pub returns-in_err-answer-clause-grows : goal.returns-in_err-answer-clause-grows
returns-in_err-answer-clause-grows c = grows_same _

pub returns-in_err-note-clause-founded : goal.returns-in_err-note-clause-founded
returns-in_err-note-clause-founded c = stays_same _ _ _ refl

pub returns-in_err-note-clause-asks : goal.returns-in_err-note-clause-asks
returns-in_err-note-clause-asks c = asks_same _ _ _ _ refl

pub returns-in_err-note-clause-grows : goal.returns-in_err-note-clause-grows
returns-in_err-note-clause-grows c = grows_same _

pub returns-in_err-begin-clause-founded : goal.returns-in_err-begin-clause-founded
returns-in_err-begin-clause-founded c =
    let r = c.args.self.now in
    let setting = made_for r.nodes.now r.documents.now r.pages.now in
    stays_kept setting [] _ _ _ c.in_err-begin.ensures.err

pub returns-in_err-begin-clause-asks : goal.returns-in_err-begin-clause-asks
returns-in_err-begin-clause-asks c =
    let r = c.args.self.now in
    let setting = made_for r.nodes.now r.documents.now r.pages.now in
    asks_kept setting [] _ _ _ _ c.in_err-begin.ensures.err

pub returns-in_err-begin-clause-grows : goal.returns-in_err-begin-clause-grows
returns-in_err-begin-clause-grows c =
    let r = c.args.self.now in
    let setting = made_for r.nodes.now r.documents.now r.pages.now in
    grows_kept setting [] _ _ c.in_err-begin.ensures.err

pub returns-clause-told : goal.returns-clause-told
returns-clause-told c =
    let r = c.args.self.now in
    let setting = made_for r.nodes.now r.documents.now r.pages.now in
    told_put setting [] _ _ _ _ (c.in_ok-note.ensures setting) c.in_ok-begin.ensures.ok

pub returns-clause-founded : goal.returns-clause-founded
returns-clause-founded c =
    let r = c.args.self.now in
    let setting = made_for r.nodes.now r.documents.now r.pages.now in
    stays_put setting [] _ _ _ _ (ap names_asked (c.in_ok-note.ensures setting)) c.in_ok-begin.ensures.ok

pub returns-clause-asks : goal.returns-clause-asks
returns-clause-asks c =
    let r = c.args.self.now in
    let setting = made_for r.nodes.now r.documents.now r.pages.now in
    asks_put setting [] _ _ _ _ _ (ap documents_asked (c.in_ok-note.ensures setting)) c.in_ok-begin.ensures.ok

pub returns-clause-grows : goal.returns-clause-grows
returns-clause-grows c =
    let r = c.args.self.now in
    let setting = made_for r.nodes.now r.documents.now r.pages.now in
    grows_put setting [] _ _ _ c.in_ok-begin.ensures.ok

pub invariant_of-self-2-clause-tabled : goal.invariant_of-self-2-clause-tabled
invariant_of-self-2-clause-tabled c = tables_there _ _ c.answer_aside.ensures.world _ _ _ _ c.args.self.now.tabled

pub invariant_of-self-2-clause-kept : goal.invariant_of-self-2-clause-kept
invariant_of-self-2-clause-kept c = kept_there _ _ c.answer_aside.ensures.world _ _ c.args.self.now.kept

pub returns-in_err-answer-clause-stand : goal.returns-in_err-answer-clause-stand
returns-in_err-answer-clause-stand c = stand_there _ _ c.answer_aside.ensures.world _

pub returns-in_err-note-clause-stand : goal.returns-in_err-note-clause-stand
returns-in_err-note-clause-stand c = stand_there _ _ c.answer_aside.ensures.world _

pub returns-in_err-begin-clause-stand : goal.returns-in_err-begin-clause-stand
returns-in_err-begin-clause-stand c = stand_there _ _ c.answer_aside.ensures.world _

pub returns-clause-stand : goal.returns-clause-stand
returns-clause-stand c = stand_there _ _ c.answer_aside.ensures.world _

pub invariant_of-self : goal.invariant_of-self
invariant_of-self c = record {
  agreed = agrees_there _ _ c.answer_aside.ensures.world _ c.args.self.now.agreed;
  tabled = tables_there _ _ c.answer_aside.ensures.world _ _ _ _ c.args.self.now.tabled;
  made = c.args.self.now.made;
  kept = kept_there _ _ c.answer_aside.ensures.world _ _ c.args.self.now.kept;
}
