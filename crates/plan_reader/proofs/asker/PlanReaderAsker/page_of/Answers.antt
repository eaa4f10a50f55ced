use Rattle.std.proofs.Common.{[], refl, ap, sym, ◌∙◌}
use Rattle.plan_reader.specs.Made.{made_for}
use Rattle.pushed_docs.proofs.MadeLaws.{memo_tried}
use Rattle.readers.specs.Documents.{documents_asked}
use Rattle.readers.specs.Founded.{names_asked}
use Rattle.readers.specs.Told.{page_of}
use Rattle.std.specs.Arc.{arc_value}
use Rattle.dita_doc.specs.declared.plan.Context.{Context}
use Rattle.map_spec.specs.Pages.{page_for}
use Rattle.readers.proofs.DocumentLaws.{asks_kept, asks_put, asks_same}
use Rattle.readers.proofs.FoundedLaws.{stays_same}
use Rattle.readers.proofs.GrowthLaws.{grows_same}
use Rattle.readers.proofs.LayerLaws.{grows_kept, grows_put, stays_kept, stays_put, told_put}
use Rattle.plan_reader.proofs.ToldLaws.{agrees_put}
use Rattle.plan_reader.proofs.asker.PlanReaderAsker.page_of.Goals as goal

pub invariant_of-self-clause-agreed : goal.invariant_of-self-clause-agreed
invariant_of-self-clause-agreed c =
    let r = c.args.self.now in
    let setting = made_for r.nodes.now r.documents.now r.pages.now in
    agrees_put setting [] (page_of r.pages.now c.args.name.now (arc_value c.args.context.now) c.in_ok-place.place)
    _ _ _ _ _ refl r.agreed (c.in_ok-note.ensures setting)
    c.begin.ensures.either (ap (λ (context : Context). page_for r.pages.now c.args.name.now context.page) (sym c.deref.ensures)
    ∙ sym (c.in_ok-place.ensures r.pages.now r.tabled.paged))

pub invariant_of-self-clause-made : goal.invariant_of-self-clause-made
invariant_of-self-clause-made c = memo_tried _ _ _ c.args.self.now.memo _ _ _ c.begin.ensures.either c.args.self.now.made

pub returns-in_err-place-clause-founded : goal.returns-in_err-place-clause-founded
returns-in_err-place-clause-founded c = stays_same _ _ _ refl

pub returns-in_err-place-clause-asks : goal.returns-in_err-place-clause-asks
returns-in_err-place-clause-asks c = asks_same _ _ _ _ refl

pub returns-in_err-place-clause-grows : goal.returns-in_err-place-clause-grows
returns-in_err-place-clause-grows c = grows_same _

pub returns-in_err-note-clause-founded : goal.returns-in_err-note-clause-founded
returns-in_err-note-clause-founded c = stays_same _ _ _ refl

pub returns-in_err-note-clause-asks : goal.returns-in_err-note-clause-asks
returns-in_err-note-clause-asks c = asks_same _ _ _ _ refl

pub returns-in_err-note-clause-grows : goal.returns-in_err-note-clause-grows
returns-in_err-note-clause-grows c = grows_same _

pub returns-in_err-begin-clause-founded : goal.returns-in_err-begin-clause-founded
returns-in_err-begin-clause-founded c =
    let r = c.args.self.now in
    let setting = made_for r.nodes.now r.documents.now r.pages.now in
    stays_kept setting [] _ _ _ c.in_err-begin.ensures.err

pub returns-in_err-begin-clause-asks : goal.returns-in_err-begin-clause-asks
returns-in_err-begin-clause-asks c =
    let r = c.args.self.now in
    let setting = made_for r.nodes.now r.documents.now r.pages.now in
    asks_kept setting [] _ _ _ _ c.in_err-begin.ensures.err

pub returns-in_err-begin-clause-grows : goal.returns-in_err-begin-clause-grows
returns-in_err-begin-clause-grows c =
    let r = c.args.self.now in
    let setting = made_for r.nodes.now r.documents.now r.pages.now in
    grows_kept setting [] _ _ c.in_err-begin.ensures.err

pub returns-clause-told : goal.returns-clause-told
returns-clause-told c =
    let r = c.args.self.now in
    let setting = made_for r.nodes.now r.documents.now r.pages.now in
    told_put setting [] _ _ _ _ (c.in_ok-note.ensures setting) c.in_ok-begin.ensures.ok

pub returns-clause-founded : goal.returns-clause-founded
returns-clause-founded c =
    let r = c.args.self.now in
    let setting = made_for r.nodes.now r.documents.now r.pages.now in
    stays_put setting [] _ _ _ _ (ap names_asked (c.in_ok-note.ensures setting)) c.in_ok-begin.ensures.ok

pub returns-clause-asks : goal.returns-clause-asks
returns-clause-asks c =
    let r = c.args.self.now in
    let setting = made_for r.nodes.now r.documents.now r.pages.now in
    asks_put setting [] _ _ _ _ _ (ap documents_asked (c.in_ok-note.ensures setting)) c.in_ok-begin.ensures.ok

pub returns-clause-grows : goal.returns-clause-grows
returns-clause-grows c =
    let r = c.args.self.now in
    let setting = made_for r.nodes.now r.documents.now r.pages.now in
    grows_put setting [] _ _ _ c.in_ok-begin.ensures.ok
