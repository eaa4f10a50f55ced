use Rattle.std.proofs.Common.{[], ◌∷◌, ◌∙◌, ap, refl, sym}
use Rattle.std.specs.Arc.{arc_value}
use Rattle.dita_doc.specs.declared.plan.Context.{Context}
use Rattle.map_spec.specs.Pages.{page_for}
use Rattle.plan_layer.specs.Carried.{made_for}
use Rattle.plan_layer.proofs.CarryLaws as carry
use Rattle.pushed_docs.proofs.MadeLaws.{memo_tried}
use Rattle.plan_layer.proofs.PassLaws as pass
use Rattle.readers.specs.Documents.{documents_asked, nothing}
use Rattle.readers.specs.Founded.{names_asked}
use Rattle.readers.specs.Noted.{told_onto}
use Rattle.readers.specs.Told.{page_of}
use Rattle.readers.proofs.DocumentLaws.{asks_same}
use Rattle.readers.proofs.FetchLaws.{asks_tried}
use Rattle.readers.proofs.FoundedLaws.{none_allowed, stays_same}
use Rattle.readers.proofs.GrowthLaws.{grows_same}
use Rattle.readers.proofs.LayerLaws.{grows_tried, stays_tried}
use Rattle.plan_layer.proofs.asker.PlanLayerAsker.page_of.Goals as goal

pub invariant_of-self-clause-made : goal.invariant_of-self-clause-made
invariant_of-self-clause-made g c = memo_tried _ _ _ c.args.self.now.memo.now _ _ _ c.begin.ensures.either
    c.args.self.now.made

pub invariant_of-self-clause-carried : goal.invariant_of-self-clause-carried
invariant_of-self-clause-carried g c =
    let layer = c.args.self.now in
    carry.note_known _ _
    (page_of layer.pages.now c.args.name.now (arc_value c.args.context.now) c.in_ok-place.place) _ _ _ _
    layer.carried (c.in_ok-note.ensures (made_for layer.documents.now layer.pages.now g.S.LogStart.stand.setting))
    c.begin.ensures.either (λ world agrees.
    ap (λ (context : Context). page_for layer.pages.now c.args.name.now context.page) (sym c.deref.ensures)
    ∙ sym (c.in_ok-place.ensures layer.pages.now layer.paged))
    (λ roots base. none_allowed roots _)

pub invariant_of-self-clause-passed : goal.invariant_of-self-clause-passed
invariant_of-self-clause-passed g c =
    let layer = c.args.self.now in
    pass.note_known _ _ _
    (page_of layer.pages.now c.args.name.now (arc_value c.args.context.now) c.in_ok-place.place) _ _ _ _
    layer.passed (c.in_ok-note.ensures (made_for layer.documents.now layer.pages.now g.S.LogStart.stand.setting))
    c.begin.ensures.either (pass.page_follows layer.documents.now layer.pages.now c.args.name.now
    (arc_value c.args.context.now) c.in_ok-place.place)

pub returns-in_err-place-clause-stand : goal.returns-in_err-place-clause-stand
returns-in_err-place-clause-stand g c = refl

pub returns-in_err-place-clause-founded : goal.returns-in_err-place-clause-founded
returns-in_err-place-clause-founded g c = stays_same _ _ _ refl

pub returns-in_err-place-clause-asks : goal.returns-in_err-place-clause-asks
returns-in_err-place-clause-asks g c = asks_same _ _ _ _ refl

pub returns-in_err-place-clause-grows : goal.returns-in_err-place-clause-grows
returns-in_err-place-clause-grows g c = grows_same _

pub returns-in_err-note-clause-stand : goal.returns-in_err-note-clause-stand
returns-in_err-note-clause-stand g c = refl

pub returns-in_err-note-clause-founded : goal.returns-in_err-note-clause-founded
returns-in_err-note-clause-founded g c = stays_same _ _ _ refl

pub returns-in_err-note-clause-asks : goal.returns-in_err-note-clause-asks
returns-in_err-note-clause-asks g c = asks_same _ _ _ _ refl

pub returns-in_err-note-clause-grows : goal.returns-in_err-note-clause-grows
returns-in_err-note-clause-grows g c = grows_same _

pub returns-in_err-begin-clause-stand : goal.returns-in_err-begin-clause-stand
returns-in_err-begin-clause-stand g c = refl

pub returns-in_err-begin-clause-founded : goal.returns-in_err-begin-clause-founded
returns-in_err-begin-clause-founded g c =
    let layer = c.args.self.now in
    let setting = made_for layer.documents.now layer.pages.now g.S.LogStart.stand.setting in
    stays_tried setting g.S.LogStart.told c.in_ok-note.note (c.args.name.now ∷ []) _ _
    (ap names_asked (c.in_ok-note.ensures setting)) c.begin.ensures.either

pub returns-in_err-begin-clause-asks : goal.returns-in_err-begin-clause-asks
returns-in_err-begin-clause-asks g c =
    let layer = c.args.self.now in
    let setting = made_for layer.documents.now layer.pages.now g.S.LogStart.stand.setting in
    asks_tried setting g.S.LogStart.told nothing c.in_ok-note.note [] _ _
    (ap documents_asked (c.in_ok-note.ensures setting)) c.begin.ensures.either

pub returns-in_err-begin-clause-grows : goal.returns-in_err-begin-clause-grows
returns-in_err-begin-clause-grows g c =
    let layer = c.args.self.now in
    let setting = made_for layer.documents.now layer.pages.now g.S.LogStart.stand.setting in
    grows_tried setting g.S.LogStart.told c.in_ok-note.note _ _ c.begin.ensures.either

pub returns-clause-stand : goal.returns-clause-stand
returns-clause-stand g c = refl

pub returns-clause-founded : goal.returns-clause-founded
returns-clause-founded g c =
    let layer = c.args.self.now in
    let setting = made_for layer.documents.now layer.pages.now g.S.LogStart.stand.setting in
    stays_tried setting g.S.LogStart.told c.in_ok-note.note (c.args.name.now ∷ []) _ _
    (ap names_asked (c.in_ok-note.ensures setting)) c.begin.ensures.either

pub returns-clause-asks : goal.returns-clause-asks
returns-clause-asks g c =
    let layer = c.args.self.now in
    let setting = made_for layer.documents.now layer.pages.now g.S.LogStart.stand.setting in
    asks_tried setting g.S.LogStart.told nothing c.in_ok-note.note [] _ _
    (ap documents_asked (c.in_ok-note.ensures setting)) c.begin.ensures.either

pub returns-clause-grows : goal.returns-clause-grows
returns-clause-grows g c =
    let layer = c.args.self.now in
    let setting = made_for layer.documents.now layer.pages.now g.S.LogStart.stand.setting in
    grows_tried setting g.S.LogStart.told c.in_ok-note.note _ _ c.begin.ensures.either

pub returns-clause-told : goal.returns-clause-told
returns-clause-told g c =
    let layer = c.args.self.now in
    let setting = made_for layer.documents.now layer.pages.now g.S.LogStart.stand.setting in
    ap (told_onto setting g.S.LogStart.told) c.in_ok-begin.ensures.ok
    ∙ ap (λ t. t ∷ told_onto setting g.S.LogStart.told layer.asked.now) (c.in_ok-note.ensures setting)
