use Rattle.std.proofs.Common.{[], ◌∙◌, ◌∷◌, ap, refl, sym}
use Rattle.plan_layer.specs.Carried.{made_for}
use Rattle.plan_layer.proofs.CarryLaws as carry
use Rattle.plan_layer.proofs.FromLaws.{told_froms}
use Rattle.pushed_docs.proofs.AskedLaws.{pushes_told}
use Rattle.pushed_docs.proofs.MadeLaws.{memo_tried}
use Rattle.plan_layer.proofs.PassLaws as pass
use Rattle.readers.specs.Documents.{documents_asked, nothing}
use Rattle.readers.specs.Founded.{names_asked}
use Rattle.readers.specs.Noted.{told_onto}
use Rattle.readers.specs.Told.{pushes}
use Rattle.readers.proofs.DocumentLaws.{asks_same}
use Rattle.readers.proofs.FetchLaws.{asks_tried}
use Rattle.readers.proofs.FoundedLaws.{stays_same}
use Rattle.readers.proofs.GrowthLaws.{agrees_before, grows_same}
use Rattle.readers.proofs.LayerLaws.{grows_tried, stays_tried}
use Rattle.plan_layer.proofs.asker.PlanLayerTellsPushes.tell_pushes.Goals as goal

pub invariant_of-self-clause-made : goal.invariant_of-self-clause-made
invariant_of-self-clause-made g c = memo_tried _ _ _ c.args.self.now.memo.now _ _ _ c.begin.ensures.either
    c.args.self.now.made

pub invariant_of-self-clause-carried : goal.invariant_of-self-clause-carried
invariant_of-self-clause-carried g c =
    let layer = c.args.self.now in
    let world = (g.K.Reader.stand layer.lower.now).world in
    let table = layer.tabled world (agrees_before world _ _ layer.grown (g.met.K.Reader.agrees layer.lower.now)) in
    let setting = made_for layer.documents.now layer.pages.now g.S.LogStart.stand.setting in
    let told = pushes_told setting world c.args.name.now c.in_ok-note.note c.in_ok-answer.answer
    (c.in_ok-answer.ensures world layer.documents.now table)
    (c.in_ok-note.ensures world layer.documents.now table setting) in
    carry.note_known _ _ (pushes layer.documents.now c.args.name.now c.in_ok-answer.answer) _ _ _ _
    layer.carried told c.begin.ensures.either (λ w agrees. sym (c.in_ok-answer.ensures w layer.documents.now
    (layer.tabled w (agrees_before w _ _ layer.grown agrees))))
    (carry.froms_allowed _ _ layer.documents.now c.in_ok-answer.answer layer.given layer.grown
    (told_froms world layer.documents.now c.args.name.now c.in_ok-answer.answer
    (c.in_ok-answer.ensures world layer.documents.now table)))

pub invariant_of-self-clause-passed : goal.invariant_of-self-clause-passed
invariant_of-self-clause-passed g c =
    let layer = c.args.self.now in
    let world = (g.K.Reader.stand layer.lower.now).world in
    let table = layer.tabled world (agrees_before world _ _ layer.grown (g.met.K.Reader.agrees layer.lower.now)) in
    let setting = made_for layer.documents.now layer.pages.now g.S.LogStart.stand.setting in
    let told = pushes_told setting world c.args.name.now c.in_ok-note.note c.in_ok-answer.answer
    (c.in_ok-answer.ensures world layer.documents.now table)
    (c.in_ok-note.ensures world layer.documents.now table setting) in
    let among = told_froms world layer.documents.now c.args.name.now c.in_ok-answer.answer
    (c.in_ok-answer.ensures world layer.documents.now table) in
    pass.note_known _ _ _ (pushes layer.documents.now c.args.name.now c.in_ok-answer.answer) _ _ _ _
    layer.passed told c.begin.ensures.either (λ rule m plan here. among.each m (plan.pushes _ _ _ m here))

pub returns-clause-told : goal.returns-clause-told
returns-clause-told g c =
    let layer = c.args.self.now in
    let world = (g.K.Reader.stand layer.lower.now).world in
    let table = layer.tabled world (agrees_before world _ _ layer.grown (g.met.K.Reader.agrees layer.lower.now)) in
    let setting = made_for layer.documents.now layer.pages.now g.S.LogStart.stand.setting in
    let told = pushes_told setting world c.args.name.now c.in_ok-note.note c.in_ok-answer.answer
    (c.in_ok-answer.ensures world layer.documents.now table)
    (c.in_ok-note.ensures world layer.documents.now table setting) in
    ap (told_onto setting g.S.LogStart.told) c.in_ok-begin.ensures.ok
    ∙ ap (λ t. t ∷ told_onto setting g.S.LogStart.told layer.asked.now) told

pub returns-in_err-answer-clause-stand : goal.returns-in_err-answer-clause-stand
returns-in_err-answer-clause-stand g c = refl

pub returns-in_err-answer-clause-founded : goal.returns-in_err-answer-clause-founded
returns-in_err-answer-clause-founded g c = stays_same _ _ _ refl

pub returns-in_err-answer-clause-asks : goal.returns-in_err-answer-clause-asks
returns-in_err-answer-clause-asks g c = asks_same _ _ _ _ refl

pub returns-in_err-answer-clause-grows : goal.returns-in_err-answer-clause-grows
returns-in_err-answer-clause-grows g c = grows_same _

pub returns-in_err-note-clause-stand : goal.returns-in_err-note-clause-stand
returns-in_err-note-clause-stand g c = refl

pub returns-in_err-note-clause-founded : goal.returns-in_err-note-clause-founded
returns-in_err-note-clause-founded g c = stays_same _ _ _ refl

pub returns-in_err-note-clause-asks : goal.returns-in_err-note-clause-asks
returns-in_err-note-clause-asks g c = asks_same _ _ _ _ refl

pub returns-in_err-note-clause-grows : goal.returns-in_err-note-clause-grows
returns-in_err-note-clause-grows g c = grows_same _

pub returns-in_err-begin-clause-stand : goal.returns-in_err-begin-clause-stand
returns-in_err-begin-clause-stand g c = refl

pub returns-in_err-begin-clause-founded : goal.returns-in_err-begin-clause-founded
returns-in_err-begin-clause-founded g c =
    let layer = c.args.self.now in
    let world = (g.K.Reader.stand layer.lower.now).world in
    let table = layer.tabled world (agrees_before world _ _ layer.grown (g.met.K.Reader.agrees layer.lower.now)) in
    let setting = made_for layer.documents.now layer.pages.now g.S.LogStart.stand.setting in
    let told = pushes_told setting world c.args.name.now c.in_ok-note.note c.in_ok-answer.answer
    (c.in_ok-answer.ensures world layer.documents.now table)
    (c.in_ok-note.ensures world layer.documents.now table setting) in
    stays_tried setting g.S.LogStart.told c.in_ok-note.note (c.args.name.now ∷ []) _ _ (ap names_asked told)
    c.begin.ensures.either

pub returns-in_err-begin-clause-asks : goal.returns-in_err-begin-clause-asks
returns-in_err-begin-clause-asks g c =
    let layer = c.args.self.now in
    let world = (g.K.Reader.stand layer.lower.now).world in
    let table = layer.tabled world (agrees_before world _ _ layer.grown (g.met.K.Reader.agrees layer.lower.now)) in
    let setting = made_for layer.documents.now layer.pages.now g.S.LogStart.stand.setting in
    let told = pushes_told setting world c.args.name.now c.in_ok-note.note c.in_ok-answer.answer
    (c.in_ok-answer.ensures world layer.documents.now table)
    (c.in_ok-note.ensures world layer.documents.now table setting) in
    asks_tried setting g.S.LogStart.told nothing c.in_ok-note.note [] _ _
    (ap documents_asked told) c.begin.ensures.either

pub returns-in_err-begin-clause-grows : goal.returns-in_err-begin-clause-grows
returns-in_err-begin-clause-grows g c =
    let layer = c.args.self.now in
    grows_tried (made_for layer.documents.now layer.pages.now g.S.LogStart.stand.setting) g.S.LogStart.told c.in_ok-note.note _ _
    c.begin.ensures.either

pub returns-clause-stand : goal.returns-clause-stand
returns-clause-stand g c = refl

pub returns-clause-founded : goal.returns-clause-founded
returns-clause-founded g c =
    let layer = c.args.self.now in
    let world = (g.K.Reader.stand layer.lower.now).world in
    let table = layer.tabled world (agrees_before world _ _ layer.grown (g.met.K.Reader.agrees layer.lower.now)) in
    let setting = made_for layer.documents.now layer.pages.now g.S.LogStart.stand.setting in
    let told = pushes_told setting world c.args.name.now c.in_ok-note.note c.in_ok-answer.answer
    (c.in_ok-answer.ensures world layer.documents.now table)
    (c.in_ok-note.ensures world layer.documents.now table setting) in
    stays_tried setting g.S.LogStart.told c.in_ok-note.note (c.args.name.now ∷ []) _ _ (ap names_asked told)
    c.begin.ensures.either

pub returns-clause-asks : goal.returns-clause-asks
returns-clause-asks g c =
    let layer = c.args.self.now in
    let world = (g.K.Reader.stand layer.lower.now).world in
    let table = layer.tabled world (agrees_before world _ _ layer.grown (g.met.K.Reader.agrees layer.lower.now)) in
    let setting = made_for layer.documents.now layer.pages.now g.S.LogStart.stand.setting in
    let told = pushes_told setting world c.args.name.now c.in_ok-note.note c.in_ok-answer.answer
    (c.in_ok-answer.ensures world layer.documents.now table)
    (c.in_ok-note.ensures world layer.documents.now table setting) in
    asks_tried setting g.S.LogStart.told nothing c.in_ok-note.note [] _ _
    (ap documents_asked told) c.begin.ensures.either

pub returns-clause-grows : goal.returns-clause-grows
returns-clause-grows g c =
    let layer = c.args.self.now in
    grows_tried (made_for layer.documents.now layer.pages.now g.S.LogStart.stand.setting) g.S.LogStart.told c.in_ok-note.note _ _
    c.begin.ensures.either
