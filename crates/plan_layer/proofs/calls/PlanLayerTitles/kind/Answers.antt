use Rattle.std.proofs.Common.{refl, [], ◌∷◌}
use Rattle.plan_layer.specs.Carried.{made_for}
use Rattle.plan_layer.proofs.CallLaws.{call_stand, put_asks, put_founded, put_grows, settled_asks, settled_founded, settled_grows, settled_told, tried_asks, tried_founded, tried_grows}
use Rattle.plan_layer.proofs.CarryLaws as carry
use Rattle.pushed_docs.proofs.MadeLaws.{memo_settled}
use Rattle.plan_layer.proofs.PassLaws as pass
use Rattle.plan_layer.proofs.calls.PlanLayerTitles.kind.Goals as goal

pub invariant_of-self-clause-made : goal.invariant_of-self-clause-made
invariant_of-self-clause-made g c = memo_settled _ _ _ c.ask_kind.new.self.memo.now _ _ _ _ _ c.in_ok-kind.ensures.ok
    c.settle.ensures (λ world. tt) (λ names. refl) c.ask_kind.new.self.made

pub invariant_of-self-clause-carried : goal.invariant_of-self-clause-carried
invariant_of-self-clause-carried g c =
    let last = c.ask_kind.new.self in
    carry.note_settled _ _ _ _ _ _ _ _ _ _ last.carried c.in_ok-kind.ensures.ok refl
    (c.in_ok-note.ensures (made_for last.documents.now last.pages.now g.S.LogStart.stand.setting)) c.settle.ensures
    c.in_ok-kind.ensures.below

pub invariant_of-self-clause-passed : goal.invariant_of-self-clause-passed
invariant_of-self-clause-passed g c =
    let last = c.ask_kind.new.self in
    pass.note_settled _ _ _ _ _ _ _ _ _ _ _ last.passed c.in_ok-kind.ensures.ok refl
    (c.in_ok-note.ensures (made_for last.documents.now last.pages.now g.S.LogStart.stand.setting)) c.settle.ensures
    c.in_ok-kind.ensures.below

pub returns-in_err-kind-clause-stand : goal.returns-in_err-kind-clause-stand
returns-in_err-kind-clause-stand g c = call_stand g.S.LogStart.stand.setting _ _ _ _ c.ask_kind.ensures.documents c.ask_kind.ensures.pages
    _ _ _ _ _ _ _ _
    c.ask_kind.ensures.stand c.ask_kind.ensures.same c.ask_kind.ensures.same_memo c.ask_kind.ensures.same_docs

pub returns-in_err-kind-clause-founded : goal.returns-in_err-kind-clause-founded
returns-in_err-kind-clause-founded g c = tried_founded g.S.LogStart.stand.setting _ _ _ _ _ c.ask_kind.ensures.documents c.ask_kind.ensures.pages
    _ _ _ (c.args.name.now ∷ []) refl c.in_err-kind.ensures.err

pub returns-in_err-kind-clause-asks : goal.returns-in_err-kind-clause-asks
returns-in_err-kind-clause-asks g c = tried_asks g.S.LogStart.stand.setting _ _ _ _ _ c.ask_kind.ensures.documents c.ask_kind.ensures.pages
    _ _ _ [] refl c.in_err-kind.ensures.err

pub returns-in_err-kind-clause-grows : goal.returns-in_err-kind-clause-grows
returns-in_err-kind-clause-grows g c = tried_grows g.S.LogStart.stand.setting _ _ _ _ _ c.ask_kind.ensures.documents c.ask_kind.ensures.pages
    _ _ _ c.in_err-kind.ensures.err

pub returns-in_err-note-clause-stand : goal.returns-in_err-note-clause-stand
returns-in_err-note-clause-stand g c = call_stand g.S.LogStart.stand.setting _ _ _ _ c.ask_kind.ensures.documents c.ask_kind.ensures.pages
    _ _ _ _ _ _ _ _
    c.ask_kind.ensures.stand c.ask_kind.ensures.same c.ask_kind.ensures.same_memo c.ask_kind.ensures.same_docs

pub returns-in_err-note-clause-founded : goal.returns-in_err-note-clause-founded
returns-in_err-note-clause-founded g c = put_founded g.S.LogStart.stand.setting _ _ _ _ _ c.ask_kind.ensures.documents c.ask_kind.ensures.pages
    _ _ _ (c.args.name.now ∷ []) refl c.in_ok-kind.ensures.ok

pub returns-in_err-note-clause-asks : goal.returns-in_err-note-clause-asks
returns-in_err-note-clause-asks g c = put_asks g.S.LogStart.stand.setting _ _ _ _ _ c.ask_kind.ensures.documents c.ask_kind.ensures.pages
    _ _ _ [] refl c.in_ok-kind.ensures.ok

pub returns-in_err-note-clause-grows : goal.returns-in_err-note-clause-grows
returns-in_err-note-clause-grows g c = put_grows g.S.LogStart.stand.setting _ _ _ _ _ c.ask_kind.ensures.documents c.ask_kind.ensures.pages
    _ _ _ c.in_ok-kind.ensures.ok

pub returns-clause-stand : goal.returns-clause-stand
returns-clause-stand g c = call_stand g.S.LogStart.stand.setting _ _ _ _ c.ask_kind.ensures.documents c.ask_kind.ensures.pages _ _ _ _ _ _ _ _
    c.ask_kind.ensures.stand c.ask_kind.ensures.same c.ask_kind.ensures.same_memo c.ask_kind.ensures.same_docs

pub returns-clause-told : goal.returns-clause-told
returns-clause-told g c = settled_told g.S.LogStart.stand.setting _ _ _ _ _ c.ask_kind.ensures.documents c.ask_kind.ensures.pages _ _ _ _ _ _
    (c.in_ok-note.ensures _) c.in_ok-kind.ensures.ok c.settle.ensures

pub returns-clause-founded : goal.returns-clause-founded
returns-clause-founded g c = settled_founded g.S.LogStart.stand.setting _ _ _ _ _ c.ask_kind.ensures.documents c.ask_kind.ensures.pages
    _ _ _ _ _ _
    (c.in_ok-note.ensures _) c.in_ok-kind.ensures.ok c.settle.ensures (c.args.name.now ∷ []) refl

pub returns-clause-asks : goal.returns-clause-asks
returns-clause-asks g c = settled_asks g.S.LogStart.stand.setting _ _ _ _ _ c.ask_kind.ensures.documents c.ask_kind.ensures.pages _ _ _ _ _ _
    (c.in_ok-note.ensures _) c.in_ok-kind.ensures.ok c.settle.ensures [] refl

pub returns-clause-grows : goal.returns-clause-grows
returns-clause-grows g c = settled_grows g.S.LogStart.stand.setting _ _ _ _ _ c.ask_kind.ensures.documents c.ask_kind.ensures.pages _ _ _ _ _ _
    (c.in_ok-note.ensures _) c.in_ok-kind.ensures.ok c.settle.ensures
