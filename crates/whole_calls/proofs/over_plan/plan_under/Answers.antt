use Rattle.std.specs.Prelude.{◌++◌, IfOk}
use Rattle.std.proofs.Common.{subst}
use Rattle.plan_layer.specs.Carried.{made_for}
use Rattle.readers.specs.Founded.{StaysFounded, homes}
use Rattle.readers.specs.Noted.{told_onto}
use Rattle.readers.specs.Setting.{Stand}
use Rattle.whole_calls.proofs.over_plan.plan_under.Goals as goal
use Rattle.readers.proofs.FoundedLaws.{stays_by, stays_when}

pub returns-clause-known : goal.returns-clause-known
returns-clause-known g c = λ world agrees.
    let layer = c.args.layer.now in
    subst (λ (s : Stand). IfOk c.run.result (g.W.PlanTask.makes c.args.work s.world world
    (made_for layer.documents.now layer.pages.now g.S.LogStart.stand.setting))) layer.stand
    (c.run.ensures.known world (c.run.new.asker.carried.agrees world agrees))

pub returns-clause-grows : goal.returns-clause-grows
returns-clause-grows g c = c.run.new.asker.grown

pub returns-clause-founded : goal.returns-clause-founded
returns-clause-founded g c =
    let start = g.S.LogStart.stand.setting in
    let first = c.args.layer.now in
    let last = c.run.new.asker in
    let names = homes start.nodes ++ g.W.PlanTask.about c.args.work in
    let above = told_onto (made_for last.documents.now last.pages.now start) g.S.LogStart.told last.asked.now in
    let stays = subst (λ notes. StaysFounded names
    (told_onto (made_for first.documents.now first.pages.now start) g.S.LogStart.told notes) above) c.requires.asked
    c.run.ensures.founded in
    stays_when _ _ _ last.grown (λ roots allowed founded.
    last.carried.founded roots founded (stays_by _ _ _ stays roots allowed founded))
