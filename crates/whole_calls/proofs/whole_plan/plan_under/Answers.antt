use Rattle.std.proofs.Common.{subst}
use Rattle.std.specs.Option.{option_copied}
use Rattle.readers.specs.Founded.{StaysFounded}
use Rattle.readers.specs.Noted.{told_onto}
use Rattle.build_plan.specs.Documents.{build_names}
use Rattle.whole_calls.proofs.whole_plan.plan_under.Goals as goal
use Rattle.readers.proofs.FoundedLaws.{stays_by, stays_when}

pub returns-in-Ok-clause-known : goal.returns-in-Ok-clause-known
returns-in-Ok-clause-known g c = λ world agrees.
    c.in-Ok.ensures.known world (c.planned.new.asker.carried.agrees world agrees)

pub returns-in-Err-clause-known : goal.returns-in-Err-clause-known
returns-in-Err-clause-known g c = λ world agrees.
    c.in-Err.ensures.known world (c.planned.new.asker.carried.agrees world agrees)

pub returns-in-Ok-clause-founded : goal.returns-in-Ok-clause-founded
returns-in-Ok-clause-founded g c =
    let setting = g.S.LogStart.stand.setting in
    let last = c.planned.new.asker in
    let stays = subst (λ notes. StaysFounded (build_names c.args.map.now (option_copied c.args.val))
    (told_onto setting g.S.LogStart.told notes) (told_onto setting g.S.LogStart.told last.asked.now))
    c.requires.asked c.planned.ensures.founded in
    stays_when _ _ _ last.grown (λ roots allowed founded.
    last.carried.founded roots (stays_by _ _ _ stays roots allowed founded))

pub returns-in-Err-clause-founded : goal.returns-in-Err-clause-founded
returns-in-Err-clause-founded g c =
    let setting = g.S.LogStart.stand.setting in
    let last = c.planned.new.asker in
    let stays = subst (λ notes. StaysFounded (build_names c.args.map.now (option_copied c.args.val))
    (told_onto setting g.S.LogStart.told notes) (told_onto setting g.S.LogStart.told last.asked.now))
    c.requires.asked c.planned.ensures.founded in
    stays_when _ _ _ last.grown (λ roots allowed founded.
    last.carried.founded roots (stays_by _ _ _ stays roots allowed founded))
