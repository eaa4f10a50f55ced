use Rattle.std.proofs.Common.{◌∙◌, sym}
use Rattle.dita_doc.proofs.Lists.{on_ok}
use Rattle.conref_push.specs.Sight.{sight_of}
use Rattle.conref_push.proofs.GatherLaws.{gathered_found, gathered_nowhere}
use Rattle.conref_push.proofs.table.PushTable.put_one.Goals as goal

pub returns-in-Some-clause-known : goal.returns-in-Some-clause-known
returns-in-Some-clause-known g c = λ world all acting agrees gathered.
    c.put.ensures world all acting
    (gathered_found world all acting c.args.targets.now c.find.new.self c.args.self.now
    (c.in_ok-target.ensures.docs world agrees gathered.docs) c.in_ok-target.ensures.replaced gathered)
    (sym c.in-Some.is ∙ c.in_ok-target.ensures.known world agrees gathered.docs)

pub returns-in-None-clause-known : goal.returns-in-None-clause-known
returns-in-None-clause-known g c = λ world all acting agrees gathered.
    on_ok _ _ c.put_fault.result
    (λ tabled. gathered_nowhere world all acting (sight_of c.args.name.now c.args.pushing) c.args.targets.now
    c.find.new.self c.put_fault.new.self
    (sym c.in-None.is ∙ c.in_ok-target.ensures.known world agrees gathered.docs)
    (c.in_ok-target.ensures.docs world agrees gathered.docs) c.in_ok-target.ensures.replaced tabled gathered.replaced)
    (c.put_fault.ensures all acting gathered.tabled)

pub returns-in_err-target-clause-stand : goal.returns-in_err-target-clause-stand
returns-in_err-target-clause-stand g c = c.find.ensures.stand

pub returns-in_err-target-clause-founded : goal.returns-in_err-target-clause-founded
returns-in_err-target-clause-founded g c = c.find.ensures.founded

pub returns-in_err-target-clause-asks : goal.returns-in_err-target-clause-asks
returns-in_err-target-clause-asks g c = c.find.ensures.asks

pub returns-in_err-target-clause-grows : goal.returns-in_err-target-clause-grows
returns-in_err-target-clause-grows g c = c.find.ensures.grows

pub returns-in-Some-clause-stand : goal.returns-in-Some-clause-stand
returns-in-Some-clause-stand g c = c.find.ensures.stand

pub returns-in-Some-clause-founded : goal.returns-in-Some-clause-founded
returns-in-Some-clause-founded g c = c.find.ensures.founded

pub returns-in-Some-clause-asks : goal.returns-in-Some-clause-asks
returns-in-Some-clause-asks g c = c.find.ensures.asks

pub returns-in-Some-clause-grows : goal.returns-in-Some-clause-grows
returns-in-Some-clause-grows g c = c.find.ensures.grows

pub returns-in-None-clause-stand : goal.returns-in-None-clause-stand
returns-in-None-clause-stand g c = c.find.ensures.stand

pub returns-in-None-clause-founded : goal.returns-in-None-clause-founded
returns-in-None-clause-founded g c = c.find.ensures.founded

pub returns-in-None-clause-asks : goal.returns-in-None-clause-asks
returns-in-None-clause-asks g c = c.find.ensures.asks

pub returns-in-None-clause-grows : goal.returns-in-None-clause-grows
returns-in-None-clause-grows g c = c.find.ensures.grows
