use Rattle.std.proofs.Common.{refl, subst}
use Rattle.std.proofs.lemmas.Result.{IfOk-weaker}
use Rattle.dita_doc.specs.declared.stop.Stop.{Stop}
use Rattle.conref_targets.proofs.AskingLaws.{about_same}
use Rattle.conref_pull.specs.Resolved.{IsStopped, too_many_faults}
use Rattle.conref_pull.specs.declared.resolver.TooMany.{TooMany}
use Rattle.conref_pull.proofs.CallLaws.{full_resolved}
use Rattle.conref_pull.proofs.calls.stopped.Goals as goal

pub returns-in-Fault-clause-known : goal.returns-in-Fault-clause-known
returns-in-Fault-clause-known g c = λ world made agrees is.
    IfOk-weaker c.too_many.result _ _
    (λ resolved full. full_resolved (too_many_faults world c.args.context.now.page.doc) made resolved
    (subst (λ (stop : Stop TooMany). IsStopped stop made) c.in-Fault.is is) full)
    (c.too_many.ensures.known world agrees)

pub returns-in-Fault-clause-asks : goal.returns-in-Fault-clause-asks
returns-in-Fault-clause-asks g c = c.too_many.ensures.asks

pub returns-in-NoMemory-clause-asks : goal.returns-in-NoMemory-clause-asks
returns-in-NoMemory-clause-asks g c = λ nodes. about_same nodes _ _ _ refl

pub returns-in-Fault-clause-only : goal.returns-in-Fault-clause-only
returns-in-Fault-clause-only g c = c.too_many.ensures.only
