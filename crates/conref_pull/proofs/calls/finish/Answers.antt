use Rattle.std.proofs.Common.{Result, OnOk, refl, sym, subst}
use Rattle.std.proofs.lemmas.Result.{on_ok_weaker}
use Rattle.dita_doc.specs.declared.stop.Stop.{Stop}
use Rattle.map_spec.specs.Written.{End}
use Rattle.conref_targets.specs.Hrefs.{HaveNamed}
use Rattle.conref_targets.proofs.AskingLaws.{about_same}
use Rattle.conref_pull.specs.PutHrefs.{PutNamed}
use Rattle.conref_pull.specs.Putting.{built}
use Rattle.conref_pull.specs.Resolved.{HasMemory, IsDone}
use Rattle.conref_pull.specs.declared.resolver.TooMany.{TooMany}
use Rattle.conref_pull.proofs.HrefLaws.{filled_named}
use Rattle.conref_pull.proofs.MetLaws.{asks_same}
use Rattle.conref_pull.proofs.calls.finish.Goals as goal

pub returns-in-Err-clause-known : goal.returns-in-Err-clause-known
returns-in-Err-clause-known g c = λ world made agrees done.
    c.stopped.ensures.known world made agrees
    (subst (λ (d : Result (Unit {0}) (Stop TooMany)). IsDone d made c.args.resolver) c.in-Err.is done)

pub returns-in-Err-clause-memory : goal.returns-in-Err-clause-memory
returns-in-Err-clause-memory g c = on_ok_weaker c.stopped.result
    (λ room. subst (λ (d : Result (Unit {0}) (Stop TooMany)). HasMemory d) (sym c.in-Err.is) room) c.stopped.ensures.memory

pub returns-in-Ok-clause-hrefs : goal.returns-in-Ok-clause-hrefs
returns-in-Ok-clause-hrefs g c = λ told done.
    subst (HaveNamed told) (sym c.finish.ensures.content)
    (filled_named told (built c.args.resolver) End
    (subst (λ (d : Result (Unit {0}) (Stop TooMany)). OnOk d (PutNamed told c.args.resolver)) c.in-Ok.is done) tt)

pub returns-in-Err-clause-asks : goal.returns-in-Err-clause-asks
returns-in-Err-clause-asks g c = c.stopped.ensures.asks

pub returns-in-Ok-clause-asks : goal.returns-in-Ok-clause-asks
returns-in-Ok-clause-asks g c = λ nodes. about_same nodes _ _ _ refl

pub returns-in-Err-clause-only : goal.returns-in-Err-clause-only
returns-in-Err-clause-only g c = c.stopped.ensures.only

pub returns-in-Ok-clause-only : goal.returns-in-Ok-clause-only
returns-in-Ok-clause-only g c = λ page agrees at. asks_same page _ _ refl
