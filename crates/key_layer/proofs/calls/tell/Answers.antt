use Rattle.key_layer.proofs.calls.tell.Goals as goal

pub returns-clause-ok : goal.returns-clause-ok
returns-clause-ok c = c.in_ok-begin.ensures.ok

pub returns-clause-either : goal.returns-clause-either
returns-clause-either c = c.begin.ensures.either
