use Rattle.key_answers.proofs.EnoughLaws.{chain_enough}
use Rattle.key_answers.proofs.chain.chain_of.Goals as goal

pub returns-clause-enough : goal.returns-clause-enough
returns-clause-enough c = λ world more are.
    chain_enough world c.args.defined.nodes.now c.args.scope c.args.key.now more c.followed.result
    (c.followed.ensures world are)
