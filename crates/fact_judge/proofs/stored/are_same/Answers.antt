use Rattle.std.proofs.lemmas.Bool.Decides.{Decides-at}
use Rattle.fact_judge.proofs.EqLaws.{nodes_decide}
use Rattle.fact_judge.proofs.stored.are_same.Goals as goal

pub returns-then-len : goal.returns-then-len
returns-then-len c =
    Decides-at c.eq.result _ c.eq.ensures (nodes_decide c.args.one.now.nodes c.args.other.now.nodes)
