use Rattle.std.proofs.Common.{List, take, ap, ◌∙◌}
use Rattle.std.proofs.lemmas.Result.{IfOk-weaker}
use Rattle.dita_doc.specs.declared.doc.Node.{Node}
use Rattle.conref_targets.specs.Around.{entered_all, nothing_around}
use Rattle.conref_targets.proofs.StandingLaws.{standing_there, take_least}
use Rattle.conref_targets.proofs.standing.NodeStanding.at.Goals as goal

pub returns : goal.returns
returns c = IfOk-weaker c.behind.result _ _ (λ standing is. is
    ∙ ap (λ (ns : List Node). entered_all c.args.place ns nothing_around)
    (take_least c.as_slice-nodes.result.now c.args.place c.min-count.result c.min-count.ensures
    ∙ ap (take c.args.place) c.as_slice-nodes.ensures)
    ∙ standing_there c.args.doc.now c.args.place) c.behind.ensures
