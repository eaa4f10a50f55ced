use Rattle.std.proofs.Common.{ap, arith, map, ◌∙◌}
use Rattle.plan_nodes.specs.Preorder.{without_end}
use Rattle.readers.specs.Founded.{homes}
use Rattle.map_expand.proofs.AskedForLaws.{homes_kept}
use Rattle.map_expand.proofs.expansion.Expansion.finish.Goals as goal

pub returns-clause-homes : goal.returns-clause-homes
returns-clause-homes c =
    let nodes = c.into_vec-nodes.result in
    ap homes c.from_vec.ensures
    ∙ homes_kept nodes.len c.args.self.nodes nodes.items c.set_ends.new.nodes c.into_vec-nodes.ensures
    (omega (arith, nodes.ok.0)) (c.in_ok-set_ends.ensures.kept ∙ ap (map without_end) c.deref_mut.ensures.value)
