use Rattle.std.proofs.Common.{◌∙◌, ap}
use Rattle.std.specs.Prelude.{slice_get}
use Rattle.map_spec.specs.Branches.{branched}
use Rattle.map_spec.specs.Included.{map_node_limit}
use Rattle.map_spec.specs.MapTree.{MapNode, MapTree, NoNodes}
use Rattle.branch_copies.proofs.EndLaws.{stop_same, with_faults}
use Rattle.branch_copies.proofs.copies.copy_read.Goals as goal

pub returns-in-Err-clause-copied : goal.returns-in-Err-clause-copied
returns-in-Err-clause-copied c = λ world head below kind are homes declared read.
    let tree : MapTree = MapNode head below NoNodes in
    stop_same (branched map_node_limit world tree) c.in-Err.stop
    (c.in-Err.ensures.copied world head below read.defined kind are homes declared
    (λ parent at h b more stands. ap (λ names. slice_get names at) c.deref.ensures.value
    ∙ c.in_ok-names.ensures world parent at h b more homes stands)
    read.are read.have)

pub returns-clause-copied : goal.returns-clause-copied
returns-clause-copied c = λ world head below kind are homes declared read.
    let tree : MapTree = MapNode head below NoNodes in
    with_faults world tree c.in-Ok.copies c.args.read.faults read.faults
    (c.in-Ok.ensures.copied world head below read.defined kind are homes declared
    (λ parent at h b more stands. ap (λ names. slice_get names at) c.deref.ensures.value
    ∙ c.in_ok-names.ensures world parent at h b more homes stands)
    read.are read.have)
