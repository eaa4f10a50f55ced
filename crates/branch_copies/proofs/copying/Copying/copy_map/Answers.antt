use Rattle.std.proofs.Common.{ap, refl, ◌∙◌}
use Rattle.std.specs.Prelude.{◌++◌, ◌∷◌, [], Vec}
use Rattle.std.specs.declared.alloc.Global.{Global}
use Rattle.dita_doc.specs.declared.plan.PlanNode.{PlanNode}
use Rattle.map_spec.specs.Branches.{with_scope_names}
use Rattle.branch_copies.specs.Going.{chains_of, copies_left, first_copied}
use Rattle.branch_copies.specs.Leaves.{around, copies_of}
use Rattle.branch_copies.specs.Read.{branches_in}
use Rattle.branch_copies.specs.Through.{marked_by, through}
use Rattle.branch_copies.specs.declared.work.Work.{Work}
use Rattle.branch_copies.specs.declared.work.Work.TheVariants as works
use Rattle.branch_copies.proofs.StepLaws.{copies_make, full_over, map_tree, named_node, node_same}
use Rattle.branch_copies.proofs.copying.Copying.copy_map.Goals as goal

pub returns-in-Err-clause-goes : goal.returns-in-Err-clause-goes
returns-in-Err-clause-goes c = λ world defined head below all is next map some going.
    let source = c.args.source.now in
    let x = c.args.self.now in
    let walk = c.args.walk in
    let chain = around defined (chains_of x) walk.chain in
    full_over world source defined x c.in-Err.stop walk.parent (first_copied world defined x walk head below)
    (through world chain (copies_of world head below (branches_in defined c.args.seen.span)))
    (marked_by chain (with_scope_names world head below)) all
    (map_tree world source defined x walk c.args.seen head below is next some map) c.in-Err.ensures.full going

pub returns-clause-goes : goal.returns-clause-goes
returns-clause-goes c = λ world defined head below all is next map some going.
    let source = c.args.source.now in
    let x = c.args.self.now in
    let y = c.leave_copies.new.self in
    let walk = c.args.walk in
    let chain = around defined (chains_of x) walk.chain in
    let copies = works.Copies (copies_left walk c.args.seen c.in-Ok.place) in
    node_same world source defined x y walk.parent copies (first_copied world defined x walk head below)
    (through world chain (copies_of world head below (branches_in defined c.args.seen.span)))
    (marked_by chain (with_scope_names world head below)) _ all
    (map_tree world source defined x walk c.args.seen head below is next some map)
    (named_node world source defined x walk c.args.seen head below is next _ refl)
    (copies_make world source defined x walk c.args.seen head below is next c.in-Ok.place)
    c.in-Ok.ensures.place c.in-Ok.ensures.room
    (ap (λ (v : Vec PlanNode Global). v.items) c.in_ok-leave_copies.ensures.made ∙ c.in-Ok.ensures.made)
    (c.in_ok-leave_copies.ensures.chains ∙ c.in-Ok.ensures.chains)
    (c.in_ok-leave_copies.ensures.left ∙ ap (λ (v : Vec Work Global). v.items ++ copies ∷ []) c.in-Ok.ensures.left)
    going
