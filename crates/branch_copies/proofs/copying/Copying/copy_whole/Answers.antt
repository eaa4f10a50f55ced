use Rattle.std.proofs.Common.{ap, refl, ◌∙◌}
use Rattle.std.specs.Prelude.{◌+◌, ◌++◌, ◌∷◌, [], Vec}
use Rattle.std.specs.declared.alloc.Global.{Global}
use Rattle.map_spec.specs.Branches.{copied, with_scope_names}
use Rattle.branch_copies.specs.Going.{chains_of, first_copied}
use Rattle.branch_copies.specs.Leaves.{around}
use Rattle.branch_copies.specs.Through.{marked_by, through}
use Rattle.branch_copies.specs.declared.work.Walk.{Walk}
use Rattle.branch_copies.specs.declared.work.Work.{Work}
use Rattle.branch_copies.specs.declared.work.Work.TheVariants as works
use Rattle.branch_copies.proofs.StepLaws.{full_over, inside_makes, named_node, node_same, whole_tree}
use Rattle.branch_copies.proofs.copying.Copying.copy_whole.Goals as goal

pub returns-in-Err-clause-goes : goal.returns-in-Err-clause-goes
returns-in-Err-clause-goes c = λ world defined head below all is next none going.
    let source = c.args.source.now in
    let x = c.args.self.now in
    let walk = c.args.walk in
    let chain = around defined (chains_of x) walk.chain in
    full_over world source defined x c.in-Err.stop walk.parent (first_copied world defined x walk head below)
    (through world chain (copied world below)) (marked_by chain (with_scope_names world head below)) all
    (whole_tree world source defined x walk c.args.seen head below is next none) c.in-Err.ensures.full going

pub returns-clause-goes : goal.returns-clause-goes
returns-clause-goes c = λ world defined head below all is next none going.
    let source = c.args.source.now in
    let x = c.args.self.now in
    let walk = c.args.walk in
    let chain = around defined (chains_of x) walk.chain in
    let inside : Walk = record { at = walk.at + 1; end = c.args.seen.end; parent = c.in-Ok.place; chain = walk.chain } in
    node_same world source defined x
    (record { made = c.copy.new.self.made; chains = c.copy.new.self.chains; left = c.push.new.self })
    walk.parent (works.Walk inside) (first_copied world defined x walk head below)
    (through world chain (copied world below)) (marked_by chain (with_scope_names world head below)) _ all
    (whole_tree world source defined x walk c.args.seen head below is next none)
    (named_node world source defined x walk c.args.seen head below is next _ refl)
    (inside_makes world source defined x walk c.args.seen head below is next c.in-Ok.place)
    c.in-Ok.ensures.place c.in-Ok.ensures.room c.in-Ok.ensures.made c.in-Ok.ensures.chains
    (c.in_ok-push.ensures.items
    ∙ ap (λ (v : Vec Work Global). v.items ++ works.Walk inside ∷ []) c.in-Ok.ensures.left)
    going
