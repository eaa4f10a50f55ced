use Rattle.std.proofs.Common.{◌∙◌, ap, map, refl, subst, sym}
use Rattle.map_spec.specs.Branches.{copied}
use Rattle.map_spec.specs.MapTree.{MapNode, MapTree, NoNodes, plan_nodes}
use Rattle.plan_nodes.specs.Preorder.{without_end}
use Rattle.node_filter.specs.Domains.{shown}
use Rattle.branch_copies.specs.Read.{AreRead, HaveBranches}
use Rattle.branch_copies.specs.Originals.{IsSource}
use Rattle.branch_copies.specs.declared.node.Originals.{Originals}
use Rattle.branch_copies.proofs.EndLaws.{begun, ended_all, ends_of, finished, one_root, stopped}
use Rattle.branch_copies.proofs.copies.copy_all.Goals as goal

pub returns-in-Err-clause-copied : goal.returns-in-Err-clause-copied
returns-in-Err-clause-copied c = λ world head below defined kind are homes declared names read have.
    let tree : MapTree = MapNode head below NoNodes in
    let source : Originals = record {
      nodes = c.args.nodes;
      homes = c.args.homes;
      declared = c.into_vec.result;
      names = c.args.names;
      branches = c.deref.result;
      spans = c.deref-2.result;
      tables = c.in_ok-tables.field-0;
    } in
    let is : IsSource world source defined = record {
      ditavals = c.args.ditavals.now.read.items;
      homes = homes;
      declared = ap shown c.into_vec.ensures ∙ c.in_ok-each.ensures world declared;
      names = names;
      read = subst (λ all. AreRead c.args.ditavals.now.read.items c.args.nodes.now all defined)
          (sym c.deref.ensures.value) read;
      tables = c.in_ok-tables.ensures;
    } in
    stopped world tree c.in-Err.stop
    (c.in-Err.ensures.goes world defined (map without_end (plan_nodes (copied world tree))) is
    (begun world source defined tree c.in_ok-copying.copying _ c.in_ok-copying.ensures.made c.in_ok-copying.ensures.chains
    c.in_ok-copying.ensures.left are refl
    (subst (λ spans. HaveBranches world spans defined 0 tree) (sym c.deref-2.ensures.value) have)))

pub returns-clause-copied : goal.returns-clause-copied
returns-clause-copied c = λ world head below defined kind are homes declared names read have.
    let tree : MapTree = MapNode head below NoNodes in
    let source : Originals = record {
      nodes = c.args.nodes;
      homes = c.args.homes;
      declared = c.into_vec.result;
      names = c.args.names;
      branches = c.deref.result;
      spans = c.deref-2.result;
      tables = c.in_ok-tables.field-0;
    } in
    let is : IsSource world source defined = record {
      ditavals = c.args.ditavals.now.read.items;
      homes = homes;
      declared = ap shown c.into_vec.ensures ∙ c.in_ok-each.ensures world declared;
      names = names;
      read = subst (λ all. AreRead c.args.ditavals.now.read.items c.args.nodes.now all defined)
          (sym c.deref.ensures.value) read;
      tables = c.in_ok-tables.ensures;
    } in
    let x = c.run.new.self in
    let going = c.in-Ok.ensures.goes world defined (map without_end (plan_nodes (copied world tree))) is
    (begun world source defined tree c.in_ok-copying.copying _ c.in_ok-copying.ensures.made c.in_ok-copying.ensures.chains
    c.in_ok-copying.ensures.left are refl
    (subst (λ spans. HaveBranches world spans defined 0 tree) (sym c.deref-2.ensures.value) have)) in
    let all = ended_all world source defined x (map without_end (plan_nodes
    (copied world tree))) c.in-Ok.ensures.left going in
    finished world tree x.made.items c.in_ok-finish.field-0 all going.few
    (c.in_ok-finish.ensures (copied world tree) (one_root world head below kind)
    (ends_of x.made.items (copied world tree) all))
