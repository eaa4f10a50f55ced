use Rattle.std.proofs.Common.{List, length, map, ap, subst, sym, ◌∙◌}
use Rattle.dita_doc.specs.declared.plan.PlanNode.{PlanNode}
use Rattle.map_spec.specs.Cascade.{whole_at}
use Rattle.plan_nodes.specs.Preorder.{HasParentsBefore}
use Rattle.key_scopes.specs.Defined.{IsTableBy}
use Rattle.key_scopes.specs.Numbered.{AreNumbered, entries}
use Rattle.key_scopes.proofs.MadeLaws.{all_faults, all_own, all_places}
use Rattle.key_scopes.proofs.TreeLaws.{tree_parents}
use Rattle.key_scopes.proofs.made.scopes_in.Goals as goal

pub returns : goal.returns
returns c = λ world homes tree.
    let nodes = c.args.nodes in
    let same = c.as_slice.ensures in
    let known = c.in_ok-scopes.field-0 in
    let numbered = subst (λ (all : List PlanNode). AreNumbered world all (length all) known) same
    (c.in_ok-scopes.ensures world (homes ∙ ap (map (whole_at world)) (sym same))
    (subst HasParentsBefore (sym same) (tree_parents nodes tree))) in
    record {
      nodes = c.in_ok-scoped.ensures (c.deref.ensures.value ∙ all_places world nodes known numbered);
      faults = all_faults world nodes known numbered;
      table = all_own world nodes known numbered tree c.in_ok-table.table
          (subst (λ count. IsTableBy count known.scopes (entries known.written.items) c.in_ok-table.table)
          c.len.ensures.length c.in_ok-table.ensures);
    }
