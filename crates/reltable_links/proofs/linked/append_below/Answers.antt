use Rattle.std.proofs.Common.{[], ◌++◌, ◌∙◌, append-nil, ap, refl, subst, sym, take}
use Rattle.std.proofs.lemmas.Bool.{and_right}
use Rattle.std.specs.Prelude.{false, filter, nat_lt}
use Rattle.dita_doc.specs.declared.content.LinkKind.TheVariants as links
use Rattle.dita_doc.proofs.Lists.{filter_none}
use Rattle.link_groups.specs.LinkLists.{HoldsLinks, links_to_nodes}
use Rattle.reltable_links.specs.Linked.{is_target, is_target_below}
use Rattle.reltable_links.proofs.BelowLaws.{done_more, none_before}
use Rattle.reltable_links.proofs.ReachLaws.{targets_more}
use Rattle.reltable_links.proofs.linked.append_below.Goals as goal

pub loop-cell-init : goal.loop-cell-init
loop-cell-init c = record {
  holds = λ own all rise order holds.
      subst (λ l. HoldsLinks own l c.args.links.now) (sym (
      ap (λ nodes. all ++ links_to_nodes own links.Related nodes)
      (filter_none (is_target_below []) (λ node. and_right node.is_target false refl) c.args.nodes.now)
      ∙ append-nil all)) holds;
  done = none_before;
}

pub loop-cell-preserved : goal.loop-cell-preserved
loop-cell-preserved c = record {
  holds = λ own all rise order holds.
      (let some = all ++ links_to_nodes own links.Related
      (filter (is_target_below (take c.loop-cell.cell-index c.args.cells.now)) c.args.nodes.now) in
      targets_more own all c.args.cells.now c.args.nodes.now c.loop-cell.cell-index _ c.loop-cell.done
      c.loop-cell-test.true c.loop-cell.invariant.done order rise c.append_targets.new.links
      (subst (λ nodes. HoldsLinks own (some ++ links_to_nodes own links.Related (filter is_target nodes))
      c.append_targets.new.links) (c.below.ensures rise)
      (c.in_ok-append_targets.ensures own some (c.loop-cell.invariant.holds own all rise order holds))));
  done = λ at.
      ap (nat_lt at) c.max-done.ensures
      ∙ done_more c.args.cells.now c.loop-cell.cell-index _ c.loop-cell.done c.loop-cell-test.true
      c.loop-cell.invariant.done at;
}
