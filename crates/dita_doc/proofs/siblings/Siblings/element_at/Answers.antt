use Rattle.std.proofs.Common.{◌∙◌, refl, ap, arith, length}
use Rattle.dita_doc.specs.Tree.{content_of}
use Rattle.dita_doc.proofs.PlaceLaws.{preorder_there, element_there, nothing_there, no_element, part_there}
use Rattle.dita_doc.proofs.TreeLaws.{all_within}
use Rattle.dita_doc.proofs.siblings.Siblings.element_at.Goals as goal

pub returns-in_err-nodes : goal.returns-in_err-nodes
returns-in_err-nodes c =
    let all = ap length c.as_slice.ensures in
    rw c.from_residual.ensures (nothing_there c.args.doc.now.nodes c.args.place c.args.doc.now.tree
    (omega (arith, c.in_err-nodes.ensures.lookup.0)))

pub invariant_of-from : goal.invariant_of-from
invariant_of-from c =
    let told = c.in_ok-nodes.ensures.lookup.0 in
    let part = part_there c.args.doc.now.nodes c.as_slice.result.now c.in_ok-nodes.nodes.now c.args.place
    c.as_slice.ensures told.2 in
    let all = ap length c.as_slice.ensures in
    record {
      within = rw part (all_within c.args.doc.now.nodes c.args.place);
      tree = rw part (preorder_there c.args.doc.now.nodes c.args.place c.args.doc.now.tree);
      small = omega arith;
    }

pub returns-in_default : goal.returns-in_default
returns-in_default c =
    let told = c.in_ok-nodes.ensures.lookup.0 in
    let part = part_there c.args.doc.now.nodes c.as_slice.result.now c.in_ok-nodes.nodes.now c.args.place
    c.as_slice.ensures told.2 in
    let first = content_of c.in_ok-nodes.nodes.now c.args.place in
    element_there c.args.doc.now.nodes c.in_ok-nodes.nodes.now c.args.place first c.args.doc.now.tree part refl
    ∙ no_element first c.split_first.result c.split_first.ensures.content c.in_default.not-Element

pub returns : goal.returns
returns c =
    let told = c.in_ok-nodes.ensures.lookup.0 in
    let part = part_there c.args.doc.now.nodes c.as_slice.result.now c.in_ok-nodes.nodes.now c.args.place
    c.as_slice.ensures told.2 in
    record {
      element = element_there c.args.doc.now.nodes c.in_ok-nodes.nodes.now c.args.place _ c.args.doc.now.tree part
          c.in-Element.ensures.content;
      here = rw c.in-Element.ensures.place at c.in-Element.ensures.node;
      within = c.in-Element.ensures.document.0;
    }
