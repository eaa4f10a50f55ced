use Rattle.std.proofs.Common.{◌≡◌, true, length, sym, subst, rules}
use Rattle.dita_doc.specs.Bytes.{Bytes}
use Rattle.dita_doc.specs.Tree.{ArePreorder, nodes_of, are_placed}
use Rattle.dita_doc.proofs.TreeLaws.{preorder_of_content}
use Rattle.pyx_text.specs.Read.{AreRead}
use Rattle.pyx_text.proofs.PlacedLaws.{placed_written}
use Rattle.pyx_text.proofs.ReadTrees.{kept_tree}
use Rattle.pyx_text.proofs.StateLaws.{nodes_of_text}
use Rattle.pyx_text.proofs.reader.PyxReader.finish.Goals as goal

pub invariant_of-result : goal.invariant_of-result
invariant_of-result c =
    let said = c.in_ok-nodes.ensures in
    let read : (text : Bytes) × AreRead c.in_ok-nodes.nodes text =
    nodes_of_text c.self.inside.state c.in_ok-nodes.nodes c.self.invariant said.tree said.spent in
    let done = read.1 in
    let one : length c.push.new.self ≡ 1 = search rules in
    record {
      tree = subst (λ nodes. ArePreorder nodes 0) (sym done.2) (preorder_of_content done.0 0);
      small = said.small;
      placed =
          subst (λ nodes. are_placed (length c.push.new.self) nodes ≡ true) (sym done.2)
          (subst (λ count. are_placed count (nodes_of done.0 0) ≡ true) (sym one)
          (placed_written done.0 0 done.1.written));
    }

pub returns-clause-kept : goal.returns-clause-kept
returns-clause-kept c =
    let said = c.in_ok-nodes.ensures in
    let read : (text : Bytes) × AreRead c.in_ok-nodes.nodes text =
    nodes_of_text c.self.inside.state c.in_ok-nodes.nodes c.self.invariant said.tree said.spent in
    kept_tree c.in_ok-nodes.nodes read.0 read.1
