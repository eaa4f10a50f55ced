use Rattle.std.proofs.Common.{List, ℕ, ◌++◌, ap, sym, ◌∙◌}
use Rattle.dita_doc.specs.Tree.{tree_of}
use Rattle.readers.specs.Named.{named_tree}
use Rattle.conref_targets.specs.Parts.{ends_from, whole}
use Rattle.conref_targets.proofs.EndLaws.{all_ends, doc_size}
use Rattle.conref_targets.proofs.tables.ends_in.Goals as goal

pub returns : goal.returns
returns c = c.in_ok-put_ends.ensures (tree_of c.args.doc.now.nodes) whole (doc_size c.args.doc.now ∙ sym c.len.ensures.length)
    ∙ ap (λ (es : List ℕ). es ++ ends_from c.len.result 0 (named_tree c.args.doc.now)) c.new-ends.ensures.items
    ∙ all_ends c.args.doc.now c.len.result c.len.ensures.length
