use Rattle.std.proofs.Common.{◌≡◌, ap, ◌∙◌, length, rules}
use Rattle.doc_maker.specs.Made.{ending, changed_at}
use Rattle.doc_maker.proofs.MadeLaws.{changed-set}
use Rattle.doc_maker.proofs.maker.set_end.Goals as goal

pub returns : goal.returns
returns c =
    let nodes = c.args.nodes.now.items in
    let count : c.len-end.result ≡ length nodes = search rules in
    changed-set nodes c.args.place (ending c.len-end.result) c.index_mut.result.now c.requires.inside
    c.index_mut.ensures.value
    ∙ ap (λ end. changed_at c.args.place (ending end) nodes) count
