use Rattle.std.proofs.Common.{sym, ap, subst, ◌∙◌}
use Rattle.dita_doc.specs.Desk.{State, stored_under}
use Rattle.dita_doc.specs.Sources.{IsBlockFor}
use Rattle.dita_doc.proofs.BlockLaws.{found_there}
use Rattle.dita_doc.proofs.sources.Sources.find.Goals as goal

pub returns : goal.returns
returns c =
    let name = c.args.name.now in
    let here = subst (λ all. IsBlockFor all name c.block_for.result) c.deref.ensures.value c.block_for.ensures in
    c.find.ensures
    ∙ ap (λ (held : State). stored_under held name) c.deref-2.ensures
    ∙ sym (found_there c.self.inside.blocks.items name c.block_for.result here c.index.result.now c.index.ensures)
    ∙ ap (λ (held : State). stored_under held name) c.self.view_is
