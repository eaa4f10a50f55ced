use Rattle.std.proofs.Common.{sym, ap, subst, ◌∙◌, option_map, length, arith}
use Rattle.dita_doc.specs.Desk.{State, Stored, stored_under}
use Rattle.dita_doc.specs.Sources.{IsBlockFor, found_seen, document_seen}
use Rattle.dita_doc.proofs.NameOrder.{without_unfound}
use Rattle.dita_doc.proofs.BlockLaws.{found_there, without_block}
use Rattle.dita_doc.proofs.blocks.remove_among.Goals as goal

-- the block that the name belongs to lacks it
pub returns-in_default-clause-version : goal.returns-in_default-clause-version
returns-in_default-clause-version c =
    let name = c.args.name.now in
    let here = subst (λ all. IsBlockFor all name c.block_for-at.result) c.deref.ensures.value c.block_for-at.ensures in
    ap (option_map (λ (stored : Stored). stored.version))
    (ap found_seen (sym c.in_default.is) ∙ c.find.ensures
    ∙ ap (λ (held : State). stored_under held name) c.deref-2.ensures
    ∙ sym (found_there c.args.blocks.now.items name c.block_for-at.result here c.index.result.now c.index.ensures))

pub returns-in_default-clause-ok : goal.returns-in_default-clause-ok
returns-in_default-clause-ok c =
    let name = c.args.name.now in
    let here = subst (λ all. IsBlockFor all name c.block_for-at.result) c.deref.ensures.value c.block_for-at.ensures in
    sym (without_unfound name _
    (sym (ap found_seen (sym c.in_default.is) ∙ c.find.ensures
    ∙ ap (λ (held : State). stored_under held name) c.deref-2.ensures
    ∙ sym (found_there c.args.blocks.now.items name c.block_for-at.result here c.index.result.now c.index.ensures))))

-- its block has nothing else
pub returns-clause-version : goal.returns-clause-version
returns-clause-version c =
    let name = c.args.name.now in
    let here = subst (λ all. IsBlockFor all name c.block_for-at.result) c.deref.ensures.value c.block_for-at.ensures in
    ap (option_map (λ (stored : Stored). stored.version))
    (ap found_seen (sym c.in-Some.is) ∙ c.find.ensures
    ∙ ap (λ (held : State). stored_under held name) c.deref-2.ensures
    ∙ sym (found_there c.args.blocks.now.items name c.block_for-at.result here c.index.result.now c.index.ensures))

pub returns-clause-ok : goal.returns-clause-ok
returns-clause-ok c =
    let name = c.args.name.now in
    let here = subst (λ all. IsBlockFor all name c.block_for-at.result) c.deref.ensures.value c.block_for-at.ensures in
    let few = c.if-len-gt1.false in
    rw c.remove.ensures.items
    (without_block c.args.blocks.now.items name c.block_for-at.result here c.index.result.now c.index-2.result.now
    (document_seen c.in-Some.document.now) c.index.ensures c.index-2.ensures
    (omega (arith, c.len.ensures, ap length c.deref-3.ensures))
    (ap found_seen (sym c.in-Some.is) ∙ c.find.ensures
    ∙ ap (λ (held : State). stored_under held name) c.deref-2.ensures))
