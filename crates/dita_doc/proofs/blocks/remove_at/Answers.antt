use Rattle.std.proofs.Common.{sym, ap, ◌∙◌, option_map}
use Rattle.std.proofs.lemmas.Result.{on_ok_weaker, on_err_weaker, IfOk-weaker}
use Rattle.dita_doc.specs.Desk.{Stored}
use Rattle.dita_doc.proofs.BlockLaws.{found_there, without_there, unchanged_there, fewer_there}
use Rattle.dita_doc.proofs.blocks.remove_at.Goals as goal

pub returns-clause-version : goal.returns-clause-version
returns-clause-version c =
    IfOk-weaker c.remove_from.result _ _
    (λ version is. is ∙ ap (option_map (λ (stored : Stored). stored.version))
    (sym (found_there c.args.blocks.now.items c.args.name.now c.args.at c.requires.here
    c.index_mut.result.now c.index_mut.ensures.value))) c.remove_from.ensures.version

pub returns-clause-ok : goal.returns-clause-ok
returns-clause-ok c =
    on_ok_weaker c.remove_from.result
    (without_there c.args.blocks.now.items c.args.name.now c.args.at c.requires.here
    c.index_mut.result.now c.remove_from.new.block c.index_mut.ensures.value) c.remove_from.ensures.ok

pub returns-clause-err : goal.returns-clause-err
returns-clause-err c =
    on_err_weaker c.remove_from.result
    (unchanged_there c.args.blocks.now.items c.args.name.now c.args.at c.requires.here
    c.index_mut.result.now c.remove_from.new.block c.index_mut.ensures.value) c.remove_from.ensures.err

pub returns-clause-count : goal.returns-clause-count
returns-clause-count c =
    IfOk-weaker c.remove_from.result _ _
    (λ version. fewer_there c.args.blocks.now.items c.args.name.now c.args.at c.requires.here
    c.index_mut.result.now c.remove_from.new.block _ c.index_mut.ensures.value) c.remove_from.ensures.count
