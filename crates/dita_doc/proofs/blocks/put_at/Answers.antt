use Rattle.std.proofs.lemmas.Result.{on_ok_weaker, on_err_weaker, IfOk-weaker}
use Rattle.dita_doc.specs.Sources.{document_seen}
use Rattle.dita_doc.proofs.BlockLaws.{with_there, unchanged_there, more_there}
use Rattle.dita_doc.proofs.blocks.put_at.Goals as goal

pub returns-clause-ok : goal.returns-clause-ok
returns-clause-ok c =
    on_ok_weaker c.put_into.result
    (with_there c.args.blocks.now.items (document_seen c.args.document) c.args.at c.requires.here
    c.index_mut.result.now c.put_into.new.block c.index_mut.ensures.value) c.put_into.ensures.ok

pub returns-clause-err : goal.returns-clause-err
returns-clause-err c =
    on_err_weaker c.put_into.result
    (unchanged_there c.args.blocks.now.items c.args.document.name c.args.at c.requires.here
    c.index_mut.result.now c.put_into.new.block c.index_mut.ensures.value) c.put_into.ensures.err

pub returns-clause-count : goal.returns-clause-count
returns-clause-count c =
    IfOk-weaker c.put_into.result _ _
    (λ is_new. more_there c.args.blocks.now.items c.args.document.name c.args.at c.requires.here
    c.index_mut.result.now c.put_into.new.block _ c.index_mut.ensures.value) c.put_into.ensures.count
