use Rattle.std.proofs.Common.{refl}
use Rattle.dita_doc.proofs.Lists.{on_err}
use Rattle.version_store.proofs.store.Store.answer_with_reply.Goals as goal

-- without memory for the copy nothing has changed
pub returns-in_err-copy-clause-err : goal.returns-in_err-copy-clause-err
returns-in_err-copy-clause-err c = on_err c.from_residual-in_err-copy.result refl
