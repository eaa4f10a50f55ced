use Rattle.std.proofs.Common.{subst, ◌||◌, IfOk, List}
use Rattle.dita_doc.specs.declared.plan.PlanNode.{PlanNode}
use Rattle.readers.specs.Founded.{homes}
use Rattle.readers.specs.Only.{TellsOnly, is_document_of, is_title_at}
use Rattle.readers.proofs.DocumentLaws.{homes_asked}
use Rattle.readers.proofs.FoundedLaws.{homes_founded}
use Rattle.key_answers.proofs.given.answer.Goals as goal

pub returns-clause-only : goal.returns-clause-only
returns-clause-only g c = subst (λ (nodes : List PlanNode). IfOk c.answer_asked.result (λ answer.
    TellsOnly (λ t. is_document_of (homes nodes) t || is_title_at answer.target t)
    (g.T.Reader.told c.args.asker.now) (g.T.Reader.told c.answer_asked.new.asker)))
    c.as_slice.ensures c.answer_asked.ensures.only

pub returns-clause-founded : goal.returns-clause-founded
returns-clause-founded g c = homes_founded _ _ _ _ c.as_slice.ensures c.answer_asked.ensures.founded

pub returns-clause-asks : goal.returns-clause-asks
returns-clause-asks g c = homes_asked _ _ _ _ c.as_slice.ensures c.answer_asked.ensures.asks
