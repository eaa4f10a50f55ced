use Rattle.std.proofs.Common.{List, subst, sym}
use Rattle.readers.specs.declared.questions.Note.{Note}
use Rattle.source_reader.specs.Stored.{AreAnswers}
use Rattle.plan_reader.proofs.calls.answer_aside.Goals as goal

pub invariant_of-aside : goal.invariant_of-aside
invariant_of-aside c = record {
  agreed = subst (λ (notes : List Note). AreAnswers c.args.known.now.sources.now notes) (sym c.new-asked.ensures) tt;
}
