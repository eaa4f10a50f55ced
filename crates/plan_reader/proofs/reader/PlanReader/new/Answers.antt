use Rattle.std.proofs.Common.{List, [], ap, subst, sym}
use Rattle.plan_reader.specs.Made.{made_for}
use Rattle.reader_spec.specs.World.{world_of}
use Rattle.readers.specs.Noted.{told_onto}
use Rattle.readers.specs.Told.{Agrees}
use Rattle.readers.specs.declared.questions.Note.{Note}
use Rattle.plan_reader.proofs.ToldLaws.{kept_there, tables_there}
use Rattle.plan_reader.proofs.reader.PlanReader.new.Goals as goal

pub with_titles-requires : goal.with_titles-requires
with_titles-requires c = c.requires.goes_on.titles

pub invariant_of-result-clause-agreed : goal.invariant_of-result-clause-agreed
invariant_of-result-clause-agreed c = subst (λ (notes : List Note). Agrees (world_of c.with_titles.result.sources.now)
    (told_onto (made_for c.args.nodes.now c.args.documents.now c.args.pages.now) [] notes)) (sym c.new.ensures) tt

pub invariant_of-result-clause-tabled : goal.invariant_of-result-clause-tabled
invariant_of-result-clause-tabled c = tables_there _ _ (ap world_of c.with_titles.ensures) _ _ _ _ c.requires.tables

pub invariant_of-result-clause-made : goal.invariant_of-result-clause-made
invariant_of-result-clause-made c = c.new-2.ensures _ _

pub invariant_of-result-clause-kept : goal.invariant_of-result-clause-kept
invariant_of-result-clause-kept c = kept_there _ _ (ap world_of c.with_titles.ensures) _ _ c.requires.goes_on.kept
