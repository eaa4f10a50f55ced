use Rattle.std.specs.Prelude.{List}
use Rattle.std.proofs.Common.{sym, subst}
use Rattle.dita_doc.specs.declared.fact.Part.TheVariants as parts
use Rattle.dita_doc.specs.declared.question.Asked.{Asked}
use Rattle.reader_spec.specs.World.{world_of}
use Rattle.fact_maker.proofs.PartMadeLaws.{contents_right}
use Rattle.fact_maker.specs.Made.{IsRightOf}
use Rattle.fact_maker.proofs.html_made.contents_made.Goals as goal

pub returns-clause-right : goal.returns-clause-right
returns-clause-right c = λ fact is.
    let done = c.in_ok-done.done in
    subst (λ (own : List Asked). IsRightOf c.args.sources.now fact parts.Contents done.made own)
    (sym c.in_ok-asked.ensures)
    (contents_right is c.args.tables.now c.requires.tables done.asked c.in_ok-done.ensures.agrees done.made
    c.in_ok-done.ensures.known c.in_ok-done.ensures.founded
    (c.in_ok-done.ensures.only (world_of c.args.sources.now) c.in_ok-done.ensures.agrees))
