use Rattle.std.specs.Option.{option_copied}
use Rattle.std.specs.Prelude.{nat_le}
use Rattle.std.proofs.Common.{sym, ap, ◌∙◌}
use Rattle.dita_doc.proofs.Tests.{not_false, not_true}
use Rattle.part_spec.specs.Parts.{total_limit}
use Rattle.reader_spec.specs.World.{world_of}
use Rattle.clean_build.proofs.TermLaws.{not_wanted, page_made, too_large}
use Rattle.clean_build.proofs.terms.terms_page.Goals as goal

pub returns-then-not-with_terms : goal.returns-then-not-with_terms
returns-then-not-with_terms c = not_wanted c.args.with_terms (world_of c.args.sources.now) c.args.ground.plan.now
    (option_copied c.args.ground.val) c.if-not-with_terms.true

pub returns-then-is_too_large : goal.returns-then-is_too_large
returns-then-is_too_large c = too_large c.args.with_terms (world_of c.args.sources.now) c.args.ground.plan.now
    (option_copied c.args.ground.val)
    (ap (λ total. nat_le total total_limit) (sym c.requires.gathered.put.total)
    ∙ not_true _ _ c.if-is_too_large.true c.is_too_large.ensures)

pub returns : goal.returns
returns c = page_made c.args.with_terms (world_of c.args.sources.now) c.args.ground.plan.now
    (option_copied c.args.ground.val) c.args.terms.now c.in_ok-page.page c.if-not-with_terms.false
    (ap (λ total. nat_le total total_limit) (sym c.requires.gathered.put.total)
    ∙ not_false _ _ c.if-is_too_large.false c.is_too_large.ensures)
    c.requires.terms c.in_ok-page.ensures.made
