use Rattle.std.specs.Prelude.{List}
use Rattle.std.specs.Option.{option_copied}
use Rattle.std.proofs.Common.{sym, ap, subst, ◌∙◌}
use Rattle.clean_build.proofs.PageLaws.{page_there}
use Rattle.conref_targets.specs.Rules.{AreRules}
use Rattle.reader_spec.specs.World.{world_of}
use Rattle.clean_build.specs.Made.{page_behind}
use Rattle.dita_doc.specs.declared.fact.Part.TheVariants as parts
use Rattle.dita_doc.specs.declared.fault.Fault.{Fault}
use Rattle.dita_doc.specs.declared.question.Asked.{Asked}
use Rattle.map_spec.specs.Pushes.{pushed}
use Rattle.part_spec.specs.Parts.{rooms}
use Rattle.fact_maker.proofs.PartMadeLaws.{page_right}
use Rattle.fact_maker.specs.Made.{IsRightOf}
use Rattle.fact_maker.proofs.html_made.page_made.Goals as goal

pub returns-clause-right : goal.returns-clause-right
returns-clause-right c = λ fact is.
    let plan = c.args.ground.plan.now in
    let val = option_copied c.args.ground.val in
    let index = c.args.index in
    let page = c.page_at.result.now in
    let there = c.page_at.ensures in
    let done = c.in_ok-done.done in
    let html = done.made.html in
    subst (λ (own : List Asked). IsRightOf c.args.sources.now fact (parts.Page index) html own)
    (sym c.in_ok-asked.ensures)
    (page_right is c.args.tables.now c.requires.tables done.asked c.in_ok-done.ensures.agrees html index page
    c.args.links.now there c.requires.within c.requires.links
    (λ world agrees ready links. ((c.in_ok-done.ensures.known world agrees).page ready there links (record {
      rules = subst (AreRules (world_of c.args.sources.now)) (sym c.with_rules.ensures.rules) c.requires.go_on.rules;
      places = c.with_rules.ensures.places (pushed world plan.documents);
    })).html
    ∙ ap (λ (behind : List Fault). page_behind rooms world plan val index page behind)
    (c.in_ok-faults_by_row.ensures world links) ∙ page_there world plan val index page there)
    c.in_ok-done.ensures.founded c.in_ok-done.ensures.only)

pub returns-clause-go_on : goal.returns-clause-go_on
returns-clause-go_on c = record {
  cache = c.in_ok-done.ensures.goes_on;
  rules = subst (AreRules (world_of c.args.sources.now)) (sym c.into_rules-rules.ensures)
      ((c.in_ok-done.ensures.known (world_of c.args.sources.now) c.in_ok-done.ensures.agrees).rules
      (subst (AreRules (world_of c.args.sources.now)) (sym c.with_rules.ensures.rules) c.requires.go_on.rules));
}
