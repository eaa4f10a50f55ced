use Rattle.std.proofs.Common.{List, Bor, ◌∙◌, ap, rules, tests}
use Rattle.std.proofs.lemmas.Iterator.{YieldsList-from_slice}
use Rattle.std.proofs.lemmas.Iterator.Search.{any_from_yields_List}
use Rattle.dita_doc.specs.Shown.{shown}
use Rattle.dita_doc.specs.declared.content.Rule.{Rule}
use Rattle.ditaval_rules.specs.Verdict.{excluded}
use Rattle.conref_targets.specs.Rules.{some_exclude}
use Rattle.ditaval_rules.proofs.ShownLaws.{any_shown}
use Rattle.conref_targets.proofs.rules.PageRules.exclude.Goals as goal

pub returns : goal.returns
returns c =
    let declared = c.args.declared.now in
    let attributes = c.args.attributes.now in
    any_from_yields_List (λ (table : Bor (List Rule)). excluded table.now declared attributes) _ _ c.any.result
    c.any.ensures.ran (YieldsList-from_slice _ c.iter.ensures.rest) (λ x b q k. search (rules, tests))
    ∙ any_shown (λ (table : List Rule). excluded table declared attributes) c.deref.result.now
    ∙ ap (λ (tables : List (Bor (List Rule))). some_exclude (shown tables) declared attributes) c.deref.ensures.value
    ∙ ap (λ (all : List (List Rule)). some_exclude all declared attributes) c.self.view_is
