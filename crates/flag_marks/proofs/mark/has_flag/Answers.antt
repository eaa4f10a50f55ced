use Rattle.std.proofs.Common.{List, Bor, ◌∙◌, rules, tests}
use Rattle.std.proofs.lemmas.Iterator.{YieldsList-from_slice}
use Rattle.std.proofs.lemmas.Iterator.Search.{any_from_yields_List}
use Rattle.dita_doc.specs.declared.content.Rule.{Rule}
use Rattle.flag_marks.specs.Marks.{have_flag}
use Rattle.ditaval_rules.proofs.ShownLaws.{any_shown}
use Rattle.flag_marks.proofs.mark.has_flag.Goals as goal

pub returns : goal.returns
returns c =
    any_from_yields_List (λ (some : Bor (List Rule)). have_flag some.now) _ _ c.any.result c.any.ensures.ran
    (YieldsList-from_slice _ c.iter.ensures.rest) (λ x b q k. search (rules, tests))
    ∙ any_shown have_flag c.args.tables.now
