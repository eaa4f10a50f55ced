use Rattle.std.proofs.Common.{◌∙◌, ap, arith}
use Rattle.map_spec.specs.Pages.{with_affix}
use Rattle.page_names.proofs.BaseLaws.{affix_more, affixes_end}
use Rattle.page_names.proofs.base.with_affixes.Goals as goal

pub loop-affix-preserved : goal.loop-affix-preserved
loop-affix-preserved c =
    affix_more c.loop-affix.base c.in_ok-base.base c.args.path c.args.affixes.now c.loop-affix.affix-index
    c.affix-item.result c.loop-affix-test.true c.affix-item.is
    (c.in_ok-base.ensures ∙ ap (λ path. with_affix path c.affix-item.result) c.as_str.ensures) c.loop-affix.invariant

pub returns : goal.returns
returns c =
    affixes_end c.loop-affix.base c.args.path c.args.affixes.now c.loop-affix.affix-index (omega arith)
    c.loop-affix.invariant
