use Rattle.std.proofs.Common.{◌≡◌, ◌∙◌, arith, sym}
use Rattle.std.specs.Prelude.{false}
use Rattle.toc_page.specs.Toc.{needs_keys_in}
use Rattle.toc_page.proofs.LabelLaws.{below_more, needs_never}
use Rattle.toc_page.proofs.keys.needs_keys.Goals as goal

pub loop-at-preserved : goal.loop-at-preserved
loop-at-preserved c =
    below_more (λ k. needs_keys_in c.args.plan.now c.args.homes.now k ≡ false) c.loop-at.at c.loop-at.invariant
    (sym c.node_needs_keys.ensures ∙ c.if-node_needs_keys.false)

pub returns : goal.returns
returns c = λ at is.
    let long = c.len-count.ensures in
    needs_never c.args.plan.now c.args.homes.now c.loop-at.at c.loop-at.invariant
    (omega (arith, c.loop-at-test.false, long)) at
