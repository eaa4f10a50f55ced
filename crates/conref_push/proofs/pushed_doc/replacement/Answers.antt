use Rattle.std.proofs.Common.{◌∙◌, ap, sym}
use Rattle.std.specs.Prelude.{true, false}
use Rattle.std.proofs.lemmas.List.{drop_all}
use Rattle.conref_push.specs.Making.{replacement}
use Rattle.conref_push.proofs.MakingLaws.{replace_more}
use Rattle.conref_push.proofs.pushed_doc.replacement.Goals as goal

pub loop-push-preserved : goal.loop-push-preserved
loop-push-preserved c =
    sym (replace_more c.args.group.now c.loop-push.push-index _ false c.loop-push-test.true c.push-item.is
    c.if-is_of_kind.ensures) ∙ c.loop-push.invariant

pub returns-then-is_of_kind : goal.returns-then-is_of_kind
returns-then-is_of_kind c =
    sym (replace_more c.args.group.now c.loop-push.push-index _ true c.loop-push-test.true c.push-item.is
    c.if-is_of_kind.ensures) ∙ c.loop-push.invariant

pub returns : goal.returns
returns c = sym (ap replacement (drop_all c.loop-push.push-index c.args.group.now c.loop-push-test.false))
    ∙ c.loop-push.invariant
