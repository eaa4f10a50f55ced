use Rattle.std.proofs.Common.{◌∙◌, ap, sym}
use Rattle.html_spec.specs.Contents as contents
use Rattle.toc_page.proofs.LabelLaws.{no_target, ok_as, target_is}
use Rattle.toc_page.proofs.NameLaws.{targets_stay}
use Rattle.toc_page.proofs.AskedLaws.{titles_there}
use Rattle.toc_page.proofs.label.label_by_target.Goals as goal

pub returns-in-Some-clause-known : goal.returns-in-Some-clause-known
returns-in-Some-clause-known g c = λ world agrees is there.
    let plan = c.args.toc.plan.now in
    let same = sym (target_is plan c.args.at c.in-Some.target.now c.in-Some.ensures) in
    ok_as c.label_by.result _ _ (ap (contents.label_by_target world plan c.args.node.now) same)
    (c.label_by.ensures.known world agrees is there same)

pub returns-in-Some-clause-founded : goal.returns-in-Some-clause-founded
returns-in-Some-clause-founded g c =
    targets_stay c.args.toc.plan.now c.args.at c.in-Some.target.now _ _ c.in-Some.ensures c.label_by.ensures.founded

pub returns-in-None-clause-known : goal.returns-in-None-clause-known
returns-in-None-clause-known g c = λ world agrees is there.
    let plan = c.args.toc.plan.now in
    c.new.ensures
    ∙ sym (ap (contents.label_by_target world plan c.args.node.now) (no_target plan c.args.at c.in-None.ensures))

pub returns-in-Some-clause-only : goal.returns-in-Some-clause-only
returns-in-Some-clause-only g c = titles_there c.label_by.result c.args.toc.plan.now c.args.at c.in-Some.target.now _ _
    c.in-Some.ensures c.label_by.ensures.only
