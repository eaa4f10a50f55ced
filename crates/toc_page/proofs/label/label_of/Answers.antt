use Rattle.toc_page.proofs.LabelLaws.{label_other, label_own, ok_as}
use Rattle.toc_page.proofs.label.label_of.Goals as goal

pub returns-then-navtitle_counts-clause-known : goal.returns-then-navtitle_counts-clause-known
returns-then-navtitle_counts-clause-known g c = λ world agrees is there title.
    label_own world c.args.toc.plan.now c.args.at c.args.node.now c.args.toc.homes.now c.args.navtitle
    c.navtitle_counts.result is.homes there title c.navtitle_counts.ensures c.if-navtitle_counts.true

pub returns-clause-known : goal.returns-clause-known
returns-clause-known g c = λ world agrees is there title.
    ok_as c.label_by_target.result _ _
    (label_other world c.args.toc.plan.now c.args.at c.args.node.now c.args.toc.homes.now c.args.navtitle
    c.navtitle_counts.result is.homes there title c.navtitle_counts.ensures c.if-navtitle_counts.false)
    (c.label_by_target.ensures.known world agrees is there)
