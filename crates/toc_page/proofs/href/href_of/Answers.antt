use Rattle.std.proofs.Common.{ap, refl, sym}
use Rattle.html_spec.specs.Contents as contents
use Rattle.toc_page.proofs.LabelLaws.{href_is, no_target, ok_as}
use Rattle.toc_page.proofs.NameLaws.{targets_stay}
use Rattle.readers.proofs.OnlyLaws.{only_same}
use Rattle.toc_page.proofs.AskedLaws.{page_there}
use Rattle.toc_page.proofs.href.href_of.Goals as goal

pub returns-in-Some-clause-known : goal.returns-in-Some-clause-known
returns-in-Some-clause-known g c = λ world agrees pages there.
    ok_as c.href_by.result _ _
    (href_is (g.A.Reader.stand c.args.asker.now).setting.pages c.args.plan.now c.args.at c.args.node.now
    c.in-Some.target.now pages there c.in-Some.ensures)
    (c.href_by.ensures.known world agrees)

pub returns-in-Some-clause-founded : goal.returns-in-Some-clause-founded
returns-in-Some-clause-founded g c =
    targets_stay c.args.plan.now c.args.at c.in-Some.target.now _ _ c.in-Some.ensures c.href_by.ensures.founded

pub returns-in-None-clause-known : goal.returns-in-None-clause-known
returns-in-None-clause-known g c = λ world agrees pages there.
    sym (ap (contents.href_by c.args.plan.now c.args.at) (no_target c.args.plan.now c.args.at c.in-None.ensures))

pub returns-in-Some-clause-only : goal.returns-in-Some-clause-only
returns-in-Some-clause-only g c = λ there. page_there c.href_by.result c.args.plan.now c.args.at c.args.node.now
    c.in-Some.target.now _ _ there c.in-Some.ensures c.href_by.ensures.only

pub returns-in-None-clause-only : goal.returns-in-None-clause-only
returns-in-None-clause-only g c = λ there. only_same _ _ _ refl
