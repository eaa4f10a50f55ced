use Rattle.std.proofs.Common.{◌∙◌, ap, refl, sym}
use Rattle.std.specs.Option.{option_copied}
use Rattle.readers.proofs.FoundedLaws.{stays_among}
use Rattle.link_groups.specs.LinkNodes.{names_of_pages, plan_names}
use Rattle.link_groups.proofs.ListLaws.{all_linked, none_linked}
use Rattle.link_groups.proofs.NodeLaws.{pages_among}
use Rattle.readers.proofs.OnlyLaws.{only_same}
use Rattle.link_groups.proofs.AskedLaws.{pages_titled}
use Rattle.link_groups.proofs.link_list.LinkList.written.Goals as goal

pub returns-in_default-clause-known : goal.returns-in_default-clause-known
returns-in_default-clause-known g c = λ world own all agrees holds.
    c.new.ensures
    ∙ none_linked world c.args.plan.now c.as_slice-pages.result.now own all c.args.self.now c.as_slice-pages.ensures holds
    (sym (ap option_copied c.in_default.is) ∙ c.page_at.ensures)

pub returns-in_err-written-clause-founded : goal.returns-in_err-written-clause-founded
returns-in_err-written-clause-founded g c =
    stays_among (names_of_pages c.as_slice-pages.result.now) (plan_names c.args.plan.now) _ _
    (λ m. pages_among c.args.plan.now c.as_slice-pages.result.now m c.as_slice-pages.ensures) c.all_written.ensures.founded

pub returns-clause-known : goal.returns-clause-known
returns-clause-known g c = λ world own all agrees holds.
    all_linked world c.args.plan.now c.as_slice-pages.result.now own all c.args.self.now c.in-Some.own.now
    c.deref.result.now c.in_ok-written.written c.as_slice-pages.ensures holds c.in-Some.ensures c.deref.ensures.value
    (c.in_ok-written.ensures.known world agrees)

pub returns-clause-founded : goal.returns-clause-founded
returns-clause-founded g c =
    stays_among (names_of_pages c.as_slice-pages.result.now) (plan_names c.args.plan.now) _ _
    (λ m. pages_among c.args.plan.now c.as_slice-pages.result.now m c.as_slice-pages.ensures) c.all_written.ensures.founded

pub returns-in_err-written-clause-stand : goal.returns-in_err-written-clause-stand
returns-in_err-written-clause-stand g c = c.all_written.ensures.stand

pub returns-in_err-written-clause-asks : goal.returns-in_err-written-clause-asks
returns-in_err-written-clause-asks g c = c.all_written.ensures.asks

pub returns-in_err-written-clause-grows : goal.returns-in_err-written-clause-grows
returns-in_err-written-clause-grows g c = c.all_written.ensures.grows

pub returns-clause-stand : goal.returns-clause-stand
returns-clause-stand g c = c.all_written.ensures.stand

pub returns-clause-asks : goal.returns-clause-asks
returns-clause-asks g c = c.all_written.ensures.asks

pub returns-clause-grows : goal.returns-clause-grows
returns-clause-grows g c = c.all_written.ensures.grows

pub returns-in_default-clause-only : goal.returns-in_default-clause-only
returns-in_default-clause-only g c = only_same _ _ _ refl

pub returns-clause-only : goal.returns-clause-only
returns-clause-only g c =
    pages_titled c.args.plan.now c.as_slice-pages.result.now _ _ c.as_slice-pages.ensures c.in_ok-written.ensures.only
