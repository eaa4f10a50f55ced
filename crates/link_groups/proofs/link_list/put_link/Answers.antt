use Rattle.std.proofs.Common.{◌∙◌, ap, refl, sym}
use Rattle.std.specs.Option.{option_copied}
use Rattle.readers.proofs.FoundedLaws.{stays_one}
use Rattle.link_groups.specs.LinkNodes.{names_of_pages}
use Rattle.link_groups.proofs.ListLaws.{none_written, one_written, page_among}
use Rattle.readers.proofs.OnlyLaws.{only_same}
use Rattle.link_groups.proofs.AskedLaws.{page_titled}
use Rattle.link_groups.proofs.link_list.put_link.Goals as goal

pub returns-in_default-clause-known : goal.returns-in_default-clause-known
returns-in_default-clause-known g c = λ world agrees.
    none_written world c.args.pages.now c.args.own.now c.args.link.now c.args.written.now
    (sym (ap option_copied c.in_default.is) ∙ c.page_at.ensures)

pub returns-in_err-made-clause-founded : goal.returns-in_err-made-clause-founded
returns-in_err-made-clause-founded g c =
    stays_one c.in-Some.other.now.id.doc (names_of_pages c.args.pages.now) _ _
    (page_among c.args.pages.now c.args.link.now.page c.in-Some.other.now c.in-Some.ensures)
    c.link_to.ensures.founded

pub returns-in_err-push-clause-founded : goal.returns-in_err-push-clause-founded
returns-in_err-push-clause-founded g c =
    stays_one c.in-Some.other.now.id.doc (names_of_pages c.args.pages.now) _ _
    (page_among c.args.pages.now c.args.link.now.page c.in-Some.other.now c.in-Some.ensures)
    c.link_to.ensures.founded

pub returns-clause-known : goal.returns-clause-known
returns-clause-known g c = λ world agrees.
    one_written world c.args.pages.now c.args.own.now c.in-Some.other.now c.args.link.now c.in_ok-made.made
    c.args.written.now c.push.new.self c.in_ok-push.ensures (c.in_ok-made.ensures.known world agrees)
    c.in-Some.ensures

pub returns-clause-founded : goal.returns-clause-founded
returns-clause-founded g c =
    stays_one c.in-Some.other.now.id.doc (names_of_pages c.args.pages.now) _ _
    (page_among c.args.pages.now c.args.link.now.page c.in-Some.other.now c.in-Some.ensures)
    c.link_to.ensures.founded

pub returns-in_err-made-clause-stand : goal.returns-in_err-made-clause-stand
returns-in_err-made-clause-stand g c = c.link_to.ensures.stand

pub returns-in_err-made-clause-asks : goal.returns-in_err-made-clause-asks
returns-in_err-made-clause-asks g c = c.link_to.ensures.asks

pub returns-in_err-made-clause-grows : goal.returns-in_err-made-clause-grows
returns-in_err-made-clause-grows g c = c.link_to.ensures.grows

pub returns-in_err-push-clause-stand : goal.returns-in_err-push-clause-stand
returns-in_err-push-clause-stand g c = c.link_to.ensures.stand

pub returns-in_err-push-clause-asks : goal.returns-in_err-push-clause-asks
returns-in_err-push-clause-asks g c = c.link_to.ensures.asks

pub returns-in_err-push-clause-grows : goal.returns-in_err-push-clause-grows
returns-in_err-push-clause-grows g c = c.link_to.ensures.grows

pub returns-clause-stand : goal.returns-clause-stand
returns-clause-stand g c = c.link_to.ensures.stand

pub returns-clause-asks : goal.returns-clause-asks
returns-clause-asks g c = c.link_to.ensures.asks

pub returns-clause-grows : goal.returns-clause-grows
returns-clause-grows g c = c.link_to.ensures.grows

pub returns-in_default-clause-only : goal.returns-in_default-clause-only
returns-in_default-clause-only g c = only_same _ _ _ refl

pub returns-clause-only : goal.returns-clause-only
returns-clause-only g c =
    page_titled c.args.pages.now c.args.link.now.page c.in-Some.other.now _ _ c.in-Some.ensures
    c.in_ok-made.ensures.only
