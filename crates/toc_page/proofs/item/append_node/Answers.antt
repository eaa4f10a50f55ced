use Rattle.std.proofs.Common.{◌∙◌, ap, refl, sym}
use Rattle.std.specs.Option.{option_copied}
use Rattle.readers.proofs.DocumentLaws.{asks_same}
use Rattle.readers.proofs.FoundedLaws.{stays_same}
use Rattle.readers.proofs.GrowthLaws.{grows_same}
use Rattle.toc_page.specs.Toc.{navtitle_in}
use Rattle.toc_page.proofs.NodeLaws.{is_an_item, item_written, never_item, no_node, untold_item}
use Rattle.toc_page.proofs.TextLaws.{table_known, whole_same}
use Rattle.toc_page.proofs.item.append_node.Goals as goal

pub returns-in_err-append_front-clause-stand : goal.returns-in_err-append_front-clause-stand
returns-in_err-append_front-clause-stand g c = c.append_front.ensures.stand

pub returns-in_err-append_front-clause-founded : goal.returns-in_err-append_front-clause-founded
returns-in_err-append_front-clause-founded g c = c.append_front.ensures.founded

pub returns-in_err-append_front-clause-asks : goal.returns-in_err-append_front-clause-asks
returns-in_err-append_front-clause-asks g c = c.append_front.ensures.asks

pub returns-in_err-append_front-clause-grows : goal.returns-in_err-append_front-clause-grows
returns-in_err-append_front-clause-grows g c = c.append_front.ensures.grows

pub returns-clause-stand : goal.returns-clause-stand
returns-clause-stand g c = c.append_front.ensures.stand

pub returns-clause-founded : goal.returns-clause-founded
returns-clause-founded g c = c.append_front.ensures.founded

pub returns-clause-asks : goal.returns-clause-asks
returns-clause-asks g c = c.append_front.ensures.asks

pub returns-clause-grows : goal.returns-clause-grows
returns-clause-grows g c = c.append_front.ensures.grows

pub returns-in_default-clause-stand : goal.returns-in_default-clause-stand
returns-in_default-clause-stand g c = refl

pub returns-in_default-clause-founded : goal.returns-in_default-clause-founded
returns-in_default-clause-founded g c = stays_same _ _ _ refl

pub returns-in_default-clause-asks : goal.returns-in_default-clause-asks
returns-in_default-clause-asks g c = asks_same _ _ _ _ refl

pub returns-in_default-clause-grows : goal.returns-in_default-clause-grows
returns-in_default-clause-grows g c = grows_same _

pub returns-then-not-may_be_item-clause-stand : goal.returns-then-not-may_be_item-clause-stand
returns-then-not-may_be_item-clause-stand g c = refl

pub returns-then-not-may_be_item-clause-founded : goal.returns-then-not-may_be_item-clause-founded
returns-then-not-may_be_item-clause-founded g c = stays_same _ _ _ refl

pub returns-then-not-may_be_item-clause-asks : goal.returns-then-not-may_be_item-clause-asks
returns-then-not-may_be_item-clause-asks g c = asks_same _ _ _ _ refl

pub returns-then-not-may_be_item-clause-grows : goal.returns-then-not-may_be_item-clause-grows
returns-then-not-may_be_item-clause-grows g c = grows_same _

pub returns-in_err-navtitle-clause-stand : goal.returns-in_err-navtitle-clause-stand
returns-in_err-navtitle-clause-stand g c = refl

pub returns-in_err-navtitle-clause-founded : goal.returns-in_err-navtitle-clause-founded
returns-in_err-navtitle-clause-founded g c = stays_same _ _ _ refl

pub returns-in_err-navtitle-clause-asks : goal.returns-in_err-navtitle-clause-asks
returns-in_err-navtitle-clause-asks g c = asks_same _ _ _ _ refl

pub returns-in_err-navtitle-clause-grows : goal.returns-in_err-navtitle-clause-grows
returns-in_err-navtitle-clause-grows g c = grows_same _

pub returns-then-not-is_told-clause-stand : goal.returns-then-not-is_told-clause-stand
returns-then-not-is_told-clause-stand g c = refl

pub returns-then-not-is_told-clause-founded : goal.returns-then-not-is_told-clause-founded
returns-then-not-is_told-clause-founded g c = stays_same _ _ _ refl

pub returns-then-not-is_told-clause-asks : goal.returns-then-not-is_told-clause-asks
returns-then-not-is_told-clause-asks g c = asks_same _ _ _ _ refl

pub returns-then-not-is_told-clause-grows : goal.returns-then-not-is_told-clause-grows
returns-then-not-is_told-clause-grows g c = grows_same _

pub returns-in_err-begin_item-clause-stand : goal.returns-in_err-begin_item-clause-stand
returns-in_err-begin_item-clause-stand g c = refl

pub returns-in_err-begin_item-clause-founded : goal.returns-in_err-begin_item-clause-founded
returns-in_err-begin_item-clause-founded g c = stays_same _ _ _ refl

pub returns-in_err-begin_item-clause-asks : goal.returns-in_err-begin_item-clause-asks
returns-in_err-begin_item-clause-asks g c = asks_same _ _ _ _ refl

pub returns-in_err-begin_item-clause-grows : goal.returns-in_err-begin_item-clause-grows
returns-in_err-begin_item-clause-grows g c = grows_same _

pub returns-in_default-clause-known : goal.returns-in_default-clause-known
returns-in_default-clause-known g c = λ world agrees is pages.
    no_node world c.args.toc.plan.now c.args.at c.args.items.now c.args.out.now
    (sym c.node_at.ensures ∙ ap option_copied c.in_default.is)

pub returns-then-not-may_be_item-clause-known : goal.returns-then-not-may_be_item-clause-known
returns-then-not-may_be_item-clause-known g c = λ world agrees is pages.
    let plan = c.args.toc.plan.now in
    let node = c.in-Some.node.now in
    let there = sym c.in-Some.ensures in
    never_item world plan c.args.at node there c.args.items.now c.args.out.now c.is_within.result c.may_be_item.result
    (c.is_within.ensures ∙ table_known plan.nodes c.args.toc.in_tables.now c.args.at node is.in_tables there)
    c.may_be_item.ensures c.if-not-may_be_item.true

pub returns-then-not-is_told-clause-known : goal.returns-then-not-is_told-clause-known
returns-then-not-is_told-clause-known g c = λ world agrees is pages.
    let plan = c.args.toc.plan.now in
    let node = c.in-Some.node.now in
    let there = sym c.in-Some.ensures in
    untold_item world plan c.args.at node there c.args.items.now c.args.out.now c.in_ok-navtitle.navtitle
    c.is_told.result
    (c.in_ok-navtitle.ensures
    ∙ ap navtitle_in (whole_same world c.args.toc.homes.now plan.nodes c.args.at node is.homes there))
    c.is_told.ensures c.if-not-is_told.true

pub returns-clause-known : goal.returns-clause-known
returns-clause-known g c = λ world agrees is pages.
    let plan = c.args.toc.plan.now in
    let node = c.in-Some.node.now in
    let there = sym c.in-Some.ensures in
    let title = c.in_ok-navtitle.ensures
    ∙ ap navtitle_in (whole_same world c.args.toc.homes.now plan.nodes c.args.at node is.homes there) in
    item_written world plan c.args.at node there c.args.items.now c.begin_item.new.self c.args.out.now
    c.begin_item.new.out c.append_front.new.out
    (is_an_item world plan c.args.at node there c.in_ok-navtitle.navtitle c.is_within.result c.may_be_item.result
    c.is_told.result
    (c.is_within.ensures ∙ table_known plan.nodes c.args.toc.in_tables.now c.args.at node is.in_tables there)
    c.may_be_item.ensures c.if-not-may_be_item.false title c.is_told.ensures c.if-not-is_told.false)
    c.in_ok-begin_item.ensures.text c.in_ok-begin_item.ensures.stack
    (c.in_ok-append_front.ensures.known world agrees is pages there title)

pub returns-clause-only : goal.returns-clause-only
returns-clause-only g c = c.in_ok-append_front.ensures.only (sym c.in-Some.ensures)
