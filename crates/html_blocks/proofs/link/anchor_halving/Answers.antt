use Rattle.std.proofs.Common.{rules}
use Rattle.std.proofs.lemmas.Fn.{always_returns_same}
use Rattle.std.specs.Ordering.{nat_cmp}
use Rattle.dita_doc.specs.declared.content.Anchor.{Anchor}
use Rattle.html_blocks.proofs.AnchorLaws.{got_anchor, no_anchor}
use Rattle.html_blocks.proofs.link.anchor_halving.Goals as goal

pub returns-in-Ok : goal.returns-in-Ok
returns-in-Ok c = λ rise.
    let by_place = c.in-Ok.ensures.position (λ (anchor : Anchor). nat_cmp anchor.place c.args.place)
    (always_returns_same _ _ _ (λ a r g called. (search rules, search rules))) in
    got_anchor c.args.anchors.now rise c.args.place c.in-Ok.at c.get.result c.get.ensures.lookup.3
    c.in-Ok.ensures.bound by_place

pub returns-in-Err : goal.returns-in-Err
returns-in-Err c = λ rise.
    let by_place = c.in-Err.ensures.position (λ (anchor : Anchor). nat_cmp anchor.place c.args.place)
    (always_returns_same _ _ _ (λ a r g called. (search rules, search rules))) in
    no_anchor c.args.anchors.now rise c.args.place c.in-Err.field-0 c.in-Err.ensures.bound by_place
