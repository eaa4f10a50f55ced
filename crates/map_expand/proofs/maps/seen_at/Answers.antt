use Rattle.std.proofs.Common.{◌≡◌, arith, refl}
use Rattle.map_expand.proofs.SeenLaws.{seen_chars, seen_element}
use Rattle.map_expand.proofs.SiblingLaws.{after_element}
use Rattle.map_expand.proofs.maps.seen_at.Goals as goal

pub returns-in-Chars-clause-seen : goal.returns-in-Chars-clause-seen
returns-in-Chars-clause-seen c = λ home fits here.
    seen_chars home c.args.walk c.args.node.now _ _ fits c.requires here c.in-Chars.is refl refl

pub returns-in-Element-clause-seen : goal.returns-in-Element-clause-seen
returns-in-Element-clause-seen c = λ home fits here.
    let after = after_element home c.args.walk.place c.args.walk.end fits c.requires c.args.node.now here c.in-Element.is in
    let order = after.order in
    let within = after.within in
    let is : c.min.result ≡ c.args.node.now.end = omega (arith, c.min.ensures, c.max.ensures) in
    seen_element home c.args.walk c.args.node.now c.min.result c.made_by.result fits c.requires here after is
    c.made_by.ensures
