use Rattle.std.proofs.Common.{ap, arith, length, subst}
use Rattle.std.proofs.lemmas.List.{take_all}
use Rattle.key_scopes.specs.Children.{AreShort}
use Rattle.key_scopes.proofs.ChildLaws.{longer}
use Rattle.key_scopes.proofs.children.longest_of.Goals as goal

pub loop-own-preserved : goal.loop-own-preserved
loop-own-preserved c =
    let own = c.own-item.result in
    let long = ap length c.as_bytes.ensures.value in
    let longest = c.max-longest.ensures in
    longer c.args.names.now c.loop-own.own-index own c.loop-own.longest c.max-longest.result c.loop-own-test.true
    c.own-item.is c.loop-own.invariant (omega (arith, longest)) (omega (arith, long, longest))

pub returns : goal.returns
returns c = subst (AreShort c.loop-own.longest)
    (take_all c.loop-own.own-index c.args.names.now (omega (arith, c.loop-own-test.false))) c.loop-own.invariant
