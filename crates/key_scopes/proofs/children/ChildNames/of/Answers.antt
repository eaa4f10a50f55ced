use Rattle.std.proofs.Common.{◌∙◌, ap, arith, subst}
use Rattle.key_scopes.specs.Children.{AreShort, all_names, names_written}
use Rattle.key_scopes.proofs.ChildLaws.{children_are, scopes_end}
use Rattle.key_scopes.proofs.children.ChildNames.of.Goals as goal

pub returns : goal.returns
returns c =
    let scopes = c.args.scopes.now in
    let written = c.loop-at.written.items in
    children_are scopes written c.sort_unstable.new.self.items c.in_ok-sorted.sorted.items c.longest_of-longest.result
    (scopes_end scopes c.loop-at.at (names_written written) (all_names scopes)
    (omega (arith, c.loop-at-test.false)) c.loop-at.invariant)
    c.sort_unstable.ensures.permutation c.sort_unstable.ensures.sorted
    (c.in_ok-sorted.ensures ∙ ap names_written c.deref.ensures.value)
    (subst (AreShort c.longest_of-longest.result) c.deref-2.ensures.value c.longest_of-longest.ensures)
