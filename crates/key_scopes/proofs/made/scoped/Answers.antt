use Rattle.std.proofs.Common.{[], ◌∷◌, length, ap, arith, ◌∙◌}
use Rattle.std.proofs.lemmas.List.{length-append}
use Rattle.std.specs.Vec.Iter.{into_iter_items}
use Rattle.map_spec.specs.Scopes.{scoped}
use Rattle.key_scopes.specs.Numbered.{place_in}
use Rattle.key_scopes.proofs.MadeLaws.{scope_there, scoped_next}
use Rattle.key_scopes.proofs.made.scoped.Goals as goal

pub loop-node-preserved : goal.loop-node-preserved
loop-node-preserved c =
    let nodes = c.args.nodes in
    let old = c.loop-node.scoped in
    let first = c.in-Some.ensures.steps.0 in
    let put = c.in_ok-push.ensures in
    let counted = c.loop-node.invariant.0 in
    let shorter = ap length first in
    let longer = ap length put ∙ length-append old (c.in_scope.result ∷ []) in (
      omega (arith, counted, shorter, longer),
      λ told. scoped_next nodes c.in-Some.node c.in_scope.result old c.push.new.self
          (into_iter_items c.next.new.self) (into_iter_items c.loop-node.node-iterator) (scoped nodes) first
          (c.in_scope.ensures ∙ ap (λ some. record c.in-Some.node { scope = some })
          (scope_there nodes (length old) c.place_in-scope.result c.args.places.now (omega (arith, counted, shorter)) told
          (c.place_in-scope.ensures ∙ ap (place_in c.args.places.now) c.len.ensures.length)))
          (c.loop-node.invariant.1 told) put,
    )
