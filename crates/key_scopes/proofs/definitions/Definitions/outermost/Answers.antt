use Rattle.std.proofs.Common.{◌≡◌, ◌∙◌, true, false, not, List, ap, arith, length, subst, sym}
use Rattle.std.specs.List.Sorted.{IsPartitionPoint}
use Rattle.key_scopes.specs.declared.definitions.Definition.{Definition}
use Rattle.key_scopes.specs.Defined.{AreStrict, is_behind}
use Rattle.key_scopes.specs.Table.{firsts_of}
use Rattle.key_scopes.specs.Outermost.{outermost_by}
use Rattle.key_scopes.proofs.CountLaws.{point_count}
use Rattle.key_scopes.proofs.definitions.Definitions.outermost.Goals as goal

pub returns : goal.returns
returns c = λ strict.
    let definitions = c.args.self.now.sorted.items in
    let ends = c.args.spans.now.ends.items in
    let scope = c.args.scope in
    let key = c.args.key.now in
    let count = c.place_behind-count.result in
    let same = c.deref.ensures.value in
    c.outermost_by.ensures ∙ ap (λ all. outermost_by ends all count scope key) c.deref-2.ensures.value
    ∙ ap (λ n. outermost_by ends definitions n scope key)
    (point_count (λ d. not (is_behind scope key d)) definitions count
    (omega (arith, c.place_behind-count.ensures.within, ap length same))
    (subst (λ (all : List Definition). IsPartitionPoint (λ (d : Definition). not (is_behind scope key d) ≡ true)
    (λ (d : Definition). not (is_behind scope key d) ≡ false) all count) same
    (c.place_behind-count.ensures.place
    (subst (λ (all : List Definition). AreStrict (firsts_of all)) (sym same) strict))))
