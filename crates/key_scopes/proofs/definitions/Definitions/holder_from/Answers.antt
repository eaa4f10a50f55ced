use Rattle.std.proofs.Common.{◌≡◌, ◌∙◌, true, false, List, ap, subst, sym}
use Rattle.std.specs.List.Sorted.{IsPartitionPoint}
use Rattle.key_scopes.specs.declared.definitions.Definition.{Definition}
use Rattle.key_scopes.specs.Defined.{AreStrict, IsNextHolder, is_below, scope_at}
use Rattle.key_scopes.specs.Table.{firsts_of, own_in}
use Rattle.key_scopes.proofs.HolderLaws.{next_holder}
use Rattle.key_scopes.proofs.definitions.Definitions.holder_from.Goals as goal

pub returns : goal.returns
returns c = λ strict.
    let definitions = c.args.self.now.sorted.items in
    let scope = c.args.scope in
    let key = c.args.key.now in
    let at = c.place_for-at.result in
    subst (IsNextHolder (λ other. own_in (firsts_of definitions) other key) scope)
    (sym (c.scope_at.ensures ∙ ap (λ all. scope_at all at key) c.deref-2.ensures.value))
    (next_holder scope key definitions at strict
    (subst (λ (all : List Definition). IsPartitionPoint (λ (d : Definition). is_below scope key d ≡ true)
    (λ (d : Definition). is_below scope key d ≡ false) all at) c.deref.ensures.value
    (c.place_for-at.ensures
    (subst (λ (all : List Definition). AreStrict (firsts_of all)) (sym c.deref.ensures.value) strict))))
