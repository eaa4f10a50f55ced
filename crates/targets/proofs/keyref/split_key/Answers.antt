use Rattle.std.proofs.Common.{rules, ◌≡◌, [], sym, ap, ◌∙◌}
use Rattle.map_spec.specs.Keys as keys_spec
use Rattle.targets.proofs.TargetLaws.{key_alone, key_cut, id_cut, some_text}
use Rattle.targets.proofs.keyref.split_key.Goals as goal

pub returns-in-None-clause-key : goal.returns-in-None-clause-key
returns-in-None-clause-key c = key_alone c.args.keyref.now c.in-None.ensures

pub returns-in-Some-default-empty-clause-key : goal.returns-in-Some-default-empty-clause-key
returns-in-Some-default-empty-clause-key c = key_cut c.args.keyref.now _ _ c.in-Some-default-empty.ensures

pub returns-in-Some-default-empty-clause-id : goal.returns-in-Some-default-empty-clause-id
returns-in-Some-default-empty-clause-id c = sym (id_cut c.args.keyref.now _ _ c.in-Some-default-empty.ensures
    ∙ ap keys_spec.if_text c.in-Some-default-empty.is-empty)

pub returns-in-Some-clause-key : goal.returns-in-Some-clause-key
returns-in-Some-clause-key c = key_cut c.args.keyref.now _ _ c.in-Some.ensures

pub returns-in-Some-clause-id : goal.returns-in-Some-clause-id
returns-in-Some-clause-id c =
    let full : c.in-Some.id.now ≡ [] → ⊥ = search rules in
    some_text c.in-Some.id.now full ∙ sym (id_cut c.args.keyref.now _ _ c.in-Some.ensures)
