use Rattle.std.proofs.Common.{◌∙◌, ap}
use Rattle.std.specs.Prelude.{slice_get}
use Rattle.map_spec.specs.Titles.{first_text}
use Rattle.key_answers.specs.Seen.{chain_seen, last_target, texts_with}
use Rattle.key_answers.proofs.ChainLaws.{answer_given}
use Rattle.key_answers.proofs.TargetLaws.{answer_allowed, last_same, title_founded}
use Rattle.key_answers.proofs.given.answer_of.Goals as goal

pub returns-in_err-text-clause-founded : goal.returns-in_err-text-clause-founded
returns-in_err-text-clause-founded g c = λ told.
    title_founded _ _ c.args.defined.homes.now c.args.defined.nodes.now c.deref-2.result.now c.in_ok-target.target
    c.in_ok-target.ensures told c.label_of.ensures.founded

pub returns-clause-founded : goal.returns-clause-founded
returns-clause-founded g c = λ told.
    title_founded _ _ c.args.defined.homes.now c.args.defined.nodes.now c.deref-2.result.now c.in_ok-target.target
    c.in_ok-target.ensures told c.label_of.ensures.founded

pub returns-clause-given : goal.returns-clause-given
returns-clause-given g c = λ roots told.
    answer_allowed roots _ _ c.args.defined.homes.now c.args.defined.nodes.now c.deref-2.result.now
    c.in_ok-target.target _ c.made_of.ensures.target c.in_ok-target.ensures told c.label_of.ensures.grows

pub returns-clause-known : goal.returns-clause-known
returns-clause-known g c = λ world agrees are.
    let nodes = c.args.defined.nodes.now in
    let homes = c.args.defined.homes.now in
    let met = c.args.chain.met.items in
    let target = c.in_ok-target.target in
    answer_given world nodes c.args.key.now (chain_seen c.args.chain) c.in-Some.first target c.in_ok-text.text _
    (c.in-Some.ensures ∙ ap (λ m. slice_get m 0) c.deref.ensures.value)
    (c.in_ok-target.ensures ∙ ap (last_target homes nodes) c.deref-2.ensures.value
    ∙ last_same world homes nodes met are.homes are.values)
    (c.in_ok-text.ensures.known world agrees are
    ∙ ap (λ m. first_text (texts_with world nodes m target)) c.deref-3.ensures.value)
    c.made_of.ensures.is
