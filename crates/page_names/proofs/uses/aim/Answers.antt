use Rattle.std.proofs.Common.{◌∙◌, refl, subst, sym}
use Rattle.std.specs.Prelude.{codes}
use Rattle.map_spec.specs.Pages.{aim_of, ignored_at, no_aim}
use Rattle.readers.proofs.DocumentLaws.{asks_same}
use Rattle.readers.proofs.FoundedLaws.{stays_same}
use Rattle.readers.proofs.GrowthLaws.{grows_same}
use Rattle.page_names.specs.Aims.{IsGiven}
use Rattle.page_names.proofs.GivenUseLaws.{nothing_named}
use Rattle.page_names.proofs.AimLaws.{attributes_aim, ignored_met, met_before, met_first, nothing_more, aim_is, other_aim, reference_aim, value_there}
use Rattle.page_names.proofs.uses.aim.Goals as goal

pub returns-then-not-is_reference-clause-known : goal.returns-then-not-is_reference-clause-known
returns-then-not-is_reference-clause-known g c = λ world nodes agrees keys homes there carries.
    let at = c.args.at in
    let node = c.args.node.now in
    let met = ignored_met world node c.args.faults.now c.append_value.new.faults c.append_value-2.new.faults _ _
    (value_there world nodes at node c.args.homes.now (codes "copy-to") _ homes there (c.value_in-copy_to.ensures c.args.homes.now c.args.at c.element-element.ensures))
    (value_there world nodes at node c.args.homes.now (codes "chunk") _ homes there (c.value_in-chunk.ensures c.args.homes.now c.args.at c.element-element.ensures))
    c.in_ok-append_value.ensures c.in_ok-append_value-2.ensures in
    met_before (aim_of world nodes at node) _ (ignored_at world node) c.args.faults.now c.append_value-2.new.faults
    c.append_value-2.new.faults met
    (aim_is no_aim (aim_of world nodes at node) _ c.append_value-2.new.faults c.append_value-2.new.faults
    (other_aim world nodes at node c.is_reference.result c.is_reference.ensures c.if-not-is_reference.true)
    (nothing_more no_aim _ c.append_value-2.new.faults refl refl))

pub returns-clause-known : goal.returns-clause-known
returns-clause-known g c = λ world nodes agrees keys homes there carries.
    let at = c.args.at in
    let node = c.args.node.now in
    let met = ignored_met world node c.args.faults.now c.append_value.new.faults c.append_value-2.new.faults _ _
    (value_there world nodes at node c.args.homes.now (codes "copy-to") _ homes there (c.value_in-copy_to.ensures c.args.homes.now c.args.at c.element-element.ensures))
    (value_there world nodes at node c.args.homes.now (codes "chunk") _ homes there (c.value_in-chunk.ensures c.args.homes.now c.args.at c.element-element.ensures))
    c.in_ok-append_value.ensures c.in_ok-append_value-2.ensures in
    met_first (ignored_at world node) _ (aim_of world nodes at node) c.target_of.result c.args.faults.now
    c.append_value-2.new.faults c.target_of.new.faults met
    (attributes_aim world nodes at node _ _
    (value_there world nodes at node c.args.homes.now (codes "keyref") _ homes there (c.value_in-keyref.ensures c.args.homes.now c.args.at c.element-element.ensures))
    (value_there world nodes at node c.args.homes.now (codes "href") _ homes there (c.value_in-href.ensures c.args.homes.now c.args.at c.element-element.ensures))
    ∙ reference_aim world nodes at node c.is_reference.result c.is_reference.ensures c.if-not-is_reference.false)
    (c.target_of.ensures.known world nodes at agrees keys carries)

pub returns-then-not-is_reference-clause-given : goal.returns-then-not-is_reference-clause-given
returns-then-not-is_reference-clause-given g c = λ given. nothing_named _ _ refl

pub returns-clause-given : goal.returns-clause-given
returns-clause-given g c = λ given.
    c.target_of.ensures.given (subst (IsGiven (g.K.Reader.told c.args.asker.now) c.args.node.now.doc)
    (sym (c.value_in-href.ensures c.args.homes.now c.args.at c.element-element.ensures)) given)

pub returns-in_err-append_value-clause-stand : goal.returns-in_err-append_value-clause-stand
returns-in_err-append_value-clause-stand g c = refl

pub returns-in_err-append_value-clause-founded : goal.returns-in_err-append_value-clause-founded
returns-in_err-append_value-clause-founded g c = stays_same _ _ _ refl

pub returns-in_err-append_value-clause-asks : goal.returns-in_err-append_value-clause-asks
returns-in_err-append_value-clause-asks g c = asks_same _ _ _ _ refl

pub returns-in_err-append_value-clause-grows : goal.returns-in_err-append_value-clause-grows
returns-in_err-append_value-clause-grows g c = grows_same _

pub returns-in_err-append_value-2-clause-stand : goal.returns-in_err-append_value-2-clause-stand
returns-in_err-append_value-2-clause-stand g c = refl

pub returns-in_err-append_value-2-clause-founded : goal.returns-in_err-append_value-2-clause-founded
returns-in_err-append_value-2-clause-founded g c = stays_same _ _ _ refl

pub returns-in_err-append_value-2-clause-asks : goal.returns-in_err-append_value-2-clause-asks
returns-in_err-append_value-2-clause-asks g c = asks_same _ _ _ _ refl

pub returns-in_err-append_value-2-clause-grows : goal.returns-in_err-append_value-2-clause-grows
returns-in_err-append_value-2-clause-grows g c = grows_same _

pub returns-then-not-is_reference-clause-stand : goal.returns-then-not-is_reference-clause-stand
returns-then-not-is_reference-clause-stand g c = refl

pub returns-then-not-is_reference-clause-founded : goal.returns-then-not-is_reference-clause-founded
returns-then-not-is_reference-clause-founded g c = stays_same _ _ _ refl

pub returns-then-not-is_reference-clause-asks : goal.returns-then-not-is_reference-clause-asks
returns-then-not-is_reference-clause-asks g c = asks_same _ _ _ _ refl

pub returns-then-not-is_reference-clause-grows : goal.returns-then-not-is_reference-clause-grows
returns-then-not-is_reference-clause-grows g c = grows_same _

pub returns-clause-stand : goal.returns-clause-stand
returns-clause-stand g c = c.target_of.ensures.stand

pub returns-clause-founded : goal.returns-clause-founded
returns-clause-founded g c = c.target_of.ensures.founded

pub returns-clause-asks : goal.returns-clause-asks
returns-clause-asks g c = c.target_of.ensures.asks

pub returns-clause-grows : goal.returns-clause-grows
returns-clause-grows g c = c.target_of.ensures.grows
