use Rattle.std.proofs.Common.{inr, refl}
use Rattle.readers.proofs.DocumentLaws.{asks_told}
use Rattle.readers.proofs.FoundedLaws.{stays_told}
use Rattle.readers.proofs.GrowthLaws.{grows_one, told_answer}
use Rattle.readers.proofs.LayerLaws.{plain_settled}
use Rattle.key_layer.proofs.PassingLaws.{note_passed}
use Rattle.key_layer.proofs.TellingLaws.{nodes_settled, nodes_tried}
use Rattle.key_layer.specs.Ready.{made_for}
use Rattle.key_layer.proofs.calls.KeyLayerTitles.title.Goals as goal

pub invariant_of-self-clause-carried : goal.invariant_of-self-clause-carried
invariant_of-self-clause-carried g c = plain_settled _ _ _ _ _ _ _ _ _ c.ask_title.new.self.carried
    c.in_ok-text.ensures.ok refl
    (c.in_ok-note.ensures (made_for c.ask_title.new.self.nodes.now g.S.LogStart.stand.setting)) refl c.settle.ensures
    (λ world a. told_answer world _ _ _ c.in_ok-text.ensures.below a)

pub invariant_of-self-clause-passed : goal.invariant_of-self-clause-passed
invariant_of-self-clause-passed g c = note_passed _ _ _ _ _ _ _ _ _ _ c.ask_title.new.self.passed
    c.in_ok-text.ensures.ok refl
    (c.in_ok-note.ensures (made_for c.ask_title.new.self.nodes.now g.S.LogStart.stand.setting)) c.settle.ensures
    c.in_ok-text.ensures.below

pub returns-clause-told : goal.returns-clause-told
returns-clause-told g c = nodes_settled g.S.LogStart.stand.setting g.S.LogStart.told _ _ _ _ _ _ _ _
    c.in_ok-text.ensures.nodes (c.in_ok-note.ensures (made_for c.args.self.now.nodes.now g.S.LogStart.stand.setting))
    c.in_ok-text.ensures.ok c.settle.ensures

pub returns-clause-founded : goal.returns-clause-founded
returns-clause-founded g c = stays_told _ _ _ _ refl (returns-clause-told g c)

pub returns-clause-asks : goal.returns-clause-asks
returns-clause-asks g c = asks_told _ _ _ _ _ refl (returns-clause-told g c)

pub returns-clause-grows : goal.returns-clause-grows
returns-clause-grows g c = grows_one _ _ _ (returns-clause-told g c)

pub returns-in_err-text-clause-asks : goal.returns-in_err-text-clause-asks
returns-in_err-text-clause-asks g c = nodes_tried g.S.LogStart.stand.setting g.S.LogStart.told _ _ _ _ _ _ _
    c.in_err-text.ensures.nodes c.in_err-text.ensures.err refl

pub returns-in_err-note-clause-asks : goal.returns-in_err-note-clause-asks
returns-in_err-note-clause-asks g c = nodes_tried g.S.LogStart.stand.setting g.S.LogStart.told _ _ _ _ _ _ _
    c.in_ok-text.ensures.nodes (inr c.in_ok-text.ensures.ok) refl
