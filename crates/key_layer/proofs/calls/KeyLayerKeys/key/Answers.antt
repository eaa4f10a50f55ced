use Rattle.std.proofs.Common.{ap, inr, refl, sym, ◌∙◌}
use Rattle.readers.specs.Told.{key}
use Rattle.readers.specs.Documents.{documents_asked}
use Rattle.readers.specs.Founded.{names_asked}
use Rattle.readers.proofs.DocumentLaws.{asks_told}
use Rattle.readers.proofs.FetchLaws.{asks_tried}
use Rattle.readers.proofs.FoundedLaws.{stays_told}
use Rattle.readers.proofs.GrowthLaws.{grows_one}
use Rattle.readers.proofs.LayerLaws.{grows_tried, note_known, note_settled, stays_tried}
use Rattle.key_layer.specs.Ready.{made_for}
use Rattle.key_layer.proofs.AnswerLaws.{answer_held, answer_moved}
use Rattle.key_layer.proofs.PassingLaws.{note_plain, note_remembered}
use Rattle.key_layer.proofs.TellingLaws.{nodes_settled, nodes_tried}
use Rattle.key_layer.proofs.calls.KeyLayerKeys.key.Goals as goal

pub invariant_of-self-in-Some-clause-carried : goal.invariant_of-self-in-Some-clause-carried
invariant_of-self-in-Some-clause-carried g c =
    let is = answer_moved _ _ c.in_ok-at.at _ _ _ _ c.in_ok-at.ensures.scope c.in_ok-at.ensures.key refl
    (answer_held (g.T.Reader.told c.args.self.now.lower.now) c.args.self.now.nodes.now c.in_ok-at.at _ _ c.in-Some.is
    (c.in_ok-answer.ensures (g.T.Reader.told c.args.self.now.lower.now) c.args.self.now.nodes.now
    c.args.self.now.answers))
    in
    note_known _ _ (key c.args.self.now.nodes.now c.args.scope c.args.key.now c.in-Some.answer) _ _ _ _
    c.args.self.now.carried
    (c.in_ok-note.ensures.note (made_for c.args.self.now.nodes.now g.S.LogStart.stand.setting)) c.tell.ensures.either
    is.known is.given

pub invariant_of-self-in-Some-clause-passed : goal.invariant_of-self-in-Some-clause-passed
invariant_of-self-in-Some-clause-passed g c = note_remembered _ _
    (key c.args.self.now.nodes.now c.args.scope c.args.key.now c.in-Some.answer) _ _ _ _ c.args.self.now.passed
    (c.in_ok-note.ensures.note (made_for c.args.self.now.nodes.now g.S.LogStart.stand.setting)) c.tell.ensures.either
    (λ rule plain. plain.keys _ _ _ _)

pub invariant_of-self-2-clause-carried : goal.invariant_of-self-2-clause-carried
invariant_of-self-2-clause-carried g c =
    let is = answer_moved _ _ c.in_ok-at.at _ _ _ _ c.in_ok-at.ensures.scope c.in_ok-at.ensures.key refl
    c.in_ok-answer-2.ensures.is
    in
    note_settled _ _ (key c.make_answer.new.self.nodes.now c.args.scope c.args.key.now c.in_ok-answer-2.answer)
    _ _ _ _ _ _ c.make_answer.new.self.carried c.in_ok-answer-2.ensures.ok refl
    (c.in_ok-note-2.ensures.note (made_for c.make_answer.new.self.nodes.now g.S.LogStart.stand.setting))
    c.settle.ensures
    is.known is.given

pub invariant_of-self-2-clause-passed : goal.invariant_of-self-2-clause-passed
invariant_of-self-2-clause-passed g c = note_plain _ _
    (key c.make_answer.new.self.nodes.now c.args.scope c.args.key.now c.in_ok-answer-2.answer) _ _ _ _ _ _
    c.make_answer.new.self.passed c.in_ok-answer-2.ensures.ok refl
    (c.in_ok-note-2.ensures.note (made_for c.make_answer.new.self.nodes.now g.S.LogStart.stand.setting))
    c.settle.ensures
    (λ rule plain. plain.keys _ _ _ _)

pub returns-in-Some-clause-founded : goal.returns-in-Some-clause-founded
returns-in-Some-clause-founded g c = stays_tried _ _ _ _ _ _
    (ap names_asked (c.in_ok-note.ensures.note (made_for c.args.self.now.nodes.now g.S.LogStart.stand.setting)))
    c.tell.ensures.either

pub returns-in-Some-clause-asks : goal.returns-in-Some-clause-asks
returns-in-Some-clause-asks g c = asks_tried _ _ _ _ _ _ _
    (ap documents_asked (c.in_ok-note.ensures.note (made_for c.args.self.now.nodes.now g.S.LogStart.stand.setting)))
    c.tell.ensures.either

pub returns-in-Some-clause-grows : goal.returns-in-Some-clause-grows
returns-in-Some-clause-grows g c = grows_tried _ _ _ _ _ c.tell.ensures.either

pub returns-clause-told : goal.returns-clause-told
returns-clause-told g c = nodes_settled g.S.LogStart.stand.setting g.S.LogStart.told _ _ _ _ _ _ _ _
    c.in_ok-answer-2.ensures.nodes
    (c.in_ok-note-2.ensures.note (made_for c.args.self.now.nodes.now g.S.LogStart.stand.setting)
    ∙ ap (key c.args.self.now.nodes.now c.args.scope c.args.key.now) (sym c.in_ok-note-2.ensures.answer))
    c.in_ok-answer-2.ensures.ok c.settle.ensures

pub returns-clause-founded : goal.returns-clause-founded
returns-clause-founded g c = stays_told _ _ _ _ refl (returns-clause-told g c)

pub returns-clause-asks : goal.returns-clause-asks
returns-clause-asks g c = asks_told _ _ _ _ _ refl (returns-clause-told g c)

pub returns-clause-grows : goal.returns-clause-grows
returns-clause-grows g c = grows_one _ _ _ (returns-clause-told g c)

pub returns-in_err-answer-2-clause-asks : goal.returns-in_err-answer-2-clause-asks
returns-in_err-answer-2-clause-asks g c = nodes_tried g.S.LogStart.stand.setting g.S.LogStart.told _ _ _ _ _ _ _
    c.in_err-answer-2.ensures.nodes c.in_err-answer-2.ensures.err refl

pub returns-in_err-note-2-clause-asks : goal.returns-in_err-note-2-clause-asks
returns-in_err-note-2-clause-asks g c = nodes_tried g.S.LogStart.stand.setting g.S.LogStart.told _ _ _ _ _ _ _
    c.in_ok-answer-2.ensures.nodes (inr c.in_ok-answer-2.ensures.ok) refl
