use Rattle.std.proofs.Common.{◌≡◌, refl, sym, ap, ◌∙◌}
use Rattle.map_spec.specs.Titles.{title_in}
use Rattle.readers.specs.Documents.{documents_asked}
use Rattle.readers.specs.Founded.{names_asked}
use Rattle.readers.specs.Told.{title}
use Rattle.readers.proofs.DocumentLaws.{asks_put, asks_same}
use Rattle.readers.proofs.FetchLaws.{asks_settled, asks_tried}
use Rattle.readers.proofs.FoundedLaws.{stays_same}
use Rattle.readers.proofs.GrowthLaws.{grows_same}
use Rattle.readers.proofs.LayerLaws.{plain_known, plain_settled, told_settled}
use Rattle.readers.proofs.LayerLaws.{grows_put, grows_settled, grows_tried}
use Rattle.readers.proofs.LayerLaws.{stays_put, stays_settled, stays_tried}
use Rattle.readers.proofs.TitleLaws.{title_moved}
use Rattle.title_layer.proofs.ToldLaws.{title_held}
use Rattle.title_layer.proofs.layer.TitleLayerTitles.title.Goals as goal

pub make_title-requires : goal.make_title-requires
make_title-requires g c = record { name = c.in_ok-at.ensures.name; topic = c.in_ok-at.ensures.topic }

pub invariant_of-self-in-Some-clause-carried : goal.invariant_of-self-in-Some-clause-carried
invariant_of-self-in-Some-clause-carried g c = plain_known _ _ _ _ _ _ _ c.args.self.now.carried
    (c.in_ok-note.ensures.note g.S.LogStart.stand.setting) refl c.tell.ensures.either
    (λ world a. title_moved world c.in_ok-at.at _ _ _ _ c.in_ok-at.ensures.name c.in_ok-at.ensures.topic refl
    (title_held (λ text. title_in world c.in_ok-at.at.name c.in_ok-at.at.topic ≡ text) _ _ c.in-Some.is
    (c.in_ok-text.ensures world (c.args.self.now.known world a))))

pub invariant_of-self-2-clause-carried : goal.invariant_of-self-2-clause-carried
invariant_of-self-2-clause-carried g c = plain_settled _ _ _ _ _ _ _ _ _ c.make_title.new.self.carried
    c.in_ok-text-2.ensures.ok refl (c.in_ok-note-2.ensures.note g.S.LogStart.stand.setting) refl c.settle.ensures
    c.in_ok-text-2.ensures.known

pub returns-in_err-at-clause-founded : goal.returns-in_err-at-clause-founded
returns-in_err-at-clause-founded g c = stays_same _ _ _ refl

pub returns-in_err-at-clause-asks : goal.returns-in_err-at-clause-asks
returns-in_err-at-clause-asks g c = asks_same _ _ _ _ refl

pub returns-in_err-at-clause-grows : goal.returns-in_err-at-clause-grows
returns-in_err-at-clause-grows g c = grows_same _

pub returns-in_err-text-clause-founded : goal.returns-in_err-text-clause-founded
returns-in_err-text-clause-founded g c = stays_same _ _ _ refl

pub returns-in_err-text-clause-asks : goal.returns-in_err-text-clause-asks
returns-in_err-text-clause-asks g c = asks_same _ _ _ _ refl

pub returns-in_err-text-clause-grows : goal.returns-in_err-text-clause-grows
returns-in_err-text-clause-grows g c = grows_same _

pub returns-in_err-note-clause-founded : goal.returns-in_err-note-clause-founded
returns-in_err-note-clause-founded g c = stays_same _ _ _ refl

pub returns-in_err-note-clause-asks : goal.returns-in_err-note-clause-asks
returns-in_err-note-clause-asks g c = asks_same _ _ _ _ refl

pub returns-in_err-note-clause-grows : goal.returns-in_err-note-clause-grows
returns-in_err-note-clause-grows g c = grows_same _

pub returns-in-Some-clause-founded : goal.returns-in-Some-clause-founded
returns-in-Some-clause-founded g c = stays_tried _ _ _ _ _ _
    (ap names_asked (c.in_ok-note.ensures.note g.S.LogStart.stand.setting)) c.tell.ensures.either

pub returns-in-Some-clause-asks : goal.returns-in-Some-clause-asks
returns-in-Some-clause-asks g c = asks_tried _ _ _ _ _ _ _
    (ap documents_asked (c.in_ok-note.ensures.note g.S.LogStart.stand.setting)) c.tell.ensures.either

pub returns-in-Some-clause-grows : goal.returns-in-Some-clause-grows
returns-in-Some-clause-grows g c = grows_tried _ _ _ _ _ c.tell.ensures.either

pub returns-in_err-text-2-clause-founded : goal.returns-in_err-text-2-clause-founded
returns-in_err-text-2-clause-founded g c = stays_tried _ _ _ _ _ _ refl c.in_err-text-2.ensures.err

pub returns-in_err-text-2-clause-asks : goal.returns-in_err-text-2-clause-asks
returns-in_err-text-2-clause-asks g c = asks_tried _ _ _ _ _ _ _ refl c.in_err-text-2.ensures.err

pub returns-in_err-text-2-clause-grows : goal.returns-in_err-text-2-clause-grows
returns-in_err-text-2-clause-grows g c = grows_tried _ _ _ _ _ c.in_err-text-2.ensures.err

pub returns-in_err-note-2-clause-founded : goal.returns-in_err-note-2-clause-founded
returns-in_err-note-2-clause-founded g c = stays_put _ _ _ _ _ _ refl c.in_ok-text-2.ensures.ok

pub returns-in_err-note-2-clause-asks : goal.returns-in_err-note-2-clause-asks
returns-in_err-note-2-clause-asks g c = asks_put _ _ _ _ _ _ _ refl c.in_ok-text-2.ensures.ok

pub returns-in_err-note-2-clause-grows : goal.returns-in_err-note-2-clause-grows
returns-in_err-note-2-clause-grows g c = grows_put _ _ _ _ _ c.in_ok-text-2.ensures.ok

pub returns-clause-told : goal.returns-clause-told
returns-clause-told g c = told_settled _ _ _ _ _ _ _ _
    (c.in_ok-note-2.ensures.note g.S.LogStart.stand.setting
    ∙ ap (title c.args.name.now c.args.topic.now) (sym c.in_ok-note-2.ensures.text))
    c.in_ok-text-2.ensures.ok c.settle.ensures

pub returns-clause-founded : goal.returns-clause-founded
returns-clause-founded g c = stays_settled _ _ _ _ _ _ _ _
    (ap names_asked (c.in_ok-note-2.ensures.note g.S.LogStart.stand.setting)) c.in_ok-text-2.ensures.ok c.settle.ensures

pub returns-clause-asks : goal.returns-clause-asks
returns-clause-asks g c = asks_settled _ _ _ _ _ _ _ _ _
    (ap documents_asked (c.in_ok-note-2.ensures.note g.S.LogStart.stand.setting)) c.in_ok-text-2.ensures.ok c.settle.ensures

pub returns-clause-grows : goal.returns-clause-grows
returns-clause-grows g c = grows_settled _ _ _ _ _ _ _ c.in_ok-text-2.ensures.ok c.settle.ensures
