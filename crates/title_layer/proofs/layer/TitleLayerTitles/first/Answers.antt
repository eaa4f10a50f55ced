use Rattle.std.proofs.Common.{[], refl, ap, ◌∙◌, option_map}
use Rattle.std.specs.Option.{option_map_or}
use Rattle.map_spec.specs.Titles.{first_of_document}
use Rattle.map_spec.specs.Written.{written_in}
use Rattle.readers.specs.Documents.{documents_asked}
use Rattle.readers.specs.Founded.{names_asked}
use Rattle.readers.proofs.DocumentLaws.{asks_put}
use Rattle.readers.proofs.FetchLaws.{asks_settled, asks_tried}
use Rattle.readers.proofs.GrowthLaws.{told_answer}
use Rattle.readers.proofs.LayerLaws.{plain_settled, grows_put, grows_settled, grows_tried, stays_put, stays_settled, stays_tried, told_settled}
use Rattle.title_layer.proofs.layer.TitleLayerTitles.first.Goals as goal

pub invariant_of-self-clause-carried : goal.invariant_of-self-clause-carried
invariant_of-self-clause-carried g c = plain_settled _ _ _ _ _ _ _ _ _ c.ask.new.self.carried
    c.in_ok-found.ensures.ok refl (c.in_ok-note.ensures g.S.LogStart.stand.setting) refl c.settle.ensures
    (λ world a. ap (λ tree. option_map_or first_of_document (option_map (written_in c.args.name.now) tree) [])
    (told_answer world _ _ _ c.in_ok-found.ensures.below a)
    ∙ c.in_ok-id.ensures c.args.name.now)

pub returns-in_err-found-clause-founded : goal.returns-in_err-found-clause-founded
returns-in_err-found-clause-founded g c = stays_tried _ _ _ _ _ _ refl c.in_err-found.ensures.err

pub returns-in_err-found-clause-asks : goal.returns-in_err-found-clause-asks
returns-in_err-found-clause-asks g c = asks_tried _ _ _ _ _ _ _ refl c.in_err-found.ensures.err

pub returns-in_err-found-clause-grows : goal.returns-in_err-found-clause-grows
returns-in_err-found-clause-grows g c = grows_tried _ _ _ _ _ c.in_err-found.ensures.err

pub returns-in_err-id-clause-founded : goal.returns-in_err-id-clause-founded
returns-in_err-id-clause-founded g c = stays_put _ _ _ _ _ _ refl c.in_ok-found.ensures.ok

pub returns-in_err-id-clause-asks : goal.returns-in_err-id-clause-asks
returns-in_err-id-clause-asks g c = asks_put _ _ _ _ _ _ _ refl c.in_ok-found.ensures.ok

pub returns-in_err-id-clause-grows : goal.returns-in_err-id-clause-grows
returns-in_err-id-clause-grows g c = grows_put _ _ _ _ _ c.in_ok-found.ensures.ok

pub returns-in_err-note-clause-founded : goal.returns-in_err-note-clause-founded
returns-in_err-note-clause-founded g c = stays_put _ _ _ _ _ _ refl c.in_ok-found.ensures.ok

pub returns-in_err-note-clause-asks : goal.returns-in_err-note-clause-asks
returns-in_err-note-clause-asks g c = asks_put _ _ _ _ _ _ _ refl c.in_ok-found.ensures.ok

pub returns-in_err-note-clause-grows : goal.returns-in_err-note-clause-grows
returns-in_err-note-clause-grows g c = grows_put _ _ _ _ _ c.in_ok-found.ensures.ok

pub returns-clause-told : goal.returns-clause-told
returns-clause-told g c = told_settled _ _ _ _ _ _ _ _ (c.in_ok-note.ensures g.S.LogStart.stand.setting)
    c.in_ok-found.ensures.ok c.settle.ensures

pub returns-clause-founded : goal.returns-clause-founded
returns-clause-founded g c = stays_settled _ _ _ _ _ _ _ _
    (ap names_asked (c.in_ok-note.ensures g.S.LogStart.stand.setting)) c.in_ok-found.ensures.ok c.settle.ensures

pub returns-clause-asks : goal.returns-clause-asks
returns-clause-asks g c = asks_settled _ _ _ _ _ _ _ _ _
    (ap documents_asked (c.in_ok-note.ensures g.S.LogStart.stand.setting)) c.in_ok-found.ensures.ok c.settle.ensures

pub returns-clause-grows : goal.returns-clause-grows
returns-clause-grows g c = grows_settled _ _ _ _ _ _ _ c.in_ok-found.ensures.ok c.settle.ensures
