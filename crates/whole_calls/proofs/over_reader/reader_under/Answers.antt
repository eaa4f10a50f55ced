use Rattle.std.specs.Prelude.{IfOk}
use Rattle.std.proofs.Common.{subst}
use Rattle.readers.specs.Founded.{StaysFounded}
use Rattle.readers.specs.Noted.{told_onto}
use Rattle.readers.specs.Setting.{Stand}
use Rattle.whole_calls.proofs.over_reader.reader_under.Goals as goal
use Rattle.readers.proofs.FoundedLaws.{stays_by, stays_when}

pub returns-clause-known : goal.returns-clause-known
returns-clause-known g c = λ world agrees.
    subst (λ (s : Stand). IfOk c.run.result (g.W.TitleWork.makes c.args.work s.world world)) c.args.layer.now.stand
    (c.run.ensures.known world (c.run.new.asker.carried.agrees world agrees))

pub returns-clause-founded : goal.returns-clause-founded
returns-clause-founded g c =
    let setting = g.S.LogStart.stand.setting in
    let last = c.run.new.asker in
    let stays = subst (λ notes. StaysFounded (g.W.TitleWork.about c.args.work)
    (told_onto setting g.S.LogStart.told notes)
    (told_onto setting g.S.LogStart.told last.asked.now)) c.requires.asked c.run.ensures.founded in
    stays_when _ _ _ last.grown (λ roots allowed founded.
    last.carried.founded roots (stays_by _ _ _ stays roots allowed founded))

pub returns-clause-grows : goal.returns-clause-grows
returns-clause-grows g c = c.run.new.asker.grown
