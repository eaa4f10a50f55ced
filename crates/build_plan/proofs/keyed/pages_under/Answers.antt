use Rattle.std.proofs.Common.{refl, subst}
use Rattle.key_layer.specs.Ready.{made_for}
use Rattle.key_layer.proofs.BelowLaws.{asks_below}
use Rattle.readers.specs.Documents.{AsksOnly, nothing}
use Rattle.readers.specs.Founded.{StaysFounded, homes}
use Rattle.readers.specs.Noted.{told_onto}
use Rattle.readers.proofs.GrowthLaws.{agrees_before}
use Rattle.build_plan.proofs.keyed.pages_under.Goals as goal
use Rattle.readers.proofs.FoundedLaws.{stays_by, stays_when}

pub returns-clause-known : goal.returns-clause-known
returns-clause-known g c = λ world agrees.
    let layer = c.args.layer.now in
    let own = (g.T.Reader.stand layer.lower.now).world in
    let start = agrees_before own _ _ layer.grown (g.met.T.Reader.agrees layer.lower.now) in
    c.pages.ensures.known (record {
      keys = refl;
      before = c.requires.parents;
      values = layer.ready.values own start;
      scopes = layer.ready.scopes;
    }) world (c.pages.new.asker.carried.agrees world agrees)

pub returns-clause-founded : goal.returns-clause-founded
returns-clause-founded g c =
    let nodes = c.args.layer.now.nodes.now in
    let setting = made_for nodes g.S.LogStart.stand.setting in
    let last = c.pages.new.asker in
    let above = told_onto (made_for last.nodes.now g.S.LogStart.stand.setting) g.S.LogStart.told last.asked.now in
    let stays = subst (λ notes. StaysFounded (homes nodes) (told_onto setting g.S.LogStart.told notes) above)
    c.requires.asked (c.pages.ensures.founded refl) in
    stays_when _ _ _ last.grown (λ roots allowed founded.
    last.carried.founded roots (stays_by _ _ _ stays roots allowed founded))

pub returns-clause-asks : goal.returns-clause-asks
returns-clause-asks g c =
    let nodes = c.args.layer.now.nodes.now in
    let setting = made_for nodes g.S.LogStart.stand.setting in
    let last = c.pages.new.asker in
    let above = told_onto (made_for last.nodes.now g.S.LogStart.stand.setting) g.S.LogStart.told last.asked.now in
    asks_below nothing (homes nodes) g.S.LogStart.told _ above
    (record { keys = λ nodes scope text answer. refl; tried = λ names. refl; sought = λ name. refl })
    last.grown last.passed
    (subst (λ notes. AsksOnly nothing (homes nodes) (told_onto setting g.S.LogStart.told notes) above)
    c.requires.asked c.pages.ensures.asks)
