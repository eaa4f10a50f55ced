use Rattle.std.proofs.Common.{◌≡◌, subst, ◌∙◌, None}
use Rattle.dita_doc.specs.Gives.{Gives}
use Rattle.map_spec.specs.Included.{map_in}
use Rattle.readers.specs.Told.{Agrees}
use Rattle.readers.proofs.GrowthLaws.{agrees_before, grows_trans}
use Rattle.map_expand.specs.Going.{homes_of}
use Rattle.map_expand.specs.Homes.{name_at}
use Rattle.map_expand.specs.Known.{IsFound}
use Rattle.map_expand.proofs.EndingLaws.{given_map, given_none}
use Rattle.map_expand.proofs.TellingLaws.{asks_more, stays_more}
use Rattle.readers.proofs.DocumentLaws.{asks_after}
use Rattle.readers.proofs.FoundedLaws.{stays_after}
use Rattle.map_expand.proofs.whole_map.expand.Goals as goal

pub returns-in_err-why_no_map-clause-grows : goal.returns-in_err-why_no_map-clause-grows
returns-in_err-why_no_map-clause-grows g c = grows_trans _ _ _ c.find.ensures.grows c.why_no_map.ensures.grows

pub returns-in_default-clause-known : goal.returns-in_default-clause-known
returns-in_default-clause-known g c = λ world agrees.
    let name = c.args.map.now in
    let none : map_in world name ≡ None = subst (IsFound world (homes_of c.find.new.self) name) c.in_default.is
    (c.in_ok-root.ensures.known world (agrees_before world _ _ c.why_no_map.ensures.grows agrees)) in
    given_none world name c.in_ok-why_no_map.field-0 none (c.in_ok-why_no_map.ensures.known world agrees)

pub returns-in_default-clause-value : goal.returns-in_default-clause-value
returns-in_default-clause-value g c =
    returns-in_default-clause-known g c (g.R.Reader.stand c.args.reader.now).world
    (subst (λ s. Agrees s.world (g.R.Reader.told c.why_no_map.new.reader)) (c.why_no_map.ensures.stand ∙ c.find.ensures.stand)
    (g.met.R.Reader.agrees c.why_no_map.new.reader))

pub returns-in_default-clause-grows : goal.returns-in_default-clause-grows
returns-in_default-clause-grows g c = grows_trans _ _ _ c.find.ensures.grows c.why_no_map.ensures.grows

pub returns-clause-known : goal.returns-clause-known
returns-clause-known g c = λ world agrees.
    let name = c.args.map.now in
    let found = rw c.in-Some.is at
    (c.in_ok-root.ensures.known world (agrees_before world _ _ c.expand_root.ensures.grows agrees)) in
    subst (Gives c.expand_root.result)
    (given_map world name (name_at (homes_of c.find.new.self) c.in-Some.root) found.root found.named.named found.is)
    (c.expand_root.ensures.known world agrees found.root found.here found.placed)

pub returns-clause-value : goal.returns-clause-value
returns-clause-value g c =
    returns-clause-known g c (g.R.Reader.stand c.args.reader.now).world
    (subst (λ s. Agrees s.world (g.R.Reader.told c.expand_root.new.reader)) (c.expand_root.ensures.stand ∙ c.find.ensures.stand)
    (g.met.R.Reader.agrees c.expand_root.new.reader))

pub returns-clause-grows : goal.returns-clause-grows
returns-clause-grows g c = grows_trans _ _ _ c.find.ensures.grows c.expand_root.ensures.grows

pub returns-clause-founded : goal.returns-clause-founded
returns-clause-founded g c = stays_more _ _ _ _ c.in_ok-root.ensures.grows c.find.ensures.founded c.expand_root.ensures.founded

pub returns-clause-asks : goal.returns-clause-asks
returns-clause-asks g c = asks_more _ _ _ _ c.in_ok-root.ensures.grows c.find.ensures.asks c.expand_root.ensures.asks

pub returns-in_default-clause-founded : goal.returns-in_default-clause-founded
returns-in_default-clause-founded g c = stays_after _ _ _ _ c.find.ensures.grows c.find.ensures.founded c.why_no_map.ensures.founded

pub returns-in_default-clause-asks : goal.returns-in_default-clause-asks
returns-in_default-clause-asks g c = asks_after _ _ _ _ _ c.find.ensures.grows c.find.ensures.asks c.why_no_map.ensures.asks

pub returns-in_err-why_no_map-clause-founded : goal.returns-in_err-why_no_map-clause-founded
returns-in_err-why_no_map-clause-founded g c =
    stays_after _ _ _ _ c.find.ensures.grows c.find.ensures.founded c.why_no_map.ensures.founded

pub returns-in_err-why_no_map-clause-asks : goal.returns-in_err-why_no_map-clause-asks
returns-in_err-why_no_map-clause-asks g c =
    asks_after _ _ _ _ _ c.find.ensures.grows c.find.ensures.asks c.why_no_map.ensures.asks
