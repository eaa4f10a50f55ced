use Rattle.std.proofs.Common.{◌≡◌, ap, sym, subst, ◌∙◌, None, Some, false, refl}
use Rattle.std.specs.BTreeMap.{get, is_at}
use Rattle.std.specs.Cmp.Lexicographic.{slice_cmp}
use Rattle.std.specs.Option.{option_copied}
use Rattle.std.specs.Ordering.{nat_cmp}
use Rattle.readers.proofs.GrowthLaws.{agrees_before, grows_same}
use Rattle.map_expand.specs.Going.{homes_of}
use Rattle.map_expand.specs.Known.{IsKnown}
use Rattle.map_expand.specs.Homes.{home_at}
use Rattle.map_expand.specs.Telling.{IsTold}
use Rattle.map_expand.proofs.FindLaws.{maps_put}
use Rattle.map_expand.proofs.TellingLaws.{if_some}
use Rattle.readers.proofs.DocumentLaws.{asks_same}
use Rattle.readers.proofs.FoundedLaws.{stays_same}
use Rattle.map_expand.proofs.maps.Maps.find.Goals as goal

pub returns-in-Some-clause-known : goal.returns-in-Some-clause-known
returns-in-Some-clause-known g c = λ world agrees.
    subst (IsKnown world (homes_of c.args.self.now) c.args.name.now) (sym c.in-Some.ensures.value)
    (c.requires.knows world agrees c.args.name.now)

pub returns-clause-fits : goal.returns-clause-fits
returns-clause-fits g c =
    let name = c.args.name.now in
    let known = c.in_ok-map.ensures.known in
    let updates = c.in_ok-insert.ensures.updates in
    let unknown : get (slice_cmp nat_cmp) c.args.self.now.known name ≡ None =
    sym c.get.ensures.value ∙ ap option_copied c.in_default.is in
    let copy : c.in_ok-clone.field-0 ≡ name = c.in_ok-clone.ensures.cases in
    maps_put (g.R.Reader.told c.args.reader.now) (g.R.Reader.told c.ask.new.reader) c.args.self.now
    (record { known = c.insert.new.self; maps = c.ask.new.self.maps }) name c.in_ok-map.map c.requires unknown
    c.in_ok-map.ensures.homes
    (subst (λ n. get (slice_cmp nat_cmp) c.insert.new.self n ≡ Some c.in_ok-map.map) copy updates.1)
    (λ q differ. updates.2 q (subst (λ n. is_at (slice_cmp nat_cmp n) q ≡ false) (sym copy) differ)
    ∙ ap (λ k. get (slice_cmp nat_cmp) k q) known)
    c.in_ok-map.ensures.grows (λ world agrees. agrees_before world _ _ c.in_ok-map.ensures.grows agrees)
    c.in_ok-map.ensures.added c.in_ok-map.ensures.found
    (if_some c.in_ok-map.map (λ at. IsTold (g.R.Reader.told c.ask.new.reader) (home_at (homes_of c.ask.new.self) at))
    c.in_ok-map.ensures.told)

pub returns-in-Some-clause-fits : goal.returns-in-Some-clause-fits
returns-in-Some-clause-fits g c = c.requires

pub returns-in-Some-clause-flags : goal.returns-in-Some-clause-flags
returns-in-Some-clause-flags g c = λ at. refl

pub returns-in-Some-clause-stand : goal.returns-in-Some-clause-stand
returns-in-Some-clause-stand g c = refl

pub returns-in-Some-clause-grows : goal.returns-in-Some-clause-grows
returns-in-Some-clause-grows g c = grows_same _

pub returns-in-Some-clause-founded : goal.returns-in-Some-clause-founded
returns-in-Some-clause-founded g c = stays_same _ _ _ refl

pub returns-in-Some-clause-asks : goal.returns-in-Some-clause-asks
returns-in-Some-clause-asks g c = asks_same _ _ _ _ refl

pub returns-clause-homes : goal.returns-clause-homes
returns-clause-homes g c = c.in_ok-map.ensures.homes

pub returns-clause-flags : goal.returns-clause-flags
returns-clause-flags g c = c.in_ok-map.ensures.flags

pub returns-clause-known : goal.returns-clause-known
returns-clause-known g c = c.in_ok-map.ensures.found

pub returns-clause-stand : goal.returns-clause-stand
returns-clause-stand g c = c.in_ok-map.ensures.stand

pub returns-clause-grows : goal.returns-clause-grows
returns-clause-grows g c = c.in_ok-map.ensures.grows

pub returns-clause-founded : goal.returns-clause-founded
returns-clause-founded g c = c.in_ok-map.ensures.founded

pub returns-clause-asks : goal.returns-clause-asks
returns-clause-asks g c = c.in_ok-map.ensures.asks

pub returns-in_err-clone-clause-homes : goal.returns-in_err-clone-clause-homes
returns-in_err-clone-clause-homes g c = c.in_ok-map.ensures.homes

pub returns-in_err-clone-clause-flags : goal.returns-in_err-clone-clause-flags
returns-in_err-clone-clause-flags g c = c.in_ok-map.ensures.flags

pub returns-in_err-clone-clause-stand : goal.returns-in_err-clone-clause-stand
returns-in_err-clone-clause-stand g c = c.in_ok-map.ensures.stand

pub returns-in_err-clone-clause-grows : goal.returns-in_err-clone-clause-grows
returns-in_err-clone-clause-grows g c = c.in_ok-map.ensures.grows

pub returns-in_err-clone-clause-founded : goal.returns-in_err-clone-clause-founded
returns-in_err-clone-clause-founded g c = c.in_ok-map.ensures.founded

pub returns-in_err-clone-clause-asks : goal.returns-in_err-clone-clause-asks
returns-in_err-clone-clause-asks g c = c.in_ok-map.ensures.asks

pub returns-in_err-insert-clause-homes : goal.returns-in_err-insert-clause-homes
returns-in_err-insert-clause-homes g c = c.in_ok-map.ensures.homes

pub returns-in_err-insert-clause-flags : goal.returns-in_err-insert-clause-flags
returns-in_err-insert-clause-flags g c = c.in_ok-map.ensures.flags

pub returns-in_err-insert-clause-stand : goal.returns-in_err-insert-clause-stand
returns-in_err-insert-clause-stand g c = c.in_ok-map.ensures.stand

pub returns-in_err-insert-clause-grows : goal.returns-in_err-insert-clause-grows
returns-in_err-insert-clause-grows g c = c.in_ok-map.ensures.grows

pub returns-in_err-insert-clause-founded : goal.returns-in_err-insert-clause-founded
returns-in_err-insert-clause-founded g c = c.in_ok-map.ensures.founded

pub returns-in_err-insert-clause-asks : goal.returns-in_err-insert-clause-asks
returns-in_err-insert-clause-asks g c = c.in_ok-map.ensures.asks

pub returns-in_err-map-clause-homes : goal.returns-in_err-map-clause-homes
returns-in_err-map-clause-homes g c = c.ask.ensures.homes

pub returns-in_err-map-clause-flags : goal.returns-in_err-map-clause-flags
returns-in_err-map-clause-flags g c = c.ask.ensures.flags

pub returns-in_err-map-clause-stand : goal.returns-in_err-map-clause-stand
returns-in_err-map-clause-stand g c = c.ask.ensures.stand

pub returns-in_err-map-clause-grows : goal.returns-in_err-map-clause-grows
returns-in_err-map-clause-grows g c = c.ask.ensures.grows

pub returns-in_err-map-clause-founded : goal.returns-in_err-map-clause-founded
returns-in_err-map-clause-founded g c = c.ask.ensures.founded

pub returns-in_err-map-clause-asks : goal.returns-in_err-map-clause-asks
returns-in_err-map-clause-asks g c = c.ask.ensures.asks
