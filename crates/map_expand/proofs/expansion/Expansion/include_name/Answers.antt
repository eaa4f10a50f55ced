use Rattle.std.proofs.Common.{◌≡◌, [], ◌∷◌, ◌++◌, arith, ap, length, sym, refl, subst, ◌∙◌, bytes_eq, length-append, Some, None}
use Rattle.std.specs.List.{list_any}
use Rattle.dita_doc.specs.declared.fault.FaultCode.TheVariants as faults
use Rattle.doc_elements.specs.Walk.{element_of}
use Rattle.map_spec.specs.Elements.{fault_at}
use Rattle.map_spec.specs.Included.{map_in}
use Rattle.map_expand.specs.Going.{Goes, homes_of, path_at, so_far}
use Rattle.map_expand.specs.Homes.{IsNodeOf, name_at}
use Rattle.map_expand.specs.Including.{submap_under}
use Rattle.map_expand.proofs.CallLaws.{faulted, home_found, rest_found}
use Rattle.map_expand.proofs.ReadyLaws.{ready_found}
use Rattle.map_expand.proofs.expansion.Expansion.include_name.Goals as goal

pub include_map-requires : goal.include_map-requires
include_map-requires g c =
    let named = rw c.in-Some.is at c.in_ok-map.ensures.within in
    let ready = ready_found _ _ c.args.maps.now c.find.new.self c.args.self.now c.requires.ready
    c.in_ok-map.ensures.grows c.in_ok-map.ensures.fits
    c.find.ensures.homes c.find.ensures.flags in
    record {
      within = omega (
        arith,
        ap (λ l. length l) c.find.ensures.homes.is,
        length-append (homes_of c.args.maps.now) c.find.ensures.homes.more,
        c.requires.within,
      );
      there = named.within;
      fits = c.in_ok-map.ensures.fits.fits c.in-Some.map named.within;
      named = named.named;
      around = ready.around c.in-Some.map named.within
          ∙ ap (λ n. list_any (bytes_eq n) (path_at c.find.new.self c.args.self.now)) named.named;
      level = c.requires.level;
      count = c.requires.count;
    }

pub returns-in-Some-clause-ready : goal.returns-in-Some-clause-ready
returns-in-Some-clause-ready g c = c.include_map.ensures.ready (g.R.Reader.told c.find.new.reader)
    (ready_found _ _ c.args.maps.now c.find.new.self c.args.self.now c.requires.ready
    c.in_ok-map.ensures.grows c.in_ok-map.ensures.fits
    c.find.ensures.homes c.find.ensures.flags)

pub returns-in-Some-clause-made : goal.returns-in-Some-clause-made
returns-in-Some-clause-made g c = λ world agrees node here.
    let homes = homes_of c.args.maps.now in
    let new = homes_of c.find.new.self in
    let name = c.args.name.now in
    let at = c.args.walk.map in
    let found = rw c.in-Some.is at (c.in_ok-map.ensures.known world agrees) in
    subst (Goes world c.include_map.result c.include_map.new.maps c.include_map.new.self)
    (rest_found world homes new (length c.args.self.now.nodes) c.args.self.now.left.items at c.args.place c.args.walk.level
    node name (Some found.root) (map_in world name) (so_far c.args.self.now) c.find.ensures.homes c.requires.ready.work
    c.requires.within (sym found.is))
    (c.include_map.ensures.made world node found.root
    (subst (λ h. IsNodeOf h c.args.walk node) (sym (home_found homes new at c.find.ensures.homes c.requires.within)) here)
    found.here found.placed)

pub returns-in_ok-append_fault-in-None-clause-ready : goal.returns-in_ok-append_fault-in-None-clause-ready
returns-in_ok-append_fault-in-None-clause-ready g c =
    let ready = ready_found _ _ c.args.maps.now c.find.new.self c.args.self.now c.requires.ready
    c.in_ok-map.ensures.grows c.in_ok-map.ensures.fits
    c.find.ensures.homes c.find.ensures.flags in
    record {
      maps_fit = ready.maps_fit;
      work = ready.work;
      around = ready.around;
      apart = ready.apart;
      asked = ready.asked;
    }

pub returns-in_ok-append_fault-in-None-clause-made : goal.returns-in_ok-append_fault-in-None-clause-made
returns-in_ok-append_fault-in-None-clause-made g c = λ world agrees node here.
    let homes = homes_of c.args.maps.now in
    let new = homes_of c.find.new.self in
    let name = c.args.name.now in
    let at = c.args.walk.map in
    let path = path_at c.find.new.self c.args.self.now in
    let element = element_of (name_at new at) node in
    let none : map_in world name ≡ None = rw c.in-None.is at (c.in_ok-map.ensures.known world agrees) in
    let there = subst (λ h. IsNodeOf h c.args.walk node) (sym (home_found homes new at c.find.ensures.homes c.requires.within)) here in
    faulted world new c.args.self.now.left.items c.args.place
    (submap_under world path c.args.walk.level element name None) element faults.MapMissing name
    c.args.self.now.nodes c.args.self.now.faults c.append_fault.new.faults refl
    (c.in_ok-append_fault-in-None.ensures node there
    ∙ ap (λ d. c.args.self.now.faults ++ fault_at element faults.MapMissing d ∷ []) c.as_str.ensures.value)
    ∙ rest_found world homes new (length c.args.self.now.nodes) c.args.self.now.left.items at c.args.place c.args.walk.level
    node name None (map_in world name) (so_far c.args.self.now) c.find.ensures.homes c.requires.ready.work
    c.requires.within (sym none)

pub returns-in-Some-clause-few : goal.returns-in-Some-clause-few
returns-in-Some-clause-few g c = c.include_map.ensures.few

pub returns-in-Some-clause-less : goal.returns-in-Some-clause-less
returns-in-Some-clause-less g c = c.include_map.ensures.less

pub returns-in-Some-clause-stand : goal.returns-in-Some-clause-stand
returns-in-Some-clause-stand g c = c.in_ok-map.ensures.stand

pub returns-in-Some-clause-grows : goal.returns-in-Some-clause-grows
returns-in-Some-clause-grows g c = c.in_ok-map.ensures.grows

pub returns-in-Some-clause-founded : goal.returns-in-Some-clause-founded
returns-in-Some-clause-founded g c = c.in_ok-map.ensures.founded

pub returns-in-Some-clause-asks : goal.returns-in-Some-clause-asks
returns-in-Some-clause-asks g c = c.in_ok-map.ensures.asks

pub returns-in_ok-append_fault-in-None-clause-few : goal.returns-in_ok-append_fault-in-None-clause-few
returns-in_ok-append_fault-in-None-clause-few g c = c.requires.count

pub returns-in_ok-append_fault-in-None-clause-less : goal.returns-in_ok-append_fault-in-None-clause-less
returns-in_ok-append_fault-in-None-clause-less g c = omega arith

pub returns-in_ok-append_fault-in-None-clause-stand : goal.returns-in_ok-append_fault-in-None-clause-stand
returns-in_ok-append_fault-in-None-clause-stand g c = c.in_ok-map.ensures.stand

pub returns-in_ok-append_fault-in-None-clause-grows : goal.returns-in_ok-append_fault-in-None-clause-grows
returns-in_ok-append_fault-in-None-clause-grows g c = c.in_ok-map.ensures.grows

pub returns-in_ok-append_fault-in-None-clause-founded : goal.returns-in_ok-append_fault-in-None-clause-founded
returns-in_ok-append_fault-in-None-clause-founded g c = c.in_ok-map.ensures.founded

pub returns-in_ok-append_fault-in-None-clause-asks : goal.returns-in_ok-append_fault-in-None-clause-asks
returns-in_ok-append_fault-in-None-clause-asks g c = c.in_ok-map.ensures.asks

pub returns-in_err-append_fault-in-None-clause-stand : goal.returns-in_err-append_fault-in-None-clause-stand
returns-in_err-append_fault-in-None-clause-stand g c = c.in_ok-map.ensures.stand

pub returns-in_err-append_fault-in-None-clause-grows : goal.returns-in_err-append_fault-in-None-clause-grows
returns-in_err-append_fault-in-None-clause-grows g c = c.in_ok-map.ensures.grows

pub returns-in_err-append_fault-in-None-clause-founded : goal.returns-in_err-append_fault-in-None-clause-founded
returns-in_err-append_fault-in-None-clause-founded g c = c.in_ok-map.ensures.founded

pub returns-in_err-append_fault-in-None-clause-asks : goal.returns-in_err-append_fault-in-None-clause-asks
returns-in_err-append_fault-in-None-clause-asks g c = c.in_ok-map.ensures.asks

pub returns-in_err-map-clause-stand : goal.returns-in_err-map-clause-stand
returns-in_err-map-clause-stand g c = c.find.ensures.stand

pub returns-in_err-map-clause-grows : goal.returns-in_err-map-clause-grows
returns-in_err-map-clause-grows g c = c.find.ensures.grows

pub returns-in_err-map-clause-founded : goal.returns-in_err-map-clause-founded
returns-in_err-map-clause-founded g c = c.find.ensures.founded

pub returns-in_err-map-clause-asks : goal.returns-in_err-map-clause-asks
returns-in_err-map-clause-asks g c = c.find.ensures.asks
