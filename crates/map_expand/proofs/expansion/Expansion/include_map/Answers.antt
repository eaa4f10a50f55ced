use Rattle.std.proofs.Common.{[], ◌∷◌, ◌++◌, arith, ap, sym, subst, ◌∙◌}
use Rattle.dita_doc.specs.declared.fault.FaultCode.TheVariants as faults
use Rattle.doc_elements.specs.Walk.{element_of}
use Rattle.map_spec.specs.Elements.{fault_at}
use Rattle.map_expand.specs.Going.{Goes, homes_of, path_at, rest, so_far}
use Rattle.map_expand.specs.Homes.{name_at}
use Rattle.map_expand.specs.Including.{submap_under}
use Rattle.map_expand.specs.Making.{put}
use Rattle.std.specs.Prelude.{Some}
use Rattle.map_expand.proofs.CallLaws.{faulted, submap_cycle, submap_entered}
use Rattle.map_expand.proofs.expansion.Expansion.include_map.Goals as goal

pub returns-then-is_around-clause-made : goal.returns-then-is_around-clause-made
returns-then-is_around-clause-made c = λ world node root here is placed.
    let homes = homes_of c.args.maps.now in
    let path = path_at c.args.maps.now c.args.self.now in
    let name = c.args.name.now in
    let element = element_of (name_at homes c.args.walk.map) node in
    faulted world homes c.args.self.now.left.items c.args.place
    (submap_under world path c.args.walk.level element name (Some root)) element faults.MapCycle name
    c.args.self.now.nodes c.args.self.now.faults c.append_fault.new.faults
    (submap_cycle world path c.args.walk.level element name root
    (sym c.requires.around ∙ sym c.is_around.ensures ∙ c.if-is_around.true))
    (c.in_ok-append_fault.ensures node here
    ∙ ap (λ d. c.args.self.now.faults ++ fault_at element faults.MapCycle d ∷ []) c.as_str.ensures.value)

pub returns-clause-made : goal.returns-clause-made
returns-clause-made c = λ world node root here is placed.
    let homes = homes_of c.args.maps.now in
    let path = path_at c.args.maps.now c.args.self.now in
    let name = c.args.name.now in
    let element = element_of (name_at homes c.args.walk.map) node in
    subst (λ g. Goes world c.enter.result c.enter.new.maps c.enter.new.self
    (rest world c.args.maps.now c.args.self.now (put c.args.place g (so_far c.args.self.now))))
    (submap_entered world path c.args.walk.level element name root (name_at homes c.args.map)
    (sym c.requires.around ∙ sym c.is_around.ensures ∙ c.if-is_around.false) c.requires.named)
    (c.enter.ensures.made world root is placed (omega (arith, c.requires.level))
    (omega (arith, c.requires.level, c.requires.count)))

pub returns-clause-few : goal.returns-clause-few
returns-clause-few c = c.enter.ensures.few

pub returns-clause-less : goal.returns-clause-less
returns-clause-less c = c.enter.ensures.less

pub returns-clause-ready : goal.returns-clause-ready
returns-clause-ready c = λ told ready.
    c.enter.ensures.ready told ready (sym c.is_around.ensures ∙ c.if-is_around.false) (omega (arith, c.requires.level))
