use Rattle.std.proofs.Common.{◌≡◌, false, refl}
use Rattle.dita_doc.specs.declared.plan.PlanKind.{PlanKind}
use Rattle.dita_doc.specs.declared.plan.PlanKind.TheVariants.{Map, Reference, Included, DitavalRef, Group, RelTable, RelRow, RelCell}
use Rattle.dita_doc.proofs.Lists.{get_read}
use Rattle.map_spec.specs.Branches.{is_map_node}
use Rattle.branch_copies.proofs.branches.is_map_at.Goals as goal

no_map : (kind : PlanKind) → (kind ≡ Map → ⊥) → false ≡ is_map_node kind
no_map Map none = absurd (none refl)
no_map Reference none = refl
no_map Included none = refl
no_map DitavalRef none = refl
no_map Group none = refl
no_map RelTable none = refl
no_map RelRow none = refl
no_map RelCell none = refl

pub returns-in_default : goal.returns-in_default
returns-in_default c =
    let node = c.in-Some.node.now in
    let found = c.in-Some.ensures.lookup in
    rw (get_read c.args.nodes.now c.args.at node found.3.0 found.1) (no_map node.kind c.in_default.not-Map)
