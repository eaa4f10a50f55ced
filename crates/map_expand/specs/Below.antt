-- What stands in the first of the nodes of a walk, below the node of a kind that it made at a place of the plan.
use Rattle.std.specs.Prelude.{◌||◌, ℕ}
use Rattle.dita_doc.specs.declared.plan.PlanKind.{PlanKind}
use Rattle.map_spec.specs.Included.{is_table}
use Rattle.map_expand.specs.Making.{content}
use Rattle.map_expand.specs.declared.work.Walk.{Walk}

abbrev pub below : Walk → ℕ → ℕ → PlanKind → Walk
below walk end parent kind =
    record (content walk end) { parent = parent; in_table = walk.in_table || is_table kind }
