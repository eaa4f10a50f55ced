-- Which nodes stand in a plan (own): none that the build's rules exclude, or those of a DITAVAL among its filters.
use Rattle.std.specs.Prelude.{◌≡◌, ◌<◌, ℕ, List, Some, Bool, false, slice_get}
use Rattle.std.specs.List.{list_any}
use Rattle.std.specs.Option.{option_map_or}
use Rattle.dita_doc.specs.declared.content.Rule.{Rule}
use Rattle.dita_doc.specs.declared.plan.PlanNode.{PlanNode}
use Rattle.ditaval_rules.specs.Verdict.{excluded}
use Rattle.ditaval_rules.specs.declared.rules.RulesRead.{RulesRead}
use Rattle.reader_spec.specs.World.{World}
use Rattle.map_spec.specs.Branches.{ditaval_in}
use Rattle.map_spec.specs.Cascade.{whole_at}
use Rattle.map_spec.specs.Judged.{declared_in}
use Rattle.map_spec.specs.Written.{Whole}

-- rules exclude a node's element, by the names that are declared for it
abbrev pub are_excluding : World → PlanNode → List Rule → Bool
are_excluding world node rules =
    option_map_or (λ (whole : Whole). excluded rules (declared_in world node.doc node.place) whole.0.attributes)
    (whole_at world node) false

-- a DITAVAL does
abbrev pub is_excluded_by : World → PlanNode → List ℕ → Bool
is_excluded_by world node name =
    option_map_or (λ (read : RulesRead). are_excluding world node read.rules) (ditaval_in world name) false

abbrev pub AreKept : World → List Rule → List PlanNode → Type 0
AreKept world rules nodes = (at : ℕ) (node : PlanNode) → 0 < at → slice_get nodes at ≡ Some node
    → (are_excluding world node rules ≡ false) × (list_any (is_excluded_by world node) node.filters ≡ false)
