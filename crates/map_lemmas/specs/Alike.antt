-- Nodes that differ in nothing but what they carry (own): their values, and the numbers of their scopes.
use Rattle.std.specs.Prelude.{◌≡◌, ℕ, List, [], Option, map, option_map}
use Rattle.dita_doc.specs.declared.plan.PlanNode.{PlanNode}

-- a node without what it carries
abbrev pub plain : PlanNode → PlanNode
plain node = record node { scope = 0; cascaded = [] }

abbrev pub IsLike : PlanNode → PlanNode → Type 0
IsLike node other = plain node ≡ plain other

-- two nodes that are alike, or none twice
abbrev pub IsFoundAlike : Option PlanNode → Option PlanNode → Type 0
IsFoundAlike found other = option_map plain found ≡ option_map plain other

-- as many nodes, each like the one at its place
abbrev pub AreAlike : List PlanNode → List PlanNode → Type 0
AreAlike nodes others = map plain nodes ≡ map plain others

-- where a node stands
abbrev pub shape : PlanNode → ℕ × ℕ
shape node = (node.parent, node.end)
