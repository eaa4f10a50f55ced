-- Lists by number (own): what was put at a number, in order.
use Rattle.std.specs.Prelude.{◌==◌, ℕ, List, [], ◌∷◌, if◌then◌else◌}
use Rattle.std.specs.BTreeMap.{is_at}
use Rattle.std.specs.Map.{lookup}
use Rattle.std.specs.Option.{option_map_or}
use Rattle.std.specs.Ordering.{nat_cmp}
use Rattle.std.specs.declared.alloc.Global.{Global}
use Rattle.std.specs.declared.vec.Vec.{Vec}
use Rattle.link_groups.specs.declared.link_nodes.LinkNode.{LinkNode}

abbrev pub listed : {X : Type 0} → ℕ → List (ℕ × Vec X Global) → List X
listed {X} number entries =
    option_map_or (λ (list : Vec X Global). list.items) (lookup (is_at (nat_cmp number)) entries) []

abbrev pub if_there : {X : Type 0} → ℕ → ℕ → X → List X
if_there number there x = if number == there then x ∷ [] else []

abbrev pub Nodes : Type 0
Nodes = List LinkNode

-- the nodes of collections
abbrev pub Groups : Type 0
Groups = List (List LinkNode)
