use Rattle.std.proofs.Common.{◌≡◌, ℕ, List, drop}
use Rattle.std.specs.List.{list_any}
use Rattle.conref_push.proofs.ActLaws.{node_acts}
use Rattle.conref_push.proofs.acts.has_conaction_in.Given as goal

abbrev pub invariant-loop-node : goal.invariant-loop-node
invariant-loop-node l = (name : List ℕ)
    → list_any (node_acts name) l.node-items ≡ list_any (node_acts name) (drop l.node-index l.node-items)
