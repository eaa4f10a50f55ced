use Rattle.std.proofs.Common.{rules}
use Rattle.branch_copies.proofs.node.Originals.is_top_excluded.Goals as goal

pub returns-then-not-is_map_at : goal.returns-then-not-is_map_at
returns-then-not-is_map_at c = search rules

pub returns-else-not-is_map_at : goal.returns-else-not-is_map_at
returns-else-not-is_map_at c = search rules
