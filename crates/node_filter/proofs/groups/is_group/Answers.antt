use Rattle.std.proofs.Common.{rules}
use Rattle.node_filter.proofs.groups.is_group.Goals as goal

pub returns-then-is_conditional_among : goal.returns-then-is_conditional_among
returns-then-is_conditional_among c = search rules

pub returns-else-is_conditional_among : goal.returns-else-is_conditional_among
returns-else-is_conditional_among c = search rules
