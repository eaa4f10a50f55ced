use Rattle.std.proofs.Common.{sym}
use Rattle.family_links.proofs.KindLaws.{family_named, none_named, sequence_named}
use Rattle.family_links.proofs.groups.kind_named.Goals as goal

pub returns-then-eq : goal.returns-then-eq
returns-then-eq c = sequence_named c.args.value.now (sym c.if-eq.ensures)

pub returns-then-eq-2 : goal.returns-then-eq-2
returns-then-eq-2 c = family_named c.args.value.now (sym c.if-eq.ensures) (sym c.if-eq-2.ensures)

pub returns-else-eq-2 : goal.returns-else-eq-2
returns-else-eq-2 c = none_named c.args.value.now (sym c.if-eq.ensures) (sym c.if-eq-2.ensures)
