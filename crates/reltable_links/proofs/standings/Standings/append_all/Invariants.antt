use Rattle.std.proofs.Common.{◌≡◌, take}
use Rattle.std.specs.Prelude.{◌||◌, Bool}
use Rattle.std.specs.List.{list_any}
use Rattle.reltable_links.specs.Standings.{reached}
use Rattle.reltable_links.specs.declared.cells.RowCell.{RowCell}
use Rattle.reltable_links.proofs.standings.Standings.append_all.Given as goal

abbrev pub invariant-loop-standing : goal.invariant-loop-standing
invariant-loop-standing l = (test : RowCell → Bool) → list_any test l.linked.items
    ≡ (list_any test l.fn.linked.items
    || list_any (reached test l.self.rows.entries) (take l.standing-index l.standings))
