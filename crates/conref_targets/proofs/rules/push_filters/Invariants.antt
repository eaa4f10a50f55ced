use Rattle.std.proofs.Common.{◌≡◌, ◌++◌, drop}
use Rattle.dita_doc.specs.Shown.{shown}
use Rattle.conref_targets.specs.Rules.{all_kept}
use Rattle.conref_targets.proofs.rules.push_filters.Given as goal

abbrev pub invariant-loop-filter : goal.invariant-loop-filter
invariant-loop-filter l = shown l.tables.items ++ all_kept l.known (drop l.filter-index l.filters)
    ≡ shown l.fn.tables.items ++ all_kept l.known l.filters
