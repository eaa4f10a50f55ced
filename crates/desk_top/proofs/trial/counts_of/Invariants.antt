use Rattle.std.proofs.Common.{◌≡◌, ◌≤◌, ◌*◌, length, sum_by, take}
use Rattle.desk_top.specs.Counts.{faults_given, pages_given}
use Rattle.desk_top.proofs.trial.counts_of.Given as goal

abbrev pub invariant-loop-built : goal.invariant-loop-built
invariant-loop-built l = record {
  entries : l.counts.entries ≡ length l.fn.answered.book.store.history;
  builds : l.counts.builds ≡ length l.fn.answered.built.items;
  pages : l.counts.pages ≤ l.built-index * 18446744073709551616;
  faults : l.counts.faults ≤ l.built-index * 18446744073709551616;
  told_pages : l.counts.pages ≡ sum_by pages_given (take l.built-index l.fn.answered.built.items);
  told_faults : l.counts.faults ≡ sum_by faults_given (take l.built-index l.fn.answered.built.items);
}
