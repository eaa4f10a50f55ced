use Rattle.std.proofs.Common.{◌≡◌}
use Rattle.std.specs.Vec.Iter.{into_iter_items}
use Rattle.map_spec.specs.Branches.{words_written}
use Rattle.map_spec.specs.Cascade.{with_new}
use Rattle.std.specs.Option.{option_copied}
use Rattle.branch_copies.specs.Seen.{AreSeen}
use Rattle.branch_copies.proofs.names.append_words.Given as goal

abbrev pub invariant-loop-word : goal.invariant-loop-word
invariant-loop-word l = record {
  words : with_new l.names (into_iter_items l.word-iterator)
      ≡ with_new l.fn.names (words_written (option_copied l.fn.value));
  seen : AreSeen l.names l.seen.keys;
}
