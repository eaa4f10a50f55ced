use Rattle.std.proofs.Common.{◌≡◌, ◌++◌, List, ℕ, length}
use Rattle.std.specs.Vec.Iter.{into_iter_items, into_iter_len}
use Rattle.branch_copies.specs.Seen.{AreSeen}
use Rattle.part_spec.specs.Parts.{hrefs_once}
use Rattle.clean_build.proofs.OnceLaws.{left_once}
use Rattle.clean_build.proofs.hrefs.hrefs_once.Given as goal

abbrev pub invariant-loop-link : goal.invariant-loop-link
invariant-loop-link l = record {
  size : into_iter_len l.link-iterator ≡ length (into_iter_items l.link-iterator);
  before : List (List ℕ);
  seen : AreSeen before l.seen.keys;
  whole : l.once ++ left_once before (into_iter_items l.link-iterator) ≡ hrefs_once l.fn.links;
}
