use Rattle.std.proofs.Common.{◌≡◌, length, vec_len}
use Rattle.desk_work.specs.Dealing.{piles_seen}
use Rattle.desk_work.proofs.PileLaws.{ArePutFrom}
use Rattle.desk_work.proofs.deal.put_all.Given as goal

abbrev pub invariant-loop-key : goal.invariant-loop-key
invariant-loop-key l = record {
  many : length l.piles ≡ length l.fn.piles;
  put : ArePutFrom l.homes l.fn.parts.items l.parts.items (piles_seen l.piles);
}

abbrev pub decreases-loop-key : goal.decreases-loop-key
decreases-loop-key l = vec_len l.parts
