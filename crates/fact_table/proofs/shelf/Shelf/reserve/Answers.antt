use Rattle.std.proofs.Common.{refl}
use Rattle.fact_table.proofs.KeyLaws.{same_ranks}
use Rattle.fact_table.proofs.ShelfLaws.{reserve_is}
use Rattle.fact_table.proofs.shelf.Shelf.reserve.Goals as goal

pub returns-in_err-reserve-clause-shelf : goal.returns-in_err-reserve-clause-shelf
returns-in_err-reserve-clause-shelf c =
    reserve_is c.args.self.now _ c.requires.shelf c.in_err-reserve.ensures.items refl refl
    (same_ranks c.args.self.now.newest)

pub returns-in_err-reserve-clause-same : goal.returns-in_err-reserve-clause-same
returns-in_err-reserve-clause-same c = same_ranks c.args.self.now.newest

pub returns-clause-shelf : goal.returns-clause-shelf
returns-clause-shelf c =
    reserve_is c.args.self.now _ c.requires.shelf c.in_ok-reserve.ensures.items refl refl c.enter.ensures.same
