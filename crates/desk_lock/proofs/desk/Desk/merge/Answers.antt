use Rattle.std.proofs.Common.{rules}
use Rattle.desk_lock.proofs.JoinLaws.{joins}
use Rattle.desk_lock.proofs.PassLaws.{may_compare, merged_idle, merged_joins}
use Rattle.desk_lock.proofs.desk.Desk.merge.Goals as goal

pub join_seat-requires : goal.join_seat-requires
join_seat-requires g c =
    let v = c.args.seat.now.me.0 in (
      search rules,
      search rules,
      c.requires.other_idle.empty,
      search rules,
      joins g.B.Shown.shown _ v _ c.args.other.me.0 c.requires.idle.some_part c.requires.idle.free
          c.requires.other_idle.free,
    )

pub load-requires : goal.load-requires
load-requires g c = (
  search rules,
  search rules,
  may_compare c.args.seat.now.me c.args.other.me c.join_seat.new.seat.me c.requires.idle c.join_seat.ensures.2
      g.B.Shown.shown _ _,
)

pub returns-clause-idle : goal.returns-clause-idle
returns-clause-idle g c = merged_idle c.args.seat.now.me c.args.other.me c.join_seat.new.seat.me c.requires.idle
    c.join_seat.ensures.2 c.load.result c.load.new.seat.me c.load.ensures.2

pub returns-clause-joins : goal.returns-clause-joins
returns-clause-joins g c = merged_joins c.args.seat.now.me c.args.other.me c.join_seat.new.seat.me c.requires.idle
    c.join_seat.ensures.2 c.load.result c.load.new.seat.me c.load.ensures.2
