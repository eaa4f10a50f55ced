use Rattle.std.proofs.Common.{◌<◌, rules, sym, subst}
use Rattle.desk_lock.proofs.TokenLaws.{splits}
use Rattle.desk_lock.proofs.desk.Desk.cut.Goals as goal

pub split_seat-requires : goal.split_seat-requires
split_seat-requires g c =
    let v = c.args.seat.now.me.0 in (
      search rules,
      search rules,
      splits g.B.Shown.shown _ v g.N.Share.for_session g.N.Share.with_parts
          (subst (λ n. n < v.parts) (sym c.requires.picked) c.requires.parts)
          (subst (λ n. 0 < n) (sym c.requires.picked) c.requires.some) c.requires.idle.free,
    )
