use Rattle.desk_lock.specs.Meaning.{meant_by}
use Rattle.desk_lock.proofs.MayLaws.{may_release}
use Rattle.desk_lock.proofs.ReadyLaws.{is_ready, may_let_go}
use Rattle.desk_lock.proofs.claims.Desk+Book+P.release.Goals as goal

pub release_part-requires : goal.release_part-requires
release_part-requires g c = may_release
    (meant_by g.P.Parts.plan_agrees g.P.Parts.own_agrees g.P.Parts.is_sound) c.args.hand.now.seat.me.0 c.take-book.result
    c.take-book.ensures.learns c.args.ticket c.requires.may

pub open_released-requires-clause-allows : goal.open_released-requires-clause-allows
open_released-requires-clause-allows g c =
    let v = c.args.hand.now.seat.me.0 in
    let back = c.release_part.new.book in
    may_let_go _ v c.requires.hand.idle.some_part c.take-book.result back c.put.new.seat.me
    (is_ready v c.take-book.result back c.take-book.new.seat.me c.put.new.seat.me c.take-book.ensures.me
    c.put.ensures.back) c.args.ticket c.serial-serial.result c.serial-serial.ensures c.requires.may
    c.release_part.ensures
