use Rattle.std.specs.Arc.{arc_value}
use Rattle.facts.specs.Rows.{row_data}
use Rattle.desk_lock.specs.Meaning.{meant_by}
use Rattle.desk_lock.proofs.CallLaws.{publishes}
use Rattle.desk_lock.proofs.MayLaws.{may_publish}
use Rattle.desk_lock.proofs.ReadyLaws.{is_ready, may_print}
use Rattle.desk_lock.proofs.claims.Desk+Book+P.publish.Goals as goal

pub publish_part-row-requires : goal.publish_part-row-requires
publish_part-row-requires g c = may_publish
    (meant_by g.P.Parts.plan_agrees g.P.Parts.own_agrees g.P.Parts.is_sound) c.args.hand.now.seat.me.0
    c.take_book-book.result c.take_book-book.ensures.learns c.take_book-book.ensures.order.claims c.args.ticket
    (arc_value c.args.fact.kept) c.requires.may

pub open_printed-requires-clause-allows : goal.open_printed-requires-clause-allows
open_printed-requires-clause-allows g c =
    let v = c.args.hand.now.seat.me.0 in
    let back = c.publish_part-row.new.book in
    may_print _ v c.requires.hand.idle.some_part c.take_book-book.result back c.put.new.seat.me
    (is_ready v c.take_book-book.result back c.take_book-book.new.seat.me c.put.new.seat.me c.take_book-book.ensures.me
    c.put.ensures.back) (meant_by g.P.Parts.plan_agrees g.P.Parts.own_agrees g.P.Parts.is_sound) c.args.ticket
    (arc_value c.args.fact.kept) (row_data c.publish_part-row.result) c.requires.may c.publish_part-row.ensures

pub returns-clause-publishes : goal.returns-clause-publishes
returns-clause-publishes g c =
    let me = c.args.hand.now.seat.me in
    let back = c.publish_part-row.new.book in
    publishes me.0 c.take_book-book.result back c.take_book-book.ensures.learns c.put.new.seat.me
    c.open_printed.new.seat.me (is_ready me.0 c.take_book-book.result back c.take_book-book.new.seat.me
    c.put.new.seat.me c.take_book-book.ensures.me c.put.ensures.back)
    (meant_by g.P.Parts.plan_agrees g.P.Parts.own_agrees g.P.Parts.is_sound) c.take_book-book.ensures.order c.args.ticket
    (arc_value c.args.fact.kept) (row_data c.publish_part-row.result) c.requires.may c.publish_part-row.ensures
    c.open_printed.ensures.me
