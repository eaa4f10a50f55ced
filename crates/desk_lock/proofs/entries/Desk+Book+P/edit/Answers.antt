use Rattle.dita_doc.specs.Seen.{reply_seen, request_seen}
use Rattle.facts.specs.Latest.{Agrees}
use Rattle.desk_lock.proofs.CallLaws.{appends, unasked}
use Rattle.desk_lock.proofs.ReadyLaws.{is_ready, may_enter, may_see}
use Rattle.desk_lock.proofs.entries.Desk+Book+P.edit.Goals as goal

pub open_entered-requires-clause-allows : goal.open_entered-requires-clause-allows
open_entered-requires-clause-allows g c =
    let v = c.args.pass.now.seat.me.0 in
    let back = c.ask-placed.new.book in
    may_enter _ v c.requires.pass.idle.some_part c.take_book-book.result back c.put.new.seat.me
    (is_ready v c.take_book-book.result back c.take_book-book.new.seat.me c.put.new.seat.me c.take_book-book.ensures.me
    c.put.ensures.back) c.args.pass.now.session c.args.number (request_seen c.args.request) c.in-Ok.placed.0
    c.requires.pass.session c.in-Ok.ensures.ok.asked

pub open_unchanged-requires-clause-allows : goal.open_unchanged-requires-clause-allows
open_unchanged-requires-clause-allows g c =
    let v = c.args.pass.now.seat.me.0 in
    let back = c.ask-placed.new.book in
    may_see _ v c.requires.pass.idle.some_part c.take_book-book.result back c.put.new.seat.me
    (is_ready v c.take_book-book.result back c.take_book-book.new.seat.me c.put.new.seat.me c.take_book-book.ensures.me
    c.put.ensures.back)
    (unasked (Agrees g.P.Parts.plan_agrees g.P.Parts.own_agrees) c.args.pass.now.session c.args.number
    (request_seen c.args.request) c.take_book-book.result back c.in-Err.stop c.in-Err.ensures.err)

pub returns-in-Ok-clause-ok : goal.returns-in-Ok-clause-ok
returns-in-Ok-clause-ok g c =
    let me = c.args.pass.now.seat.me in
    let back = c.ask-placed.new.book in
    appends me.0 c.take_book-book.result back c.take_book-book.ensures.learns c.put.new.seat.me
    c.open_entered.new.seat.me (is_ready me.0 c.take_book-book.result back c.take_book-book.new.seat.me
    c.put.new.seat.me c.take_book-book.ensures.me c.put.ensures.back) c.args.pass.now.session c.args.number
    (request_seen c.args.request) (reply_seen c.in-Ok.placed.1) c.in-Ok.placed.0 c.requires.pass.session
    c.take_book-book.ensures.order.store c.in-Ok.ensures.ok c.open_entered.ensures.me
