use Rattle.std.specs.Option.{option_copied}
use Rattle.dita_doc.specs.Request.{Build}
use Rattle.desk_core.specs.Seen.{snapshot_seen}
use Rattle.facts.specs.Latest.{Agrees}
use Rattle.desk_lock.proofs.CallLaws.{begins, looks_again, unbegun}
use Rattle.desk_lock.proofs.ReadyLaws.{is_ready, may_enter, may_see}
use Rattle.desk_lock.proofs.entries.Desk+Book+P.begin.Goals as goal

pub returns-in_default-clause-err : goal.returns-in_default-clause-err
returns-in_default-clause-err g c = looks_again c.args.pass.now.seat.me c.requires.pass.idle

pub open_entered-requires-clause-allows : goal.open_entered-requires-clause-allows
open_entered-requires-clause-allows g c =
    let v = c.args.pass.now.seat.me.0 in
    let back = c.ask_build-begun.new.book in
    may_enter _ v c.requires.pass.idle.some_part c.take_book-book.result back c.put.new.seat.me
    (is_ready v c.take_book-book.result back c.take_book-book.new.seat.me c.put.new.seat.me c.take_book-book.ensures.me
    c.put.ensures.back) c.args.pass.now.session c.args.number (Build c.in-Ok.map c.in-Ok.val) c.in-Ok-begun.begun.0
    c.requires.pass.session c.in-Ok-begun.ensures.ok.asked

pub open_unchanged-requires-clause-allows : goal.open_unchanged-requires-clause-allows
open_unchanged-requires-clause-allows g c =
    let v = c.args.pass.now.seat.me.0 in
    let back = c.ask_build-begun.new.book in
    may_see _ v c.requires.pass.idle.some_part c.take_book-book.result back c.put.new.seat.me
    (is_ready v c.take_book-book.result back c.take_book-book.new.seat.me c.put.new.seat.me c.take_book-book.ensures.me
    c.put.ensures.back)
    (unbegun (Agrees g.P.Parts.plan_agrees g.P.Parts.own_agrees) c.args.pass.now.session c.args.number c.in-Ok.map
    c.in-Ok.val c.take_book-book.result back c.in-Err.stop c.in-Err.ensures.err)

pub returns-in-Ok-begun-clause-ok : goal.returns-in-Ok-begun-clause-ok
returns-in-Ok-begun-clause-ok g c =
    let me = c.args.pass.now.seat.me in
    let back = c.ask_build-begun.new.book in
    begins me.0 c.take_book-book.result back c.take_book-book.ensures.learns c.put.new.seat.me
    c.open_entered.new.seat.me (is_ready me.0 c.take_book-book.result back c.take_book-book.new.seat.me
    c.put.new.seat.me c.take_book-book.ensures.me c.put.ensures.back) c.args.pass.now.session c.args.number
    c.args.map.now c.in-Ok.map (option_copied c.args.val) c.in-Ok.val c.in-Ok-begun.begun.0
    (snapshot_seen c.in-Ok-begun.begun.1) c.requires.pass.session c.in-Ok.ensures.map c.in-Ok.ensures.val
    c.take_book-book.ensures.order.store c.in-Ok-begun.ensures.ok c.open_entered.ensures.me
