use Rattle.desk_core.specs.Seen.{snapshot_seen}
use Rattle.fact_table.specs.Answers.{answer_seen}
use Rattle.facts.specs.Latest.{Agrees}
use Rattle.desk_lock.specs.Meaning.{meant_by}
use Rattle.desk_lock.proofs.CallLaws.{answers, looks_again}
use Rattle.desk_lock.proofs.ReadyLaws.{is_ready, may_see, may_tell}
use Rattle.desk_lock.proofs.claims.Desk+Book+P.claim.Goals as goal

pub returns-in_default-clause-err : goal.returns-in_default-clause-err
returns-in_default-clause-err g c = looks_again c.args.hand.now.seat.me c.requires.hand.idle

pub open_claimed-requires-clause-allows : goal.open_claimed-requires-clause-allows
open_claimed-requires-clause-allows g c =
    let v = c.args.hand.now.seat.me.0 in
    let back = c.claim_part-claimed.new.book in
    may_tell _ v c.requires.hand.idle.some_part c.take_book-book.result back c.put.new.seat.me
    (is_ready v c.take_book-book.result back c.take_book-book.new.seat.me c.put.new.seat.me c.take_book-book.ensures.me
    c.put.ensures.back) (Agrees g.P.Parts.plan_agrees g.P.Parts.own_agrees) c.args.key.now
    (snapshot_seen c.args.snapshot.now) (answer_seen c.in-Ok-claimed.claimed) c.take_book-book.ensures.learns.seen c.requires.of
    c.in-Ok-claimed.ensures.ok

pub open_unchanged-requires-clause-allows : goal.open_unchanged-requires-clause-allows
open_unchanged-requires-clause-allows g c =
    let v = c.args.hand.now.seat.me.0 in
    let back = c.claim_part-claimed.new.book in
    may_see _ v c.requires.hand.idle.some_part c.take_book-book.result back c.put.new.seat.me
    (is_ready v c.take_book-book.result back c.take_book-book.new.seat.me c.put.new.seat.me c.take_book-book.ensures.me
    c.put.ensures.back) c.in-Err.ensures.err

pub returns-in-Ok-claimed-clause-ok : goal.returns-in-Ok-claimed-clause-ok
returns-in-Ok-claimed-clause-ok g c =
    let me = c.args.hand.now.seat.me in
    let back = c.claim_part-claimed.new.book in
    answers me.0 c.take_book-book.result back c.take_book-book.ensures.learns c.put.new.seat.me
    c.open_claimed.new.seat.me (is_ready me.0 c.take_book-book.result back c.take_book-book.new.seat.me
    c.put.new.seat.me c.take_book-book.ensures.me c.put.ensures.back)
    (meant_by g.P.Parts.plan_agrees g.P.Parts.own_agrees g.P.Parts.is_sound) c.take_book-book.ensures.order
    c.args.key.now (snapshot_seen c.args.snapshot.now) (answer_seen c.in-Ok-claimed.claimed) c.in-Ok-claimed.ensures.ok
    c.open_claimed.ensures.me
