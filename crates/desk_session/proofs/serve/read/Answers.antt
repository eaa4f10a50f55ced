use Rattle.std.proofs.Common.{◌≡◌, Err, rules, subst, sym}
use Rattle.pyx_text.specs.Pieces.{Feeds}
use Rattle.script_text.specs.Pieces.{AnswersPiece}
use Rattle.script_text.specs.Reader.{StandsFor}
use Rattle.desk_session.proofs.ReadLaws.{reads_fault, reads_none, reads_some, reads_untold}
use Rattle.desk_session.specs.SoFar.{Reads}
use Rattle.desk_session.proofs.serve.read.Goals as goal

pub returns-in-Ok-clause-reads : goal.returns-in-Ok-clause-reads
returns-in-Ok-clause-reads g c =
    reads_some c.args.reader.now c.feed.new.self c.args.piece.now (g.L.Link.told c.args.link.now) c.in-Ok.requests
    c.in-Ok.ensures.feeds

pub returns-in-Err-NoMemory-clause-reads : goal.returns-in-Err-NoMemory-clause-reads
returns-in-Err-NoMemory-clause-reads g c =
    reads_none c.args.reader.now c.feed.new.self c.args.piece.now (g.L.Link.told c.args.link.now)

pub returns-in_ok-say_fault-in-Err-Fault-clause-reads : goal.returns-in_ok-say_fault-in-Err-Fault-clause-reads
returns-in_ok-say_fault-in-Err-Fault-clause-reads g c =
    reads_fault c.args.reader.now c.feed.new.self c.args.piece.now (g.L.Link.told c.args.link.now)
    (g.L.Link.told c.say_fault.new.link) c.in-Err-Fault.fault
    (subst (λ stop. Feeds StandsFor AnswersPiece c.args.reader.now c.args.piece.now (Err stop) c.feed.new.self)
    c.in-Err-Fault.field-0-is c.in-Err-Fault.ensures.feeds)
    c.in_ok-say_fault-in-Err-Fault.ensures.0 c.in_ok-say_fault-in-Err-Fault.ensures.1

pub returns-in_err-say_fault-in-Err-Fault-clause-reads : goal.returns-in_err-say_fault-in-Err-Fault-clause-reads
returns-in_err-say_fault-in-Err-Fault-clause-reads g c =
    let old = g.L.Link.told c.args.link.now in
    let new = g.L.Link.told c.say_fault.new.link in
    let ended = c.in_err-say_fault-in-Err-Fault.field-0.0 in
    let is : c.from_residual.result ≡ Err ended = search rules in
    subst (λ answer. Reads c.args.reader.now c.args.piece.now answer c.feed.new.self old new) (sym is)
    (reads_untold c.args.reader.now c.feed.new.self c.args.piece.now old new c.in-Err-Fault.fault ended
    c.in_err-say_fault-in-Err-Fault.ensures)
