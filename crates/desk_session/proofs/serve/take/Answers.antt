use Rattle.std.proofs.Common.{◌≡◌, Err, [], refl, rules, subst, sym}
use Rattle.desk_lock.specs.Tokens.{pass_view}
use Rattle.desk_session.proofs.EndLaws.{ends_reading, ends_unread}
use Rattle.desk_session.proofs.SoFarLaws.{left_of_read, may_read_nothing, waits_of_read}
use Rattle.desk_session.specs.SoFar.{Ends, GoesAgain}
use Rattle.desk_session.proofs.serve.take.Goals as goal

pub returns-in_err-requests-clause-takes : goal.returns-in_err-requests-clause-takes
returns-in_err-requests-clause-takes g c = λ start may.
    let clean = g.M.Makers.language.clean in
    let v = pass_view c.args.pass.now in
    let old = g.L.Link.told c.args.link.now in
    let new = g.L.Link.told c.read.new.link in
    let ended = c.in_err-requests.field-0.0 in
    let is : c.from_residual.result ≡ Err ended = search rules in
    subst (λ answer. GoesAgain clean start answer v new
    (record { reader = c.read.new.reader; number = c.args.reading.now.number; waiting = c.args.reading.now.waiting })) (sym is)
    (ends_reading clean start v old new c.args.reading.now c.args.message.now may ended
    (c.in_err-requests.ensures.reads.answers may.text may.stands))

pub returns-in_err-reading-clause-takes : goal.returns-in_err-reading-clause-takes
returns-in_err-reading-clause-takes g c = λ start may.
    let clean = g.M.Makers.language.clean in
    let v = pass_view c.args.pass.now in
    let old = g.L.Link.told c.args.link.now in
    let new = g.L.Link.told c.read.new.link in
    let ended = c.in_err-reading.field-0.0 in
    let is : c.from_residual-in_err-reading.result ≡ Err ended = search rules in
    subst (λ answer. GoesAgain clean start answer v new
    (record { reader = c.read.new.reader; number = c.args.reading.now.number; waiting = c.args.reading.now.waiting })) (sym is)
    (subst (λ end. Ends clean start v new end) (sym c.in_err-reading.ensures)
    (ends_unread clean start v old new c.args.reading.now c.args.message.now may
    (c.in_ok-requests.ensures.reads.answers may.text may.stands).1))

pub returns-in_err-answer_all-clause-takes : goal.returns-in_err-answer_all-clause-takes
returns-in_err-answer_all-clause-takes g c = λ start may.
    let clean = g.M.Makers.language.clean in
    let v = pass_view c.args.pass.now in
    let w = pass_view c.answer_all.new.pass in
    let new = g.L.Link.told c.answer_all.new.link in
    let ended = c.in_err-answer_all.field-0.0 in
    let is : c.from_residual-in_err-answer_all.result ≡ Err ended = search rules in
    subst (λ answer. GoesAgain clean start answer w new
    c.answer_all.new.reading) (sym is)
    (c.in_err-answer_all.ensures.answers start
    (left_of_read clean start v (g.L.Link.told c.args.link.now) (g.L.Link.told c.read.new.link) c.args.reading.now _
    c.args.message.now c.in_ok-requests.requests may c.in_ok-requests.ensures.reads refl))

pub returns-in_err-read-clause-takes : goal.returns-in_err-read-clause-takes
returns-in_err-read-clause-takes g c = λ start may.
    let clean = g.M.Makers.language.clean in
    let v = pass_view c.args.pass.now in
    let w = pass_view c.answer_all.new.pass in
    let between = g.L.Link.told c.answer_all.new.link in
    let new = g.L.Link.told c.read-2.new.link in
    let ended = c.in_err-read.field-0.0 in
    let is : c.from_residual-in_err-read.result ≡ Err ended = search rules in
    let left = c.in_ok-answer_all.ensures.answers start
    (left_of_read clean start v (g.L.Link.told c.args.link.now) (g.L.Link.told c.read.new.link) c.args.reading.now _
    c.args.message.now c.in_ok-requests.requests may c.in_ok-requests.ensures.reads refl) in
    let again = may_read_nothing clean start w between c.answer_all.new.reading left in
    subst (λ answer. GoesAgain clean start answer w new
    (record { reader = c.read-2.new.reader; number = c.answer_all.new.reading.number; waiting = c.answer_all.new.reading.waiting })) (sym is)
    (ends_reading clean start w between new c.answer_all.new.reading [] again ended
    (c.in_err-read.ensures.reads.answers again.text again.stands))

pub returns-clause-takes : goal.returns-clause-takes
returns-clause-takes g c = λ start may.
    let clean = g.M.Makers.language.clean in
    let v = pass_view c.args.pass.now in
    let left = c.in_ok-answer_all.ensures.answers start
    (left_of_read clean start v (g.L.Link.told c.args.link.now) (g.L.Link.told c.read.new.link) c.args.reading.now _
    c.args.message.now c.in_ok-requests.requests may c.in_ok-requests.ensures.reads refl) in
    waits_of_read clean start (pass_view c.answer_all.new.pass) (g.L.Link.told c.answer_all.new.link)
    (g.L.Link.told c.read-2.new.link) c.answer_all.new.reading _ c.in_ok-read.field-0 left c.in_ok-read.ensures.reads refl
