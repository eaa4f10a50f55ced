-- How a session goes on: what was answered stays so, and one more is answered; a message comes, is read, and none of its
-- requests is left.
use Rattle.std.proofs.Common.{◌≡◌, ◌<◌, ◌+◌, ◌++◌, ◌∙◌, ℕ, List, [], ◌∷◌, Some, None, Ok, ap, append-nil, append_assoc, arith, length, map, refl, subst, sym}
use Rattle.std.proofs.lemmas.Option.{slice_get_within}
use Rattle.dita_doc.specs.Bytes.{Bytes}
use Rattle.dita_doc.specs.Request.{Request}
use Rattle.dita_doc.specs.Seen.{request_seen}
use Rattle.dita_doc.specs.declared.request.Request as given
use Rattle.dita_outside.specs.Links.{HasFewer, HasMore, LinkTold, Messages}
use Rattle.script_text.specs.Pieces.{Completes}
use Rattle.script_text.specs.Reader.{StandsFor}
use Rattle.script_text.specs.Requests.{RequestsRead, requests_of}
use Rattle.desk_lock.specs.declared.view.View.{View}
use Rattle.desk_session.proofs.AnswerLaws.{all_later, answered_later, answered_push, as_many, behind_push}
use Rattle.desk_session.proofs.GoesLaws.{goes_nowhere, goes_then}
use Rattle.desk_session.proofs.LinkLaws.{fewer_none, fewer_then, more_none, more_then}
use Rattle.desk_session.proofs.Lists.{flat_push, length_push, map_push, none_behind}
use Rattle.desk_session.specs.Answers.{AreAnswered, CleanBuild, SessionAnswer, all_messages, messages_of, places_of}
use Rattle.desk_session.specs.Asking.{GoesOn, PutsAnswer, PutsOne, messages_in}
use Rattle.desk_session.specs.Ends.{read_of}
use Rattle.desk_session.specs.Pass.{basis_of}
use Rattle.desk_session.specs.Saying.{Says}
use Rattle.desk_session.specs.SoFar.{HasAnswered, HasLeft, MayRead, Reads, Start, Waits, bytes_of}
use Rattle.desk_session.specs.declared.answer.Answer.{Answer}
use Rattle.desk_session.specs.declared.serve.Reading.{Reading}

module _ (clean : CleanBuild) (start : Start) where
  -- one request more
  pub has_more : (v w : View) (old new : LinkTold) (received : Messages) (requests : List Request)
      (answers : List SessionAnswer) (request : Request) (answered : SessionAnswer)
      → HasAnswered clean start v old received requests answers
      → PutsOne clean v (length answers + 1) request answered w → Says old new (messages_of answered)
      → new.faults ≡ old.faults
      → HasAnswered clean start w new received (requests ++ request ∷ []) (answers ++ answered ∷ [])
  has_more v w old new received requests answers request answered has puts says sure =
      let place = answered.place in
      let within : place < length w.seen = slice_get_within w.seen place answered.entry puts.is.stands in
      record {
        on = subst (GoesOn start.view w) (sym (map_push (λ (one : SessionAnswer). one.place) answers answered))
            (goes_then start.view v w (places_of answers) (place ∷ []) has.on puts.on);
        answered = answered_push (basis_of clean start.view w) 1 (length start.view.seen) (length answers + 1) requests answers
            request answered
            (all_later clean start.view v start.view w refl puts.on.seen puts.on.known 1 (length start.view.seen) requests
            answers has.answered)
            (omega arith)
            (answered_later clean v w start.view w (sym has.on.session)
            (goes_nowhere w).seen (goes_nowhere w).known (length answers + 1) request answered puts.is)
            (omega (arith, has.within, puts.behind));
        within = omega (arith, within, behind_push (length start.view.seen) answers answered);
        got = subst (HasFewer start.told.left new.left) (append-nil received)
            (fewer_then start.told.left old.left new.left received [] has.got says.left);
        sent = subst (HasMore start.told.sent new.sent) (sym (flat_push messages_of answers answered))
            (more_then start.told.sent old.sent new.sent (all_messages answers) (messages_of answered) has.sent says.sent);
        sure = sure ∙ has.sure;
      }

  -- one message more
  pub has_received : (w : View) (old new : LinkTold) (received : Messages) (message : Bytes) (requests : List Request)
      (answers : List SessionAnswer) → HasAnswered clean start w old received requests answers
      → HasFewer old.left new.left (message ∷ []) → HasMore old.sent new.sent [] → new.faults ≡ old.faults
      → HasAnswered clean start w new (received ++ message ∷ []) requests answers
  has_received w old new received message requests answers has got sent sure = record {
    on = has.on;
    answered = has.answered;
    within = has.within;
    got = fewer_then start.told.left old.left new.left received (message ∷ []) has.got got;
    sent = subst (HasMore start.told.sent new.sent) (append-nil (all_messages answers))
        (more_then start.told.sent old.sent new.sent (all_messages answers) [] has.sent sent);
    sure = sure ∙ has.sure;
  }

  pub may_read : (w : View) (old new : LinkTold) (reading : Reading) (message : Bytes)
      → Waits clean start w old reading → HasFewer old.left new.left (message ∷ []) → HasMore old.sent new.sent []
      → new.faults ≡ old.faults → MayRead clean start w new reading message
  may_read w old new reading message waits got sent sure = record {
    before = waits.received;
    message = message;
    answers = waits.answers;
    text = bytes_of waits.received;
    has = has_received w old new waits.received message (read_of waits.received).requests waits.answers waits.has got sent
        sure;
    whole = sym (flat_push (λ (one : Bytes). one) waits.received message);
    waited = omega (
      arith,
      as_many (basis_of clean start.view w) 1 (length start.view.seen) (read_of waits.received).requests waits.answers
          waits.has.answered,
    );
    sound = waits.sound;
    stands = waits.stands;
    count = waits.count;
  }

  -- what is left of the first message is what was read
  module _ (w : View) (now : LinkTold) (reading : Reading) (piece : Bytes) (may : MayRead clean start w now reading piece)
      (requests : List given.Request)
      (completes : Completes (requests_of may.text) (requests_of (may.text ++ piece)) (map request_seen requests)) where
    read_more : (read_of (may.before ++ may.message ∷ [])).requests
        ≡ (requests_of may.text).requests ++ map request_seen requests
    read_more = ap (λ text. (requests_of text).requests) (sym may.whole) ∙ completes.more

    pub has_left : (after : Reading) → StandsFor after.reader (Some (may.text ++ piece)) → after.number ≡ reading.number
        → HasLeft clean start w now after (map request_seen requests)
    has_left after stands number = record {
      before = may.before;
      message = may.message;
      answers = may.answers;
      requests = (requests_of may.text).requests;
      has = may.has;
      read = read_more;
      waited = may.waited;
      sound = may.sound;
      stands = subst (λ text. StandsFor after.reader (Some text)) may.whole stands;
      count = number ∙ may.count;
    }

    -- a piece that is empty completes none
    nothing_read : piece ≡ [] → map request_seen requests ≡ []
    nothing_read empty = none_behind (requests_of may.text).requests (map request_seen requests)
        (ap (λ text. (requests_of text).requests) (sym (append-nil may.text))
        ∙ ap (λ rest. (requests_of (may.text ++ rest)).requests) (sym empty) ∙ completes.more)

    pub waits_again : (after : Reading) → StandsFor after.reader (Some (may.text ++ piece)) → after.number ≡ reading.number
        → piece ≡ [] → Waits clean start w now after
    waits_again after stands number empty =
        let none = nothing_read empty in
        let all : (requests_of may.text).requests ≡ (read_of (may.before ++ may.message ∷ [])).requests =
        sym (read_more ∙ ap (λ rest. (requests_of may.text).requests ++ rest) none
        ∙ append-nil (requests_of may.text).requests) in
        record {
          received = may.before ++ may.message ∷ [];
          answers = may.answers;
          has = subst (λ all. HasAnswered clean start w now (may.before ++ may.message ∷ []) all may.answers) all may.has;
          sound = ap (λ text. (requests_of text).fault) (sym may.whole) ∙ completes.sound none;
          stands = subst (λ text. StandsFor after.reader (Some text)) may.whole stands;
          count = number ∙ may.count;
        }

  -- with nothing left the empty piece may be read
  pub may_read_nothing : (w : View) (now : LinkTold) (reading : Reading) → HasLeft clean start w now reading []
      → MayRead clean start w now reading []
  may_read_nothing w now reading left =
      let received = left.before ++ left.message ∷ [] in
      let all : left.requests ≡ (read_of received).requests = sym (left.read ∙ append-nil left.requests) in
      record {
        before = left.before;
        message = left.message;
        answers = left.answers;
        text = bytes_of received;
        has = subst (λ all. HasAnswered clean start w now received all left.answers) all left.has;
        whole = append-nil (bytes_of received);
        waited = left.waited;
        sound = left.sound;
        stands = left.stands;
        count = left.count;
      }

  -- the first request of those that were left was answered
  pub left_rest : (v w : View) (old new : LinkTold) (was is : Reading) (request : Request) (rest : List Request)
      (answered : SessionAnswer) (left : HasLeft clean start v old was (request ∷ rest))
      → PutsOne clean v (was.number + 1) request answered w → Says old new (messages_of answered)
      → new.faults ≡ old.faults → is.reader ≡ was.reader → is.number ≡ was.number + 1
      → HasLeft clean start w new is rest
  left_rest v w old new was is request rest answered left puts says sure reader number =
      let received = left.before ++ left.message ∷ [] in
      record {
        before = left.before;
        message = left.message;
        answers = left.answers ++ answered ∷ [];
        requests = left.requests ++ request ∷ [];
        has = has_more v w old new received left.requests left.answers request answered left.has
            (subst (λ n. PutsOne clean v (n + 1) request answered w) left.count puts) says sure;
        read = left.read ∙ sym (append_assoc left.requests (request ∷ []) rest);
        waited = omega (arith, left.waited, length_push left.answers answered);
        sound = left.sound;
        stands = subst (λ r. StandsFor r (Some (bytes_of received))) (sym reader) left.stands;
        count = number ∙ ap (λ n. n + 1) left.count ∙ sym (length_push left.answers answered);
      }

  -- by what was answered at hand
  pub left_said : (v w : View) (old new : LinkTold) (was is : Reading) (request : Request) (rest : List Request)
      (number : ℕ) (answer : Answer) → HasLeft clean start v old was (request ∷ rest)
      → number ≡ was.number + 1 → PutsAnswer clean v number request answer w → Says old new (messages_in answer)
      → new.faults ≡ old.faults → is.reader ≡ was.reader → is.number ≡ number → HasLeft clean start w new is rest
  left_said v w old new was is request rest number answer left same puts says sure reader counted =
      left_rest v w old new was is request rest puts.answered left
      (subst (λ n. PutsOne clean v n request puts.answered w) same puts.puts)
      (subst (Says old new) puts.messages says) sure reader (counted ∙ same)

  -- Steps

  -- a message was read
  pub left_of_read : (w : View) (old new : LinkTold) (was is : Reading) (piece : Bytes) (requests : List given.Request)
      (may : MayRead clean start w old was piece) → Reads was.reader piece (Ok requests) is.reader old new
      → is.number ≡ was.number → HasLeft clean start w new is (map request_seen requests)
  left_of_read w old new was is piece requests may reads number =
      let found = reads.answers may.text may.stands in
      subst (λ (now : LinkTold). HasLeft clean start w now is (map request_seen requests)) (sym found.1)
      (has_left w old was piece may requests found.0 is (reads.stands may.text may.stands) number)

  -- and the empty piece behind it
  pub waits_of_read : (w : View) (old new : LinkTold) (was is : Reading) (requests : List given.Request)
      → HasLeft clean start w old was [] → Reads was.reader [] (Ok requests) is.reader old new → is.number ≡ was.number
      → Waits clean start w new is
  waits_of_read w old new was is requests left reads number =
      let may = may_read_nothing w old was left in
      let found = reads.answers may.text may.stands in
      subst (λ (now : LinkTold). Waits clean start w now is) (sym found.1)
      (waits_again w old was [] may requests found.0 is (reads.stands may.text may.stands) number refl)

  -- The beginning

  nothing_read_yet : read_of [] ≡ record { requests = []; fault = None }
  unfolding requests_of
  nothing_read_yet = refl

  pub nothing_answered : HasAnswered clean start start.view start.told [] (read_of []).requests []
  nothing_answered = record {
    on = goes_nowhere start.view;
    answered = subst (λ (read : RequestsRead). AreAnswered (basis_of clean start.view start.view) 1 (length start.view.seen)
        read.requests []) (sym nothing_read_yet) tt;
    within = omega arith;
    got = fewer_none start.told.left;
    sent = more_none start.told.sent;
    sure = refl;
  }

  pub waits_first : (reading : Reading) → StandsFor reading.reader (Some []) → reading.number ≡ 0
      → Waits clean start start.view start.told reading
  waits_first reading stands number = record {
    received = [];
    answers = [];
    has = nothing_answered;
    sound = ap (λ (read : RequestsRead). read.fault) nothing_read_yet;
    stands = stands;
    count = number;
  }
