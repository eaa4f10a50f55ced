-- How a session ends, by what it had done: all that it did is told, in each case.
use Rattle.std.proofs.Common.{◌≡◌, ◌≤◌, ◌+◌, ◌++◌, ◌∙◌, ◌⊎◌, ℕ, List, [], ◌∷◌, Some, Err, ap, append-nil, arith, inl, inr, length, refl, subst, sym, ⊎_elim}
use Rattle.dita_doc.specs.Bytes.{Bytes}
use Rattle.dita_doc.specs.Gives.{OnFault}
use Rattle.dita_doc.specs.History.{Entry}
use Rattle.dita_doc.specs.Request.{Request}
use Rattle.dita_doc.specs.declared.stop.Stop.{Stop}
use Rattle.dita_doc.specs.declared.stop.Stop.TheVariants as stops
use Rattle.dita_outside.specs.Cause.{Rose}
use Rattle.dita_outside.specs.Links.{HasFewer, HasMore, IsAtEnd, LinkTold, Messages}
use Rattle.dita_outside.specs.declared.Failed.{Failed}
use Rattle.script_laws.proofs.Later.{requests_follow}
use Rattle.script_text.specs.Faults.{rejection_line}
use Rattle.script_text.specs.Pieces.{Fails}
use Rattle.script_text.specs.Requests.{requests_of}
use Rattle.script_text.specs.declared.fault.ScriptFault.{ScriptFault}
use Rattle.version_store.specs.Kept as store_spec
use Rattle.version_store.specs.declared.full.Full as full_declared
use Rattle.desk_core.specs.declared.limits.Limits.{Limits}
use Rattle.desk_lock.specs.Calls.{IsFull, Looks}
use Rattle.desk_lock.specs.declared.view.View.{View}
use Rattle.desk_session.proofs.AnswerLaws.{all_later, answered_later}
use Rattle.desk_session.proofs.GoesLaws.{goes_looked, goes_nowhere, goes_then}
use Rattle.desk_session.proofs.LinkLaws.{fewer_then, front_of_one, more_then, says_none}
use Rattle.desk_session.proofs.SoFarLaws.{nothing_answered}
use Rattle.desk_session.specs.Answers.{CleanBuild, IsAnswered, SessionAnswer, SessionBasis, all_messages, entry_of, messages_of, places_of}
use Rattle.desk_session.specs.Asking.{GoesOn, PutsAlone, PutsAnswer, PutsOne, messages_in}
use Rattle.desk_session.specs.Ends as ends_spec
use Rattle.desk_session.specs.Ends.{BeginsNext, EndsShort, Serves, behind_all, full_message, read_of}
use Rattle.desk_session.specs.Pass.{basis_of, room_of}
use Rattle.desk_session.specs.Saying.{IsLinkEnd, Says, SaysFront, end_by}
use Rattle.desk_session.specs.SoFar.{Ends, HasAnswered, HasLeft, MayRead, ReadsPiece, Start, Waits}
use Rattle.desk_session.specs.declared.answer.Answer.{Answer}
use Rattle.desk_session.specs.declared.end.SessionEnd.{SessionEnd}
use Rattle.desk_session.specs.declared.end.SessionEnd.TheVariants.{Closed, LinkFault, Script, Full, NoMemory}
use Rattle.desk_session.specs.declared.serve.Reading.{Reading}

module _ (clean : CleanBuild) (start : Start) where
  -- The requests that were answered, once more was sent

  abbrev Served : View → LinkTold → Messages → List SessionAnswer → List Request → Messages → Type 0
  Served w new received answers others last =
      Serves (basis_of clean start.view w) start.told new received answers others last

  served : (v w : View) (old new : LinkTold) (received : Messages) (requests others : List Request)
      (answers : List SessionAnswer) (places : List ℕ) (last : Messages)
      → HasAnswered clean start v old received requests answers
      → (read_of received).requests ≡ requests ++ others → GoesOn v w places → Says old new last
      → Served w new received answers others last
  served v w old new received requests others answers places last has read on says = record {
    requests = requests;
    read = read;
    answered = all_later clean start.view v start.view w refl on.seen on.known 1 (length start.view.seen) requests answers
        has.answered;
    got = subst (HasFewer start.told.left new.left) (append-nil received)
        (fewer_then start.told.left old.left new.left received [] has.got says.left);
    sent = more_then start.told.sent old.sent new.sent (all_messages answers) last has.sent says.sent;
  }

  -- what its pass knows then
  passed : (w : View) (new : LinkTold) (ended : SessionEnd) (places : List ℕ)
      → ends_spec.Ends (basis_of clean start.view w) (room_of start.view) ended start.told new places
      → GoesOn start.view w places → Ends clean start w new ended
  passed w new ended places ends on = record {
    places = places;
    ends = ends;
    mine = on.mine;
    seen = on.seen;
    known = on.known;
    session = on.session;
    theirs = on.theirs;
    parts = on.parts;
    limits = on.limits;
  }

  -- Short ends

  by_link : (on : SessionBasis) (room : ends_spec.Room) (ended : SessionEnd) (new : LinkTold) (places : List ℕ)
      → EndsShort on start.told new places → IsLinkEnd ended start.told.faults new.faults
      → ends_spec.Ends on room ended start.told new places
  by_link on room Closed new places short why = absurd why
  by_link on room LinkFault new places short why = (short, why)
  by_link on room (Script fault) new places short why = absurd why
  by_link on room (Full full) new places short why = absurd why
  by_link on room NoMemory new places short why = short

  -- between two messages: of the requests that were not answered, the first may have its entry
  ends_short : (v w : View) (old new : LinkTold) (received : Messages) (requests others : List Request)
      (answers : List SessionAnswer) (more : List ℕ) (part : Messages) (ended : SessionEnd)
      → HasAnswered clean start v old received requests answers
      → (read_of received).requests ≡ requests ++ others → GoesOn v w more → Says old new part
      → BeginsNext (basis_of clean start.view w) (length answers + 1) (behind_all (length start.view.seen) answers) others more
      part
      → IsLinkEnd ended old.faults new.faults → Ends clean start w new ended
  ends_short v w old new received requests others answers more part ended has read on says next why =
      passed w new ended (places_of answers ++ more)
      (by_link (basis_of clean start.view w) (room_of start.view) ended new (places_of answers ++ more)
      (record {
        received = received;
        answers = answers;
        others = others;
        part = part;
        serves = served v w old new received requests others answers more part has read on says;
        more = more;
        made = refl;
        next = next;
        later = subst (λ n. n ≤ new.faults) has.sure says.later;
      })
      (subst (λ n. IsLinkEnd ended n new.faults) has.sure why))
      (goes_then start.view v w (places_of answers) more has.on on)

  begins_nothing : (on : SessionBasis) (number behind : ℕ) (others : List Request)
      → BeginsNext on number behind others [] []
  begins_nothing on number behind [] = refl
  begins_nothing on number behind (request ∷ others) = refl

  -- nothing was begun
  pub ends_between : (v w : View) (old new : LinkTold) (received : Messages) (requests others : List Request)
      (answers : List SessionAnswer) (ended : SessionEnd) → HasAnswered clean start v old received requests answers
      → (read_of received).requests ≡ requests ++ others → GoesOn v w [] → Says old new []
      → IsLinkEnd ended old.faults new.faults → Ends clean start w new ended
  ends_between v w old new received requests others answers ended has read on says why =
      ends_short v w old new received requests others answers [] [] ended has read on says
      (begins_nothing (basis_of clean start.view w) (length answers + 1) (behind_all (length start.view.seen) answers) others)
      why

  -- no message was received
  pub ends_unbegun : Ends clean start start.view start.told NoMemory
  ends_unbegun = let has = nothing_answered clean start in
      ends_between start.view start.view start.told start.told [] (read_of []).requests [] [] NoMemory has
      (sym (append-nil (read_of []).requests)) (goes_nowhere start.view) (says_none start.told) tt

  -- The link's end, and a message that does not come

  pub ends_closed : (w : View) (old new : LinkTold) (reading : Reading) → Waits clean start w old reading
      → HasFewer old.left new.left [] → HasMore old.sent new.sent [] → IsAtEnd new.left → new.faults ≡ old.faults
      → Ends clean start w new Closed
  ends_closed w old new reading waits left sent ended sure =
      let says : Says old new [] = record { left = left; sent = sent; later = omega (arith, sure) } in
      passed w new Closed (places_of waits.answers)
      (record {
        received = waits.received;
        answers = waits.answers;
        serves = served w w old new waits.received (read_of waits.received).requests [] waits.answers [] [] waits.has
            (sym (append-nil (read_of waits.received).requests)) (goes_nowhere w) says;
        made = refl;
        sound = waits.sound;
        at_end = ended;
        sure = sure ∙ waits.has.sure;
      })
      waits.has.on

  pub ends_waiting : (w : View) (old new : LinkTold) (reading : Reading) (ended : SessionEnd)
      → Waits clean start w old reading → Says old new [] → IsLinkEnd ended old.faults new.faults
      → Ends clean start w new ended
  ends_waiting w old new reading ended waits says why =
      ends_between w w old new waits.received (read_of waits.received).requests [] waits.answers ended waits.has
      (sym (append-nil (read_of waits.received).requests)) (goes_nowhere w) says why

  why_by : (stop : Stop Failed) (before now : ℕ) → OnFault stop (Rose before now) → IsLinkEnd (end_by stop) before now
  why_by (stops.Fault failed) before now rose = rose
  why_by stops.NoMemory before now rose = tt

  pub ends_receiving : (w : View) (old new : LinkTold) (reading : Reading) (stop : Stop Failed)
      → Waits clean start w old reading → HasFewer old.left new.left [] → HasMore old.sent new.sent []
      → old.faults ≤ new.faults → OnFault stop (Rose old.faults new.faults) → Ends clean start w new (end_by stop)
  ends_receiving w old new reading stop waits left sent later rose = ends_waiting w old new reading (end_by stop) waits
      (record { left = left; sent = sent; later = later }) (why_by stop old.faults new.faults rose)

  -- A piece

  module _ (w : View) (old new : LinkTold) (reading : Reading) (piece : Bytes)
      (may : MayRead clean start w old reading piece) where
    -- what is not read any more
    unread : ((others : List Request) × ((read_of (may.before ++ may.message ∷ [])).requests
        ≡ (requests_of may.text).requests ++ others))
    unread =
        let follows = requests_follow may.text piece in
        (follows.rest, ap (λ text. (requests_of text).requests) (sym may.whole) ∙ follows.first)

    by_memory : (ended : SessionEnd) → Says old new [] → IsLinkEnd ended old.faults new.faults
        → Ends clean start w new ended
    by_memory ended says why = ends_between w w old new (may.before ++ may.message ∷ []) (requests_of may.text).requests
        unread.0 may.answers ended may.has unread.1 (goes_nowhere w) says why

    by_fault : (fault : ScriptFault) → Fails (requests_of may.text) (requests_of (may.text ++ piece)) fault
        → Says old new (rejection_line fault ∷ []) → new.faults ≡ old.faults
        → Ends clean start w new (Script fault)
    by_fault fault fails says sure =
        let received = may.before ++ may.message ∷ [] in
        let whole = sym may.whole in
        passed w new (Script fault) (places_of may.answers)
        (record {
          before = may.before;
          message = may.message;
          answers = may.answers;
          serves = served w w old new received (requests_of may.text).requests [] may.answers [] (rejection_line fault ∷ [])
              may.has
              (ap (λ text. (requests_of text).requests) whole ∙ fails.none
              ∙ sym (append-nil (requests_of may.text).requests))
              (goes_nowhere w) says;
          made = refl;
          sound = may.sound;
          told = ap (λ text. (requests_of text).fault) whole ∙ fails.told;
          sure = sure ∙ may.has.sure;
        })
        may.has.on

    -- out of memory before it was read
    pub ends_unread : new ≡ old → Ends clean start w new NoMemory
    ends_unread told = by_memory NoMemory (subst (λ (one : LinkTold). Says old one []) (sym told) (says_none old)) tt

    pub ends_reading : (ended : SessionEnd) → ReadsPiece may.text piece (Err ended) old new → Ends clean start w new ended
    ends_reading Closed reads = absurd reads
    ends_reading LinkFault reads = by_memory LinkFault reads.0 reads.1
    ends_reading (Script fault) reads = by_fault fault reads.0 reads.1 reads.2
    ends_reading (Full full) reads = absurd reads
    ends_reading NoMemory reads = by_memory NoMemory reads tt

  -- A request

  module _ (v w : View) (old new : LinkTold) (was : Reading) (request : Request) (rest : List Request)
      (left : HasLeft clean start v old was (request ∷ rest)) where
    received_by : Messages
    received_by = left.before ++ left.message ∷ []

    -- nothing was begun of it
    pub ends_before : (ended : SessionEnd) → GoesOn v w [] → Says old new [] → IsLinkEnd ended old.faults new.faults
        → Ends clean start w new ended
    unfolding received_by
    ends_before ended on says why = ends_between v w old new received_by left.requests (request ∷ rest) left.answers ended
        left.has left.read on says why

    -- its entry stands, as the session would have it
    entry_same : (number : ℕ) (place : ℕ) → w.session ≡ v.session
        → entry_of (basis_of clean v w) number request place ≡ entry_of (basis_of clean start.view w) number request place
    entry_same number place same = λ i. record {
      session = left.has.on.session i;
      number = number;
      request = request;
      reply = (entry_of (basis_of clean v w) number request place).reply;
    }

    pub ends_alone : (ended : SessionEnd) → PutsAlone clean v (was.number + 1) request w → Says old new []
        → IsLinkEnd ended old.faults new.faults → Ends clean start w new ended
    unfolding received_by
    ends_alone ended puts says why =
        let number = ap (λ n. n + 1) left.count in
        ends_short v w old new received_by left.requests (request ∷ rest) left.answers (puts.place ∷ []) [] ended left.has
        left.read puts.on says
        (record {
          stands = puts.stands ∙ ap (λ (entry : Entry). Some entry)
              (entry_same (was.number + 1) puts.place puts.on.session
              ∙ ap (λ n. entry_of (basis_of clean start.view w) n request puts.place) number);
          later = omega (arith, left.has.within, puts.behind);
          begun = inl refl;
        })
        why

    -- the first of its messages were sent
    pub ends_within : (ended : SessionEnd) (answered : SessionAnswer)
        → PutsOne clean v (was.number + 1) request answered w → SaysFront old new ended (messages_of answered)
        → Ends clean start w new ended
    unfolding received_by
    ends_within ended answered puts front =
        let number = ap (λ n. n + 1) left.count in
        let is = subst (λ n. IsAnswered (basis_of clean start.view w) n request answered) number
        (answered_later clean v w start.view w (sym left.has.on.session) (goes_nowhere w).seen (goes_nowhere w).known
        (was.number + 1) request answered puts.is) in
        ends_short v w old new received_by left.requests (request ∷ rest) left.answers (answered.place ∷ []) front.front ended
        left.has left.read puts.on front.says
        (record {
          stands = is.stands ∙ ap (λ (entry : Entry). Some entry) is.entry_is;
          later = omega (arith, left.has.within, puts.behind);
          begun = inr (answered, refl, is, (front.next ∷ front.back, front.all));
        })
        front.why

    -- it would pass a limit
    pub ends_full : (full : full_declared.Full) → IsFull v request full w → Says old new (full_message full ∷ [])
        → new.faults ≡ old.faults → Ends clean start w new (Full full)
    unfolding received_by
    ends_full full is says sure =
        let on = goes_looked v w is.looks in
        let limits = on.limits ∙ left.has.on.limits in
        passed w new (Full full) (places_of left.answers)
        (record {
          before = left.before;
          message = left.message;
          answers = left.answers;
          next = request;
          others = rest;
          serves = served v w old new received_by left.requests (request ∷ rest) left.answers [] (full_message full ∷ [])
              left.has left.read on says;
          made = refl;
          waited = left.waited;
          passed = subst (λ (of : Limits). store_spec.IsFull
              (record { history = w.seen; entry_limit = of.entries; text_limit = of.text_bytes }) request full) limits is.passed;
          sure = sure ∙ left.has.sure;
        })
        (subst (GoesOn start.view w) (append-nil (places_of left.answers))
        (goes_then start.view v w (places_of left.answers) [] left.has.on on))

    -- and how much there is could not be told
    pub ends_untold : (ended : SessionEnd) (full : full_declared.Full) → IsFull v request full w
        → SaysFront old new ended (full_message full ∷ []) → Ends clean start w new ended
    ends_untold ended full is front = ends_before ended (goes_looked v w is.looks)
        (subst (Says old new) (front_of_one front.front (full_message full) front.next front.back front.all) front.says)
        front.why

    -- by what was answered at hand
    pub ends_saying : (ended : SessionEnd) (number : ℕ) (answer : Answer) → number ≡ was.number + 1
        → PutsAnswer clean v number request answer w → SaysFront old new ended (messages_in answer)
        → Ends clean start w new ended
    ends_saying ended number answer same puts front = ends_within ended puts.answered
        (subst (λ n. PutsOne clean v n request puts.answered w) same puts.puts)
        (subst (SaysFront old new ended) puts.messages front)

    -- the desk found no memory
    pub ends_unasked : (number : ℕ) → number ≡ was.number + 1 → Looks v w ⊎ PutsAlone clean v number request w
        → new ≡ old → Ends clean start w new NoMemory
    ends_unasked number same found told = ⊎_elim
        (λ looks. ends_before NoMemory (goes_looked v w looks) says tt)
        (λ alone. ends_alone NoMemory (subst (λ n. PutsAlone clean v n request w) same alone) says tt) found
      where
        says : Says old new []
        says = subst (λ (one : LinkTold). Says old one []) (sym told) (says_none old)
