-- How a session ends, if other rows are known: of what it said of a row it is enough that its lines are cut at each LF and
-- that it was known before. The places of its entries rise.
use Rattle.std.proofs.Common.{◌≡◌, ◌<◌, ◌≤◌, ◌+◌, ◌++◌, ◌⊎◌, ℕ, List, [], ◌∷◌, Option, All, refl, sym, ap, ◌∙◌, subst, inl, inr, ⊎_elim, flat_map}
use Rattle.std.proofs.lemmas.List.Elements.{All-cons, All-nil}
use Rattle.build_spec.specs.Built.{BuildOutcome, Done, Page, Stopped, TooLarge}
use Rattle.dita_doc.specs.Desk.{Reply, State}
use Rattle.dita_doc.specs.History.{sources}
use Rattle.dita_doc.specs.Lines.{line, lines_of}
use Rattle.dita_doc.specs.Request.{Build, Get, Group, Names, Request, Single}
use Rattle.dita_outside.specs.Links.{LinkTold, Messages}
use Rattle.transcript_text.specs.Transcript.{IsContents, IsPage, PartShown, RowShown, Shown}
use Rattle.desk_session.specs.Answers.{AreAnswered, CleanBuild, IsAnswered, KeepPages, KeepsPage, SessionAnswer, SessionBasis, ShowsBuild, ShowsReply, places_of}
use Rattle.desk_session.specs.Ends.{BeginsAnswer, BeginsNext, Ends, EndsClosed, EndsFull, EndsScript, EndsShort, Room, Serves, StandsHalf, behind_all}
use Rattle.desk_session.specs.declared.end.SessionEnd.{SessionEnd}
use Rattle.desk_session.specs.declared.end.SessionEnd.TheVariants.{Closed, Full, LinkFault, NoMemory, Script}
use Rattle.desk_serve.proofs.RisingLaws.{Rises}

-- Rows

-- its lines are cut at each LF
abbrev pub IsCut : RowShown → Type 0
IsCut row = row.lines ≡ lines_of (flat_map line row.lines)

row_cut : (root : List ℕ) (val : Option (List ℕ)) (part : PartShown) (page : Page) (row : RowShown)
    → KeepsPage root val part page row → IsCut row
row_cut root val part page row keeps = keeps.lines ∙ ap lines_of (sym keeps.bytes)

none_cut : (rows : List RowShown) → rows ≡ [] → All IsCut rows
none_cut rows none = subst (All IsCut) (sym none) (All-nil IsCut)

rows_cut : (root : List ℕ) (val : Option (List ℕ)) (index : ℕ) (pages : List Page) (rows : List RowShown)
    → KeepPages root val index pages rows → All IsCut rows
rows_cut root val index [] [] keep = All-nil IsCut
rows_cut root val index [] (row ∷ rows) keep = absurd keep
rows_cut root val index (page ∷ []) [] keep = absurd keep
rows_cut root val index (page ∷ []) (row ∷ rows) keep =
    All-cons IsCut row rows (row_cut root val IsContents page row keep.0) (none_cut rows keep.1)
rows_cut root val index (page ∷ next ∷ pages) [] keep = absurd keep
rows_cut root val index (page ∷ next ∷ pages) (row ∷ rows) keep =
    All-cons IsCut row rows (row_cut root val (IsPage index) page row keep.0)
    (rows_cut root val (index + 1) (next ∷ pages) rows keep.1)

build_cut : (root : List ℕ) (val : Option (List ℕ)) (outcome : BuildOutcome) (shown : Shown) (rows : List RowShown)
    → ShowsBuild root val outcome shown rows → All IsCut rows
build_cut root val (Done pages faults) shown rows shows = rows_cut root val 0 pages rows shows.0
build_cut root val (Stopped stop) shown rows shows = none_cut rows shows.1
build_cut root val (TooLarge total) shown rows shows = none_cut rows shows.1

reply_cut : (clean : CleanBuild) (state : State) (request : Request) (answer : Reply) (shown : Shown)
    (rows : List RowShown) → ShowsReply clean state request answer shown rows → All IsCut rows
reply_cut clean state (Build root val) answer shown rows shows = build_cut root val (clean state root val) shown rows shows
reply_cut clean state (Single edit) answer shown rows shows = none_cut rows shows.1
reply_cut clean state (Get name) answer shown rows shows = none_cut rows shows.1
reply_cut clean state Names answer shown rows shows = none_cut rows shows.1
reply_cut clean state (Group edits) answer shown rows shows = none_cut rows shows.1

-- Other rows are known

module _ (on : SessionBasis) (Known : RowShown → Type 0)
    (onward : (row : RowShown) → IsCut row → on.IsKnown row → Known row) where
  abbrev pub knowing : SessionBasis
  knowing = record on { IsKnown = Known }

  answered_onward : (number : ℕ) (request : Request) (answered : SessionAnswer)
      → IsAnswered on number request answered → IsAnswered knowing number request answered
  answered_onward number request answered is =
      let cut = reply_cut on.clean (sources on.history answered.place) request answered.entry.reply answered.shown
      answered.rows is.shows in
      record {
        entry_is = is.entry_is;
        stands = is.stands;
        shows = is.shows;
        known = λ k d within. onward _ (cut k d within) (is.known k d within);
      }

  all_onward : (number behind : ℕ) (requests : List Request) (answers : List SessionAnswer)
      → AreAnswered on number behind requests answers → AreAnswered knowing number behind requests answers
  all_onward number behind [] [] are = tt
  all_onward number behind [] (answered ∷ more) are = absurd are
  all_onward number behind (request ∷ requests) [] are = absurd are
  all_onward number behind (request ∷ requests) (answered ∷ more) are = (
    answered_onward number request answered are.0,
    are.1,
    all_onward (number + 1) (answered.place + 1) requests more are.2,
  )

  serves_onward : (old new : LinkTold) (received : Messages) (answers : List SessionAnswer) (others : List Request)
      (last : Messages) → Serves on old new received answers others last → Serves knowing old new received answers others last
  serves_onward old new received answers others last serves = record {
    requests = serves.requests;
    read = serves.read;
    answered = all_onward 1 on.behind serves.requests answers serves.answered;
    got = serves.got;
    sent = serves.sent;
  }

  begun_onward : (number : ℕ) (request : Request) (place : ℕ) (part : Messages)
      → (part ≡ []) ⊎ BeginsAnswer on number request place part → (part ≡ []) ⊎ BeginsAnswer knowing number request place part
  begun_onward number request place part (inl none) = inl none
  begun_onward number request place part (inr (answered, at, is, rest)) =
      inr (answered, at, answered_onward number request answered is, rest)

  half_onward : (number behind : ℕ) (request : Request) (place : ℕ) (part : Messages)
      → StandsHalf on number behind request place part → StandsHalf knowing number behind request place part
  half_onward number behind request place part half = record {
    stands = half.stands;
    later = half.later;
    begun = begun_onward number request place part half.begun;
  }

  next_onward : (number behind : ℕ) (requests : List Request) (places : List ℕ) (part : Messages)
      → BeginsNext on number behind requests places part → BeginsNext knowing number behind requests places part
  next_onward number behind [] [] part next = next
  next_onward number behind (request ∷ others) [] part next = next
  next_onward number behind [] (place ∷ places) part next = absurd next
  next_onward number behind (request ∷ others) (place ∷ []) part next =
      half_onward number behind request place part next
  next_onward number behind (request ∷ others) (place ∷ other ∷ places) part next = absurd next

  short_onward : (old new : LinkTold) (places : List ℕ) → EndsShort on old new places → EndsShort knowing old new places
  short_onward old new places ends = record {
    received = ends.received;
    answers = ends.answers;
    others = ends.others;
    part = ends.part;
    serves = serves_onward old new ends.received ends.answers ends.others ends.part ends.serves;
    more = ends.more;
    made = ends.made;
    next = next_onward _ _ ends.others ends.more ends.part ends.next;
    later = ends.later;
  }

  pub ends_onward : (room : Room) (ended : SessionEnd) (old new : LinkTold) (places : List ℕ)
      → Ends on room ended old new places → Ends knowing room ended old new places
  ends_onward room Closed old new places ends = record {
    received = ends.received;
    answers = ends.answers;
    serves = serves_onward old new ends.received ends.answers [] [] ends.serves;
    made = ends.made;
    sound = ends.sound;
    at_end = ends.at_end;
    sure = ends.sure;
  }
  ends_onward room (Script fault) old new places ends = record {
    before = ends.before;
    message = ends.message;
    answers = ends.answers;
    serves = serves_onward old new _ ends.answers [] _ ends.serves;
    made = ends.made;
    sound = ends.sound;
    told = ends.told;
    sure = ends.sure;
  }
  ends_onward room (Full full) old new places ends = record {
    before = ends.before;
    message = ends.message;
    answers = ends.answers;
    next = ends.next;
    others = ends.others;
    serves = serves_onward old new _ ends.answers _ _ ends.serves;
    made = ends.made;
    waited = ends.waited;
    passed = ends.passed;
    sure = ends.sure;
  }
  ends_onward room LinkFault old new places ends = (short_onward old new places ends.0, ends.1)
  ends_onward room NoMemory old new places ends = short_onward old new places ends

-- Places

module _ (on : SessionBasis) where
  answered_rise : (number behind : ℕ) (requests : List Request) (answers : List SessionAnswer) (more : List ℕ)
      → AreAnswered on number behind requests answers → Rises (behind_all behind answers) more
      → Rises behind (places_of answers ++ more)
  answered_rise number behind [] [] more are rises = rises
  answered_rise number behind [] (answered ∷ rest) more are rises = absurd are
  answered_rise number behind (request ∷ requests) [] more are rises = absurd are
  answered_rise number behind (request ∷ requests) (answered ∷ rest) more are rises =
      (are.1, answered_rise (number + 1) (answered.place + 1) requests rest more are.2 rises)

  served_rise : (old new : LinkTold) (received : Messages) (answers : List SessionAnswer) (others : List Request)
      (last : Messages) (places : List ℕ) → Serves on old new received answers others last → places ≡ places_of answers
      → Rises on.behind places
  served_rise old new received answers others last places serves made =
      subst (Rises on.behind) (sym (made ∙ sym (append_none (places_of answers))))
      (answered_rise 1 on.behind serves.requests answers [] serves.answered tt)
    where
      append_none : (ns : List ℕ) → ns ++ [] ≡ ns
      append_none [] = refl
      append_none (n ∷ ns) = ap (λ rest. n ∷ rest) (append_none ns)

  next_rises : (number behind : ℕ) (requests : List Request) (places : List ℕ) (part : Messages)
      → BeginsNext on number behind requests places part → Rises behind places
  next_rises number behind [] [] part next = tt
  next_rises number behind (request ∷ others) [] part next = tt
  next_rises number behind [] (place ∷ places) part next = absurd next
  next_rises number behind (request ∷ others) (place ∷ []) part next = (next.later, tt)
  next_rises number behind (request ∷ others) (place ∷ other ∷ places) part next = absurd next

  short_rises : (old new : LinkTold) (places : List ℕ) → EndsShort on old new places → Rises on.behind places
  short_rises old new places ends = subst (Rises on.behind) (sym ends.made)
      (answered_rise 1 on.behind ends.serves.requests ends.answers ends.more ends.serves.answered
      (next_rises _ _ ends.others ends.more ends.part ends.next))

  pub ends_rise : (room : Room) (ended : SessionEnd) (old new : LinkTold) (places : List ℕ)
      → Ends on room ended old new places → Rises on.behind places
  ends_rise room Closed old new places ends = served_rise old new _ ends.answers _ _ places ends.serves ends.made
  ends_rise room (Script fault) old new places ends = served_rise old new _ ends.answers _ _ places ends.serves ends.made
  ends_rise room (Full full) old new places ends = served_rise old new _ ends.answers _ _ places ends.serves ends.made
  ends_rise room LinkFault old new places ends = short_rises old new places ends.0
  ends_rise room NoMemory old new places ends = short_rises old new places ends
