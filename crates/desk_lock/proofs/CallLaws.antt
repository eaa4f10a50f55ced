-- How each call at the gate ends: what a party knows that took the book, put one back after its one event, and opened
-- the gate.
use Rattle.std.proofs.Common.{◌≡◌, ℕ, ◌+◌, ◌<◌, ◌≤◌, List, [], ◌∷◌, ◌++◌, Option, Err, refl, sym, ap, ◌∙◌, subst, arith, length, length-append}
use Rattle.std.proofs.lemmas.List.{append-nil}
use Rattle.dita_doc.proofs.Lists.{get_pushed}
use Rattle.dita_doc.specs.Desk.{Begun, Reply, State, reply}
use Rattle.dita_doc.specs.History.{Entry, IsLegal, replay, sources}
use Rattle.dita_doc.specs.Request.{Build, Request}
use Rattle.dita_doc.specs.declared.fact.FactKey.{FactKey}
use Rattle.dita_doc.specs.declared.stop.Stop.{Stop}
use Rattle.dita_doc.specs.declared.stop.Stop.TheVariants.{Fault, NoMemory}
use Rattle.facts.specs.Latest.{ClaimAnswer, FactAgrees, Have, Taken, Yours}
use Rattle.facts.specs.Rows.{Claim, RowData, Running, Stands}
use Rattle.facts.specs.Table.{row_bytes, row_of}
use Rattle.facts.specs.declared.fact.Fact.{Fact}
use Rattle.version_store.proofs.HistoryLaws.{legal_push, sources_all, sources_prefix}
use Rattle.version_store.specs.Kept as store_spec
use Rattle.version_store.specs.Kept.{next_entry, reply_now}
use Rattle.version_store.specs.declared.full.Full.{Full}
use Rattle.desk_core.proofs.BookLaws.{stamp_push}
use Rattle.desk_core.proofs.StampLaws.{snapshot_is_of, stamp_within}
use Rattle.desk_core.specs.Book.{BookData, SnapshotData, snapshot_of, stamp_of}
use Rattle.desk_core.specs.Events as events
use Rattle.desk_core.specs.Invariant.{IsInOrder, IsStore}
use Rattle.desk_core.specs.Steps.{IsBegun, IsClaimed, IsPlaced, IsPublished, RunsAs, Steps, with_claim, with_published}
use Rattle.desk_lock.specs.Calls.{Answers, Appends, Begins, Draws, Gives, HandMayPublish, Looks, Meets, Publishes}
use Rattle.desk_lock.specs.Knows.{drew, ends, given, has_met, made, printed, row_serials}
use Rattle.desk_lock.specs.Learns.{Learns}
use Rattle.desk_lock.specs.Lists.{IsNoneOf, StartsWith}
use Rattle.desk_lock.specs.Meaning.{Meaning, NoLaterAgrees}
use Rattle.desk_lock.specs.Picks.{claim_at}
use Rattle.desk_lock.specs.Steps.{Commits, Had, IsGranted, Met, Prints, Tells, log_carried, log_held}
use Rattle.desk_lock.specs.Tokens.{IsIdle}
use Rattle.desk_lock.specs.declared.view.View.{View}
use Rattle.desk_lock.proofs.EventLaws.{each_map, starts_length, starts_longer}
use Rattle.desk_lock.proofs.ReadyLaws.{IsReady, Seated, as_is, row_claim_is}

-- what holds of the view that the opening of the gate left
of_view : (Holds : View → Type 0) (final : Seated) (w : View) → final ≡ (w, []) → Holds w → Holds final.0
of_view Holds final w is holds = subst (λ (x : Seated). Holds x.0) (sym is) holds

-- The next entry

placed_next : (v : View) (number : ℕ) (asked : Request) (book : BookData) → StartsWith book.store.history v.seen
    → IsLegal book.store.history
    → Appends v number asked (reply_now book.store asked) (length book.store.history)
    (made v (book.store.history ++ next_entry v.session number asked book.store ∷ []) (length book.store.history))
placed_next v number asked book starts legal =
    let log = book.store.history in
    let entry = next_entry v.session number asked book.store in
    let place : length log ≡ 0 + length log = omega arith in
    record {
      knows = refl;
      later = starts_longer log v.seen (entry ∷ []) starts;
      behind = starts_length log v.seen starts;
      last = length-append log (entry ∷ []);
      entry = get_pushed log entry;
      legal = legal_push [] 0 log entry legal
          (ap (λ (s : State). reply s (length log) asked) (sources_all log)
          ∙ ap (λ n. reply (replay [] 0 log) n asked) place);
    }

-- a build and its snapshot, which is what is stored at its place
begun_next : (v : View) (number : ℕ) (root : List ℕ) (val : Option (List ℕ)) (book : BookData)
    → StartsWith book.store.history v.seen → IsStore book.store
    → Begins v number root val (length book.store.history) (snapshot_of book.store)
    (made v (book.store.history ++ next_entry v.session number (Build root val) book.store ∷ [])
    (length book.store.history))
begun_next v number root val book starts store =
    let log = book.store.history in
    let entry = next_entry v.session number (Build root val) book.store in
    let within = stamp_within log in
    let long = length-append log (entry ∷ []) in
    record {
      appends = placed_next v number (Build root val) book starts store.legal;
      stamped = sym (stamp_push log entry);
      stored = record {
        within = omega arith;
        state = (snapshot_is_of book.store store).state
            ∙ sym (sources_prefix log (entry ∷ []) (stamp_of log) within);
      };
      here = sym (sources_prefix log (entry ∷ []) (length log) (omega arith));
    }

-- Nothing was done

pub unasked : (agrees : FactAgrees) (session number : ℕ) (asked : Request) (taken back : BookData) (stop : Stop Full)
    → Steps agrees taken (events.Commit session number asked) (Err stop) back → back ≡ taken
unasked agrees session number asked taken back (Fault full) steps = steps.same
unasked agrees session number asked taken back NoMemory steps = steps

pub unbegun : (agrees : FactAgrees) (session number : ℕ) (root : List ℕ) (val : Option (List ℕ)) (taken back : BookData)
    (stop : Stop Full) → Steps agrees taken (events.Begin session number root val) (Err stop) back → back ≡ taken
unbegun agrees session number root val taken back (Fault full) steps = steps.same
unbegun agrees session number root val taken back NoMemory steps = steps

pub looks_again : (me : Seated) → IsIdle me → Looks me.0 me.0
looks_again me idle = record {
  knows = ap (λ (held : Option BookData). record me.0 { held = held }) idle.free;
  later = ([], sym (append-nil me.0.seen));
}

module _ (v : View) (taken back : BookData) (learns : Learns v taken) (ready final : Seated)
    (is : IsReady v taken back ready) where
  abbrev log : List Entry
  log = back.store.history

  -- After an entry

  entered : Commits as_is ready 0 final → final ≡ (made v log (length taken.store.history), [])
  entered commits = subst (λ (x : Seated). final ≡ (made x.0 (log_carried as_is x.1) (length (log_held x.0)), [])) is.is
      commits

  -- what holds of the view behind the next entry, of its place and of its reply
  of_placed : (Holds : Reply → ℕ → View → Type 0) (number : ℕ) (asked : Request) (answer : Reply) (place : ℕ)
      → IsPlaced v.session number asked taken place answer back
      → Holds (reply_now taken.store asked) (length taken.store.history)
      (made v (taken.store.history ++ next_entry v.session number asked taken.store ∷ []) (length taken.store.history))
      → Commits as_is ready 0 final → Holds answer place final.0
  of_placed Holds number asked answer place placed holds commits = of_view (Holds answer place) final
      (made v log (length taken.store.history)) (entered commits)
      (subst (λ (b : BookData). Holds answer place (made v b.store.history (length taken.store.history)))
      (sym placed.asked.left)
      (subst (λ (r : Reply). Holds r place (made v
      (taken.store.history ++ next_entry v.session number asked taken.store ∷ []) (length taken.store.history)))
      (sym placed.replied)
      (subst (λ n. Holds (reply_now taken.store asked) n (made v
      (taken.store.history ++ next_entry v.session number asked taken.store ∷ []) (length taken.store.history)))
      (sym placed.asked.at) holds)))

  pub appends : (session number : ℕ) (asked : Request) (answer : Reply) (place : ℕ) → session ≡ v.session
      → IsStore taken.store → IsPlaced session number asked taken place answer back → Commits as_is ready 0 final
      → Appends v number asked answer place final.0
  appends session number asked answer place same store placed commits = of_placed (Appends v number asked) number asked
      answer place (subst (λ n. IsPlaced n number asked taken place answer back) same placed)
      (placed_next v number asked taken learns.seen store.legal) commits

  begins_at : (number : ℕ) (root : List ℕ) (val : Option (List ℕ)) (place : ℕ) (snapshot : SnapshotData)
      → IsStore taken.store → IsBegun v.session number root val taken place snapshot back
      → Commits as_is ready 0 final → Begins v number root val place snapshot final.0
  begins_at number root val place snapshot store begun commits =
      subst (λ (s : SnapshotData). Begins v number root val place s final.0) (sym begun.taken)
      (of_placed (λ answer n w. Begins v number root val n (snapshot_of taken.store) w) number (Build root val) Begun place
      (record { asked = begun.asked; replied = refl }) (begun_next v number root val taken learns.seen store) commits)

  -- of the names that were copied
  pub begins : (session number : ℕ) (root copied : List ℕ) (val copied_val : Option (List ℕ)) (place : ℕ)
      (snapshot : SnapshotData) → session ≡ v.session → copied ≡ root → copied_val ≡ val → IsStore taken.store
      → IsBegun session number copied copied_val taken place snapshot back → Commits as_is ready 0 final
      → Begins v number root val place snapshot final.0
  begins session number root copied val copied_val place snapshot same same_root same_val store begun commits =
      subst (λ (names : List ℕ × Option (List ℕ)). Begins v number names.0 names.1 place snapshot final.0)
      (λ i. (same_root i, same_val i))
      (begins_at number copied copied_val place snapshot store
      (subst (λ n. IsBegun n number copied copied_val taken place snapshot back) same begun) commits)

  -- After a claim

  -- the history that was seen, if the event left the store as it was
  seen_still : (left : BookData) → left.store ≡ taken.store → back ≡ left → StartsWith log v.seen
  seen_still left same is_left = subst (λ (history : List Entry). StartsWith history v.seen)
      (sym (ap (λ (b : BookData). b.store.history) is_left ∙ ap (λ (s : store_spec.Kept). s.history) same)) learns.seen

  gave : (row : RowData) → Had as_is row ready 0 final → final ≡ (given v log row, [])
  gave row had = subst (λ (x : Seated). final ≡ (given x.0 (log_carried as_is x.1) row, [])) is.is had

  met : (claim : Claim) → Met as_is claim ready 0 final → final ≡ (has_met v log claim, [])
  met claim has = subst (λ (x : Seated). final ≡ (has_met x.0 (log_carried as_is x.1) claim, [])) is.is has

  drawn : (claim : Claim) → IsGranted as_is claim ready 0 final → final ≡ (drew v log claim, [])
  drawn claim granted = subst (λ (x : Seated). final ≡ (drew x.0 (log_carried as_is x.1) claim, [])) is.is granted

  module _ (means : Meaning) (order : IsInOrder means.agrees means.is_sound taken) (key : FactKey)
      (snapshot : SnapshotData) where
    -- of the rows that the party knows none that was published later agrees
    latest : (row : RowData) → IsClaimed means.agrees key snapshot taken (Have row) back
        → NoLaterAgrees means v.rows row key snapshot.state
    latest row claimed = each_map
        (λ (old : RowData). (old.mark ≤ taken.table.drawn)
        × (taken.table.dropped < old.rank → Stands taken.table.rows old))
        (λ (old : RowData). old.fact.key ≡ key → row.rank < old.rank → means.agrees old.fact snapshot.state → ⊥)
        v.rows
        (λ old kept of less agreed.
        let rank = order.numbers.ranks claimed.answers.place row claimed.answers.stands in
        let stands = kept.1 (omega arith) in
        let old_rank = order.numbers.ranks stands.0 old stands.1 in
        claimed.answers.later.each stands.0 old (omega arith) stands.1 of agreed)
        learns.rows

    gives : (row : RowData) → IsClaimed means.agrees key snapshot taken (Have row) back
        → Had as_is row ready 0 final → Gives means v key snapshot.state row final.0
    gives row claimed had = of_view (Gives means v key snapshot.state row) final (given v log row) (gave row had)
        (record {
          knows = refl;
          later = seen_still taken refl claimed.left;
          right = record {
            key = claimed.answers.of;
            agrees = claimed.answers.agreed;
            sound = order.rows.are_sound row (claimed.answers.place, claimed.answers.stands);
          };
          latest = latest row claimed;
        })

    meets : (serial : ℕ) → IsClaimed means.agrees key snapshot taken (Taken serial) back
        → Met as_is (claim_at serial key snapshot.stamp) ready 0 final
        → Meets v key snapshot.stamp serial final.0
    meets serial claimed has =
        let one = claimed.answers.claim in
        let apart = learns.taken one claimed.answers.runs.stands in
        of_view (Meets v key snapshot.stamp serial) final (has_met v log (claim_at serial key snapshot.stamp))
        (met (claim_at serial key snapshot.stamp) has)
        (record {
          knows = refl;
          later = seen_still taken refl claimed.left;
          unpublished = subst (λ n. IsNoneOf (row_serials v.rows) n) (sym claimed.answers.number) apart.1;
          unended = subst (λ n. IsNoneOf (ends v) n) (sym claimed.answers.number) apart.0;
        })

    draws : (claim : Claim) → IsClaimed means.agrees key snapshot taken (Yours claim) back
        → IsGranted as_is claim ready 0 final → Draws v key snapshot.stamp claim final.0
    draws claim claimed granted =
        let next = claimed.answers.drawn in
        let serial : claim.serial ≡ taken.table.drawn + 1 = ap (λ (c : Claim). c.serial) next in
        let new = learns.later claim.serial (omega arith) in
        of_view (Draws v key snapshot.stamp claim) final (drew v log claim) (drawn claim granted)
        (record {
          knows = refl;
          later = seen_still (with_claim key snapshot (Yours claim) taken) refl claimed.left;
          key = ap (λ (c : Claim). c.key) next;
          stamped = ap (λ (c : Claim). c.stamp) next;
          new = new.0;
          above = each_map
              (λ (row : RowData). (row.mark ≤ taken.table.drawn)
              × (taken.table.dropped < row.rank → Stands taken.table.rows row))
              (λ (row : RowData). row.mark < claim.serial) v.rows
              (λ row kept. let below = kept.0 in omega arith) learns.rows;
          may_end = record { drew = (length v.drawn, get_pushed v.drawn claim); runs = new.1 };
        })

    pub answers : (answer : ClaimAnswer) → IsClaimed means.agrees key snapshot taken answer back
        → Tells as_is key snapshot.stamp answer ready 0 final → Answers means v key snapshot answer final.0
    answers (Have row) claimed tells = gives row claimed tells
    answers (Taken serial) claimed tells = meets serial claimed tells
    answers (Yours claim) claimed tells = draws claim claimed tells

  -- After a row

  printed_at : (row : RowData) → Prints as_is row ready 0 final → final ≡ (printed v log row, [])
  printed_at row prints = subst (λ (x : Seated). final ≡ (printed x.0 (log_carried as_is x.1) row, [])) is.is prints

  -- the row of a claim that ran
  published_at : (means : Meaning) → IsInOrder means.agrees means.is_sound taken → (claim : Claim) (fact : Fact)
      → HandMayPublish means v claim fact → (one : Running) → RunsAs taken.table.running claim one
      → back ≡ with_published one fact taken
      → Publishes v claim fact (row_of taken.table one fact) (printed v log (row_of taken.table one fact))
  published_at means order claim fact may one runs left =
      let history : log ≡ taken.store.history = ap (λ (b : BookData). b.store.history) left in
      record {
        knows = refl;
        later = seen_still (with_published one fact taken) refl left;
        claimed = row_claim_is fact one claim runs.same may.key;
        keeps = refl;
        counts = ap (λ (state : State). row_bytes fact state)
            (order.claims.states one runs.stands
            ∙ ap (λ n. sources taken.store.history n) (ap (λ (c : Claim). c.stamp) runs.same)
            ∙ ap (λ (entries : List Entry). sources entries claim.stamp) (sym history));
        marked = (order.numbers.drawn one runs.stands).1;
      }

  pub publishes : (means : Meaning) → IsInOrder means.agrees means.is_sound taken → (claim : Claim) (fact : Fact)
      (row : RowData) → HandMayPublish means v claim fact → IsPublished claim fact taken row back
      → Prints as_is row ready 0 final → Publishes v claim fact row final.0
  publishes means order claim fact row may published prints =
      of_view (Publishes v claim fact row) final (printed v log row) (printed_at row prints)
      (subst (λ (r : RowData). Publishes v claim fact r (printed v log r)) (sym published.row_is)
      (published_at means order claim fact may published.claim published.runs published.left))
