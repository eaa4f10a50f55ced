-- What a book holds inside, after each event.
use Rattle.std.proofs.Common.{◌≡◌, ◌∙◌, ◌+◌, ◌<◌, ◌≤◌, ◌⊎◌, ◌^◌, ℕ, Bool, List, [], ◌∷◌, ◌++◌, Option, Ok, Err, refl, sym, ap, subst, inl, inr, length, reverse, if◌then◌else◌, arith}
use Rattle.std.proofs.lemmas.List.{length-reverse, reverse-append}
use Rattle.std.proofs.lemmas.Option.{none-some}
use Rattle.std.specs.Arc.{arc_value}
use Rattle.dita_doc.specs.Desk.{Reply, State}
use Rattle.dita_doc.specs.History.{Entry}
use Rattle.dita_doc.specs.Request.{Request, Build}
use Rattle.dita_doc.specs.declared.fact.FactKey.{FactKey}
use Rattle.dita_doc.specs.declared.stop.Stop.{Stop}
use Rattle.dita_doc.specs.declared.stop.Stop.TheVariants.{Fault, NoMemory}
use Rattle.desk_core.specs.Book.{BookData, SnapshotData, is_change, new_book, snapshot_of, stamp_newest, stamp_of}
use Rattle.desk_core.specs.Events as events
use Rattle.desk_core.specs.Invariant.{AreJudged, HavePlans, IsBook, IsInOrder}
use Rattle.desk_core.specs.Seen.{IsInside, book_seen}
use Rattle.desk_core.specs.Steps.{IsSnapshotOf, MayCommit, MayPublish, MayRelease, RunsAs, Steps, with_asked, with_claim, with_published, with_released}
use Rattle.fact_table.specs.Seen.{TableSeen}
use Rattle.facts.proofs.Places.{IsEnd, end_at, push_at}
use Rattle.facts.proofs.TableLaws.{left_ends}
use Rattle.facts.specs.Latest.{Agrees, ClaimAnswer, FactAgrees, IsClaimAnswer, Have, Taken, Yours, after_claim}
use Rattle.facts.specs.Memo.{HaveRows, MayNote, PlanAgrees}
use Rattle.facts.specs.Rows.{Claim, HaveOnePlan, RowData, Running, Stands, plan_in, plan_serial, serial_of_plan}
use Rattle.facts.specs.Table.{TableData, left, new_table, published, released, row_of, with_row}
use Rattle.facts.specs.declared.fact.Fact.{Fact}
use Rattle.facts.specs.declared.judged.Judged.{Judged}
use Rattle.version_store.specs.Kept.{Fits, IsFullIf, Kept, answered, next_entry, nothing_kept, reply_now}
use Rattle.version_store.specs.declared.full.Full.{Full}
use Rattle.desk_core.proofs.InvariantLaws.{new_holds, step_holds}
use Rattle.desk_core.proofs.JudgedLaws.{fewer_judged, longer_judged, noted_judged}

-- the stamp, behind one more entry
pub stamp_push : (history : List Entry) (entry : Entry) → stamp_of (history ++ entry ∷ [])
    ≡ (if is_change entry.reply then length history + 1 else stamp_of history)
stamp_push history entry =
    ap stamp_newest (reverse-append history (entry ∷ []))
    ∙ ap (λ (n : ℕ). if is_change entry.reply then n + 1 else stamp_of history) (length-reverse history)

-- the stamp that is kept, behind a request with this reply at this place
pub stamp_is : (store : Kept) (request : Request) (reply : Reply) (place stamp now : ℕ)
    → now ≡ (if is_change reply then place + 1 else stamp) → reply ≡ reply_now store request
    → place ≡ length store.history
    → now ≡ (if is_change (reply_now store request) then length store.history + 1 else stamp)
stamp_is store request reply place stamp now is replied at =
    is
    ∙ ap (λ (r : Reply). if is_change r then place + 1 else stamp) replied
    ∙ ap (λ (n : ℕ). if is_change (reply_now store request) then n + 1 else stamp) at

-- a book in which nothing was asked

abbrev pub book_by : Kept → TableData → BookData
book_by store table = record { store = store; table = table }

pub opened_is : (entries text_bytes table_bytes : ℕ) (store : Kept) (table : TableSeen)
    → store ≡ nothing_kept entries text_bytes → table.table ≡ new_table table_bytes
    → book_seen store table ≡ new_book entries text_bytes table_bytes
opened_is entries text_bytes table_bytes store table kept rows =
    ap (λ (s : Kept). book_by s table.table) kept
    ∙ ap (λ (t : TableData). book_by (nothing_kept entries text_bytes) t) rows

pub opened_inside : (plan_agrees : PlanAgrees) (own_agrees : FactAgrees) (sound : Fact → Type 0)
    (entries text_bytes table_bytes : ℕ) (store : Kept) (table : TableSeen) → entries < 2 ^ 64
    → store ≡ nothing_kept entries text_bytes → table.table ≡ new_table table_bytes → table.judged ≡ []
    → IsInside plan_agrees own_agrees sound store table 0
opened_inside plan_agrees own_agrees sound entries text_bytes table_bytes store table few kept rows judged =
    subst (λ (s : Kept). IsInside plan_agrees own_agrees sound s table 0) (sym kept) (record {
      book = record {
        order = subst (λ (t : TableData). IsInOrder (Agrees plan_agrees own_agrees) sound
            (book_by (nothing_kept entries text_bytes) t)) (sym rows)
            (new_holds (Agrees plan_agrees own_agrees) sound entries text_bytes table_bytes);
        judged = subst (λ (all : List Judged). AreJudged plan_agrees [] table.table all) (sym judged) (record {
          stamps = λ one stands. absurd (none-some one stands.1);
          rows = record { each = λ one stands. absurd (none-some one stands.1) };
          right = λ one row stands stands_row same. absurd (none-some one stands.1);
        });
      };
      stamp = refl;
      few = few;
    })

pub ruleset opening = (opened_inside, opened_is)

-- requests that are not answered

pub commit_unasked : (agrees : FactAgrees) (session number : ℕ) (request : Request) (old : BookData) (stop : Stop Full)
    (new : BookData) → IsFullIf old.store request stop → new ≡ old
    → Steps agrees old (events.Commit session number request) (Err stop) new
commit_unasked agrees session number request old (Fault full) new full_is same =
    record { full_is = full_is; same = same }
commit_unasked agrees session number request old NoMemory new full_is same = same

pub begin_unasked : (agrees : FactAgrees) (session number : ℕ) (root : List ℕ) (val : Option (List ℕ)) (old : BookData)
    (stop : Stop Full) (new : BookData) → IsFullIf old.store (Build root val) stop → new ≡ old
    → Steps agrees old (events.Begin session number root val) (Err stop) new
begin_unasked agrees session number root val old (Fault full) new full_is same =
    record { full_is = full_is; same = same }
begin_unasked agrees session number root val old NoMemory new full_is same = same

module _ (plan_agrees : PlanAgrees) (own_agrees : FactAgrees) (sound : Fact → Type 0) (store : Kept) (table : TableSeen)
    (stamp : ℕ) (is : IsInside plan_agrees own_agrees sound store table stamp) where
  abbrev book : BookData
  book = book_seen store table

  pub committed_inside : (session number : ℕ) (request : Request) (now : ℕ) → MayCommit request → Fits store request
      → now ≡ (if is_change (reply_now store request) then length store.history + 1 else stamp)
      → IsInside plan_agrees own_agrees sound (answered session number request store) table now
  committed_inside session number request now may fits now_is = record {
    book = record {
      order = step_holds (Agrees plan_agrees own_agrees) sound book (events.Commit session number request)
          (Ok (events.Placed (length store.history) (reply_now store request)))
          (with_asked session number request book) may
          (record { asked = record { at = refl; room = fits; left = refl }; replied = refl }) is.book.order;
      judged = longer_judged plan_agrees store.history (next_entry session number request store ∷ []) table.table
          table.judged is.book.judged;
    };
    stamp = now_is
        ∙ ap (λ (n : ℕ). if is_change (reply_now store request) then length store.history + 1 else n) is.stamp
        ∙ sym (stamp_push store.history (next_entry session number request store));
    few = is.few;
  }

  -- a build changes nothing that is stored
  pub begun_inside : (session number : ℕ) (root : List ℕ) (val : Option (List ℕ)) → Fits store (Build root val)
      → IsInside plan_agrees own_agrees sound (answered session number (Build root val) store) table stamp
  begun_inside session number root val fits = record {
    book = record {
      order = step_holds (Agrees plan_agrees own_agrees) sound book (events.Begin session number root val)
          (Ok (events.Begun (length store.history) (snapshot_of store)))
          (with_asked session number (Build root val) book) tt
          (record { asked = record { at = refl; room = fits; left = refl }; taken = refl }) is.book.order;
      judged = longer_judged plan_agrees store.history (next_entry session number (Build root val) store ∷ [])
          table.table table.judged is.book.judged;
    };
    stamp = is.stamp ∙ sym (stamp_push store.history (next_entry session number (Build root val) store));
    few = is.few;
  }

  -- judgements are noted, and no row or claim changes
  noted_inside : (all : List Judged) (key : FactKey) (snapshot : SnapshotData) → IsSnapshotOf store.history snapshot
      → MayNote plan_agrees snapshot.state snapshot.stamp table.table.rows table.judged all
      → AreJudged plan_agrees store.history table.table all
  noted_inside all key snapshot of noted = noted_judged plan_agrees store.history table.table snapshot.stamp snapshot.state
      table.judged all is.book.judged is.book.order.plans of.within of.state noted

  judged_after : (all : List Judged) (key : FactKey) (snapshot : SnapshotData) (answer : ClaimAnswer)
      → AreJudged plan_agrees store.history table.table all
      → AreJudged plan_agrees store.history (after_claim table.table key snapshot.stamp snapshot.state answer) all
  judged_after all key snapshot (Have row) judged = judged
  judged_after all key snapshot (Taken serial) judged = judged
  judged_after all key snapshot (Yours claim) judged =
      record { stamps = judged.stamps; rows = record { each = judged.rows.each }; right = judged.right }

  pub claimed_inside : (new : TableSeen) (key : FactKey) (snapshot : SnapshotData) (answer : ClaimAnswer)
      → IsSnapshotOf store.history snapshot
      → IsClaimAnswer (Agrees plan_agrees own_agrees) table.table key snapshot.stamp snapshot.state answer
      → new.table ≡ after_claim table.table key snapshot.stamp snapshot.state answer
      → MayNote plan_agrees snapshot.state snapshot.stamp table.table.rows table.judged new.judged
      → IsInside plan_agrees own_agrees sound store new stamp
  claimed_inside new key snapshot answer of answers left noted = record {
    book = record {
      order = subst (λ (t : TableData). IsInOrder (Agrees plan_agrees own_agrees) sound (record { store = store; table = t }))
          (sym left)
          (step_holds (Agrees plan_agrees own_agrees) sound book (events.Claim key snapshot) (Ok (events.Claimed answer))
          (with_claim key snapshot answer book) of (record { answers = answers; left = refl }) is.book.order);
      judged = subst (λ (t : TableData). AreJudged plan_agrees store.history t new.judged) (sym left)
          (judged_after new.judged key snapshot answer (noted_inside new.judged key snapshot of noted));
    };
    stamp = is.stamp;
    few = is.few;
  }

  -- a claim without memory may have noted judgements
  pub unclaimed_inside : (new : TableSeen) (key : FactKey) (snapshot : SnapshotData) → IsSnapshotOf store.history snapshot
      → new.table ≡ table.table
      → MayNote plan_agrees snapshot.state snapshot.stamp table.table.rows table.judged new.judged
      → IsInside plan_agrees own_agrees sound store new stamp
  unclaimed_inside new key snapshot of same noted = record {
    book = record {
      order = subst (λ (t : TableData). IsInOrder (Agrees plan_agrees own_agrees) sound (record { store = store; table = t }))
          (sym same) is.book.order;
      judged = subst (λ (t : TableData). AreJudged plan_agrees store.history t new.judged) (sym same)
          (noted_inside new.judged key snapshot of noted);
    };
    stamp = is.stamp;
    few = is.few;
  }

  -- a row that is kept was there, or is the new one
  row_in : (claim : Running) (fact : Fact) (row : RowData)
      → Stands (left table.table.limit (with_row table.table claim fact)) row
      → Stands table.table.rows row ⊎ (row ≡ row_of table.table claim fact)
  row_in claim fact row stands =
      let end : IsEnd (with_row table.table claim fact) (left table.table.limit (with_row table.table claim fact)) =
      left_ends table.table.limit (with_row table.table claim fact) in
      elim (push_at table.table.rows (row_of table.table claim fact) row (end.gone + stands.0)
      (end_at (with_row table.table claim fact) (left table.table.limit (with_row table.table claim fact)) end stands.0 row
      stands.1)) [
        | inl at ↦ inl (end.gone + stands.0, at)
        | inr new ↦ inr new.1
      ]

  one_plan_of : (ticket : Claim) (fact : Fact) (claim : Running)
      → MayPublish (Agrees plan_agrees own_agrees) sound table.table ticket fact → RunsAs table.table.running ticket claim
      → HaveOnePlan table.table.rows (plan_serial (row_of table.table claim fact)) (plan_in (row_of table.table claim fact))
  one_plan_of ticket fact claim may runs =
      subst (λ (n : ℕ). HaveOnePlan table.table.rows (serial_of_plan fact n) (arc_value fact.plan))
      (ap (λ (c : Claim). c.serial) (may.runs.same ∙ sym runs.same)) may.one_plan

  pub published_inside : (new : TableSeen) (ticket : Claim) (fact : Fact) (claim : Running)
      → MayPublish (Agrees plan_agrees own_agrees) sound table.table ticket fact
      → RunsAs table.table.running ticket claim → new.table ≡ published table.table claim fact
      → ((judged : Judged) → Stands new.judged judged → Stands table.judged judged)
      → HaveRows new.table.rows new.judged
      → IsInside plan_agrees own_agrees sound store new stamp
  published_inside new ticket fact claim may runs left fewer rows = record {
    book = record {
      order = subst (λ (t : TableData). IsInOrder (Agrees plan_agrees own_agrees) sound (record { store = store; table = t }))
          (sym left)
          (step_holds (Agrees plan_agrees own_agrees) sound book (events.Publish ticket fact)
          (Ok (events.Published (row_of table.table claim fact))) (with_published claim fact book) may
          (record { claim = claim; runs = runs; row_is = refl; left = refl }) is.book.order);
      judged = subst (λ (t : TableData). AreJudged plan_agrees store.history t new.judged) (sym left)
          (fewer_judged plan_agrees store.history table.table (published table.table claim fact)
          (row_of table.table claim fact) table.judged new.judged is.book.judged (row_in claim fact)
          (one_plan_of ticket fact claim may runs) fewer
          (subst (λ (t : TableData). HaveRows t.rows new.judged) left rows));
    };
    stamp = is.stamp;
    few = is.few;
  }

  pub released_inside : (new : TableSeen) (ticket : Claim) → MayRelease table.table ticket
      → new.table ≡ released table.table ticket.serial → new.judged ≡ table.judged
      → IsInside plan_agrees own_agrees sound store new stamp
  released_inside new ticket may left same = record {
    book = record {
      order = subst (λ (t : TableData). IsInOrder (Agrees plan_agrees own_agrees) sound (record { store = store; table = t }))
          (sym left)
          (step_holds (Agrees plan_agrees own_agrees) sound book (events.Release ticket) (Ok events.Released)
          (with_released ticket.serial book) may refl is.book.order);
      judged = subst (λ (t : TableData). AreJudged plan_agrees store.history t new.judged) (sym left)
          (subst (λ (all : List Judged). AreJudged plan_agrees store.history (released table.table ticket.serial) all)
          (sym same) (record {
            stamps = is.book.judged.stamps;
            rows = record { each = is.book.judged.rows.each };
            right = is.book.judged.right;
          }));
    };
    stamp = is.stamp;
    few = is.few;
  }
