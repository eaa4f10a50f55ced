-- Each step of a book, put together from what its calls leave: `store` and `table` are what the book held, `old` is the
-- book that they are seen as, and a name with `new` is what a call has left.
use Rattle.std.proofs.Common.{◌≡◌, ◌∙◌, ◌+◌, ◌<◌, ◌^◌, ℕ, List, Option, Err, sym, ap, subst, length, if◌then◌else◌, arith}
use Rattle.dita_doc.specs.Desk.{Reply, State}
use Rattle.dita_doc.specs.Request.{Request, Build}
use Rattle.dita_doc.specs.declared.fact.FactKey.{FactKey}
use Rattle.dita_doc.specs.declared.stop.Stop.{Stop}
use Rattle.desk_core.specs.Book.{BookData, SnapshotData, is_change, snapshot_of, stamp_of}
use Rattle.desk_core.specs.Events as events
use Rattle.desk_core.specs.Invariant.{IsInOrder}
use Rattle.desk_core.specs.Seen.{IsInside, book_seen}
use Rattle.desk_core.specs.Steps.{IsBegun, IsClaimed, IsJudgeOfClaim, IsPlaced, IsSnapshotOf, MayCommit, MayPublish, MayRelease, Steps, with_claim, with_released}
use Rattle.desk_core.specs.Steps as steps
use Rattle.fact_table.specs.Answers as table_answers
use Rattle.fact_table.specs.Noted.{MayClaim}
use Rattle.fact_table.specs.Seen.{TableSeen}
use Rattle.facts.specs.Judged.{BuildKey}
use Rattle.facts.specs.Latest.{Agrees, ClaimAnswer, FactAgrees, IsClaimAnswer, after_claim}
use Rattle.facts.specs.Memo.{HaveRows, MayNote, PlanAgrees}
use Rattle.facts.specs.Rows.{Claim, RowData, Stands}
use Rattle.facts.specs.Table.{released, row_of}
use Rattle.facts.specs.declared.fact.Fact.{Fact}
use Rattle.version_store.specs.Kept.{Fits, IsFullIf, Kept, answered, reply_now, stored_now}
use Rattle.version_store.specs.declared.full.Full.{Full}
use Rattle.desk_core.proofs.BookLaws.{begin_unasked, begun_inside, book_by, claimed_inside, commit_unasked, committed_inside, published_inside, released_inside, stamp_is, unclaimed_inside}
use Rattle.desk_core.proofs.ClaimLaws.{may_claim}

-- the place of a request and the next number fit
pub place_fits : (store : Kept) (request : Request) (place : ℕ) → place ≡ length store.history → Fits store request
    → store.entry_limit < 2 ^ 64 → place + 1 < 2 ^ 64
place_fits store request place at fits few =
    let room : length store.history < store.entry_limit = fits.entries in
    omega arith

module _ (plan_agrees : PlanAgrees) (own_agrees : FactAgrees) (sound : Fact → Type 0) (store new : Kept)
    (table : TableSeen) (stamp : ℕ) (is : IsInside plan_agrees own_agrees sound store table stamp) where
  -- the store has not changed
  pub kept_inside : new ≡ store → IsInside plan_agrees own_agrees sound new table stamp
  kept_inside same = subst (λ (s : Kept). IsInside plan_agrees own_agrees sound s table stamp) (sym same) is

  pub commit_inside : (session number : ℕ) (request : Request) (reply : Reply) (place now : ℕ) → MayCommit request
      → new ≡ answered session number request store → Fits store request → reply ≡ reply_now store request
      → place ≡ length store.history → now ≡ (if is_change reply then place + 1 else stamp)
      → IsInside plan_agrees own_agrees sound new table now
  commit_inside session number request reply place now may left fits replied at now_is =
      subst (λ (s : Kept). IsInside plan_agrees own_agrees sound s table now) (sym left)
      (committed_inside plan_agrees own_agrees sound store table stamp is session number request now may fits
      (stamp_is store request reply place stamp now now_is replied at))

  pub begin_inside : (session number : ℕ) (root : List ℕ) (val : Option (List ℕ))
      → new ≡ answered session number (Build root val) store → Fits store (Build root val)
      → IsInside plan_agrees own_agrees sound new table stamp
  begin_inside session number root val left fits =
      subst (λ (s : Kept). IsInside plan_agrees own_agrees sound s table stamp) (sym left)
      (begun_inside plan_agrees own_agrees sound store table stamp is session number root val fits)

-- Answers

abbrev snapshot_by : ℕ → State → SnapshotData
snapshot_by stamp state = record { stamp = stamp; state = state }

module _ (store new : Kept) (table : TableSeen) (old : BookData) (seen : book_seen store table ≡ old) where
  -- the book in which the store has changed
  left_is : (session number : ℕ) (request : Request) → new ≡ answered session number request store
      → book_seen new table ≡ steps.with_asked session number request old
  left_is session number request left =
      ap (λ (s : Kept). book_by s table.table) left ∙ ap (steps.with_asked session number request) seen

  pub placed_is : (session number : ℕ) (request : Request) (reply : Reply) (place : ℕ)
      → new ≡ answered session number request store → Fits store request → reply ≡ reply_now store request
      → place ≡ length store.history → IsPlaced session number request old place reply (book_seen new table)
  placed_is session number request reply place left fits replied at = record {
    asked = record {
      at = at ∙ ap (λ (b : BookData). length b.store.history) seen;
      room = subst (λ (b : BookData). Fits b.store request) seen fits;
      left = left_is session number request left;
    };
    replied = replied ∙ ap (λ (b : BookData). reply_now b.store request) seen;
  }

  pub begun_is : (session number : ℕ) (root : List ℕ) (val : Option (List ℕ)) (place : ℕ) (snapshot : SnapshotData)
      → new ≡ answered session number (Build root val) store → Fits store (Build root val)
      → place ≡ length store.history → snapshot.stamp ≡ stamp_of store.history → snapshot.state ≡ stored_now store
      → IsBegun session number root val old place snapshot (book_seen new table)
  begun_is session number root val place snapshot left fits at stamp state = record {
    asked = record {
      at = at ∙ ap (λ (b : BookData). length b.store.history) seen;
      room = subst (λ (b : BookData). Fits b.store (Build root val)) seen fits;
      left = left_is session number (Build root val) left;
    };
    taken = ap (λ (n : ℕ). snapshot_by n snapshot.state) stamp ∙ ap (snapshot_by (stamp_of store.history)) state
        ∙ ap (λ (b : BookData). snapshot_of b.store) seen;
  }

  pub same_is : new ≡ store → book_seen new table ≡ old
  same_is same = ap (λ (s : Kept). book_by s table.table) same ∙ seen

  pub commit_not : (agrees : FactAgrees) (session number : ℕ) (request : Request) (stop : Stop Full) → new ≡ store
      → IsFullIf store request stop
      → Steps agrees old (events.Commit session number request) (Err stop) (book_seen new table)
  commit_not agrees session number request stop same full = commit_unasked agrees session number request old stop
      (book_seen new table) (subst (λ (b : BookData). IsFullIf b.store request stop) seen full) (same_is same)

  pub begin_not : (agrees : FactAgrees) (session number : ℕ) (root : List ℕ) (val : Option (List ℕ)) (stop : Stop Full)
      → new ≡ store
      → IsFullIf store (Build root val) stop
      → Steps agrees old (events.Begin session number root val) (Err stop) (book_seen new table)
  begin_not agrees session number root val stop same full = begin_unasked agrees session number root val old stop
      (book_seen new table) (subst (λ (b : BookData). IsFullIf b.store (Build root val) stop) seen full) (same_is same)

-- The table

module _ (plan_agrees : PlanAgrees) (own_agrees : FactAgrees) (sound : Fact → Type 0) (store : Kept)
    (table : TableSeen) (stamp : ℕ) (old : BookData) (is : IsInside plan_agrees own_agrees sound store table stamp)
    (seen : book_seen store table ≡ old) where
  -- what holds of the book that is seen
  pub in_order : IsInOrder (Agrees plan_agrees own_agrees) sound old
  in_order = subst (IsInOrder (Agrees plan_agrees own_agrees) sound) seen is.book.order

  -- the rows of the key may be judged by the judge of the claim
  pub may_be_claimed : (build : BuildKey) (sources : State) (key : FactKey) (snapshot : SnapshotData)
      → IsSnapshotOf old.store.history snapshot → IsJudgeOfClaim build sources key snapshot
      → MayClaim plan_agrees own_agrees sound table.table.rows table.judged key snapshot.stamp sources build
  may_be_claimed build sources key snapshot of judge =
      subst (λ (s : State). MayClaim plan_agrees own_agrees sound table.table.rows table.judged key snapshot.stamp s build)
      (sym judge.sources_are)
      (subst (λ (b : BuildKey). MayClaim plan_agrees own_agrees sound table.table.rows table.judged key snapshot.stamp
      snapshot.state b) (sym judge.build_is)
      (may_claim plan_agrees own_agrees sound table.judged (book_seen store table) key snapshot is.book
      (subst (λ (b : BookData). IsSnapshotOf b.store.history snapshot) (sym seen) of)))

module _ (plan_agrees : PlanAgrees) (own_agrees : FactAgrees) (sound : Fact → Type 0) (store : Kept)
    (table new : TableSeen) (stamp : ℕ) (old : BookData) (is : IsInside plan_agrees own_agrees sound store table stamp)
    (seen : book_seen store table ≡ old) where
  pub claim_inside : (key : FactKey) (snapshot : SnapshotData) (answer : ClaimAnswer)
      → IsSnapshotOf old.store.history snapshot
      → IsClaimAnswer (Agrees plan_agrees own_agrees) table.table key snapshot.stamp snapshot.state answer
      → new.table ≡ after_claim table.table key snapshot.stamp snapshot.state answer
      → MayNote plan_agrees snapshot.state snapshot.stamp table.table.rows table.judged new.judged
      → IsInside plan_agrees own_agrees sound store new stamp
  claim_inside key snapshot answer of answers left noted =
      claimed_inside plan_agrees own_agrees sound store table stamp is new key snapshot answer
      (subst (λ (b : BookData). IsSnapshotOf b.store.history snapshot) (sym seen) of) answers left noted

  pub claim_not_inside : (key : FactKey) (snapshot : SnapshotData) → IsSnapshotOf old.store.history snapshot
      → new.table ≡ table.table
      → MayNote plan_agrees snapshot.state snapshot.stamp table.table.rows table.judged new.judged
      → IsInside plan_agrees own_agrees sound store new stamp
  claim_not_inside key snapshot of same noted =
      unclaimed_inside plan_agrees own_agrees sound store table stamp is new key snapshot
      (subst (λ (b : BookData). IsSnapshotOf b.store.history snapshot) (sym seen) of) same noted

  pub claimed_is : (key : FactKey) (snapshot : SnapshotData) (answer : ClaimAnswer)
      → IsClaimAnswer (Agrees plan_agrees own_agrees) table.table key snapshot.stamp snapshot.state answer
      → new.table ≡ after_claim table.table key snapshot.stamp snapshot.state answer
      → IsClaimed (Agrees plan_agrees own_agrees) key snapshot old answer (book_seen store new)
  claimed_is key snapshot answer answers left = record {
    answers = subst (λ (b : BookData). IsClaimAnswer (Agrees plan_agrees own_agrees) b.table key snapshot.stamp
        snapshot.state answer) seen answers;
    left = ap (book_by store) left ∙ ap (with_claim key snapshot answer) seen;
  }

  pub unclaimed_is : new.table ≡ table.table → book_seen store new ≡ old
  unclaimed_is same = ap (book_by store) same ∙ seen

  pub publish_inside : (ticket : Claim) (fact : Fact) (row : RowData)
      → MayPublish (Agrees plan_agrees own_agrees) sound old.table ticket fact
      → table_answers.IsPublished ticket fact table.table row new.table
      → table_answers.AreAmong new.judged table.judged → HaveRows new.table.rows new.judged
      → IsInside plan_agrees own_agrees sound store new stamp
  publish_inside ticket fact row may left fewer rows =
      published_inside plan_agrees own_agrees sound store table stamp is new ticket fact left.claim
      (subst (λ (b : BookData). MayPublish (Agrees plan_agrees own_agrees) sound b.table ticket fact) (sym seen) may)
      (record { stands = left.runs.stands; same = left.runs.same }) left.left fewer.each rows

  pub published_is : (ticket : Claim) (fact : Fact) (row : RowData)
      → table_answers.IsPublished ticket fact table.table row new.table
      → steps.IsPublished ticket fact old row (book_seen store new)
  published_is ticket fact row left = record {
    claim = left.claim;
    runs = record {
      stands = subst (λ (b : BookData). Stands b.table.running left.claim) seen left.runs.stands;
      same = left.runs.same;
    };
    row_is = left.row_is ∙ ap (λ (b : BookData). row_of b.table left.claim fact) seen;
    left = ap (book_by store) left.left ∙ ap (steps.with_published left.claim fact) seen;
  }

  pub release_inside : (ticket : Claim) → MayRelease old.table ticket → new.table ≡ released table.table ticket.serial
      → new.judged ≡ table.judged → IsInside plan_agrees own_agrees sound store new stamp
  release_inside ticket may left same = released_inside plan_agrees own_agrees sound store table stamp is new ticket
      (subst (λ (b : BookData). MayRelease b.table ticket) (sym seen) may) left same

  pub released_is : (ticket : Claim) → new.table ≡ released table.table ticket.serial
      → book_seen store new ≡ with_released ticket.serial old
  released_is ticket left = ap (book_by store) left ∙ ap (with_released ticket.serial) seen

-- What the steps are made of

pub ruleset committing = (place_fits, kept_inside, commit_inside, placed_is, commit_not)

pub ruleset beginning = (kept_inside, begin_inside, begun_is, begin_not)

pub ruleset claiming = (may_be_claimed, claim_inside, claim_not_inside, claimed_is, unclaimed_is)

pub ruleset publishing = (publish_inside, published_is)

pub ruleset releasing = (release_inside, released_is)
