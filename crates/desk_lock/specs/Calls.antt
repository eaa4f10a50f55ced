-- How the calls of a desk end (own), each over what the caller knew, `v`, and what it knows then, `w`. Each says the
-- new view by one equation: what the equation does not name is as it was.
use Rattle.std.specs.Prelude.{◌≡◌, ◌+◌, ◌<◌, ◌≤◌, ◌⊎◌, ℕ, List, Option, Some, length, slice_get}
use Rattle.std.specs.Arc.{arc_value}
use Rattle.dita_doc.specs.Desk.{Reply, State, Begun}
use Rattle.dita_doc.specs.History.{IsLegal, sources}
use Rattle.dita_doc.specs.Request.{Request, Build}
use Rattle.dita_doc.specs.declared.fact.FactKey.{FactKey}
use Rattle.dita_doc.specs.declared.stop.Stop.{Stop}
use Rattle.dita_doc.specs.declared.stop.Stop.TheVariants.{Fault, NoMemory}
use Rattle.facts.specs.Latest.{ClaimAnswer, Have, Taken, Yours}
use Rattle.facts.specs.Rows.{Claim, RowData, Stands, plan_in}
use Rattle.facts.specs.Table.{row_bytes}
use Rattle.facts.specs.declared.fact.Fact.{Fact}
use Rattle.version_store.specs.Kept as store_spec
use Rattle.version_store.specs.declared.full.Full.{Full}
use Rattle.desk_core.specs.Book.{SnapshotData, stamp_of}
use Rattle.desk_core.specs.Steps.{IsSnapshotOf}
use Rattle.desk_lock.specs.Knows.{arrived, both, drew, ends, first_view, given, has_met, let_go, looked, made, parted, printed, row_serials, serials, settled}
use Rattle.desk_lock.specs.Lists.{Each, IsNoneOf, StartsWith}
use Rattle.desk_lock.specs.Meaning.{IsRightRow, Meaning, NoLaterAgrees}
use Rattle.desk_lock.specs.Past.{row_claim}
use Rattle.desk_core.specs.declared.limits.Limits.{Limits}
use Rattle.desk_lock.specs.declared.view.View.{View}

-- the history was seen as it then was, and nothing else changed
pub record Looks (v w : View) : Type 0 where
  pub knows : w ≡ looked v w.seen
  pub later : StartsWith w.seen v.seen

-- Edits and builds

-- the request stands at this place with this reply, behind all that was seen before and as the last that is seen now
pub record Appends (v : View) (order : ℕ) (asked : Request) (answer : Reply) (place : ℕ) (w : View) : Type 0 where
  pub knows : w ≡ made v w.seen place
  pub later : StartsWith w.seen v.seen
  pub behind : length v.seen ≤ place
  pub last : length w.seen ≡ place + 1
  pub entry : slice_get w.seen place
      ≡ Some (record { session = v.session; number = order; request = asked; reply = answer })
  pub legal : IsLegal w.seen

-- the build has this place, and its snapshot is what is stored there
pub record Begins (v : View) (order : ℕ) (root : List ℕ) (val : Option (List ℕ)) (place : ℕ) (snapshot : SnapshotData)
    (w : View) : Type 0 where
  pub appends : Appends v order (Build root val) Begun place w
  pub stamped : snapshot.stamp ≡ stamp_of w.seen
  pub stored : IsSnapshotOf w.seen snapshot
  pub here : snapshot.state ≡ sources w.seen place

-- what is seen, as a store would keep it
abbrev pub store_seen : View → store_spec.Kept
store_seen w =
    record { history = w.seen; entry_limit = w.limits.entries; text_limit = w.limits.text_bytes }

-- one more request would pass a limit
pub record IsFull (v : View) (asked : Request) (full : Full) (w : View) : Type 0 where
  pub looks : Looks v w
  pub passed : store_spec.IsFull (store_seen w) asked full

-- why there is no entry: out of memory says nothing
abbrev pub IsStopped : View → Request → Stop Full → View → Type 0
IsStopped v asked (Fault full) w = IsFull v asked full w
IsStopped v asked NoMemory w = Looks v w

-- Claims

-- a row of this part was kept; of the rows that were known none that was published later would do
pub record Gives (means : Meaning) (v : View) (part : FactKey) (state : State) (row : RowData) (w : View) : Type 0 where
  pub knows : w ≡ given v w.seen row
  pub later : StartsWith w.seen v.seen
  pub right : IsRightRow means row part state
  pub latest : NoLaterAgrees means v.rows row part state

-- what a hand must have of a claim to end it: it drew it, and did not end it
pub record MayEnd (v : View) (claim : Claim) : Type 0 where
  pub drew : Stands v.drawn claim
  pub runs : IsNoneOf (ends v) claim.serial

-- the claim of this part is granted, with a serial that is new
pub record Draws (v : View) (part : FactKey) (stamp : ℕ) (claim : Claim) (w : View) : Type 0 where
  pub knows : w ≡ drew v w.seen claim
  pub later : StartsWith w.seen v.seen
  pub key : claim.key ≡ part
  pub stamped : claim.stamp ≡ stamp
  pub new : IsNoneOf (serials v.drawn) claim.serial
  pub above : Each (λ (row : RowData). row.mark < claim.serial) v.rows
  pub may_end : MayEnd w claim

-- another runs a claim of this part and stamp
pub record Meets (v : View) (part : FactKey) (stamp serial : ℕ) (w : View) : Type 0 where
  pub knows : w ≡ has_met v w.seen (record { serial = serial; key = part; stamp = stamp })
  pub later : StartsWith w.seen v.seen
  pub unpublished : IsNoneOf (row_serials v.rows) serial
  pub unended : IsNoneOf (ends v) serial

-- how a claim is answered
abbrev pub Answers : Meaning → View → FactKey → SnapshotData → ClaimAnswer → View → Type 0
Answers means v part snapshot (Have row) w = Gives means v part snapshot.state row w
Answers means v part snapshot (Taken serial) w = Meets v part snapshot.stamp serial w
Answers means v part snapshot (Yours claim) w = Draws v part snapshot.stamp claim w

-- Rows

-- a part that rests on a plan rests on that of a row which is known
abbrev pub RestsOnPlan : View → Fact → Type 0
RestsOnPlan v fact = (fact.planned ≡ 0) ⊎ ((row : RowData) × Stands v.rows row × (row.serial ≡ fact.planned)
    × (plan_in row ≡ arc_value fact.plan))

-- what publishing takes: the claim may be ended, and the part is its own and right over its snapshot
pub record HandMayPublish (means : Meaning) (v : View) (claim : Claim) (fact : Fact) : Type 0 where
  pub may_end : MayEnd v claim
  pub key : fact.key ≡ claim.key
  pub sound : means.is_sound fact
  pub agrees : means.agrees fact (sources v.seen claim.stamp)
  pub plan : RestsOnPlan v fact

-- the claim ended with this row
pub record Publishes (v : View) (claim : Claim) (part : Fact) (row : RowData) (w : View) : Type 0 where
  pub knows : w ≡ printed v w.seen row
  pub later : StartsWith w.seen v.seen
  pub claimed : row_claim row ≡ claim
  pub keeps : row.fact ≡ part
  pub counts : row.bytes ≡ row_bytes part (sources w.seen claim.stamp)
  pub marked : row.serial ≤ row.mark

-- the claim of this serial ended without a row
pub record Releases (v : View) (serial : ℕ) (w : View) : Type 0 where
  pub knows : w ≡ let_go v w.seen serial
  pub later : StartsWith w.seen v.seen

-- Tokens

-- the first pass of a desk
abbrev pub Starts : Limits → View → Type 0
Starts limits w = w ≡ first_view limits

-- a new party of this session got these parts, and has seen as much
pub record Splits (v : View) (session parts : ℕ) (w new : View) : Type 0 where
  pub gave : w ≡ parted v parts
  pub got : new ≡ arrived v session parts

-- the first took in what the other knew, and has seen the longer of both histories
pub record Joins (v other w : View) : Type 0 where
  pub knows : w ≡ settled (both v other)
  pub later : StartsWith w.seen v.seen
  pub too : StartsWith w.seen other.seen
