-- The pushes of some documents as a table (own): for each document what is pushed into it, the faults that stand in it,
-- and whether an element of it acts.
use Rattle.std.specs.Prelude.{Some, ◌≡◌, ◌==◌, ◌&&◌, ◌||◌, ◌++◌, ℕ, Bool, false, true, not, List, [], ◌∷◌, Option, length, filter, map, unwrap_or, if◌then◌else◌}
use Rattle.std.specs.BTreeMap as tree
use Rattle.std.specs.Cmp.Lexicographic.{slice_cmp}
use Rattle.std.specs.Coded.{Coded, Coded-set, codes}
use Rattle.std.specs.Ordering.{nat_cmp}
use Rattle.std.proofs.Props.{props}
use Rattle.conref_push.specs.Acting.{has_conaction_in}
use Rattle.conref_push.specs.declared.entries.Entries.{Entries}
use Rattle.conref_push.specs.declared.entries.PushEntry.{PushEntry}
use Rattle.conref_push.specs.declared.table.PushTable.{PushTable}
use Rattle.dita_doc.specs.declared.content.Push.{Push}
use Rattle.dita_doc.specs.declared.fault.Fault.{Fault}
use Rattle.map_spec.specs.Pushes.{AllPushes, PushInto, all_pushes, is_into, pushes_into, stands_in}
use Rattle.reader_spec.specs.World.{World}
use Rattle.readers.specs.Founded.{is_among}

abbrev pub entry_in : Entries → List ℕ → Option PushEntry
entry_in entries name = tree.get (slice_cmp nat_cmp) entries.map name

abbrev pub no_entry : PushEntry
no_entry = record { pushes = []; faults = []; acts = false }

-- what the table has for a name; nothing where it has no entry
abbrev pub entry_at : Entries → List ℕ → PushEntry
entry_at entries name = unwrap_or (entry_in entries name) no_entry

abbrev pub entry_for : AllPushes → Bool → List ℕ → PushEntry
entry_for all acting name = record {
  pushes = map (λ (into : PushInto). into.push) (filter (is_into name) all.made);
  faults = filter (stands_in name) all.faults;
  acts = acting;
}

-- the table of these pushes, with these documents in which elements act
pub record IsTableOf (all : AllPushes) (acting : List ℕ → Bool) (table : PushTable) : Type 0 where
  pub entries : (name : List ℕ) → entry_at table.entries name ≡ entry_for all (acting name) name
  pub faults : table.faults ≡ all.faults

-- an element of one of these documents acts, and the document has this name
abbrev pub acts_among : World → List (List ℕ) → List ℕ → Bool
acts_among world documents name = is_among documents name && has_conaction_in world name

-- the table of all pushes of these documents
abbrev pub IsPushTable : World → List (List ℕ) → PushTable → Type 0
IsPushTable world documents table =
    IsTableOf (all_pushes world documents) (acts_among world documents) table

-- something is pushed into a document, or it is one of these and an element of it acts
abbrev pub is_touched : World → List (List ℕ) → List ℕ → Bool
is_touched world documents name =
    acts_among world documents name || not (length (pushes_into world documents name).pushes == 0)

abbrev pub touched_by : PushEntry → Bool
touched_by entry = entry.acts || not (length entry.pushes == 0)

-- One entry changed

abbrev pub with_push : Push → PushEntry → PushEntry
with_push push entry = record entry { pushes = entry.pushes ++ push ∷ [] }

abbrev pub with_fault : Fault → PushEntry → PushEntry
with_fault fault entry = record entry { faults = entry.faults ++ fault ∷ [] }

abbrev pub with_acts : PushEntry → PushEntry
with_acts entry = record entry { acts = true }

-- the entry of this name is changed, and no other
pub record IsChanged (old new : Entries) (name : List ℕ) (change : PushEntry → PushEntry) : Type 0 where
  pub each : (other : List ℕ) → entry_at new other ≡
      (if tree.is_at (slice_cmp nat_cmp name) other then change (entry_at old other) else entry_at old other)

-- an entry is put in; the others stay
pub record HasAt (old new : Entries) (name : List ℕ) (entry : PushEntry) : Type 0 where
  pub each : (other : List ℕ) → entry_in new other ≡
      (if tree.is_at (slice_cmp nat_cmp name) other then Some entry else entry_in old other)

entry_code : Coded PushEntry
entry_code = hlevel codes

faults_code : Coded (List Fault)
faults_code = hlevel codes

entry_set : IsSet PushEntry
entry_set = Coded-set entry_code

faults_set : IsSet (List Fault)
faults_set = Coded-set faults_code

-- there is one proof of this at most
pub IsPushTable-prop : (world : World) (documents : List (List ℕ)) (table : PushTable)
    → IsProp (IsPushTable world documents table)
IsPushTable-prop world documents table = hlevel (props, entry_set, faults_set)
