-- What stored documents are, in the words of `Desk`: an `Arc` is what it holds.
use Rattle.std.specs.Prelude.{◌≡◌, ◌<◌, ◌≤◌, ℕ, Bool, false, List, [], ◌∷◌, ◌++◌, length, Option, option_map, slice_index_or}
use Rattle.std.specs.Arc.{arc_value}
use Rattle.std.specs.Borrow.{Bor}
use Rattle.std.specs.List.{flat_map}
use Rattle.std.specs.Ordering.{nat_cmp, is_gt}
use Rattle.std.specs.Cmp.Lexicographic.{slice_cmp}
use Rattle.std.specs.declared.cmp.Ordering.TheVariants.{Less}
use Rattle.std.specs.declared.sync.Arc.{Arc}
use Rattle.std.specs.declared.alloc.Global.{Global}
use Rattle.dita_doc.specs.declared.doc.Doc.{Doc}
use Rattle.dita_doc.specs.declared.doc.Node.{Node}
use Rattle.dita_doc.specs.declared.sources.StoredDoc.{StoredDoc}
use Rattle.dita_doc.specs.Desk.{Stored, State, IsBelowAll, IsSortedByName}

abbrev pub document_seen : StoredDoc → Stored
document_seen document = record {
  name = document.name;
  nodes = (arc_value document.doc).nodes;
  bytes =
      arc_value document.bytes;
  version = document.version;
}

abbrev pub found_seen : Option (Bor StoredDoc) → Option Stored
found_seen found = option_map (λ document. document_seen document.now) found

-- a version, and the nodes of the document that has it
abbrev pub got_seen : Option (ℕ × Bor (Arc Doc Global)) → Option (ℕ × List Node)
got_seen got = option_map (λ (pair : ℕ × Bor (Arc Doc Global)). (pair.0, (arc_value pair.1.now).nodes)) got

abbrev pub version_and_nodes : Stored → ℕ × List Node
version_and_nodes stored = (stored.version, stored.nodes)

-- each of their names is below this one
abbrev pub AreBelow : State → List ℕ → Type 0
AreBelow [] name = Unit {0}
AreBelow (stored ∷ state) name = (slice_cmp nat_cmp stored.name name ≡ Less) × AreBelow state name

-- the name stands at this place, behind the lower ones and before the higher ones
pub record IsAt (state : State) (name : List ℕ) (at : ℕ) : Type 0 where
  pub front : State
  pub stored : Stored
  pub back : State
  pub whole : state ≡ front ++ stored ∷ back
  pub place : length front ≡ at
  pub below : AreBelow front name
  pub same : stored.name ≡ name
  pub above : IsBelowAll name back

-- the name stands nowhere: its place would be this one, behind the lower ones and before the higher ones
pub record IsGapFor (state : State) (name : List ℕ) (at : ℕ) : Type 0 where
  pub front : State
  pub back : State
  pub whole : state ≡ front ++ back
  pub place : length front ≡ at
  pub below : AreBelow front name
  pub above : IsBelowAll name back

abbrev pub block_limit : ℕ
block_limit = 128

-- documents that follow one another: at least one, and no more than a block may have
pub record IsBlock (state : State) : Type 0 where
  pub sorted : IsSortedByName state
  pub some : 0 < length state
  pub few : length state ≤ block_limit

-- whether the first name is above this one
abbrev pub begins_above : List ℕ → State → Bool
begins_above name [] = false
begins_above name (stored ∷ state) = is_gt (slice_cmp nat_cmp stored.name name)

-- a block as it is shared
abbrev pub Shared : Type 0
Shared = Arc State Global

-- what the blocks hold, one after another
abbrev pub all_stored : List Shared → State
all_stored blocks = flat_map (λ (block : Shared). arc_value block) blocks

-- the name belongs to the block at this place: what stands before it is lower, and what stands behind it is higher
pub record IsBlockFor (blocks : List Shared) (name : List ℕ) (at : ℕ) : Type 0 where
  pub front : List Shared
  pub block : Shared
  pub back : List Shared
  pub whole : blocks ≡ front ++ block ∷ back
  pub place : length front ≡ at
  pub below : AreBelow (all_stored front) name
  pub above : IsBelowAll name (all_stored back)

-- the block at this place has more documents than this
abbrev pub IsLongerThan : ℕ → List Shared → ℕ → Type 0
IsLongerThan count blocks at = (other : Shared) → count < length (arc_value (slice_index_or blocks at other))

abbrev pub IsShorterThan : ℕ → List Shared → ℕ → Type 0
IsShorterThan count blocks at = (other : Shared) → length (arc_value (slice_index_or blocks at other)) < count

-- sorted by name, and this many
pub record AreSources (count : ℕ) (state : State) : Type 0 where
  pub sorted : IsSortedByName state
  pub number : count ≡ length state
