-- What the builds of a batch made (own): each the rows that its workers published, and those that are cited for its
-- parts. Together they made each row that was ever published. And when a build repeats another, by what rows mean.
use Rattle.std.specs.Prelude.{◌≡◌, ◌⊎◌, ◌<◌, ◌≤◌, ℕ, List, Option, Some, flat_map, length, map, slice_get, sum_by}
use Rattle.dita_doc.specs.Desk.{State}
use Rattle.dita_doc.specs.History.{Entry, sources}
use Rattle.dita_doc.specs.Request.{Build}
use Rattle.dita_doc.specs.declared.fact.FactKey.{FactKey}
use Rattle.facts.specs.Rows.{RowData, Stands}
use Rattle.facts.specs.declared.fact.Fact.{Fact}
use Rattle.desk_language.specs.Language.{Language, parts_of}
use Rattle.desk_lock.specs.Lists.{Each, IsReordered}
use Rattle.desk_lock.specs.Meaning.{IsRightRow, Meaning, NoLaterAgrees}
use Rattle.desk_work.specs.Work.{Basis, IsMadeFor}

-- One build

-- a build over what is stored at its place: which rows its session knew before it, which its workers published, and
-- which are cited for its parts, in the order of the parts
pub record BuildMade : Type 0 where
  pub session : ℕ
  pub root : List ℕ
  pub val : Option (List ℕ)
  pub place : ℕ
  pub stamp : ℕ
  pub state : State
  pub known : List RowData
  pub made : List RowData
  pub cited : List RowData

abbrev pub key_in : RowData → FactKey
key_in row = row.fact.key

abbrev pub basis_of : Meaning → Language → BuildMade → Basis
basis_of means language one =
    record { means = means; language = language; snapshot = record { stamp = one.stamp; state = one.state } }

abbrev pub parts_in : Language → BuildMade → List FactKey
parts_in language one = parts_of language one.state one.root one.val

-- the row is right over what is stored; the build made it, or no row that was known and was published later would do
pub record IsCitedBy (means : Meaning) (one : BuildMade) (row : RowData) : Type 0 where
  pub right : IsRightRow means row (key_in row) one.state
  pub source : Stands one.made row ⊎ NoLaterAgrees means one.known row (key_in row) one.state

-- the build stands at its place of the history. Its rows are those of its parts. What it made is cited, is for its
-- snapshot, and was claimed after all that was known.
pub record IsMadeAs (means : Meaning) (language : Language) (log : List Entry) (one : BuildMade) : Type 0 where
  pub entry : Entry
  pub stands : slice_get log one.place ≡ Some entry
  pub session : entry.session ≡ one.session
  pub request : entry.request ≡ Build one.root one.val
  pub here : one.state ≡ sources log one.place
  pub within : one.stamp ≤ length log
  pub stored : one.state ≡ sources log one.stamp
  pub keys : map key_in one.cited ≡ parts_in language one
  pub cited : Each (IsCitedBy means one) one.cited
  pub fits : Each (IsMadeFor (basis_of means language one)) one.made
  pub above : Each (λ (row : RowData). Each (λ (old : RowData). old.mark < row.serial) one.known) one.made
  pub once : (weight : RowData → ℕ) → sum_by weight one.made ≤ sum_by weight one.cited
  pub among : Each (Stands one.cited) one.made

-- All builds

-- of two builds of one session the later knew what the earlier cites
abbrev pub KnowsCited : BuildMade → BuildMade → Type 0
KnowsCited one later = later.session ≡ one.session → Each (Stands later.known) one.cited

-- the builds of a history in its order, which made all the rows that were published, each once
pub record AreMade (means : Meaning) (language : Language) (log : List Entry) (prints : List RowData)
    (builds : List BuildMade) : Type 0 where
  pub each : (at : ℕ) (one : BuildMade) → slice_get builds at ≡ Some one → IsMadeAs means language log one
  pub follow : (at later : ℕ) (one other : BuildMade) → at < later → slice_get builds at ≡ Some one
      → slice_get builds later ≡ Some other → KnowsCited one other
  pub all : IsReordered (flat_map (λ (one : BuildMade). one.made) builds) prints
  pub stand : (at : ℕ) (one : BuildMade) → slice_get builds at ≡ Some one → Each (Stands prints) one.cited

-- Repeated builds

pub record IsOfOneKey (one other : BuildMade) : Type 0 where
  pub root : other.root ≡ one.root
  pub val : other.val ≡ one.val

-- a sound part of the build's map and DITAVAL that agrees with these sources agrees with those
abbrev pub StaysRight : Meaning → BuildMade → State → State → Type 0
StaysRight means one state other = (fact : Fact) → means.is_sound fact → fact.key.map ≡ one.root → fact.key.val ≡ one.val
    → means.agrees fact state → means.agrees fact other

-- The second build repeats the first, which stands before it: they are of one map, one DITAVAL and one session; no
-- other session builds this map with this DITAVAL; no build of them stands between the two; and what is right at one
-- of them is right at the other.
pub record IsRepeat (means : Meaning) (builds : List BuildMade) (at later : ℕ) : Type 0 where
  pub first : BuildMade
  pub second : BuildMade
  pub is_first : slice_get builds at ≡ Some first
  pub is_second : slice_get builds later ≡ Some second
  pub before : at < later
  pub key : IsOfOneKey first second
  pub session : second.session ≡ first.session
  pub alone : (place : ℕ) (other : BuildMade) → slice_get builds place ≡ Some other → IsOfOneKey first other
      → other.session ≡ first.session
  pub next : (between : ℕ) (other : BuildMade) → at < between → between < later → slice_get builds between ≡ Some other
      → IsOfOneKey first other → ⊥
  pub forth : StaysRight means first first.state second.state
  pub back : StaysRight means first second.state first.state
