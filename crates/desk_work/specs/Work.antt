-- What workers of a build do (own). They are given parts, make those that no kept row gives, and cite a row for each.
-- All of it holds between any two attempts, whatever failed: `v` is what the pass knew when it had begun the build,
-- `w` what it knows now, or will know once it has joined the workers.
use Rattle.std.specs.Prelude.{◌≡◌, ◌+◌, ◌<◌, ◌≤◌, ◌⊎◌, ℕ, List, ◌++◌, Option, Some, None, IfSome, sum_by}
use Rattle.desk_core.specs.Book.{SnapshotData}
use Rattle.dita_doc.specs.declared.fact.FactKey.{FactKey}
use Rattle.facts.specs.Rows.{RowData, Stands}
use Rattle.desk_lock.specs.Knows.{ends, serials}
use Rattle.desk_lock.specs.Lists.{Each, StartsWith}
use Rattle.desk_lock.specs.Meaning.{IsRightRow, Meaning, NoLaterAgrees}
use Rattle.desk_lock.specs.declared.view.View.{View}
use Rattle.desk_language.specs.Language.{Language, part_bytes}

-- a part of the build, and the row that is cited for it once it is done
pub record Job : Type 0 where
  pub key : FactKey
  pub row : Option RowData

-- what a build is over: what its parts mean, the language, and its snapshot
pub record Basis : Type 1 where
  pub means : Meaning
  pub language : Language
  pub snapshot : SnapshotData

-- the row was made for the build's snapshot, and counts for what its part counts for there
pub record IsMadeFor (basis : Basis) (row : RowData) : Type 0 where
  pub stamped : row.stamp ≡ basis.snapshot.stamp
  pub counts : row.bytes ≡ part_bytes basis.language basis.snapshot.state row.fact.key
  pub right : IsRightRow basis.means row row.fact.key basis.snapshot.state

-- the workers published these rows and no others, and ended each claim that they drew
pub record Worked (basis : Basis) (v w : View) (rows : List RowData) : Type 0 where
  pub seen : StartsWith w.seen v.seen
  pub session : w.session ≡ v.session
  pub limits : w.limits ≡ v.limits
  pub mine : w.mine ≡ v.mine
  pub theirs : w.theirs ≡ v.theirs
  pub published : w.published ≡ v.published ++ rows
  pub drawn : StartsWith w.drawn v.drawn
  pub released : StartsWith w.released v.released
  pub known : StartsWith w.rows v.rows
  pub met : StartsWith w.met v.met
  pub stand : Each (Stands w.rows) rows
  pub ended : (weight : ℕ → ℕ) → sum_by weight (serials w.drawn) + sum_by weight (ends v)
      ≡ sum_by weight (serials v.drawn) + sum_by weight (ends w)
  pub fits : Each (IsMadeFor basis) rows
  pub above : Each (λ (row : RowData). Each (λ (old : RowData). old.mark < row.serial) v.rows) rows

-- the row is cited for the part: it is right and known, and the workers published it, or no row that was known and was
-- published later would do
pub record Cites (basis : Basis) (v w : View) (part : FactKey) (rows : List RowData) (row : RowData) : Type 0 where
  pub right : IsRightRow basis.means row part basis.snapshot.state
  pub stands : Stands w.rows row
  pub source : Stands rows row ⊎ NoLaterAgrees basis.means v.rows row part basis.snapshot.state

abbrev pub IsCitedBy : List Job → RowData → Type 0
IsCitedBy jobs row = (job : Job) × Stands jobs job × (job.row ≡ Some row)

-- the weight of what is cited
abbrev pub cited_weight : (RowData → ℕ) → Option RowData → ℕ
cited_weight weight None = 0
cited_weight weight (Some row) = weight row

-- how far the workers are: each row that they published is cited by a part, and none was published more often than it is
-- cited
pub record Progress (basis : Basis) (v w : View) (jobs : List Job) : Type 0 where
  pub rows : List RowData
  pub worked : Worked basis v w rows
  pub done : Each (λ (job : Job). IfSome job.row (Cites basis v w job.key rows)) jobs
  pub once : (weight : RowData → ℕ) → sum_by weight rows ≤ sum_by (λ (job : Job). cited_weight weight job.row) jobs
  pub among : Each (IsCitedBy jobs) rows
