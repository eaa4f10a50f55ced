-- What the builds of a session made and cited, so far as the session knows (own).
use Rattle.std.specs.Prelude.{◌≡◌, ◌<◌, ◌++◌, ℕ, List, Some, flat_map, slice_get}
use Rattle.std.specs.List.{AllZip}
use Rattle.facts.specs.Rows.{RowData, Stands}
use Rattle.desk_language.specs.Language.{Language}
use Rattle.desk_lock.specs.Lists.{Each}
use Rattle.desk_lock.specs.Meaning.{Meaning}
use Rattle.desk_lock.specs.declared.view.View.{View}
use Rattle.desk_work.specs.Build.{outcome_seen}
use Rattle.desk_top.specs.Again.{serials_in, shown_by}
use Rattle.desk_top.specs.Given.{rows_of}
use Rattle.desk_top.specs.Made.{BuildMade, IsMadeAs}
use Rattle.desk_top.specs.declared.callers.BuiltAt.{BuiltAt}

abbrev pub rows_made : BuildMade → List RowData
rows_made one = one.made

abbrev pub all_made : List BuildMade → List RowData
all_made builds = flat_map rows_made builds

-- a build at this place gave this, and names the rows that it cites for its pages and its contents page
pub record IsOf (language : Language) (built : BuiltAt) (one : BuildMade) : Type 0 where
  pub place : built.place ≡ one.place
  pub outcome : outcome_seen built.outcome ≡ language.clean one.state one.root one.val
  pub shows : serials_in (rows_of built.outcome) ≡ shown_by language one

-- it stands behind the other, and its session knew before it what the other cites
pub record IsAfter (one later : BuildMade) : Type 0 where
  pub place : one.place < later.place
  pub known : Each (Stands later.known) one.cited

-- these are the builds of the session, in order; what it published it made by them
pub record HasMade (means : Meaning) (language : Language) (w : View) (built : List BuiltAt) : Type 0 where
  pub builds : List BuildMade
  pub of : AllZip (IsOf language) built builds
  pub each : Each (IsMadeAs means language w.seen) builds
  pub own : Each (λ (one : BuildMade). one.session ≡ w.session) builds
  pub follow : (at later : ℕ) (one other : BuildMade) → at < later → slice_get builds at ≡ Some one
      → slice_get builds later ≡ Some other → IsAfter one other
  pub published : w.published ≡ all_made builds
  pub cited : Each (λ (one : BuildMade). Each (Stands w.rows) one.cited) builds

-- it took in all rows that these published and knew, at a desk of the same limits
pub record TakesRows (v : View) (others : List View) (w : View) : Type 0 where
  pub limits : w.limits ≡ v.limits
  pub published : w.published ≡ v.published ++ flat_map (λ (u : View). u.published) others
  pub own : (row : RowData) → Stands v.rows row → Stands w.rows row
  pub rows : (at : ℕ) (u : View) → slice_get others at ≡ Some u → (row : RowData) → Stands u.rows row → Stands w.rows row
