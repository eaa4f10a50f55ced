-- What a session over a link leaves of its pass (own), over what the pass knew, `v`, and what it knows then, `w`.
use Rattle.std.specs.Prelude.{◌≡◌, ◌++◌, ℕ, List, Some, flat_map, length}
use Rattle.std.specs.Arc.{arc_value}
use Rattle.std.specs.declared.alloc.Global.{Global}
use Rattle.std.specs.declared.sync.Arc.{Arc}
use Rattle.dita_doc.specs.Lines.{line}
use Rattle.dita_doc.specs.declared.fact.Html.{Html}
use Rattle.dita_doc.specs.declared.fact.Part.{Part}
use Rattle.dita_doc.specs.declared.fact.Part.TheVariants as parts
use Rattle.dita_outside.specs.Links.{LinkTold}
use Rattle.facts.specs.Rows.{RowData, Stands}
use Rattle.transcript_text.specs.Transcript.{IsContents, IsPage, PartShown, RowShown}
use Rattle.desk_lock.specs.Lists.{StartsWith}
use Rattle.desk_lock.specs.declared.view.View.{View}
use Rattle.desk_session.specs.Answers.{CleanBuild, SessionBasis}
use Rattle.desk_session.specs.Ends.{Ends, Room}
use Rattle.desk_session.specs.declared.end.SessionEnd.{SessionEnd}

-- Rows

abbrev pub part_of : PartShown → Part
part_of (IsPage index) = parts.Page index
part_of IsContents = parts.Contents

-- a row as it is shown: its serial, the part that it keeps, and the bytes of its page
pub record ShowsRow (row : RowData) (shown : RowShown) : Type 0 where
  pub serial : row.serial ≡ shown.serial
  pub key : row.fact.key ≡ record { map = shown.map; val = shown.val; part = part_of shown.part }
  pub html : Arc Html Global
  pub keeps : row.fact.html ≡ Some html
  pub bytes : (arc_value html).bytes ≡ flat_map line shown.lines

-- it is one of these rows
abbrev pub IsAmong : List RowData → RowShown → Type 0
IsAmong rows shown = (row : RowData) × Stands rows row × ShowsRow row shown

-- The pass

abbrev pub basis_of : CleanBuild → View → View → SessionBasis
basis_of clean v w = record {
  clean = clean;
  history = w.seen;
  IsKnown = IsAmong w.rows;
  session = v.session;
  behind = length v.seen;
}

abbrev pub room_of : View → Room
room_of v = record { entries = v.limits.entries; bytes = v.limits.text_bytes }

-- the session ended so, and its pass has the places of its entries more
pub record ServesPass (clean : CleanBuild) (v w : View) (old new : LinkTold) (ended : SessionEnd) : Type 0 where
  pub places : List ℕ
  pub ends : Ends (basis_of clean v w) (room_of v) ended old new places
  pub mine : w.mine ≡ v.mine ++ places
  pub seen : StartsWith w.seen v.seen
  pub known : StartsWith w.rows v.rows
  pub session : w.session ≡ v.session
  pub theirs : w.theirs ≡ v.theirs
  pub parts : w.parts ≡ v.parts
  pub limits : w.limits ≡ v.limits
