-- What is written of rows, in the words of `Transcript` (own): of a page, or of a contents page.
use Rattle.std.specs.Prelude.{◌≡◌, ◌++◌, ℕ, true, List, [], Option, Some, None, IsSome, IsSomeAnd, codes, option_map}
use Rattle.std.specs.Arc.{arc_value}
use Rattle.std.specs.Fmt.{decimal}
use Rattle.std.specs.Option.{option_map_or}
use Rattle.std.specs.declared.alloc.Global.{Global}
use Rattle.std.specs.declared.sync.Arc.{Arc}
use Rattle.dita_doc.specs.Lines.{ends_with_line, lines_of}
use Rattle.dita_doc.specs.declared.fact.FactKey.{FactKey}
use Rattle.dita_doc.specs.declared.fact.Html.{Html}
use Rattle.dita_doc.specs.declared.fact.Part.{Part}
use Rattle.dita_doc.specs.declared.fact.Part.TheVariants as parts
use Rattle.facts.specs.Rows.{RowData}
use Rattle.facts.specs.declared.fact.Fact.{Fact}
use Rattle.transcript_text.specs.Transcript.{PartShown, IsPage, IsContents, RowShown, part_index, part_text, val_text}

-- the part that the lines of a row show; a plan has no lines
abbrev pub part_shown : Part → Option PartShown
part_shown parts.Plan = None
part_shown (parts.Page index) = Some (IsPage index)
part_shown parts.Contents = Some IsContents

-- the bytes of a page; none if there is no page
abbrev pub bytes_of : Fact → List ℕ
bytes_of fact = option_map_or (λ (html : Arc Html Global). (arc_value html).bytes) fact.html []

-- a part of a row, with its lines
abbrev pub with_part : RowData → PartShown → RowShown
with_part row part = record {
  serial = row.serial;
  part = part;
  map = row.fact.key.map;
  val = row.fact.key.val;
  lines = lines_of (bytes_of row.fact);
}

abbrev pub row_shown : RowData → Option RowShown
row_shown row = option_map (with_part row) (part_shown row.fact.key.part)

-- the fact is a page or a contents page, and has been made; each of its lines is ended
pub record HasPage (fact : Fact) : Type 0 where
  pub part : IsSome (part_shown fact.key.part)
  pub made : IsSome fact.html
  pub ended : ends_with_line (bytes_of fact) ≡ true

-- The words of a first line

abbrev pub word_of : Part → List ℕ
word_of parts.Plan = codes "contents"
word_of (parts.Page index) = codes "page"
word_of parts.Contents = codes "contents"

abbrev pub index_of : Part → ℕ
index_of parts.Plan = 0
index_of (parts.Page index) = index
index_of parts.Contents = 0

-- up to the index
abbrev pub front_text : ℕ → FactKey → List ℕ
front_text serial key = codes "row " ++ decimal serial ++ codes " " ++ word_of key.part ++ codes " " ++ key.map ++ codes " "
    ++ val_text key.val ++ codes " "
