-- Pages, each by a mark in its place (own).
use Rattle.std.specs.Prelude.{ℕ, Bool, false, slice_get, unwrap_or}
use Rattle.link_groups.specs.declared.page_marks.PageMarks.{PageMarks}

-- the page has a mark
abbrev pub has_mark : ℕ → PageMarks → Bool
has_mark page set = unwrap_or (slice_get set.marks.items page) false
