-- So far each page has its mark, and its HTML.
use Rattle.std.proofs.Common.{◌≡◌, All, map, take}
use Rattle.desk_session.specs.Asking.{HasHtml, page_marked}
use Rattle.desk_session.proofs.answer.marks_of.Given as goal

abbrev pub invariant-loop-page : goal.invariant-loop-page
invariant-loop-page l = record {
  marks : l.marks ≡ map page_marked (take l.page-index l.pages);
  have : All HasHtml (take l.page-index l.pages);
}
