use Rattle.std.proofs.Common.{◌≡◌, ◌++◌, map, drop, take}
use Rattle.std.specs.List.{flat_map, All}
use Rattle.transcript_text.specs.Transcript.{IsPageShown, bar_line, page_line}
use Rattle.transcript_text.specs.Written.{page_shown}
use Rattle.transcript_text.proofs.write.append_pages.Given as goal

abbrev pub invariant-loop-page : goal.invariant-loop-page
invariant-loop-page l = record {
  text : l.out ++ flat_map bar_line (map page_line (map page_shown (drop l.page-index l.pages)))
      ≡ l.fn.out ++ flat_map bar_line (map page_line (map page_shown l.pages));
  form : All (λ page. IsPageShown (page_shown page)) (take l.page-index l.pages);
}
