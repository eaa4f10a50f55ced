use Rattle.std.proofs.Common.{◌≡◌, map, take}
use Rattle.clean_build.specs.Clean.{page_seen}
use Rattle.transcript_text.specs.Written.{page_shown}
use Rattle.run_spec.specs.Answers.{page_put}
use Rattle.desk_top.proofs.build.marks.Given as goal

abbrev pub invariant-loop-page : goal.invariant-loop-page
invariant-loop-page l = map page_shown l.marks ≡ map page_put (map page_seen (take l.page-index l.pages))
