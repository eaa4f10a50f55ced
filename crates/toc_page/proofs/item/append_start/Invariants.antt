use Rattle.std.proofs.Common.{◌≡◌, ◌++◌, take}
use Rattle.std.specs.Prelude.{codes}
use Rattle.std.specs.List.{flat_map}
use Rattle.html_spec.specs.Contents.{data_text}
use Rattle.toc_page.proofs.item.append_start.Given as goal

abbrev pub invariant-loop-given : goal.invariant-loop-given
invariant-loop-given l =
    l.out ≡ l.fn.out ++ (codes "<li" ++ flat_map data_text (take l.given-index l.cascaded))
