use Rattle.std.proofs.Common.{◌≡◌, ◌++◌, take}
use Rattle.std.specs.List.{flat_map}
use Rattle.html_spec.specs.PageHtml.{link_item}
use Rattle.html_page.proofs.links.append_related_line.Given as goal

abbrev pub invariant-loop-link : goal.invariant-loop-link
invariant-loop-link l = l.out ≡ l.initial.out ++ flat_map link_item (take l.link-index l.links)
