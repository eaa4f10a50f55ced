use Rattle.std.proofs.Common.{◌∙◌, ap, sym}
use Rattle.std.specs.List.{list_any}
use Rattle.std.proofs.lemmas.List.Sorted.{list_any-IsPermutation}
use Rattle.reltable_links.specs.Standings.{stands_in}
use Rattle.reltable_links.proofs.StandingLaws.{stood_in}
use Rattle.reltable_links.proofs.standings.pages_of.Goals as goal

pub returns : goal.returns
returns c = λ rise page cell.
    let cells = c.args.cells.now in
    let nodes = c.args.nodes.now in
    let stands = stands_in page nodes cell in
    c.in_ok-pages.ensures rise page cell ∙ ap (list_any stands) c.deref.ensures.value
    ∙ sym (list_any-IsPermutation stands c.in_ok-ordered.ordered.items c.sort_unstable_by_key.new.self.items
    c.sort_unstable_by_key.ensures.permutation)
    ∙ ap (list_any stands) c.in_ok-ordered.ensures.items
    ∙ stood_in page cells nodes cell
