use Rattle.std.proofs.Common.{◌∙◌, ap}
use Rattle.std.specs.Prelude.{◌||◌}
use Rattle.std.specs.List.{list_any}
use Rattle.reltable_links.specs.Standings.{leads_from, reaches_at}
use Rattle.reltable_links.proofs.StandingLaws.{led_below}
use Rattle.reltable_links.proofs.standings.put_pages.Goals as goal

pub returns : goal.returns
returns c = λ rise page cell.
    c.in_ok-put_nodes.ensures page cell
    ∙ ap (λ b. reaches_at page c.args.pages.now.entries cell || b)
    (ap (list_any (leads_from page c.args.own.now cell)) (c.below.ensures rise)
    ∙ led_below page c.args.own.now cell c.args.nodes.now)
