use Rattle.std.proofs.Common.{ap, sym, ◌∙◌}
use Rattle.map_expand.specs.Ending.{why_none}
use Rattle.map_expand.specs.Homes.{Home, whole_by}
use Rattle.map_expand.proofs.whole_map.why_not.Goals as goal

pub returns-in-Some : goal.returns-in-Some
returns-in-Some c = λ name.
    let root = c.in-Some.ensures name in
    let home : Home = record { name = name; nodes = c.args.doc.now.nodes; root = c.in-Some.field-0 } in
    ap why_none (sym (ap (whole_by home) root.fits.here) ∙ root.here)

pub returns-in-None : goal.returns-in-None
returns-in-None c = λ name. ap why_none (sym (c.in-None.ensures name))
