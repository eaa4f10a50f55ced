use Rattle.std.specs.Arc.{arc_value}
use Rattle.std.proofs.lemmas.Result.{IfOk-weaker}
use Rattle.fact_maker.specs.Made.{IsMade}
use Rattle.facts.specs.Rows.{row_data}
use Rattle.map_makers.proofs.MakerLaws.{part_is_made}
use Rattle.map_makers.proofs.makers.MapMakersMakersMapParts.make.Goals as goal

pub returns-clause-made : goal.returns-clause-made
returns-clause-made c =
    let ready = arc_value c.args.maker.now.ready in
    let state = arc_value ready.sources in
    let row = row_data ready.row in
    IfOk-weaker c.make.result (IsMade state row c.args.part) _
    (λ fact made. part_is_made state row c.args.part fact c.requires made) c.make.ensures.made
