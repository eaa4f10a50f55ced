use Rattle.std.proofs.Common.{◌∙◌, None, Some, ap, sym}
use Rattle.std.specs.Prelude.{Bool, if◌then◌else◌}
use Rattle.map_spec.specs.Written.{written_in}
use Rattle.conref_push.specs.Sight.{sight_of}
use Rattle.conref_push.specs.Targets.{target_tree}
use Rattle.conref_push.proofs.PlaceLaws.{meant_none, meant_some}
use Rattle.conref_push.proofs.target_docs.place_in.Goals as goal

pub returns-in_default : goal.returns-in_default
returns-in_default c = λ name from table.
    let nodes = written_in name (target_tree c.args.target.now) in
    meant_none nodes (sight_of from c.args.pushing) c.args.reference.now c.in_ok-topic.topic c.in_ok-topic.ensures
    (sym c.in_default.is ∙ c.in_ok-place.ensures nodes table)

pub returns-then-fits : goal.returns-then-fits
returns-then-fits c = λ name from table.
    let nodes = written_in name (target_tree c.args.target.now) in
    sym (ap (λ (b : Bool). if b then Some c.in-Some.place else None) c.if-fits.true)
    ∙ meant_some nodes (sight_of from c.args.pushing) c.args.reference.now c.in_ok-topic.topic c.in-Some.place
    c.fits.result c.in_ok-topic.ensures (sym c.in-Some.is ∙ c.in_ok-place.ensures nodes table)
    (c.fits.ensures name from)

pub returns : goal.returns
returns c = λ name from table.
    let nodes = written_in name (target_tree c.args.target.now) in
    sym (ap (λ (b : Bool). if b then Some c.in-Some.place else None) c.if-fits.false)
    ∙ meant_some nodes (sight_of from c.args.pushing) c.args.reference.now c.in_ok-topic.topic c.in-Some.place
    c.fits.result c.in_ok-topic.ensures (sym c.in-Some.is ∙ c.in_ok-place.ensures nodes table)
    (c.fits.ensures name from)
