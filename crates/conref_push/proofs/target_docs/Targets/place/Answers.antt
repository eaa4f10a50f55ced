use Rattle.std.proofs.Common.{◌∙◌, ap, sym}
use Rattle.std.proofs.lemmas.Bool.{false≢true}
use Rattle.std.specs.Prelude.{is_some}
use Rattle.conref_push.proofs.target_docs.Targets.place.Goals as goal

pub returns-in_default : goal.returns-in_default
returns-in_default c = λ world from docs there. absurd (false≢true (ap is_some c.in_default.ensures.value ∙ there))

pub returns : goal.returns
returns c = λ world from docs there. c.place_if_stored.ensures world c.args.name.now from
    (docs c.args.name.now c.in-Some.found.now (sym c.in-Some.ensures.value))
