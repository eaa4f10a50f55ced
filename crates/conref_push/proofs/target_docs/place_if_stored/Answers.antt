use Rattle.std.proofs.Common.{◌≡◌, subst}
use Rattle.std.proofs.lemmas.Result.{IfOk-weaker}
use Rattle.map_spec.specs.Written.{written_in}
use Rattle.conref_push.specs.Sight.{sight_of}
use Rattle.conref_push.specs.Targets.{IsTargetDoc, place_meant, place_seen, target_tree}
use Rattle.conref_push.proofs.DocLaws.{place_found, place_nowhere}
use Rattle.conref_push.proofs.target_docs.place_if_stored.Goals as goal

pub returns-in-Some : goal.returns-in-Some
returns-in-Some c = λ world name from stored.
    let sight = sight_of from c.args.pushing in
    let nodes = written_in name (target_tree c.in-Some.target) in
    let here = subst (IsTargetDoc world name) c.in-Some.is stored in
    IfOk-weaker c.place_in.result (λ place. place ≡ place_meant nodes sight c.args.reference.now)
    (λ place. place ≡ place_seen world sight name c.args.reference.now)
    (λ place is. place_found world sight name c.args.reference.now c.in-Some.target place here is)
    (c.place_in.ensures name from (here.table name))

pub returns-in-None : goal.returns-in-None
returns-in-None c = λ world name from stored.
    place_nowhere world (sight_of from c.args.pushing) name c.args.reference.now
    (subst (IsTargetDoc world name) c.in-None.is stored)
