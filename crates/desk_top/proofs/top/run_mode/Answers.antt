use Rattle.std.proofs.Common.{◌≡◌, ℕ, refl, subst}
use Rattle.run_spec.specs.EndsServe.{EndsServe}
use Rattle.run_spec.specs.Language.{dita}
use Rattle.desk_serve.specs.Ends.{ports}
use Rattle.desk_session.specs.Serving.{breaks, serves}
use Rattle.desk_top.proofs.top.run_mode.Goals as goal

pub returns-in-Serve : goal.returns-in-Serve
returns-in-Serve g c =
    let ends = subst (λ (connections : ℕ). EndsServe (serves dita.clean) (breaks dita.clean) connections
    (ports g.K.Sink.taken g.K.Sink.faults g.D.Door.told c.args.sink.now c.args.door.now)
    (ports g.K.Sink.taken g.K.Sink.faults g.D.Door.told c.run_serve.new.sink c.run_serve.new.door) c.run_serve.result)
    c.connections-connections.ensures.connections c.run_serve.ensures in
    rw c.in-Serve.is (ends, refl, refl)
