use Rattle.desk_serve.specs.Ends.{ports}
use Rattle.desk_serve.proofs.RunLaws.{ends_told}
use Rattle.desk_serve.proofs.run.run_serve.Goals as goal

pub returns-in-Ok : goal.returns-in-Ok
returns-in-Ok g c = ends_told g.M.Makers.language.clean c.args.connections c.in-Ok.entries
    (ports g.K.Sink.taken g.K.Sink.faults g.D.Door.told c.args.sink.now c.args.door.now)
    (ports g.K.Sink.taken g.K.Sink.faults g.D.Door.told c.tell.new.sink c.serve_all.new.door) c.tell.result
    c.in-Ok.ensures c.tell.ensures
