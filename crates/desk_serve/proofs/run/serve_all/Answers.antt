use Rattle.std.proofs.Common.{arith}
use Rattle.desk_session.specs.Serving.{breaks, serves}
use Rattle.desk_serve.proofs.RunLaws.{nobody, serves_from}
use Rattle.desk_serve.proofs.run.serve_all.Goals as goal

pub returns-in-Err : goal.returns-in-Err
returns-in-Err g c = record {
  these = nobody (serves g.B.Builds.clean) (g.D.Door.told c.args.door.now) (g.D.Door.told c.listen.new.self)
      c.in-Err.ensures.accepted c.in-Err.ensures.returned;
  fewer = omega (arith, c.requires.some);
  failed = c.in-Err.ensures.cause.failed;
}

pub returns-in-Ok : goal.returns-in-Ok
returns-in-Ok g c = serves_from g.B.Builds.clean c.args.connections (g.D.Door.told c.args.door.now)
    (g.D.Door.told c.listen.new.self) (g.D.Door.told c.serve_at.new.door) c.serve_at.result
    c.in_default.ensures.accepted c.in_default.ensures.returned c.in_default.ensures.cause.stays c.serve_at.ensures

pub returns-in-Err-opened : goal.returns-in-Err-opened
returns-in-Err-opened g c = record {
  these = nobody (breaks g.B.Builds.clean) (g.D.Door.told c.args.door.now) (g.D.Door.told c.listen.new.self)
      c.in_default.ensures.accepted c.in_default.ensures.returned;
  within = omega arith;
}
