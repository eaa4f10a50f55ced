use Rattle.std.proofs.Common.{◌∙◌, ◌+◌, [], ◌∷◌, ap, arith, length, length-append}
use Rattle.desk_serve.proofs.BegunLaws.{accepted_more}
use Rattle.desk_serve.proofs.accept.accept_in.Goals as goal

pub loop-before-preserved : goal.loop-before-preserved
loop-before-preserved g c =
    let has = c.loop-before.invariant.has in
    let more = ap length c.push_reserved.ensures.items in
    let one = length-append c.loop-before.accepted.running.items (c.begin-session.result ∷ []) in
    record {
      has = accepted_more g.B.Builds.clean g.D.Connection.Link.told c.args.desk.now
          (g.D.Door.told c.args.door.now) (g.D.Door.told c.loop-before.door) (g.D.Door.told c.accept.new.self)
          c.loop-before.accepted (record { pass = c.session-pass.new.pass; running = c.push_reserved.new.self })
          c.session-pass.result c.in_ok-link.link (c.loop-before.before + 1) c.begin-session.result has
          (omega (arith, c.loop-before.invariant.count))
          (omega (arith, has.parts, c.loop-before.invariant.count, c.loop-before-test.true, c.requires.starts.most))
          c.in_ok-link.ensures.accepted c.in_ok-link.ensures.returned c.session-pass.ensures.splits
          c.begin-session.ensures c.session-pass.ensures.pass c.push_reserved.ensures.items;
      count = omega (arith, more, one, c.loop-before.invariant.count);
      room = omega (arith, c.push_reserved.ensures.capacity, c.loop-before.invariant.room);
      same = c.in_ok-link.ensures.cause.stays ∙ c.loop-before.invariant.same;
    }
