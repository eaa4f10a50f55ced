use Rattle.std.proofs.Common.{rules, ◌≡◌, ◌<◌, ◌+◌, ◌∙◌, ◌++◌, [], ◌∷◌, length, length-append, ap, sym, subst, arith}
use Rattle.std.proofs.lemmas.List.{length-map}
use Rattle.std.specs.Vec.Iter.{into_iter_items}
use Rattle.desk_lock.specs.Tokens.{pass_view}
use Rattle.desk_serve.specs.Accepting.{AreBegun, links_of}
use Rattle.desk_serve.specs.Ending.{EndsAll}
use Rattle.desk_serve.specs.Running.{begun_of}
use Rattle.desk_serve.specs.Sessions.{Served, links_gone}
use Rattle.desk_serve.proofs.DoorLaws.{none_then, some_out, then_none}
use Rattle.desk_serve.proofs.EndLaws.{as_many, ends_more, ends_none, not_lost, vec_whole}
use Rattle.desk_serve.proofs.end.end_all.Goals as goal

pub loop-session-init : goal.loop-session-init
loop-session-init g c =
    let gives = c.into_iter-session-iterator.ensures.into_iter_gives in
    record {
      size = search rules;
      count = omega (arith, gives.1);
      of = c.requires.of;
      begun = subst (AreBegun g.B.Builds.clean g.D.Connection.Link.told c.args.desk.now
          (pass_view c.args.pass.now).limits 1) (sym gives.0) c.requires.begun;
      ends = ends_none g.B.Builds.clean g.D.Connection.Link.told c.args.desk.now (pass_view c.args.pass.now)
          (g.D.Door.told c.args.door.now);
    }

pub end-requires : goal.end-requires
end-requires g c =
    let out = c.requires.out in
    let told = g.D.Door.told in
    let ends = c.loop-session.invariant.ends in
    let alike = g.D.Door.alike out.first c.loop-session.door in
    let links = links_of g.D.Connection.Link.told c.args.running.items in
    let many = as_many g.B.Builds.clean g.D.Connection.Link.told c.args.desk.now (pass_view c.args.pass.now)
    (told c.args.door.now) c.loop-session.yielded (pass_view c.loop-session.pass) (told c.loop-session.door)
    c.loop-session.lost ends in
    some_out (told out.first).accepted (told out.first).returned (told c.loop-session.door).accepted
    (told c.loop-session.door).returned links (links_gone ends.served) (g.D.Door.fewer out.first) alike.accepted
    alike.returned
    (then_none (told out.first).accepted (told c.args.door.now).accepted (told c.loop-session.door).accepted links
    out.came ends.accepted)
    (none_then (told out.first).returned (told c.args.door.now).returned (told c.loop-session.door).returned
    (links_gone ends.served) out.none ends.returned)
    (omega (
      arith,
      many,
      length-map ends.served (λ (one : Served). one.went),
      length-map c.args.running.items (λ one. g.D.Connection.Link.told (begun_of one).link.value),
      c.loop-session.invariant.count,
      c.in-Some.ensures.steps.1,
      c.args.running.ok.0,
    ))

pub loop-session-preserved : goal.loop-session-preserved
loop-session-preserved g c =
    let clean = g.B.Builds.clean in
    let told = g.D.Connection.Link.told in
    let limits = (pass_view c.args.pass.now).limits in
    let all = subst (AreBegun clean told c.args.desk.now limits (length c.loop-session.yielded + 1))
    c.in-Some.ensures.steps.0 c.loop-session.invariant.begun in
    let longer = length-append c.loop-session.yielded (c.in-Some.session ∷ []) in
    let next : length c.loop-session.yielded + 1 + 1 ≡ length (c.loop-session.yielded ++ c.in-Some.session ∷ []) + 1 =
    omega (arith, longer) in
    record {
      size = omega (
        arith,
        c.in-Some.ensures.steps.1,
        c.loop-session.invariant.size,
        ap length c.in-Some.ensures.steps.0,
      );
      count = omega (arith, longer, c.in-Some.ensures.steps.1, c.loop-session.invariant.count);
      of = c.end_session.ensures.pass;
      begun = subst (λ n. AreBegun clean told c.args.desk.now limits n (into_iter_items c.next.new.self)) next all.1;
      ends = ends_more clean told c.args.desk.now (pass_view c.args.pass.now) (g.D.Door.told c.args.door.now)
          c.loop-session.yielded (pass_view c.loop-session.pass) (g.D.Door.told c.loop-session.door) c.loop-session.lost
          c.loop-session.invariant.ends c.in-Some.session c.ended-other.result all.0 c.ended-other.ensures
          (pass_view c.end_session.new.pass) (g.D.Door.told c.end.new.self) c.lost_with-lost.result
          c.end_session.ensures.joins c.end.ensures.accepted c.end.ensures.returned c.end.ensures.faults
          (λ same. not_lost c.loop-session.lost c.ended-other.result.end (sym c.lost_with-lost.ensures ∙ same));
    }

pub returns-clause-ends : goal.returns-clause-ends
returns-clause-ends g c =
    let whole = vec_whole c.args.running c.into_iter-session-iterator.result c.loop-session.session-iterator
    c.next.new.self c.loop-session.yielded c.next.result c.into_iter-session-iterator.ensures.into_iter_gives.0
    c.into_iter-session-iterator.ensures.into_iter_gives.1 c.loop-session.yielded_by c.in-None.is
    c.next.ensures.steps in
    subst (λ list. EndsAll g.B.Builds.clean g.D.Connection.Link.told (pass_view c.args.pass.now)
    (g.D.Door.told c.args.door.now) list (pass_view c.loop-session.pass) (g.D.Door.told c.loop-session.door)
    c.loop-session.lost) whole c.loop-session.invariant.ends
