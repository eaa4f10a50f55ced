use Rattle.std.proofs.Common.{◌≡◌, Some, None}
use Rattle.script_text.specs.Machine.{pending_seen, begun_seen}
use Rattle.script_text.specs.declared.turn.Begun.TheVariants.{Put, Group, GroupPut}
use Rattle.script_text.proofs.StepLaws.{turn_text, turn_bytes}
use Rattle.script_text.proofs.turn.turn_at.Goals as goal

pub returns-in_default-clause-turn : goal.returns-in_default-clause-turn
returns-in_default-clause-turn g c =
    turn_bytes g.L.LineReader.reads c.args.count (pending_seen c.args.begun) c.args.line.now
    c.in_default.ensures.cases.0

pub returns-in-None-clause-turn : goal.returns-in-None-clause-turn
returns-in-None-clause-turn g c =
    let is : c.args.begun ≡ None = cc in
    rw is (turn_text _ _ g.L.LineReader.reads c.args.count None _ _ c.in-Ok.ensures.cases c.turn_outside.ensures.turn)

pub returns-in-Some-Put-clause-turn : goal.returns-in-Some-Put-clause-turn
returns-in-Some-Put-clause-turn g c =
    let begun = Put c.in-Some-Put.session c.in-Some-Put.put in
    let is : c.args.begun ≡ Some begun = cc in
    rw is (turn_text _ _ g.L.LineReader.reads c.args.count
    (Some (begun_seen begun)) _ _ c.in-Ok.ensures.cases c.turn_in_put.ensures.turn)

pub returns-in-Some-Group-clause-turn : goal.returns-in-Some-Group-clause-turn
returns-in-Some-Group-clause-turn g c =
    let begun = Group c.in-Some-Group.group in
    let is : c.args.begun ≡ Some begun = cc in
    rw is (turn_text _ _ g.L.LineReader.reads c.args.count
    (Some (begun_seen begun)) _ _ c.in-Ok.ensures.cases c.turn_in_group.ensures.turn)

pub returns-in-Some-GroupPut-clause-turn : goal.returns-in-Some-GroupPut-clause-turn
returns-in-Some-GroupPut-clause-turn g c =
    let begun = GroupPut c.in-Some-GroupPut.group c.in-Some-GroupPut.put in
    let is : c.args.begun ≡ Some begun = cc in
    rw is (turn_text _ _ g.L.LineReader.reads c.args.count
    (Some (begun_seen begun)) _ _ c.in-Ok.ensures.cases c.turn_in_group_put.ensures.turn)
