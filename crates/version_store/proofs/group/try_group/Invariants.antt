use Rattle.std.proofs.Common.{◌≡◌, ◌+◌, drop, map}
use Rattle.std.specs.Arc.{arc_value}
use Rattle.dita_doc.specs.Desk.{after_edits, edit_replies, first_halt, halt_of}
use Rattle.dita_doc.specs.Seen.{edit_seen}
use Rattle.version_store.proofs.group.try_group.Given as goal

-- the edits that are left do over what was tried what the whole group does, and are stopped where it is
abbrev pub invariant-loop-edit : goal.invariant-loop-edit
invariant-loop-edit l =
    let rest = map edit_seen (drop l.edit-index l.edits) in
    let all = map edit_seen l.edits in
    record {
      counted : l.number ≡ l.edit-index;
      left : after_edits (arc_value l.tried) l.place rest ≡ after_edits (arc_value l.sources) l.place all;
      halt : first_halt (l.number + 1) (edit_replies (arc_value l.tried) l.place rest)
          ≡ halt_of (arc_value l.sources) l.place all;
    }
