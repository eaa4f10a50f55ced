use Rattle.std.proofs.Common.{subst, sym, true}
use Rattle.std.specs.BTreeSet.{Updates}
use Rattle.key_scopes.specs.Lookup.{AreDeadEnds, dead_end_cmp}
use Rattle.key_scopes.proofs.LookupLaws.{dead_end_more, no_dead_ends}
use Rattle.key_scopes.proofs.lookup.note.Goals as goal
use Rattle.key_scopes.proofs.lookup.note.Goals.{then-len-ge-DEAD_END_LIMIT, else-len-ge-DEAD_END_LIMIT}

pub returns : goal.returns
returns c = λ table key rest known ends long none.
    let before = c.if-len-ge-DEAD_END_LIMIT.dead_ends in
    let kept = elim c.if-len-ge-DEAD_END_LIMIT.branch as (λ x. AreDeadEnds table key before) [
      | then-len-ge-DEAD_END_LIMIT w ↦ subst (AreDeadEnds table key) (sym w.dead_ends-is)
          (no_dead_ends table key w.clear.new.self w.clear.ensures.empty)
      | else-len-ge-DEAD_END_LIMIT w ↦ subst (AreDeadEnds table key) (sym w.dead_ends-is) known
    ] in
    dead_end_more table key before c.insert.new.self c.args.scope rest kept
    (subst (λ left. Updates dead_end_cmp before c.insert.new.self (c.args.scope, left) true) (sym long)
    c.in_ok-insert.ensures.updates) ends none
