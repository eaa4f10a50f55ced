use Rattle.std.proofs.Common.{◌≡◌, ◌<◌, ◌≤◌, ◌-◌, ℕ, List, ◌++◌, min, take, length, arith, length-append, length-take, append-nil, ◌∙◌}
use Rattle.std.proofs.KnownBytes.{Consumes-trans}
use Rattle.desk_top.proofs.outside.read_all.Goals as goal

-- a list that grows by a part of a piece within the room stays within the limit
within_limit : (old new piece room : List ℕ) (count most len limit : ℕ) → new ≡ old ++ take count piece
    → length piece ≡ length (take most room) → most ≡ min len (limit - length old) → length old ≤ limit
    → length new ≤ limit
within_limit old new piece room count most len limit e kept m within =
    rw e (omega (arith, length-append old (take count piece), length-take count piece, length-take most room))

-- the front of a buffer that is not empty, where there is room, is not empty
not_empty : (piece room : List ℕ) (most len buffer limit have : ℕ) → length piece ≡ length (take most room)
    → most ≡ min len (limit - have) → length room ≡ buffer → len ≡ buffer → 0 < buffer → have < limit → 0 < length piece
not_empty piece room most len buffer limit have kept m r l b below = omega (arith, length-take most room)

pub loop-buffer-preserved : goal.loop-buffer-preserved
loop-buffer-preserved g c =
    let bound = c.in-Ok.ensures.bound.0 in
    let e = c.in_ok-append.ensures in
    record {
      within = within_limit c.loop-buffer.input c.append.new.self c.read.new.into c.as_mut_slice.result.now
          c.in-Ok.count c.min-room.result c.len-in-loop-buffer.result c.args.limit e c.read.auto.into
          (rw c.len-in-loop-buffer-2.ensures.length at c.min-room.ensures) c.loop-buffer.invariant.within;
      room = c.loop-buffer.invariant.room;
      gave = rw e (Consumes-trans _ _ _ _ _ c.loop-buffer.invariant.gave c.in-Ok.ensures.bytes.0);
      counted = c.in-Ok.ensures.cause.stays ∙ c.loop-buffer.invariant.counted;
    }

pub returns-then-count-eq0-clause-ok : goal.returns-then-count-eq0-clause-ok
returns-then-count-eq0-clause-ok g c = record {
  gave = (let none = rw c.if-count-eq0.true at c.in-Ok.ensures.bytes.0
      in let joined = Consumes-trans _ _ _ _ _ c.loop-buffer.invariant.gave none in rw append-nil at joined);
  within = c.loop-buffer.invariant.within;
  whole = λ _. c.in-Ok.ensures.bytes.1 c.if-count-eq0.true
      (not_empty c.read.new.into c.as_mut_slice.result.now c.min-room.result c.len-in-loop-buffer.result _ c.args.limit
      c.len-in-loop-buffer-2.result c.read.auto.into c.min-room.ensures c.as_mut_slice.ensures.len
      c.len-in-loop-buffer.ensures c.loop-buffer.invariant.room (let t = c.loop-buffer-test.true
      in let a = c.len.ensures.length in let b = c.len-in-loop-buffer-2.ensures.length in omega arith));
}

pub returns-clause-ok : goal.returns-clause-ok
returns-clause-ok g c = record {
  gave = c.loop-buffer.invariant.gave;
  within = c.loop-buffer.invariant.within;
  whole = λ below. absurd (omega arith);
}
