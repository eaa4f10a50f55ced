use Rattle.std.proofs.Common.{◌≡◌, ◌++◌, reverse}
use Rattle.std.specs.Vec.Iter.{into_iter_items}
use Rattle.readers.specs.Noted.{answered_of}
use Rattle.readers.proofs.questions.Questions.into_answered.Given as goal

abbrev pub invariant-loop-note : goal.invariant-loop-note
invariant-loop-note l = l.answered ++ answered_of (into_iter_items l.note-iterator) ≡ answered_of (reverse l.fn.self)
