use Rattle.std.proofs.Common.{ℕ, List, ◌++◌, take}
use Rattle.pyx_text.specs.Reader.{IsAt}
use Rattle.pyx_text.proofs.text_machine.TextMachine.feed.Given as goal

abbrev pub invariant-loop-byte : goal.invariant-loop-byte
invariant-loop-byte l = (text : List ℕ) → IsAt l.fn.self text → IsAt l.self (text ++ take l.byte-index l.piece)
