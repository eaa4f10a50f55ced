use Rattle.std.proofs.Common.{◌≡◌, ◌++◌, All, length, map}
use Rattle.dita_doc.specs.Bytes.{Bytes}
use Rattle.dita_doc.specs.Seen.{request_seen}
use Rattle.script_text.specs.Pieces.{IsTaken}
use Rattle.script_text.specs.Reader.{IsAt, IsBehind}
use Rattle.script_text.proofs.request_machine.RequestMachine.feed.Given as goal

abbrev pub invariant-loop-line : goal.invariant-loop-line
invariant-loop-line l = record {
  done : Bytes;
  whole : done ++ l.rest ≡ l.piece;
  at : (text : Bytes) → IsAt l.fn.self text → IsBehind l.self text (text ++ done) (map request_seen l.requests);
  taken : All IsTaken l.requests;
}

abbrev pub decreases-loop-line : goal.decreases-loop-line
decreases-loop-line l = length l.rest
