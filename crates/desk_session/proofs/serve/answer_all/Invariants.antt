-- What is so between two requests: those that are left are still to be answered.
use Rattle.std.proofs.Common.{◌≡◌, length, map}
use Rattle.std.specs.List.{All}
use Rattle.std.specs.Vec.Iter.{into_iter_items, into_iter_len}
use Rattle.dita_doc.specs.Seen.{request_seen}
use Rattle.script_text.specs.Pieces.{IsTaken}
use Rattle.desk_lock.specs.Tokens.{IsPassOf, pass_view}
use Rattle.desk_session.specs.SoFar.{HasLeft, Start}
use Rattle.desk_session.proofs.serve.answer_all.Given as goal

abbrev pub invariant-loop-request : goal.invariant-loop-request
invariant-loop-request g l = record {
  size : into_iter_len l.request-iterator ≡ length (into_iter_items l.request-iterator);
  taken : All IsTaken (into_iter_items l.request-iterator);
  of : IsPassOf l.desk l.pass;
  parts : (pass_view l.pass).parts ≡ (pass_view l.fn.pass).parts;
  left : (start : Start)
      → HasLeft g.M.Makers.language.clean start (pass_view l.fn.pass) (g.L.Link.told l.fn.link) l.fn.reading
      (map request_seen l.fn.requests)
      → HasLeft g.M.Makers.language.clean start (pass_view l.pass) (g.L.Link.told l.link) l.reading
      (map request_seen (into_iter_items l.request-iterator));
}
