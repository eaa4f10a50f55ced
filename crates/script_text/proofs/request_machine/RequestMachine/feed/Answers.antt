use Rattle.std.proofs.Common.{◌≡◌, [], ◌∷◌, ◌++◌, List, Option, Some, None, All, IfSome, map, sym, ap, ◌∙◌, subst, append-nil}
use Rattle.std.proofs.lemmas.List.Elements.{All-push}
use Rattle.dita_doc.specs.Bytes.{Bytes}
use Rattle.dita_doc.specs.Request.{Request}
use Rattle.dita_doc.specs.Seen.{request_seen}
use Rattle.dita_doc.specs.declared.request.Request as given
use Rattle.dita_doc.specs.declared.stop.Stop.{Stop}
use Rattle.script_text.specs.declared.fault.ScriptFault.{ScriptFault}
use Rattle.script_text.specs.Pieces.{IsTaken}
use Rattle.script_text.specs.Reader.{IsBehind, IsTold, Stays, request_in_seen}
use Rattle.script_text.specs.Requests.{requests_of}
use Rattle.script_text.proofs.ReaderLaws.{same_more, line_of_piece, piece_ends, piece_goes_on, piece_fails, seen_more}
use Rattle.script_text.proofs.request_machine.RequestMachine.feed.Goals as goal

pub end_line-requires : goal.end_line-requires
end_line-requires c =
    let text = c.requires.0 in
    let before = c.loop-line.invariant.at text c.requires.1 in
    let added = c.in_ok-add.ensures (text ++ c.loop-line.invariant.done) before.at in
    ((text ++ c.loop-line.invariant.done) ++ c.in-Some.line.now, added.at)

pub returns-in-Err-Fault-clause-fed : goal.returns-in-Err-Fault-clause-fed
returns-in-Err-Fault-clause-fed c text at =
    let done = c.loop-line.invariant.done in
    let line = c.in-Some.line.now in
    let before = c.loop-line.invariant.at text at in
    let added = c.in_ok-add.ensures (text ++ done) before.at in
    let here : Bytes = (text ++ done) ++ line in
    let told = subst (λ (stop : Stop ScriptFault). IsTold stop here (here ++ 10 ∷ [])) c.in-Err-Fault.field-0-is
    (c.in-Err-Fault.ensures.fault here added.at) in
    let front : List Request = (requests_of text).requests ++ map request_seen c.loop-line.requests in
    subst (λ (fault : ScriptFault). Stays (text ++ c.args.piece.now) front fault) (sym c.in-Err-Fault.fault-is)
    (piece_fails c.loop-line.self c.add.new.self text done c.loop-line.requests before line c.in-Some.more.now
    c.loop-line.rest.now c.args.piece.now c.in-Err-Fault.fault c.loop-line.invariant.whole c.in-Some.ensures added told)

pub loop-line-preserved-in-Ok-None : goal.loop-line-preserved-in-Ok-None
loop-line-preserved-in-Ok-None c =
    let done = c.loop-line.invariant.done in
    let line = c.in-Some.line.now in
    record {
      done = done ++ (line ++ 10 ∷ []);
      whole = line_of_piece done line c.in-Some.more.now c.loop-line.rest.now c.args.piece.now
          c.loop-line.invariant.whole c.in-Some.ensures;
      at = λ text at.
          let before = c.loop-line.invariant.at text at in
          let added = c.in_ok-add.ensures (text ++ done) before.at in
          let here : Bytes = (text ++ done) ++ line in
          let ended = subst (λ (request : Option given.Request).
          IsBehind c.end_line.new.self here (here ++ 10 ∷ []) (request_in_seen request)) c.in-Ok-None.field-0-is
          (c.in-Ok-None.ensures.ended here added.at) in
          let seen : List Request = map request_seen c.loop-line.requests in
          same_more c.end_line.new.self text (text ++ (done ++ (line ++ 10 ∷ []))) (seen ++ []) seen (append-nil seen)
          (piece_goes_on c.loop-line.self c.add.new.self text done c.loop-line.requests before c.end_line.new.self line
          [] added ended);
      taken = c.loop-line.invariant.taken;
    }

pub loop-line-preserved : goal.loop-line-preserved
loop-line-preserved c =
    let done = c.loop-line.invariant.done in
    let line = c.in-Some.line.now in
    let request = c.in-Ok-Some.request in
    let requests = c.loop-line.requests in
    let pushed : c.push.new.self ≡ requests ++ request ∷ [] = c.in_ok-push-in-Ok-Some.ensures in
    let is : IsTaken request =
    subst (λ (r : Option given.Request). IfSome r IsTaken) c.in-Ok-Some.field-0-is c.in-Ok-Some.ensures.taken in
    record {
      done = done ++ (line ++ 10 ∷ []);
      whole = line_of_piece done line c.in-Some.more.now c.loop-line.rest.now c.args.piece.now
          c.loop-line.invariant.whole c.in-Some.ensures;
      at = λ text at.
          let before = c.loop-line.invariant.at text at in
          let added = c.in_ok-add.ensures (text ++ done) before.at in
          let here : Bytes = (text ++ done) ++ line in
          let ended = subst (λ (request : Option given.Request).
          IsBehind c.end_line.new.self here (here ++ 10 ∷ []) (request_in_seen request)) c.in-Ok-Some.field-0-is
          (c.in-Ok-Some.ensures.ended here added.at) in
          let same : map request_seen requests ++ request_seen request ∷ [] ≡ map request_seen c.push.new.self =
          seen_more requests request ∙ ap (λ (all : List given.Request). map request_seen all) (sym pushed) in
          same_more c.end_line.new.self text (text ++ (done ++ (line ++ 10 ∷ []))) _ _ same
          (piece_goes_on c.loop-line.self c.add.new.self text done requests before c.end_line.new.self line
          (request_seen request ∷ []) added ended);
      taken = subst (λ (all : List given.Request). All IsTaken all) (sym pushed)
          (All-push IsTaken requests request c.loop-line.invariant.taken is);
    }

pub returns-clause-fed : goal.returns-clause-fed
returns-clause-fed c text at =
    let done = c.loop-line.invariant.done in
    let rest = c.loop-line.rest.now in
    let before = c.loop-line.invariant.at text at in
    let added = c.in_ok-add-2.ensures (text ++ done) before.at in
    piece_ends c.loop-line.self c.add-2.new.self text done c.loop-line.requests before rest c.args.piece.now
    c.loop-line.invariant.whole added
