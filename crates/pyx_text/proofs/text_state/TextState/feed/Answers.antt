use Rattle.std.proofs.Common.{◌≡◌, ℕ, List, Err, Ok, sym, subst}
use Rattle.dita_doc.specs.declared.fault.PyxFault.{PyxFault}
use Rattle.dita_doc.specs.declared.stop.Stop.{Stop}
use Rattle.pyx_text.specs.Pieces.{Feeds, AnswersPiece}
use Rattle.pyx_text.specs.Reader.{IsReadSoFar}
use Rattle.pyx_text.specs.declared.text_state.TextState.{TextState}
use Rattle.pyx_text.specs.declared.text_state.TextState.TheVariants.{Reading, Stopped}
use Rattle.pyx_text.proofs.StateLaws.{feeds_on, feeds_stop, feeds_again}
use Rattle.pyx_text.proofs.text_state.TextState.feed.Goals as goal
use Rattle.pyx_text.proofs.text_state.TextState.feed.Goals.{in-Reading+in-Err, in-Stopped}

pub returns-in-Ok : goal.returns-in-Ok
returns-in-Ok c =
    let piece = c.args.piece.now in
    subst (λ (old : TextState). Feeds IsReadSoFar AnswersPiece old piece (Ok tt) (Reading c.feed.new.self))
    (sym c.in-Reading.is) (feeds_on c.in-Reading.machine c.feed.new.self piece c.in-Ok.ensures.ok)

-- a stop, as the code gives it
stopped : (was old : TextState) (piece : List ℕ) (given stop : Stop PyxFault) → was ≡ old → given ≡ stop
    → Feeds IsReadSoFar AnswersPiece old piece (Err stop) (Stopped stop)
    → Feeds IsReadSoFar AnswersPiece was piece (Err given) (Stopped given)
stopped was old piece given stop was_is stop_is feeds =
    subst (λ (s : Stop PyxFault). Feeds IsReadSoFar AnswersPiece was piece (Err s) (Stopped s)) (sym stop_is)
    (subst (λ (state : TextState). Feeds IsReadSoFar AnswersPiece state piece (Err stop) (Stopped stop)) (sym was_is)
    feeds)

pub returns : goal.returns
returns c =
    let piece = c.args.piece.now in
    elim c.match-self.branch [
      | in-Reading+in-Err w ↦
          let feeds = feeds_stop w.in-Reading.machine piece w.in-Err.stop w.in-Err.ensures.fault in
          stopped c.args.self.now (Reading w.in-Reading.machine) piece c.match-self.stop w.in-Err.stop
          w.in-Reading.is w.stop-is feeds
      | in-Stopped w ↦
          let feeds = feeds_again piece w.in-Stopped.stop in
          stopped c.args.self.now (Stopped w.in-Stopped.stop) piece c.match-self.stop w.in-Stopped.stop
          w.in-Stopped.is w.stop-is feeds
    ]
