use Rattle.std.proofs.lemmas.Result.{IfOk-weaker}
use Rattle.fact_judge.specs.Sound.{IsSound}
use Rattle.fact_laws.proofs.ReachLaws.{back, forth}
use Rattle.script_text.specs.Read.{steps_seen}
use Rattle.desk_top.specs.TextMade.{TellsBatch}
use Rattle.desk_top.proofs.FaithfulLaws.{told_faithful}
use Rattle.desk_top.proofs.VersionLaws.{keeps_right}
use Rattle.desk_top.proofs.batch.transcript.Goals as goal

pub answer_beside-requires-clause-asked : goal.answer_beside-requires-clause-asked
answer_beside-requires-clause-asked g c = λ κs lives k d within. record {
  origin = c.args.script.origins k d within;
  few = c.args.script.few_edits k d within;
  utf8 = c.args.script.utf8 k d within;
}

pub returns : goal.returns
returns g c =
    let book = c.in_ok-answered.answered.book in
    let built = c.in_ok-answered.answered.built.items in
    let answered = c.in_ok-answered.ensures in
    IfOk-weaker c.transcript_of.result (TellsBatch book built) _
    (λ text told. told_faithful (steps_seen c.args.script.steps) book built text answered.served answered.one
    answered.made told.tells told.made
    (keeps_right IsSound (record { forth = forth; back = back }) book.store.history) answered.limit)
    c.transcript_of.ensures
