-- How a run ends, from how its connections were accepted, served and handed back, and from what was written.
use Rattle.std.proofs.Common.{◌≡◌, ◌≤◌, ℕ, Bool, true, false, [], Option, Some, None, Result, Ok, Err, length, refl, sym, ap, ◌∙◌, subst, inr, arith}
use Rattle.std.specs.Io.KnownBytes.{Appends, Keeps}
use Rattle.std.proofs.lemmas.List.Elements.{All-nil}
use Rattle.dita_doc.specs.Bytes.{Bytes}
use Rattle.dita_doc.specs.History.{Entry}
use Rattle.dita_doc.specs.declared.stop.Stop.{Stop}
use Rattle.dita_doc.specs.declared.stop.Stop.TheVariants.{Fault, NoMemory}
use Rattle.dita_outside.specs.Cause.{Rose}
use Rattle.dita_outside.specs.Links.{DoorTold, HasMore, LinkTold}
use Rattle.dita_outside.specs.Taken.{AppendsFront}
use Rattle.dita_outside.specs.declared.Failed.{Failed}
use Rattle.run_spec.specs.EndsServe.{EndsServe, Ports, ServesSome, ServesThese, SessionRelation}
use Rattle.run_spec.specs.Written.{EndsWriting}
use Rattle.run_spec.specs.declared.status.Status.{Status}
use Rattle.run_spec.specs.declared.status.Status.TheVariants as statuses
use Rattle.desk_core.specs.Book.{BookData}
use Rattle.desk_lock.specs.Closes.{Closes}
use Rattle.desk_lock.specs.Knows.{all_parts}
use Rattle.desk_lock.specs.Lists.{Each}
use Rattle.desk_lock.specs.Meaning.{Meaning}
use Rattle.desk_lock.specs.Tokens.{pass_view}
use Rattle.desk_lock.specs.declared.desk.Desk.{Desk}
use Rattle.desk_lock.specs.declared.view.View.{View}
use Rattle.desk_session.specs.Answers.{CleanBuild}
use Rattle.desk_session.specs.Serving.{breaks, serves}
use Rattle.desk_serve.specs.Accepting.{AcceptsAll, links_of}
use Rattle.desk_serve.specs.Ending.{EndsAll}
use Rattle.desk_serve.specs.Ends.{ServesConnections, answer_of, count_line}
use Rattle.desk_serve.specs.Sessions.{IsWell, links_come, links_gone}
use Rattle.desk_serve.specs.declared.accept.Accepted.{Accepted}
use Rattle.desk_serve.proofs.DoorLaws.{none_then, then_none}
use Rattle.desk_serve.proofs.EndLaws.{as_many as all_ended}
use Rattle.desk_serve.proofs.TogetherLaws.{AreThese, these_break, these_serve}

-- no connection was accepted
abbrev pub nobody : (relation : SessionRelation) (old new : DoorTold) → HasMore old.accepted new.accepted []
    → HasMore old.returned new.returned [] → ServesThese relation old new
nobody relation old new accepted returned = record {
  came = [];
  went = [];
  accepted = accepted;
  returned = returned;
  history = [];
  rows = [];
  legal = tt;
  sessions = All-nil (λ (entry : Entry). (1 ≤ entry.session) × (entry.session ≤ 0));
  different = λ i j d before within. absurd (omega (arith, within));
  served = tt;
}

module _ {P M L : Type 0} (clean : CleanBuild) (told : L → LinkTold) (connections : ℕ) (desk : Desk BookData)
    (first all_came gone : DoorTold) (accepted : Accepted P M L) (stopped : Result (Unit {0}) (Stop Failed))
    (w : View) (lost : Bool) (means : Meaning) (book : BookData)
    (accepts : AcceptsAll clean told connections desk first all_came accepted stopped)
    (ends : EndsAll clean told (pass_view accepted.pass) all_came accepted.running.items w gone lost)
    (closes : Closes means w book) where
  parts : w.parts ≡ all_parts
  parts = omega (arith, ends.parts, accepts.has.parts)

  mine : (pass_view accepted.pass).mine ≡ []
  mine = ap (λ (u : View). u.mine) accepts.has.first.fresh

  theirs : (pass_view accepted.pass).theirs ≡ []
  theirs = ap (λ (u : View). u.theirs) accepts.has.first.fresh

  came : HasMore first.accepted gone.accepted (links_come ends.served)
  came = subst (HasMore first.accepted gone.accepted) (sym ends.came)
      (then_none first.accepted all_came.accepted gone.accepted (links_of told accepted.running.items)
      accepts.has.came ends.accepted)

  went : HasMore first.returned gone.returned (links_gone ends.served)
  went = none_then first.returned all_came.returned gone.returned (links_gone ends.served) accepts.has.none
      ends.returned

  as_many : length ends.served ≡ length accepted.running.items
  as_many = all_ended clean told desk (pass_view accepted.pass) all_came accepted.running.items w gone lost ends

  broken : AreThese (breaks clean) first gone (length ends.served) book.store.history
  broken = these_break clean (pass_view accepted.pass).limits accepts.has.first.standard means
      (pass_view accepted.pass) w
      book ends.served ends.are ends.takes mine theirs closes parts first gone came went

  served : Each IsWell ends.served → AreThese (serves clean) first gone (length ends.served) book.store.history
  served well = these_serve clean (pass_view accepted.pass).limits accepts.has.first.standard means
      (pass_view accepted.pass) w book ends.served ends.are ends.takes mine theirs closes parts well first gone came
      went

  at_most : (answer : Result (Unit {0}) (Stop Failed)) → stopped ≡ answer → length accepted.running.items ≤ connections
  at_most (Ok done) is = let all = subst
      (λ answer. AcceptsAll clean told connections desk first all_came accepted answer) is accepts in
      omega (arith, all.all)
  at_most (Err stop) is = let all = subst
      (λ answer. AcceptsAll clean told connections desk first all_came accepted answer) is accepts in
      omega (arith, all.fewer)

  some : ServesSome (breaks clean) connections first gone
  some = record { these = broken.these; within = omega (arith, broken.count, as_many, at_most stopped refl) }

  ends_counted : (done : Unit {0}) (entries : ℕ) → stopped ≡ Ok done → lost ≡ false
      → entries ≡ length book.store.history → ServesConnections clean connections first gone (Ok entries)
  ends_counted done entries is well counted =
      let all = subst (λ answer. AcceptsAll clean told connections desk first all_came accepted answer) is accepts in
      let these = served (ends.well well) in (
        record {
          these = these.these;
          all = these.count ∙ as_many ∙ all.all;
          sure = ends.sure ∙ all.cause.stays;
        },
        counted ∙ ap length (sym these.same),
      )

  ends_stopped : (stop : Stop Failed) → stopped ≡ Err stop → lost ≡ false
      → ServesConnections clean connections first gone (Err stop)
  ends_stopped NoMemory is well = some
  ends_stopped (Fault failed) is well =
      let all = subst (λ answer. AcceptsAll clean told connections desk first all_came accepted answer) is accepts in
      let these = served (ends.well well) in record {
        these = these.these;
        fewer = omega (arith, these.count, as_many, all.fewer);
        failed = subst (λ now. Rose first.faults now) (sym ends.sure) all.cause.failed;
      }

  pub ends_answered : (entries : ℕ) (has_lost : Bool) (answer : Result (Unit {0}) (Stop Failed))
      → entries ≡ length book.store.history → lost ≡ has_lost → stopped ≡ answer
      → ServesConnections clean connections first gone (answer_of entries has_lost answer)
  ends_answered entries true answer counted well is = some
  ends_answered entries false (Ok done) counted well is = ends_counted done entries is well counted
  ends_answered entries false (Err stop) counted well is = ends_stopped stop is well

-- Before that the door began to listen

module _ (relation : SessionRelation) (first old new : DoorTold) (came : HasMore first.accepted old.accepted [])
    (went : HasMore first.returned old.returned []) where
  abbrev pub these_from : ServesThese relation old new → ServesThese relation first new
  these_from these = record {
    came = these.came;
    went = these.went;
    accepted = none_then first.accepted old.accepted new.accepted these.came came these.accepted;
    returned = none_then first.returned old.returned new.returned these.went went these.returned;
    history = these.history;
    rows = these.rows;
    legal = these.legal;
    sessions = these.sessions;
    different = these.different;
    served = these.served;
  }

pub serves_from : (clean : CleanBuild) (connections : ℕ) (first old new : DoorTold) (answer : Result ℕ (Stop Failed))
    → HasMore first.accepted old.accepted [] → HasMore first.returned old.returned [] → old.faults ≡ first.faults
    → ServesConnections clean connections old new answer → ServesConnections clean connections first new answer
serves_from clean connections first old new (Ok entries) came went heard serve = (
  record {
    these = these_from (serves clean) first old new came went serve.0.these;
    all = serve.0.all;
    sure = serve.0.sure ∙ heard;
  },
  serve.1,
)
serves_from clean connections first old new (Err (Fault failed)) came went heard serve = record {
  these = these_from (serves clean) first old new came went serve.these;
  fewer = serve.fewer;
  failed = subst (λ before. Rose before new.faults) heard serve.failed;
}
serves_from clean connections first old new (Err NoMemory) came went heard serve = record {
  these = these_from (breaks clean) first old new came went serve.these;
  within = serve.within;
}

-- What was written

pub keeps_same : (taken : Option Bytes) → Keeps taken taken
keeps_same None = tt
keeps_same (Some taken) = refl

pub ends_told : (clean : CleanBuild) (connections entries : ℕ) (old new : Ports) (status : Status)
    → ServesConnections clean connections old.door new.door (Ok entries)
    → EndsWriting (count_line connections entries) old.sink new.sink status
    → EndsServe (serves clean) (breaks clean) connections old new status
ends_told clean connections entries old new statuses.Done all wrote = (
  all.0,
  subst (λ n. Appends old.sink.taken new.sink.taken (count_line connections n)) all.1 wrote.0,
  wrote.1,
)
ends_told clean connections entries old new statuses.WriteFault all wrote = (
  (all.0, subst (λ n. AppendsFront old.sink.taken new.sink.taken (count_line connections n)) all.1 wrote.0),
  wrote.1,
)
ends_told clean connections entries old new statuses.NoMemory all wrote =
    inr (all.0, subst (λ n. AppendsFront old.sink.taken new.sink.taken (count_line connections n)) all.1 wrote)
ends_told clean connections entries old new statuses.Words all wrote = absurd wrote
ends_told clean connections entries old new statuses.ReadFault all wrote = absurd wrote
ends_told clean connections entries old new statuses.Script all wrote = absurd wrote
ends_told clean connections entries old new statuses.OutletFault all wrote = absurd wrote
ends_told clean connections entries old new statuses.Port all wrote = absurd wrote
