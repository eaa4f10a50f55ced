-- The ends of an attempt: what the desk answered to a claim, and how the claim was ended, say how the attempt ended.
use Rattle.std.proofs.Common.{◌≡◌, ℕ, Option, Some, None, Result, Ok, Err, IfOk, IfSome, IsErr, true≢false, sym, ap, ◌∙◌, subst}
use Rattle.std.specs.Arc.{arc_value}
use Rattle.dita_doc.specs.declared.fact.FactKey.{FactKey}
use Rattle.dita_doc.specs.declared.stop.NoMemory.{NoMemory}
use Rattle.facts.specs.Judged.{BuildKey}
use Rattle.facts.specs.Rows.{Claim, RowData, Stands, row_data}
use Rattle.facts.specs.declared.fact.Fact.{Fact}
use Rattle.fact_table.specs.Answers.{answer_seen}
use Rattle.fact_table.specs.declared.ticket.Claimed.{Claimed}
use Rattle.fact_table.specs.declared.ticket.Claimed.TheVariants.{Have, Taken, Yours}
use Rattle.facts.specs.declared.pair.FactPair.{FactPair}
use Rattle.facts.specs.declared.row.Row.{Row}
use Rattle.desk_core.specs.Book.{SnapshotData}
use Rattle.desk_core.specs.Steps.{IsJudgeOfClaim, IsSnapshotOf}
use Rattle.dita_doc.specs.Desk.{State}
use Rattle.dita_doc.specs.History.{sources}
use Rattle.desk_lock.specs.Calls.{Answers, Draws, HandMayPublish, Looks, MayEnd}
use Rattle.desk_lock.specs.declared.view.View.{View}
use Rattle.desk_work.specs.Attempts.{Attempts, EndsClaim, IsClaimDone}
use Rattle.desk_work.specs.Makers.{IsMade}
use Rattle.desk_work.specs.Sites.{IsJudgeOf, IsPartOf, Stays}
use Rattle.desk_work.specs.Work.{Basis}
use Rattle.desk_work.proofs.Lists.{if_some_onward, stands_starts}
use Rattle.desk_work.proofs.StayLaws.{draws_stays, gives_stays, meets_stays, publishes_stays, releases_stays, stays_then}
use Rattle.desk_work.proofs.StepLaws.{gives_works, looks_works, meets_works, publishes_works, releases_works, rests_known, snapshot_stays}

-- a worker's judge is that of the claim of each of its parts
pub judges_claim : {J : Type 0} (sources : J → State) (build : J → BuildKey) (root part : FactKey) (plan : Option RowData)
    (snapshot : SnapshotData) (judge : J) → IsJudgeOf sources build root snapshot.state judge → IsPartOf root plan part
    → IsJudgeOfClaim (build judge) (sources judge) part snapshot
judges_claim sources build root part plan snapshot judge of is = record {
  build_is = of.build_is ∙ sym is.build_is;
  sources_are = of.sources_are;
}

module _ (basis : Basis) (part : FactKey) (plan : Option RowData) where
  abbrev pub MadePair : FactPair → Type 0
  MadePair pair = IsMade basis.means basis.language basis.snapshot.state plan part (arc_value pair.kept)

  may_publish_made : (u : View) (claim : Claim) (fact : Fact) → IsSnapshotOf u.seen basis.snapshot → MayEnd u claim
      → claim.key ≡ part → claim.stamp ≡ basis.snapshot.stamp → IfSome plan (Stands u.rows)
      → IsMade basis.means basis.language basis.snapshot.state plan part fact
      → HandMayPublish basis.means u claim fact
  may_publish_made u claim fact of may_end key stamped knows made = record {
    may_end = may_end;
    key = made.of ∙ sym key;
    sound = made.right.sound;
    agrees = subst (λ (state : State). basis.means.agrees fact state)
        (of.state ∙ sym (ap (λ n. sources u.seen n) stamped)) made.right.agrees;
    plan = rests_known u plan fact knows made.rests;
  }

  -- what was made for a claim that runs may be published
  pub made_may_be_published : (u : View) (claim : Claim) (made : Result FactPair NoMemory)
      → IsSnapshotOf u.seen basis.snapshot → MayEnd u claim → claim.key ≡ part → claim.stamp ≡ basis.snapshot.stamp
      → IfSome plan (Stands u.rows) → IfOk made MadePair
      → IfOk made (λ (pair : FactPair). HandMayPublish basis.means u claim (arc_value pair.kept))
  made_may_be_published u claim (Ok pair) of may_end key stamped knows is =
      may_publish_made u claim (arc_value pair.kept) of may_end key stamped knows is
  made_may_be_published u claim (Err none) of may_end key stamped knows is = is

  pub ends_done : (u w : View) (claim : Claim) (made : Result FactPair NoMemory) (answer : Result (Option Row) NoMemory)
      → IfOk made MadePair → EndsClaim u claim made answer w → IsClaimDone basis plan part u claim answer w
  ends_done u w claim (Ok pair) (Ok (Some row)) is ends = (arc_value pair.kept, is, ends)
  ends_done u w claim (Ok pair) (Ok None) is ends = absurd ends
  ends_done u w claim (Ok pair) (Err stop) is ends = absurd ends
  ends_done u w claim (Err none) (Ok row) is ends = absurd ends
  ends_done u w claim (Err none) (Err stop) is ends = ends

  pub done_stays : (u w : View) (claim : Claim) (answer : Result (Option Row) NoMemory)
      → IsClaimDone basis plan part u claim answer w → Stays u w
  done_stays u w claim (Ok (Some row)) done = publishes_stays u w claim done.0 (row_data row) done.2
  done_stays u w claim (Ok None) done = absurd done
  done_stays u w claim (Err stop) done = releases_stays u w claim.serial done

  done_attempts : (v u w : View) (claim : Claim) (answer : Result (Option Row) NoMemory)
      → IsSnapshotOf v.seen basis.snapshot → Draws v part basis.snapshot.stamp claim u
      → IsClaimDone basis plan part u claim answer w → Attempts basis v part answer w
  done_attempts v u w claim (Ok (Some row)) of draws done =
      publishes_works basis v u w part plan claim done.0 (row_data row) of draws done.1 done.2
  done_attempts v u w claim (Ok None) of draws done = absurd done
  done_attempts v u w claim (Err stop) of draws done =
      releases_works basis v u w part basis.snapshot.stamp claim draws done

  -- Answers of the desk

  abbrev pub IsAnswered : View → Claimed → View → Type 0
  IsAnswered v claimed w = Answers basis.means v part basis.snapshot (answer_seen claimed) w

  pub have_attempts : (v w : View) (claimed : Claimed) (row : Row) → claimed ≡ Have row → IsAnswered v claimed w
      → Attempts basis v part (Ok (Some row)) w
  have_attempts v w claimed row is answered =
      gives_works basis v w part (row_data row) (subst (λ (x : Claimed). IsAnswered v x w) is answered)

  pub have_stays : (v w : View) (claimed : Claimed) (row : Row) → claimed ≡ Have row → IsAnswered v claimed w → Stays v w
  have_stays v w claimed row is answered = gives_stays basis.means v w part basis.snapshot.state (row_data row)
      (subst (λ (x : Claimed). IsAnswered v x w) is answered)

  pub taken_attempts : (v w : View) (claimed : Claimed) (serial : ℕ) → claimed ≡ Taken serial → IsAnswered v claimed w
      → Attempts basis v part (Ok None) w
  taken_attempts v w claimed serial is answered = meets_works basis v w part basis.snapshot.stamp serial
      (subst (λ (x : Claimed). IsAnswered v x w) is answered)

  pub taken_stays : (v w : View) (claimed : Claimed) (serial : ℕ) → claimed ≡ Taken serial → IsAnswered v claimed w
      → Stays v w
  taken_stays v w claimed serial is answered = meets_stays v w part basis.snapshot.stamp serial
      (subst (λ (x : Claimed). IsAnswered v x w) is answered)

  pub yours_draws : (v w : View) (claimed : Claimed) (claim : Claim) → claimed ≡ Yours claim → IsAnswered v claimed w
      → Draws v part basis.snapshot.stamp claim w
  yours_draws v w claimed claim is answered = subst (λ (x : Claimed). IsAnswered v x w) is answered

  -- A claim that was granted, and what was made for it

  pub drawn_may : (v u : View) (claim : Claim) (made : Result FactPair NoMemory) → IsSnapshotOf v.seen basis.snapshot
      → IfSome plan (Stands v.rows) → Draws v part basis.snapshot.stamp claim u → IfOk made MadePair
      → IfOk made (λ (pair : FactPair). HandMayPublish basis.means u claim (arc_value pair.kept))
  drawn_may v u claim made of knows draws is =
      let stays = draws_stays v u part basis.snapshot.stamp claim draws in
      made_may_be_published u claim made (snapshot_stays u.seen v.seen basis.snapshot stays.seen of) draws.may_end draws.key
      draws.stamped (if_some_onward plan (Stands v.rows) (Stands u.rows)
      (λ row stands. stands_starts u.rows v.rows row stays.known stands) knows) is

  pub drawn_stays : (v u w : View) (claim : Claim) (made : Result FactPair NoMemory)
      (answer : Result (Option Row) NoMemory) → Draws v part basis.snapshot.stamp claim u → IfOk made MadePair
      → EndsClaim u claim made answer w → Stays v w
  drawn_stays v u w claim made answer draws is ends = stays_then v u w
      (draws_stays v u part basis.snapshot.stamp claim draws)
      (done_stays u w claim answer (ends_done u w claim made answer is ends))

  pub drawn_attempts : (v u w : View) (claim : Claim) (made : Result FactPair NoMemory)
      (answer : Result (Option Row) NoMemory) → IsSnapshotOf v.seen basis.snapshot
      → Draws v part basis.snapshot.stamp claim u → IfOk made MadePair → EndsClaim u claim made answer w
      → Attempts basis v part answer w
  drawn_attempts v u w claim made answer of draws is ends =
      done_attempts v u w claim answer of draws (ends_done u w claim made answer is ends)

  -- the desk had no memory for the claim
  pub err_attempts : (v w : View) (answer : Result (Option Row) NoMemory) → IsErr answer → Looks v w
      → Attempts basis v part answer w
  err_attempts v w (Ok row) is looks = absurd (true≢false (sym is))
  err_attempts v w (Err stop) is looks = looks_works basis v w looks
