-- A party that took the book and put one back may open the gate with it, by the play of what its one event was
-- answered.
use Rattle.std.proofs.Common.{◌≡◌, ℕ, ◌+◌, ◌<◌, [], ◌∷◌, Option, Some, None, refl, sym, ap, ◌∙◌, subst, arith}
use Rattle.atomic_table.specs.Table.{Allows, Me}
use Rattle.dita_doc.specs.Request.{Request}
use Rattle.dita_doc.specs.declared.fact.FactKey.{FactKey}
use Rattle.facts.specs.Latest.{ClaimAnswer, FactAgrees, Have, Taken, Yours}
use Rattle.facts.specs.Rows.{Claim, RowData, Running, claim_of}
use Rattle.facts.specs.Table.{next_claim, row_of}
use Rattle.facts.specs.declared.fact.Fact.{Fact}
use Rattle.version_store.specs.Kept.{next_entry}
use Rattle.desk_core.specs.Book.{BookData, SnapshotData}
use Rattle.desk_core.specs.Steps.{IsAsked, IsClaimed, IsPublished, IsSnapshotOf, with_released}
use Rattle.desk_lock.specs.Calls.{HandMayPublish, MayEnd}
use Rattle.desk_lock.specs.GateTurn.{PutsBack}
use Rattle.desk_lock.specs.Knows.{holding}
use Rattle.desk_lock.specs.Lists.{StartsWith}
use Rattle.desk_lock.specs.Meaning.{Meaning}
use Rattle.desk_lock.specs.Picks.{claim_at}
use Rattle.desk_lock.specs.Rule.{RuleKept}
use Rattle.desk_lock.specs.Steps.{Commits, Had, IsGranted, LetsGo, Met, Prints, Sees, Tells}
use Rattle.desk_lock.specs.declared.view.View.{View}
use Rattle.desk_lock.proofs.EventLaws.{starts_length}
use Rattle.desk_lock.proofs.OpenLaws.{after_row, commits, grants, has, lets_go, meets, prints, sees}

abbrev pub as_is : BookData → BookData
as_is book = book

abbrev pub Seated : Type 0
Seated = Me (Option BookData) View

-- the party of this view took the book, and has put this one back
pub record IsReady (v : View) (taken back : BookData) (ready : Seated) : Type 0 where
  pub is : ready ≡ (holding v taken, (0, Some back) ∷ [])

pub is_ready : (v : View) (taken back : BookData) (out ready : Seated) → out ≡ (holding v taken, (0, None) ∷ [])
    → PutsBack out back ready → IsReady v taken back ready
is_ready v taken back out ready took puts =
    record { is = puts ∙ ap (λ (x : Seated). (x.0, (0, Some back) ∷ [])) took }

-- the row of a claim's fact names the claim
pub row_claim_is : (fact : Fact) (one : Running) (claim : Claim) → claim_of one ≡ claim → fact.key ≡ claim.key
    → claim_at one.serial fact.key one.stamp ≡ claim
row_claim_is fact one claim same key = λ i. record {
  serial = ap (λ (c : Claim). c.serial) same i;
  key = key i;
  stamp = ap (λ (c : Claim). c.stamp) same i;
}

module _ (by : ℕ) (v : View) (some_part : 0 < v.parts) (taken back : BookData) (ready : Seated)
    (is : IsReady v taken back ready) where
  abbrev Opens : (Seated → ℕ → Seated → Type 0) → Seated → Type 0
  Opens Then x = Allows (RuleKept as_is) 1 by x 0 (λ _. 0) (λ _. Then x 0)

  at_ready : (Then : Seated → ℕ → Seated → Type 0) → Opens Then (holding v taken, (0, Some back) ∷ [])
      → Opens Then ready
  at_ready Then allows = subst (λ (x : Seated). Opens Then x) (sym is.is) allows

  pub may_see : back ≡ taken → Opens (Sees as_is) ready
  may_see same = at_ready (Sees as_is) (sees as_is by v taken back some_part same 1 refl)

  pub may_enter : (session number : ℕ) (asked : Request) (place : ℕ) → session ≡ v.session
      → IsAsked session number asked taken place back → Opens (Commits as_is) ready
  may_enter session number asked place same is_asked = at_ready (Commits as_is)
      (commits as_is by v taken back some_part (next_entry session number asked taken.store) same is_asked.left 1 refl)

  may_give : (agrees : FactAgrees) (key : FactKey) (snapshot : SnapshotData) (row : RowData)
      → IsClaimed agrees key snapshot taken (Have row) back → Opens (Had as_is row) ready
  may_give agrees key snapshot row claimed = at_ready (Had as_is row)
      (has as_is by v taken back some_part row (claimed.answers.place, claimed.answers.stands) claimed.left 1 refl)

  may_meet : (agrees : FactAgrees) (key : FactKey) (snapshot : SnapshotData) (serial : ℕ)
      → IsClaimed agrees key snapshot taken (Taken serial) back
      → Opens (Met as_is (claim_at serial key snapshot.stamp)) ready
  may_meet agrees key snapshot serial claimed =
      let one = claimed.answers.claim in
      let same : claim_of one ≡ claim_at serial key snapshot.stamp = λ i. record {
        serial = sym claimed.answers.number i;
        key = claimed.answers.runs.of i;
        stamp = claimed.answers.runs.at i;
      } in
      at_ready (Met as_is (claim_at serial key snapshot.stamp))
      (meets as_is by v taken back some_part (claim_at serial key snapshot.stamp) one claimed.answers.runs.stands same
      claimed.left 1 refl)

  may_draw : (agrees : FactAgrees) (key : FactKey) (snapshot : SnapshotData) (claim : Claim)
      → StartsWith taken.store.history v.seen → IsSnapshotOf v.seen snapshot
      → IsClaimed agrees key snapshot taken (Yours claim) back → Opens (IsGranted as_is claim) ready
  may_draw agrees key snapshot claim starts of claimed =
      let drawn = claimed.answers.drawn in
      let serial : claim.serial ≡ taken.table.drawn + 1 = ap (λ (c : Claim). c.serial) drawn in
      let stamp : claim.stamp ≡ snapshot.stamp = ap (λ (c : Claim). c.stamp) drawn in
      let within = of.within in
      let long = starts_length taken.store.history v.seen starts in
      at_ready (IsGranted as_is claim)
      (grants as_is by v taken back some_part claim (next_claim taken.table key snapshot.stamp snapshot.state)
      (sym drawn) (omega arith) (omega arith) claimed.left 1 refl)

  pub may_tell : (agrees : FactAgrees) (key : FactKey) (snapshot : SnapshotData) (answer : ClaimAnswer)
      → StartsWith taken.store.history v.seen → IsSnapshotOf v.seen snapshot
      → IsClaimed agrees key snapshot taken answer back → Opens (Tells as_is key snapshot.stamp answer) ready
  may_tell agrees key snapshot (Have row) starts of claimed = may_give agrees key snapshot row claimed
  may_tell agrees key snapshot (Taken serial) starts of claimed = may_meet agrees key snapshot serial claimed
  may_tell agrees key snapshot (Yours claim) starts of claimed = may_draw agrees key snapshot claim starts of claimed

  pub may_let_go : (claim : Claim) (serial : ℕ) → serial ≡ claim.serial → MayEnd v claim
      → back ≡ with_released claim.serial taken → Opens (LetsGo as_is serial) ready
  may_let_go claim serial same may left = subst (λ n. Opens (LetsGo as_is n) ready) (sym same)
      (at_ready (LetsGo as_is claim.serial)
      (lets_go as_is by v taken back some_part claim may.drew may.runs left 1 refl))

  pub may_print : (means : Meaning) (claim : Claim) (fact : Fact) (row : RowData) → HandMayPublish means v claim fact
      → IsPublished claim fact taken row back → Opens (Prints as_is row) ready
  may_print means claim fact row may published =
      let one = published.claim in
      let same = published.runs.same in
      let key = may.key in
      subst (λ (r : RowData). Opens (Prints as_is r) ready) (sym published.row_is)
      (at_ready (Prints as_is (row_of taken.table one fact))
      (prints as_is by v taken back some_part claim (row_of taken.table one fact) may.may_end.drew may.may_end.runs
      (row_claim_is fact one claim same key) (omega arith) refl may.plan
      (subst (λ n. back ≡ after_row taken n (row_of taken.table one fact)) (ap (λ (c : Claim). c.serial) same) published.left)
      1 refl))
