-- What a hand knows of its claim is enough for the event that ends it: once it has the book, the claim runs there, and
-- the fact may be published.
use Rattle.std.proofs.Common.{◌≡◌, ◌≢◌, ◌≤◌, ◌==◌, ℕ, Bool, true, false, List, sym, ap, ◌∙◌, subst, inl, inr, ⊎_elim, eq-eqb, length}
use Rattle.std.specs.Prelude.{if◌then◌else◌}
use Rattle.std.specs.Arc.{arc_value}
use Rattle.std.proofs.lemmas.Bool.Decides.{eqb_tells}
use Rattle.dita_doc.specs.History.{Entry, sources}
use Rattle.facts.specs.Rows.{Claim, HaveOnePlan, RowData, Running, Stands, plan_in, plan_serial, serial_of_plan}
use Rattle.facts.specs.declared.fact.Fact.{Fact}
use Rattle.version_store.proofs.HistoryLaws.{sources_prefix}
use Rattle.desk_core.specs.Book.{BookData}
use Rattle.desk_core.specs.Invariant.{AreClaims}
use Rattle.desk_core.specs.Steps.{MayPublish, MayRelease, RunsAs}
use Rattle.desk_lock.specs.Calls.{HandMayPublish, RestsOnPlan, MayEnd}
use Rattle.desk_lock.specs.Learns.{Learns}
use Rattle.desk_lock.specs.Lists.{StartsWith}
use Rattle.desk_lock.specs.Meaning.{Meaning}
use Rattle.desk_lock.specs.declared.view.View.{View}
use Rattle.desk_lock.proofs.Weights.{each_stands}

-- what was stored after the first entries is the same in a history that begins with what was seen
sources_seen : (history seen : List Entry) (stamp : ℕ) → StartsWith history seen → stamp ≤ length seen
    → sources history stamp ≡ sources seen stamp
sources_seen history seen stamp starts within =
    ap (λ (entries : List Entry). sources entries stamp) starts.1 ∙ sources_prefix seen starts.0 stamp within

-- a fact that names no row is judged under its own serial, and any other under that of the row
own_serial : (fact : Fact) (serial : ℕ) → (fact.planned == 0) ≡ true → serial_of_plan fact serial ≡ serial
own_serial fact serial is = ap (λ (b : Bool). if b then serial else fact.planned) is

named_serial : (fact : Fact) (serial : ℕ) → (fact.planned == 0) ≡ false → serial_of_plan fact serial ≡ fact.planned
named_serial fact serial is = ap (λ (b : Bool). if b then serial else fact.planned) is

module _ (means : Meaning) (v : View) (book : BookData) (learns : Learns v book) where
  -- a claim that it drew and did not end runs
  runs_as : (claim : Claim) → MayEnd v claim → (one : Running) × RunsAs book.table.running claim one
  runs_as claim may = let one = learns.running claim may.drew may.runs in
      (one.0, record { stands = one.1; same = one.2 })

  pub may_release : (claim : Claim) → MayEnd v claim → MayRelease book.table claim
  may_release claim may = let one = runs_as claim may in record { claim = one.0; runs = one.1 }

  -- a fact that names no row has the only plan that is judged under its serial
  own_plan : (claim : Claim) (fact : Fact) → MayEnd v claim → (fact.planned == 0) ≡ true
      → HaveOnePlan book.table.rows (serial_of_plan fact claim.serial) (arc_value fact.plan)
  own_plan claim fact may is row stands same = absurd
      (each_stands (λ (r : RowData). plan_serial r ≢ claim.serial) book.table.rows
      (learns.unplanned claim may.drew may.runs) stands.0 row stands.1 (same ∙ own_serial fact claim.serial is))

  -- a fact that names a row which is known has its plan
  known_plan : (claim : Claim) (fact : Fact) (known : RowData) → Stands v.rows known → known.serial ≡ fact.planned
      → plan_in known ≡ arc_value fact.plan → (fact.planned == 0) ≡ false
      → HaveOnePlan book.table.rows (serial_of_plan fact claim.serial) (arc_value fact.plan)
  known_plan claim fact known stands named plan is row there same =
      each_stands (λ (r : RowData). HaveOnePlan book.table.rows r.serial (plan_in r)) v.rows learns.plans stands.0 known
      stands.1 row there (same ∙ named_serial fact claim.serial is ∙ sym named) ∙ plan

  one_plan : (claim : Claim) (fact : Fact) → MayEnd v claim → RestsOnPlan v fact
      → HaveOnePlan book.table.rows (serial_of_plan fact claim.serial) (arc_value fact.plan)
  one_plan claim fact may (inl none) = own_plan claim fact may (eq-eqb fact.planned 0 none)
  one_plan claim fact may (inr known) = ⊎_elim
      (λ own. own_plan claim fact may own.0)
      (λ other. known_plan claim fact known.0 known.1 known.2 known.3 other.0)
      (eqb_tells fact.planned 0)

  -- what a hand must show to publish is what the book asks
  pub may_publish : AreClaims means.agrees book.store.history book.table → (claim : Claim) (fact : Fact)
      → HandMayPublish means v claim fact → MayPublish means.agrees means.is_sound book.table claim fact
  may_publish claims claim fact may =
      let one = runs_as claim may.may_end in
      let stamped : one.0.stamp ≡ claim.stamp = ap (λ (c : Claim). c.stamp) one.1.same in
      let within = each_stands (λ (c : Claim). c.stamp ≤ length v.seen) v.drawn learns.stamps may.may_end.drew.0 claim
      may.may_end.drew.1 in
      record {
        claim = one.0;
        runs = one.1;
        key = may.key ∙ sym (ap (λ (c : Claim). c.key) one.1.same);
        is_sound = may.sound;
        agreed = subst (means.agrees fact)
            (sym (claims.states one.0 one.1.stands ∙ ap (λ n. sources book.store.history n) stamped
            ∙ sources_seen book.store.history v.seen claim.stamp learns.seen within)) may.agrees;
        one_plan = subst (λ n. HaveOnePlan book.table.rows (serial_of_plan fact n) (arc_value fact.plan))
            (sym (ap (λ (c : Claim). c.serial) one.1.same)) (one_plan claim fact may.may_end may.plan);
      }
