-- In a book the rows of a key may be judged over the sources of a snapshot.
use Rattle.std.proofs.Common.{◌≡◌, ◌+◌, ◌<◌, ◌≤◌, ◌⊎◌, ◌∙◌, ℕ, Bool, true, false, List, refl, sym, ap, subst, inl, inr, nat_le, if◌then◌else◌, arith}
use Rattle.std.proofs.lemmas.Bool.Decides.{leb_tells}
use Rattle.std.specs.Arc.{arc_value}
use Rattle.dita_doc.specs.Desk.{State}
use Rattle.dita_doc.specs.History.{Entry, sources}
use Rattle.dita_doc.specs.declared.fact.FactKey.{FactKey}
use Rattle.desk_core.specs.Book.{BookData, SnapshotData}
use Rattle.desk_core.specs.Invariant.{IsBook}
use Rattle.desk_core.specs.Steps.{IsSnapshotOf}
use Rattle.fact_table.specs.Noted.{MayClaim, MayJudge, since}
use Rattle.facts.specs.Judged.{BuildKey, HasAgreed, HasStood, build_key}
use Rattle.facts.specs.Latest.{FactAgrees}
use Rattle.facts.specs.Memo.{AreRight, IsRight, PlanAgrees}
use Rattle.facts.specs.Rows.{RowData, Stands, plan_in}
use Rattle.facts.specs.declared.fact.Fact.{Fact}
use Rattle.facts.specs.declared.judged.Judged.{Judged}
use Rattle.desk_core.proofs.StoodLaws.{has_stood, nothing_stood}

-- what stood at the row's stamp stands at the snapshot's, up to the row's `since`
stood_if : (b : Bool) (history : List Entry) (row stamp : ℕ)
    → ((b ≡ true) × (row ≤ stamp)) ⊎ ((b ≡ false) × (stamp < row))
    → HasStood (if b then row else 0) (sources history row) (sources history stamp)
stood_if b history row stamp (inl low) = subst
    (λ (t : Bool). HasStood (if t then row else 0) (sources history row) (sources history stamp)) (sym low.0)
    (has_stood history row stamp low.1)
stood_if b history row stamp (inr high) = subst
    (λ (t : Bool). HasStood (if t then row else 0) (sources history row) (sources history stamp)) (sym high.0)
    (nothing_stood history stamp (sources history row))

module _ (plan_agrees : PlanAgrees) (own_agrees : FactAgrees) (sound : Fact → Type 0) (all : List Judged) (book : BookData)
    (key : FactKey) (snapshot : SnapshotData) (is : IsBook plan_agrees own_agrees sound all book)
    (of : IsSnapshotOf book.store.history snapshot) where
  abbrev history : List Entry
  history = book.store.history

  stood : (row : RowData) → HasStood (since row snapshot.stamp) (sources history row.stamp) snapshot.state
  stood row = subst (HasStood (since row snapshot.stamp) (sources history row.stamp)) (sym of.state)
      (stood_if (nat_le row.stamp snapshot.stamp) history row.stamp snapshot.stamp
      (leb_tells row.stamp snapshot.stamp))

  right : (row : RowData) → Stands book.table.rows row → AreRight plan_agrees snapshot.state snapshot.stamp row all
  right row stands = record {
    each = λ judged known for.
        subst (λ (s : State). IsRight plan_agrees s row judged)
        (ap (sources history) for.at ∙ sym of.state)
        (is.judged.right judged row known stands for.plan);
  }

  may_judge : (row : RowData) → Stands book.table.rows row → row.fact.key ≡ key
      → MayJudge plan_agrees own_agrees sound snapshot.state (build_key key) snapshot.stamp all row
  may_judge row stands same = record {
    is_sound = is.order.rows.are_sound row stands;
    of = ap build_key same;
    plan = record {
      older = sources history row.stamp;
      agreed = (is.order.rows.agree row stands).plan;
      stood = stood row;
    };
    own = record {
      older = sources history row.stamp;
      agreed = (is.order.rows.agree row stands).own;
      stood = stood row;
    };
    right = right row stands;
  }

  pub may_claim : MayClaim plan_agrees own_agrees sound book.table.rows all key snapshot.stamp snapshot.state
      (build_key key)
  may_claim = record { each = may_judge; one_plan = is.order.plans.same }
