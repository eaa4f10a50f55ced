-- A claim that is granted may be ended by a part that counts the names of its snapshot.
use Rattle.std.proofs.Common.{◌≡◌, ◌∙◌, sym, ap, subst, inl}
use Rattle.std.specs.Arc.{arc_value}
use Rattle.dita_doc.specs.Desk.{State}
use Rattle.dita_doc.specs.History.{sources}
use Rattle.dita_doc.specs.declared.fact.FactKey.{FactKey}
use Rattle.facts.specs.Rows.{Claim}
use Rattle.facts.specs.declared.fact.Fact.{Fact}
use Rattle.facts.specs.declared.fact.PlanFact.{PlanFact}
use Rattle.desk_core.specs.Book.{SnapshotData}
use Rattle.desk_core.specs.Steps.{IsSnapshotOf}
use Rattle.desk_lock.specs.Calls.{HandMayPublish}
use Rattle.desk_lock.specs.Meaning.{meant_by}
use Rattle.desk_lock.specs.declared.view.View.{View}
use Rattle.desk_bench.specs.Bench.{CountsNames, IsGranted}

pub may_publish : (v : View) (snapshot : SnapshotData) (part : FactKey) (claim : Claim) (fact : Fact)
    → IsSnapshotOf v.seen snapshot → IsGranted v part snapshot.stamp claim → fact.key ≡ part → fact.planned ≡ 0
    → CountsNames fact snapshot.state
    → HandMayPublish (meant_by (λ (plan : PlanFact) (state : State). Unit {0}) CountsNames (λ (fact : Fact). Unit {0})) v claim fact
may_publish v snapshot part claim fact stored granted key own counts = record {
  may_end = granted.may_end;
  key = key ∙ sym granted.key;
  sound = tt;
  agrees = record {
    plan = tt;
    own = subst (λ (state : State). CountsNames fact state)
        (stored.state ∙ ap (λ stamp. sources v.seen stamp) (sym granted.stamped)) counts;
  };
  plan = inl own;
}
