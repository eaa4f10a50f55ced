-- A hand that is at work stays so: each step leaves what it had seen and what it knew, and its parts.
use Rattle.std.proofs.Common.{ℕ, [], ◌∷◌, Option, refl, sym, ap, ◌∙◌, subst}
use Rattle.dita_doc.specs.declared.fact.FactKey.{FactKey}
use Rattle.facts.specs.Rows.{Claim, RowData, Stands}
use Rattle.facts.specs.declared.fact.Fact.{Fact}
use Rattle.desk_core.specs.Book.{SnapshotData}
use Rattle.dita_doc.specs.Desk.{State}
use Rattle.desk_lock.specs.Calls.{Draws, Gives, Looks, Meets, Publishes, Releases}
use Rattle.desk_lock.specs.Lists.{StartsWith}
use Rattle.desk_lock.specs.Meaning.{Meaning}
use Rattle.desk_lock.specs.Tokens.{IsHandOf, hand_view}
use Rattle.desk_lock.specs.declared.desk.Desk.{Desk}
use Rattle.desk_lock.specs.declared.desk.Hand.{Hand}
use Rattle.desk_lock.specs.declared.view.View.{View}
use Rattle.desk_work.specs.Sites.{IsAtWork, Stays}
use Rattle.desk_work.proofs.Lists.{if_some_onward, stands_starts, starts_same, starts_then}
use Rattle.desk_work.proofs.StepLaws.{snapshot_stays}

pub stays_then : (v u w : View) → Stays v u → Stays u w → Stays v w
stays_then v u w first then = record {
  seen = starts_then w.seen u.seen v.seen then.seen first.seen;
  known = starts_then w.rows u.rows v.rows then.known first.known;
  parts = then.parts ∙ first.parts;
}

pub looks_stays : (v w : View) → Looks v w → Stays v w
looks_stays v w looks = record {
  seen = looks.later;
  known = subst (λ (x : View). StartsWith x.rows v.rows) (sym looks.knows) (starts_same v.rows);
  parts = ap (λ (x : View). x.parts) looks.knows;
}

pub meets_stays : (v w : View) (part : FactKey) (stamp serial : ℕ) → Meets v part stamp serial w → Stays v w
meets_stays v w part stamp serial meets = record {
  seen = meets.later;
  known = subst (λ (x : View). StartsWith x.rows v.rows) (sym meets.knows) (starts_same v.rows);
  parts = ap (λ (x : View). x.parts) meets.knows;
}

pub gives_stays : (means : Meaning) (v w : View) (part : FactKey) (state : State) (row : RowData)
    → Gives means v part state row w → Stays v w
gives_stays means v w part state row gives = record {
  seen = gives.later;
  known = subst (λ (x : View). StartsWith x.rows v.rows) (sym gives.knows) (row ∷ [], refl);
  parts = ap (λ (x : View). x.parts) gives.knows;
}

pub draws_stays : (v w : View) (part : FactKey) (stamp : ℕ) (claim : Claim) → Draws v part stamp claim w → Stays v w
draws_stays v w part stamp claim draws = record {
  seen = draws.later;
  known = subst (λ (x : View). StartsWith x.rows v.rows) (sym draws.knows) (starts_same v.rows);
  parts = ap (λ (x : View). x.parts) draws.knows;
}

pub publishes_stays : (v w : View) (claim : Claim) (fact : Fact) (row : RowData) → Publishes v claim fact row w → Stays v w
publishes_stays v w claim fact row publishes = record {
  seen = publishes.later;
  known = subst (λ (x : View). StartsWith x.rows v.rows) (sym publishes.knows) (row ∷ [], refl);
  parts = ap (λ (x : View). x.parts) publishes.knows;
}

pub releases_stays : (v w : View) (serial : ℕ) → Releases v serial w → Stays v w
releases_stays v w serial releases = record {
  seen = releases.later;
  known = subst (λ (x : View). StartsWith x.rows v.rows) (sym releases.knows) (starts_same v.rows);
  parts = ap (λ (x : View). x.parts) releases.knows;
}

module _ {B : Type 0} (desk : Desk B) (snapshot : SnapshotData) (plan : Option RowData) where
  pub at_work_stays : (old new : Hand B) → IsAtWork desk snapshot plan old → IsHandOf desk new
      → Stays (hand_view old) (hand_view new) → IsAtWork desk snapshot plan new
  at_work_stays old new at of stays = record {
    of = of;
    saw = snapshot_stays (hand_view new).seen (hand_view old).seen snapshot stays.seen at.saw;
    knows = if_some_onward plan (Stands (hand_view old).rows) (Stands (hand_view new).rows)
        (λ row stands. stands_starts (hand_view new).rows (hand_view old).rows row stays.known stands) at.knows;
    one = stays.parts ∙ at.one;
  }
