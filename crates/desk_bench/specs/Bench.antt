-- What the calls of the bench keep (own): a pass and a hand that may be used again, and a claim that is granted.
use Rattle.std.specs.Prelude.{◌≡◌, ℕ, List, None, length}
use Rattle.dita_doc.specs.Desk.{State}
use Rattle.dita_doc.specs.declared.fact.FactKey.{FactKey}
use Rattle.facts.specs.Judged.{BuildKey}
use Rattle.facts.specs.Table.{html_bytes}
use Rattle.facts.specs.declared.fact.Fact.{Fact}
use Rattle.fact_table.specs.declared.ticket.Claimed.{Claimed}
use Rattle.fact_table.specs.declared.ticket.Claimed.TheVariants.{Have, Taken, Yours}
use Rattle.facts.specs.Rows.{Claim}
use Rattle.desk_core.specs.Book.{SnapshotData}
use Rattle.desk_core.specs.Steps.{IsSnapshotOf}
use Rattle.desk_lock.specs.Calls.{MayEnd}
use Rattle.desk_lock.specs.Knows.{hand_parts}
use Rattle.desk_lock.specs.Tokens.{IsHandOf, IsPassOf, hand_view, pass_view}
use Rattle.desk_lock.specs.declared.desk.Desk.{Desk}
use Rattle.desk_lock.specs.declared.desk.Hand.{Hand}
use Rattle.desk_lock.specs.declared.desk.Pass.{Pass}
use Rattle.desk_lock.specs.declared.view.View.{View}

-- the builds of a map without a DITAVAL
abbrev pub build_of : List ℕ → BuildKey
build_of root = record { map = root; val = None }

-- a part has as many bytes of HTML as names were stored
abbrev pub CountsNames : Fact → State → Type 0
CountsNames fact state = html_bytes fact.html ≡ length state

module _ {B : Type 0} where
  -- the pass may be used again, and has so many parts
  pub record Has (desk : Desk B) (pass : Pass B) (parts : ℕ) : Type 0 where
    pub of : IsPassOf desk pass
    pub parts_are : (pass_view pass).parts ≡ parts

  -- the hand may claim for the snapshot, and has the part of a hand
  pub record Works (desk : Desk B) (hand : Hand B) (snapshot : SnapshotData) : Type 0 where
    pub of : IsHandOf desk hand
    pub part : (hand_view hand).parts ≡ hand_parts
    pub stored : IsSnapshotOf (hand_view hand).seen snapshot

-- the claim is of this part and stamp, and may be ended
pub record IsGranted (v : View) (part : FactKey) (stamp : ℕ) (claim : Claim) : Type 0 where
  pub may_end : MayEnd v claim
  pub key : claim.key ≡ part
  pub stamped : claim.stamp ≡ stamp

-- of a claim that is granted that, and of others nothing
abbrev pub IfGranted : View → FactKey → ℕ → Claimed → Type 0
IfGranted v part stamp (Have row) = Unit {0}
IfGranted v part stamp (Taken serial) = Unit {0}
IfGranted v part stamp (Yours claim) = IsGranted v part stamp claim
