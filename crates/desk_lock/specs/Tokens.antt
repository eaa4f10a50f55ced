-- Which tokens a desk takes (own): a pass or a hand of this desk that has a part, and does not hold the gate.
use Rattle.std.specs.Prelude.{◌≡◌, ◌<◌, [], None}
use Rattle.atomic_table.specs.Seated.{TableId}
use Rattle.atomic_table.specs.Table.{Me}
use Rattle.desk_lock.specs.declared.desk.Desk.{Desk}
use Rattle.desk_lock.specs.declared.desk.Hand.{Hand}
use Rattle.desk_lock.specs.declared.desk.Pass.{Pass}
use Rattle.desk_lock.specs.declared.view.View.{View}

-- it has nothing of the slot, does not hold the gate, was not joined away, and has compared what it joined
pub record IsIdle {S : Type 0} (me : Me S View) : Type 0 where
  pub empty : me.1 ≡ []
  pub free : me.0.held ≡ None
  pub some_part : 0 < me.0.parts
  pub compared : me.0.also ≡ []

module _ {B : Type 0} where
  -- what no other desk has
  abbrev pub desk_id : Desk B → TableId
  desk_id desk = desk.table.shared.table_id

  abbrev pub pass_view : Pass B → View
  pass_view pass = pass.seat.me.0

  abbrev pub hand_view : Hand B → View
  hand_view hand = hand.seat.me.0

  pub record IsPassOf (desk : Desk B) (pass : Pass B) : Type 0 where
    pub of : pass.seat.table_id ≡ desk_id desk
    pub idle : IsIdle pass.seat.me
    pub session : pass.session ≡ (pass_view pass).session

  pub record IsHandOf (desk : Desk B) (hand : Hand B) : Type 0 where
    pub of : hand.seat.table_id ≡ desk_id desk
    pub idle : IsIdle hand.seat.me
