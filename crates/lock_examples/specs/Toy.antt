-- What the helpers of the tests say of a claim (own).
use Rattle.std.specs.Prelude.{◌≡◌}
use Rattle.dita_doc.specs.declared.fact.FactKey.{FactKey}
use Rattle.fact_table.specs.declared.ticket.Claimed.{Claimed}
use Rattle.fact_table.specs.declared.ticket.Claimed.TheVariants.{Have, Taken, Yours}
use Rattle.desk_lock.specs.Calls.{MayEnd}
use Rattle.desk_lock.specs.declared.view.View.{View}

-- a claim that is granted is of this part, and may be ended
abbrev pub MayEndIfGranted : View → FactKey → Claimed → Type 0
MayEndIfGranted v part (Have row) = Unit {0}
MayEndIfGranted v part (Taken serial) = Unit {0}
MayEndIfGranted v part (Yours claim) = MayEnd v claim × (claim.key ≡ part)
