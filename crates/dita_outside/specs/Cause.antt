-- Why a call on an object of the outside failed: its count of faults rose.
use Rattle.std.specs.Prelude.{◌≡◌, ◌+◌, ◌-◌, ◌^◌, ◌<◌, ◌≤◌, ◌⊎◌, ℕ, Bool, true, false, Result, Ok, Err, OnOk, OnErr, IfErr, min}
use Rattle.dita_doc.specs.Gives.{OnFault}
use Rattle.dita_doc.specs.declared.stop.Stop.{Stop}
use Rattle.dita_doc.specs.declared.stop.Stop.TheVariants.{Fault, NoMemory}

-- the last value of a counter, at which a count stands still
abbrev pub last_count : ℕ
last_count = 2 ^ 64 - 1

-- the count with one fault more
abbrev pub count_after : ℕ → ℕ
count_after count = min (count + 1) last_count

-- The count rose. One that stands at the last value counts as risen too, and no other.
abbrev pub Rose : ℕ → ℕ → Type 0
Rose before now = (before < now) ⊎ (before ≡ last_count)

-- the count never falls, a call that does not fail leaves it, and a call fails only if it rose
pub record HasCause {T E : Type 0} (before now : ℕ) (result : Result T E) : Type 0 where
  pub later : before ≤ now
  pub stays : OnOk result (now ≡ before)
  pub failed : OnErr result (Rose before now)

-- the call ended with a fault: neither with its answer nor out of memory
abbrev pub is_fault : {T E : Type 0} → Result T (Stop E) → Bool
is_fault (Ok answer) = false
is_fault (Err (Fault fault)) = true
is_fault (Err NoMemory) = false

-- the same if a call may be out of memory too, which needs no cause
pub record HasCauseOrNoMemory {T E : Type 0} (before now : ℕ) (result : Result T (Stop E)) : Type 0 where
  pub later : before ≤ now
  pub stays : OnOk result (now ≡ before)
  pub failed : IfErr result (λ stop. OnFault stop (Rose before now))
