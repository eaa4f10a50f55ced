-- The calls of a form in memory are counted from 1, and those whose numbers are listed fail (own).
use Rattle.std.specs.Prelude.{if◌then◌else◌, ◌+◌, ◌-◌, ◌^◌, ◌==◌, ℕ, Bool, List, min}
use Rattle.std.specs.List.{list_any}
use Rattle.dita_outside.specs.Cause.{count_after}
use Rattle.dita_outside.specs.declared.calls.Calls.{Calls}

-- which calls of a form fail, how many there were, and how many failed
pub record Failing : Type 0 where
  pub listed : List ℕ
  pub calls : ℕ
  pub faults : ℕ

-- a form that was not called yet
abbrev pub not_called : List ℕ → Failing
not_called listed = record { listed = listed; calls = 0; faults = 0 }

-- the number of the next call; the count stands still at its last value
abbrev pub next_call : Failing → ℕ
next_call failing = min (failing.calls + 1) (2 ^ 32 - 1)

abbrev pub is_listed : Failing → Bool
is_listed failing = list_any (λ call. call == next_call failing) failing.listed

-- one fault more
abbrev pub failed : Failing → Failing
failed failing = record { listed = failing.listed; calls = failing.calls; faults = count_after failing.faults }

-- one call more, which failed or not
abbrev pub after_call : Bool → Failing → Failing
after_call failed failing = record {
  listed = failing.listed;
  calls = next_call failing;
  faults = if failed then count_after failing.faults else failing.faults;
}

abbrev pub calls_failing : Calls → Failing
calls_failing calls = record { listed = calls.listed; calls = calls.calls; faults = calls.faults }
