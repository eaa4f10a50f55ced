-- What the result of a call says of its definition.
use Rattle.std.specs.Prelude.{◌≡◌, Result, Ok, Err}
use Rattle.dita_doc.specs.declared.stop.Stop.{Stop}
use Rattle.dita_doc.specs.declared.stop.Stop.TheVariants.{Fault, NoMemory}

-- The call gives what is defined: with Ok its value, as `see` shows the answer, and with a fault its fault. Out of
-- memory, nothing is said.
abbrev pub GivesSeen : {A B E : Type 0} → (A → B) → Result A (Stop E) → Result B E → Type 0
GivesSeen see (Ok answer) defined = defined ≡ Ok (see answer)
GivesSeen see (Err (Fault fault)) defined = defined ≡ Err fault
GivesSeen see (Err NoMemory) defined = Unit {0}

abbrev pub Gives : {A E : Type 0} → Result A (Stop E) → Result A E → Type 0
Gives result defined = GivesSeen (λ answer. answer) result defined

-- a stop of a call that gives what is defined
abbrev pub IsStopOf : {B E : Type 0} → Stop E → Result B E → Type 0
IsStopOf (Fault fault) defined = defined ≡ Err fault
IsStopOf NoMemory defined = Unit {0}

-- a fact for a fault, and nothing for out of memory
abbrev pub OnFault : {E : Type 0} → Stop E → Type 0 → Type 0
OnFault (Fault fault) P = P
OnFault NoMemory P = Unit {0}
