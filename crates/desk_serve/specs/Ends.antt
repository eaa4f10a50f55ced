-- How all connections are served (own), by what is answered: the count of the entries, or why it is not known.
use Rattle.std.specs.Prelude.{◌≡◌, ◌++◌, ℕ, Bool, true, false, Option, Result, Ok, Err, codes, length}
use Rattle.std.specs.Fmt.{decimal}
use Rattle.dita_doc.specs.Bytes.{Bytes}
use Rattle.dita_doc.specs.Lines.{line}
use Rattle.dita_doc.specs.declared.stop.Stop.{Stop}
use Rattle.dita_doc.specs.declared.stop.Stop.TheVariants.{Fault, NoMemory}
use Rattle.dita_outside.specs.Links.{DoorTold}
use Rattle.dita_outside.specs.declared.Failed.{Failed}
use Rattle.run_spec.specs.EndsServe.{Ports, ServesAll, ServesFewer, ServesSome}
use Rattle.run_spec.specs.Written.{Sunk}
use Rattle.desk_session.specs.Answers.{CleanBuild}
use Rattle.desk_session.specs.Serving.{breaks, serves}

-- the line that counts connections and entries
abbrev pub count_line : ℕ → ℕ → Bytes
count_line connections entries = line (codes "served " ++ decimal connections ++ codes " " ++ decimal entries)

-- what a sink tells, and what a sink and a door tell
abbrev pub sunk : {K : Type 0} → (K → Option Bytes) → (K → ℕ) → K → Sunk
sunk taken faults sink = record { taken = taken sink; faults = faults sink }

abbrev pub ports : {K D : Type 0} → (K → Option Bytes) → (K → ℕ) → (D → DoorTold) → K → D → Ports
ports taken faults told sink door = record { sink = sunk taken faults sink; door = told door }

abbrev pub ServesConnections : CleanBuild → ℕ → DoorTold → DoorTold → Result ℕ (Stop Failed) → Type 0
ServesConnections clean connections old new (Ok entries) =
    (all : ServesAll (serves clean) connections old new) × (entries ≡ length all.these.history)
ServesConnections clean connections old new (Err (Fault failed)) = ServesFewer (serves clean) connections old new
ServesConnections clean connections old new (Err NoMemory) = ServesSome (breaks clean) connections old new

-- what is answered, by whether a session ended out of memory, and why no more connections were accepted
abbrev pub answer_of : ℕ → Bool → Result (Unit {0}) (Stop Failed) → Result ℕ (Stop Failed)
answer_of entries true stopped = Err NoMemory
answer_of entries false (Ok done) = Ok entries
answer_of entries false (Err stop) = Err stop
