-- The report of a build (own): its distinct faults, by the bytes of the document's name, by line, by the number of the
-- code, and by the bytes of the detail.
use Rattle.std.specs.Prelude.{◌≡◌, ◌⊎◌, List, [], ◌∷◌}
use Rattle.std.specs.Ordering.{nat_cmp}
use Rattle.std.specs.Cmp.Lexicographic.{slice_cmp}
use Rattle.std.specs.declared.cmp.Ordering.{Ordering}
use Rattle.std.specs.declared.cmp.Ordering.TheVariants.{Less, Equal, Greater}
use Rattle.dita_doc.specs.declared.fault.Fault.{Fault}
use Rattle.fault_report.specs.CodeNumber.{code_number}

-- the first order decides, unless it says that both are equal
abbrev pub then_by : Ordering → Ordering → Ordering
then_by Less next = Less
then_by Equal next = next
then_by Greater next = Greater

abbrev pub fault_order : Fault → Fault → Ordering
fault_order first second =
    then_by (slice_cmp nat_cmp first.name second.name)
    (then_by (nat_cmp first.line second.line)
    (then_by (nat_cmp (code_number first.code) (code_number second.code))
    (slice_cmp nat_cmp first.detail second.detail)))

-- each fault comes before all that follow it, so that none stands twice
abbrev pub IsBeforeAll : Fault → List Fault → Type 0
IsBeforeAll fault [] = Unit {0}
IsBeforeAll fault (other ∷ faults) = (fault_order fault other ≡ Less) × IsBeforeAll fault faults

abbrev pub IsRising : List Fault → Type 0
IsRising [] = Unit {0}
IsRising (fault ∷ faults) = IsBeforeAll fault faults × IsRising faults

-- the fault is one of these
abbrev pub IsAmong : Fault → List Fault → Type 0
IsAmong fault [] = ⊥
IsAmong fault (other ∷ faults) = (fault ≡ other) ⊎ IsAmong fault faults

-- the report of some faults has each of them, and no other
pub record IsReport (faults report : List Fault) : Type 0 where
  pub rising : IsRising report
  pub all : (fault : Fault) → IsAmong fault faults → IsAmong fault report
  pub only : (fault : Fault) → IsAmong fault report → IsAmong fault faults

-- The report as a list: each fault put in its place, unless it is there

abbrev pub put_by : Ordering → Fault → Fault → List Fault → List Fault → List Fault
put_by Less fault other faults behind = fault ∷ other ∷ faults
put_by Equal fault other faults behind = other ∷ faults
put_by Greater fault other faults behind = other ∷ behind

abbrev pub put_fault : Fault → List Fault → List Fault
put_fault fault [] = fault ∷ []
put_fault fault (other ∷ faults) = put_by (fault_order fault other) fault other faults (put_fault fault faults)

abbrev pub report_of : List Fault → List Fault
report_of [] = []
report_of (fault ∷ faults) = put_fault fault (report_of faults)
