-- Faults whose lines and order are known by hand.
use Rattle.std.specs.Prelude.{◌≡◌, ◌++◌, [], ◌∷◌, refl, codes}
use Rattle.std.specs.declared.cmp.Ordering.TheVariants.{Less}
use Rattle.std.specs.Fmt.{digits}
use Rattle.dita_doc.specs.declared.fault.Fault.{Fault}
use Rattle.dita_doc.specs.declared.fault.FaultCode.TheVariants as faults
use Rattle.fault_report.specs.FaultLine.{fault_line}
use Rattle.fault_report.specs.Report.{fault_order}

abbrev undefined : Fault
undefined = record { name = codes "a.dita"; line = 3; code = faults.KeyUndefined; detail = codes "k" ++ 9 ∷ [] }

abbrev foreign : Fault
foreign = record { name = codes "a.dita"; line = 3; code = faults.Foreign; detail = [] }

abbrev later : Fault
later = record { name = codes "a.dita"; line = 10; code = faults.NoClass; detail = codes "p" }

with_tab : fault_line undefined ≡ codes "a.dita:3 KeyUndefined k\\t"
unfolding digits
with_tab = refl

without_detail : fault_line foreign ≡ codes "a.dita:3 Foreign"
unfolding digits
without_detail = refl

by_code : fault_order undefined foreign ≡ Less
by_code = refl

line_first : fault_order foreign later ≡ Less
line_first = refl
