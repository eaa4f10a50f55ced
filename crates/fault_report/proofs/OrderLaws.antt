-- The order of faults is total, and faults that it ties are the same.
use Rattle.std.specs.Prelude.{◌≡◌, ◌+◌, ℕ, List}
use Rattle.std.specs.Cmp.{IsTotalOrder}
use Rattle.std.specs.declared.cmp.Ordering.{Ordering}
use Rattle.std.specs.declared.cmp.Ordering.TheVariants.{Less, Equal, Greater}
use Rattle.std.proofs.Common.{refl, ap, ◌∙◌, arith, rules}
use Rattle.std.proofs.lemmas.Cmp.{nat_cmp_total, nat_list_cmp_total, on_total, then_total}
use denote.Enum.Bare.{tag_one}
use denote.Enum.Declared.{tag_of}
use Rattle.dita_doc.specs.contracts.fault.FaultCode.{the_type}
use Rattle.dita_doc.specs.declared.fault.Fault.{Fault}
use Rattle.dita_doc.specs.declared.fault.FaultCode.{FaultCode}
use Rattle.dita_doc.specs.declared.fault.FaultCode.TheVariants as code
use Rattle.dita_doc.proofs.NameOrder.{same_from_equal}
use Rattle.dita_doc.proofs.Orders.{equal_number}
use Rattle.fault_report.specs.CodeNumber.{code_number}
use Rattle.fault_report.specs.Report.{then_by, fault_order}

-- Codes

-- a code's number is one more than its place
number_tag : (c : FaultCode) → code_number c ≡ tag_of the_type c + 1
number_tag code.NoClass = refl
number_tag code.BadClass = refl
number_tag code.BadReference = refl
number_tag code.MapMissing = refl
number_tag code.MapCycle = refl
number_tag code.TopicMissing = refl
number_tag code.NotTopic = refl
number_tag code.MapConref = refl
number_tag code.GroupValue = refl
number_tag code.DitavalMissing = refl
number_tag code.DitavalTwice = refl
number_tag code.BadAction = refl
number_tag code.CopyTo = refl
number_tag code.Chunk = refl
number_tag code.NameChanged = refl
number_tag code.BadKeyName = refl
number_tag code.BadScopeName = refl
number_tag code.KeyUndefined = refl
number_tag code.KeyCycle = refl
number_tag code.KeyNoText = refl
number_tag code.ConrefMissing = refl
number_tag code.ConrefType = refl
number_tag code.ConrefCycle = refl
number_tag code.ConrefDepth = refl
number_tag code.RangeEnd = refl
number_tag code.PushPlace = refl
number_tag code.PushTwice = refl
number_tag code.TooManyResolved = refl
number_tag code.LinkNoPage = refl
number_tag code.PageTooLarge = refl
number_tag code.Foreign = refl

same_code : (c d : FaultCode) → code_number c ≡ code_number d → c ≡ d
same_code c d e = tag_one the_type (search rules) c d (omega (arith, number_tag c, number_tag d))

-- Faults

pub fault_order_total : IsTotalOrder fault_order
fault_order_total = then_total (on_total (λ (f : Fault). f.name) nat_list_cmp_total)
    (then_total (on_total (λ (f : Fault). f.line) nat_cmp_total)
    (then_total (on_total (λ (f : Fault). code_number f.code) nat_cmp_total)
    (on_total (λ (f : Fault). f.detail) nat_list_cmp_total)))

-- two orders in turn tie what both tie
tied_by_both : (first next : Ordering) → then_by first next ≡ Equal → (first ≡ Equal) × (next ≡ Equal)
tied_by_both Less next e = absurd (cc)
tied_by_both Equal next e = (refl, e)
tied_by_both Greater next e = absurd (cc)

abbrev fault_with : List ℕ → ℕ → FaultCode → List ℕ → Fault
fault_with name line code detail = record { name = name; line = line; code = code; detail = detail }

same_parts : (a b : Fault) → a.name ≡ b.name → a.line ≡ b.line → a.code ≡ b.code → a.detail ≡ b.detail → a ≡ b
same_parts a b name line code detail = ap (λ n. fault_with n a.line a.code a.detail) name
    ∙ ap (λ l. fault_with b.name l a.code a.detail) line
    ∙ ap (λ c. fault_with b.name b.line c a.detail) code
    ∙ ap (λ d. fault_with b.name b.line b.code d) detail

pub same_fault : (a b : Fault) → fault_order a b ≡ Equal → a ≡ b
same_fault a b e =
    let name = tied_by_both _ _ e in
    let line = tied_by_both _ _ name.1 in
    let code = tied_by_both _ _ line.1 in
    same_parts a b (same_from_equal a.name b.name name.0) (equal_number a.line b.line line.0)
    (same_code a.code b.code (equal_number _ _ code.0)) (same_from_equal a.detail b.detail code.1)
