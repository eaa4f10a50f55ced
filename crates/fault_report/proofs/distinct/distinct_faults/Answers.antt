use Rattle.std.specs.Ordering.{eq_by_cmp, is_lt}
use Rattle.std.proofs.Common.{◌≡◌, Bor, rules}
use Rattle.std.proofs.lemmas.Fn.{always_returns_same, dedup_same}
use Rattle.std.proofs.lemmas.List.Sorted.{ranks_by}
use Rattle.dita_doc.specs.declared.fault.Fault.{Fault}
use Rattle.fault_report.specs.Report.{fault_order}
use Rattle.fault_report.proofs.OrderLaws.{fault_order_total}
use Rattle.fault_report.proofs.ReportLaws.{seen_order, report_of_sorted}
use Rattle.fault_report.proofs.distinct.distinct_faults.Goals as goal

pub returns : goal.returns
returns c =
    let seen = λ (fault : Bor Fault). fault.now in
    let sorted = c.sort_unstable_by.ensures.sorted _ (ranks_by fault_order_total seen)
    (always_returns_same _ (λ a r. is_lt r ≡ is_lt (fault_order a.0.now.now a.1.0.now.now)) _
    (λ a r f k. search rules))
    in
    let is = dedup_same _ (eq_by_cmp (seen_order seen)) _ (λ x y b f u v k. search rules) _ _
    c.dedup_by.ensures.filtered
    in
    rw is (report_of_sorted seen _ _ _ c.in_ok-distinct.ensures c.sort_unstable_by.ensures.permutation sorted)
