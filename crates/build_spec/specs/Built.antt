-- What a build gives (own): its pages, the contents page last, and its faults; or why there are none.
use Rattle.std.specs.Prelude.{ℕ, List, []}
use Rattle.dita_doc.specs.declared.fault.Fault.{Fault}
use Rattle.dita_doc.specs.declared.plan.PlanStop.{PlanStop}

-- a page: its name and its bytes
abbrev pub Page : Type 0
Page = List ℕ × List ℕ

pub data BuildOutcome : Type 0 where
  Done : (pages : List Page) (faults : List Fault) → BuildOutcome
  Stopped : PlanStop → BuildOutcome
  TooLarge : (total : ℕ) → BuildOutcome

abbrev pub built_pages : BuildOutcome → List Page
built_pages (Done pages faults) = pages
built_pages (Stopped stop) = []
built_pages (TooLarge total) = []
