use Rattle.std.proofs.Common.{◌≡◌, ◌++◌, drop, Bor, List, ℕ}
use Rattle.std.specs.List.{flat_map}
use Rattle.ditaval_rules.specs.Verdict.{conditional_names}
use Rattle.flag_marks.specs.Marks.{marks_of_attribute}
use Rattle.flag_marks.proofs.element.push_everywhere.Given as goal

abbrev pub invariant-loop-name : goal.invariant-loop-name
invariant-loop-name l =
    l.texts ++ flat_map (λ (name : Bor (List ℕ)). marks_of_attribute l.table l.node.attributes name.now)
    (drop l.name-index l.name-items)
    ≡ l.fn.texts ++ flat_map (marks_of_attribute l.table l.node.attributes) conditional_names
