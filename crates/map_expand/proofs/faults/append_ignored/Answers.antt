use Rattle.std.specs.Prelude.{◌≡◌, ◌++◌, List, Result, Ok, Err, OnOk}
use Rattle.std.proofs.Common.{ap, append_assoc, ◌∙◌}
use Rattle.map_expand.proofs.faults.append_ignored.Goals as goal

-- what two calls append one after the other
appended_both : {X E T : Type 0} (result : Result T E) (old between new first second : List X) → between ≡ old ++ first
    → OnOk result (new ≡ between ++ second) → OnOk result (new ≡ old ++ (first ++ second))
appended_both (Ok x) old between new first second one other =
    other ∙ ap (λ list. list ++ second) one ∙ append_assoc old first second
appended_both (Err e) old between new first second one other = tt

pub returns : goal.returns
returns c = appended_both c.append_ignored_by-2.result _ _ _ _ _ c.in_ok-append_ignored_by.ensures
    c.append_ignored_by-2.ensures
