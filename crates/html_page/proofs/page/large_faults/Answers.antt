use Rattle.std.proofs.Common.{[], ◌∷◌, ◌++◌, ◌∙◌}
use Rattle.html_page.proofs.page.large_faults.Goals as goal

pub returns : goal.returns
returns c =
    c.in_ok-push.ensures ∙ (λ i. (c.in_ok-all.ensures ∙ c.as_slice.ensures) i ++ c.in_ok-too_large.ensures i ∷ [])
