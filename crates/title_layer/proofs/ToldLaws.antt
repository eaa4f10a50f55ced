-- What a layer tells once a question that was put got its answer.
use Rattle.std.proofs.Common.{◌≡◌, ℕ, List, Option, Some, IfSome, subst}

-- what holds of a title that may be known holds of one that is
pub title_held : (P : List ℕ → Type 0) (found : Option (List ℕ)) (text : List ℕ) → found ≡ Some text → IfSome found P
    → P text
title_held P found text is holds = subst (λ known. IfSome known P) is holds
