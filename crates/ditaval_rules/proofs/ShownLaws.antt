-- A test of lists of rules that are given as references.
use Rattle.std.specs.Prelude.{◌≡◌, ◌||◌, Bool, List, [], ◌∷◌}
use Rattle.std.specs.Borrow.{Bor}
use Rattle.std.specs.List.{list_any}
use Rattle.std.proofs.Common.{refl, ap}
use Rattle.dita_doc.specs.Shown.{shown}
use Rattle.dita_doc.specs.declared.content.Rule.{Rule}

pub any_shown : (p : List Rule → Bool) (rules : List (Bor (List Rule)))
    → list_any (λ (some : Bor (List Rule)). p some.now) rules ≡ list_any p (shown rules)
any_shown p [] = refl
any_shown p (some ∷ rules) = ap (λ any. p some.now || any) (any_shown p rules)
