-- Headings by the depth of topics.
use Rattle.std.specs.Prelude.{◌≡◌, ◌+◌, ◌-◌, ◌<◌, ◌≤◌, ◌^◌, ℕ, [], ◌∷◌, ◌++◌, codes, min}
use Rattle.std.specs.Fmt.{decimal}
use Rattle.std.proofs.Common.{sym, ap, ◌∙◌, arith}
use Rattle.std.proofs.lemmas.Bool.Decides.{nat_tests}
use Rattle.std.proofs.lemmas.Fmt.{decimal_digit}
use Rattle.html_blocks.specs.Shown.{counted}
use Rattle.html_spec.specs.Blocks.{heading, level_of}

level_capped : (depth : ℕ) → level_of (counted depth) ≡ level_of depth
level_capped depth = grind (arith, nat_tests)

-- a depth that has 32 bits at most has the same heading
pub heading_capped : (depth : ℕ) → heading (counted depth) ≡ heading depth
heading_capped depth = ap (λ level. codes "h" ++ decimal level) (level_capped depth)

level_next : (depth : ℕ) → level_of (min (counted depth + 1) (2 ^ 32 - 1)) ≡ level_of (depth + 1)
level_next depth = grind (arith, nat_tests)

-- and so has the next
pub heading_next : (depth : ℕ) → heading (min (counted depth + 1) (2 ^ 32 - 1)) ≡ heading (depth + 1)
heading_next depth = ap (λ level. codes "h" ++ decimal level) (level_next depth)

-- by the level
pub heading_at : (depth level : ℕ) → level_of depth ≡ level → level < 10
    → codes "h" ++ (48 + level) ∷ [] ≡ heading depth
heading_at depth level is small = sym (ap (λ n. codes "h" ++ decimal n) is
    ∙ ap (λ digits. codes "h" ++ digits) (decimal_digit level small))

-- a depth from 6 on
pub six : (depth : ℕ) → 6 ≤ depth → level_of depth ≡ 6
six depth deep = grind (arith, nat_tests)
