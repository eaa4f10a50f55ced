-- What a rule is for: an attribute and a token, each of which may be missing (own); and tables of rules by it.
use Rattle.std.specs.Prelude.{◌≡◌, ℕ, Bool, true, false, List, Option, Some, None, find, option_map}
use Rattle.std.specs.List.Sorted.{IsSortedByKey, IsPartitionPoint}
use Rattle.std.specs.Option.{option_cmp, option_or}
use Rattle.std.specs.Ordering.{nat_cmp, ordering_then, is_eq, is_lt}
use Rattle.std.specs.Cmp.Lexicographic.{slice_cmp}
use Rattle.std.specs.declared.cmp.Ordering.{Ordering}
use Rattle.dita_doc.specs.declared.content.Action.{Action}
use Rattle.dita_doc.specs.declared.content.Rule.{Rule}

abbrev pub Aim : Type 0
Aim = Option (List ℕ) × Option (List ℕ)

-- of a default rule the token does not count
abbrev pub val_behind : Option (List ℕ) → Option (List ℕ) → Option (List ℕ)
val_behind None val = None
val_behind (Some att) val = val

abbrev pub aim_of : Rule → Aim
aim_of rule = (rule.att, val_behind rule.att rule.val)

-- the order of a table
abbrev pub part_cmp : Option (List ℕ) → Option (List ℕ) → Ordering
part_cmp one other = option_cmp (slice_cmp nat_cmp) one other

abbrev pub aim_cmp : Aim → Aim → Ordering
aim_cmp one other = ordering_then (part_cmp one.0 other.0) (part_cmp one.1 other.1)

abbrev pub is_for : Aim → Rule → Bool
is_for aim rule = is_eq (aim_cmp (aim_of rule) aim)

abbrev pub is_below : Aim → Rule → Bool
is_below aim rule = is_lt (aim_cmp (aim_of rule) aim)

abbrev pub AreSorted : List Rule → Type 0
AreSorted rules = IsSortedByKey aim_of aim_cmp rules

-- so many rules stand below this
abbrev pub IsPlaceFor : Aim → List Rule → ℕ → Type 0
IsPlaceFor aim rules place =
    IsPartitionPoint (λ rule. is_below aim rule ≡ true) (λ rule. is_below aim rule ≡ false) rules place

-- the action of the first rule for this
abbrev pub first_action : Aim → List Rule → Option Action
first_action aim rules = option_map (λ (rule : Rule). rule.action) (find (is_for aim) rules)

-- the action for a token: that for the token, else that for the attribute, else the default
abbrev pub deciding_action : List Rule → List ℕ → List ℕ → Option Action
deciding_action rules att token =
    option_or (first_action (Some att, Some token) rules)
    (option_or (first_action (Some att, None) rules) (first_action (None, None) rules))

-- the rules in the order of a table; what is for the same as a rule stands in its old order
abbrev pub IsTableOf : List Rule → List Rule → Type 0
IsTableOf sorted rules =
    AreSorted sorted × ((rule : Rule) → find (is_for (aim_of rule)) sorted ≡ find (is_for (aim_of rule)) rules)
