-- The search that remembers where nothing is found: what the scopes that are looked into still give, and for how many steps.
use Rattle.std.specs.Prelude.{◌≡◌, ◌+◌, ◌-◌, ◌*◌, ◌^◌, ◌<◌, ◌≤◌, ℕ, zero, suc, Bool, true, false, List, [], ◌∷◌, ◌++◌, Option, Some, None, cond, drop, length, nat_lt, option_map}
use Rattle.std.specs.BTreeMap.{is_at}
use Rattle.std.specs.BTreeSet.{BTreeSet, IsEmpty, Updates, contains}
use Rattle.std.specs.Borrow.{Bor}
use Rattle.std.specs.List.{list_any}
use Rattle.std.specs.Option.{option_or}
use Rattle.std.specs.Ordering.{nat_cmp}
use Rattle.std.proofs.Common.{append_assoc, refl, sym, ap, subst, ◌∙◌, arith}
use Rattle.std.proofs.lemmas.Bool.{false≢true}
use Rattle.std.proofs.lemmas.Bool.Decides.{nat_tests}
use Rattle.std.proofs.lemmas.List.{drop-drop, drop_all, length-drop}
use Rattle.dita_doc.proofs.Orders.{both_equal, equal_number, equal_test}
use Rattle.key_scopes.specs.declared.children.ChildName.{ChildName}
use Rattle.key_scopes.specs.declared.lookup.OpenScope.{OpenScope}
use Rattle.key_scopes.specs.declared.search.SearchStep.{SearchStep}
use Rattle.key_scopes.specs.Found.{own_of}
use Rattle.key_scopes.specs.Lookup.{AreDeadEnds, DeadEnd, EndsWith, dead_end_cmp}
use Rattle.key_scopes.specs.Rising.{by_names}
use Rattle.key_scopes.specs.Steps.{last_order, step_order}
use Rattle.key_scopes.specs.Table.{Table}
use Rattle.key_scopes.specs.Ways.{Way, next_way, way_in, way_of}
use Rattle.key_scopes.proofs.WayLaws.{behind_way, by_all_ways, by_way}
use native.Mathlib.Nat.{mul-le-mul_right}

-- What is left of a key

pub same_rest : (key one other : List ℕ) → EndsWith key one → EndsWith key other → length one ≡ length other → one ≡ other
same_rest key one other first second same =
    sym first ∙ ap (λ n. drop (length key - n) key) same ∙ second

pub ends_again : (key rest : List ℕ) (more : ℕ) → EndsWith key rest → EndsWith key (drop more rest)
ends_again key rest more is = by_length (nat_lt more (length rest)) refl
  where
    minus_none : (n : ℕ) → n - 0 ≡ n
    minus_none n = omega arith

    short : length rest ≤ length key
    short = omega (arith, ap length is, length-drop (length key - length rest) key)

    by_length : (a : Bool) → nat_lt more (length rest) ≡ a → EndsWith key (drop more rest)
    by_length true e =
        let few : more < length rest = grind (arith, nat_tests) in
        let left = length-drop more rest in
        let at : length key - length (drop more rest) ≡ (length key - length rest) + more = omega (arith, left, few, short) in
        ap (λ n. drop n key) at ∙ sym (drop-drop more (length key - length rest) key) ∙ ap (drop more) is
    by_length false e =
        let all : length rest ≤ more = grind (arith, nat_tests) in
        subst (EndsWith key) (sym (drop_all more rest all))
        (ap (λ n. drop n key) (minus_none (length key)) ∙ drop_all (length key) key (omega arith))

pub ends_itself : (key : List ℕ) → EndsWith key key
ends_itself key = ap (λ n. drop n key) (minus_same (length key))
  where
    minus_same : (n : ℕ) → n - n ≡ 0
    minus_same n = omega arith

-- the rest behind a name is one of its ends
pub step_rest : (scopes : List _) (own_at : ℕ → List ℕ → Option ℕ) (scope : ℕ) (key rest : List ℕ) (last : Option Way)
    (result : Option SearchStep) (step : SearchStep) → EndsWith key rest
    → option_map way_of result ≡ next_way scopes own_at scope rest last → result ≡ Some step → EndsWith key step.rest.now
step_rest scopes own_at scope key rest last result step is next some = by_found _ (sym (ap (option_map way_of) some) ∙ next)
  where
    by_found : (found : Option ChildName) → Some (way_of step) ≡ option_map (way_in rest) found → EndsWith key step.rest.now
    by_found None e = absurd (cc)
    by_found (Some name) e =
        let same : way_of step ≡ way_in rest name = cc in
        subst (EndsWith key) (sym (ap (λ (way : Way). way.rest) same)) (ends_again key rest (length name.name + 1) is)

-- Scopes that are looked into

-- behind this way
abbrev pub passed : OpenScope → SearchStep → OpenScope
passed entered step = record { scope = entered.scope; rest = entered.rest; last = Some step }

-- the scope of this way, before those in it
abbrev pub opened : SearchStep → OpenScope
opened step = record { scope = step.child; rest = step.rest; last = None }

-- Dead ends

same_place : (one other : DeadEnd) → is_at (dead_end_cmp one) other ≡ true → (one.0 ≡ other.0) × (one.1 ≡ other.1)
same_place one other at =
    let both = both_equal (nat_cmp one.0 other.0) (nat_cmp one.1 other.1)
    (equal_test (dead_end_cmp one other) at) in
    (equal_number one.0 other.0 both.0, equal_number one.1 other.1 both.1)

module _ (table : Table) (key : List ℕ) where
  abbrev pub found_for : List ℕ → ℕ → Option ℕ
  found_for rest scope = by_names table.scopes (own_of table) rest scope

  -- one more
  pub dead_end_more : (old new : BTreeSet DeadEnd) (scope : ℕ) (rest : List ℕ) → AreDeadEnds table key old
      → Updates dead_end_cmp old new (scope, length rest) true → EndsWith key rest → found_for rest scope ≡ None
      → AreDeadEnds table key new
  dead_end_more old new scope rest known updates ends none other left is has =
      by_place (is_at (dead_end_cmp (scope, length rest)) (other, length left)) refl
    where
      by_place : (a : Bool) → is_at (dead_end_cmp (scope, length rest)) (other, length left) ≡ a
          → found_for left other ≡ None
      by_place true e =
          let same = same_place (scope, length rest) (other, length left) e in
          ap (found_for left) (sym same.0) ∙ ap (λ r. found_for r scope) (sym (same_rest key rest left ends is same.1)) ∙ none
      by_place false e =
          known other left is (sym (ap (λ b. cond b true (contains dead_end_cmp old (other, length left))) e)
          ∙ sym (updates.0 (other, length left)) ∙ has)

  pub no_dead_ends : (ends : BTreeSet DeadEnd) → IsEmpty ends → AreDeadEnds table key ends
  no_dead_ends ends empty other left is has =
      absurd (false≢true (sym (ap (list_any (is_at (dead_end_cmp (other, length left)))) empty) ∙ has))

  -- Scopes that are looked into, each within the one before

  abbrev pub whole : OpenScope → Option ℕ
  whole entered = found_for entered.rest.now entered.scope

  -- by the ways that are left
  abbrev pub left : OpenScope → Option ℕ
  left entered = behind_way table.scopes (own_of table) entered.scope entered.rest.now (option_map way_of entered.last)

  -- what they still give, the last first
  abbrev pub still : List OpenScope → Option ℕ
  still [] = None
  still (entered ∷ inner) = option_or (still inner) (left entered)

  -- each gives what is still found in it and those behind it
  abbrev pub AreOpen : List OpenScope → Type 0
  AreOpen [] = Unit
  AreOpen (entered ∷ inner) = (whole entered ≡ still (entered ∷ inner)) × EndsWith key entered.rest.now × AreOpen inner

  pub still_same : (outer some others : List OpenScope) → still some ≡ still others
      → still (outer ++ some) ≡ still (outer ++ others)
  still_same [] some others same = same
  still_same (entered ∷ outer) some others same = ap (λ x. option_or x (left entered)) (still_same outer some others same)

  pub still_found : (outer some : List OpenScope) (node : ℕ) → still some ≡ Some node → still (outer ++ some) ≡ Some node
  still_found [] some node is = is
  still_found (entered ∷ outer) some node is = ap (λ x. option_or x (left entered)) (still_found outer some node is)

  pub still_without : (outer some : List OpenScope) → still some ≡ None → still (outer ++ some) ≡ still outer
  still_without [] some none = none
  still_without (entered ∷ outer) some none = ap (λ x. option_or x (left entered)) (still_without outer some none)

  pub open_last : (outer some : List OpenScope) → AreOpen (outer ++ some) → AreOpen some
  open_last [] some are = are
  open_last (entered ∷ outer) some are = open_last outer some are.2

  pub open_same : (outer some others : List OpenScope) → AreOpen (outer ++ some) → still some ≡ still others
      → AreOpen others → AreOpen (outer ++ others)
  open_same [] some others are same new = new
  open_same (entered ∷ outer) some others are same new = (
    are.0 ∙ ap (λ x. option_or x (left entered)) (still_same outer some others same),
    are.1,
    open_same outer some others are.2 same new,
  )

  pub open_without : (outer some : List OpenScope) → AreOpen (outer ++ some) → still some ≡ None → AreOpen outer
  open_without [] some are none = tt
  open_without (entered ∷ outer) some are none = (
    are.0 ∙ ap (λ x. option_or x (left entered)) (still_without outer some none),
    are.1,
    open_without outer some are.2 none,
  )

  -- so a key is found in a scope, of which these are looked into
  abbrev pub LooksInto : ℕ → List OpenScope → Type 0
  LooksInto scope some = (found_for key scope ≡ still some) × AreOpen some

  pub looks_first : (scope : ℕ) (rest : Bor (List ℕ)) → rest.now ≡ key
      → LooksInto scope (record { scope = scope; rest = rest; last = None } ∷ [])
  looks_first scope rest same =
      let all = by_all_ways table.scopes (own_of table) scope rest.now in
      (ap (λ r. found_for r scope) (sym same) ∙ all, (all, subst (EndsWith key) (sym same) (ends_itself key), tt))

  module _ (scope : ℕ) (outer : List OpenScope) (entered : OpenScope)
      (looks : LooksInto scope (outer ++ entered ∷ [])) where
    pub none_within : left entered ≡ None → whole entered ≡ None
    none_within none = (open_last outer (entered ∷ []) looks.1).0 ∙ none

    pub looks_without : left entered ≡ None → LooksInto scope outer
    looks_without none =
        (looks.0 ∙ still_without outer (entered ∷ []) none, open_without outer (entered ∷ []) looks.1 none)

    pub entered_ends : EndsWith key entered.rest.now
    entered_ends = (open_last outer (entered ∷ []) looks.1).1

    module _ (step : SearchStep) (next : left entered
        ≡ option_or (by_way table.scopes (own_of table) (way_of step)) (left (passed entered step))) where
      pub looks_found : (node : ℕ) → own_of table step.child step.rest.now ≡ Some node → found_for key scope ≡ Some node
      looks_found node own =
          looks.0 ∙ still_found outer (entered ∷ []) node (next
          ∙ ap (λ x. option_or (option_or x (found_for step.rest.now step.child)) (left (passed entered step))) own)

      into_step : own_of table step.child step.rest.now ≡ None
          → left entered ≡ option_or (found_for step.rest.now step.child) (left (passed entered step))
      into_step own = next
          ∙ ap (λ x. option_or (option_or x (found_for step.rest.now step.child)) (left (passed entered step))) own

      pub looks_passed : own_of table step.child step.rest.now ≡ None → found_for step.rest.now step.child ≡ None
          → LooksInto scope (outer ++ passed entered step ∷ [])
      looks_passed own none =
          let same = into_step own ∙ ap (λ x. option_or x (left (passed entered step))) none in
          let last = open_last outer (entered ∷ []) looks.1 in (
            looks.0 ∙ still_same outer (entered ∷ []) (passed entered step ∷ []) same,
            open_same outer (entered ∷ []) (passed entered step ∷ []) looks.1 same (last.0 ∙ same, last.1, tt),
          )

      pub looks_opened : own_of table step.child step.rest.now ≡ None → EndsWith key step.rest.now
          → LooksInto scope ((outer ++ passed entered step ∷ []) ++ opened step ∷ [])
      looks_opened own ends =
          let all = by_all_ways table.scopes (own_of table) step.child step.rest.now in
          let same : still (entered ∷ []) ≡ still (passed entered step ∷ opened step ∷ []) =
          into_step own ∙ ap (λ x. option_or x (left (passed entered step))) all in
          let last = open_last outer (entered ∷ []) looks.1 in
          subst (LooksInto scope) (sym (append_assoc outer (passed entered step ∷ []) (opened step ∷ []))) (
            looks.0 ∙ still_same outer (entered ∷ []) (passed entered step ∷ opened step ∷ []) same,
            open_same outer (entered ∷ []) (passed entered step ∷ opened step ∷ []) looks.1 same
                (last.0 ∙ same, last.1, (all, ends, tt)),
          )

-- How many steps are left at most

abbrev pub unit : ℕ → ℕ
unit zero = 1
unit (suc length) = 2 ^ 98 * unit length

abbrev pub weight : OpenScope → ℕ
weight entered = (2 ^ 97 - last_order entered.last) * unit (length entered.rest.now)

abbrev pub steps_left : List OpenScope → ℕ
steps_left [] = 0
steps_left (entered ∷ inner) = weight entered + 1 + steps_left inner

steps_append : (some others : List OpenScope) → steps_left (some ++ others) ≡ steps_left some + steps_left others
steps_append [] others = omega arith
steps_append (entered ∷ some) others = omega (arith, steps_append some others)

unit_more : (n : ℕ) → 1 ≤ unit n
unit_more zero = omega arith
unit_more (suc n) = omega (arith, unit_more n)

unit_grows : (few many : ℕ) → few < many → 2 ^ 98 * unit few ≤ unit many
unit_grows few zero less = absurd (omega (arith, less))
unit_grows few (suc many) less =
    by_test (λ below. unit_grows few many below) (nat_lt few many) refl
  where
    by_test : (few < many → 2 ^ 98 * unit few ≤ unit many) → (a : Bool) → nat_lt few many ≡ a
        → 2 ^ 98 * unit few ≤ unit (suc many)
    by_test grows true e =
        let below : few < many = grind (arith, nat_tests) in
        omega (arith, grows below, unit_more many)
    by_test grows false e =
        let past : many ≤ few = grind (arith, nat_tests) in
        let is : few ≡ many = omega (arith, less, past) in
        subst (λ n. 2 ^ 98 * unit few ≤ 2 ^ 98 * unit n) is (omega arith)

-- behind a later way less is left
weight_less : (left few many : ℕ) → left < many → left * few + few ≤ many * few
weight_less left few many less = omega (arith, mul-le-mul_right few (suc_below left many less))
  where
    suc_below : (a b : ℕ) → a < b → suc a ≤ b
    suc_below a b below = omega (arith, below)

passed_less : (entered : OpenScope) (step : SearchStep) → last_order entered.last < step_order step → step_order step < 2 ^ 97
    → (2 ^ 97 - step_order step) * unit (length entered.rest.now) + unit (length entered.rest.now) ≤ weight entered
passed_less entered step behind low =
    weight_less (2 ^ 97 - step_order step) (unit (length entered.rest.now)) (2 ^ 97 - last_order entered.last)
    (omega (arith, behind, low))

opened_least : (rest : List ℕ) (many : ℕ) → length rest < many → (2 ^ 97 - 0) * unit (length rest) + 2 ≤ unit many
opened_least rest many less = omega (arith, unit_grows (length rest) many less, unit_more (length rest))

pub steps_popped : (outer : List OpenScope) (entered : OpenScope) → steps_left outer < steps_left (outer ++ entered ∷ [])
steps_popped outer entered = omega (arith, steps_append outer (entered ∷ []))

module _ (outer : List OpenScope) (entered : OpenScope) (step : SearchStep)
    (behind : last_order entered.last < step_order step) (low : step_order step < 2 ^ 97) where
  pub steps_passed : steps_left (outer ++ passed entered step ∷ []) < steps_left (outer ++ entered ∷ [])
  steps_passed = omega (
    arith,
    steps_append outer (passed entered step ∷ []),
    steps_append outer (entered ∷ []),
    passed_less entered step behind low,
    unit_more (length entered.rest.now),
  )

  pub steps_opened : length step.rest.now < length entered.rest.now
      → steps_left ((outer ++ passed entered step ∷ []) ++ opened step ∷ []) < steps_left (outer ++ entered ∷ [])
  steps_opened shorter = omega (
    arith,
    steps_append (outer ++ passed entered step ∷ []) (opened step ∷ []),
    steps_append outer (passed entered step ∷ []),
    steps_append outer (entered ∷ []),
    passed_less entered step behind low,
    opened_least step.rest.now (length entered.rest.now) shorter,
  )
