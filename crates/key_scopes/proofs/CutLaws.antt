-- A key that is cut at its dots: of the names before those up to one the first way that may hold something.
use Rattle.std.specs.Prelude.{◌≡◌, ◌+◌, ◌^◌, ◌<◌, ◌≤◌, ◌==◌, ◌&&◌, ◌⊎◌, ℕ, Bool, true, false, not, List, [], ◌∷◌, Option, Some, None, bytes_eq, drop, filter, find, length, option_map, take, if◌then◌else◌}
use Rattle.std.specs.List.{All}
use Rattle.std.specs.Option.{option_or}
use Rattle.std.proofs.Common.{refl, sym, ap, ◌∙◌, arith, get_or, inl, inr}
use Rattle.std.proofs.lemmas.Bool.{not-false}
use Rattle.std.proofs.lemmas.List.{length-take}
use Rattle.std.proofs.lemmas.List.Elements.{All-filter, All-head, All-tail, All-weaker, filter_passes}
use Rattle.dita_doc.specs.declared.plan.Scope.{Scope}
use Rattle.dita_doc.proofs.Tests.{and_assoc, and_swap, same_text, second_holds}
use Rattle.key_scopes.specs.declared.children.ChildName.{ChildName}
use Rattle.key_scopes.specs.declared.search.SearchStep.{SearchStep}
use Rattle.key_scopes.specs.Children.{AreChildNames, all_names, is_named, those_named}
use Rattle.key_scopes.specs.Steps.{name_order, step_order}
use Rattle.key_scopes.specs.Ways.{AreInTurn, Way, is_behind, is_earlier, is_later, leads, may_hold, next_way, way_in}
use Rattle.key_scopes.proofs.DotLaws.{all_each, find_same, first_at_end, first_behind_longest, first_fit, first_found_at, first_none, first_past, first_still}
use Rattle.key_scopes.proofs.FirstLaws.{find_filter, find_is}
use Rattle.key_scopes.proofs.TurnLaws.{all_in_turn, filter_in_turn, is_not_behind, later_cases, later_trans}

-- The first of some names that stand up to a way

abbrev if_earlier : Option Way → Option ChildName → Option ChildName
if_earlier until None = None
if_earlier until (Some name) = if is_earlier until name then Some name else None

filter_none : (p : ChildName → Bool) (names : List ChildName) → All (λ n. p n ≡ false) names → filter p names ≡ []
filter_none p [] none = refl
filter_none p (name ∷ names) none =
    rw (All-head (λ n. p n ≡ false) name names none)
    (filter_none p names (All-tail (λ n. p n ≡ false) name names none))

later_out : (until : Option Way) (name other : ChildName) → is_earlier until name ≡ false
    → is_later name.child name.rank other ≡ true → is_earlier until other ≡ false
later_out None name other out later = cc
later_out (Some way) name other out later =
    ap not (later_trans way.child way.rank name other (not-false (is_later way.child way.rank name) out) later)

first_until : (until : Option Way) (p : ChildName → Bool) (names : List ChildName) → AreInTurn names
    → find p (filter (is_earlier until) names) ≡ if_earlier until (find p names)
first_until until p [] turn = refl
first_until until p (name ∷ names) turn =
    by_two (first_until until p names turn.1) (p name) (is_earlier until name) refl refl
  where
    by_two : find p (filter (is_earlier until) names) ≡ if_earlier until (find p names)
        → (a b : Bool) → p name ≡ a → is_earlier until name ≡ b
        → find p (filter (is_earlier until) (name ∷ names)) ≡ if_earlier until (find p (name ∷ names))
    by_two behind true true e f = simp (e, f) refl
    by_two behind true false e f =
        let none : filter (is_earlier until) names ≡ [] = filter_none (is_earlier until) names
        (All-weaker (λ n. is_later name.child name.rank n ≡ true) (λ n. is_earlier until n ≡ false)
        (λ n later. later_out until name n f later) names turn.0) in
        simp (e, f, none) refl
    by_two behind false true e f = simp (e, f) behind
    by_two behind false false e f = simp (e, f) behind

-- The loop over the dots

module _ (scopes : List Scope) (own_at : ℕ → List ℕ → Option ℕ) (scope : ℕ) (key : List ℕ) (last : Option Way) where
  abbrev holding : ChildName → Bool
  holding name = may_hold own_at name.child (way_in key name).rest && is_behind last name

  abbrev pub first_way : ℕ → Option Way
  first_way dots = option_map (way_in key) (first_fit scopes scope key holding dots)

  -- the names before a dot
  abbrev pub named_there : ℕ → List ChildName
  named_there dot = those_named scope (take dot key) (all_names scopes)

  abbrev pub holds_there : ℕ → ChildName → Bool
  holds_there dot name = may_hold own_at name.child (drop (dot + 1) key)

  -- behind the last way, and not behind the first one so far
  abbrev pub left_there : ℕ → List ChildName
  left_there dot = filter (is_earlier (first_way dot)) (filter (is_behind last) (named_there dot))

  pub way_none : None ≡ first_way 0
  way_none = first_none scopes scope key holding

  pub way_still : (dot d : ℕ) → (get_or key dot d ≡ 46 → true ≡ false) → first_way dot ≡ first_way (dot + 1)
  way_still dot d other = sym (ap (option_map (way_in key)) (first_still scopes scope key holding dot d other))

  pub named_in_turn : (dot : ℕ) → AreInTurn (named_there dot)
  named_in_turn dot = filter_in_turn (is_named scope (take dot key)) (all_names scopes) (all_in_turn scopes)

  rest_there : (dot : ℕ) → dot < length key → All (λ n. (way_in key n).rest ≡ drop (dot + 1) key) (named_there dot)
  rest_there dot within =
      All-weaker (λ n. is_named scope (take dot key) n ≡ true) (λ n. (way_in key n).rest ≡ drop (dot + 1) key)
      (λ n named.
      let same = same_text n.name (take dot key) (second_holds (n.parent == scope) (bytes_eq n.name (take dot key)) named) in
      let long : length n.name ≡ dot = ap length same ∙ omega (arith, length-take dot key) in
      ap (λ k. drop (k + 1) key) long)
      (named_there dot) (filter_passes (is_named scope (take dot key)) (all_names scopes))

  found_there : (dot : ℕ) → dot < length key
      → find holding (named_there dot) ≡ find (holds_there dot) (filter (is_behind last) (named_there dot))
  found_there dot within =
      find_same holding (λ n. is_behind last n && holds_there dot n) (named_there dot)
      (All-weaker (λ n. (way_in key n).rest ≡ drop (dot + 1) key)
      (λ n. holding n ≡ (is_behind last n && holds_there dot n))
      (λ n rest. ap (λ left. may_hold own_at n.child left && is_behind last n) rest
      ∙ and_swap (holds_there dot n) (is_behind last n))
      (named_there dot) (rest_there dot within))
      ∙ sym (find_filter (holds_there dot) (is_behind last) (named_there dot))

  -- one more dot
  way_more : (dot d : ℕ) → dot < length key → get_or key dot d ≡ 46
      → option_or (option_map (way_in key) (find (holds_there dot) (left_there dot))) (first_way dot)
      ≡ first_way (dot + 1)
  way_more dot d within is =
      ap (λ one. option_or (option_map (way_in key) one) (first_way dot))
      (first_until (first_way dot) (holds_there dot) (filter (is_behind last) (named_there dot))
      (filter_in_turn (is_behind last) (named_there dot) (named_in_turn dot))
      ∙ ap (if_earlier (first_way dot)) (sym (found_there dot within)))
      ∙ by_found (find holding (named_there dot)) refl
    where
      same_test : (first : Option ChildName) (name : ChildName)
          → is_not_behind first name ≡ is_earlier (option_map (way_in key) first) name
      same_test None name = refl
      same_test (Some first) name = refl

      by_found : (found : Option ChildName) → find holding (named_there dot) ≡ found
          → option_or (option_map (way_in key) (if_earlier (first_way dot) found)) (first_way dot) ≡ first_way (dot + 1)
      by_found None e = sym (ap (option_map (way_in key)) (first_past scopes scope key holding dot d within is e))
      by_found (Some name) e =
          by_test (is_earlier (first_way dot) name) refl
        where
          by_test : (a : Bool) → is_earlier (first_way dot) name ≡ a
              → option_or (option_map (way_in key) (if a then Some name else None)) (first_way dot)
              ≡ first_way (dot + 1)
          by_test a f = choose a
              ∙ ap (λ b. option_map (way_in key) (if b then Some name else first_fit scopes scope key holding dot))
              (sym (same_test (first_fit scopes scope key holding dot) name ∙ f))
              ∙ sym (ap (option_map (way_in key)) (first_found_at scopes scope key holding dot d name within is e))
            where
              choose : (a : Bool) → option_or (option_map (way_in key) (if a then Some name else None)) (first_way dot)
                  ≡ option_map (way_in key) (if a then Some name else first_fit scopes scope key holding dot)
              choose true = refl
              choose false = refl

  -- a name that is found there
  pub found_left : (P : ChildName → Type 0) (dot : ℕ) (name : ChildName)
      → All P (filter (is_behind last) (named_there dot))
      → find (holds_there dot) (left_there dot) ≡ Some name → P name
  found_left P dot name all found =
      (find_is P (holds_there dot) (left_there dot) name found
      (All-filter (is_earlier (first_way dot)) P (filter (is_behind last) (named_there dot)) all)).0

  pub way_found : (dot d : ℕ) (name : ChildName) (rest : List ℕ) (first : Option Way) → dot < length key
      → get_or key dot d ≡ 46 → find (holds_there dot) (left_there dot) ≡ Some name → rest ≡ drop (dot + 1) key
      → first ≡ Some (record { child = name.child; rank = name.rank; rest = rest }) → first ≡ first_way (dot + 1)
  way_found dot d name rest first within is found cut same =
      same
      ∙ ap (λ left. Some (record { child = name.child; rank = name.rank; rest = left }))
      (cut ∙ sym (found_left (λ n. (way_in key n).rest ≡ drop (dot + 1) key) dot name
      (All-filter (is_behind last) (λ n. (way_in key n).rest ≡ drop (dot + 1) key) (named_there dot)
      (rest_there dot within)) found))
      ∙ ap (λ one. option_or (option_map (way_in key) one) (first_way dot)) (sym found)
      ∙ way_more dot d within is

  pub way_not_found : (dot d : ℕ) (first : Option Way) → dot < length key → get_or key dot d ≡ 46
      → find (holds_there dot) (left_there dot) ≡ None → first ≡ first_way dot → first ≡ first_way (dot + 1)
  way_not_found dot d first within is none same =
      same ∙ ap (λ one. option_or (option_map (way_in key) one) (first_way dot)) (sym none) ∙ way_more dot d within is

  whole : option_map (way_in key) (find (λ n. leads scope key n && holding n) (all_names scopes))
      ≡ next_way scopes own_at scope key last
  whole = ap (option_map (way_in key)) (find_same (λ n. leads scope key n && holding n)
      (λ n. leads scope key n && may_hold own_at n.child (way_in key n).rest && is_behind last n) (all_names scopes)
      (all_each (λ n. (leads scope key n && holding n)
      ≡ (leads scope key n && may_hold own_at n.child (way_in key n).rest && is_behind last n)) (all_names scopes)
      (λ n. and_assoc (leads scope key n) (may_hold own_at n.child (way_in key n).rest) (is_behind last n))))

  pub way_at_end : (dots : ℕ) → length key ≤ dots → first_way dots ≡ next_way scopes own_at scope key last
  way_at_end dots end = ap (option_map (way_in key)) (first_at_end scopes scope key holding dots end) ∙ whole

  pub way_past_longest : (names : List ChildName) (longest dots : ℕ) → AreChildNames scopes names longest
      → longest < dots → first_way dots ≡ next_way scopes own_at scope key last
  way_past_longest names longest dots are past =
      ap (option_map (way_in key)) (first_behind_longest scopes scope key holding names longest dots are past) ∙ whole

-- The number of a name behind a way is higher

pub later_higher : (step : SearchStep) (name : ChildName) → step.rank < 2 ^ 64
    → is_later step.child step.rank name ≡ true → step_order step < name_order name
later_higher step name low later = by_case (later_cases step.child step.rank name later)
  where
    by_case : (step.child < name.child) ⊎ ((step.child ≡ name.child) × (step.rank < name.rank))
        → step_order step < name_order name
    by_case (inl less) = omega (arith, less, low)
    by_case (inr same) = omega (arith, same.0, same.1)

pub all_higher : (step : SearchStep) (names : List ChildName)
    → ((name : ChildName) → is_later step.child step.rank name ≡ true → step_order step < name_order name)
    → All (λ name. step_order step < name_order name) (filter (is_later step.child step.rank) names)
all_higher step names higher =
    All-weaker (λ n. is_later step.child step.rank n ≡ true) (λ n. step_order step < name_order n) higher
    (filter (is_later step.child step.rank) names) (filter_passes (is_later step.child step.rank) names)
