-- Following references keeps paths: what an element takes, and each range behind it, stand within a longer path.
use Rattle.std.specs.Prelude.{◌≡◌, ◌<◌, ◌||◌, ℕ, zero, suc, Bool, true, false, List, [], ◌∷◌, ◌++◌, Option, Some, None, All, length, nat_le, nat_lt, not, is_some, unwrap_or, codes, if◌then◌else◌, ◌&&◌}
use Rattle.std.specs.List.{list_any}
use Rattle.std.proofs.Common.{refl, ap, ap₂, ◌∙◌, append_assoc, arith, length-append}
use Rattle.std.proofs.lemmas.Bool.{cond_both, leb-false, or_from, or_parts}
use Rattle.std.proofs.lemmas.List.{length_push}
use Rattle.std.proofs.lemmas.List.Elements.{All-append, All-cons, All-nil, All-weaker}
use Rattle.std.proofs.lemmas.List.Folds.{list_any-append}
use Rattle.dita_doc.specs.declared.fault.Fault.{Fault}
use Rattle.dita_doc.specs.declared.fault.FaultCode.TheVariants as faults
use Rattle.dita_doc.proofs.Tests.{number_swaps, text_swaps}
use Rattle.map_spec.specs.Elements.{attribute, fault_at, is_special}
use Rattle.map_spec.specs.Written.{Element, Written, End, Chars, Node}
use Rattle.conref_spec.specs.Content.{Followed, Found, Place, ResolveInput, Sought, followed_from, followed_to, found_by, has_reference, is_place, resolve_depth_limit, path_limit, range_behind, range_by, refused_by, sought_by, taken, taken_or, unchanged, value_used, conkeyref_faults}
use Rattle.language_laws.specs.Paths.{AreDistinct, GoesOn, GoesOnIf, HasPaths, IsPath, IsRangeFrom}

-- Places

-- a test of two places has no order
place_swaps : (place other : Place) → is_place place other ≡ is_place other place
place_swaps place other = ap₂ ◌&&◌ (text_swaps place.doc other.doc) (number_swaps place.at other.at)

-- a place that is not on a path may be put behind it
pub distinct_behind : (path : List Place) (place : Place) → AreDistinct path → list_any (is_place place) path ≡ false
    → AreDistinct (path ++ place ∷ [])
distinct_behind [] place distinct new = (refl, tt)
distinct_behind (first ∷ path) place distinct new =
    let parts = or_parts (is_place place first) (list_any (is_place place) path) new in
    let other = place_swaps first place ∙ parts.0 in (
      list_any-append (is_place first) path (place ∷ []) ∙ or_from _ _ distinct.0 (or_from _ _ other refl),
      distinct_behind path place distinct.1 parts.1,
    )

-- What is not refused has passed the tests

-- where four tests in a row refuse nothing, the last two did not hold
tests_passed : {X : Type 0} (a b c d : Bool) (v w x y : X)
    → (if a then Some v else if b then Some w else if c then Some x else if d then Some y else None) ≡ None
    → (c ≡ false) × (d ≡ false)
tests_passed true b c d v w x y e = absurd (cc)
tests_passed false true c d v w x y e = absurd (cc)
tests_passed false false true d v w x y e = absurd (cc)
tests_passed false false false true v w x y e = absurd (cc)
tests_passed false false false false v w x y e = (refl, refl)

-- the place of a target
abbrev pub place_of : Found → Place
place_of target = record { doc = target.doc; at = target.standing.place }

-- the target of such a reference is not on the path, and the path has not reached its limit
pub not_refused : (value : List ℕ) (depth : ℕ) (path : List Place) (element : Element) (target : Found)
    → refused_by value depth path element target ≡ None
    → (list_any (is_place (place_of target)) path ≡ false) × (length path < path_limit)
not_refused value depth path element target passed =
    let other_type = not (is_special target.standing.whole.0 element) in
    let no_range = not (is_some (range_by target.standing (attribute (codes "conrefend") element))) in
    let end = unwrap_or (attribute (codes "conrefend") element) [] in
    let tests = tests_passed other_type no_range (list_any (is_place (place_of target)) path)
    (nat_le path_limit (length path) || nat_lt resolve_depth_limit depth) (fault_at element faults.ConrefType value)
    (fault_at element faults.RangeEnd end) (fault_at element faults.ConrefCycle value)
    (fault_at element faults.ConrefDepth value) passed in
    (tests.0, leb-false _ _ (or_parts _ (nat_lt resolve_depth_limit depth) tests.1).0)

-- Going on

-- a path with one target more goes on
on_by_one : (path : List Place) (place : Place) → GoesOn path (path ++ place ∷ [])
on_by_one path place = (place, [], refl)

-- what goes on from a path that goes on, or is that path, goes on too
on_further : (has_taken : Bool) (path longer last : List Place) → GoesOn path longer → GoesOnIf has_taken longer last
    → GoesOn path last
on_further true path longer last first further = (
  first.0,
  first.1 ++ further.0 ∷ further.1,
  further.2 ∙ ap (λ front. front ++ further.0 ∷ further.1) first.2 ∙ append_assoc path (first.0 ∷ first.1) _,
)
on_further false path longer last first same = (first.0, first.1, same ∙ first.2)

-- a path that goes on is longer
pub on_longer : (path longer : List Place) → GoesOn path longer → length path < length longer
on_longer path longer on = omega (arith, ap length on.2, length-append path (on.0 ∷ on.1))

-- Following references

-- an element that stays as it is
left_unchanged : (path : List Place) (element : Element) (inside : Written) (faults : List Fault) → IsPath path
    → HasPaths path (unchanged element inside path faults)
left_unchanged path element inside faults is =
    record { own = is; on = refl; ranges = All-nil (IsRangeFrom path) }

-- a range behind a path that goes on
range_on : (path longer : List Place) (nodes : Written) (around : List (List ℕ)) → IsPath longer → GoesOn path longer
    → All (IsRangeFrom path) (range_behind nodes around longer)
range_on path longer End around is on = All-nil (IsRangeFrom path)
range_on path longer (Chars text doc rest) around is on =
    All-cons (IsRangeFrom path) _ [] (is, on) (All-nil (IsRangeFrom path))
range_on path longer (Node element inside rest) around is on =
    All-cons (IsRangeFrom path) _ [] (is, on) (All-nil (IsRangeFrom path))

-- an element that takes from a target that was followed in turn
target_taken : (path longer : List Place) (element : Element) (around : List (List ℕ)) (written : Element)
    (range : Written) (before : List Fault) (target : Followed) → IsPath longer → GoesOn path longer → HasPaths longer target
    → HasPaths path (taken element around written range longer before target)
target_taken path longer element around written range before target is on has = record {
  own = has.own;
  on = on_further target.has_taken path longer target.path on has.on;
  ranges = All-append (IsRangeFrom path) target.ranges (range_behind range around longer)
      (All-weaker (IsRangeFrom longer) (IsRangeFrom path)
      (λ other from. (from.0, on_further true path longer other.path on from.1)) target.ranges has.ranges)
      (range_on path longer range around is on);
}

-- a function that follows references and gives this
abbrev Follows : (List Place → Element → Written → Followed) → Type 0
Follows follow = (path : List Place) (element : Element) (inside : Written) → IsPath path
    → HasPaths path (follow path element inside)

-- a target that was found, after the tests
or_refused : (follow : List Place → Element → Written → Followed) (value : List ℕ) (depth : ℕ) (path : List Place)
    (element : Element) (inside : Written) (before : List Fault) (target : Found) (refused : Option Fault)
    → Follows follow → IsPath path → refused_by value depth path element target ≡ refused
    → HasPaths path (taken_or follow path element inside before target refused)
or_refused follow value depth path element inside before target (Some fault) follows is e =
    left_unchanged path element inside (before ++ fault ∷ []) is
or_refused follow value depth path element inside before target None follows is e =
    let passed = not_refused value depth path element target e in
    let longer = path ++ place_of target ∷ [] in
    let goes_on : IsPath longer = record {
      distinct = distinct_behind path (place_of target) is.distinct passed.0;
      short = omega (arith, passed.1, length_push path (place_of target));
    } in
    target_taken path longer element _ target.standing.whole.0 _ before _ goes_on (on_by_one path (place_of target))
    (follows longer target.standing.whole.0 target.standing.whole.1 goes_on)

-- a reference, whether its target was found or not
to_target : (follow : List Place → Element → Written → Followed) (setting : ResolveInput) (depth : ℕ)
    (path : List Place)
    (element : Element) (inside : Written) (sought : Sought) (found : Option Found) → Follows follow → IsPath path
    → HasPaths path (followed_to follow setting depth path element inside sought found)
to_target follow setting depth path element inside sought None follows is = left_unchanged path element inside _ is
to_target follow setting depth path element inside sought (Some target) follows is =
    or_refused follow (value_used setting sought) depth path element inside
    (conkeyref_faults setting sought.conkeyref) target
    _ follows is refl

-- all that following gives stands within paths, with any number of steps
pub follows_from : (steps : ℕ) (setting : ResolveInput) (topic : List ℕ) (depth : ℕ)
    → Follows (followed_from steps setting topic depth)
unfolding followed_from
follows_from zero setting topic depth path element inside is = left_unchanged path element inside [] is
follows_from (suc steps) setting topic depth path element inside is =
    cond_both (has_reference (sought_by element)) _ _ (HasPaths path)
    (λ e. to_target (followed_from steps setting topic depth) setting depth path element inside (sought_by element)
    (found_by setting topic element (sought_by element)) (follows_from steps setting topic depth) is)
    (λ e. left_unchanged path element inside [] is)
