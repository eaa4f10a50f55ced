-- More steps than following references takes change nothing: each target makes the path longer, and a path has a limit.
use Rattle.std.specs.Prelude.{◌≡◌, ◌≤◌, ◌<◌, ◌+◌, ◌∷◌, ◌++◌, ℕ, zero, suc, Bool, true, false, List, [], Option, Some, None, All, length, if◌then◌else◌}
use Rattle.std.proofs.Common.{refl, ap, ap₂, arith}
use Rattle.std.proofs.lemmas.List.{length_push}
use Rattle.std.proofs.lemmas.List.Elements.{All-head, All-tail}
use Rattle.dita_doc.specs.declared.fault.Fault.{Fault}
use Rattle.map_spec.specs.Judged.{group_faults}
use Rattle.map_spec.specs.Written.{Element, Written, End, Chars, Node}
use Rattle.conref_spec.specs.Content.{ContentAround, Followed, Found, Made, Place, Range, Resolve, ResolveInput, Sought, around_for, declared_there, element_made, element_resolved, followed, followed_from, followed_to, found_by, goes, has_reference, conkeyref_faults, made_beside, made_of, made_with, nothing_made, path_limit, ranges_made, refused_by, resolved_among, resolved_from, sought_by, taken, taken_or, text_made, around_within, unchanged, value_used}
use Rattle.language_laws.specs.Paths.{GoesOnIf, HasPaths, IsPath, IsRangeFrom}
use Rattle.language_laws.specs.Steps.{FollowedIsWhole, ResolvedIsWhole}
use Rattle.language_laws.proofs.ChoiceLaws.{both_same}
use Rattle.language_laws.proofs.PathLaws.{follows_from, not_refused, on_longer, place_of}

-- Following references

-- two functions follow references alike from a path with one target more
abbrev FollowAlike : List Place → (List Place → Element → Written → Followed)
    → (List Place → Element → Written → Followed) → Type 0
FollowAlike path follow other = (longer : List Place) (element : Element) (inside : Written)
    → length longer ≤ path_limit → length longer ≡ length path + 1
    → follow longer element inside ≡ other longer element inside

-- an element takes the same from its target by two functions that follow alike
or_refused_same : (follow other : List Place → Element → Written → Followed) (value : List ℕ) (depth : ℕ)
    (path : List Place) (element : Element) (inside : Written) (before : List Fault) (target : Found)
    (refused : Option Fault) → FollowAlike path follow other → refused_by value depth path element target ≡ refused
    → taken_or follow path element inside before target refused
    ≡ taken_or other path element inside before target refused
or_refused_same follow other value depth path element inside before target (Some fault) same e = refl
or_refused_same follow other value depth path element inside before target None same e =
    let passed = not_refused value depth path element target e in
    let longer = path ++ place_of target ∷ [] in
    let more = length_push path (place_of target) in
    ap (taken element _ target.standing.whole.0 _ longer before)
    (same longer target.standing.whole.0 target.standing.whole.1 (omega (arith, passed.1)) more)

-- a reference gives the same by two functions that follow alike
to_target_same : (follow other : List Place → Element → Written → Followed) (setting : ResolveInput) (depth : ℕ)
    (path : List Place) (element : Element) (inside : Written) (sought : Sought) (found : Option Found)
    → FollowAlike path follow other → followed_to follow setting depth path element inside sought found
    ≡ followed_to other setting depth path element inside sought found
to_target_same follow other setting depth path element inside sought None same = refl
to_target_same follow other setting depth path element inside sought (Some target) same =
    or_refused_same follow other (value_used setting sought) depth path element inside
    (conkeyref_faults setting sought.conkeyref) target _ same refl

-- two ways of following are one if each has a step, and more steps than targets are left to the limit
followed_same : (n m : ℕ) (setting : ResolveInput) (topic : List ℕ) (depth : ℕ) (path : List Place) (element : Element)
    (inside : Written) → 0 < n → 0 < m → path_limit < n + length path → path_limit < m + length path
    → followed_from n setting topic depth path element inside ≡ followed_from m setting topic depth path element inside
unfolding followed_from
followed_same zero m setting topic depth path element inside some more first second = absurd (omega arith)
followed_same (suc n) zero setting topic depth path element inside some more first second = absurd (omega arith)
followed_same (suc n) (suc m) setting topic depth path element inside some more first second =
    ap (λ found. if has_reference (sought_by element) then found else unchanged element inside path [])
    (to_target_same (followed_from n setting topic depth) (followed_from m setting topic depth) setting depth path
    element inside (sought_by element) (found_by setting topic element (sought_by element))
    (λ longer target within limit long. followed_same n m setting topic depth longer target within (omega arith)
    (omega arith) (omega arith) (omega arith)))

-- following has as many steps as it takes
pub followed_is_whole : FollowedIsWhole
followed_is_whole setting topic depth more path element inside =
    followed_same (path_limit + 1 + more) (path_limit + 1) setting topic depth path element inside (omega arith)
    (omega arith) (omega arith) (omega arith)

-- Resolving

-- two functions resolve nodes alike within longer paths
abbrev ResolveAlike : List Place → Resolve → Resolve → Type 0
ResolveAlike path resolve other = (is_range : Bool) (around : ContentAround) (depth : ℕ) (longer : List Place) (nodes : Written)
    → IsPath longer → length path < length longer
    → resolve is_range around depth longer nodes ≡ other is_range around depth longer nodes

-- the path of what was taken is longer
taken_longer : (has_taken : Bool) (path found : List Place) → GoesOnIf has_taken path found → has_taken ≡ true
    → length path < length found
taken_longer true path found on has = on_longer path found on
taken_longer false path found on has = absurd (cc)

-- ranges within longer paths are made alike by two functions that resolve alike
ranges_same : (resolve other : Resolve) (around : ContentAround) (depth : ℕ) (path : List Place) (ranges : List Range)
    → ResolveAlike path resolve other → All (IsRangeFrom path) ranges
    → ranges_made resolve around depth ranges ≡ ranges_made other around depth ranges
ranges_same resolve other around depth path [] same from = refl
ranges_same resolve other around depth path (range ∷ ranges) same from =
    let first = All-head (IsRangeFrom path) range ranges from in
    ap₂ made_beside (same true (declared_there range.declared around) depth range.path range.nodes first.0 (on_longer path range.path first.1))
    (ranges_same resolve other around depth path ranges same (All-tail (IsRangeFrom path) range ranges from))

-- so is what an element takes, or its own content where it takes nothing
made_same : (resolve other : Resolve) (setting : ResolveInput) (is_range : Bool) (around : ContentAround) (depth : ℕ)
    (path : List Place) (own own_too : ContentAround → Made) (found : Followed) → ResolveAlike path resolve other
    → HasPaths path found → ((here : ContentAround) → own here ≡ own_too here)
    → made_of resolve setting is_range around depth own found ≡ made_of other setting is_range around depth own_too found
made_same resolve other setting is_range around depth path own own_too found same follows own_same =
    both_same found.has_taken _ _ _ _
    (λ has. ap (λ content. made_with (group_faults around.declared found.element) (if goes setting around.declared found.element
    then record nothing_made { count = 1 } else element_made is_range around.declared found.element content))
    (same false (declared_there found.declared (around_within is_range found.element around)) (depth + 1) found.path
    found.content follows.own
    (taken_longer found.has_taken path found.path follows.on has)))
    (λ has. ap (element_made is_range around.declared found.element)
    (own_same (around_within is_range found.element around)))

-- so is a whole element
element_same : (resolve other : Resolve) (setting : ResolveInput) (is_range : Bool) (around : ContentAround) (depth : ℕ)
    (path : List Place) (element : Element) (inside : Written) (own own_too : ContentAround → Made)
    → ResolveAlike path resolve other → IsPath path → ((here : ContentAround) → own here ≡ own_too here)
    → element_resolved resolve setting
    (record { is_range = is_range; around = around; depth = depth; path = path }) element inside own
    ≡ element_resolved other setting
    (record { is_range = is_range; around = around; depth = depth; path = path }) element inside own_too
element_same resolve other setting is_range around depth path element inside own own_too same is own_same =
    let here = around_for is_range element around in
    let found = followed setting here.topic depth path element inside in
    let follows = follows_from (path_limit + 1) setting here.topic depth path element inside is in
    ap (λ made. made_with (group_faults here.declared element) (if goes setting here.declared element then nothing_made
    else made_with found.faults made))
    (ap₂ made_beside (made_same resolve other setting is_range here depth path own own_too found same follows own_same)
    (ranges_same resolve other around depth path found.ranges same follows.ranges))

-- so are nodes
among_same : (resolve other : Resolve) (setting : ResolveInput) (is_range : Bool) (around : ContentAround) (depth : ℕ)
    (path : List Place) (nodes : Written) → ResolveAlike path resolve other → IsPath path
    → resolved_among resolve setting is_range around depth path nodes
    ≡ resolved_among other setting is_range around depth path nodes
among_same resolve other setting is_range around depth path End same is = refl
among_same resolve other setting is_range around depth path (Chars text doc rest) same is =
    ap (made_beside (text_made text doc)) (among_same resolve other setting is_range around depth path rest same is)
among_same resolve other setting is_range around depth path (Node element inside rest) same is = ap₂ made_beside
    (element_same resolve other setting is_range around depth path element inside _ _ same is
    (λ here. among_same resolve other setting false here (depth + 1) path inside same is))
    (among_same resolve other setting is_range around depth path rest same is)

-- two ways of resolving are one if each has more steps than targets are left to the limit
resolved_same : (n m : ℕ) (setting : ResolveInput) (is_range : Bool) (around : ContentAround) (depth : ℕ)
    (path : List Place)
    (nodes : Written) → IsPath path → path_limit < n + length path → path_limit < m + length path
    → resolved_from n setting is_range around depth path nodes ≡ resolved_from m setting is_range around depth path nodes
unfolding resolved_from
resolved_same zero m setting is_range around depth path nodes is first second = absurd (omega (arith, is.short))
resolved_same (suc n) zero setting is_range around depth path nodes is first second = absurd (omega (arith, is.short))
resolved_same (suc n) (suc m) setting is_range around depth path nodes is first second =
    among_same (resolved_from n setting) (resolved_from m setting) setting is_range around depth path nodes
    (λ range here below longer more is_longer long.
    resolved_same n m setting range here below longer more is_longer (omega arith) (omega arith)) is

-- resolving a page has as many steps as it takes
pub resolved_is_whole : ResolvedIsWhole
resolved_is_whole setting around depth more nodes =
    resolved_same (path_limit + 1 + more) (path_limit + 1) setting false around depth [] nodes
    (record { distinct = tt; short = omega arith }) (omega arith) (omega arith)
