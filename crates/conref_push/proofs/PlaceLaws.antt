-- Targets of pushes by their places: an element that is found stands where it says.
use Rattle.std.specs.Prelude.{◌≡◌, ◌+◌, ◌-◌, ◌<◌, ◌≤◌, ◌==◌, ◌++◌, ℕ, Bool, true, false, List, ◌∷◌, Option, Some, None, find, length, nat_lt, option_map, if◌then◌else◌}
use Rattle.std.specs.Option.{option_and_then, option_map_or, option_or}
use Rattle.std.proofs.Common.{refl, sym, ap, subst, ◌∙◌, arith}
use Rattle.std.proofs.lemmas.Bool.Decides.{nat_tests}
use Rattle.std.proofs.lemmas.List.Folds.{find-append}
use Rattle.dita_doc.specs.declared.plan.Reference.{Reference}
use Rattle.map_spec.specs.Elements.{is_special}
use Rattle.map_spec.specs.Written.{Element, Whole, Written, End, Chars, Node, element_at, size}
use Rattle.map_spec.specs.Places.{Standing, TopicAt, all_standing, is_element_meant, is_topic_there, is_topic_with, standing_from, target_in, topic_inside}
use Rattle.topic_find.specs.Walk.{place_of}
use Rattle.conref_push.specs.Sight.{Sight, standing_at}
use Rattle.conref_push.specs.Targets.{fits_at, if_fits, place_meant, topic_meant}

-- an element stands at its place, counted from the first of these nodes, which stands at this one
pub record IsThere (place : ℕ) (nodes : Written) (one : Standing) : Type 0 where
  pub low : place ≤ one.place
  pub high : one.place < place + size nodes
  pub is : element_at nodes (one.place - place) ≡ Some one.whole

there_first : (place : ℕ) (element : Element) (inside rest : Written) (around : Option TopicAt)
    (before : Option Element) (one : Standing) → Some (standing_at place element inside around before rest) ≡ Some one
    → IsThere place (Node element inside rest) one
there_first place element inside rest around before one is =
    let same : standing_at place element inside around before rest ≡ one = cc in
    let none : place - place ≡ 0 = omega arith in
    subst (IsThere place (Node element inside rest)) same (record {
      low = omega arith;
      high = omega arith;
      is = rw none refl;
    })

there_text : (place : ℕ) (text doc : List ℕ) (rest : Written) (one : Standing) → IsThere (place + 1) rest one
    → IsThere place (Chars text doc rest) one
there_text place text doc rest one there =
    let low = there.low in
    let high = there.high in
    let other : ((one.place - place) == 0) ≡ false = grind (arith, nat_tests, low) in
    let same : one.place - place - 1 ≡ one.place - (place + 1) = omega (arith, low) in
    record {
      low = omega (arith, low);
      high = omega (arith, high);
      is = rw (other, same) there.is;
    }

there_inside : (place : ℕ) (element : Element) (inside rest : Written) (one : Standing)
    → IsThere (place + 1) inside one → IsThere place (Node element inside rest) one
there_inside place element inside rest one there =
    let low = there.low in
    let high = there.high in
    let other : ((one.place - place) == 0) ≡ false = grind (arith, nat_tests, low) in
    let within : nat_lt (size inside) (one.place - place) ≡ false = grind (arith, nat_tests, low, high) in
    let same : one.place - place - 1 ≡ one.place - (place + 1) = omega (arith, low) in
    record {
      low = omega (arith, low);
      high = omega (arith, high);
      is = rw (other, within, same) there.is;
    }

there_behind : (place : ℕ) (element : Element) (inside rest : Written) (one : Standing)
    → IsThere (place + 1 + size inside) rest one → IsThere place (Node element inside rest) one
there_behind place element inside rest one there =
    let low = there.low in
    let high = there.high in
    let other : ((one.place - place) == 0) ≡ false = grind (arith, nat_tests, low) in
    let past : nat_lt (size inside) (one.place - place) ≡ true = grind (arith, nat_tests, low) in
    let same : one.place - place - (1 + size inside) ≡ one.place - (place + 1 + size inside) = omega (arith, low) in
    record {
      low = omega (arith, low);
      high = omega (arith, high);
      is = rw (other, past, same) there.is;
    }

either : {X : Type 0} (first second : Option X) (x : X) (P : Type 0) → (first ≡ Some x → P) → (second ≡ Some x → P)
    → option_or first second ≡ Some x → P
either None second x P here there is = there is
either (Some y) second x P here there is = here is

first_passes : (test : Standing → Bool) (here one : Standing) (more : List Standing) (P : Type 0) (told : Bool)
    → test here ≡ told → find test (here ∷ more) ≡ Some one → (Some here ≡ Some one → P)
    → (find test more ≡ Some one → P)
    → P
first_passes test here one more P true same is first later = first (sym (rw same refl) ∙ is)
first_passes test here one more P false same is first later = later (sym (rw same refl) ∙ is)

pub found_there : (test : Standing → Bool) (place : ℕ) (around : Option TopicAt) (before : Option Element)
    (nodes : Written) (one : Standing) → find test (standing_from place around before nodes) ≡ Some one
    → IsThere place nodes one
found_there test place around before End one is = cc
found_there test place around before (Chars text doc rest) one is =
    there_text place text doc rest one (found_there test (place + 1) around before rest one is)
found_there test place around before (Node element inside rest) one is =
    let here = standing_at place element inside around before rest in
    let held = standing_from (place + 1) (topic_inside place element around) None inside in
    let later = standing_from (place + 1 + size inside) around (Some element) rest in
    first_passes test here one (held ++ later) (IsThere place (Node element inside rest) one) (test here) refl is
    (there_first place element inside rest around before one)
    (λ more. either (find test held) (find test later) one (IsThere place (Node element inside rest) one)
    (λ within. there_inside place element inside rest one
    (found_there test (place + 1) (topic_inside place element around) None inside one within))
    (λ behind. there_behind place element inside rest one
    (found_there test (place + 1 + size inside) around (Some element) rest one behind))
    (sym (find-append test held later) ∙ more))

target_by : (no_element no_topic : Bool) (nodes : Written) (topic element : List ℕ) (one : Standing)
    → (if no_element then (if no_topic then find is_topic_there (all_standing nodes)
    else find (is_topic_with topic) (all_standing nodes))
    else find (is_element_meant (all_standing nodes) topic element) (all_standing nodes)) ≡ Some one
    → IsThere 0 nodes one
target_by true true nodes topic element one is = found_there is_topic_there 0 None None nodes one is
target_by true false nodes topic element one is = found_there (is_topic_with topic) 0 None None nodes one is
target_by false no_topic nodes topic element one is =
    found_there (is_element_meant (all_standing nodes) topic element) 0 None None nodes one is

pub target_there : (nodes : Written) (topic element : List ℕ) (one : Standing)
    → target_in nodes topic element ≡ Some one → element_at nodes one.place ≡ Some one.whole
target_there nodes topic element one is =
    let there = target_by (length element == 0) (length topic == 0) nodes topic element one is in
    let same : one.place - 0 ≡ one.place = omega arith in
    subst (λ n. element_at nodes n ≡ Some one.whole) same there.is

-- What is meant

pub meant_none : (nodes : Written) (sight : Sight) (reference : Reference) (topic : List ℕ)
    → topic ≡ topic_meant reference sight.topic
    → None ≡ option_map place_of (target_in nodes topic reference.element) → None ≡ place_meant nodes sight reference
meant_none nodes sight reference topic same is = by_target (target_in nodes (topic_meant reference sight.topic)
    reference.element) (subst (λ t. None ≡ option_map place_of (target_in nodes t reference.element)) same is)
  where
    by_target : (target : Option Standing) → None ≡ option_map place_of target
        → None ≡ option_map place_of (option_and_then (if_fits sight) target)
    by_target None is = refl
    by_target (Some one) is = cc

fits_test : (test : Bool) (one : Standing)
    → (if test then Some one.place else None) ≡ option_map place_of (if test then Some one else None)
fits_test true one = refl
fits_test false one = refl

pub meant_some : (nodes : Written) (sight : Sight) (reference : Reference) (topic : List ℕ) (place : ℕ) (fits : Bool)
    → topic ≡ topic_meant reference sight.topic
    → Some place ≡ option_map place_of (target_in nodes topic reference.element)
    → fits ≡ fits_at nodes sight place
    → (if fits then Some place else None) ≡ place_meant nodes sight reference
meant_some nodes sight reference topic place fits same is fitting =
    let meant = topic_meant reference sight.topic in
    by_target (target_in nodes meant reference.element) refl
    (subst (λ t. Some place ≡ option_map place_of (target_in nodes t reference.element)) same is)
  where
    by_target : (target : Option Standing)
        → target_in nodes (topic_meant reference sight.topic) reference.element ≡ target
        → Some place ≡ option_map place_of target
        → (if fits then Some place else None) ≡ option_map place_of (option_and_then (if_fits sight) target)
    by_target None found at = cc
    by_target (Some one) found at =
        let here : place ≡ one.place = cc in
        let whole : element_at nodes place ≡ Some one.whole =
        subst (λ n. element_at nodes n ≡ Some one.whole) (sym here)
        (target_there nodes (topic_meant reference sight.topic) reference.element one found) in
        let told : fits ≡ is_special sight.element one.whole.0 = fitting
        ∙ ap (λ (w : Option Whole). option_map_or (λ (v : Whole). is_special sight.element v.0) w false) whole in
        rw (told, here) (fits_test (is_special sight.element one.whole.0) one)

pub fits_by : (sight : Sight) (nodes : Written) (place : ℕ) (found : Option Whole)
    → found ≡ element_at nodes place
    → option_map_or (λ (whole : Whole). is_special sight.element whole.0) found false ≡ fits_at nodes sight place
fits_by sight nodes place found is =
    ap (λ (w : Option Whole). option_map_or (λ (v : Whole). is_special sight.element v.0) w false) is
