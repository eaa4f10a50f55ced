-- A table of what fragments name, with one more element.
use Rattle.std.specs.Prelude.{◌≡◌, ◌==◌, ◌&&◌, ◌||◌, ◌+◌, ℕ, Bool, true, false, not, List, [], ◌∷◌, ◌++◌, Option, Some, None, bytes_eq, codes, find, is_some, length, option_map, unwrap_or, if◌then◌else◌}
use Rattle.std.specs.BTreeMap as tree
use Rattle.std.specs.BTreeMap.{BTreeMap}
use Rattle.std.specs.Cmp.{IsTotalOrder, eq_by_cmp_equiv, tied_then}
use Rattle.std.specs.List.{list_any}
use Rattle.std.specs.Map.{lookup}
use Rattle.std.specs.Option.{option_map_or, option_or}
use Rattle.std.specs.Ordering.{is_eq}
use Rattle.std.proofs.Common.{Ordering, cond, refl, sym, subst, ap, ◌∙◌, append_assoc, arith}
use Rattle.std.proofs.lemmas.Bool.{eqb-true}
use Rattle.std.proofs.lemmas.Bool.Decides.{same_from_decides}
use Rattle.std.proofs.lemmas.List.{append-nil}
use Rattle.std.proofs.lemmas.List.Folds.{find-append, list_any-append}
use Rattle.std.proofs.lemmas.Map.Text.{is_eq-slice_cmp}
use Rattle.std.proofs.lemmas.Slice.Eq.{bytes_eq-Decides}
use Rattle.dita_doc.specs.TextOrder.{text_cmp}
use Rattle.dita_doc.proofs.Lists.{option_or_none}
use Rattle.dita_doc.proofs.Tests.{and_false, and_swap}
use Rattle.map_spec.specs.Elements.{attribute, is_value}
use Rattle.map_spec.specs.Titles.{has_id, id_of}
use Rattle.map_spec.specs.Written.{Element, Written, End, Chars, Node, size}
use Rattle.map_spec.specs.Places.{Standing, TopicAt, first_topic, is_topic, is_topic_there, is_topic_with, standing_from, topic_inside}
use Rattle.topic_find.specs.declared.table.TargetTable.{TargetTable}
use Rattle.topic_find.specs.Table.{HasElementMore, HasTopicMore, IsNext, IsOnTheWay, IsTableOf, fragment_cmp, fragment_of, has_topic_around, is_first_topic, or_at, place_of_fragment}
use Rattle.topic_find.specs.Walk.{place_of}
use Rattle.topic_find.proofs.WalkLaws.{place_or}

-- One more element

-- what is found first, if one more comes behind
one_found : (test : Standing → Bool) (one : Standing) (is : Bool) → test one ≡ is
    → option_map place_of (find test (one ∷ [])) ≡ (if is then Some one.place else None)
one_found test one true e = rw e refl
one_found test one false e = rw e refl

found_more : (test : Standing → Bool) (seen : List Standing) (one : Standing)
    → option_map place_of (find test (seen ++ one ∷ []))
    ≡ or_at (option_map place_of (find test seen)) (test one) one.place
found_more test seen one =
    ap (option_map place_of) (find-append test seen (one ∷ []))
    ∙ place_or (find test seen) (find test (one ∷ []))
    ∙ ap (option_or (option_map place_of (find test seen))) (one_found test one (test one) refl)

-- The tests

-- by whether the fragment names a topic, and by the first topic
abbrev meant_by : Bool → Option Standing → List ℕ → TopicAt → Bool
meant_by none first topic around = if none
    then option_map_or (λ (own : Standing). own.place == around.place) first false else bytes_eq topic around.id

abbrev fits_by : Bool → Option Standing → List ℕ → List ℕ → Standing → Bool
fits_by none first topic element standing =
    not (is_topic_there standing) && has_id element standing.whole
    && option_map_or (meant_by none first topic) standing.topic false

abbrev target_by : (no_element no_topic : Bool) → List Standing → List ℕ → List ℕ → Option Standing
target_by no_element no_topic all topic element = if no_element
    then (if no_topic then first_topic all else find (is_topic_with topic) all)
    else find (fits_by no_topic (first_topic all) topic element) all

abbrev place_by : (no_element no_topic : Bool) → TargetTable → List ℕ → List ℕ → Option ℕ
place_by no_element no_topic table topic element = if no_element
    then (if no_topic then table.first_topic else tree.get text_cmp table.topics topic)
    else if no_topic then tree.get text_cmp table.in_first_topic element
    else tree.get fragment_cmp table.elements (fragment_of topic element)

-- no element fits where none stands in a topic
never : (other has : Bool) (test : TopicAt → Bool) (around : Option TopicAt) → around ≡ None
    → (other && has && option_map_or test around false) ≡ false
never true true test around e = rw e refl
never true false test around e = refl
never false has test around e = refl

never_one : (first : Option Standing) (topic element : List ℕ) (one : Standing) (seen : List Standing)
    (around : Option TopicAt) → one.topic ≡ around → (is_some around || list_any has_topic_around seen) ≡ false
    → (list_any has_topic_around seen ≡ false → find (fits_by true first topic element) seen ≡ None)
    → find (fits_by true first topic element) (one ∷ seen) ≡ None
never_one first topic element one seen (Some own) is e more = cc
never_one first topic element one seen None is e more =
    let no = never (not (is_topic_there one)) (has_id element one.whole) (meant_by true first topic) one.topic is in
    rw no (more e)

never_behind : (first : Option Standing) (topic element : List ℕ) (seen : List Standing)
    → list_any has_topic_around seen ≡ false → find (fits_by true first topic element) seen ≡ None
never_behind first topic element [] e = refl
never_behind first topic element (one ∷ seen) e =
    never_one first topic element one seen one.topic refl e (never_behind first topic element seen)

-- the first topic stays the first
first_more : (seen : List Standing) (one : Standing)
    → first_topic (seen ++ one ∷ []) ≡ option_or (first_topic seen) (first_topic (one ∷ []))
first_more seen one = find-append is_topic_there seen (one ∷ [])

first_kept : (seen : List Standing) (one first : Standing) → first_topic seen ≡ Some first
    → first_topic (seen ++ one ∷ []) ≡ first_topic seen
first_kept seen one first e = first_more seen one ∙ rw e refl

fits_seen : (none : Bool) (topic element : List ℕ) (seen : List Standing) (one : Standing) (found : Option Standing)
    → first_topic seen ≡ found → (first_topic seen ≡ None → list_any has_topic_around seen ≡ false)
    → find (fits_by none (first_topic (seen ++ one ∷ [])) topic element) seen
    ≡ find (fits_by none (first_topic seen) topic element) seen
fits_seen false topic element seen one found e around = refl
fits_seen true topic element seen one (Some first) e around =
    ap (λ some. find (fits_by true some topic element) seen) (first_kept seen one first e)
fits_seen true topic element seen one None e around =
    never_behind (first_topic (seen ++ one ∷ [])) topic element seen (around e)
    ∙ sym (never_behind (first_topic seen) topic element seen (around e))

abbrev fits_all : (no_element no_topic : Bool) → Option Standing → List ℕ → List ℕ → Standing → Bool
fits_all no_element no_topic first topic element one = if no_element
    then (if no_topic then is_topic_there one else is_topic_with topic one)
    else fits_by no_topic first topic element one

-- what a fragment names among one more
more_by : (no_element no_topic : Bool) (topic element : List ℕ) (seen : List Standing) (one : Standing)
    (new old : Option ℕ) → (first_topic seen ≡ None → list_any has_topic_around seen ≡ false)
    → old ≡ option_map place_of (target_by no_element no_topic seen topic element)
    → new ≡ or_at old (fits_all no_element no_topic (first_topic (seen ++ one ∷ [])) topic element one) one.place
    → new ≡ option_map place_of (target_by no_element no_topic (seen ++ one ∷ []) topic element)
more_by true true topic element seen one new old around was is =
    is ∙ ap (λ found. or_at found (is_topic_there one) one.place) was ∙ sym (found_more is_topic_there seen one)
more_by true false topic element seen one new old around was is =
    is ∙ ap (λ found. or_at found (is_topic_with topic one) one.place) was
    ∙ sym (found_more (is_topic_with topic) seen one)
more_by false none topic element seen one new old around was is =
    let test = fits_by none (first_topic (seen ++ one ∷ [])) topic element in
    is
    ∙ ap (λ found. or_at found (test one) one.place)
    (was ∙ ap (option_map place_of) (sym (fits_seen none topic element seen one (first_topic seen) refl around)))
    ∙ sym (found_more test seen one)

-- Ids

same_bytes : (one other : List ℕ) → bytes_eq one other ≡ is_eq (text_cmp other one)
same_bytes one other =
    same_from_decides _ _ (bytes_eq-Decides one other)
    (let there = bytes_eq-Decides other one in (λ e. sym (there.0 e), λ same. there.1 (sym same)))
    ∙ sym (is_eq-slice_cmp other one)

id_by : (id : List ℕ) (written : Option (List ℕ)) → (length id == 0) ≡ false
    → is_value id written ≡ is_eq (text_cmp (unwrap_or written []) id)
id_by [] written full = cc
id_by (b ∷ id) None full = sym (is_eq-slice_cmp [] (b ∷ id))
id_by (b ∷ id) (Some own) full = same_bytes (b ∷ id) own

has_id_by : (id : List ℕ) (one : Standing) → (length id == 0) ≡ false
    → has_id id one.whole ≡ is_eq (text_cmp (id_of one.whole.0) id)
has_id_by id one full = id_by id (attribute (codes "id") one.whole.0) full

-- One more element in a table

or_same : (found : Option ℕ) (is same : Bool) (at place : ℕ) → is ≡ same → at ≡ place
    → or_at found is at ≡ or_at found same place
or_same found is same at place e there = ap (λ b. or_at found b at) e ∙ ap (or_at found same) there

unfit : (found : Option ℕ) (is : Bool) (place : ℕ) → is ≡ false → found ≡ or_at found is place
unfit found is place e = sym (option_or_none found) ∙ ap (λ b. or_at found b place) (sym e)

first_by : (found : Option Standing) (place : ℕ) → is_first_topic (option_map place_of found) place
    ≡ option_map_or (λ (own : Standing). own.place == place) found false
first_by None place = refl
first_by (Some one) place = refl

before_none : (seen : List Standing) (one : Standing) (found : Option Standing) → first_topic seen ≡ found
    → first_topic (seen ++ one ∷ []) ≡ None → first_topic seen ≡ None
before_none seen one None e none = e
before_none seen one (Some first) e none = sym (first_kept seen one first e) ∙ none

abbrev IsStep : TargetTable → TargetTable → List Standing → Standing → Type 0
IsStep old new seen one = (topic element : List ℕ) (no_element no_topic : Bool) → (length element == 0) ≡ no_element
    → (length topic == 0) ≡ no_topic → place_by no_element no_topic new topic element
    ≡ or_at (place_by no_element no_topic old topic element)
    (fits_all no_element no_topic (first_topic (seen ++ one ∷ [])) topic element one) one.place

table_step : (old new : TargetTable) (seen : List Standing) (one : Standing) → IsTableOf old seen
    → (first_topic seen ≡ None → one.topic ≡ None) → IsStep old new seen one → IsTableOf new (seen ++ one ∷ [])
table_step old new seen one is inside step = record {
  places = λ topic element.
      more_by (length element == 0) (length topic == 0) topic element seen one (place_of_fragment new topic element)
      (place_of_fragment old topic element) is.around (is.places topic element)
      (step topic element (length element == 0) (length topic == 0) refl refl);
  around = λ none.
      let before = before_none seen one (first_topic seen) refl none in
      list_any-append has_topic_around seen (one ∷ []) ∙ rw (is.around before, inside before) refl;
}

pub table_topic : (old new : TargetTable) (seen : List Standing) (one : Standing) (at : ℕ) (id : List ℕ)
    → IsTableOf old seen → (first_topic seen ≡ None → one.topic ≡ None) → HasTopicMore old new at id
    → at ≡ one.place → is_topic one.whole.0 ≡ true → id ≡ id_of one.whole.0 → IsTableOf new (seen ++ one ∷ [])
table_topic old new seen one at id is inside more place typed named = table_step old new seen one is inside step
  where
    other : (no_topic : Bool) (first : Option Standing) (topic element : List ℕ)
        → fits_by no_topic first topic element one ≡ false
    other no_topic first topic element = ap (λ b. not b && has_id element one.whole
        && option_map_or (meant_by no_topic first topic) one.topic false) typed

    step : IsStep old new seen one
    step topic element true true empty none =
        more.first ∙ or_same old.first_topic true (is_topic_there one) at one.place (sym typed) place
    step topic element true false empty full =
        more.topics topic
        ∙ or_same (tree.get text_cmp old.topics topic) _ (is_topic_with topic one) at one.place (
        ap (λ own. is_eq (text_cmp own topic)) named ∙ sym (has_id_by topic one full)
        ∙ ap (λ b. b && has_id topic one.whole) (sym typed)) place
    step topic element false true some none =
        ap (λ map. tree.get text_cmp map element) more.in_first
        ∙ unfit (tree.get text_cmp old.in_first_topic element) _ one.place
        (other true (first_topic (seen ++ one ∷ [])) topic element)
    step topic element false false some full =
        ap (λ map. tree.get fragment_cmp map (fragment_of topic element)) more.elements
        ∙ unfit (tree.get fragment_cmp old.elements (fragment_of topic element)) _ one.place
        (other false (first_topic (seen ++ one ∷ [])) topic element)

-- an element that is no topic is none to be named as one
module _ (old new : TargetTable) (seen : List Standing) (one : Standing) (typed : is_topic one.whole.0 ≡ false) where
  no_topic_with : (topic : List ℕ) → is_topic_with topic one ≡ false
  no_topic_with topic = ap (λ b. b && has_id topic one.whole) typed

  first_same : first_topic (seen ++ one ∷ []) ≡ first_topic seen
  first_same = first_more seen one
      ∙ ap (option_or (first_topic seen)) (rw typed refl) ∙ option_or_none (first_topic seen)

  fits_as : (no_topic : Bool) (topic element : List ℕ) (first : Option Standing)
      → fits_by no_topic first topic element one
      ≡ (has_id element one.whole && option_map_or (meant_by no_topic first topic) one.topic false)
  fits_as no_topic topic element first = ap (λ b. not b && has_id element one.whole
      && option_map_or (meant_by no_topic first topic) one.topic false) typed

  pub table_element : (at : ℕ) (id : List ℕ) (topic : TopicAt) → IsTableOf old seen
      → (first_topic seen ≡ None → one.topic ≡ None) → HasElementMore old new at id topic → at ≡ one.place
      → id ≡ id_of one.whole.0 → one.topic ≡ Some topic → IsTableOf new (seen ++ one ∷ [])
  table_element at id own is inside more place named stands = table_step old new seen one is inside step
    where
      first_is : is_first_topic old.first_topic own.place
          ≡ option_map_or (λ (first : Standing). first.place == own.place) (first_topic (seen ++ one ∷ [])) false
      first_is =
          ap (λ first. is_first_topic first own.place) (is.places [] [])
          ∙ first_by (first_topic seen) own.place
          ∙ ap (λ first. option_map_or (λ (top : Standing). top.place == own.place) first false) (sym first_same)

      has : (element : List ℕ) → (length element == 0) ≡ false
          → is_eq (text_cmp id element) ≡ has_id element one.whole
      has element some = ap (λ text. is_eq (text_cmp text element)) named ∙ sym (has_id_by element one some)

      fits : (no_topic : Bool) (topic element : List ℕ) → (length element == 0) ≡ false
          → (is_eq (text_cmp id element) && meant_by no_topic (first_topic (seen ++ one ∷ [])) topic own)
          ≡ fits_by no_topic (first_topic (seen ++ one ∷ [])) topic element one
      fits no_topic topic element some =
          ap (λ b. b && meant_by no_topic (first_topic (seen ++ one ∷ [])) topic own) (has element some)
          ∙ ap (λ around. has_id element one.whole
          && option_map_or (meant_by no_topic (first_topic (seen ++ one ∷ [])) topic) around false) (sym stands)
          ∙ sym (fits_as no_topic topic element (first_topic (seen ++ one ∷ [])))

      step : IsStep old new seen one
      step topic element true true empty none = more.first ∙ unfit old.first_topic _ one.place typed
      step topic element true false empty full =
          ap (λ map. tree.get text_cmp map topic) more.topics
          ∙ unfit (tree.get text_cmp old.topics topic) _ one.place (no_topic_with topic)
      step topic element false true some none =
          more.in_first element
          ∙ or_same (tree.get text_cmp old.in_first_topic element) _ _ at one.place (
          and_swap (is_first_topic old.first_topic own.place) (is_eq (text_cmp id element))
          ∙ ap (λ b. is_eq (text_cmp id element) && b) first_is ∙ fits true topic element some) place
      step topic element false false some full =
          more.elements (fragment_of topic element)
          ∙ or_same (tree.get fragment_cmp old.elements (fragment_of topic element)) _ _ at one.place (
          sym (tied_then (text_cmp own.id topic) (text_cmp id element))
          ∙ and_swap (is_eq (text_cmp own.id topic)) (is_eq (text_cmp id element))
          ∙ ap (λ b. is_eq (text_cmp id element) && b) (sym (same_bytes topic own.id))
          ∙ fits false topic element some) place

  pub table_same : IsTableOf old seen → (first_topic seen ≡ None → one.topic ≡ None)
      → ((element : List ℕ) (test : TopicAt → Bool) → (length element == 0) ≡ false
      → (has_id element one.whole && option_map_or test one.topic false) ≡ false) → IsTableOf old (seen ++ one ∷ [])
  table_same is inside out = table_step old old seen one is inside step
    where
      step : IsStep old old seen one
      step topic element true true empty none = unfit old.first_topic _ one.place typed
      step topic element true false empty full =
          unfit (tree.get text_cmp old.topics topic) _ one.place (no_topic_with topic)
      step topic element false none some there =
          unfit (place_by false none old topic element) _ one.place
          (fits_as none topic element (first_topic (seen ++ one ∷ []))
          ∙ out element (meant_by none (first_topic (seen ++ one ∷ [])) topic) some)

-- The element that comes next

empty_other : (id other : List ℕ) → (length id == 0) ≡ true → (length other == 0) ≡ false
    → is_eq (text_cmp id other) ≡ false
empty_other [] [] none some = cc
empty_other [] (b ∷ other) none some = is_eq-slice_cmp [] (b ∷ other)
empty_other (b ∷ id) other none some = absurd (omega (arith, eqb-true _ _ none))

module _ (old : TargetTable) (seen : List Standing) (one : Standing) (at : ℕ) (label : Element)
    (nearest : Option TopicAt) (is : IsTableOf old seen) (next : IsNext seen one at label nearest) where
  outside : first_topic seen ≡ None → one.topic ≡ None
  outside none = next.topic ∙ next.inside none

  pub next_topic : (new : TargetTable) (id : List ℕ) → true ≡ is_topic label → id ≡ id_of label
      → HasTopicMore old new at id → IsTableOf new (seen ++ one ∷ [])
  next_topic new id typed named more =
      table_topic old new seen one at id is outside more (sym next.place) (ap is_topic next.element ∙ sym typed)
      (named ∙ ap id_of (sym next.element))

  no_topic : false ≡ is_topic label → is_topic one.whole.0 ≡ false
  no_topic typed = ap is_topic next.element ∙ sym typed

  pub next_element : (new : TargetTable) (id : List ℕ) (topic : TopicAt) → false ≡ is_topic label → id ≡ id_of label
      → nearest ≡ Some topic → HasElementMore old new at id topic → IsTableOf new (seen ++ one ∷ [])
  next_element new id topic typed named stands more =
      table_element old new seen one (no_topic typed) at id topic is outside more (sym next.place)
      (named ∙ ap id_of (sym next.element)) (next.topic ∙ stands)

  pub next_outside : false ≡ is_topic label → nearest ≡ None → IsTableOf old (seen ++ one ∷ [])
  next_outside typed none = table_same old old seen one (no_topic typed) is outside (λ element test some.
      ap (λ around. has_id element one.whole && option_map_or test around false) (next.topic ∙ none)
      ∙ and_false (has_id element one.whole))

  pub next_unnamed : (id : List ℕ) → false ≡ is_topic label → id ≡ id_of label → true ≡ (length id == 0)
      → IsTableOf old (seen ++ one ∷ [])
  next_unnamed id typed named empty = table_same old old seen one (no_topic typed) is outside (λ element test some.
      ap (λ has. has && option_map_or test one.topic false) (
      has_id_by element one some
      ∙ ap (λ own. is_eq (text_cmp own element)) (ap id_of next.element ∙ sym named)
      ∙ empty_other id element (sym empty) some))

-- The way through the nodes

before_more : (seen more : List Standing) (found : Option Standing) → first_topic seen ≡ found
    → first_topic (seen ++ more) ≡ None → first_topic seen ≡ None
before_more seen more None e none = e
before_more seen more (Some first) e none =
    let kept : first_topic (seen ++ more) ≡ Some first = find-append is_topic_there seen more ∙ rw e refl in
    cc

pub way_end : (table : TargetTable) (at : ℕ) (nearest : Option TopicAt) (rest : Written) (all : List Standing)
    → rest ≡ End → IsOnTheWay table at nearest rest all → IsTableOf table all
way_end table at nearest rest all e way =
    let whole : way.done ≡ all =
    sym (way.split ∙ ap (λ nodes. way.done ++ standing_from at nearest way.before nodes) e ∙ append-nil way.done) in
    let Is : List Standing → Type 0 = λ some. IsTableOf table some in
    subst Is whole way.is

pub way_text : (table : TargetTable) (at : ℕ) (nearest : Option TopicAt) (rest : Written) (all : List Standing)
    (text doc : List ℕ) (more : Written) → rest ≡ Chars text doc more → IsOnTheWay table at nearest rest all
    → IsOnTheWay table (at + 1) nearest more all
way_text table at nearest rest all text doc more e way = record {
  done = way.done;
  before = way.before;
  split = way.split ∙ ap (λ nodes. way.done ++ standing_from at nearest way.before nodes) e;
  is = way.is;
  inside = way.inside;
}

inner_outside : (seen : List Standing) (one : Standing) (at : ℕ) (element : Element) (nearest : Option TopicAt)
    (typed : Bool) → is_topic element ≡ typed → one.whole.0 ≡ element → (first_topic seen ≡ None → nearest ≡ None)
    → first_topic (seen ++ one ∷ []) ≡ None → topic_inside at element nearest ≡ None
inner_outside seen one at element nearest false e same inside none =
    rw e (inside (before_more seen (one ∷ []) (first_topic seen) refl none))
inner_outside seen one at element nearest true e same inside none =
    let was = before_more seen (one ∷ []) (first_topic seen) refl none in
    let typed : is_topic one.whole.0 ≡ true = ap is_topic same ∙ e in
    let found : first_topic (one ∷ []) ≡ Some one = rw typed refl in
    let both : first_topic (seen ++ one ∷ []) ≡ Some one = first_more seen one ∙ rw (was, found) refl in
    cc

pub way_element : (table middle new : TargetTable) (at past : ℕ) (nearest inner : Option TopicAt) (rest : Written)
    (all : List Standing) (element : Element) (inside more : Written) → rest ≡ Node element inside more
    → ((seen : List Standing) (one : Standing) → IsTableOf table seen → IsNext seen one at element nearest
    → IsTableOf middle (seen ++ one ∷ []))
    → inner ≡ topic_inside at element nearest
    → ((seen : List Standing) (before : Option Element) → IsTableOf middle seen
    → (first_topic seen ≡ None → inner ≡ None)
    → IsTableOf new (seen ++ standing_from (at + 1) inner before inside))
    → past ≡ at + 1 + size inside → IsOnTheWay table at nearest rest all → IsOnTheWay new past nearest more all
way_element table middle new at past nearest inner rest all element inside more e add same go there way =
    let one : Standing = record {
      place = at;
      whole = (element, inside);
      topic = nearest;
      before = way.before;
      behind = more;
    } in
    let held = standing_from (at + 1) inner None inside in
    let later = standing_from (at + 1 + size inside) nearest (Some element) more in
    let seen = way.done ++ one ∷ [] in
    let is_one = add way.done one way.is
    (record { place = refl; element = refl; topic = refl; inside = way.inside }) in
    let outer = inner_outside way.done one at element nearest (is_topic element) refl refl way.inside in
    record {
      done = seen ++ held;
      before = Some element;
      split = way.split ∙ ap (λ nodes. way.done ++ standing_from at nearest way.before nodes) e
          ∙ ap (λ around. way.done ++ one ∷ (standing_from (at + 1) around None inside ++ later)) (sym same)
          ∙ sym (append_assoc way.done (one ∷ []) (held ++ later)) ∙ sym (append_assoc seen held later)
          ∙ ap (λ place. (seen ++ held) ++ standing_from place nearest (Some element) more) (sym there);
      is = go seen None is_one (λ none. same ∙ outer none);
      inside = λ none. way.inside (before_more way.done (one ∷ []) (first_topic way.done) refl
          (before_more seen held (first_topic seen) refl none));
    }

-- A place for a key, unless it has one

-- keys that are the same in an order stand for the same place
pub same_found : {K : Type 0} (R : K → K → Ordering) → IsTotalOrder R → (places : BTreeMap K ℕ) (key other : K)
    → is_eq (R key other) ≡ true → tree.get R places other ≡ tree.get R places key
same_found R total places key other same = walk places.entries
  where
    walk : (entries : List (_ × ℕ)) → lookup (tree.is_at (R other)) entries ≡ lookup (tree.is_at (R key)) entries
    walk [] = refl
    walk (entry ∷ entries) = rw ((eq_by_cmp_equiv total).congr key other entry.0 same, walk entries) refl

-- an entry keeps its value, or takes this place
pub first_stays : (of_key of_other new : Option ℕ) (is : Bool) (value place : ℕ) → value ≡ unwrap_or of_key place
    → new ≡ cond is (Some value) of_other → (is ≡ true → of_other ≡ of_key) → new ≡ or_at of_other is place
first_stays of_key None new true value place kept put same =
    put ∙ ap Some (kept ∙ ap (λ found. unwrap_or found place) (sym (same refl)))
first_stays of_key (Some other) new true value place kept put same =
    put ∙ ap Some (kept ∙ ap (λ found. unwrap_or found place) (sym (same refl)))
first_stays of_key None new false value place kept put same = put
first_stays of_key (Some other) new false value place kept put same = put
