-- The topic in which content stands: an element that takes a target keeps its class, and gives the id that it does not leave
-- to the target.
use Rattle.std.specs.Prelude.{◌≡◌, ◌&&◌, ◌||◌, ◌==◌, ◌++◌, ℕ, Bool, true, false, not, List, [], ◌∷◌, Option, Some, None, bytes_eq, codes, filter, length, unwrap_or, if◌then◌else◌}
use Rattle.std.specs.List.{list_any}
use Rattle.std.proofs.Common.{refl, sym, ap, subst, ◌∙◌}
use Rattle.std.proofs.lemmas.Bool.{and_from, and_left, and_parts, and_right, false≢true}
use Rattle.std.proofs.lemmas.Slice.Eq.{bytes_eq-Decides}
use Rattle.dita_doc.specs.ClassValue.{has_type, value_of}
use Rattle.dita_doc.specs.declared.doc.Attribute.{Attribute}
use Rattle.dita_doc.specs.declared.fault.Fault.{Fault}
use Rattle.doc_elements.proofs.ChildLaws.{is_of_type}
use Rattle.map_spec.specs.Elements.{has_types, is_special, tokens_by}
use Rattle.map_spec.specs.Titles.{id_of}
use Rattle.map_spec.specs.Written.{Element, Written}
use Rattle.conref_spec.specs.Content.{Followed, Found, Place, ResolveInput, Sought, followed, followed_from, found_by, has_reference, id_seen, is_written_in, conkeyref_faults, merged_attributes, merged_element, names_not_taken, refused_by, sought_by, specified, topic_before_merge, topic_after_merge, use_target, value_used}
use Rattle.map_spec.specs.Places.{is_topic}
use Rattle.map_spec.specs.Pushes.{without_names}
use Rattle.conref_pull.specs.Merging.{own_id}
use Rattle.conref_pull.specs.Step.{FollowStep, after_step, step_to, step_with}
use Rattle.conref_pull.proofs.StepLaws.{follows}

-- Values of attributes

-- a value that is not left to the target
value_kept : (name : List ℕ) (own : List Attribute) (value : List ℕ) → value_of name own ≡ Some value
    → bytes_eq value use_target ≡ false → value_of name (specified own) ≡ Some value
value_kept name [] value is kept = cc
value_kept name (first ∷ own) value is kept =
    by_name (bytes_eq first.name name) (bytes_eq first.value use_target) refl refl is
    (λ here. value_kept name own value here kept)
  where
    by_name : (named left : Bool) → bytes_eq first.name name ≡ named → bytes_eq first.value use_target ≡ left
        → value_of name (first ∷ own) ≡ Some value
        → (value_of name own ≡ Some value → value_of name (specified own) ≡ Some value)
        → value_of name (specified (first ∷ own)) ≡ Some value
    by_name true true n l here more =
        let there : ◌≡◌ {A = Option (List ℕ)} (Some first.value) (Some value) = rw n at here in
        let same : first.value ≡ value = cc in
        let no : bytes_eq first.value use_target ≡ false = ap (λ v. bytes_eq v use_target) same ∙ kept in
        cc
    by_name true false n l here more = rw (l, n) (rw n at here)
    by_name false true n l here more = rw l (more (rw n at here))
    by_name false false n l here more = rw (l, n) (more (rw n at here))

value_beside : (name : List ℕ) (own more : List Attribute) (value : List ℕ) → value_of name own ≡ Some value
    → value_of name (own ++ more) ≡ Some value
value_beside name [] more value is = cc
value_beside name (first ∷ own) more value is =
    by_name (bytes_eq first.name name) refl is (λ here. value_beside name own more value here)
  where
    by_name : (named : Bool) → bytes_eq first.name name ≡ named → value_of name (first ∷ own) ≡ Some value
        → (value_of name own ≡ Some value → value_of name (own ++ more) ≡ Some value)
        → value_of name ((first ∷ own) ++ more) ≡ Some value
    by_name true n here later = rw n (rw n at here)
    by_name false n here later = rw n (later (rw n at here))

-- The class

no_class_left : (value : List ℕ) → bytes_eq value use_target ≡ true → tokens_by (Some value) ≡ []
no_class_left value is =
    let same : value ≡ use_target = (bytes_eq-Decides value use_target).0 is in
    rw same refl

class_by : (element target : Element) (value : Option (List ℕ)) → value_of (codes "class") element.attributes ≡ value
    → not (length (tokens_by value) == 0) ≡ true
    → value_of (codes "class") (merged_attributes element.attributes target.attributes) ≡ value
class_by element target None is types = absurd (false≢true types)
class_by element target (Some value) is types = by_left (bytes_eq value use_target) refl
  where
    by_left : (left : Bool) → bytes_eq value use_target ≡ left
        → value_of (codes "class") (merged_attributes element.attributes target.attributes) ≡ Some value
    by_left true l = absurd (false≢true (ap (λ (tokens : List (List ℕ)). not (length tokens == 0)) (sym (no_class_left value l)) ∙ types))
    by_left false l = value_beside (codes "class") (specified element.attributes)
        (filter (λ (other : Attribute). not (is_written_in (specified element.attributes) other))
        (without_names names_not_taken target.attributes)) value
        (value_kept (codes "class") element.attributes value is l)

-- an element that has types keeps its class
pub class_kept : (element target : Element) → has_types element ≡ true
    → is_topic (merged_element element target) ≡ is_topic element
class_kept element target types =
    ap (λ (value : Option (List ℕ)). list_any (bytes_eq (codes "topic/topic")) (tokens_by value))
    (class_by element target (value_of (codes "class") element.attributes) refl types)

-- The id

-- an id is never taken
id_gone : (own taken : List Attribute)
    → value_of (codes "id")
    (filter (λ (other : Attribute). not (is_written_in own other)) (without_names names_not_taken taken)) ≡ None
id_gone own [] = refl
id_gone own (first ∷ taken) =
    by_tests (list_any (bytes_eq first.name) names_not_taken) (is_written_in own first)
    (bytes_eq first.name (codes "id")) refl refl refl (id_gone own taken)
  where
    by_tests : (out written named : Bool) → list_any (bytes_eq first.name) names_not_taken ≡ out
        → is_written_in own first ≡ written → bytes_eq first.name (codes "id") ≡ named
        → value_of (codes "id")
        (filter (λ (other : Attribute). not (is_written_in own other)) (without_names names_not_taken taken)) ≡ None
        → value_of (codes "id") (filter (λ (other : Attribute). not (is_written_in own other))
        (without_names names_not_taken (first ∷ taken))) ≡ None
    by_tests true written named o w n more = rw o more
    by_tests false true named o w n more = rw (o, w) more
    by_tests false false true o w n more =
        let e : ◌≡◌ {A = Bool} true false = ap (λ (test : Bool). test || list_any (bytes_eq first.name)
        (codes "conref" ∷ codes "conkeyref" ∷ codes "conrefend" ∷ codes "conaction" ∷ [])) (sym n) ∙ o in
        absurd (false≢true (sym e))
    by_tests false false false o w n more = rw (o, w, n) more

beside_none : (name : List ℕ) (own more : List Attribute) → value_of name more ≡ None
    → value_of name (own ++ more) ≡ value_of name own
beside_none name [] more none = none
beside_none name (first ∷ own) more none = ap (λ (value : Option (List ℕ)).
    if bytes_eq first.name name then Some first.value else value) (beside_none name own more none)

id_merged : (element target : Element) → id_of (merged_element element target) ≡ own_id element.attributes
id_merged element target = ap (λ (value : Option (List ℕ)). unwrap_or value [])
    (beside_none (codes "id") (specified element.attributes)
    (filter (λ (other : Attribute). not (is_written_in (specified element.attributes) other))
    (without_names names_not_taken target.attributes))
    (id_gone (specified element.attributes) target.attributes))

-- The topic for what an element holds that took a target

stays : (is is_range : Bool) (id topic : List ℕ) → (is_range || not is) ≡ true
    → topic ≡ (if is && not is_range then id else topic)
stays false is_range id topic test = refl
stays true true id topic test = refl
stays true false id topic test = absurd (false≢true test)

changes : (is is_range : Bool) (id topic : List ℕ) → (is_range || not is) ≡ false
    → id ≡ (if is && not is_range then id else topic)
changes true false id topic test = refl
changes true true id topic test = absurd (false≢true (sym test))
changes false true id topic test = absurd (false≢true (sym test))
changes false false id topic test = absurd (false≢true (sym test))

pub topic_stays : (is_range : Bool) (element target : Element) (topic : List ℕ) → has_types element ≡ true
    → (is_range || not (is_topic element)) ≡ true
    → topic ≡ topic_after_merge is_range (merged_element element target) topic
topic_stays is_range element target topic types test =
    subst (λ (is : Bool). topic ≡ (if is && not is_range then id_of (merged_element element target) else topic))
    (sym (class_kept element target types))
    (stays (is_topic element) is_range (id_of (merged_element element target)) topic test)

pub topic_changes : (is_range : Bool) (element target : Element) (topic : List ℕ) → has_types element ≡ true
    → (is_range || not (is_topic element)) ≡ false
    → own_id element.attributes ≡ topic_after_merge is_range (merged_element element target) topic
topic_changes is_range element target topic types test =
    sym (id_merged element target)
    ∙ subst (λ (is : Bool). id_of (merged_element element target)
    ≡ (if is && not is_range then id_of (merged_element element target) else topic))
    (sym (class_kept element target types))
    (changes (is_topic element) is_range (id_of (merged_element element target)) topic test)

-- The topic that an element and its reference see

abbrev shown_by : Bool → Bool → List ℕ → List ℕ → List ℕ
shown_by is is_range id topic = if is then id_seen is_range id else topic

left_by : (is is_range : Bool) (id topic found : List ℕ)
    → found ≡ (if is && not is_range then id else shown_by is is_range id topic)
    → (bytes_eq found use_target && is) ≡ true → ◌≡◌ {A = List ℕ} [] (shown_by is is_range id topic)
left_by false is_range id topic found at test = absurd (false≢true (and_parts (bytes_eq found use_target) false test).1)
left_by true true id topic found at test = refl
left_by true false id topic found at test =
    let left : bytes_eq id use_target ≡ true =
    ap (λ v. bytes_eq v use_target) (sym at) ∙ (and_parts (bytes_eq found use_target) true test).0 in
    ap (λ (b : Bool). if false || b then [] else id) (sym left)

seen_by : (is is_range : Bool) (id topic found : List ℕ)
    → found ≡ (if is && not is_range then id else shown_by is is_range id topic)
    → (bytes_eq found use_target && is) ≡ false → found ≡ shown_by is is_range id topic
seen_by false is_range id topic found at test = at
seen_by true true id topic found at test = at
seen_by true false id topic found at test =
    at ∙ ap (λ (b : Bool). if false || b then [] else id)
    (sym (ap (λ v. bytes_eq v use_target) (sym at) ∙ not_left (bytes_eq found use_target) test))
  where
    not_left : (b : Bool) → (b && true) ≡ false → b ≡ false
    not_left true e = e
    not_left false e = refl

pub topic_left : (is_range : Bool) (element : Element) (topic found : List ℕ)
    → found ≡ topic_after_merge is_range element (topic_before_merge is_range element topic)
    → (bytes_eq found use_target && is_topic element) ≡ true
    → ◌≡◌ {A = List ℕ} [] (topic_before_merge is_range element topic)
topic_left is_range element topic found at test =
    left_by (is_topic element) is_range (id_of element) topic found at test

pub topic_seen : (is_range : Bool) (element : Element) (topic found : List ℕ)
    → found ≡ topic_after_merge is_range element (topic_before_merge is_range element topic)
    → (bytes_eq found use_target && is_topic element) ≡ false → found ≡ topic_before_merge is_range element topic
topic_seen is_range element topic found at test =
    seen_by (is_topic element) is_range (id_of element) topic found at test

-- by the tests that are made
abbrev topic_type : List ℕ
topic_type = codes "topic/topic"

type_is : (element : Element) (test : Bool) → test ≡ has_type element.attributes topic_type → is_topic element ≡ test
type_is element test is = is_of_type topic_type element ∙ sym is

pub seen_left : (is_range : Bool) (element : Element) (topic found : List ℕ)
    → found ≡ topic_after_merge is_range element (topic_before_merge is_range element topic)
    → true ≡ bytes_eq found use_target
    → true ≡ has_type element.attributes (codes "topic/topic")
    → ◌≡◌ {A = List ℕ} [] (topic_before_merge is_range element topic)
seen_left is_range element topic found at left is = topic_left is_range element topic found at
    (and_from (bytes_eq found use_target) (is_topic element) (sym left) (type_is element true is))

pub seen_other : (is_range : Bool) (element : Element) (topic found : List ℕ)
    → found ≡ topic_after_merge is_range element (topic_before_merge is_range element topic)
    → false ≡ has_type element.attributes (codes "topic/topic") → found ≡ topic_before_merge is_range element topic
seen_other is_range element topic found at other = topic_seen is_range element topic found at
    (and_right (bytes_eq found use_target) (is_topic element) (type_is element false other))

pub seen_kept : (is_range : Bool) (element : Element) (topic found : List ℕ)
    → found ≡ topic_after_merge is_range element (topic_before_merge is_range element topic)
    → false ≡ bytes_eq found use_target
    → found ≡ topic_before_merge is_range element topic
seen_kept is_range element topic found at kept = topic_seen is_range element topic found at
    (and_left (bytes_eq found use_target) (is_topic element) (sym kept))

pub taken_in_range : (is_range : Bool) (element target : Element) (topic : List ℕ) → is_range ≡ true
    → has_types element ≡ true → topic ≡ topic_after_merge is_range (merged_element element target) topic
taken_in_range is_range element target topic ranged types =
    topic_stays is_range element target topic types (ap (λ (test : Bool). test || not (is_topic element)) ranged)

pub taken_elsewhere : (is_range : Bool) (element target : Element) (topic : List ℕ)
    → false ≡ has_type element.attributes (codes "topic/topic") → has_types element ≡ true
    → topic ≡ topic_after_merge is_range (merged_element element target) topic
taken_elsewhere is_range element target topic other types = topic_stays is_range element target topic types
    (ap (λ (is : Bool). is_range || not is) (type_is element false other) ∙ or_true is_range)
  where
    or_true : (test : Bool) → (test || true) ≡ true
    or_true true = refl
    or_true false = refl

pub taken_by_topic : (is_range : Bool) (element target : Element) (topic : List ℕ) → is_range ≡ false
    → true ≡ has_type element.attributes (codes "topic/topic") → has_types element ≡ true
    → own_id element.attributes ≡ topic_after_merge is_range (merged_element element target) topic
taken_by_topic is_range element target topic ranged is types = topic_changes is_range element target topic types
    (ap (λ (test : Bool). test || not (is_topic element)) ranged
    ∙ ap (λ (test : Bool). false || not test) (type_is element true is))

-- An element that took a target has types

special_types : (one element : Element) → is_special one element ≡ true → has_types element ≡ true
special_types one element is =
    (and_parts (has_types one) (has_types element) (and_parts (has_types one && has_types element) _ is).0).1

abbrev refused_if : Bool → Option Fault → Option Fault → Option Fault
refused_if test fault more = if not test then fault else more

not_refused : (test : Bool) (fault : Fault) (more : Option Fault) → refused_if test (Some fault) more ≡ None
    → test ≡ true
not_refused true fault more none = refl
not_refused false fault more none = cc

module _ (follow : List Place → Element → Written → Followed) (setting : ResolveInput) (depth : ℕ) (path : List Place)
    (element : Element) (inside : Written) where
  by_refusal : (target : Found) (before : List Fault) (refused : Option Fault)
      → (after_step follow path element inside (step_with path element target before refused).faults
      (step_with path element target before refused).taken).has_taken ≡ true → refused ≡ None
  by_refusal target before (Some fault) took = absurd (false≢true took)
  by_refusal target before None took = refl

  by_found : (sought : Sought) (found : Option Found)
      → (after_step follow path element inside (step_to setting depth path element sought found).faults
      (step_to setting depth path element sought found).taken).has_taken ≡ true → has_types element ≡ true
  by_found sought None took = absurd (false≢true took)
  by_found sought (Some target) took =
      special_types target.standing.whole.0 element
      (not_refused (is_special target.standing.whole.0 element) _ _
      (by_refusal target (conkeyref_faults setting sought.conkeyref)
      (refused_by (value_used setting sought) depth path element target) took))

  abbrev step_if : Bool → Sought → Option Found → FollowStep
  step_if test sought found =
      if test then step_to setting depth path element sought found else record { taken = None; faults = [] }

  by_test : (test : Bool) (sought : Sought) (found : Option Found)
      → (after_step follow path element inside (step_if test sought found).faults
      (step_if test sought found).taken).has_taken ≡ true → has_types element ≡ true
  by_test true sought found took = by_found sought found took
  by_test false sought found took = absurd (false≢true took)

pub took_types : (setting : ResolveInput) (topic : List ℕ) (depth : ℕ) (path : List Place) (element : Element)
    (inside : Written) → (followed setting topic depth path element inside).has_taken ≡ true → has_types element ≡ true
took_types setting topic depth path element inside took =
    by_test (followed_from 32 setting topic depth) setting depth path element inside (has_reference (sought_by element)) (sought_by element)
    (found_by setting topic element (sought_by element))
    (ap (λ (f : Followed). f.has_taken) (sym (follows 32 setting topic depth path element inside)) ∙ took)
