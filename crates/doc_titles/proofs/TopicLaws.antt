-- The first topic that is wanted, where an element stands first; and the first of all.
use Rattle.std.specs.Prelude.{◌≡◌, ◌&&◌, ℕ, Bool, true, false, List, [], ◌∷◌, ◌++◌, Option, Some, None, filter, find, slice_get, codes, if◌then◌else◌}
use Rattle.std.specs.Borrow.{Bor}
use Rattle.std.specs.Option.{option_map_or, option_or}
use Rattle.std.proofs.Common.{refl, sym, ap, ◌∙◌}
use Rattle.std.proofs.lemmas.List.Elements.{filter-append}
use Rattle.std.proofs.lemmas.List.Folds.{find-append}
use Rattle.map_spec.specs.Elements.{is_whole}
use Rattle.map_spec.specs.Titles.{first_of_document, id_of, topics}
use Rattle.map_spec.specs.Written.{Element, Whole, Written, Node, elements_below}
use Rattle.doc_titles.specs.Topics.{is_wanted, is_wanted_topic, topic_wanted}

-- of elements that pass a first test, the first is found that passes a second
found_from : {X : Type 0} (p : X → Bool) (x : X) (xs : List X) (is passes : Bool) → p x ≡ passes
    → find p (if is then x ∷ xs else xs) ≡ (if is && passes then Some x else find p xs)
found_from p x xs true true e = rw e refl
found_from p x xs true false e = rw e refl
found_from p x xs false passes e = refl

-- it is the first element, if it is one, else one in that, else one behind it
topic_at : (wanted : Option (Bor (List ℕ))) (element : Element) (inside rest : Written)
    → topic_wanted wanted (Node element inside rest)
    ≡ (if is_wanted_topic wanted element then Some (element, inside)
    else option_or (topic_wanted wanted inside) (topic_wanted wanted rest))
topic_at wanted element inside rest =
    let whole : Whole = (element, inside) in
    let below = elements_below inside ++ elements_below rest in
    let is_topic = is_whole (codes "topic/topic") in
    let is_one = λ (topic : Whole). is_wanted wanted topic.0 in
    let behind : find is_one (filter is_topic below)
    ≡ option_or (topic_wanted wanted inside) (topic_wanted wanted rest) =
    ap (find is_one) (filter-append is_topic (elements_below inside) (elements_below rest))
    ∙ find-append is_one (topics inside) (topics rest) in
    found_from is_one whole (filter is_topic below) (is_topic whole) (is_one whole) refl
    ∙ ap (λ more. if is_wanted_topic wanted element then Some whole else more) behind

module _ (nodes : Written) (element : Element) (inside rest : Written) (first : nodes ≡ Node element inside rest)
    (wanted : Option (Bor (List ℕ))) where
  -- the first element is the topic
  pub topic_here : true ≡ is_wanted_topic wanted element → topic_wanted wanted nodes ≡ Some (element, inside)
  topic_here is = rw (first, topic_at wanted element inside rest, ← is) refl

  -- it is not, and the topic stands in it
  pub topic_inside : (found : Whole) → false ≡ is_wanted_topic wanted element
      → Some found ≡ topic_wanted wanted inside → topic_wanted wanted nodes ≡ Some found
  topic_inside found is one = rw (first, topic_at wanted element inside rest, ← is, ← one) refl

  -- it is not, and none stands in it
  pub topic_behind : false ≡ is_wanted_topic wanted element → None ≡ topic_wanted wanted inside
      → topic_wanted wanted nodes ≡ topic_wanted wanted rest
  topic_behind is none = rw (first, topic_at wanted element inside rest, ← is, ← none) refl

-- Of all topics

-- the first of a list is the first that passes a test that all pass
first_is : (all : List Whole) → slice_get all 0 ≡ find (λ topic. true) all
first_is [] = refl
first_is (topic ∷ all) = refl

-- if any topic is wanted, the first is found
pub first_topic : (nodes : Written) → slice_get (topics nodes) 0 ≡ topic_wanted None nodes
first_topic nodes = first_is (topics nodes)

-- and its id is that of the document
pub first_id : (nodes : Written) (found : Option Whole) → found ≡ topic_wanted None nodes
    → option_map_or (λ (topic : Whole). id_of topic.0) found [] ≡ first_of_document nodes
first_id nodes found is =
    ap (λ (topic : Option Whole). option_map_or (λ (one : Whole). id_of one.0) topic []) (is ∙ sym (first_topic nodes))
