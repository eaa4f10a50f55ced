-- What a fragment names, by the tests of the walks.
use Rattle.std.specs.Prelude.{◌≡◌, ◌==◌, ◌&&◌, ℕ, Bool, true, false, not, List, [], ◌∷◌, Option, Some, None, find, length, option_map}
use Rattle.std.specs.Borrow.{Bor}
use Rattle.std.specs.Option.{option_map_or}
use Rattle.std.proofs.Common.{refl, sym, ap, ◌∙◌}
use Rattle.map_spec.specs.Written.{Written}
use Rattle.map_spec.specs.Places as places
use Rattle.map_spec.specs.Places.{Standing, TopicAt, all_standing, is_topic_there, is_topic_with}
use Rattle.topic_find.specs.declared.meant.TopicMeant.{TopicMeant}
use Rattle.topic_find.specs.Walk.{first_place_passing, has_id, is_topic_meant, is_topic_wanted, place_of, target_place, topic_place}

-- the first topic of this id
pub named_topic : (nodes : Written) (topic : List ℕ) (id : Bor (List ℕ)) → false ≡ (length topic == 0) → id.now ≡ topic
    → first_place_passing (is_topic_wanted (Some id)) 0 None nodes ≡ topic_place nodes topic
named_topic nodes topic id full same =
    rw (← full) (ap (λ text. option_map place_of (find (is_topic_with text) (all_standing nodes))) same)

-- an element that is no topic, of this id, in a topic that passes a test
abbrev fits : List ℕ → (TopicAt → Bool) → Standing → Bool
fits id test standing =
    not (is_topic_there standing) && has_id id standing.whole.0 && option_map_or test standing.topic false

-- no topic passes a test that none passes
never : (other has : Bool) (around : Option TopicAt)
    → (other && has && option_map_or (λ (topic : TopicAt). false) around false) ≡ false
never false has around = refl
never true false around = refl
never true true None = refl
never true true (Some topic) = refl

-- so no element fits in one
nowhere : (id : List ℕ) (all : List Standing) → find (fits id (λ topic. false)) all ≡ None
nowhere id [] = refl
nowhere id (one ∷ all) =
    rw (never (not (is_topic_there one)) (has_id id one.whole.0) one.topic) (nowhere id all)

module _ (nodes : Written) (topic element : List ℕ) (full : false ≡ (length element == 0)) where
  -- an element fits in a topic that passes the test of the fragment's topic
  pub element_in_topic : (id : List ℕ) (meant : TopicMeant) → id ≡ element
      → ((around : TopicAt) → is_topic_meant meant around ≡ places.is_topic_meant (all_standing nodes) topic around)
      → option_map place_of (find (fits id (is_topic_meant meant)) (all_standing nodes))
      ≡ target_place nodes topic element
  element_in_topic id meant same agree =
      let tests : is_topic_meant meant ≡ places.is_topic_meant (all_standing nodes) topic =
      λ i around. agree around i in
      rw (← full) (
      ap (λ text. option_map place_of (find (fits text (is_topic_meant meant)) (all_standing nodes))) same
      ∙ ap (λ test. option_map place_of (find (fits element test) (all_standing nodes))) tests
      )

  -- where no topic passes it, there is none
  pub element_nowhere :
      ((around : TopicAt) → false ≡ places.is_topic_meant (all_standing nodes) topic around)
      → None ≡ target_place nodes topic element
  element_nowhere agree =
      let tests : ◌≡◌ {A = TopicAt → Bool} (λ around. false) (places.is_topic_meant (all_standing nodes) topic) =
      λ i around. agree around i in
      rw (← full) (
      ap (option_map place_of) (sym (nowhere element (all_standing nodes)))
      ∙ ap (λ test. option_map place_of (find (fits element test) (all_standing nodes))) tests
      )
