-- A table of what fragments name is that of the document under whatever names its nodes were written: they play no part in
-- where elements stand.
use Rattle.std.specs.Prelude.{◌≡◌, ◌+◌, ◌==◌, ◌&&◌, ◌||◌, ℕ, Bool, true, false, not, List, [], ◌∷◌, ◌++◌, Option, Some, None, bytes_eq, codes, find, is_some, length, option_map, if◌then◌else◌}
use Rattle.std.specs.List.{list_any}
use Rattle.std.specs.Option.{option_map_or}
use Rattle.std.proofs.Common.{refl, sym, ap, subst, ◌∙◌}
use Rattle.dita_doc.specs.ClassValue.{value_of}
use Rattle.dita_doc.specs.Tree as tree
use Rattle.dita_doc.specs.Tree.{Content}
use Rattle.dita_doc.specs.declared.doc.Attribute.{Attribute}
use Rattle.map_spec.specs.Elements.{is_value, tokens_by}
use Rattle.map_spec.specs.Written.{Element, size, written_in}
use Rattle.map_spec.specs.Places.{Standing, TopicAt, first_topic, is_element_meant, is_topic_meant, is_topic_there, is_topic_with, standing_from, target_among, topic_inside}
use Rattle.map_lemmas.proofs.TreeLaws.{size_written}
use Rattle.readers.specs.Named.{name_at, under_names}
use Rattle.readers.proofs.GivenLaws.{size_named}
use Rattle.topic_find.specs.Table.{IsTableFor, IsTableOf, has_topic_around}
use Rattle.topic_find.specs.Walk.{place_of}
use Rattle.topic_find.specs.declared.table.TargetTable.{TargetTable}

record IsLike (one other : Standing) : Type 0 where
  pub place : one.place ≡ other.place
  pub attributes : one.whole.0.attributes ≡ other.whole.0.attributes
  pub topic : one.topic ≡ other.topic

abbrev AreLike : List Standing → List Standing → Type 0
AreLike [] [] = Unit {0}
AreLike [] (other ∷ others) = ⊥
AreLike (one ∷ some) [] = ⊥
AreLike (one ∷ some) (other ∷ others) = IsLike one other × AreLike some others

like_both : (some more others rest : List Standing) → AreLike some others → AreLike more rest
    → AreLike (some ++ more) (others ++ rest)
like_both [] more [] rest first second = second
like_both [] more (other ∷ others) rest first second = absurd first
like_both (one ∷ some) more [] rest first second = absurd first
like_both (one ∷ some) more (other ∷ others) rest first second =
    (first.0, like_both some more others rest first.1 second)

like_from : (name : List ℕ) (names : List (List ℕ)) (part : Content) (place : ℕ) (topic : Option TopicAt)
    (before other : Option Element)
    → AreLike (standing_from place topic before (written_in name part))
    (standing_from place topic other (under_names names part))
like_from name names tree.End place topic before other = tt
like_from name names (tree.Chars text origin line rest) place topic before other =
    like_from name names rest (place + 1) topic before other
like_from name names (tree.Element label attributes origin line inside rest) place topic before other =
    let one : Element =
    record { name = label; attributes = attributes; doc = name; line = line; href_doc = name } in
    let two : Element = record {
      name = label;
      attributes = attributes;
      doc = name_at names origin;
      line = line;
      href_doc = name_at names origin;
    } in
    let same : size (written_in name inside) ≡ size (under_names names inside) =
    size_written name inside ∙ sym (size_named names inside) in (
      record { place = refl; attributes = refl; topic = refl },
      like_both (standing_from (place + 1) (topic_inside place one topic) None (written_in name inside)) _
          (standing_from (place + 1) (topic_inside place two topic) None (under_names names inside)) _
          (like_from name names inside (place + 1) (topic_inside place one topic) None None)
          (subst (λ n. AreLike (standing_from (place + 1 + size (written_in name inside)) topic (Some one)
          (written_in name rest)) (standing_from (place + 1 + n) topic (Some two) (under_names names rest))) same
          (like_from name names rest (place + 1 + size (written_in name inside)) topic (Some one) (Some two))),
    )

-- The tests

found_like : (test check : Standing → Bool)
    → ((one other : Standing) → IsLike one other → test one ≡ check other) → (some others : List Standing)
    → AreLike some others → option_map place_of (find test some) ≡ option_map place_of (find check others)
found_like test check agree [] [] like = refl
found_like test check agree [] (other ∷ others) like = absurd like
found_like test check agree (one ∷ some) [] like = absurd like
found_like test check agree (one ∷ some) (other ∷ others) like =
    by_test (found_like test check agree some others like.1) (test one) refl
  where
    by_test : option_map place_of (find test some) ≡ option_map place_of (find check others) → (passes : Bool)
        → test one ≡ passes
        → option_map place_of (find test (one ∷ some)) ≡ option_map place_of (find check (other ∷ others))
    by_test more true e = rw (e, (sym (agree one other like.0) ∙ e)) (ap Some like.0.place)
    by_test more false e = rw (e, (sym (agree one other like.0) ∙ e)) more

abbrev is_topic_by : List Attribute → Bool
is_topic_by attributes =
    list_any (bytes_eq (codes "topic/topic")) (tokens_by (value_of (codes "class") attributes))

abbrev has_id_by : List ℕ → List Attribute → Bool
has_id_by id attributes = is_value id (value_of (codes "id") attributes)

topic_like : (one other : Standing) → IsLike one other → is_topic_there one ≡ is_topic_there other
topic_like one other like = ap is_topic_by like.attributes

topic_with_like : (id : List ℕ) (one other : Standing) → IsLike one other
    → is_topic_with id one ≡ is_topic_with id other
topic_with_like id one other like =
    ap (λ (attributes : List Attribute). is_topic_by attributes && has_id_by id attributes) like.attributes

abbrev meant_by : Bool → Option ℕ → List ℕ → TopicAt → Bool
meant_by none first topic around = if none
    then option_map_or (λ (place : ℕ). place == around.place) first false else bytes_eq topic around.id

meant_as : (none : Bool) (first : Option Standing) (topic : List ℕ) (around : TopicAt)
    → (if none then option_map_or (λ (one : Standing). one.place == around.place) first false
    else bytes_eq topic around.id) ≡ meant_by none (option_map place_of first) topic around
meant_as true None topic around = refl
meant_as true (Some first) topic around = refl
meant_as false first topic around = refl

module _ (some others : List Standing) (like : AreLike some others) where
  first_like : option_map place_of (first_topic some) ≡ option_map place_of (first_topic others)
  first_like = found_like is_topic_there is_topic_there topic_like some others like

  meant_like : (topic : List ℕ) (around : TopicAt)
      → is_topic_meant some topic around ≡ is_topic_meant others topic around
  meant_like topic around =
      meant_as (length topic == 0) (first_topic some) topic around
      ∙ ap (λ (first : Option ℕ). meant_by (length topic == 0) first topic around) first_like
      ∙ sym (meant_as (length topic == 0) (first_topic others) topic around)

  element_like : (topic element : List ℕ) (one other : Standing) → IsLike one other
      → is_element_meant some topic element one ≡ is_element_meant others topic element other
  element_like topic element one other is =
      let tests : is_topic_meant some topic ≡ is_topic_meant others topic = λ i around. meant_like topic around i in
      ap (λ (attributes : List Attribute). not (is_topic_by attributes) && has_id_by element attributes
      && option_map_or (is_topic_meant some topic) one.topic false) is.attributes
      ∙ ap (λ (around : Option TopicAt). not (is_topic_by other.whole.0.attributes)
      && has_id_by element other.whole.0.attributes && option_map_or (is_topic_meant some topic) around false) is.topic
      ∙ ap (λ (test : TopicAt → Bool). not (is_topic_by other.whole.0.attributes)
      && has_id_by element other.whole.0.attributes && option_map_or test other.topic false) tests

  target_like : (topic element : List ℕ) → option_map place_of (target_among some topic element)
      ≡ option_map place_of (target_among others topic element)
  target_like topic element = by_element (length element == 0)
    where
      by_topic : (none : Bool)
          → option_map place_of (if none then first_topic some else find (is_topic_with topic) some)
          ≡ option_map place_of (if none then first_topic others else find (is_topic_with topic) others)
      by_topic true = first_like
      by_topic false =
          found_like (is_topic_with topic) (is_topic_with topic) (topic_with_like topic) some others like

      by_element : (none : Bool)
          → option_map place_of (if none then (if length topic == 0 then first_topic some
          else find (is_topic_with topic) some) else find (is_element_meant some topic element) some)
          ≡ option_map place_of (if none then (if length topic == 0 then first_topic others
          else find (is_topic_with topic) others) else find (is_element_meant others topic element) others)
      by_element true = by_topic (length topic == 0)
      by_element false = found_like (is_element_meant some topic element) (is_element_meant others topic element)
          (element_like topic element) some others like

around_like : (some others : List Standing) → AreLike some others
    → list_any has_topic_around some ≡ list_any has_topic_around others
around_like [] [] like = refl
around_like [] (other ∷ others) like = absurd like
around_like (one ∷ some) [] like = absurd like
around_like (one ∷ some) (other ∷ others) like =
    ap (λ (topic : Option TopicAt). is_some topic || list_any has_topic_around some) like.0.topic
    ∙ ap (λ (more : Bool). is_some other.topic || more) (around_like some others like.1)

none_like : (found other : Option Standing) → option_map place_of found ≡ option_map place_of other → other ≡ None
    → found ≡ None
none_like None other same is = refl
none_like (Some found) None same is = cc
none_like (Some found) (Some other) same is = cc

table_like : (table : TargetTable) (some others : List Standing) → AreLike some others → IsTableOf table some
    → IsTableOf table others
table_like table some others like is = record {
  places = λ topic element. is.places topic element ∙ target_like some others like topic element;
  around = λ none. sym (around_like some others like)
      ∙ is.around (none_like (first_topic some) (first_topic others) (first_like some others like) none);
}

pub table_named : (table : TargetTable) (name : List ℕ) (names : List (List ℕ)) (part : Content)
    → IsTableFor table (written_in name part) → IsTableFor table (under_names names part)
table_named table name names part is =
    table_like table _ _ (like_from name names part 0 None None None) is
