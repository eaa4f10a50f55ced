-- Each element of a document that a fragment can name stands where it is said to stand.
use Rattle.std.specs.Prelude.{◌≡◌, ◌+◌, ◌==◌, ℕ, Bool, true, false, List, [], ◌∷◌, ◌++◌, Option, Some, None, drop, find, length, slice_get, if◌then◌else◌}
use Rattle.std.proofs.Common.{refl, sym, ap, subst, ◌∙◌, arith, append_assoc, append-nil, length-append}
use Rattle.dita_doc.specs.Tree as tree
use Rattle.dita_doc.specs.Tree.{Content, size_of, tree_of}
use Rattle.dita_doc.specs.declared.doc.Attribute.{Attribute}
use Rattle.dita_doc.specs.declared.doc.Doc.{Doc}
use Rattle.map_spec.specs.Written.{Element, Written, size}
use Rattle.map_spec.specs.Places.{Standing, TopicAt, all_standing, first_topic, is_element_meant, is_topic_there, is_topic_with, standing_from, target_in, topic_inside, topic_meant}
use Rattle.readers.specs.Named.{name_at, under_names, named_tree}
use Rattle.readers.proofs.GivenLaws.{size_named}
use Rattle.conref_targets.specs.Found.{StandsIn}
use Rattle.conref_targets.specs.Parts.{AreSiblingsAt, whole, past_text, within, past, ends_from, ends_of}
use Rattle.conref_targets.proofs.PartLaws.{drop_front, drop_more, get_drop}

-- Where siblings end

-- from this place on the table begins with the ends of the siblings
pub record Ends (all : Written) (end place : ℕ) (part : Written) : Type 0 where
  pub more : List ℕ
  pub is : drop place (ends_of all) ≡ ends_from end place part ++ more

length_ends : (end place : ℕ) (names : List (List ℕ)) (part : Content)
    → length (ends_from end place (under_names names part)) ≡ size_of part
length_ends end place names tree.End = refl
length_ends end place names (tree.Chars text origin line rest) =
    let behind = length_ends end (place + 1) names rest in omega arith
length_ends end place names (tree.Element name attributes origin line inside rest) =
    let first = ends_from (place + 1 + size (under_names names inside)) (place + 1) (under_names names inside) in
    let second = ends_from end (place + 1 + size (under_names names inside)) (under_names names rest) in
    let held = length_ends (place + 1 + size (under_names names inside)) (place + 1) names inside in
    let behind = length_ends end (place + 1 + size (under_names names inside)) names rest in
    omega (arith, length-append first second)

abbrev AllStand : Doc → List Standing → Type 0
AllStand doc [] = Unit {0}
AllStand doc (one ∷ all) = StandsIn doc one × AllStand doc all

stand_both : (doc : Doc) (some more : List Standing) → AllStand doc some → AllStand doc more
    → AllStand doc (some ++ more)
stand_both doc [] more first second = second
stand_both doc (one ∷ some) more first second = (first.0, stand_both doc some more first.1 second)

module _ (doc : Doc) where
  ends_text : (end place : ℕ) (text : List ℕ) (origin line : ℕ) (rest : Content)
      → Ends (named_tree doc) end place (under_names doc.origins (tree.Chars text origin line rest))
      → Ends (named_tree doc) end (place + 1) (under_names doc.origins rest)
  ends_text end place text origin line rest is = record {
    more = is.more;
    is = drop_more place 1 (ends_of (named_tree doc)) ∙ ap (drop 1) is.is;
  }

  module _ (end place : ℕ) (name : List ℕ) (attributes : List Attribute) (origin line : ℕ) (inside rest : Content)
      (is : Ends (named_tree doc) end place
      (under_names doc.origins (tree.Element name attributes origin line inside rest)))
    where
      ends_both : drop (place + 1) (ends_of (named_tree doc))
          ≡ ends_from (place + 1 + size_of inside) (place + 1) (under_names doc.origins inside)
          ++ (ends_from end (place + 1 + size_of inside) (under_names doc.origins rest) ++ is.more)
      ends_both =
          drop_more place 1 (ends_of (named_tree doc)) ∙ ap (drop 1) is.is
          ∙ append_assoc (ends_from (place + 1 + size (under_names doc.origins inside)) (place + 1) (under_names doc.origins inside))
          (ends_from end (place + 1 + size (under_names doc.origins inside)) (under_names doc.origins rest)) is.more
          ∙ ap (λ (n : ℕ). ends_from (place + 1 + n) (place + 1) (under_names doc.origins inside)
          ++ (ends_from end (place + 1 + n) (under_names doc.origins rest) ++ is.more)) (size_named doc.origins inside)

      ends_within : Ends (named_tree doc) (place + 1 + size_of inside) (place + 1) (under_names doc.origins inside)
      ends_within = record { more = ends_from end (place + 1 + size_of inside) (under_names doc.origins rest) ++ is.more; is = ends_both }

      ends_past : Ends (named_tree doc) end (place + 1 + size_of inside) (under_names doc.origins rest)
      ends_past = record {
        more = is.more;
        is = drop_more (place + 1) (size_of inside) (ends_of (named_tree doc))
            ∙ ap (drop (size_of inside)) ends_both
            ∙ drop_front (ends_from (place + 1 + size_of inside) (place + 1) (under_names doc.origins inside))
            (ends_from end (place + 1 + size_of inside) (under_names doc.origins rest) ++ is.more) (size_of inside)
            (sym (length_ends (place + 1 + size_of inside) (place + 1) doc.origins inside));
      }

      ends_here : slice_get (ends_of (named_tree doc)) place ≡ Some end
      ends_here = get_drop place (ends_of (named_tree doc)) _ end is.is

  -- the elements among siblings and below stand there
  stand_from : (part : Content) (end place : ℕ) (topic : Option TopicAt) (before : Option Element)
      → AreSiblingsAt (tree_of doc.nodes) place part → Ends (named_tree doc) end place (under_names doc.origins part)
      → end ≡ place + size_of part
      → AllStand doc (standing_from place topic before (under_names doc.origins part))
  stand_from tree.End end place topic before there is at = tt
  stand_from (tree.Chars text origin line rest) end place topic before there is at =
      stand_from rest end (place + 1) topic before (past_text there) (ends_text end place text origin line rest is)
      (omega arith)
  stand_from (tree.Element name attributes origin line inside rest) end place topic before there is at =
      let label : Element = record {
        name = name;
        attributes = attributes;
        doc = name_at doc.origins origin;
        line = line;
        href_doc = name_at doc.origins origin;
      } in
      let size_is = size_named doc.origins inside in
      let end_is : end ≡ place + 1 + size_of inside + size_of rest = omega arith in (
        record {
          name = name;
          attributes = attributes;
          origin = origin;
          line = line;
          inside = inside;
          rest = rest;
          part = there;
          whole = refl;
          behind = refl;
          ends = ends_here end place name attributes origin line inside rest is ∙ ap Some end_is;
        },
        stand_both doc (standing_from (place + 1) (topic_inside place label topic) None
            (under_names doc.origins inside)) _
            (stand_from inside (place + 1 + size_of inside) (place + 1) (topic_inside place label topic) None (within there)
            (ends_within end place name attributes origin line inside rest is) refl)
            (subst (λ n. AllStand doc (standing_from (place + 1 + n) topic (Some label) (under_names doc.origins rest)))
            (sym size_is)
            (stand_from rest end (place + 1 + size_of inside) topic (Some label) (past there)
            (ends_past end place name attributes origin line inside rest is) (omega arith))),
      )

  all_stand : AllStand doc (all_standing (named_tree doc))
  all_stand = stand_from (tree_of doc.nodes) (size_of (tree_of doc.nodes)) 0 None None whole
      (record {
        more = [];
        is = ap (λ (n : ℕ). ends_from n 0 (named_tree doc)) (size_named doc.origins (tree_of doc.nodes))
            ∙ sym (append-nil (ends_from (size_of (tree_of doc.nodes)) 0 (named_tree doc)));
      }) (omega arith)

  find_stands : (test : Standing → Bool) (all : List Standing) (one : Standing) → AllStand doc all
      → find test all ≡ Some one → StandsIn doc one
  find_stands test [] one stand is = cc
  find_stands test (first ∷ all) one stand is = by_test (find_stands test all one stand.1) (test first) refl
    where
      by_test : (find test all ≡ Some one → StandsIn doc one) → (passes : Bool) → test first ≡ passes → StandsIn doc one
      by_test further true e =
          let same : Some first ≡ Some one = rw e at is in
          let equal : first ≡ one = cc in subst (StandsIn doc) equal stand.0
      by_test further false e = further (rw e at is)

  -- the element that a fragment names stands in the document
  pub target_stands : (topic element : List ℕ) (one : Standing) → target_in (named_tree doc) topic element ≡ Some one
      → StandsIn doc one
  target_stands topic element one is = by_element (length element == 0) is
    where
      by_topic : (none : Bool) → (if none then first_topic (all_standing (named_tree doc))
          else find (is_topic_with topic) (all_standing (named_tree doc))) ≡ Some one → StandsIn doc one
      by_topic true e = find_stands is_topic_there (all_standing (named_tree doc)) one all_stand e
      by_topic false e = find_stands (is_topic_with topic) (all_standing (named_tree doc)) one all_stand e

      by_element : (none : Bool) → (if none then topic_meant (all_standing (named_tree doc)) topic
          else find (is_element_meant (all_standing (named_tree doc)) topic element) (all_standing (named_tree doc)))
          ≡ Some one → StandsIn doc one
      by_element true e = by_topic (length topic == 0) e
      by_element false e = find_stands (is_element_meant (all_standing (named_tree doc)) topic element)
          (all_standing (named_tree doc)) one all_stand e
