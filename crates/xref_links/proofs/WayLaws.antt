-- The walk over a body: what has been added, and what is left.
use Rattle.std.specs.Prelude.{◌≡◌, ◌+◌, ◌++◌, ℕ, Bool, true, false, List, [], ◌∷◌, Option, Some, None, map, if◌then◌else◌}
use Rattle.std.specs.List.{filter_map}
use Rattle.std.specs.Option.{option_to_list}
use Rattle.std.proofs.Common.{refl, sym, ap, subst, ◌∙◌, append-nil, append_assoc}
use Rattle.std.proofs.lemmas.Grind.{flat_map-append}
use Rattle.std.proofs.lemmas.List.{map-append}
use Rattle.std.proofs.lemmas.List.Elements.{filter_map-append}
use Rattle.map_spec.specs.Titles.{id_of}
use Rattle.map_spec.specs.Written.{Element, Written, End, Chars, Node, size}
use Rattle.html_spec.specs.Anchors.{Added, Here, added_of, topic_here}
use Rattle.map_spec.specs.Places.{Standing, TopicAt, is_topic, standing_from, topic_inside}
use Rattle.xref_links.specs.Adding.{AreOnTheWay, HasMore, HaveMore, IsEmpty, added_from, anchors_of, faults_of, links_of, topic_id}
use Rattle.xref_links.specs.Here.{AreMade}
use Rattle.xref_links.specs.declared.made.AnchorsMade.{AnchorsMade}

-- the element before the first does not matter
any_before : (here : Here) (place : ℕ) (around : Option TopicAt) (before : Option Element) (nodes : Written)
    → map (added_of here) (standing_from place around before nodes) ≡ added_from here place around nodes
any_before here place around before End = refl
any_before here place around before (Chars text doc rest) = any_before here (place + 1) around before rest
any_before here place around before (Node element inside rest) = refl

abbrev pub one_at : ℕ → Option TopicAt → Element → Written → Written → Standing
one_at place around element inside behind = record {
  place = place;
  whole = (element, inside);
  topic = around;
  before = None;
  behind = behind;
}

-- what the first element adds, then those in it, then those behind it
pub added_first : (here : Here) (place past : ℕ) (around : Option TopicAt) (nodes : Written) (element : Element)
    (inside rest : Written) → nodes ≡ Node element inside rest → past ≡ place + 1 + size inside
    → added_from here place around nodes
    ≡ added_of here (one_at place around element inside End)
    ∷ (added_from here (place + 1) (topic_inside place element around) inside ++ added_from here past around rest)
added_first here place past around nodes element inside rest first behind =
    let held = standing_from (place + 1) (topic_inside place element around) None inside in
    let later = standing_from (place + 1 + size inside) around (Some element) rest in
    ap (added_from here place around) first
    ∙ ap (λ all. added_of here (one_at place around element inside rest) ∷ all) (map-append (added_of here) held later
    ∙ ap (λ all. map (added_of here) held ++ all) (any_before here (place + 1 + size inside) around (Some element) rest
    ∙ ap (λ n. added_from here n around rest) (sym behind)))

-- Lists

first_of : {X Y : Type 0} (f : X → Option Y) (x : X) (xs : List X) (found : Option Y) → f x ≡ found
    → filter_map f (x ∷ xs) ≡ option_to_list (f x) ++ filter_map f xs
first_of f x xs None e = rw e refl
first_of f x xs (Some y) e = rw e refl

behind_three : {X : Type 0} (old middle new some held later : List X) → middle ≡ old ++ some → new ≡ middle ++ held
    → old ++ (some ++ (held ++ later)) ≡ new ++ later
behind_three old middle new some held later first second =
    sym (append_assoc old some (held ++ later)) ∙ ap (λ all. all ++ (held ++ later)) (sym first)
    ∙ sym (append_assoc middle held later) ∙ ap (λ all. all ++ later) (sym second)

listed_behind : {Y : Type 0} (f : Added → Option Y) (left : List Added) (one : Added) (inner more : List Added)
    → left ≡ one ∷ (inner ++ more)
    → filter_map f left ≡ option_to_list (f one) ++ (filter_map f inner ++ filter_map f more)
listed_behind f left one inner more e =
    ap (filter_map f) e ∙ first_of f one (inner ++ more) (f one) refl
    ∙ ap (λ all. option_to_list (f one) ++ all) (filter_map-append f inner more)

-- The way

pub way_begins : (made : AnchorsMade) (all : List Added) → AreOnTheWay made made all all
way_begins made all = record { anchors = refl; links = refl; faults = refl }

pub way_same : (old new : AnchorsMade) (all left more : List Added) → left ≡ more → AreOnTheWay old new all left
    → AreOnTheWay old new all more
way_same old new all left more same way = subst (AreOnTheWay old new all) same way

-- an element and those in it
pub way_goes : (old now middle new : AnchorsMade) (all left : List Added) (one : Added) (inner more : List Added)
    → left ≡ one ∷ (inner ++ more) → HasMore now middle one → HaveMore middle new inner
    → AreOnTheWay old now all left → AreOnTheWay old new all more
way_goes old now middle new all left one inner more e first second way = record {
  anchors =
      way.anchors ∙ ap (λ l. now.anchors ++ l) (listed_behind (λ (added : Added). added.anchor) left one inner more e)
      ∙ behind_three now.anchors middle.anchors new.anchors (option_to_list one.anchor) (anchors_of inner)
      (anchors_of more) first.anchors second.anchors;
  links =
      way.links ∙ ap (λ l. now.links ++ l) (listed_behind (λ (added : Added). added.link) left one inner more e)
      ∙ behind_three now.links middle.links new.links (option_to_list one.link) (links_of inner)
      (links_of more) first.links second.links;
  faults =
      way.faults ∙ ap (λ l. now.faults ++ faults_of l) e
      ∙ ap (λ l. now.faults ++ (one.faults ++ l)) (flat_map-append (λ (added : Added). added.faults) inner more)
      ∙ behind_three now.faults middle.faults new.faults one.faults (faults_of inner) (faults_of more)
      first.faults second.faults;
}

pub way_ends : (old new : AnchorsMade) (all left : List Added) → left ≡ [] → AreOnTheWay old new all left
    → HaveMore old new all
way_ends old new all left none way = record {
  anchors = sym (way.anchors ∙ ap (λ l. new.anchors ++ anchors_of l) none ∙ append-nil new.anchors);
  links = sym (way.links ∙ ap (λ l. new.links ++ links_of l) none ∙ append-nil new.links);
  faults = sym (way.faults ∙ ap (λ l. new.faults ++ faults_of l) none ∙ append-nil new.faults);
}

-- all that was added to nothing
pub made_all : (here : Here) (nodes : Written) (old new : AnchorsMade) → IsEmpty old
    → HaveMore old new (added_from here 0 None nodes) → AreMade here nodes new
made_all here nodes old new empty more = record {
  anchors = more.anchors ∙ ap (λ all. all ++ anchors_of (added_from here 0 None nodes)) empty.anchors;
  links = more.links ∙ ap (λ all. all ++ links_of (added_from here 0 None nodes)) empty.links;
  faults = more.faults ∙ ap (λ all. all ++ faults_of (added_from here 0 None nodes)) empty.faults;
}

-- The nearest topic

by_topic : (is : Bool) (place : ℕ) (element : Element) (around : Option TopicAt)
    → topic_id (if is then Some (record { place = place; id = id_of element }) else around)
    ≡ (if is then id_of element else topic_id around)
by_topic true place element around = refl
by_topic false place element around = refl

-- that of what an element holds
pub topic_within : (typed : Bool) (place : ℕ) (element : Element) (around : Option TopicAt) (outer nearest : List ℕ)
    → typed ≡ is_topic element → topic_id around ≡ outer
    → nearest ≡ (if typed then id_of element else outer)
    → topic_id (topic_inside place element around) ≡ nearest
topic_within typed place element around outer nearest are is named =
    by_topic (is_topic element) place element around
    ∙ ap (λ id. if is_topic element then id_of element else id) is
    ∙ ap (λ b. if b then id_of element else outer) (sym are) ∙ sym named

-- and that of the element itself
pub topic_of_one : (typed : Bool) (one : Standing) (outer nearest : List ℕ)
    → typed ≡ is_topic one.whole.0 → topic_id one.topic ≡ outer
    → nearest ≡ (if typed then id_of one.whole.0 else outer) → topic_here one ≡ nearest
topic_of_one typed one outer nearest are is named =
    ap (λ id. if is_topic one.whole.0 then id_of one.whole.0 else id) is
    ∙ ap (λ b. if b then id_of one.whole.0 else outer) (sym are) ∙ sym named
