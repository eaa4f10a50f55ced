-- A walk that looks for the first element that passes a test.
use Rattle.std.specs.Prelude.{◌≡◌, ◌+◌, ◌<◌, ℕ, Bool, true, false, List, ◌∷◌, ◌++◌, Option, Some, None, find, length, option_map, if◌then◌else◌}
use Rattle.std.specs.Option.{option_or}
use Rattle.std.specs.declared.ops.ControlFlow.TheVariants.{Continue, Break}
use Rattle.std.proofs.Common.{refl, sym, ap, ◌∙◌, arith}
use Rattle.std.proofs.lemmas.List.Folds.{find-append}
use Rattle.dita_doc.specs.Tree as tree
use Rattle.dita_doc.specs.Tree.{ArePreorder, Content, doc_node_limit, size_of, tree_of}
use Rattle.dita_doc.specs.declared.doc.Node as tree_node
use Rattle.dita_doc.proofs.TreeLaws.{length_nodes}
use Rattle.map_spec.specs.Written.{Element, Written, End, Chars, Node, size, written_in}
use Rattle.map_spec.specs.Places.{Standing, TopicAt, standing_from, topic_inside}
use Rattle.map_lemmas.proofs.TreeLaws.{size_written}
use Rattle.topic_find.specs.Walk.{Test, ends_at, first_place_passing, passes, place_of, walk_of}

-- The place of the first that passes

-- the first of some elements is found if it passes
found_first : (test : Test) (one : Standing) (others : List Standing) (is : Bool)
    → passes test one ≡ is
    → option_map place_of (find (passes test) (one ∷ others))
    ≡ (if is then Some one.place else option_map place_of (find (passes test) others))
found_first test one others true e = rw e refl
found_first test one others false e = rw e refl

-- the element before the first of them plays no part
any_before : (test : Test) (place : ℕ) (around : Option TopicAt) (before : Option Element) (nodes : Written)
    → option_map place_of (find (passes test) (standing_from place around before nodes))
    ≡ first_place_passing test place around nodes
any_before test place around before End = refl
any_before test place around before (Chars text doc rest) = any_before test (place + 1) around before rest
any_before test place around before (Node element inside rest) =
    let others = standing_from (place + 1) (topic_inside place element around) None inside
    ++ standing_from (place + 1 + size inside) around (Some element) rest in
    let at = λ (earlier : Option Element). (let one : Standing = record {
      place = place;
      whole = (element, inside);
      topic = around;
      before = earlier;
      behind = rest;
    } in one) in
    found_first test (at before) others (test around element) refl
    ∙ sym (found_first test (at None) others (test around element) refl)

-- the place of one of two
pub place_or : (one other : Option Standing)
    → option_map place_of (option_or one other) ≡ option_or (option_map place_of one) (option_map place_of other)
place_or None other = refl
place_or (Some one) other = refl

-- the first that passes is the first element, else one in that, with the topic inside, else one behind it
first_at : (test : Test) (place : ℕ) (around : Option TopicAt) (element : Element) (inside rest : Written)
    → first_place_passing test place around (Node element inside rest)
    ≡ (if test around element then Some place
    else option_or (first_place_passing test (place + 1) (topic_inside place element around) inside)
    (first_place_passing test (place + 1 + size inside) around rest))
first_at test place around element inside rest =
    let held = standing_from (place + 1) (topic_inside place element around) None inside in
    let later = standing_from (place + 1 + size inside) around (Some element) rest in
    let one : Standing =
    record { place = place; whole = (element, inside); topic = around; before = None; behind = rest } in
    let behind : option_map place_of (find (passes test) (held ++ later))
    ≡ option_or (first_place_passing test (place + 1) (topic_inside place element around) inside)
    (first_place_passing test (place + 1 + size inside) around rest) =
    ap (option_map place_of) (find-append (passes test) held later)
    ∙ place_or (find (passes test) held) (find (passes test) later)
    ∙ ap (option_or (option_map place_of (find (passes test) held)))
    (any_before test (place + 1 + size inside) around (Some element) rest) in
    found_first test one (held ++ later) (test around element) refl
    ∙ ap (λ more. if test around element then Some place else more) behind

-- The walk

-- it does not end among nodes of which none passes
record GoesOn (found : Option ℕ) (behind at : ℕ) : Type 0 where
  pub none : None ≡ found
  pub past : at ≡ behind

goes_on : (found : Option ℕ) (behind at : ℕ) → Continue at ≡ ends_at found behind → GoesOn found behind at
goes_on None behind at e = record { none = refl; past = cc }
goes_on (Some place) behind at e = cc

-- it ends at the one that passes
stops : (found : Option ℕ) (behind at : ℕ) → Break at ≡ ends_at found behind → Some at ≡ found
stops None behind at e = cc
stops (Some place) behind at e = cc

-- it ends behind no nodes where it begins
pub walk_none : (test : Test) (place : ℕ) (around : Option TopicAt) (nodes : Written) → nodes ≡ End
    → walk_of test place around nodes ≡ Continue place
walk_none test place around nodes is = rw is (let same : place + 0 ≡ place = omega arith in ap Continue same)

-- it goes past a text
pub walk_text : (test : Test) (place : ℕ) (around : Option TopicAt) (nodes : Written) (text doc : List ℕ)
    (rest : Written) → nodes ≡ Chars text doc rest
    → walk_of test place around nodes ≡ walk_of test (place + 1) around rest
walk_text test place around nodes text doc rest is = rw is (
    let same : place + (1 + size rest) ≡ place + 1 + size rest = omega arith in
    ap (ends_at (first_place_passing test (place + 1) around rest)) same)

module _ (test : Test) (place : ℕ) (around : Option TopicAt) (nodes : Written)
    (element : Element) (inside rest : Written) (first : nodes ≡ Node element inside rest) where
  -- the first element passes
  pub walk_here : true ≡ test around element → walk_of test place around nodes ≡ Break place
  walk_here is = rw (first, first_at test place around element inside rest, ← is) refl

  -- it does not, and one in it does
  pub walk_inside : (found : ℕ) → false ≡ test around element
      → Break found ≡ walk_of test (place + 1) (topic_inside place element around) inside
      → walk_of test place around nodes ≡ Break found
  walk_inside found is one =
      let there = stops (first_place_passing test (place + 1) (topic_inside place element around) inside) _ found one in
      rw (first, first_at test place around element inside rest, ← is, ← there) refl

  -- it does not, nor any in it
  pub walk_behind : (here : ℕ) → false ≡ test around element
      → Continue here ≡ walk_of test (place + 1) (topic_inside place element around) inside
      → walk_of test place around nodes ≡ walk_of test here around rest
  walk_behind here is on =
      let past = goes_on (first_place_passing test (place + 1) (topic_inside place element around) inside)
      (place + 1 + size inside) here on in
      let same : place + (1 + (size inside + size rest)) ≡ place + 1 + size inside + size rest = omega arith in
      rw (first, first_at test place around element inside rest, ← is, ← past.none, past.past)
      (ap (ends_at (first_place_passing test (place + 1 + size inside) around rest)) same)

-- The places

-- a walk that goes on has passed as many nodes as there are
pub passed : (test : Test) (place : ℕ) (around : Option TopicAt) (name : List ℕ) (c : Content) (here : ℕ)
    → Continue here ≡ walk_of test place around (written_in name c) → here ≡ place + size_of c
passed test place around name c here on =
    (goes_on (first_place_passing test place around (written_in name c))
    (place + size (written_in name c)) here on).past
    ∙ ap (λ n. place + n) (size_written name c)

-- the places of all nodes of a document are numbers of 32 bits
pub root_fits : (nodes : List tree_node.Node) (root : Content) → ArePreorder nodes 0 → root ≡ tree_of nodes
    → length nodes < doc_node_limit → 0 + size_of root < doc_node_limit
root_fits nodes root tree is small =
    let count = ap length tree ∙ length_nodes (tree_of nodes) 0 in
    let same = ap size_of is in
    omega arith
