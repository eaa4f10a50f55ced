-- The definitions by qualified keys, way by way: those of the language, and those of a search over scopes.
use Rattle.std.specs.Prelude.{◌≡◌, ◌+◌, ◌<◌, ◌≤◌, ◌==◌, ◌&&◌, ℕ, zero, suc, Bool, true, false, List, [], ◌∷◌, ◌++◌, Option, Some, None, filter, length, map, option_map, slice_get}
use Rattle.std.specs.List.{All, filter_map, flat_map}
use Rattle.std.specs.Option.{option_and_then, option_or}
use Rattle.std.proofs.Common.{refl, sym, ap, ◌∙◌, arith}
use Rattle.std.proofs.lemmas.Bool.{eqb-true}
use Rattle.std.proofs.lemmas.Bool.Decides.{nat_tests}
use Rattle.std.proofs.lemmas.List.{length-drop, map-append}
use Rattle.std.proofs.lemmas.List.Elements.{All-head, All-tail}
use Rattle.dita_doc.specs.declared.plan.PlanNode.{PlanNode}
use Rattle.dita_doc.specs.declared.plan.Scope.{Scope}
use Rattle.dita_doc.proofs.Tests.{and_true}
use Rattle.key_scopes.specs.declared.children.ChildName.{ChildName}
use Rattle.key_scopes.specs.Children.{all_names, child_names_of, ranked}
use Rattle.key_scopes.specs.Rising.{by_names}
use Rattle.key_scopes.specs.Ways.{Way, answers, is_behind, leads, qualified_in, way_in}
use Rattle.key_scopes.proofs.DotLaws.{all_each, behind_dot, cut, leads_short}
use Rattle.key_scopes.proofs.OptionLaws.{or_assoc}
use Rattle.map_spec.specs.Scopes.{begins, behind, first_found, is_child_of, numbered, own, places, qualified, scope_begun, scopes}
use Rattle.reader_spec.specs.World.{World}

-- Lists of answers

pub first_cons : (x : Option ℕ) (xs : List (Option ℕ)) → first_found (x ∷ xs) ≡ option_or x (first_found xs)
first_cons None xs = refl
first_cons (Some x) xs = refl

first_append : (xs ys : List (Option ℕ)) → first_found (xs ++ ys) ≡ option_or (first_found xs) (first_found ys)
first_append [] ys = refl
first_append (x ∷ xs) ys =
    first_cons x (xs ++ ys) ∙ ap (option_or x) (first_append xs ys)
    ∙ sym (or_assoc x (first_found xs) (first_found ys))
    ∙ ap (λ one. option_or one (first_found ys)) (sym (first_cons x xs))

filter_append : (p : ChildName → Bool) (xs ys : List ChildName) → filter p (xs ++ ys) ≡ filter p xs ++ filter p ys
filter_append p [] ys = refl
filter_append p (x ∷ xs) ys = by_one (filter_append p xs ys) (p x) refl
  where
    by_one : filter p (xs ++ ys) ≡ filter p xs ++ filter p ys → (a : Bool) → p x ≡ a
        → filter p ((x ∷ xs) ++ ys) ≡ filter p (x ∷ xs) ++ filter p ys
    by_one behind true e = rw e (ap (λ some. x ∷ some) behind)
    by_one behind false e = rw e behind

answers_append : (try : Way → Option ℕ) (key : List ℕ) (xs ys : List ChildName)
    → answers try key (xs ++ ys) ≡ option_or (answers try key xs) (answers try key ys)
answers_append try key xs ys =
    ap first_found (map-append (λ name. try (way_in key name)) xs ys)
    ∙ first_append (map (λ name. try (way_in key name)) xs) (map (λ name. try (way_in key name)) ys)

-- The names of the scopes in a scope

module _ (try : Way → Option ℕ) (attempt : ℕ → List ℕ → Option ℕ) (scope : ℕ) (key : List ℕ)
    (same : (child rank : ℕ) (rest : List ℕ)
    → try (record { child = child; rank = rank; rest = rest }) ≡ attempt child rest) where
  abbrev attempted : ℕ → List ℕ → Option ℕ
  attempted child name = option_and_then (λ rest. attempt child rest) (behind_dot name key)

  one_scope : (child rank : ℕ) (names : List (List ℕ))
      → first_found (map (attempted child) names)
      ≡ answers try key (filter (leads scope key) (ranked scope child rank names))
  one_scope child rank [] = refl
  one_scope child rank (name ∷ names) =
      first_cons (attempted child name) (map (attempted child) names)
      ∙ ap (option_or (attempted child name)) (one_scope child (rank + 1) names)
      ∙ by_found (behind_dot name key) refl
    where
      here : (scope == scope) ≡ true
      here = grind (arith, nat_tests)

      by_found : (found : Option (List ℕ)) → behind_dot name key ≡ found
          → option_or (option_and_then (λ rest. attempt child rest) (behind_dot name key))
          (answers try key (filter (leads scope key) (ranked scope child (rank + 1) names)))
          ≡ answers try key (filter (leads scope key) (ranked scope child rank (name ∷ names)))
      by_found None e = rw (here, e) refl
      by_found (Some rest) e =
          let there = (cut name key rest e).rest in
          rw (here, e) (ap (λ one. option_or one (answers try key (filter (leads scope key)
          (ranked scope child (rank + 1) names)))) (sym (same child rank rest)
          ∙ ap (λ left. try (record { child = child; rank = rank; rest = left })) there)
          ∙ sym (first_cons (try (way_in key (record { parent = scope; name = name; child = child; rank = rank })))
          (map (λ name. try (way_in key name)) (filter (leads scope key) (ranked scope child (rank + 1) names)))))

  other_scope : (parent child rank : ℕ) (names : List (List ℕ)) → (parent == scope) ≡ false
      → filter (leads scope key) (ranked parent child rank names) ≡ []
  other_scope parent child rank [] e = refl
  other_scope parent child rank (name ∷ names) e = rw e (other_scope parent child (rank + 1) names e)

  abbrev attempts : Scope × ℕ → List (Option ℕ)
  attempts child = map (attempted child.1) child.0.names

  all_scopes : (at : ℕ) (some : List Scope) → 0 < at
      → first_found (flat_map attempts (filter (is_child_of scope) (numbered at some)))
      ≡ answers try key (filter (leads scope key) (flat_map child_names_of (numbered at some)))
  all_scopes at [] above = refl
  all_scopes at (one ∷ some) above =
      by_test (all_scopes (at + 1) some (omega arith)) (one.parent == scope) refl
    where
      not_root : (at == 0) ≡ false
      not_root = grind (arith, nat_tests)

      later : List ChildName
      later = flat_map child_names_of (numbered (at + 1) some)

      by_test : first_found (flat_map attempts (filter (is_child_of scope) (numbered (at + 1) some)))
          ≡ answers try key (filter (leads scope key) (flat_map child_names_of (numbered (at + 1) some)))
          → (a : Bool) → (one.parent == scope) ≡ a
          → first_found (flat_map attempts (filter (is_child_of scope) (numbered at (one ∷ some))))
          ≡ answers try key (filter (leads scope key) (flat_map child_names_of (numbered at (one ∷ some))))
      by_test behind true e =
          let is : one.parent ≡ scope = eqb-true one.parent scope e in
          let right : answers try key (filter (leads scope key) (flat_map child_names_of (numbered at (one ∷ some))))
          ≡ option_or (answers try key (filter (leads scope key) (ranked scope at 0 one.names)))
          (answers try key (filter (leads scope key) (flat_map child_names_of (numbered (at + 1) some)))) =
          ap (answers try key) (filter_append (leads scope key) (child_names_of (one, at))
          (flat_map child_names_of (numbered (at + 1) some)))
          ∙ answers_append try key (filter (leads scope key) (child_names_of (one, at)))
          (filter (leads scope key) (flat_map child_names_of (numbered (at + 1) some)))
          ∙ ap (λ p. option_or (answers try key (filter (leads scope key) (ranked p at 0 one.names)))
          (answers try key (filter (leads scope key) (flat_map child_names_of (numbered (at + 1) some))))) is in
          let left : first_found (flat_map attempts (filter (is_child_of scope) (numbered at (one ∷ some))))
          ≡ option_or (first_found (map (attempted at) one.names))
          (first_found (flat_map attempts (filter (is_child_of scope) (numbered (at + 1) some)))) =
          rw (not_root, e) (first_append (map (attempted at) one.names)
          (flat_map attempts (filter (is_child_of scope) (numbered (at + 1) some)))) in
          left
          ∙ ap (option_or (first_found (map (attempted at) one.names))) behind
          ∙ ap (λ x. option_or x (answers try key (filter (leads scope key)
          (flat_map child_names_of (numbered (at + 1) some))))) (one_scope at 0 one.names)
          ∙ sym right
      by_test behind false e =
          let left : first_found (flat_map attempts (filter (is_child_of scope) (numbered at (one ∷ some))))
          ≡ first_found (flat_map attempts (filter (is_child_of scope) (numbered (at + 1) some))) =
          rw (not_root, e) refl in
          left ∙ behind
          ∙ sym (ap (answers try key) (filter_append (leads scope key) (child_names_of (one, at))
          (flat_map child_names_of (numbered (at + 1) some))
          ∙ ap (λ x. x ++ filter (leads scope key) (flat_map child_names_of (numbered (at + 1) some)))
          (other_scope one.parent at 0 one.names e)))

abbrev pub tried : ℕ → World → List PlanNode → Way → Option ℕ
tried steps world nodes way =
    option_or (own world nodes way.child way.rest) (qualified steps world nodes way.child way.rest)

abbrev begun : List PlanNode → List Scope
begun nodes = filter_map (λ at. option_map (scope_begun nodes at) (slice_get nodes at))
    (filter (begins nodes) (places nodes))

-- a qualified key's definition, of the ways in order
pub by_ways : (steps : ℕ) (world : World) (nodes : List PlanNode) (scope : ℕ) (key : List ℕ)
    → qualified (suc steps) world nodes scope key
    ≡ answers (tried steps world nodes) key (filter (leads scope key) (all_names (scopes nodes)))
unfolding qualified
by_ways steps world nodes scope key =
    all_scopes (tried steps world nodes)
    (λ child rest. option_or (own world nodes child rest) (qualified steps world nodes child rest)) scope key
    (λ child rank rest. refl) 1 (begun nodes) (omega arith)

abbrev pub tried_in : ℕ → List Scope → (ℕ → List ℕ → Option ℕ) → Way → Option ℕ
tried_in steps all own_at way =
    option_or (own_at way.child way.rest) (qualified_in steps all own_at way.child way.rest)

pub by_ways_in : (steps : ℕ) (all : List Scope) (own_at : ℕ → List ℕ → Option ℕ) (scope : ℕ) (key : List ℕ)
    → qualified_in (suc steps) all own_at scope key
    ≡ answers (tried_in steps all own_at) key (filter (leads scope key) (all_names all))
unfolding qualified_in
by_ways_in steps all own_at scope key = refl

-- over the scopes and the own definitions of nodes, the search finds what the language does
pub qualified_is : (steps : ℕ) (world : World) (nodes : List PlanNode) (scope : ℕ) (key : List ℕ)
    → qualified steps world nodes scope key ≡ qualified_in steps (scopes nodes) (own world nodes) scope key
unfolding qualified qualified_in
qualified_is zero world nodes scope key = refl
qualified_is (suc steps) world nodes scope key = by_ways steps world nodes scope key
    ∙ (λ i. answers (λ (way : Way). option_or (own world nodes way.child way.rest)
    (qualified_is steps world nodes way.child way.rest i)) key (filter (leads scope key) (all_names (scopes nodes))))

-- Steps beyond a key's length change nothing

same_answers : (f g : Way → Option ℕ) (scope : ℕ) (key : List ℕ) (names : List ChildName)
    → ((name : ChildName) → leads scope key name ≡ true → f (way_in key name) ≡ g (way_in key name))
    → answers f key (filter (leads scope key) names) ≡ answers g key (filter (leads scope key) names)
same_answers f g scope key [] same = refl
same_answers f g scope key (name ∷ names) same =
    by_one (same_answers f g scope key names same) (leads scope key name) refl
  where
    by_one : answers f key (filter (leads scope key) names) ≡ answers g key (filter (leads scope key) names)
        → (a : Bool) → leads scope key name ≡ a
        → answers f key (filter (leads scope key) (name ∷ names)) ≡ answers g key (filter (leads scope key) (name ∷ names))
    by_one behind true e =
        rw e (first_cons (f (way_in key name)) (map (λ n. f (way_in key n)) (filter (leads scope key) names))
        ∙ ap (λ x. option_or x (answers f key (filter (leads scope key) names))) (same name e)
        ∙ ap (option_or (g (way_in key name))) behind
        ∙ sym (first_cons (g (way_in key name)) (map (λ n. g (way_in key n)) (filter (leads scope key) names))))
    by_one behind false e = rw e behind

pub shorter : (scope : ℕ) (key : List ℕ) (name : ChildName) → leads scope key name ≡ true
    → length (way_in key name).rest < length key
shorter scope key name e =
    let low = leads_short scope key name e in
    omega (arith, low, length-drop (length name.name + 1) key)

none_lead : (scope : ℕ) (key : List ℕ) (names : List ChildName) → length key ≤ 0 → filter (leads scope key) names ≡ []
none_lead scope key [] short = refl
none_lead scope key (name ∷ names) short =
    by_one (none_lead scope key names short) (leads scope key name) refl
  where
    by_one : filter (leads scope key) names ≡ [] → (a : Bool) → leads scope key name ≡ a
        → filter (leads scope key) (name ∷ names) ≡ []
    by_one behind true e = let low = shorter scope key name e in absurd (omega (arith, low, short))
    by_one behind false e = rw e behind

module _ (all : List Scope) (own_at : ℕ → List ℕ → Option ℕ) where
  same_steps : (n m scope : ℕ) (key : List ℕ) → length key ≤ n → length key ≤ m
      → qualified_in n all own_at scope key ≡ qualified_in m all own_at scope key
  unfolding qualified_in
  same_steps zero zero scope key first second = refl
  same_steps zero (suc m) scope key first second =
      sym (ap (answers (tried_in m all own_at) key) (none_lead scope key (all_names all) first))
  same_steps (suc n) zero scope key first second =
      ap (answers (tried_in n all own_at) key) (none_lead scope key (all_names all) second)
  same_steps (suc n) (suc m) scope key first second =
      same_answers (tried_in n all own_at) (tried_in m all own_at) scope key (all_names all)
      (λ name e. let short = shorter scope key name e in
      ap (option_or (own_at name.child (way_in key name).rest))
      (same_steps n m name.child (way_in key name).rest (omega (arith, short, first)) (omega (arith, short, second))))

-- The search, way by way

-- by a way the scope's own definition, or again one by a way
abbrev pub by_way : List Scope → (ℕ → List ℕ → Option ℕ) → Way → Option ℕ
by_way all own_at way = option_or (own_at way.child way.rest) (by_names all own_at way.rest way.child)

-- of the ways behind the last one
abbrev pub behind_way : List Scope → (ℕ → List ℕ → Option ℕ) → ℕ → List ℕ → Option Way → Option ℕ
behind_way all own_at scope key last = answers (by_way all own_at) key
    (filter (λ name. leads scope key name && is_behind last name) (all_names all))

pub filter_same : (p q : ChildName → Bool) (names : List ChildName) → All (λ n. p n ≡ q n) names
    → filter p names ≡ filter q names
filter_same p q [] same = refl
filter_same p q (name ∷ names) same =
    by_one (filter_same p q names (All-tail (λ n. p n ≡ q n) name names same)) (q name) refl
    (All-head (λ n. p n ≡ q n) name names same)
  where
    by_one : filter p names ≡ filter q names → (a : Bool) → q name ≡ a → p name ≡ q name
        → filter p (name ∷ names) ≡ filter q (name ∷ names)
    by_one behind true e f = rw (f, e) (ap (λ some. name ∷ some) behind)
    by_one behind false e f = rw (f, e) behind

pub by_all_ways : (all : List Scope) (own_at : ℕ → List ℕ → Option ℕ) (scope : ℕ) (key : List ℕ)
    → by_names all own_at key scope ≡ behind_way all own_at scope key None
by_all_ways all own_at scope key =
    same_steps all own_at (length key) (suc (length key)) scope key (omega arith) (omega arith)
    ∙ by_ways_in (length key) all own_at scope key
    ∙ same_answers (tried_in (length key) all own_at) (by_way all own_at) scope key (all_names all)
    (λ name e. let short = shorter scope key name e in
    ap (option_or (own_at name.child (way_in key name).rest))
    (same_steps all own_at (length key) (length (way_in key name).rest) name.child (way_in key name).rest
    (omega (arith, short)) (omega arith)))
    ∙ ap (answers (by_way all own_at) key) (filter_same (leads scope key) (λ name. leads scope key name && true)
    (all_names all) (all_each (λ name. leads scope key name ≡ (leads scope key name && true))
    (all_names all) (λ name. sym (and_true (leads scope key name)))))
