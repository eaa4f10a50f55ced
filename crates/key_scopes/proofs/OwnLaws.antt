-- A scope's own definition is that of the least level, and of these the first; so it is the first entry in order.
use Rattle.std.specs.Prelude.{◌≡◌, ◌+◌, ◌<◌, ◌≤◌, ◌==◌, ◌&&◌, ◌++◌, ◌⊎◌, ℕ, zero, suc, Bool, true, false, List, [], ◌∷◌, Option, Some, None, bytes_eq, filter, find, length, map, nat_lt, option_map}
use Rattle.std.specs.List.{All, Contains, flat_map, list_any}
use Rattle.std.specs.List.Sorted.{IsPermutation}
use Rattle.std.specs.Option.{option_or}
use Rattle.std.specs.Ordering.{is_lt, nat_cmp, ordering_then}
use Rattle.std.proofs.Common.{Less, Equal, refl, sym, ap, subst, ◌∙◌, arith, inl, inr}
use Rattle.std.proofs.lemmas.Bool.{and_from, cases_Bool, eq-eqb, eqb-true, or_right, true≢false}
use Rattle.std.proofs.lemmas.Bool.Decides.{nat_tests}
use Rattle.std.proofs.lemmas.Cmp.{nat_cmp_total, nat_list_cmp_total, tied_itself}
use Rattle.std.proofs.lemmas.List.Elements.{All-append, All-cons, All-contains, All-map, All-nil, All-weaker, Contains-append_left, Contains-append_right, Contains-push}
use Rattle.std.proofs.lemmas.List.Folds.{find-append}
use Rattle.std.proofs.lemmas.List.Sorted.{All-permutation, Contains-permutation}
use Rattle.dita_doc.specs.declared.plan.PlanNode.{PlanNode}
use Rattle.dita_doc.proofs.Tests.{equal_text, first_holds, same_text, second_holds}
use Rattle.key_scopes.specs.Defined.{AreFirsts, AreOrdered, first_by, is_entry_before, is_level_within}
use Rattle.key_scopes.specs.Numbered.{KeyEntry, entries_at, entry, level_at}
use Rattle.key_scopes.specs.Table.{First, own_in}
use Rattle.key_scopes.proofs.FirstLaws.{IsSearched, NotBefore, find_filter, find_is, find_none, first_among, least, matches, searched}
use Rattle.map_spec.specs.Scopes.{is_at_level, is_defined_at, is_in_scope, keys_defined, own, places, places_from, scope_at}
use Rattle.reader_spec.specs.World.{World}

-- The least level

pub record IsLeast (hit : ℕ → ℕ → Bool) (from to count at : ℕ) : Type 0 where
  pub level : ℕ
  pub here : hit level at ≡ true
  pub low : from ≤ level
  pub high : level < to
  pub within : at < count
  pub lower : (other place : ℕ) → from ≤ other → other < level → place < count → hit other place ≡ false
  pub first : (place : ℕ) → place < at → hit level place ≡ false

abbrev IsLeastOf : (ℕ → ℕ → Bool) → ℕ → ℕ → ℕ → Option ℕ → Type 0
IsLeastOf hit from to count None =
    (other place : ℕ) → from ≤ other → other < to → place < count → hit other place ≡ false
IsLeastOf hit from to count (Some at) = IsLeast hit from to count at

module _ (hit : ℕ → ℕ → Bool) (from to count : ℕ) (in_range : from < to) where
  -- at the first level, or else at one behind it
  or_later : (here later : Option ℕ) → IsSearched (hit from) 0 count here → IsLeastOf hit (from + 1) to count later
      → IsLeastOf hit from to count (option_or here later)
  or_later (Some at) later found behind = record {
    level = from;
    here = found.here;
    low = omega arith;
    high = in_range;
    within = found.high;
    lower = λ other place low high within. absurd (omega arith);
    first = λ place less. found.first place (omega arith) less;
  }
  or_later None None none behind = λ other place low high within. by_test other place low high within
      (cases_Bool (other == from))
    where
      by_test : (other place : ℕ) → from ≤ other → other < to → place < count
          → ((other == from) ≡ true) ⊎ ((other == from) ≡ false) → hit other place ≡ false
      by_test other place low high within (inl same) =
          ap (λ l. hit l place) (eqb-true other from same) ∙ none place (omega arith) within
      by_test other place low high within (inr differs) =
          let less : from + 1 ≤ other = grind (arith, nat_tests) in behind other place less high within
  or_later None (Some at) none behind = record {
    level = behind.level;
    here = behind.here;
    low = let less = behind.low in omega (arith, less);
    high = behind.high;
    within = behind.within;
    lower = λ other place low high within. by_test other place low high within (cases_Bool (other == from));
    first = behind.first;
  }
    where
      by_test : (other place : ℕ) → from ≤ other → other < behind.level → place < count
          → ((other == from) ≡ true) ⊎ ((other == from) ≡ false) → hit other place ≡ false
      by_test other place low high within (inl same) =
          ap (λ l. hit l place) (eqb-true other from same) ∙ none place (omega arith) within
      by_test other place low high within (inr differs) =
          let less : from + 1 ≤ other = grind (arith, nat_tests) in behind.lower other place less high within

module _ (world : World) (nodes : List PlanNode) (scope : ℕ) (key : List ℕ) where
  abbrev hit : ℕ → ℕ → Bool
  hit level at = is_in_scope nodes scope at && (is_at_level nodes level at && is_defined_at world nodes key at)

  abbrev at_one : ℕ → List ℕ
  at_one level = filter (is_at_level nodes level) (filter (is_in_scope nodes scope) (places nodes))

  one_level : (level : ℕ) → find (is_defined_at world nodes key) (at_one level) ≡ find (hit level) (places nodes)
  one_level level =
      find_filter (is_defined_at world nodes key) (is_at_level nodes level)
      (filter (is_in_scope nodes scope) (places nodes))
      ∙ find_filter (λ at. is_at_level nodes level at && is_defined_at world nodes key at) (is_in_scope nodes scope)
      (places nodes)

  by_levels : (some : List PlanNode) (from to : ℕ) → from + length some ≡ to
      → IsLeastOf hit from to (length nodes)
      (find (is_defined_at world nodes key) (flat_map at_one (places_from from some)))
  by_levels [] from to long = λ other place low high within. absurd (omega arith)
  by_levels (node ∷ some) from to long =
      subst (IsLeastOf hit from to (length nodes))
      (sym (find-append (is_defined_at world nodes key) (at_one from) (flat_map at_one (places_from (from + 1) some))))
      (or_later hit from to (length nodes) (omega arith)
      (find (is_defined_at world nodes key) (at_one from))
      (find (is_defined_at world nodes key) (flat_map at_one (places_from (from + 1) some)))
      (subst (IsSearched (hit from) 0 (length nodes)) (sym (one_level from))
      (searched (hit from) 0 (length nodes) nodes (omega arith)))
      (by_levels some (from + 1) to (omega arith)))

  own_least : IsLeastOf hit 0 (length nodes) (length nodes) (own world nodes scope key)
  own_least = by_levels nodes 0 (length nodes) (omega arith)

-- The entries of all nodes

record IsEntry (world : World) (nodes : List PlanNode) (e : KeyEntry) : Type 0 where
  pub within : e.3 < length nodes
  pub scope : e.1 ≡ scope_at nodes e.3
  pub level : e.2 ≡ level_at nodes e.3
  pub defined : is_defined_at world nodes e.0 e.3 ≡ true

any_self : (keys : List (List ℕ)) → All (λ key. list_any (bytes_eq key) keys ≡ true) keys
any_self [] = All-nil (λ key. list_any (bytes_eq key) [] ≡ true)
any_self (first ∷ keys) =
    let same : bytes_eq first first ≡ true = equal_text first first refl in
    All-cons (λ key. list_any (bytes_eq key) (first ∷ keys) ≡ true) first keys (rw same refl)
    (All-weaker (λ key. list_any (bytes_eq key) keys ≡ true) (λ key. list_any (bytes_eq key) (first ∷ keys) ≡ true)
    (λ key e. or_right (bytes_eq key first) (list_any (bytes_eq key) keys) e) keys (any_self keys))

module _ (world : World) (nodes : List PlanNode) where
  entries_one : (at : ℕ) → at < length nodes → All (IsEntry world nodes) (entries_at world nodes at)
  entries_one at within =
      All-map (IsEntry world nodes) (entry (scope_at nodes at) (level_at nodes at) at) (keys_defined world nodes at)
      (All-weaker (λ key. list_any (bytes_eq key) (keys_defined world nodes at) ≡ true)
      (λ key. IsEntry world nodes (entry (scope_at nodes at) (level_at nodes at) at key))
      (λ key e. record { within = within; scope = refl; level = refl; defined = e })
      (keys_defined world nodes at) (any_self (keys_defined world nodes at)))

  all_entries : (some : List PlanNode) (from : ℕ) → from + length some ≡ length nodes
      → All (IsEntry world nodes) (flat_map (entries_at world nodes) (places_from from some))
  all_entries [] from long = All-nil (IsEntry world nodes)
  all_entries (node ∷ some) from long =
      All-append (IsEntry world nodes) (entries_at world nodes from)
      (flat_map (entries_at world nodes) (places_from (from + 1) some))
      (entries_one from (omega arith)) (all_entries some (from + 1) (omega arith))

contains_key : (make : List ℕ → KeyEntry) (keys : List (List ℕ)) (key : List ℕ) → list_any (bytes_eq key) keys ≡ true
    → Contains (map make keys) (make key)
contains_key make [] key there = absurd (cc)
contains_key make (first ∷ keys) key there = by_one (λ e. contains_key make keys key e) (bytes_eq key first) refl
  where
    by_one : (list_any (bytes_eq key) keys ≡ true → Contains (map make keys) (make key)) → (a : Bool)
        → bytes_eq key first ≡ a → Contains (map make (first ∷ keys)) (make key)
    by_one behind true e =
        subst (λ text. Contains (make first ∷ map make keys) (make text)) (sym (same_text key first e))
        (Contains-append_left (make first ∷ []) (map make keys) (make first) (Contains-push [] (make first)))
    by_one behind false e =
        Contains-append_right (make first ∷ []) (map make keys) (make key) (behind (rw e at there))

contains_at : (give : ℕ → List KeyEntry) (some : List PlanNode) (from at : ℕ) (e : KeyEntry) → from ≤ at
    → at < from + length some → Contains (give at) e → Contains (flat_map give (places_from from some)) e
contains_at give [] from at e low high there = absurd (omega arith)
contains_at give (node ∷ some) from at e low high there =
    by_test (λ less. contains_at give some (from + 1) at e less (omega arith) there) (cases_Bool (at == from))
  where
    by_test : (from + 1 ≤ at → Contains (flat_map give (places_from (from + 1) some)) e)
        → ((at == from) ≡ true) ⊎ ((at == from) ≡ false)
        → Contains (give from ++ flat_map give (places_from (from + 1) some)) e
    by_test behind (inl same) =
        Contains-append_left (give from) (flat_map give (places_from (from + 1) some)) e
        (subst (λ place. Contains (give place) e) (eqb-true at from same) there)
    by_test behind (inr differs) =
        let less : from + 1 ≤ at = grind (arith, nat_tests) in
        Contains-append_right (give from) (flat_map give (places_from (from + 1) some)) e (behind less)

-- the level of a node
pub level_is : (nodes : List PlanNode) (level at : ℕ) → at < length nodes
    → (level_at nodes at == level) ≡ is_at_level nodes level at
level_is [] level at within = absurd (omega arith)
level_is (node ∷ nodes) level zero within = refl
level_is (node ∷ nodes) level (suc at) within = level_is nodes level at (omega arith)

-- The first in order

less_is : (a b : ℕ) → a < b → nat_cmp a b ≡ Less
less_is a b less = let test : nat_lt a b ≡ true = grind (arith, nat_tests) in rw test refl

same_is : (a b : ℕ) → a ≡ b → nat_cmp a b ≡ Equal
same_is a b same = ap (nat_cmp a) (sym same) ∙ tied_itself nat_cmp_total a

level_before : (a b at place : ℕ) → a < b → is_lt (ordering_then (nat_cmp a b) (nat_cmp at place)) ≡ true
level_before a b at place less = rw (less_is a b less) refl

place_before : (a b at place : ℕ) → a ≡ b → at < place → is_lt (ordering_then (nat_cmp a b) (nat_cmp at place)) ≡ true
place_before a b at place same less = rw (same_is a b same, less_is at place less) refl

not_before : (key : List ℕ) (scope level at : ℕ) (e : KeyEntry) → e.0 ≡ key → e.1 ≡ scope
    → is_entry_before (key, scope, level, at) e ≡ is_lt (ordering_then (nat_cmp level e.2) (nat_cmp at e.3))
not_before key scope level at e key_is scope_is =
    rw (key_is, scope_is, tied_itself nat_list_cmp_total key, tied_itself nat_cmp_total scope) refl

module _ (world : World) (nodes : List PlanNode) (scope : ℕ) (key : List ℕ) where
  abbrev counts : KeyEntry → Bool
  counts e = is_level_within (length nodes) e && matches scope key e

  entry_hit : (e : KeyEntry) → IsEntry world nodes e → matches scope key e ≡ true → hit world nodes scope key e.2 e.3
      ≡ true
  entry_hit e is matched =
      let scope_is = eqb-true e.1 scope (first_holds (e.1 == scope) (bytes_eq key e.0) matched) in
      let key_is = same_text key e.0 (second_holds (e.1 == scope) (bytes_eq key e.0) matched) in
      and_from (is_in_scope nodes scope e.3) (is_at_level nodes e.2 e.3 && is_defined_at world nodes key e.3)
      (eq-eqb (scope_at nodes e.3) scope (sym is.scope ∙ scope_is))
      (and_from (is_at_level nodes e.2 e.3) (is_defined_at world nodes key e.3)
      (sym (level_is nodes e.2 e.3 is.within) ∙ eq-eqb (level_at nodes e.3) e.2 (sym is.level))
      (ap (λ text. is_defined_at world nodes text e.3) key_is ∙ is.defined))

  hit_entry : (level at : ℕ) → at < length nodes → hit world nodes scope key level at ≡ true
      → Contains (flat_map (entries_at world nodes) (places nodes)) (key, scope, level, at)
  hit_entry level at within here =
      let in_scope = first_holds (is_in_scope nodes scope at)
      (is_at_level nodes level at && is_defined_at world nodes key at) here in
      let both = second_holds (is_in_scope nodes scope at)
      (is_at_level nodes level at && is_defined_at world nodes key at) here in
      let scope_is = eqb-true (scope_at nodes at) scope in_scope in
      let level_same = eqb-true (level_at nodes at) level
      (level_is nodes level at within ∙ first_holds (is_at_level nodes level at) (is_defined_at world nodes key at)
      both) in
      contains_at (entries_at world nodes) nodes 0 at (key, scope, level, at) (omega arith) (omega arith)
      (subst (λ l. Contains (entries_at world nodes at) (key, scope, l, at)) level_same
      (subst (λ s. Contains (entries_at world nodes at) (key, s, level_at nodes at, at)) scope_is
      (contains_key (entry (scope_at nodes at) (level_at nodes at) at) (keys_defined world nodes at) key
      (second_holds (is_at_level nodes level at) (is_defined_at world nodes key at) both))))

  counts_it : (level at : ℕ) → level < length nodes → counts (key, scope, level, at) ≡ true
  counts_it level at high =
      let less : nat_lt level (length nodes) ≡ true = grind (arith, nat_tests) in
      and_from (nat_lt level (length nodes)) ((scope == scope) && bytes_eq key key) less
      (and_from (scope == scope) (bytes_eq key key) (eq-eqb scope scope refl) (equal_text key key refl))

  abbrev node_of : Option KeyEntry → Option ℕ
  node_of found = option_map (λ (e : KeyEntry). e.3) found

  module _ (sorted : List KeyEntry) (permuted : IsPermutation (flat_map (entries_at world nodes) (places nodes)) sorted)
      (ordered : AreOrdered sorted) where
    all_are : All (IsEntry world nodes) sorted
    all_are = All-permutation (IsEntry world nodes) (flat_map (entries_at world nodes) (places nodes)) sorted permuted
        (all_entries world nodes nodes 0 (omega arith))

    there_is : (level at : ℕ) → at < length nodes → hit world nodes scope key level at ≡ true
        → Contains sorted (key, scope, level, at)
    there_is level at within here =
        Contains-permutation (flat_map (entries_at world nodes) (places nodes)) sorted (key, scope, level, at) permuted
        (hit_entry level at within here)

    by_both : (found : Option KeyEntry) → find counts sorted ≡ found → (node : Option ℕ)
        → IsLeastOf (hit world nodes scope key) 0 (length nodes) (length nodes) node → node_of found ≡ node
    by_both None none None is = refl
    by_both None none (Some at) is =
        absurd (true≢false (sym (counts_it is.level at is.high)
        ∙ All-contains (λ e. counts e ≡ false) sorted (key, scope, is.level, at) (find_none counts sorted none)
        (there_is is.level at is.within is.here)))
    by_both (Some e) found None is =
        let both = find_is (IsEntry world nodes) counts sorted e found all_are in
        let level_in : nat_lt e.2 (length nodes) ≡ true =
        first_holds (nat_lt e.2 (length nodes)) (matches scope key e) both.1 in
        let matched = second_holds (nat_lt e.2 (length nodes)) (matches scope key e) both.1 in
        let high : e.2 < length nodes = grind (arith, nat_tests) in
        absurd (true≢false (sym (entry_hit e both.0 matched) ∙ is e.2 e.3 (omega arith) high both.0.within))
    by_both (Some e) found (Some at) is =
        let both = find_is (IsEntry world nodes) counts sorted e found all_are in
        let level_in : nat_lt e.2 (length nodes) ≡ true =
        first_holds (nat_lt e.2 (length nodes)) (matches scope key e) both.1 in
        let matched = second_holds (nat_lt e.2 (length nodes)) (matches scope key e) both.1 in
        let key_is = same_text key e.0 (second_holds (e.1 == scope) (bytes_eq key e.0) matched) in
        let scope_is = eqb-true e.1 scope (first_holds (e.1 == scope) (bytes_eq key e.0) matched) in
        let here = entry_hit e both.0 matched in
        let not : is_lt (ordering_then (nat_cmp is.level e.2) (nat_cmp at e.3)) ≡ false =
        sym (not_before key scope is.level at e (sym key_is) scope_is)
        ∙ All-contains (NotBefore counts e) sorted (key, scope, is.level, at) (least counts sorted e ordered found)
        (there_is is.level at is.within is.here) (counts_it is.level at is.high) in
        ap Some (same_place e at is.level both.0.within here not is.lower is.first
        (cases_Bool (nat_lt is.level e.2)) (cases_Bool (nat_lt e.2 is.level)) (cases_Bool (nat_lt at e.3))
        (cases_Bool (nat_lt e.3 at)))
      where
        same_place : (e : KeyEntry) (at level : ℕ) → e.3 < length nodes → hit world nodes scope key e.2 e.3 ≡ true
            → is_lt (ordering_then (nat_cmp level e.2) (nat_cmp at e.3)) ≡ false
            → ((other place : ℕ) → 0 ≤ other → other < level → place < length nodes
            → hit world nodes scope key other place ≡ false)
            → ((place : ℕ) → place < at → hit world nodes scope key level place ≡ false)
            → (nat_lt level e.2 ≡ true) ⊎ (nat_lt level e.2 ≡ false)
            → (nat_lt e.2 level ≡ true) ⊎ (nat_lt e.2 level ≡ false)
            → (nat_lt at e.3 ≡ true) ⊎ (nat_lt at e.3 ≡ false)
            → (nat_lt e.3 at ≡ true) ⊎ (nat_lt e.3 at ≡ false) → e.3 ≡ at
        same_place e at level within here not lower first (inl a) b c d =
            let less : level < e.2 = grind (arith, nat_tests) in
            absurd (true≢false (sym (level_before level e.2 at e.3 less) ∙ not))
        same_place e at level within here not lower first (inr a) (inl b) c d =
            let less : e.2 < level = grind (arith, nat_tests) in
            absurd (true≢false (sym here ∙ lower e.2 e.3 (omega arith) less within))
        same_place e at level within here not lower first (inr a) (inr b) (inl c) d =
            let same : level ≡ e.2 = grind (arith, nat_tests) in
            let less : at < e.3 = grind (arith, nat_tests) in
            absurd (true≢false (sym (place_before level e.2 at e.3 same less) ∙ not))
        same_place e at level within here not lower first (inr a) (inr b) (inr c) (inl d) =
            let same : e.2 ≡ level = grind (arith, nat_tests) in
            let less : e.3 < at = grind (arith, nat_tests) in
            absurd (true≢false (sym here ∙ ap (λ l. hit world nodes scope key l e.3) same ∙ first e.3 less))
        same_place e at level within here not lower first (inr a) (inr b) (inr c) (inr d) = grind (arith, nat_tests)

  node_first : (found : Option KeyEntry) → option_map (λ (first : First). first.node) (option_map first_by found)
      ≡ node_of found
  node_first None = refl
  node_first (Some e) = refl

  -- the first definition among entries of all nodes is the scope's own
  pub own_is : (count : ℕ) (entries : List KeyEntry) (firsts : List First) → count ≡ length nodes
      → entries ≡ flat_map (entries_at world nodes) (places nodes) → AreFirsts count entries firsts
      → own_in firsts scope key ≡ own world nodes scope key
  own_is count entries firsts long all are =
      let permuted = subst (λ some. IsPermutation some are.sorted) all are.permuted in
      ap (λ some. own_in some scope key) are.are
      ∙ ap (λ found. option_map (λ (first : First). first.node) found)
      (first_among scope key (filter (is_level_within count) are.sorted) [])
      ∙ node_first (find (matches scope key) (filter (is_level_within count) are.sorted))
      ∙ ap node_of (find_filter (matches scope key) (is_level_within count) are.sorted
      ∙ ap (λ n. find (λ e. is_level_within n e && matches scope key e) are.sorted) long)
      ∙ by_both are.sorted permuted are.ordered (find counts are.sorted) refl (own world nodes scope key)
      (own_least world nodes scope key)
