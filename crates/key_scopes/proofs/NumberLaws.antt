-- The scopes, and what nodes define, with one more node.
use Rattle.std.specs.Prelude.{◌≡◌, ◌+◌, ◌<◌, ◌==◌, ◌&&◌, ◌++◌, ℕ, zero, suc, Bool, true, false, not, List, [], ◌∷◌, Option, Some, count_by, filter, find, length, map, slice_get, take, unwrap_or, if◌then◌else◌}
use Rattle.std.specs.List.{filter_map}
use Rattle.std.proofs.Common.{refl, sym, ap, ◌∙◌, arith, length-append}
use Rattle.std.proofs.lemmas.Bool.Decides.{nat_tests}
use Rattle.std.proofs.lemmas.List.{append-nil, append_assoc, take_all}
use Rattle.std.proofs.lemmas.List.Elements.{filter_map-append, filter-append}
use Rattle.std.proofs.lemmas.List.Sums.{sum_by-cons}
use Rattle.dita_doc.specs.declared.fault.FaultCode.TheVariants as faults
use Rattle.dita_doc.specs.declared.plan.PlanNode.{PlanNode}
use Rattle.dita_doc.specs.declared.plan.Scope.{Scope}
use Rattle.key_scopes.specs.declared.numbering.Numbering.{Numbering}
use Rattle.key_scopes.specs.Numbered.{AreNumbered, IsNew, IsPut, IsScopePut, entries, entries_at, entry, faults_at, has_name, keys_name, keys_written, place_in, scope_around, scope_of, scope_placed, scopes_before, scopes_put, told_at}
use Rattle.key_scopes.proofs.PlaceLaws.{all_more}
use Rattle.plan_nodes.proofs.HomeLaws.{value_same}
use Rattle.plan_nodes.proofs.PlaceLaws.{known, known_at, known_more, place_more, up_from}
use Rattle.map_spec.specs.Cascade.{places_up, whole_at}
use Rattle.map_spec.specs.Scopes.{bad_names, begins, good_names, has_scope_name, key_name_faults, keys_defined, keys_of, may_define, node_fault, number_of, places, root_scope, scope_at, scope_begun, scope_faults, scope_on}
use Rattle.map_spec.specs.Written.{Whole}
use Rattle.plan_nodes.specs.Home.{value_at}
use Rattle.plan_nodes.specs.Preorder.{HasParentsBefore, is_in_table_at, tables_around}
use Rattle.reader_spec.specs.World.{World}

-- How many scopes stand before a node

abbrev counted : ℕ → List PlanNode → ℕ
counted at nodes = count_by has_scope_name (take at nodes)

abbrev pub one_if : Bool → ℕ
one_if begun = if begun then 1 else 0

count_first : (first : PlanNode) (nodes : List PlanNode)
    → count_by has_scope_name (first ∷ nodes) ≡ one_if (has_scope_name first) + count_by has_scope_name nodes
count_first first nodes = sum_by-cons (λ (node : PlanNode). if has_scope_name node then 1 else 0) first nodes

counted_more : (nodes : List PlanNode) (at : ℕ) (node : PlanNode) → slice_get nodes at ≡ Some node
    → counted (suc at) nodes ≡ counted at nodes + one_if (has_scope_name node)
counted_more [] at node is = absurd (cc)
counted_more (first ∷ nodes) zero node is =
    let same : first ≡ node = cc in
    let alike : one_if (has_scope_name first) ≡ one_if (has_scope_name node) =
    ap (λ (some : PlanNode). one_if (has_scope_name some)) same in
    omega (arith, alike)
counted_more (first ∷ nodes) (suc at) node is =
    let behind = counted_more nodes at node is in
    count_first first (take (suc at) nodes)
    ∙ ap (λ count. one_if (has_scope_name first) + count) behind
    ∙ again (one_if (has_scope_name first)) (counted at nodes) (one_if (has_scope_name node))
    ∙ ap (λ count. count + one_if (has_scope_name node)) (sym (count_first first (take at nodes)))
  where
    again : (a b c : ℕ) → a + (b + c) ≡ a + b + c
    again a b c = omega arith

number_more : (nodes : List PlanNode) (at : ℕ) (node : PlanNode) → slice_get nodes at ≡ Some node → 0 < at
    → number_of nodes (at + 1) ≡ number_of nodes at + one_if (has_scope_name node)
number_more [] at node is above = absurd (cc)
number_more (first ∷ nodes) zero node is above = absurd (omega arith)
number_more (first ∷ nodes) (suc at) node is above =
    let more : suc at + 1 ≡ suc (suc at) = omega arith in
    ap (number_of (first ∷ nodes)) more ∙ ap (λ count. 1 + count) (counted_more nodes at node is)
    ∙ again (counted at nodes) (one_if (has_scope_name node))
  where
    again : (b c : ℕ) → 1 + (b + c) ≡ 1 + b + c
    again b c = omega arith

-- The scopes begun

pub begun_more : (nodes : List PlanNode) (at : ℕ) (node : PlanNode) → slice_get nodes at ≡ Some node → at < length nodes
    → scopes_before nodes (at + 1)
    ≡ scopes_before nodes at ++ (if has_name at node then scope_begun nodes at node ∷ [] else [])
begun_more nodes at node is within =
    let earlier = places (take at nodes) in
    ap (λ all. root_scope ∷ filter_map (scope_placed nodes) (filter (begins nodes) all))
    (place_more nodes at node within)
    ∙ ap (λ some. root_scope ∷ filter_map (scope_placed nodes) some) (filter-append (begins nodes) earlier (at ∷ []))
    ∙ ap (λ some. root_scope ∷ some)
    (filter_map-append (scope_placed nodes) (filter (begins nodes) earlier) (filter (begins nodes) (at ∷ [])))
    ∙ ap (λ last. scopes_before nodes at ++ last) (by_one (has_name at node) refl)
  where
    begins_it : begins nodes at ≡ has_name at node
    begins_it = rw is refl

    by_one : (a : Bool) → has_name at node ≡ a
        → filter_map (scope_placed nodes) (filter (begins nodes) (at ∷ []))
        ≡ (if has_name at node then scope_begun nodes at node ∷ [] else [])
    by_one true e = rw (begins_it, e, is) refl
    by_one false e = rw (begins_it, e) refl

-- as many as are counted
pub count_put : (nodes : List PlanNode) (at : ℕ) (node : PlanNode) → slice_get nodes at ≡ Some node
    → number_of nodes (at + 1) ≡ number_of nodes at + one_if (has_name at node)
count_put [] at node is = absurd (cc)
count_put (first ∷ nodes) zero node is = refl
count_put (first ∷ nodes) (suc at) node is =
    let other : (suc at == 0) ≡ false = grind (arith, nat_tests) in
    number_more (first ∷ nodes) (suc at) node is (omega arith)
    ∙ ap (λ root. number_of (first ∷ nodes) (suc at) + one_if (not root && has_scope_name node)) (sym other)

pub longer : (old : List Scope) (scope : Scope) (begun : Bool) (count : ℕ) → length old ≡ count
    → length (old ++ (if begun then scope ∷ [] else [])) ≡ count + one_if begun
longer old scope true count long = omega (arith, long, length-append old (scope ∷ []))
longer old scope false count long = ap length (append-nil old) ∙ omega (arith, long)

-- The scope of a node

scope_root : (nodes : List PlanNode) → scope_at nodes 0 ≡ 0
scope_root nodes = refl

module _ (nodes : List PlanNode) (before : HasParentsBefore nodes) (at : ℕ) (node : PlanNode)
    (is : slice_get nodes at ≡ Some node) where
  begins_it : begins nodes at ≡ has_name at node
  begins_it = rw is refl

  pub scope_above : 0 < at
      → scope_at nodes at ≡ (if has_scope_name node then number_of nodes at else scope_at nodes node.parent)
  scope_above above =
      let other : (at == 0) ≡ false = grind (arith, nat_tests) in
      let begun : begins nodes at ≡ has_scope_name node =
      begins_it ∙ ap (λ root. not root && has_scope_name node) other in
      ap (λ up. scope_on nodes (find (begins nodes) up)) (up_from nodes before at node is above)
      ∙ by_one (has_scope_name node) begun
    where
      by_one : (a : Bool) → begins nodes at ≡ a
          → scope_on nodes (find (begins nodes) (at ∷ places_up nodes node.parent))
          ≡ (if a then number_of nodes at else scope_at nodes node.parent)
      by_one true e = rw e refl
      by_one false e = rw e refl

-- by what is known of those before it
scope_known : (nodes : List PlanNode) → HasParentsBefore nodes → (at : ℕ) (node : PlanNode)
    → slice_get nodes at ≡ Some node → at < length nodes → (places : List ℕ) (count : ℕ)
    → places ≡ known (scope_at nodes) nodes at → count ≡ number_of nodes at
    → (if at == 0 then 0 else if has_scope_name node then count else place_in places node.parent) ≡ scope_at nodes at
scope_known nodes before zero node is within places count told long = refl
scope_known nodes before (suc at) node is within places count told long =
    let other : (suc at == 0) ≡ false = grind (arith, nat_tests) in
    let up = before (suc at) node (omega arith) is in
    let around : place_in places node.parent ≡ scope_at nodes node.parent =
    ap (λ all. place_in all node.parent) told
    ∙ ap (λ found. unwrap_or found 0) (known_at (scope_at nodes) nodes node.parent (suc at) up (omega arith)) in
    ap (λ root. if root then 0 else if has_scope_name node then count else place_in places node.parent) other
    ∙ ap (λ some. if has_scope_name node then some else place_in places node.parent) long
    ∙ ap (λ some. if has_scope_name node then number_of nodes (suc at) else some) around
    ∙ sym (scope_above nodes before (suc at) node is (omega arith))

around_known : (nodes : List PlanNode) → HasParentsBefore nodes → (at : ℕ) (node : PlanNode)
    → slice_get nodes at ≡ Some node → at < length nodes → (places : List ℕ)
    → places ≡ known (scope_at nodes) nodes at → 0 < at → place_in places node.parent ≡ scope_at nodes node.parent
around_known nodes before at node is within places told above =
    let up = before at node above is in
    ap (λ all. place_in all node.parent) told
    ∙ ap (λ found. unwrap_or found 0) (known_at (scope_at nodes) nodes node.parent at up (omega arith))

-- the scope that it begins
begun_known : (nodes : List PlanNode) → HasParentsBefore nodes → (at : ℕ) (node : PlanNode)
    → slice_get nodes at ≡ Some node → at < length nodes → (places : List ℕ)
    → places ≡ known (scope_at nodes) nodes at → (scope : ℕ) → scope ≡ place_in places node.parent
    → (if has_name at node then record { parent = scope; node = at; names = good_names node.scope_names } ∷ [] else [])
    ≡ (if has_name at node then scope_begun nodes at node ∷ [] else [])
begun_known nodes before zero node is within places told scope same = refl
begun_known nodes before (suc at) node is within places told scope same =
    let there = same ∙ around_known nodes before (suc at) node is within places told (omega arith) in
    ap (λ (some : ℕ). if has_name (suc at) node
    then record { parent = some; node = suc at; names = good_names node.scope_names } ∷ [] else []) there

-- What it defines, and its faults

module _ (world : World) (nodes : List PlanNode) (at : ℕ) (node : PlanNode) (is : slice_get nodes at ≡ Some node) where
  faults_here : (in_table : Bool) → in_table ≡ is_in_table_at nodes at
      → scope_faults at node ++ map (node_fault node faults.BadKeyName)
      (bad_names (if may_define node.kind && not in_table then keys_of world node else []))
      ≡ faults_at world nodes at
  faults_here in_table same =
      ap (λ within. scope_faults at node ++ map (node_fault node faults.BadKeyName)
      (bad_names (if may_define node.kind && not within then keys_of world node else []))) same
      ∙ ap (λ some. scope_faults at node ++ some) (by_one (may_define node.kind && not (is_in_table_at nodes at)))
      ∙ whole
    where
      by_one : (a : Bool)
          → map (node_fault node faults.BadKeyName) (bad_names (if a then keys_of world node else []))
          ≡ (if a then map (node_fault node faults.BadKeyName) (bad_names (keys_of world node)) else [])
      by_one true = refl
      by_one false = refl

      whole : scope_faults at node ++ key_name_faults world nodes at node ≡ faults_at world nodes at
      whole = rw is refl

  keys_here : (in_table : Bool) → in_table ≡ is_in_table_at nodes at
      → good_names (if may_define node.kind && not in_table then keys_of world node else [])
      ≡ keys_defined world nodes at
  keys_here in_table same =
      ap (λ within. good_names (if may_define node.kind && not within then keys_of world node else [])) same
      ∙ by_two (may_define node.kind) (is_in_table_at nodes at) ∙ whole
    where
      by_two : (a b : Bool) → good_names (if a && not b then keys_of world node else [])
          ≡ (if b then [] else if a then good_names (keys_of world node) else [])
      by_two true true = refl
      by_two true false = refl
      by_two false true = refl
      by_two false false = refl

      whole : (if is_in_table_at nodes at then []
          else if may_define node.kind then good_names (keys_of world node) else [])
          ≡ keys_defined world nodes at
      whole = rw is refl

  entries_here : (scope : ℕ) (keys : List (List ℕ)) → scope ≡ scope_at nodes at → keys ≡ keys_defined world nodes at
      → map (entry scope node.level at) keys ≡ entries_at world nodes at
  entries_here scope keys same defined =
      ap (λ some. map (entry some node.level at) keys) same
      ∙ ap (map (entry (scope_at nodes at) node.level at)) defined ∙ rw is refl

-- what a node puts is what it adds
pub number_put : (world : World) (homes : List (Option Whole)) (nodes : List PlanNode) (at : ℕ) (node : PlanNode)
    (in_table : Bool) (old new : Numbering) → homes ≡ map (whole_at world) nodes → HasParentsBefore nodes
    → at < length nodes → slice_get nodes at ≡ Some node → in_table ≡ is_in_table_at nodes at
    → AreNumbered world nodes at old
    → IsPut at node (keys_written (may_define node.kind && not in_table) (value_at homes at keys_name)) old new
    → AreNumbered world nodes (at + 1) new
number_put world homes nodes at node in_table old new same before within is table known put =
    let value = value_same world homes nodes at node keys_name same is in
    let keys : keys_written (may_define node.kind && not in_table) (value_at homes at keys_name)
    ≡ (if may_define node.kind && not in_table then keys_of world node else []) =
    ap (keys_written (may_define node.kind && not in_table)) value in
    let scope : scope_of at node old ≡ scope_at nodes at =
    scope_known nodes before at node is within old.places.items (length old.scopes) known.each known.long in
    let begun = begun_known nodes before at node is within old.places.items known.each (scope_around node old) refl in
    record {
      scopes = put.scopes ∙ ap (λ some. some ++ scopes_put at node old) known.scopes
          ∙ ap (λ last. scopes_before nodes at ++ last) begun ∙ sym (begun_more nodes at node is within);
      long = ap length put.scopes
          ∙ longer old.scopes (record {
            parent = scope_around node old;
            node = at;
            names = good_names
                node.scope_names;
          })
          (has_name at node) (number_of nodes at) known.long
          ∙ sym (count_put nodes at node is);
      faults = put.faults
          ∙ ap (λ some. old.faults ++ scope_faults at node ++ map (node_fault node faults.BadKeyName)
          (bad_names some)) keys
          ∙ append_assoc old.faults (scope_faults at node) (map (node_fault node faults.BadKeyName)
          (bad_names (if may_define node.kind && not in_table then keys_of world node else [])))
          ∙ ap (λ last. old.faults ++ last) (faults_here world nodes at node is in_table table)
          ∙ ap (λ some. some ++ faults_at world nodes at) known.faults
          ∙ sym (all_more (faults_at world nodes) nodes at node within);
      each = put.places ∙ ap (λ last. old.places.items ++ last ∷ []) scope
          ∙ ap (λ some. some ++ scope_at nodes at ∷ []) known.each
          ∙ sym (known_more (scope_at nodes) nodes at node within);
      written = put.written
          ∙ ap (λ last. entries old.written.items ++ last)
          (entries_here world nodes at node is (scope_of at node old) _ scope
          (ap good_names keys ∙ keys_here world nodes at node is in_table table))
          ∙ ap (λ some. some ++ entries_at world nodes at) known.written
          ∙ sym (all_more (entries_at world nodes) nodes at node within);
    }

pub new_numbered : (world : World) (nodes : List PlanNode) (known : Numbering) → IsNew known
    → AreNumbered world nodes 0 known
new_numbered world nodes known new = record {
  scopes = new.scopes;
  long = ap length new.scopes;
  faults = new.faults;
  each = new.places;
  written = ap entries new.written;
}

-- whether a node stands in a relationship table, as it was told
pub told_there : (nodes : List PlanNode) (at : ℕ) (inside told : List Bool) (in_table : Bool) → at < length nodes
    → told ≡ tables_around nodes → inside ≡ told → in_table ≡ told_at inside at → in_table ≡ is_in_table_at nodes at
told_there nodes at inside told in_table within told_is same is =
    is ∙ ap (λ all. told_at all at) (same ∙ told_is)
    ∙ ap (λ all. told_at (map (is_in_table_at nodes) (places all)) at)
    (sym (take_all (length nodes) nodes (omega arith)))
    ∙ ap (λ found. unwrap_or found false) (known_at (is_in_table_at nodes) nodes at (length nodes) within (omega arith))

-- the scope that a node begins, put behind the others
pub begun_is : (at : ℕ) (node : PlanNode) (number : ℕ) (old new : Numbering) → (at == 0) ≡ false
    → has_scope_name node ≡ true → number ≡ length old.scopes
    → new.scopes ≡ old.scopes
    ++ record { parent = scope_around node old; node = at; names = good_names node.scope_names } ∷ []
    → new.faults ≡ old.faults ++ map (node_fault node faults.BadScopeName) (bad_names node.scope_names)
    → new.places ≡ old.places → new.written ≡ old.written → IsScopePut at node number old new
begun_is at node number old new other named number_is scopes_are faults_are places_are written_are = record {
  is = number_is ∙ sym (ap (λ root. if root then 0 else if has_scope_name node then length old.scopes
      else scope_around node old) other
      ∙ ap (λ b. if b then length old.scopes else scope_around node old) named);
  scopes = scopes_are ∙ ap (λ b. old.scopes ++ (if b
      then record { parent = scope_around node old; node = at; names = good_names node.scope_names } ∷ [] else []))
      (sym (ap (λ root. not root && has_scope_name node) other ∙ named));
  faults = faults_are ∙ ap (λ root. old.faults ++ (if root then []
      else map (node_fault node faults.BadScopeName) (bad_names node.scope_names))) (sym other);
  places = places_are;
  written = written_are;
}
