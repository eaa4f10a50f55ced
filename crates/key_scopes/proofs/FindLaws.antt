-- What is found in a table that is made of nodes, by the outermost own definition and the qualified keys around it, is the
-- definition of the key.
use Rattle.std.specs.Prelude.{◌≡◌, ◌<◌, ◌≤◌, ◌==◌, ℕ, zero, suc, Bool, true, false, not, List, Option, Some, None, IfSome, length, nat_lt, if◌then◌else◌}
use Rattle.std.specs.Option.{option_or}
use Rattle.std.proofs.Common.{refl, sym, ap, ap₂, subst, ◌∙◌, arith}
use Rattle.std.proofs.lemmas.Bool.{true≢false}
use Rattle.std.proofs.lemmas.Bool.Decides.{nat_tests}
use Rattle.std.proofs.lemmas.Option.{slice_get_past}
use Rattle.dita_doc.specs.declared.plan.PlanNode.{PlanNode}
use Rattle.dita_doc.specs.declared.plan.Scope.{Scope}
use Rattle.dita_doc.proofs.Lists.{option_or_none}
use Rattle.key_scopes.specs.declared.definitions.Definition.{Definition}
use Rattle.key_scopes.specs.Above.{AreEndsFrom, AreInPreorder, IsAbove, around_in, encloses, parent_in, risen}
use Rattle.key_scopes.specs.Defined.{AreStrict, count_upto, is_behind}
use Rattle.key_scopes.specs.Found.{found_in, outermost_of, own_of}
use Rattle.key_scopes.specs.Outermost.{AreTopped, IsOutermost, IsOutermostAt}
use Rattle.key_scopes.specs.Rising.{by_names, from_of, node_of, scope_within}
use Rattle.key_scopes.specs.Table.{Table, firsts_of}
use Rattle.key_scopes.specs.Ways.{qualified_in}
use Rattle.key_scopes.proofs.AboveLaws.{above_both, above_encloses, encloses_above}
use Rattle.key_scopes.proofs.CountLaws.{count_parts, count_within}
use Rattle.key_scopes.proofs.NestedLaws.{nested_by, top_within}
use Rattle.key_scopes.proofs.OutermostLaws.{outermost_halved, parted_behind}
use Rattle.key_scopes.proofs.PastLaws.{own_past, qualified_past}
use Rattle.key_scopes.proofs.RiseLaws.{defined_of, none_own, outermost_from, outermost_in, own_there, risen_to, some_own, stays, up}
use Rattle.key_scopes.proofs.RisingLaws.{around_other, around_root, parent_low, parent_or_root, up_is}
use Rattle.key_scopes.proofs.WayLaws.{qualified_is}
use Rattle.map_spec.specs.Scopes.{definition_found, found_from, own, own_or_qualified, parent_of, qualified, scopes}
use Rattle.reader_spec.specs.World.{World}

-- what stands around a scope of the table
around_is : (all : List Scope) → AreInPreorder (parent_in all) (length all) → (at : ℕ) → at < length all
    → around_in all at ≡ (if at == 0 then None else Some (parent_in all at))
around_is all ordered zero within = around_root all ordered
around_is all ordered (suc at) within =
    let other : (suc at == 0) ≡ false = grind (arith, nat_tests) in
    rw other (around_other all ordered (suc at) (omega arith) within)

risen_low : (parent : ℕ → ℕ) → parent 0 ≡ 0 → ((at : ℕ) → 0 < at → parent at < at) → (steps at : ℕ)
    → risen parent steps at ≤ at
risen_low parent root low zero at = omega arith
risen_low parent root low (suc steps) zero =
    let behind = risen_low parent root low steps (parent 0) in omega (arith, behind, root)
risen_low parent root low (suc steps) (suc at) =
    let behind = risen_low parent root low steps (parent (suc at)) in
    let less = low (suc at) (omega arith) in
    omega (arith, behind, less)

some_of : (a : Option ℕ) (n : ℕ) → (x : ℕ) × (option_or a (Some n) ≡ Some x)
some_of None n = (n, refl)
some_of (Some a) n = (a, refl)

-- how a table is made of nodes: the scopes stand in preorder and end where those in them do; the definitions, each with the
-- outermost one around it, are each scope's own ones, in their order
pub record IsMadeOf (world : World) (nodes : List PlanNode) (table : Table) : Type 0 where
  pub scopes : table.scopes ≡ scopes nodes
  pub ordered : AreInPreorder (parent_in table.scopes) (length table.scopes)
  pub ends : AreEndsFrom (parent_in table.scopes) (length table.scopes) 0 table.ends
  pub strict : AreStrict (firsts_of table.definitions)
  pub topped : AreTopped table.ends table.definitions
  pub own : (scope : ℕ) (key : List ℕ) → own_of table scope key ≡ own world nodes scope key

module _ (world : World) (nodes : List PlanNode) (table : Table) (is : IsMadeOf world nodes table) (key : List ℕ) where
  abbrev all : List Scope
  all = table.scopes

  abbrev own_at : ℕ → Option ℕ
  own_at scope = own_of table scope key

  abbrev by : ℕ → Option ℕ
  by = by_names all (own_of table) key

  by_is : (scope : ℕ) → qualified (length key) world nodes scope key ≡ by scope
  by_is scope =
      let same : scopes nodes ≡ all = sym is.scopes in
      let own_is : (at : ℕ) (text : List ℕ) → own world nodes at text ≡ own_of table at text =
      λ at text. sym (is.own at text) in
      qualified_is (length key) world nodes scope key
      ∙ (λ i. qualified_in (length key) (same i) (λ at text. own_is at text i) scope key)

  abbrev both : ℕ → Option ℕ
  both scope = option_or (own_at scope) (by scope)

  low : (at : ℕ) → 0 < at → parent_in all at < at
  low = parent_low all is.ordered

  both_is : (scope : ℕ) → own_or_qualified world nodes scope key ≡ both scope
  both_is scope = ap₂ option_or (sym (is.own scope key)) (by_is scope)

  -- the definition, said over the table
  found_is : (steps scope : ℕ) → found_from steps world nodes scope key ≡ outermost_in steps both all scope
  unfolding found_from
  found_is zero scope = both_is scope
  found_is (suc steps) scope =
      by_root (found_is steps (parent_of nodes scope)) (scope == 0) refl
    where
      by_root : found_from steps world nodes (parent_of nodes scope) key
          ≡ outermost_in steps both all (parent_of nodes scope) → (a : Bool) → (scope == 0) ≡ a
          → found_from (suc steps) world nodes scope key ≡ outermost_in (suc steps) both all scope
      by_root behind true e = rw e (both_is scope)
      by_root behind false e =
          rw e (ap₂ option_or (behind ∙ ap (λ some. outermost_in steps both all (parent_in some scope)) (sym is.scopes))
          (both_is scope))

  -- a definition at a scope around another one is not passed over
  module _ (scope : ℕ) (within : scope < length all) where
    encloses_risen : (top : ℕ) → IsAbove (parent_in all) top scope → encloses table.ends top scope ≡ true
    encloses_risen top above =
        encloses_above (parent_in all) (length all) is.ordered table.ends is.ends top scope within above

    none_around : IsOutermost table.ends table.definitions scope key None → (k : ℕ)
        → own_at (risen (parent_in all) k scope) ≡ None
    none_around none k = by_own (own_at (risen (parent_in all) k scope)) refl
      where
        by_own : (some : Option ℕ) → own_at (risen (parent_in all) k scope) ≡ some
            → own_at (risen (parent_in all) k scope) ≡ None
        by_own None e = e
        by_own (Some node) e =
            let one = defined_of table.definitions (risen (parent_in all) k scope) key node e in
            absurd (true≢false (sym (encloses_risen one.definition.scope
            (record { steps = k; is = sym one.of_scope })) ∙ none one.at one.definition one.is one.of_key))

    none_outside : (top : Definition) → IsOutermostAt table.ends table.definitions scope key top
        → IsAbove (parent_in all) top.scope scope → 0 < top.scope → (k : ℕ)
        → own_at (risen (parent_in all) k (parent_in all top.scope)) ≡ None
    none_outside top outermost above some k =
        by_own (own_at (risen (parent_in all) k (parent_in all top.scope))) refl
      where
        by_own : (one : Option ℕ) → own_at (risen (parent_in all) k (parent_in all top.scope)) ≡ one
            → own_at (risen (parent_in all) k (parent_in all top.scope)) ≡ None
        by_own None e = e
        by_own (Some node) e =
            let one = defined_of table.definitions (risen (parent_in all) k (parent_in all top.scope)) key node e in
            let around = encloses_risen one.definition.scope
            (above_both (parent_in all) one.definition.scope top.scope scope
            (record { steps = suc k; is = sym one.of_scope }) above) in
            let least = outermost.least one.at one.definition one.is one.of_key around in
            let same = one.of_scope in
            let under = risen_low (parent_in all) is.ordered.root low k (parent_in all top.scope) in
            let less = low top.scope some in
            absurd (omega (arith, least, same, under, less))

    pub found_within : (top : Option Definition) → IsOutermost table.ends table.definitions scope key top
        → definition_found world nodes scope key
        ≡ option_or (outermost_from by all (from_of all scope top)) (node_of top)
    found_within None none =
        found_is scope scope ∙ none_own all low own_at by scope scope (none_around none)
        ∙ sym (option_or_none (outermost_in scope by all scope))
    found_within (Some top) outermost =
        let top_in = top_within (parent_in all) (length all) table.ends is.ends top.scope scope outermost.around in
        let above = above_encloses (parent_in all) (length all) is.ordered table.ends is.ends top.scope scope within
        top_in outermost.around in
        let here = own_there table.definitions top.scope key outermost.at top is.strict outermost.is outermost.of_key
        refl in
        let there = some_own all low own_at by top.node top.scope here (none_outside top outermost above)
        (around_is all is.ordered top.scope top_in) in
        let one = some_of (outermost_from by all (around_in all top.scope)) top.node in
        found_is scope scope
        ∙ stays all low both one.0 is.ordered.root above.steps scope
        (ap (risen_to all low both) above.is ∙ there ∙ one.1)
        ∙ sym one.1

  -- where the search of qualified keys begins is in the table
  pub from_within : (scope : ℕ) → scope < length all → (top : Option Definition)
      → IsOutermost table.ends table.definitions scope key top
      → IfSome (from_of all scope top) (λ some. some < length all)
  from_within scope within None none = within
  from_within scope within (Some top) outermost =
      let top_in = top_within (parent_in all) (length all) table.ends is.ends top.scope scope outermost.around in
      subst (λ some. IfSome some (λ one. one < length all)) (sym (around_is all is.ordered top.scope top_in))
      (by_root top.scope top_in (top.scope == 0) refl)
    where
      by_root : (at : ℕ) → at < length all → (a : Bool) → (at == 0) ≡ a
          → IfSome (if a then None else Some (parent_in all at)) (λ one. one < length all)
      by_root at inside true e = tt
      by_root at inside false e =
          let some : 0 < at = grind (arith, nat_tests) in
          let less = low at some in
          omega (arith, less, inside)

  -- a scope beyond the table counts as the root scope
  pub found_scope : (scope : ℕ)
      → definition_found world nodes scope key ≡ definition_found world nodes (scope_within all scope) key
  found_scope scope = by_test (nat_lt scope (length all)) refl
    where
      beyond : length all ≤ scope → 0 < scope
          → definition_found world nodes scope key ≡ definition_found world nodes 0 key
      beyond out some =
          let same = ap length is.scopes in
          let far : length (scopes nodes) ≤ scope = omega (arith, same, out) in
          let ordered = subst (λ some. AreInPreorder (parent_in some) (length some)) is.scopes is.ordered in
          let none : both scope ≡ None =
          ap₂ option_or (is.own scope key ∙ own_past world nodes scope key far)
          (sym (by_is scope) ∙ qualified_past (length key) world nodes scope key ordered far) in
          let root : parent_in all scope ≡ 0 = ap parent_or_root (slice_get_past all scope out) in
          found_is scope scope ∙ up all low both scope some
          ∙ ap₂ option_or (ap (risen_to all low both) root) none
          ∙ option_or_none (risen_to all low both 0) ∙ sym (found_is 0 0)

      by_test : (a : Bool) → nat_lt scope (length all) ≡ a
          → definition_found world nodes scope key ≡ definition_found world nodes (scope_within all scope) key
      by_test true e = rw e refl
      by_test false e =
          let out : length all ≤ scope = grind (arith, nat_tests) in
          let long : length all ≡ length (scopes nodes) = ap length is.scopes in
          let some : 0 < length (scopes nodes) = omega arith in
          rw e (beyond out (omega (arith, out, long, some)))

  pub within_table : (scope : ℕ) → scope_within all scope < length all
  within_table scope = by_test (nat_lt scope (length all)) refl
    where
      by_test : (a : Bool) → nat_lt scope (length all) ≡ a → scope_within all scope < length all
      by_test true e = let less : scope < length all = grind (arith, nat_tests) in rw e less
      by_test false e =
          let long : length all ≡ length (scopes nodes) = ap length is.scopes in
          let some : 0 < length (scopes nodes) = omega arith in
          let more : 0 < length all = omega (arith, long, some) in
          rw e more

  -- what is found in the table is the definition
  pub found_is_definition : (scope : ℕ) → found_in table scope key ≡ definition_found world nodes scope key
  found_is_definition scope =
      let here = scope_within all scope in
      let within = within_table scope in
      let top = outermost_of table here key in
      let definitions = table.definitions in
      let nested = nested_by (parent_in all) (length all) table.ends is.ordered is.ends in
      let outermost : IsOutermost table.ends definitions here key top =
      outermost_halved table.ends definitions here key (count_upto here key definitions) nested is.strict is.topped
      (count_within (λ d. not (is_behind here key d)) definitions)
      (count_parts (λ d. not (is_behind here key d)) definitions (parted_behind here key definitions is.strict)) in
      ap (λ one. option_or one (node_of top))
      (up_is all is.ordered by (from_of all here top) (from_within here within top outermost))
      ∙ sym (found_within here within top outermost) ∙ sym (found_scope scope)
