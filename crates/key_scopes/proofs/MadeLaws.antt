-- Nodes with their scopes, one more; and what is made of all nodes.
use Rattle.std.specs.Prelude.{◌≡◌, ◌+◌, ◌<◌, ℕ, List, [], ◌∷◌, ◌++◌, filter, length, map, take, unwrap_or}
use Rattle.std.specs.List.{filter_map, flat_map}
use Rattle.std.proofs.Common.{refl, sym, ap, subst, ◌∙◌, arith, append_assoc}
use Rattle.std.proofs.lemmas.List.{length-append, take_all}
use Rattle.dita_doc.specs.declared.plan.PlanNode.{PlanNode}
use Rattle.key_scopes.specs.declared.numbering.Numbering.{Numbering}
use Rattle.key_scopes.specs.Above.{AreEndsFrom, AreInPreorder, parent_in}
use Rattle.key_scopes.specs.Defined.{IsTableBy}
use Rattle.key_scopes.specs.Made.{IsTableOf}
use Rattle.key_scopes.specs.Numbered.{AreNumbered, entries, entries_at, faults_at, place_in, scope_placed}
use Rattle.key_scopes.specs.OwnKeys.{by_level, rows_by}
use Rattle.key_scopes.specs.Table.{Table, firsts_of}
use Rattle.key_scopes.proofs.FindLaws.{IsMadeOf, found_is_definition}
use Rattle.key_scopes.proofs.OwnKeyLaws.{own_rows}
use Rattle.key_scopes.proofs.OwnLaws.{own_is}
use Rattle.plan_nodes.proofs.PlaceLaws.{known_at}
use Rattle.key_scopes.proofs.ScopeTreeLaws.{scopes_ordered}
use Rattle.key_scopes.proofs.StrictLaws.{firsts_strict}
use Rattle.key_scopes.proofs.TreeLaws.{tree_ordered, tree_parents}
use Rattle.map_spec.specs.Scopes.{begins, name_faults, places, root_scope, scope_at, scoped_from, scopes}
use Rattle.plan_nodes.specs.Preorder.{IsTree}
use Rattle.reader_spec.specs.World.{World}

-- the scope of a node, as it was told
pub scope_there : (nodes : List PlanNode) (at scope : ℕ) (told : List ℕ) → at < length nodes
    → told ≡ map (scope_at nodes) (places nodes) → scope ≡ place_in told at → scope ≡ scope_at nodes at
scope_there nodes at scope told within told_is is =
    is ∙ ap (λ all. place_in all at) told_is
    ∙ ap (λ all. place_in (map (scope_at nodes) (places all)) at) (sym (take_all (length nodes) nodes (omega arith)))
    ∙ ap (λ found. unwrap_or found 0) (known_at (scope_at nodes) nodes at (length nodes) within (omega arith))

-- one more node, behind those that are in their scopes
pub scoped_next : (nodes : List PlanNode) (node copy : PlanNode) (old new more all whole : List PlanNode)
    → all ≡ node ∷ more → copy ≡ record node { scope = scope_at nodes (length old) }
    → old ++ scoped_from nodes (length old) all ≡ whole → new ≡ old ++ copy ∷ []
    → new ++ scoped_from nodes (length new) more ≡ whole
scoped_next nodes node copy old new more all whole first is before put =
    let longer : length new ≡ length old + 1 = ap length put ∙ length-append old (copy ∷ []) in
    ap (λ some. some ++ scoped_from nodes (length new) more) put
    ∙ ap (λ n. (old ++ copy ∷ []) ++ scoped_from nodes n more) longer
    ∙ append_assoc old (copy ∷ []) (scoped_from nodes (length old + 1) more)
    ∙ ap (λ n. old ++ n ∷ scoped_from nodes (length old + 1) more) is
    ∙ sym (ap (λ some. old ++ scoped_from nodes (length old) some) first)
    ∙ before

-- What is known behind all nodes

module _ (world : World) (nodes : List PlanNode) (known : Numbering)
    (numbered : AreNumbered world nodes (length nodes) known) where
  every : places (take (length nodes) nodes) ≡ places nodes
  every = ap places (take_all (length nodes) nodes (omega arith))

  pub all_scopes : known.scopes ≡ scopes nodes
  all_scopes = numbered.scopes
      ∙ ap (λ all. root_scope ∷ filter_map (scope_placed nodes) (filter (begins nodes) all)) every

  pub all_faults : known.faults ≡ name_faults world nodes
  all_faults = numbered.faults ∙ ap (flat_map (faults_at world nodes)) every

  pub all_places : known.places.items ≡ map (scope_at nodes) (places nodes)
  all_places = numbered.each ∙ ap (map (scope_at nodes)) every

  all_entries : entries known.written.items ≡ flat_map (entries_at world nodes) (places nodes)
  all_entries = numbered.written ∙ ap (flat_map (entries_at world nodes)) every

  pub all_own : (tree : IsTree nodes) (table : Table)
      → IsTableBy (length nodes) known.scopes (entries known.written.items) table
      → IsTableOf world nodes table
  all_own tree table is =
      let same : table.scopes ≡ scopes nodes = is.scopes ∙ all_scopes in
      let ordered : AreInPreorder (parent_in table.scopes) (length table.scopes) =
      subst (λ all. AreInPreorder (parent_in all) (length all)) (sym same)
      (scopes_ordered nodes (tree_ordered nodes tree) (tree_parents nodes tree)) in
      let made : IsMadeOf world nodes table = record {
        scopes = same;
        ordered = ordered;
        ends = subst (λ all. AreEndsFrom (parent_in all) (length all) 0 table.ends) (sym is.scopes)
            (is.ends (subst (λ all. AreInPreorder (parent_in all) (length all)) is.scopes ordered));
        strict = firsts_strict (length nodes) (entries known.written.items) (firsts_of table.definitions) is.firsts;
        topped = is.topped;
        own = λ scope key. own_is world nodes scope key (length nodes) (entries known.written.items)
            (firsts_of table.definitions) refl all_entries is.firsts;
      } in
      record {
        scopes = same;
        found = λ scope key. found_is_definition world nodes table made key scope;
        own_keys = is.own_keys
            ∙ (λ i. rows_by (length (all_scopes i)) (by_level (length nodes) (all_entries i))) ∙ own_rows world nodes;
      }
