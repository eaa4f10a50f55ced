-- A node that is resolved where it stands.
use Rattle.std.specs.Prelude.{◌≡◌, ◌≤◌, ℕ, Bool, true, false, None, Result, nat_lt, slice_get}
use Rattle.std.proofs.Common.{refl, subst, arith}
use Rattle.std.proofs.lemmas.Bool.{ltb-true}
use Rattle.std.proofs.lemmas.Bool.Decides.{nat_tests}
use Rattle.dita_doc.specs.Tree.{Content, size_of, tree_of}
use Rattle.dita_doc.specs.declared.doc.Doc.{Doc}
use Rattle.dita_doc.specs.declared.stop.Stop.{Stop}
use Rattle.map_spec.specs.Written.{Written}
use Rattle.conref_spec.specs.Content.{ContentAround, nothing_made}
use Rattle.readers.specs.Named.{under_names, named_tree}
use Rattle.conref_targets.specs.Around.{alone_at}
use Rattle.conref_targets.specs.Parts.{AreSiblingsAt, first_alone, has_first}
use Rattle.conref_targets.specs.Tables.{Documents}
use Rattle.conref_targets.specs.declared.tables.PlaceTables.{PlaceTables}
use Rattle.conref_targets.proofs.StandingLaws.{located, no_node, none_beyond}
use Rattle.conref_pull.specs.Walking.{Here, Walks, among_made}
use Rattle.conref_pull.specs.declared.resolver.Resolver.{Resolver}
use Rattle.conref_pull.specs.declared.resolver.TooMany.{TooMany}

-- what is said of it by the siblings that begin there
module _ (doc : Doc) (place : ℕ) (result : Result (Unit {0}) (Stop TooMany)) (here : Here) (is_range : Bool)
    (around : ContentAround) (documents : Documents) (links : ℕ) (a b : Resolver) (places : PlaceTables)
    (by_part : (part : Content) → AreSiblingsAt (tree_of doc.nodes) place part → has_first part ≡ true
    → Walks result documents links
    (among_made here is_range around (first_alone (under_names doc.origins part))) a b places)
    (by_none : slice_get doc.nodes place ≡ None → Walks result documents links nothing_made a b places) where
  by_room : (test : Bool) → nat_lt place (size_of (tree_of doc.nodes)) ≡ test
      → Walks result documents links (among_made here is_range around (alone_at (named_tree doc) place)) a b places
  by_room true is =
      let found = located doc place (ltb-true place (size_of (tree_of doc.nodes)) is) in
      subst (λ (nodes : Written). Walks result documents links (among_made here is_range around nodes) a b places) found.is
      (by_part found.part found.there found.some)
  by_room false is =
      let far : size_of (tree_of doc.nodes) ≤ place = grind (arith, nat_tests) in
      subst (λ (nodes : Written). Walks result documents links (among_made here is_range around nodes) a b places)
      (none_beyond doc place far) (by_none (no_node doc place far))

  pub node_walks : Walks result documents links (among_made here is_range around (alone_at (named_tree doc) place)) a b
      places
  node_walks = by_room (nat_lt place (size_of (tree_of doc.nodes))) refl
