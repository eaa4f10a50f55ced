-- What the nodes of a plan name may be asked about: the documents in which they stand, and the DITAVALs of their filters.
use Rattle.std.specs.Prelude.{◌≡◌, ◌++◌, ℕ, List, [], ◌∷◌, Some, IsTrue, map, option_map}
use Rattle.std.specs.List.{AllByRecursion}
use Rattle.std.proofs.Common.{refl, sym, ap, subst, ◌∙◌}
use Rattle.std.proofs.lemmas.Bool.{false≢true}
use Rattle.std.proofs.lemmas.Option.{slice_get-map}
use Rattle.dita_doc.specs.declared.plan.PlanNode.{PlanNode}
use Rattle.map_lemmas.specs.Alike.{AreAlike, plain}
use Rattle.map_lemmas.proofs.AlikeLaws.{by_plain}
use Rattle.map_lemmas.proofs.CarriedLaws.{alike_cascaded, alike_scoped}
use Rattle.map_lemmas.proofs.HeadLaws.{AllHeads, each_below}
use Rattle.map_spec.specs.Branches.{copied}
use Rattle.map_spec.specs.Cascade.{cascaded, whole_at}
use Rattle.map_spec.specs.MapTree.{MapTree, plan_nodes}
use Rattle.map_spec.specs.Scopes.{scoped}
use Rattle.map_spec.specs.Written.{Whole}
use Rattle.plan_nodes.specs.Given.{AreTold}
use Rattle.reader_spec.specs.World.{World}
use Rattle.readers.specs.Founded.{AreAllowed, Grows, homes, is_allowed, is_among}
use Rattle.readers.specs.Named.{names_of_element}
use Rattle.readers.specs.Told.{Told}
use Rattle.readers.proofs.AmongLaws.{among_either}
use Rattle.readers.proofs.GrowthLaws.{allowed_before}
use Rattle.build_plan.proofs.CarryLaws.{homes_scoped}
use Rattle.build_plan.proofs.EachLaws.{each_by_place, heads_of}
use Rattle.build_plan.proofs.FilterLaws.{AreFiltered, IsRef, filters_copied}
use Rattle.build_plan.specs.Documents.{filters_of, names_of_nodes}
use Rattle.build_plan.specs.Stages.{AreNew}

-- Where branches were copied

module _ (world : World) (told : List Told) (roots : List (List ℕ)) where
  abbrev Allowed : List ℕ → Type 0
  Allowed m = IsTrue (is_allowed roots told m)

  -- the DITAVALs of a node may be asked about
  abbrev MayFilter : PlanNode → Type 0
  MayFilter node = (m : List ℕ) → IsTrue (is_among node.filters m) → Allowed m

  -- and so may what its element names
  abbrev MayName : PlanNode → Type 0
  MayName node = MayFilter node × ((whole : Whole) → whole_at world node ≡ Some whole → (m : List ℕ)
      → IsTrue (is_among (names_of_element whole.0) m) → Allowed m)

  -- of nodes with no filter, whose elements were told
  new_may : (nodes : List PlanNode) → AreNew nodes → AreTold told (map (whole_at world) nodes)
      → AllByRecursion MayName nodes
  new_may nodes new were = each_by_place MayName nodes (λ at node there. (
    λ m among. absurd (false≢true (subst (λ names. IsTrue (is_among names m)) (new.each at node there) among)),
    λ whole is m among. (were.each at whole (slice_get-map (whole_at world) nodes at
        ∙ ap (option_map (whole_at world)) there ∙ ap Some is)).allowed roots m among,
  ))

  -- of all nodes together
  filters_among : (nodes : List PlanNode) → AllByRecursion MayFilter nodes → (m : List ℕ)
      → IsTrue (is_among (filters_of nodes) m) → Allowed m
  filters_among [] all m among = absurd (false≢true among)
  filters_among (node ∷ nodes) all m among = among_either node.filters (filters_of nodes) m (Allowed m)
      (all.0 m) (filters_among nodes all.1 m) among

  -- the DITAVALs of copied nodes, if the elements of the nodes before were told, and these had none
  pub filters_may : (tree : MapTree) → AreNew (plan_nodes tree) → AreTold told (map (whole_at world) (plan_nodes tree))
      → AreAllowed roots told (filters_of (plan_nodes (copied world tree)))
  filters_may tree new were =
      let heads : AllHeads (IsRef Allowed world) tree =
      heads_of (IsRef Allowed world) MayName (λ head parent end is. is) tree 0 0 (new_may (plan_nodes tree) new were) in
      record {
        each = filters_among (plan_nodes (copied world tree))
            (each_below (AreFiltered Allowed) MayFilter (λ head parent end is. is) 0 0 (copied world tree)
            (filters_copied Allowed world tree heads));
      }

-- Nodes that are alike are filtered by the same DITAVALs

plain_filters : (nodes : List PlanNode) → filters_of (map plain nodes) ≡ filters_of nodes
plain_filters [] = refl
plain_filters (node ∷ nodes) = ap (λ more. node.filters ++ more) (plain_filters nodes)

pub filters_alike : (nodes others : List PlanNode) → AreAlike nodes others → filters_of nodes ≡ filters_of others
filters_alike nodes others alike = by_plain filters_of plain_filters nodes others alike

pub filters_cascaded : (world : World) (nodes made : List PlanNode) → made ≡ cascaded world nodes
    → filters_of made ≡ filters_of nodes
filters_cascaded world nodes made are =
    ap filters_of are ∙ sym (filters_alike nodes (cascaded world nodes) (alike_cascaded world nodes))

filters_scoped : (nodes made : List PlanNode) → made ≡ scoped nodes → filters_of made ≡ filters_of nodes
filters_scoped nodes made are = ap filters_of are ∙ sym (filters_alike nodes (scoped nodes) (alike_scoped nodes))

-- what nodes name may be asked about later, when they are in their scopes
pub nodes_may : (roots : List (List ℕ)) (old new : List Told) (nodes made : List PlanNode) → made ≡ scoped nodes
    → Grows old new → AreAllowed roots old (homes nodes) → AreAllowed roots old (filters_of nodes)
    → AreAllowed roots new (names_of_nodes made)
nodes_may roots old new nodes made are grows stand filter = record {
  each = λ m among. allowed_before roots old new m grows (among_either (homes made) (filters_of made) m
      (IsTrue (is_allowed roots old m))
      (λ here. stand.each m (subst (λ names. IsTrue (is_among names m)) (homes_scoped nodes made are) here))
      (λ here. filter.each m (subst (λ names. IsTrue (is_among names m)) (filters_scoped nodes made are) here)) among);
}
