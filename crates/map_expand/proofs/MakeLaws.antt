-- The node of an element is made, and what it holds is left.
use Rattle.std.specs.Prelude.{◌≡◌, ◌≤◌, ℕ, true, false, List, [], ◌∷◌, ◌++◌, length, bytes_eq}
use Rattle.std.specs.List.{list_any}
use Rattle.std.proofs.Common.{refl, sym, ap, ◌∙◌, subst}
use Rattle.dita_doc.specs.declared.fault.Fault.{Fault}
use Rattle.dita_doc.specs.declared.plan.PlanKind.{PlanKind}
use Rattle.dita_doc.specs.declared.plan.PlanKind.TheVariants as kinds
use Rattle.dita_doc.specs.declared.plan.PlanNode.{PlanNode}
use Rattle.map_spec.specs.Included.{MapAround, ignored_references, includes_map, new_head, map_node_made}
use Rattle.map_spec.specs.MapTree.{Grown, Head, beneath, beside, node_of, with_faults}
use Rattle.map_spec.specs.Written.{Element}
use Rattle.reader_spec.specs.World.{World}
use Rattle.readers.specs.Founded as founded
use Rattle.readers.specs.Told.{Told}
use Rattle.map_expand.specs.AskedFor.{AreAsked}
use Rattle.map_expand.specs.Going.{AreApart, Ready, homes_of}
use Rattle.map_expand.specs.Homes.{Home, home_at, name_at}
use Rattle.map_expand.specs.Making.{AllFit, MadeNodes, WalkFits, after, grown_of, made_of, path_of, put, put_faults, without_ends}
use Rattle.map_expand.specs.declared.expansion.Expansion.{Expansion}
use Rattle.map_expand.specs.declared.maps.Maps.{Maps}
use Rattle.map_expand.specs.declared.work.Walk.{Walk}
use Rattle.map_expand.specs.declared.work.Work.{Work}
use Rattle.map_expand.specs.declared.work.Work.TheVariants as works
use Rattle.map_expand.proofs.MakingLaws.{after_both, fits_both, length_without, made_same, path_both, put_beneath, put_with_faults, without_both}
use Rattle.map_expand.proofs.ReadyLaws.{fits_later}

-- more work is left on the same maps
pub ready_pushed : (told : List Told) (maps : Maps) (x y : Expansion) (walk : Walk) → Ready told maps x
    → length x.nodes ≤ length y.nodes → y.left.items ≡ x.left.items ++ works.Walk walk ∷ []
    → WalkFits (homes_of maps) (length y.nodes) walk → AreAsked told (founded.homes y.nodes) → Ready told maps y
ready_pushed told maps x y walk ready more left fits asked =
    let homes = homes_of maps in
    let same : path_of homes y.left.items ≡ path_of homes x.left.items =
    ap (path_of homes) left ∙ path_both homes [] x.left.items (works.Walk walk ∷ []) in
    record {
      maps_fit = ready.maps_fit;
      work = subst (AllFit homes (length y.nodes)) (sym left)
          (fits_both homes (length y.nodes) x.left.items (works.Walk walk ∷ [])
          (fits_later homes (length x.nodes) (length y.nodes) x.left.items more ready.work) (fits, tt));
      around = λ at within. ready.around at within
          ∙ ap (list_any (bytes_eq (name_at homes at))) (sym same);
      apart = subst AreApart (sym same) ready.apart;
      asked = asked;
    }

-- a walk is left on top of other work
pub walk_left : (world : World) (homes : List Home) (left now : List Work) (walk : Walk) (made : MadeNodes)
    → now ≡ left ++ works.Walk walk ∷ []
    → after world homes [] now made
    ≡ after world homes [] left (put walk.parent (grown_of world (path_of homes left) (home_at homes walk.map) walk) made)
walk_left world homes left now walk made is =
    ap (λ l. after world homes [] l made) is ∙ after_both world homes [] left (works.Walk walk ∷ []) made

-- a node was put, with the references that are ignored, and this comes below it
pub node_put : (parent place : ℕ) (head : Head) (faults more : List Fault) (others : List Fault) (inner : Grown)
    (nodes new : List PlanNode) → place ≡ length nodes → new ≡ nodes ++ node_of head parent 0 ∷ []
    → others ≡ faults ++ more
    → put place inner (made_of new others)
    ≡ put parent (with_faults more (beneath head inner)) (made_of nodes faults)
node_put parent place head faults more others inner nodes new is made added =
    ap (λ n. put n inner (made_of new others)) (is ∙ sym (length_without nodes))
    ∙ ap (put (length (without_ends nodes)) inner)
    (made_same _ _ _ _ (ap without_ends made ∙ without_both nodes (node_of head parent 0 ∷ [])) added)
    ∙ sym (put_with_faults parent more (beneath head inner) (made_of nodes faults)
    ∙ put_beneath parent head inner (put_faults more (made_of nodes faults)))

-- which node is made
module _ (submap : Element → Grown) (kind : PlanKind) (around : MapAround) (place : ℕ) (element : Element) (below : Grown) where
  pub made_alone : includes_map kind around element ≡ false
      → with_faults (ignored_references element) (beneath (new_head kind element around.level place) below)
      ≡ map_node_made submap kind around place element below
  made_alone test = sym (rw test refl)

  pub made_including : includes_map kind around element ≡ true
      → with_faults (ignored_references element)
      (beneath (new_head kinds.Included element around.level place) (beside (submap element) below))
      ≡ map_node_made submap kind around place element below
  made_including test = sym (rw test refl)
