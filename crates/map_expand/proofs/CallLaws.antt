-- What stands in the place of a reference to a map.
use Rattle.std.specs.Prelude.{◌≡◌, ◌+◌, ◌-◌, ◌<◌, ℕ, true, false, List, [], ◌∷◌, ◌++◌, Option, Some, None, bytes_eq, length}
use Rattle.std.specs.List.{list_any}
use Rattle.std.proofs.Common.{refl, sym, ap, ◌∙◌, arith}
use Rattle.dita_doc.specs.declared.doc.Node as doc
use Rattle.dita_doc.specs.declared.fault.Fault.{Fault}
use Rattle.dita_doc.specs.declared.fault.FaultCode.{FaultCode}
use Rattle.dita_doc.specs.declared.fault.FaultCode.TheVariants as faults
use Rattle.dita_doc.specs.declared.plan.PlanNode.{PlanNode}
use Rattle.doc_elements.specs.Walk.{element_of}
use Rattle.map_spec.specs.Elements.{fault_at}
use Rattle.map_spec.specs.Included.{fault_alone, map_included, map_node_limit}
use Rattle.map_spec.specs.MapTree.{Grown, no_growth}
use Rattle.map_spec.specs.Written.{Element, Whole}
use Rattle.reader_spec.specs.World.{World}
use Rattle.map_expand.specs.Homes.{Extends, Home, home_at, name_at}
use Rattle.map_expand.specs.Including.{submap_under}
use Rattle.map_expand.specs.Making.{AllFit, MadeNodes, after, path_of, made_of, put, put_faults, whole_map}
use Rattle.map_expand.specs.declared.work.Work.{Work}
use Rattle.map_expand.proofs.MakingLaws.{after_still, home_still, made_same, path_after_still, put_nothing, put_with_faults}

-- a fault alone is put
pub fault_put : (parent : ℕ) (element : Element) (code : FaultCode) (detail : List ℕ) (made : MadeNodes)
    → put parent (fault_alone element code detail) made ≡ put_faults (fault_at element code detail ∷ []) made
fault_put parent element code detail made =
    put_with_faults parent (fault_at element code detail ∷ []) no_growth made
    ∙ put_nothing parent (put_faults (fault_at element code detail ∷ []) made)

pub faulted : (world : World) (homes : List Home) (left : List Work) (parent : ℕ) (grown : Grown) (element : Element)
    (code : FaultCode) (detail : List ℕ) (nodes : List PlanNode) (before others : List Fault)
    → grown ≡ fault_alone element code detail → others ≡ before ++ fault_at element code detail ∷ []
    → after world homes [] left (made_of nodes others)
    ≡ after world homes [] left (put parent grown (made_of nodes before))
faulted world homes left parent grown element code detail nodes before others is added =
    ap (after world homes [] left) (made_same _ _ _ _ refl added ∙ sym (fault_put parent element code detail (made_of nodes before))
    ∙ ap (λ g. put parent g (made_of nodes before)) (sym is))

module _ (world : World) (path : List (List ℕ)) (level : ℕ) (element : Element) (name : List ℕ) where
  pub submap_missing : (root : Option Whole) → root ≡ None
      → submap_under world path level element name root ≡ fault_alone element faults.MapMissing name
  submap_missing root none = ap (submap_under world path level element name) none

  pub submap_cycle : (root : Whole) → list_any (bytes_eq name) path ≡ true
      → submap_under world path level element name (Some root) ≡ fault_alone element faults.MapCycle name
  submap_cycle root around = rw around refl

  pub submap_entered : (root : Whole) (other : List ℕ) → list_any (bytes_eq name) path ≡ false → other ≡ name
      → whole_map world (path ++ other ∷ []) (level + 1) root
      ≡ submap_under world path level element name (Some root)
  submap_entered root other around same =
      let fuel : map_node_limit + 1 - (level + 1) ≡ map_node_limit - level = omega arith in
      ap (λ n. map_included n world (path ++ other ∷ []) (level + 1) root) fuel
      ∙ ap (λ n. map_included (map_node_limit - level) world (path ++ n ∷ []) (level + 1) root) same
      ∙ sym (rw around refl)

-- More maps are known

pub home_found : (homes new : List Home) (at : ℕ) → Extends homes new → at < length homes → home_at new at ≡ home_at homes at
home_found homes new at extends within =
    ap (λ l. home_at l at) extends.is ∙ home_still homes extends.more at within

pub rest_found : (world : World) (homes new : List Home) (n : ℕ) (left : List Work) (at parent level : ℕ) (node : doc.Node)
    (name : List ℕ) (root other : Option Whole) (made : MadeNodes) → Extends homes new → AllFit homes n left → at < length homes
    → root ≡ other
    → after world new [] left
    (put parent (submap_under world (path_of new left) level (element_of (name_at new at) node) name root) made)
    ≡ after world homes [] left
    (put parent (submap_under world (path_of homes left) level (element_of (name_at homes at) node) name other) made)
rest_found world homes new n left at parent level node name root other made extends fits within same =
    let path_is : path_of new left ≡ path_of homes left =
    ap (λ h. path_of h left) extends.is ∙ path_after_still world homes extends.more n [] left fits in
    let home_is = home_found homes new at extends within in
    ap (λ p. after world new [] left (put parent (submap_under world p level (element_of (name_at new at) node) name root) made)) path_is
    ∙ ap (λ (h : Home). after world new [] left
    (put parent (submap_under world (path_of homes left) level (element_of h.name node) name root) made)) home_is
    ∙ ap (λ r. after world new [] left
    (put parent (submap_under world (path_of homes left) level (element_of (name_at homes at) node) name r) made)) same
    ∙ ap (λ h. after world h [] left
    (put parent (submap_under world (path_of homes left) level (element_of (name_at homes at) node) name other) made)) extends.is
    ∙ after_still world homes extends.more n [] left _ fits
