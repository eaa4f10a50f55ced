-- What a reference leads to, by the values that its node carries (own).
use Rattle.std.specs.Prelude.{◌≡◌, ◌++◌, ℕ, List, Option, Some, None, codes}
use Rattle.std.specs.Option.{option_to_list}
use Rattle.dita_doc.specs.declared.fault.Fault.{Fault}
use Rattle.dita_doc.specs.declared.plan.PlanNode.{PlanNode}
use Rattle.dita_doc.specs.declared.plan.Target.{Target}
use Rattle.map_spec.specs.Cascade.{cascaded_on, walk}
use Rattle.map_spec.specs.Keys.{key_answer, key_of}
use Rattle.map_spec.specs.Elements.{attribute}
use Rattle.map_spec.specs.Pages.{Aim, aim_by_href, aim_by_key, local_name}
use Rattle.map_spec.specs.Scopes.{scope_at}
use Rattle.map_spec.specs.Written.{Element}
use Rattle.plan_nodes.specs.Given.{IsTold}
use Rattle.reader_spec.specs.World.{World}
use Rattle.readers.specs.Founded.{AreAllowed}
use Rattle.readers.specs.Told.{Told}

-- a node carries the values of its walk to the root, and its scope
pub record Carries (world : World) (nodes : List PlanNode) (at : ℕ) (node : PlanNode) : Type 0 where
  pub values : node.cascaded ≡ cascaded_on world (walk nodes at)
  pub scope : node.scope ≡ scope_at nodes at

-- a target, with its faults behind others
pub record IsAim (aim : Aim) (target : Target) (old new : List Fault) : Type 0 where
  pub leads : target ≡ aim.target
  pub faults : new ≡ old ++ aim.faults

-- by the two attributes of the node
abbrev pub aim_by : World → List PlanNode → ℕ → PlanNode → Option (List ℕ) → Option (List ℕ) → Aim
aim_by world nodes at node None href = aim_by_href world node (walk nodes at) href
aim_by world nodes at node (Some keyref) href = aim_by_key world node (walk nodes at) (key_of keyref) href
    (key_answer world nodes (scope_at nodes at) (key_of keyref))

-- Which names may be asked about

-- an href stands on an element of a document that was told
pub record IsHrefOf (told : List Told) (doc href : List ℕ) : Type 0 where
  pub element : Element
  pub was : IsTold told element
  pub stands : element.doc ≡ doc
  pub has : attribute (codes "href") element ≡ Some href

pub record IsGiven (told : List Told) (doc : List ℕ) (href : Option (List ℕ)) : Type 0 where
  pub each : (value : List ℕ) → href ≡ Some value → IsHrefOf told doc value

abbrev pub AskedAim : Type 0
AskedAim = List Told

abbrev pub names_of_target : Target → List (List ℕ)
names_of_target target = option_to_list (local_name target)

-- the document that a target names may be asked about
pub record MayName (told : List Told) (target : Target) : Type 0 where
  pub by : (roots : List (List ℕ)) → AreAllowed roots told (names_of_target target)
