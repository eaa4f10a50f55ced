-- What a reference leads to, by the values that its node carries.
use Rattle.std.specs.Prelude.{◌≡◌, ◌++◌, ℕ, Bool, true, false, List, [], Option, Some, None, Result, Ok, Err, IfOk, is_some, map, option_map, slice_get, codes, if◌then◌else◌}
use Rattle.std.specs.Option.{option_and_then, option_map_or}
use Rattle.std.proofs.Common.{refl, sym, ap, subst, ◌∙◌, append-nil, append_assoc}
use Rattle.std.proofs.lemmas.Option.{slice_get-map}
use Rattle.dita_doc.specs.declared.content.KeyAnswer.{KeyAnswer}
use Rattle.dita_doc.specs.declared.fault.Fault.{Fault}
use Rattle.dita_doc.specs.declared.fault.FaultCode.TheVariants as faults
use Rattle.dita_doc.specs.declared.plan.PlanNode.{PlanNode}
use Rattle.dita_doc.specs.declared.plan.Target.{Target}
use Rattle.map_spec.specs.Cascade.{attribute_at, whole_at}
use Rattle.map_spec.specs.Elements.{attribute}
use Rattle.map_spec.specs.Included.{is_reference}
use Rattle.dita_doc.specs.declared.stop.NoMemory.{NoMemory}
use Rattle.map_spec.specs.Pages.{Aim, aim_at, aim_by_href, aim_by_key, aim_of, aim_with, fault_of_value, ignored_at, no_aim, undefined_key, with_more}
use Rattle.map_spec.specs.Written.{Whole}
use Rattle.plan_nodes.specs.Home as home
use Rattle.reader_spec.specs.World.{World}
use Rattle.page_names.specs.Aims.{IsAim, aim_by}

-- The values that a node carries

-- the value of an attribute of a node's element
pub value_there : (world : World) (nodes : List PlanNode) (at : ℕ) (node : PlanNode) (homes : List (Option Whole))
    (name : List ℕ) (value : Option (List ℕ)) → homes ≡ map (whole_at world) nodes → slice_get nodes at ≡ Some node
    → value ≡ home.value_at homes at name → value ≡ attribute_at world name node
value_there world nodes at node homes name value are there is =
    is ∙ ap (λ all. home.value_at all at name) are
    ∙ ap (λ found. option_and_then (λ (whole : Whole). attribute name whole.0)
    (option_and_then (λ (whole : Option Whole). whole) found))
    (slice_get-map (whole_at world) nodes at ∙ ap (option_map (whole_at world)) there)

-- Faults behind others

-- a target without faults
pub nothing_more : (aim : Aim) (target : Target) (faults : List Fault) → target ≡ aim.target → aim.faults ≡ []
    → IsAim aim target faults faults
nothing_more aim target faults leads none =
    record { leads = leads; faults = sym (append-nil faults) ∙ ap (λ fs. faults ++ fs) (sym none) }

-- faults met before the target
pub met_before : (aim : Aim) (target : Target) (met old middle new : List Fault) → middle ≡ old ++ met
    → IsAim aim target middle new → IsAim (with_more met aim) target old new
met_before aim target met old middle new first is = record {
  leads = is.leads;
  faults = is.faults ∙ ap (λ fs. fs ++ aim.faults) first ∙ append_assoc old met aim.faults;
}

pub aim_is : (aim other : Aim) (target : Target) (old new : List Fault) → aim ≡ other → IsAim aim target old new
    → IsAim other target old new
aim_is aim other target old new same is = subst (λ a. IsAim a target old new) same is

-- By a key

-- what its definition gives, else what stands beside it
module _ (world : World) (node : PlanNode) (around : List PlanNode) (key : List ℕ) (href : Option (List ℕ)) (answer : KeyAnswer)
    (old middle : List Fault) (met : middle ≡ old ++ answer.faults) where
  pub defined_aim : is_some answer.node ≡ true
      → IsAim (aim_by_key world node around key href answer) answer.target old middle
  defined_aim defined = rw defined (record { leads = refl; faults = met })

  pub undefined_aim : (result : Result Target NoMemory) (new : List Fault) → is_some answer.node ≡ false
      → IfOk result (λ target. IsAim (with_more (undefined_key node key href) (aim_by_href world node around href))
      target middle new)
      → IfOk result (λ target. IsAim (aim_by_key world node around key href answer) target old new)
  undefined_aim (Ok target) new undefined is =
      let beside = undefined_key node key href in
      let behind = (aim_by_href world node around href).faults in
      rw undefined (record {
        leads = is.leads;
        faults = is.faults ∙ ap (λ fs. fs ++ (beside ++ behind)) met ∙ append_assoc old answer.faults (beside ++ behind)
            ∙ ap (λ fs. old ++ fs) (sym (append_assoc answer.faults beside behind));
      })
  undefined_aim (Err stop) new undefined is = tt

-- by the two attributes of the element
by_attributes : (world : World) (nodes : List PlanNode) (at : ℕ) (node : PlanNode) (keyref : Option (List ℕ))
    → aim_by world nodes at node keyref (attribute_at world (codes "href") node) ≡ aim_with world nodes at node keyref
by_attributes world nodes at node None = refl
by_attributes world nodes at node (Some keyref) = refl

pub attributes_aim : (world : World) (nodes : List PlanNode) (at : ℕ) (node : PlanNode) (keyref href : Option (List ℕ))
    → keyref ≡ attribute_at world (codes "keyref") node → href ≡ attribute_at world (codes "href") node
    → aim_by world nodes at node keyref href
    ≡ aim_with world nodes at node (attribute_at world (codes "keyref") node)
attributes_aim world nodes at node keyref href is_key is_href =
    ap (λ h. aim_by world nodes at node keyref h) is_href
    ∙ ap (λ k. aim_by world nodes at node k (attribute_at world (codes "href") node)) is_key
    ∙ by_attributes world nodes at node (attribute_at world (codes "keyref") node)

-- only a reference has a target
pub reference_aim : (world : World) (nodes : List PlanNode) (at : ℕ) (node : PlanNode) (test : Bool)
    → test ≡ is_reference node.kind → test ≡ true
    → aim_with world nodes at node (attribute_at world (codes "keyref") node) ≡ aim_of world nodes at node
reference_aim world nodes at node test is holds =
    ap (λ b. if b then aim_with world nodes at node (attribute_at world (codes "keyref") node) else no_aim)
    (sym holds ∙ is)

pub other_aim : (world : World) (nodes : List PlanNode) (at : ℕ) (node : PlanNode) (test : Bool)
    → test ≡ is_reference node.kind → test ≡ false → no_aim ≡ aim_of world nodes at node
other_aim world nodes at node test is fails =
    ap (λ b. if b then aim_with world nodes at node (attribute_at world (codes "keyref") node) else no_aim)
    (sym fails ∙ is)

-- a target whose faults are passed over
pub leads_alone : (aim other : Aim) (result : Result Target NoMemory) (old new : List Fault) → aim ≡ other
    → IfOk result (λ target. IsAim aim target old new) → IfOk result (λ target. target ≡ other.target)
leads_alone aim other (Ok target) old new same is = is.leads ∙ ap (λ (a : Aim). a.target) same
leads_alone aim other (Err stop) old new same is = tt

-- faults of attributes met before the target
pub met_first : (met : List Fault) (aim other : Aim) (result : Result Target NoMemory) (old middle new : List Fault)
    → middle ≡ old ++ met → aim ≡ other → IfOk result (λ target. IsAim aim target middle new)
    → IfOk result (λ target. IsAim (with_more met other) target old new)
met_first met aim other (Ok target) old middle new first same is =
    met_before other target met old middle new first (aim_is aim other target middle new same is)
met_first met aim other (Err stop) old middle new first same is = tt

-- the target of one of the nodes
pub target_there : (world : World) (nodes : List PlanNode) (at : ℕ) (node : PlanNode) (test : Bool)
    (result : Result Target NoMemory) → slice_get nodes at ≡ Some node → test ≡ is_reference node.kind → test ≡ true
    → IfOk result (λ target.
    target ≡ (aim_with world nodes at node (attribute_at world (codes "keyref") node)).target)
    → IfOk result (λ target. target ≡ (aim_at world nodes at).target)
target_there world nodes at node test (Err stop) there is holds leads = tt
target_there world nodes at node test (Ok target) there is holds leads =
    leads ∙ ap (λ (a : Aim). a.target) (reference_aim world nodes at node test is holds
    ∙ sym (ap (λ found. option_map_or (aim_of world nodes at) found no_aim) there))

-- the faults of attributes that are passed over
pub ignored_met : (world : World) (node : PlanNode) (old middle new : List Fault) (copy_to chunk : Option (List ℕ))
    → copy_to ≡ attribute_at world (codes "copy-to") node → chunk ≡ attribute_at world (codes "chunk") node
    → middle ≡ old ++ fault_of_value node faults.CopyTo copy_to
    → new ≡ middle ++ fault_of_value node faults.Chunk chunk → new ≡ old ++ ignored_at world node
ignored_met world node old middle new copy_to chunk is_copy_to is_chunk first second =
    second ∙ ap (λ fs. fs ++ fault_of_value node faults.Chunk chunk) first
    ∙ append_assoc old (fault_of_value node faults.CopyTo copy_to) (fault_of_value node faults.Chunk chunk)
    ∙ ap (λ value. old ++ (fault_of_value node faults.CopyTo value ++ fault_of_value node faults.Chunk chunk))
    is_copy_to
    ∙ ap (λ value. old ++ (fault_of_value node faults.CopyTo (attribute_at world (codes "copy-to") node)
    ++ fault_of_value node faults.Chunk value)) is_chunk
