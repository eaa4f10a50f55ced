-- What was gathered so far of the pushes of some documents (own).
use Rattle.std.specs.Prelude.{◌≡◌, ◌==◌, ◌&&◌, ◌||◌, ◌++◌, ◌∷◌, [], ℕ, Bool, List, bytes_eq, unwrap_or}
use Rattle.std.specs.BTreeSet as set
use Rattle.std.specs.List.{list_any}
use Rattle.conref_push.specs.Acting.{any_acts}
use Rattle.conref_push.specs.Sight.{Sight, all_seen}
use Rattle.conref_push.specs.Table.{IsTableOf}
use Rattle.conref_push.specs.Targets.{AreDocs, target_cmp}
use Rattle.conref_push.specs.declared.table.PushTable.{PushTable}
use Rattle.conref_push.specs.declared.target_docs.PushTarget as code
use Rattle.conref_push.specs.declared.target_docs.Targets.{Targets}
use Rattle.dita_doc.specs.declared.fault.Fault.{Fault}
use Rattle.dita_doc.specs.declared.fault.FaultCode.{FaultCode}
use Rattle.map_spec.specs.Elements.{fault_at}
use Rattle.map_spec.specs.Written.{Written}
use Rattle.map_spec.specs.Places.{all_standing}
use Rattle.map_spec.specs.Pushes.{AllPushes, PushInto, is_replace}
use Rattle.reader_spec.specs.World.{World}

-- a push replaces this element
abbrev pub replaces : code.PushTarget → PushInto → Bool
replaces target made = is_replace made.push.kind && bytes_eq target.doc made.doc && (target.place == made.push.at)

-- the elements that pushes replace
abbrev pub AreReplaced : AllPushes → Targets → Type 0
AreReplaced all targets = (target : code.PushTarget)
    → set.contains target_cmp targets.replaced target ≡ list_any (replaces target) all.made

-- the table of these pushes, the documents that they name, and the elements that they replace
pub record IsGathered (world : World) (all : AllPushes) (acting : List ℕ → Bool) (targets : Targets) (table : PushTable)
    : Type 0 where
  pub tabled : IsTableOf all acting table
  pub docs : AreDocs world targets
  pub replaced : AreReplaced all targets

-- the sights of a document
abbrev pub sights_in : Written → List Sight
sights_in nodes = all_seen (all_standing nodes)

-- one document more, with an element that acts
abbrev pub acting_with : (List ℕ → Bool) → List ℕ → Written → List ℕ → Bool
acting_with acting name nodes other = acting other || (bytes_eq name other && any_acts nodes)

-- a fault of an element that is seen
abbrev pub fault_seen : Sight → FaultCode → Fault
fault_seen sight code = fault_at sight.element code (unwrap_or sight.conref [])

abbrev pub with_fault : AllPushes → Fault → AllPushes
with_fault all fault = record all { faults = all.faults ++ fault ∷ [] }
