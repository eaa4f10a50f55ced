-- The documents that pushes name, as they were asked for (own), and which of their elements are replaced.
use Rattle.std.specs.Prelude.{◌≡◌, ◌&&◌, ◌||◌, ℕ, Bool, false, List, Option, Some, None, option_map, if◌then◌else◌}
use Rattle.std.specs.Arc.{arc_value}
use Rattle.std.specs.BTreeMap as tree
use Rattle.std.specs.BTreeSet as places
use Rattle.std.specs.Cmp.Lexicographic.{slice_cmp}
use Rattle.std.specs.Option.{option_and_then, option_map_or}
use Rattle.std.specs.Ordering.{is_eq, nat_cmp, ordering_then}
use Rattle.std.specs.declared.cmp.Ordering.{Ordering}
use Rattle.conref_push.specs.Sight.{Sight, pushing_seen, standing_seen}
use Rattle.conref_push.specs.declared.target_docs.PushTarget as code
use Rattle.conref_push.specs.declared.target_docs.TargetDoc.{TargetDoc}
use Rattle.conref_push.specs.declared.target_docs.Targets.{Targets}
use Rattle.dita_doc.specs.Tree.{Content, tree_of}
use Rattle.dita_doc.specs.declared.content.PushKind.{PushKind}
use Rattle.dita_doc.specs.declared.plan.Reference.{Reference}
use Rattle.map_spec.specs.Elements.{is_special}
use Rattle.map_spec.specs.Target.{is_same_topic}
use Rattle.map_spec.specs.Written.{Whole, Written, document, element_at, written_in}
use Rattle.map_spec.specs.Places.{Standing, target_in}
use Rattle.map_spec.specs.Pushes.{PushTarget, is_replace, topic_of}
use Rattle.reader_spec.specs.World.{World}
use Rattle.topic_find.specs.Table.{IsTableFor}
use Rattle.topic_find.specs.Walk.{place_of}

abbrev pub target_tree : TargetDoc → Content
target_tree target = tree_of (arc_value target.doc).nodes

-- a table by names has what is so of each of its names
abbrev pub AreKnown : {X : Type 0} → (List ℕ → X → Type 0) → tree.BTreeMap (List ℕ) X → Type 0
AreKnown P docs = (name : List ℕ) (found : _) → tree.get (slice_cmp nat_cmp) docs name ≡ Some found → P name found

-- what stands under a name: a document with the table of its elements, or none
pub record IsStored (world : World) (name : List ℕ) (target : TargetDoc) : Type 0 where
  pub tree : world name ≡ Some (target_tree target)
  pub table : (under : List ℕ) → IsTableFor target.table (written_in under (target_tree target))

abbrev pub IsTargetDoc : World → List ℕ → Option TargetDoc → Type 0
IsTargetDoc world name None = world name ≡ None
IsTargetDoc world name (Some target) = IsStored world name target

abbrev pub AreDocs : World → Targets → Type 0
AreDocs world targets = AreKnown (IsTargetDoc world) targets.docs

-- a target as the code keeps it
abbrev pub spot_of : PushTarget → code.PushTarget
spot_of target = record { doc = target.doc; place = target.standing.place }

-- the target of an element that is seen
abbrev pub spot_seen : World → Sight → Option code.PushTarget
spot_seen world sight = option_map spot_of (pushing_seen world sight).target

-- an element as a target, if the pushing one is of its type
abbrev pub if_fits : Sight → Standing → Option Standing
if_fits sight standing = if is_special sight.element standing.whole.0 then Some standing else None

-- the element at a place, if the pushing one is of its type
abbrev pub fits_at : Written → Sight → ℕ → Bool
fits_at nodes sight place =
    option_map_or (λ (whole : Whole). is_special sight.element whole.0) (element_at nodes place) false

-- the place of the target in a document
abbrev pub place_meant : Written → Sight → Reference → Option ℕ
place_meant nodes sight reference = option_map place_of (option_and_then (if_fits sight)
    (target_in nodes (topic_of (standing_seen sight) reference) reference.element))

-- the topic that a reference names, on an element in the topic of this id
abbrev pub topic_meant : Reference → List ℕ → List ℕ
topic_meant reference around = if is_same_topic reference then around else reference.topic

-- the place of the target in the document of a name, if it stands there
abbrev pub place_seen : World → Sight → List ℕ → Reference → Option ℕ
place_seen world sight name reference =
    option_and_then (λ nodes. place_meant nodes sight reference) (document world name)

abbrev pub target_cmp : code.PushTarget → code.PushTarget → Ordering
target_cmp one other = ordering_then (slice_cmp nat_cmp one.doc other.doc) (nat_cmp one.place other.place)

-- a push to an element was noted: if it replaces it, then one more is replaced, unless it was so before
pub record IsNoted (kind : PushKind) (target : code.PushTarget) (twice : Bool)
    (old new : places.BTreeSet code.PushTarget)
    : Type 0 where
  pub each : (other : code.PushTarget) → places.contains target_cmp new other ≡ (if twice
      then places.contains target_cmp old other
      else (is_replace kind && is_eq (target_cmp target other)) || places.contains target_cmp old other)
