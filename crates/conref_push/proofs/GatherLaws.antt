-- What is gathered of pushes, one element and one document after the other.
use Rattle.std.specs.Prelude.{◌≡◌, ◌+◌, ◌<◌, ◌≤◌, ◌&&◌, ℕ, Bool, true, false, List, [], ◌∷◌, ◌++◌, Some, None, length, map, option_map, take}
use Rattle.std.specs.BTreeSet as set
use Rattle.std.specs.List.{list_any}
use Rattle.std.proofs.Common.{refl, sym, ap, subst, ◌∙◌, get_or}
use Rattle.std.proofs.lemmas.List.{map-append, take_all}
use Rattle.dita_doc.specs.Tree.{Content}
use Rattle.dita_doc.specs.declared.fault.FaultCode.TheVariants as codes
use Rattle.map_spec.specs.Written.{Written, written_in}
use Rattle.map_spec.specs.Pushes.{AllPushes, all_pushes, is_replace, is_replaced_by}
use Rattle.plan_nodes.proofs.HomeLaws.{push_of}
use Rattle.reader_spec.specs.World.{World}
use Rattle.conref_push.specs.Acting.{any_acts}
use Rattle.conref_push.specs.Gathered.{AreReplaced, IsGathered, acting_with, fault_seen, sights_in, with_fault}
use Rattle.conref_push.specs.Sight.{Sight, sight_of, with_all_seen, with_seen}
use Rattle.conref_push.specs.Table.{IsChanged, IsPushTable, IsTableOf, acts_among, with_acts, with_push}
use Rattle.conref_push.specs.Targets.{AreDocs, AreKnown, IsNoted, IsTargetDoc, spot_seen, target_cmp}
use Rattle.conref_push.specs.declared.pushing.Pushing as code
use Rattle.conref_push.specs.declared.table.PushTable.{PushTable}
use Rattle.conref_push.specs.declared.target_docs.PushTarget as spots
use Rattle.conref_push.specs.declared.target_docs.Targets.{Targets}
use Rattle.conref_push.proofs.AmongLaws.{acts_more, acts_same}
use Rattle.conref_push.proofs.DocLaws.{known_none}
use Rattle.conref_push.proofs.ReplaceLaws.{noted_push, noted_twice, replaced_by}
use Rattle.conref_push.proofs.SightLaws.{all_more, all_none, all_same, all_seen_push, nothing_seen}
use Rattle.conref_push.proofs.TableLaws.{push_at, quiet_as, seen_at_target, seen_nowhere, tabled_acts, tabled_as, tabled_none, tabled_push}

-- nothing was gathered yet
pub gathered_none : (world : World) (targets : Targets) (table : PushTable) → targets.docs.entries ≡ []
    → targets.replaced.keys ≡ [] → table.entries.map.entries ≡ [] → table.faults ≡ []
    → IsGathered world (all_pushes world []) (acts_among world []) targets table
gathered_none world targets table docs replaced entries faults =
    subst (λ all. IsGathered world all (acts_among world [])
    targets table) (sym (all_none world)) (record {
      tabled = tabled_none table entries faults;
      docs = known_none (IsTargetDoc world) targets.docs docs;
      replaced = λ target. rw replaced refl;
    })

gathered_as : (world : World) (all other : AllPushes) (acting more : List ℕ → Bool) (targets : Targets)
    (table : PushTable) → all ≡ other → ((name : List ℕ) → acting name ≡ more name)
    → IsGathered world all acting targets table → IsGathered world other more targets table
gathered_as world all other acting more targets table same acts gathered =
    subst (λ a. IsGathered world a more targets table) same (record {
      tabled = tabled_as all acting more table acts gathered.tabled;
      docs = gathered.docs;
      replaced = gathered.replaced;
    })

-- a document more, which is not stored
pub gathered_same : (world : World) (documents : List (List ℕ)) (name : List ℕ) (targets : Targets)
    (table : PushTable) → world name ≡ None
    → IsGathered world (all_pushes world documents) (acts_among world documents) targets table
    → IsGathered world (all_pushes world (documents ++ name ∷ [])) (acts_among world (documents ++ name ∷ [])) targets
    table
gathered_same world documents name targets table none =
    let nowhere = ap (option_map (written_in name)) none in
    gathered_as world (all_pushes world documents) (all_pushes world (documents ++ name ∷ []))
    (acts_among world documents)
    (acts_among world (documents ++ name ∷ [])) targets table (sym (all_same world documents name nowhere))
    (λ m. acts_same world documents name m nowhere)

-- a document more
pub gathered_more : (world : World) (documents : List (List ℕ)) (name : List ℕ) (tree : Content) (targets : Targets)
    (table : PushTable) → world name ≡ Some tree
    → IsGathered world (with_all_seen world (all_pushes world documents) (sights_in (written_in name tree)))
    (acting_with (acts_among world documents) name (written_in name tree)) targets table
    → IsGathered world (all_pushes world (documents ++ name ∷ [])) (acts_among world (documents ++ name ∷ [])) targets
    table
gathered_more world documents name tree targets table is =
    let nodes = written_in name tree in
    let here = ap (option_map (written_in name)) is in
    gathered_as world (with_all_seen world (all_pushes world documents) (sights_in nodes))
    (all_pushes world (documents ++ name ∷ [])) (acting_with (acts_among world documents) name nodes)
    (acts_among world (documents ++ name ∷ [])) targets table (sym (all_more world documents name nodes here))
    (λ m. acts_more world documents name nodes m here)

-- a document in which nothing acts
pub gathered_quiet : (world : World) (all : AllPushes) (acting : List ℕ → Bool) (name : List ℕ) (nodes : Written)
    (targets : Targets) (table : PushTable) → false ≡ any_acts nodes → IsGathered world all acting targets table
    → IsGathered world (with_all_seen world all (sights_in nodes)) (acting_with acting name nodes) targets table
gathered_quiet world all acting name nodes targets table quiet =
    gathered_as world all (with_all_seen world all (sights_in nodes)) acting (acting_with acting name nodes) targets
    table
    (sym (ap (with_all_seen world all) (nothing_seen nodes (sym quiet))))
    (λ m. quiet_as acting name nodes m (sym quiet))

-- one in which something acts
pub gathered_acts : (world : World) (all : AllPushes) (acting : List ℕ → Bool) (name : List ℕ) (nodes : Written)
    (targets : Targets) (old new : PushTable) → true ≡ any_acts nodes
    → IsChanged old.entries new.entries name with_acts → new.faults ≡ old.faults
    → IsGathered world all acting targets old → IsGathered world all (acting_with acting name nodes) targets new
gathered_acts world all acting name nodes targets old new acts changed same gathered = record {
  tabled = tabled_acts all acting old new name nodes gathered.tabled changed same (sym acts);
  docs = gathered.docs;
  replaced = gathered.replaced;
}

-- an element more
seen_step : (world : World) (all : AllPushes) (name : List ℕ) (items : List code.Pushing) (at : ℕ) (one : code.Pushing)
    → at < length items → one ≡ get_or items at one
    → with_seen world (with_all_seen world all (map (sight_of name) (take at items))) (sight_of name one)
    ≡ with_all_seen world all (map (sight_of name) (take (at + 1) items))
seen_step world all name items at one within is =
    sym (all_seen_push world all (map (sight_of name) (take at items)) (sight_of name one))
    ∙ ap (with_all_seen world all) (sym (map-append (sight_of name) (take at items) (one ∷ [])))
    ∙ ap (λ l. with_all_seen world all (map (sight_of name) l)) (sym (push_of items at one within is))

pub gathered_step : (world : World) (all : AllPushes) (acting : List ℕ → Bool) (name : List ℕ)
    (items : List code.Pushing) (at : ℕ) (one : code.Pushing) (targets : Targets) (table : PushTable)
    → at < length items → one ≡ get_or items at one
    → IsGathered world (with_seen world (with_all_seen world all (map (sight_of name) (take at items)))
    (sight_of name one)) acting targets table
    → IsGathered world (with_all_seen world all (map (sight_of name) (take (at + 1) items))) acting targets table
gathered_step world all acting name items at one targets table within is =
    subst (λ a. IsGathered world a acting targets table) (seen_step world all name items at one within is)

-- What an element that is seen puts

docs_as : (world : World) (old new : Targets) → new.docs ≡ old.docs → AreDocs world old → AreDocs world new
docs_as world old new same docs = subst (AreKnown (IsTargetDoc world)) (sym same) docs

module _ (world : World) (all : AllPushes) (acting : List ℕ → Bool) (sight : Sight) where
  -- it has no target
  pub gathered_nowhere : (old new : Targets) (table : PushTable) → None ≡ spot_seen world sight
      → AreDocs world new → new.replaced ≡ old.replaced
      → IsTableOf (with_fault all (fault_seen sight codes.PushPlace)) acting table → AreReplaced all old
      → IsGathered world (with_seen world all sight) acting new table
  gathered_nowhere old new table none docs same tabled replaced =
      subst (λ a. IsGathered world a acting new table) (seen_nowhere world all sight none) (record {
        tabled = tabled;
        docs = docs;
        replaced = λ target. ap (λ s. set.contains target_cmp s target) same ∙ replaced target;
      })

  told_twice : (target : spots.PushTarget) (targets : Targets) (twice : Bool)
      → twice ≡ (is_replace sight.kind && set.contains target_cmp targets.replaced target) → AreReplaced all targets
      → twice ≡ list_any (is_replaced_by (push_at sight target)) all.made
  told_twice target targets twice told replaced = told
      ∙ ap (λ b. is_replace sight.kind && b) (replaced target)
      ∙ sym (replaced_by (push_at sight target) target all.made refl refl)

  -- its target is replaced already
  pub gathered_twice : (target : spots.PushTarget) (old new : Targets) (table : PushTable)
      → Some target ≡ spot_seen world sight
      → true ≡ (is_replace sight.kind && set.contains target_cmp old.replaced target)
      → IsNoted sight.kind target true old.replaced new.replaced → new.docs ≡ old.docs
      → IsTableOf (with_fault all (fault_seen sight codes.PushTwice)) acting table → AreDocs world old
      → AreReplaced all old → IsGathered world (with_seen world all sight) acting new table
  gathered_twice target old new table is told noted same tabled docs replaced =
      subst (λ a. IsGathered world a acting new table)
      (seen_at_target world all sight target true is (told_twice target old true told replaced)) (record {
        tabled = tabled;
        docs = docs_as world old new same docs;
        replaced = noted_twice all old new sight.kind target (fault_seen sight codes.PushTwice) replaced noted;
      })

  -- it is pushed
  pub gathered_push : (target : spots.PushTarget) (old new : Targets) (before table : PushTable)
      → Some target ≡ spot_seen world sight
      → false ≡ (is_replace sight.kind && set.contains target_cmp old.replaced target)
      → IsNoted sight.kind target false old.replaced new.replaced → new.docs ≡ old.docs
      → IsChanged before.entries table.entries target.doc (with_push (push_at sight target).push)
      → table.faults ≡ before.faults → IsGathered world all acting old before
      → IsGathered world (with_seen world all sight) acting new table
  gathered_push target old new before table is told noted same changed faults gathered =
      subst (λ a. IsGathered world a acting new table)
      (seen_at_target world all sight target false is (told_twice target old false told gathered.replaced)) (record {
        tabled = tabled_push all acting before table (push_at sight target) gathered.tabled changed faults;
        docs = docs_as world old new same gathered.docs;
        replaced = noted_push all old new sight.kind target (push_at sight target) gathered.replaced noted refl
            refl refl;
      })

-- the documents that pushes name were asked for
pub gathered_found : (world : World) (all : AllPushes) (acting : List ℕ → Bool) (old new : Targets) (table : PushTable)
    → AreDocs world new → new.replaced ≡ old.replaced → IsGathered world all acting old table
    → IsGathered world all acting new table
gathered_found world all acting old new table docs same gathered = record {
  tabled = gathered.tabled;
  docs = docs;
  replaced = λ target. ap (λ s. set.contains target_cmp s target) same ∙ gathered.replaced target;
}

pub gathered_all : (world : World) (all : AllPushes) (acting : List ℕ → Bool) (name : List ℕ)
    (items : List code.Pushing) (at : ℕ) (sights : List Sight) (targets : Targets) (table : PushTable)
    → length items ≤ at → map (sight_of name) items ≡ sights
    → IsGathered world (with_all_seen world all (map (sight_of name) (take at items))) acting targets table
    → IsGathered world (with_all_seen world all sights) acting targets table
gathered_all world all acting name items at sights targets table past is =
    subst (λ l. IsGathered world (with_all_seen world all l) acting targets table)
    (ap (map (sight_of name)) (take_all at items past) ∙ is)

pub gathered_next : (world : World) (documents : List (List ℕ)) (at : ℕ) (one : List ℕ) (targets : Targets)
    (table : PushTable) → at < length documents → one ≡ get_or documents at one
    → IsGathered world (all_pushes world (take at documents ++ one ∷ []))
    (acts_among world (take at documents ++ one ∷ [])) targets table
    → IsGathered world (all_pushes world (take (at + 1) documents)) (acts_among world (take (at + 1) documents)) targets
    table
gathered_next world documents at one targets table within is =
    subst (λ ds. IsGathered world (all_pushes world ds) (acts_among world ds) targets table)
    (sym (push_of documents at one within is))

pub gathered_table : (world : World) (documents : List (List ℕ)) (at : ℕ) (targets : Targets) (table : PushTable)
    → length documents ≤ at
    → IsGathered world (all_pushes world (take at documents)) (acts_among world (take at documents)) targets table
    → IsPushTable world documents table
gathered_table world documents at targets table past gathered =
    subst (λ ds. IsPushTable world ds table) (take_all at documents past) gathered.tabled
