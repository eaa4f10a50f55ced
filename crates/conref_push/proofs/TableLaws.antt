-- The table of pushes, one push or one fault after the other.
use Rattle.std.specs.Prelude.{◌≡◌, ◌||◌, ◌&&◌, ℕ, Bool, true, false, List, [], ◌∷◌, ◌++◌, Option, Some, None, bytes_eq, filter, map, option_map, unwrap_or, if◌then◌else◌}
use Rattle.std.specs.BTreeMap as tree
use Rattle.std.specs.Cmp.Lexicographic.{slice_cmp, texts_ties}
use Rattle.std.specs.List.{list_any}
use Rattle.std.specs.Ordering.{nat_cmp}
use Rattle.std.proofs.Common.{refl, sym, ap, ◌∙◌, append-nil}
use Rattle.std.proofs.lemmas.List.{map-append}
use Rattle.std.proofs.lemmas.List.Elements.{filter-append}
use Rattle.dita_doc.specs.declared.content.Push.{Push}
use Rattle.dita_doc.specs.declared.content.PushList.{PushList}
use Rattle.dita_doc.specs.declared.fault.Fault.{Fault}
use Rattle.dita_doc.specs.declared.fault.FaultCode.TheVariants as codes
use Rattle.dita_doc.proofs.Orders.{same_at}
use Rattle.map_spec.specs.Written.{Written}
use Rattle.map_spec.specs.Pushes.{AllPushes, PushInto, PushTarget, all_pushes, is_into, is_replaced_by, no_pushes, pushes_into, stands_in, with_pushing}
use Rattle.reader_spec.specs.World.{World}
use Rattle.conref_push.specs.Acting.{any_acts}
use Rattle.conref_push.specs.Gathered.{acting_with, fault_seen, with_fault}
use Rattle.conref_push.specs.Sight.{Sight, pushing_seen, with_seen}
use Rattle.conref_push.specs.Table as table
use Rattle.conref_push.specs.Table.{HasAt, IsChanged, IsPushTable, IsTableOf, acts_among, is_touched, touched_by, entry_at, entry_for, entry_in, no_entry, with_acts, with_push}
use Rattle.conref_push.specs.Targets.{spot_of, spot_seen}
use Rattle.conref_push.specs.declared.entries.Entries.{Entries}
use Rattle.conref_push.specs.declared.entries.PushEntry.{PushEntry}
use Rattle.conref_push.specs.declared.table.PushTable.{PushTable}
use Rattle.conref_push.specs.declared.target_docs.PushTarget as code

abbrev pub list_of : List Push → List Fault → PushList
list_of pushes faults = record { pushes = pushes; faults = faults }

-- Entries

-- an entry was changed in its place
pub entry_changed : (old new : Entries) (name : List ℕ) (change : PushEntry → PushEntry) (entry : PushEntry)
    → HasAt old new name entry → entry ≡ change (entry_at old name) → IsChanged old new name change
entry_changed old new name change entry put is = record {
  each = λ other. ap (λ (found : Option PushEntry). unwrap_or found no_entry) (put.each other)
      ∙ by_test other (tree.is_at (slice_cmp nat_cmp name) other) refl;
}
  where
    by_test : (other : List ℕ) (test : Bool) → tree.is_at (slice_cmp nat_cmp name) other ≡ test
        → unwrap_or (if test then Some entry else entry_in old other) no_entry
        ≡ (if test then change (entry_at old other) else entry_at old other)
    by_test other true at = is ∙ ap (λ n. change (entry_at old n)) (same_at name other at)
    by_test other false at = refl

name_test : (name other : List ℕ) → tree.is_at (slice_cmp nat_cmp name) other ≡ bytes_eq name other
name_test name other = sym (texts_ties name other)

-- The table

abbrev pub push_in : PushInto → Push
push_in into = into.push

pub tabled_none : (table : PushTable) → table.entries.map.entries ≡ [] → table.faults ≡ []
    → IsTableOf no_pushes (λ name. false) table
tabled_none table none faults = record {
  entries = λ name. rw none refl;
  faults = faults;
}

pub tabled_push : (all : AllPushes) (acting : List ℕ → Bool) (old new : PushTable) (into : PushInto)
    → IsTableOf all acting old → IsChanged old.entries new.entries into.doc (with_push into.push)
    → new.faults ≡ old.faults → IsTableOf (record all { made = all.made ++ into ∷ [] }) acting new
tabled_push all acting old new into tabled changed same = record {
  entries = λ name. changed.each name
      ∙ ap (λ entry. if tree.is_at (slice_cmp nat_cmp into.doc) name then with_push into.push entry else entry)
      (tabled.entries name)
      ∙ ap (λ test. if test then with_push into.push (entry_for all (acting name) name)
      else entry_for all (acting name) name) (name_test into.doc name)
      ∙ by_test name (bytes_eq into.doc name)
      ∙ ap (λ made. record (entry_for all (acting name) name) { pushes = map push_in made })
      (sym (filter-append (is_into name) all.made (into ∷ [])));
  faults = same ∙ tabled.faults;
}
  where
    by_test : (name : List ℕ) (test : Bool)
        → (if test then with_push into.push (entry_for all (acting name) name) else entry_for all (acting name) name)
        ≡ record (entry_for all (acting name) name) {
          pushes = map push_in (filter (is_into name) all.made ++ (if test then into ∷ [] else []));
        }
    by_test name true = ap (λ pushes. record (entry_for all (acting name) name) { pushes = pushes })
        (sym (map-append push_in (filter (is_into name) all.made) (into ∷ [])))
    by_test name false = ap (λ made. record (entry_for all (acting name) name) { pushes = map push_in made })
        (sym (append-nil (filter (is_into name) all.made)))

pub tabled_fault : (all : AllPushes) (acting : List ℕ → Bool) (old new : PushTable) (name : List ℕ) (fault : Fault)
    → IsTableOf all acting old → IsChanged old.entries new.entries name (table.with_fault fault)
    → fault.name ≡ name → new.faults ≡ old.faults ++ fault ∷ [] → IsTableOf (with_fault all fault) acting new
tabled_fault all acting old new home fault tabled changed at more = record {
  entries = λ name. changed.each name
      ∙ ap (λ entry. if tree.is_at (slice_cmp nat_cmp home) name then table.with_fault fault entry else entry)
      (tabled.entries name)
      ∙ ap (λ test. if test then table.with_fault fault (entry_for all (acting name) name)
      else entry_for all (acting name) name)
      (name_test home name ∙ ap (λ n. bytes_eq n name) (sym at))
      ∙ by_test name (bytes_eq fault.name name)
      ∙ ap (λ faults. record (entry_for all (acting name) name) { faults = faults })
      (sym (filter-append (stands_in name) all.faults (fault ∷ [])));
  faults = more ∙ ap (λ faults. faults ++ fault ∷ []) tabled.faults;
}
  where
    by_test : (name : List ℕ) (test : Bool)
        → (if test then table.with_fault fault (entry_for all (acting name) name) else entry_for all (acting name) name)
        ≡ record (entry_for all (acting name) name) {
          faults = filter (stands_in name) all.faults ++ (if test then fault ∷ [] else []);
        }
    by_test name true = refl
    by_test name false = ap (λ faults. record (entry_for all (acting name) name) { faults = faults })
        (sym (append-nil (filter (stands_in name) all.faults)))

pub tabled_acts : (all : AllPushes) (acting : List ℕ → Bool) (old new : PushTable) (name : List ℕ) (nodes : Written)
    → IsTableOf all acting old → IsChanged old.entries new.entries name with_acts → new.faults ≡ old.faults
    → any_acts nodes ≡ true → IsTableOf all (acting_with acting name nodes) new
tabled_acts all acting old new name nodes tabled changed same acts = record {
  entries = λ other. changed.each other
      ∙ ap (λ entry. if tree.is_at (slice_cmp nat_cmp name) other then with_acts entry else entry)
      (tabled.entries other)
      ∙ ap (λ test. if test then with_acts (entry_for all (acting other) other)
      else entry_for all (acting other) other) (name_test name other)
      ∙ by_test other (acting other) (bytes_eq name other)
      ∙ ap (λ b. entry_for all (acting other || (bytes_eq name other && b)) other) (sym acts);
  faults = same ∙ tabled.faults;
}
  where
    by_test : (other : List ℕ) (before test : Bool)
        → (if test then with_acts (entry_for all before other) else entry_for all before other)
        ≡ entry_for all (before || (test && true)) other
    by_test other true true = refl
    by_test other true false = refl
    by_test other false true = refl
    by_test other false false = refl

pub tabled_as : (all : AllPushes) (acting other : List ℕ → Bool) (table : PushTable)
    → ((name : List ℕ) → acting name ≡ other name) → IsTableOf all acting table → IsTableOf all other table
tabled_as all acting other table same tabled = record {
  entries = λ name. tabled.entries name ∙ ap (λ b. entry_for all b name) (same name);
  faults = tabled.faults;
}

pub quiet_as : (acting : List ℕ → Bool) (name : List ℕ) (nodes : Written) (other : List ℕ) → any_acts nodes ≡ false
    → acting other ≡ acting_with acting name nodes other
quiet_as acting name nodes other none =
    by_test (acting other) (bytes_eq name other) ∙ ap (λ b. acting other || (bytes_eq name other && b)) (sym none)
  where
    by_test : (a b : Bool) → a ≡ (a || (b && false))
    by_test true b = refl
    by_test false true = refl
    by_test false false = refl

-- What an element that is seen puts

abbrev pub push_at : Sight → code.PushTarget → PushInto
push_at sight target = record {
  doc = target.doc;
  push = record { kind = sight.kind; at = target.place; from = sight.element.doc; place = sight.place };
}

module _ (world : World) (all : AllPushes) (sight : Sight) where
  pub seen_nowhere : None ≡ spot_seen world sight
      → with_fault all (fault_seen sight codes.PushPlace) ≡ with_seen world all sight
  seen_nowhere none = by_target (pushing_seen world sight).target none
    where
      by_target : (target : Option PushTarget) → None ≡ option_map spot_of target
          → with_fault all (fault_seen sight codes.PushPlace) ≡ with_pushing all (pushing_seen world sight) target
      by_target None is = refl
      by_target (Some target) is = cc

  abbrev put_by : Bool → PushInto → AllPushes
  put_by twice into = if twice then with_fault all (fault_seen sight codes.PushTwice)
      else record all { made = all.made ++ into ∷ [] }

  -- at a target: the push, unless its element is replaced already
  pub seen_at_target : (target : code.PushTarget) (twice : Bool) → Some target ≡ spot_seen world sight
      → twice ≡ list_any (is_replaced_by (push_at sight target)) all.made
      → put_by twice (push_at sight target) ≡ with_seen world all sight
  seen_at_target target twice is told = by_target (pushing_seen world sight).target is
    where
      by_target : (found : Option PushTarget) → Some target ≡ option_map spot_of found
          → put_by twice (push_at sight target) ≡ with_pushing all (pushing_seen world sight) found
      by_target None found = cc
      by_target (Some meant) found =
          let same : target ≡ spot_of meant = cc in
          ap (λ t. put_by t (push_at sight target)) told
          ∙ ap (λ t. put_by (list_any (is_replaced_by (push_at sight t)) all.made) (push_at sight t)) same

-- What the table answers

entry_found : (world : World) (documents : List (List ℕ)) (table : PushTable) (name : List ℕ) (found : Option PushEntry)
    → found ≡ entry_in table.entries name → IsPushTable world documents table
    → unwrap_or found no_entry ≡ entry_for (all_pushes world documents) (acts_among world documents name) name
entry_found world documents table name found is tabled =
    ap (λ f. unwrap_or f no_entry) is ∙ tabled.entries name

pub list_found : (world : World) (documents : List (List ℕ)) (table : PushTable) (name : List ℕ)
    (found : Option PushEntry) (pushes : List Push) (faults : List Fault) → found ≡ entry_in table.entries name
    → pushes ≡ (unwrap_or found no_entry).pushes → faults ≡ (unwrap_or found no_entry).faults
    → IsPushTable world documents table → list_of pushes faults ≡ pushes_into world documents name
list_found world documents table name found pushes faults is own other tabled =
    let same = entry_found world documents table name found is tabled in
    rw (own, other) (ap (λ (entry : PushEntry). list_of entry.pushes entry.faults) same)

pub touched_found : (world : World) (documents : List (List ℕ)) (table : PushTable) (name : List ℕ)
    (found : Option PushEntry) → found ≡ entry_in table.entries name → IsPushTable world documents table
    → touched_by (unwrap_or found no_entry) ≡ is_touched world documents name
touched_found world documents table name found is tabled =
    ap touched_by (entry_found world documents table name found is tabled)
