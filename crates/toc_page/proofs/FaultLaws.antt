-- The faults of all pushes are those that stand in each document, by document.
use Rattle.std.specs.Prelude.{◌≡◌, ◌+◌, ◌<◌, ℕ, Bool, true, false, List, [], ◌∷◌, ◌++◌, Option, Some, None, codes, filter, length, option_map, take, if◌then◌else◌}
use Rattle.std.specs.List.{All, cons_option, filter_map, flat_map, list_any}
use Rattle.std.specs.Option.{option_map_or}
use Rattle.std.proofs.Common.{refl, sym, ap, subst, ◌∙◌, append_assoc, append-nil, get_or}
use Rattle.std.proofs.lemmas.Grind.{flat_map-append}
use Rattle.std.proofs.lemmas.List.{take_more}
use Rattle.std.proofs.lemmas.List.Elements.{All-append, All-cons, All-nil}
use Rattle.dita_doc.specs.Tree.{Content}
use Rattle.dita_doc.specs.declared.content.PushKind.{PushKind}
use Rattle.dita_doc.specs.declared.fault.Fault.{Fault}
use Rattle.map_spec.specs.Elements.{attribute}
use Rattle.map_spec.specs.Written.{document, written_in}
use Rattle.map_spec.specs.Places.{Standing, all_standing}
use Rattle.map_spec.specs.Pushes.{AllPushes, PushTarget, Pushing, all_pushes, is_replaced_by, no_pushes, push_fault, push_kind, push_of, pushes_behind, pushing_at, pushing_in, pushing_of, stands_in, twice_fault, with_pushing}
use Rattle.reader_spec.specs.World.{World}
use Rattle.map_lemmas.proofs.PlacedLaws.{InDocument, standing_of}
use Rattle.toc_page.specs.Made.{AreOnce, faults_in}
use Rattle.toc_page.proofs.GroupedLaws.{IsGroup, Once, each_once_is, grouped, put_out}

-- The fault of one push

abbrev fault_if : Bool → Pushing → List Fault
fault_if twice pushing = if twice then twice_fault pushing ∷ [] else []

abbrev new_by : AllPushes → Pushing → Option PushTarget → List Fault
new_by all pushing None = push_fault pushing ∷ []
new_by all pushing (Some target) = fault_if (list_any (is_replaced_by (push_of pushing target)) all.made) pushing

abbrev new_fault : AllPushes → Pushing → List Fault
new_fault all pushing = new_by all pushing pushing.target

abbrev next : AllPushes → Pushing → AllPushes
next all pushing = with_pushing all pushing pushing.target

fault_more : (all : AllPushes) (pushing : Pushing) (target : Option PushTarget)
    → (with_pushing all pushing target).faults ≡ all.faults ++ new_by all pushing target
fault_more all pushing None = refl
fault_more all pushing (Some target) = by_test (list_any (is_replaced_by (push_of pushing target)) all.made)
  where
    by_test : (b : Bool) → (if b then record all { faults = all.faults ++ twice_fault pushing ∷ [] }
        else record all { made = all.made ++ push_of pushing target ∷ [] }).faults
        ≡ all.faults ++ fault_if b pushing
    by_test true = refl
    by_test false = sym (append-nil all.faults)

fault_named : (name : List ℕ) (all : AllPushes) (pushing : Pushing) (target : Option PushTarget)
    → pushing.standing.whole.0.doc ≡ name → All (λ (fault : Fault). fault.name ≡ name) (new_by all pushing target)
fault_named name all pushing None of = All-cons (λ (fault : Fault). fault.name ≡ name) (push_fault pushing) [] of
    (All-nil (λ (fault : Fault). fault.name ≡ name))
fault_named name all pushing (Some target) of = by_test (list_any (is_replaced_by (push_of pushing target)) all.made)
  where
    by_test : (b : Bool) → All (λ (fault : Fault). fault.name ≡ name) (fault_if b pushing)
    by_test true = All-cons (λ (fault : Fault). fault.name ≡ name) (twice_fault pushing) [] of
        (All-nil (λ (fault : Fault). fault.name ≡ name))
    by_test false = All-nil (λ (fault : Fault). fault.name ≡ name)

-- The pushing elements of a document stand in it

abbrev ArePushing : List ℕ → List Pushing → Type 0
ArePushing name [] = Unit {0}
ArePushing name (pushing ∷ more) = (pushing.standing.whole.0.doc ≡ name) × ArePushing name more

module _ (world : World) where
  abbrev group : List ℕ → List Pushing
  group name = option_map_or (λ nodes. filter_map (pushing_at world) (all_standing nodes)) (document world name) []

  pushing_one : (name : List ℕ) (standing : Standing) (kind : Option PushKind) (rest : List Pushing)
      → standing.whole.0.doc ≡ name → ArePushing name rest
      → ArePushing name (cons_option (option_map (pushing_of world standing) kind) rest)
  pushing_one name standing None rest here there = there
  pushing_one name standing (Some kind) rest here there = (here, there)

  pushing_all : (name : List ℕ) (standings : List Standing) → InDocument name standings
      → ArePushing name (filter_map (pushing_at world) standings)
  pushing_all name [] of = tt
  pushing_all name (standing ∷ more) of =
      pushing_one name standing (push_kind (attribute (codes "conaction") standing.whole.0)) _ of.0
      (pushing_all name more of.1)

  pushing_stored : (name : List ℕ) (stored : Option Content)
      → ArePushing name (option_map_or (λ nodes. filter_map (pushing_at world) (all_standing nodes))
      (option_map (written_in name) stored) [])
  pushing_stored name None = tt
  pushing_stored name (Some all) =
      pushing_all name (all_standing (written_in name all)) (standing_of name all 0 None None)

  -- The faults of some documents

  abbrev put : AllPushes → List Pushing → List Fault
  put all pushings = put_out Fault (λ (fault : Fault). fault.name) AllPushes Pushing next new_fault group all pushings

  faults_behind : (all : AllPushes) (pushings : List Pushing)
      → (pushes_behind all pushings).faults ≡ all.faults ++ put all pushings
  faults_behind all [] = sym (append-nil all.faults)
  faults_behind all (pushing ∷ more) =
      faults_behind (next all pushing) more
      ∙ ap (λ l. l ++ put (next all pushing) more) (fault_more all pushing pushing.target)
      ∙ append_assoc all.faults (new_fault all pushing) (put (next all pushing) more)

  put_named : (name : List ℕ) (pushings : List Pushing) (all : AllPushes) → ArePushing name pushings
      → All (λ (fault : Fault). fault.name ≡ name) (put all pushings)
  put_named name [] all are = All-nil (λ (fault : Fault). fault.name ≡ name)
  put_named name (pushing ∷ more) all are =
      All-append (λ (fault : Fault). fault.name ≡ name) (new_fault all pushing) (put (next all pushing) more)
      (fault_named name all pushing pushing.target are.0)
      (put_named name more (next all pushing) are.1)

  is_group : (name : List ℕ)
      → IsGroup Fault (λ (fault : Fault). fault.name) AllPushes Pushing next new_fault group name
  is_group name = record { each = λ all. put_named name (group name) all (pushing_stored name (world name)) }

  pub all_faults : (documents : List (List ℕ)) → AreOnce documents
      → flat_map (faults_in world documents) documents ≡ (all_pushes world documents).faults
  unfolding all_pushes
  all_faults documents once =
      let all = faults_behind no_pushes (pushing_in world documents) in
      ap (λ l. flat_map (λ name. filter (stands_in name) l) documents) all
      ∙ grouped Fault (λ (fault : Fault). fault.name) AllPushes Pushing next new_fault group is_group documents no_pushes
      (subst Once (sym once.is) (each_once_is once.all))
      ∙ sym all

-- the faults of one document more
pub faults_more : (f : List ℕ → List Fault) (documents : List (List ℕ)) (at : ℕ) (name : List ℕ)
    (old new more : List Fault) → at < length documents → name ≡ get_or documents at name
    → old ≡ flat_map f (take at documents) → new ≡ old ++ more → more ≡ f name
    → new ≡ flat_map f (take (at + 1) documents)
faults_more f documents at name old new more within item before put is =
    put ∙ ap (λ l. l ++ more) before
    ∙ ap (λ l. flat_map f (take at documents) ++ l)
    (is ∙ ap f item ∙ sym (append-nil (f (get_or documents at name))))
    ∙ sym (flat_map-append f (take at documents) (get_or documents at name ∷ []))
    ∙ ap (flat_map f) (sym (take_more documents at name within))
