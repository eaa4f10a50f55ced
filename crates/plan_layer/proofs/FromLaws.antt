-- The pushes of some documents come from these documents.
use Rattle.std.specs.Prelude.{◌≡◌, ℕ, Bool, true, false, List, [], ◌∷◌, ◌++◌, Option, Some, None, IsTrue, bytes_eq, codes, cond, filter, map, option_map, if◌then◌else◌}
use Rattle.std.specs.List.{cons_option, filter_map, list_any}
use Rattle.std.specs.Option.{option_map_or}
use Rattle.std.proofs.Common.{sym, subst}
use Rattle.std.proofs.Math.Logic.{⊎_elim}
use Rattle.std.proofs.lemmas.Bool.{false≢true, or_cases}
use Rattle.std.proofs.lemmas.Slice.Eq.{bytes_eq-Decides}
use Rattle.conref_push.specs.Into.{froms}
use Rattle.dita_doc.specs.Tree.{Content}
use Rattle.dita_doc.specs.declared.content.PushKind.{PushKind}
use Rattle.dita_doc.specs.declared.content.PushList.{PushList}
use Rattle.map_spec.specs.Elements.{attribute}
use Rattle.map_spec.specs.Written.{written_in}
use Rattle.map_spec.specs.Places.{Standing, all_standing}
use Rattle.map_spec.specs.Pushes.{AllPushes, PushInto, PushTarget, Pushing, all_pushes, is_into, is_replaced_by, no_pushes, push_kind, push_of, pushes_behind, pushes_into, pushing_at, pushing_in, pushing_of, twice_fault, with_pushing}
use Rattle.reader_spec.specs.World.{World}
use Rattle.map_lemmas.proofs.PlacedLaws.{InDocument, standing_of}
use Rattle.readers.specs.Founded.{AreAmong, is_among}
use Rattle.readers.proofs.FoundedLaws.{among_behind, among_first}
use Rattle.conref_push.proofs.TableLaws.{push_in}

-- pushing elements that stand in some of these documents
abbrev StandIn : List (List ℕ) → List Pushing → Type 0
StandIn documents [] = Unit {0}
StandIn documents (pushing ∷ more) = IsTrue (is_among documents pushing.standing.whole.0.doc) × StandIn documents more

stand_both : (documents : List (List ℕ)) (some more : List Pushing) → StandIn documents some → StandIn documents more
    → StandIn documents (some ++ more)
stand_both documents [] more here there = there
stand_both documents (pushing ∷ some) more here there = (here.0, stand_both documents some more here.1 there)

module _ (world : World) (documents : List (List ℕ)) where
  stand_one : (standing : Standing) (kind : Option PushKind) (rest : List Pushing)
      → IsTrue (is_among documents standing.whole.0.doc) → StandIn documents rest
      → StandIn documents (cons_option (option_map (pushing_of world standing) kind) rest)
  stand_one standing None rest here there = there
  stand_one standing (Some kind) rest here there = (here, there)

  stand_all : (name : List ℕ) (standings : List Standing) → IsTrue (is_among documents name) → InDocument name standings
      → StandIn documents (filter_map (pushing_at world) standings)
  stand_all name [] among of = tt
  stand_all name (standing ∷ more) among of = stand_one standing (push_kind (attribute (codes "conaction") standing.whole.0)) _
      (subst (λ n. IsTrue (is_among documents n)) (sym of.0) among) (stand_all name more among of.1)

  stand_stored : (name : List ℕ) (stored : Option Content) → IsTrue (is_among documents name)
      → StandIn documents (option_map_or (λ nodes. filter_map (pushing_at world) (all_standing nodes))
      (option_map (written_in name) stored) [])
  stand_stored name None among = tt
  stand_stored name (Some all) among =
      stand_all name (all_standing (written_in name all)) among (standing_of name all 0 None None)

  stand_in : (some : List (List ℕ)) → AreAmong some documents → StandIn documents (pushing_in world some)
  stand_in [] among = tt
  stand_in (name ∷ some) among = stand_both documents _ (pushing_in world some)
      (stand_stored name (world name) (among.each name (among_first name some)))
      (stand_in some (record { each = λ m here. among.each m (among_behind name some m here) }))

-- pushes that come from these documents
abbrev ComeFrom : List (List ℕ) → List PushInto → Type 0
ComeFrom documents [] = Unit {0}
ComeFrom documents (into ∷ more) = IsTrue (is_among documents into.push.from) × ComeFrom documents more

come_more : (documents : List (List ℕ)) (made : List PushInto) (into : PushInto) → ComeFrom documents made
    → IsTrue (is_among documents into.push.from) → ComeFrom documents (made ++ into ∷ [])
come_more documents [] into come from = (from, tt)
come_more documents (first ∷ made) into come from = (come.0, come_more documents made into come.1 from)

module _ (documents : List (List ℕ)) where
  come_one : (all : AllPushes) (pushing : Pushing) (into : PushInto) (twice : Bool) → ComeFrom documents all.made
      → IsTrue (is_among documents into.push.from)
      → ComeFrom documents (if twice then record all { faults = all.faults ++ twice_fault pushing ∷ [] }
      else record all { made = all.made ++ into ∷ [] }).made
  come_one all pushing into true come from = come
  come_one all pushing into false come from = come_more documents all.made into come from

  come_with : (all : AllPushes) (pushing : Pushing) (target : Option PushTarget) → ComeFrom documents all.made
      → IsTrue (is_among documents pushing.standing.whole.0.doc)
      → ComeFrom documents (with_pushing all pushing target).made
  come_with all pushing None come from = come
  come_with all pushing (Some target) come from = come_one all pushing (push_of pushing target)
      (list_any (is_replaced_by (push_of pushing target)) all.made) come from

  come_behind : (all : AllPushes) (pushings : List Pushing) → ComeFrom documents all.made → StandIn documents pushings
      → ComeFrom documents (pushes_behind all pushings).made
  come_behind all [] come stand = come
  come_behind all (pushing ∷ more) come stand = come_behind (with_pushing all pushing pushing.target) more
      (come_with all pushing pushing.target come stand.0) stand.1

  come_all : (world : World) → ComeFrom documents (all_pushes world documents).made
  unfolding all_pushes
  come_all world = come_behind no_pushes (pushing_in world documents) tt
      (stand_in world documents documents (record { each = λ m among. among }))

  among_froms : (name m : List ℕ) (made : List PushInto) → ComeFrom documents made
      → IsTrue (is_among (froms (map push_in (filter (is_into name) made))) m) → IsTrue (is_among documents m)
  among_froms name m [] come among = absurd (false≢true among)
  among_froms name m (into ∷ made) come among =
      by_test (is_into name into) (among_froms name m made come.1) among
    where
      by_test : (test : Bool) → (IsTrue (is_among (froms (map push_in (filter (is_into name) made))) m)
          → IsTrue (is_among documents m))
          → IsTrue (is_among (froms (map push_in (cond test (into ∷ filter (is_into name) made)
          (filter (is_into name) made)))) m)
          → IsTrue (is_among documents m)
      by_test true behind among = ⊎_elim
          (λ here. subst (λ n. IsTrue (is_among documents n)) ((bytes_eq-Decides into.push.from m).0 here) come.0)
          behind (or_cases (bytes_eq into.push.from m) _ among)
      by_test false behind among = behind among

froms_among : (world : World) (documents : List (List ℕ)) (name : List ℕ)
    → AreAmong (froms (pushes_into world documents name).pushes) documents
froms_among world documents name = record {
  each = λ m among. among_froms documents name m (all_pushes world documents).made (come_all documents world) among;
}

pub told_froms : (world : World) (documents : List (List ℕ)) (name : List ℕ) (answer : PushList)
    → answer ≡ pushes_into world documents name → AreAmong (froms answer.pushes) documents
told_froms world documents name answer is =
    subst (λ (list : PushList). AreAmong (froms list.pushes) documents) (sym is) (froms_among world documents name)
