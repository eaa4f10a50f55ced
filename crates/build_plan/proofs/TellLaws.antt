-- What stays founded over the steps of a plan, and which documents they ask for.
use Rattle.std.specs.Prelude.{◌≡◌, ℕ, List, [], ◌∷◌, Option, Some, IsTrue, bytes_eq}
use Rattle.std.specs.Borrow.{Bor}
use Rattle.std.specs.Option.{option_copied, option_to_list}
use Rattle.std.proofs.Common.{subst, sym}
use Rattle.std.proofs.Math.Logic.{⊎_elim}
use Rattle.std.proofs.lemmas.Bool.{false≢true, or_cases, or_left, or_right}
use Rattle.readers.specs.Documents.{AsksOnly, Covers, Follows, nothing}
use Rattle.readers.specs.Founded.{AreAllowed, IsFounded, StaysFounded, is_among}
use Rattle.readers.specs.Told.{Told}
use Rattle.readers.proofs.DocumentLaws.{asks_among, covers_nothing, covers_same}
use Rattle.readers.proofs.FoundedLaws.{stays_among, stays_by, stays_grows, stays_when}
use Rattle.branch_copies.specs.Ditavalrefs.{ditaval_targets}
use Rattle.map_expand.specs.AskedFor.{AreAsked}
use Rattle.map_expand.specs.Telling.{map_targets}
use Rattle.readers.proofs.AmongLaws.{among_back, among_front}
use Rattle.map_expand.proofs.AskedForLaws.{asks_asked}
use Rattle.build_plan.specs.Documents.{build_names, plan_targets}

map_among : (map : List ℕ) (val : Option (List ℕ)) (m : List ℕ) → IsTrue (is_among (map ∷ []) m)
    → IsTrue (is_among (build_names map val) m)
map_among map val m among = ⊎_elim (λ here. or_left (bytes_eq map m) _ here) (λ there. absurd (false≢true there))
    (or_cases (bytes_eq map m) _ among)

val_among : (map : List ℕ) (val : Option (List ℕ)) (m : List ℕ) → IsTrue (is_among (option_to_list val) m)
    → IsTrue (is_among (build_names map val) m)
val_among map val m among = or_right (bytes_eq map m) _ among

pub stays_map : (map : List ℕ) (val : Option (List ℕ)) (old new : List Told) → StaysFounded (map ∷ []) old new
    → StaysFounded (build_names map val) old new
stays_map map val old new stays = stays_among (map ∷ []) (build_names map val) old new (map_among map val) stays

pub stays_val : (map : List ℕ) (val : Option (List ℕ)) (old new : List Told)
    → StaysFounded (option_to_list val) old new → StaysFounded (build_names map val) old new
stays_val map val old new stays =
    stays_among (option_to_list val) (build_names map val) old new (val_among map val) stays

-- a call about names that are allowed since they were asked for
pub stays_given : (names some : List (List ℕ)) (old new : List Told)
    → ((roots : List (List ℕ)) → IsFounded roots old → AreAllowed roots old some) → StaysFounded some old new
    → StaysFounded names old new
stays_given names some old new given stays =
    stays_when names old new (stays_grows some old new stays)
    (λ roots allowed founded. stays_by some old new stays roots (given roots founded) founded)

-- What follows for a plan: maps, and DITAVALs

covers_maps : Covers plan_targets map_targets
covers_maps = record { each = λ t m among. among_front (map_targets t) (ditaval_targets t) m among }

ditavals_covered : (rule : Follows) → Covers rule plan_targets → Covers rule ditaval_targets
ditavals_covered rule covers =
    record { each = λ t m among. covers.each t m (among_back (map_targets t) (ditaval_targets t) m among) }

pub asks_maps : (names : List (List ℕ)) (old new : List Told) → AsksOnly map_targets names old new
    → AsksOnly plan_targets names old new
asks_maps names old new =
    asks_among plan_targets map_targets names names old new covers_maps (λ m among. among)

-- of documents that were asked for by then no more are asked for, or those that ditavalrefs name
pub asks_again : (names some : List (List ℕ)) (a b c : List Told) → AsksOnly plan_targets names a b → AreAsked b some
    → AsksOnly nothing some b c → AsksOnly plan_targets names a c
asks_again names some a b c = asks_asked plan_targets nothing names some a b c (λ rule covers. covers_nothing rule)

pub asks_ditavals : (names some : List (List ℕ)) (a b c : List Told) → AsksOnly plan_targets names a b
    → AreAsked b some → AsksOnly ditaval_targets some b c → AsksOnly plan_targets names a c
asks_ditavals names some a b c = asks_asked plan_targets ditaval_targets names some a b c ditavals_covered

-- of the names of a build
pub asks_map : (follows : Follows) (map : List ℕ) (val : Option (List ℕ)) (old new : List Told)
    → AsksOnly follows (map ∷ []) old new → AsksOnly follows (build_names map val) old new
asks_map follows map val old new = asks_among follows follows (map ∷ []) (build_names map val) old new
    (covers_same follows) (map_among map val)

pub asks_root : (map : List ℕ) (val : Option (List ℕ)) (old new : List Told) → AsksOnly nothing (map ∷ []) old new
    → AsksOnly plan_targets (build_names map val) old new
asks_root map val old new = asks_among plan_targets nothing (map ∷ []) (build_names map val) old new
    (covers_nothing plan_targets) (map_among map val)

pub asks_val : (map : List ℕ) (val : Option (List ℕ)) (old new : List Told)
    → AsksOnly nothing (option_to_list val) old new → AsksOnly plan_targets (build_names map val) old new
asks_val map val old new = asks_among plan_targets nothing (option_to_list val) (build_names map val) old new
    (covers_nothing plan_targets) (val_among map val)

-- a call about the DITAVAL that is named
pub stays_named : (val : Option (Bor (List ℕ))) (name : Bor (List ℕ)) (old new : List Told) → val ≡ Some name
    → StaysFounded (name.now ∷ []) old new → StaysFounded (option_to_list (option_copied val)) old new
stays_named val name old new is =
    subst (λ (v : Option (Bor (List ℕ))). StaysFounded (option_to_list (option_copied v)) old new) (sym is)

pub asks_named : (val : Option (Bor (List ℕ))) (name : Bor (List ℕ)) (old new : List Told) → val ≡ Some name
    → AsksOnly nothing (name.now ∷ []) old new → AsksOnly nothing (option_to_list (option_copied val)) old new
asks_named val name old new is =
    subst (λ (v : Option (Bor (List ℕ))). AsksOnly nothing (option_to_list (option_copied v)) old new) (sym is)
