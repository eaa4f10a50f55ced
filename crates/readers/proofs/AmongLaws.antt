-- Names among those of two lists.
use Rattle.std.specs.List.{filter_map}
use Rattle.std.specs.Prelude.{None, Option, Some, slice_get, suc, unwrap_or, zero, ◌≡◌}
use Rattle.std.proofs.Common.{◌++◌, ℕ, List, [], ◌∷◌, IsTrue, bytes_eq, refl}
use Rattle.std.proofs.Math.Logic.{⊎_elim}
use Rattle.std.proofs.lemmas.Bool.{false≢true, or_cases, or_left, or_right}
use Rattle.readers.specs.Founded.{is_among}
use Rattle.dita_doc.specs.declared.plan.Target.{Target}
use Rattle.dita_doc.specs.declared.plan.Target.TheVariants as targets
use Rattle.map_spec.specs.Pages.{local_name}
use Rattle.readers.proofs.FoundedLaws.{among_behind, among_first}

pub among_front : (a b : List (List ℕ)) (m : List ℕ) → IsTrue (is_among a m) → IsTrue (is_among (a ++ b) m)
among_front [] b m among = absurd (false≢true among)
among_front (name ∷ a) b m among = ⊎_elim (λ here. or_left (bytes_eq name m) _ here)
    (λ there. or_right (bytes_eq name m) _ (among_front a b m there)) (or_cases (bytes_eq name m) _ among)

pub among_back : (a b : List (List ℕ)) (m : List ℕ) → IsTrue (is_among b m) → IsTrue (is_among (a ++ b) m)
among_back [] b m among = among
among_back (name ∷ a) b m among = or_right (bytes_eq name m) _ (among_back a b m among)

-- among two lists is among one of them
pub among_either : (a b : List (List ℕ)) (m : List ℕ) (P : Type 0) → (IsTrue (is_among a m) → P)
    → (IsTrue (is_among b m) → P) → IsTrue (is_among (a ++ b) m) → P
among_either [] b m P first second among = second among
among_either (name ∷ a) b m P first second among = ⊎_elim (λ here. first (or_left (bytes_eq name m) _ here))
    (λ there. among_either a b m P (λ h. first (or_right (bytes_eq name m) _ h)) second there)
    (or_cases (bytes_eq name m) _ among)

-- the document of a target is among those of all
pub among_targets : (all : List Target) (at : ℕ) (name : List ℕ)
    → local_name (unwrap_or (slice_get all at) targets.Nothing) ≡ Some name
    → IsTrue (is_among (filter_map local_name all) name)
among_targets [] zero name named = cc
among_targets [] (suc at) name named = cc
among_targets (target ∷ more) zero name named = rw named (among_first name (filter_map local_name more))
among_targets (target ∷ more) (suc at) name named =
    by_name (among_targets more at name named) (local_name target) refl
  where
    by_name : IsTrue (is_among (filter_map local_name more) name) → (other : Option (List ℕ))
        → local_name target ≡ other
        → IsTrue (is_among (filter_map local_name (target ∷ more)) name)
    by_name behind None e = rw e behind
    by_name behind (Some other) e = rw e (among_behind other (filter_map local_name more) name behind)
