-- What a judge of facts is asked, and what its answer tells (own). A judge has sources of its own, and is asked of
-- facts that agreed with older sources, of which much has stood since.
use Rattle.std.specs.Prelude.{◌≡◌, ◌≤◌, ℕ, Bool, true, false, List, Option, Some}
use Rattle.dita_doc.specs.Desk.{State, Stored, stored_under}
use Rattle.dita_doc.specs.declared.fact.FactKey.{FactKey}

-- the builds of one map with one DITAVAL, or without
pub record BuildKey : Type 0 where
  pub map : List ℕ
  pub val : Option (List ℕ)

abbrev pub build_key : FactKey → BuildKey
build_key key = record { map = key.map; val = key.val }

-- the answer yes tells that it is so, and the answer no that it is not
abbrev pub Tells : Bool → Type 0 → Type 0
Tells true P = P
Tells false P = P → ⊥

-- what is stored at a version of at most this was stored under the same name in the older sources too
pub record HasStood (since : ℕ) (older newer : State) : Type 0 where
  pub each : (name : List ℕ) (stored : Stored) → stored_under newer name ≡ Some stored → stored.version ≤ since
      → stored_under older name ≡ Some stored

-- it agreed with older sources, of which all has stood that has a version of at most this
pub record HasAgreed {X : Type 0} (agrees : X → State → Type 0) (x : X) (since : ℕ) (newer : State) : Type 0 where
  pub older : State
  pub agreed : agrees x older
  pub stood : HasStood since older newer
