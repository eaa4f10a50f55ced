-- Claims that run, as data (own).
use Rattle.std.specs.Prelude.{◌≡◌, ℕ, Bool, List, length, map}
use Rattle.std.specs.Arc.{arc_value}
use Rattle.dita_doc.specs.declared.fact.FactKey.{FactKey}
use Rattle.facts.specs.Judged.{Tells}
use Rattle.facts.specs.Latest.{Runs}
use Rattle.facts.specs.Rows.{Running, Stands}
use Rattle.fact_table.specs.declared.claims.RunningClaim.{RunningClaim}

abbrev pub claim_seen : RunningClaim → Running
claim_seen claim = record {
  serial = claim.serial;
  key = claim.key;
  stamp = claim.stamp;
  state = arc_value claim.sources;
}

abbrev pub claims_seen : List RunningClaim → List Running
claims_seen claims = map claim_seen claims

-- it is for this key and this stamp
pub record IsFor (key : FactKey) (stamp : ℕ) (claim : RunningClaim) : Type 0 where
  pub of : claim.key ≡ key
  pub at : claim.stamp ≡ stamp

-- it is the serial of a claim that runs for a key and a stamp
pub record IsSerialFor (running : List Running) (key : FactKey) (stamp serial : ℕ) : Type 0 where
  pub claim : Running
  pub runs : Runs running key stamp claim
  pub number : serial ≡ claim.serial

-- a claim of this key runs
pub record RunsOf (running : List Running) (key : FactKey) : Type 0 where
  pub claim : Running
  pub stands : Stands running claim
  pub of : claim.key ≡ key

abbrev pub TellsRunning : List Running → FactKey → Bool → Type 0
TellsRunning running key answer = Tells answer (RunsOf running key)

-- the count of the names of each claim of this serial, if they rise
abbrev pub AreNamesOf : List Running → ℕ → ℕ → Type 0
AreNamesOf running serial names = (claim : Running) → Stands running claim → claim.serial ≡ serial
    → ((one other : Running) → Stands running one → Stands running other → one.serial ≡ other.serial → one ≡ other)
    → names ≡ length claim.state
