-- Claims that run, found one by one.
use Rattle.std.proofs.Common.{◌≡◌, ◌∙◌, ◌+◌, ◌<◌, ◌≤◌, ◌⊎◌, ◌==◌, ℕ, zero, suc, Bool, true, false, not, List, [], ◌∷◌, Some, refl, sym, ap, subst, inl, inr, length, option_map, slice_get, get_or, if◌then◌else◌, arith}
use Rattle.std.proofs.lemmas.Bool.{false≢true}
use Rattle.std.proofs.lemmas.Bool.Decides.{nat_tests}
use Rattle.std.proofs.lemmas.Option.{none-some, same_Some, slice_get-map, slice_get_read, slice_get_within}
use Rattle.dita_doc.specs.declared.fact.FactKey.{FactKey}
use Rattle.facts.specs.Judged.{Tells}
use Rattle.facts.specs.Latest.{NoneRuns}
use Rattle.facts.specs.Rows.{Running, Stands}
use Rattle.facts.specs.Table.{others}
use Rattle.fact_table.proofs.MemoLaws.{IsMade, made_from}
use Rattle.fact_table.specs.Claims.{AreNamesOf, IsFor, IsSerialFor, RunsOf, claim_seen, claims_seen}
use Rattle.fact_table.specs.declared.claims.RunningClaim.{RunningClaim}

-- what an answer tells

pub told_yes : (answer : Bool) (P : Type 0) → answer ≡ true → Tells answer P → P
told_yes true P is tells = tells
told_yes false P is tells = absurd (false≢true is)

pub told_no : (answer : Bool) (P : Type 0) → answer ≡ false → Tells answer P → P → ⊥
told_no true P is tells = absurd (false≢true (sym is))
told_no false P is tells = tells

-- of the first claims none is such
pub record NoneBefore (claims : List RunningClaim) (Such : RunningClaim → Type 0) (bound : ℕ) : Type 0 where
  pub each : (k : ℕ) (claim : RunningClaim) → k < bound → slice_get claims k ≡ Some claim → Such claim → ⊥

pub none_yet : (claims : List RunningClaim) (Such : RunningClaim → Type 0) → NoneBefore claims Such 0
none_yet claims Such = record { each = λ k claim below at such. absurd (omega arith) }

below_or_at : (k n : ℕ) → k < n + 1 → (k < n) ⊎ (k ≡ n)
below_or_at zero zero low = inr refl
below_or_at zero (suc n) low = inl (omega arith)
below_or_at (suc k) zero low = absurd (omega arith)
below_or_at (suc k) (suc n) low = elim (below_or_at k n (omega arith)) [
  | inl below ↦ inl (omega arith)
  | inr same ↦ inr (ap suc same)
]

-- the next is none
pub none_more : (claims : List RunningClaim) (Such : RunningClaim → Type 0) (bound : ℕ) (next : RunningClaim)
    → bound < length claims → next ≡ get_or claims bound next → (Such next → ⊥) → NoneBefore claims Such bound
    → NoneBefore claims Such (bound + 1)
none_more claims Such bound next within is none before = record {
  each = λ k claim below at such. by_place k claim at such (below_or_at k bound below);
} where
  by_place : (k : ℕ) (claim : RunningClaim) → slice_get claims k ≡ Some claim → Such claim → (k < bound) ⊎ (k ≡ bound) → ⊥
  by_place k claim at such (inl below) = before.each k claim below at such
  by_place k claim at such (inr same) =
      let here : slice_get claims bound ≡ Some next = slice_get_read claims (length claims) bound next refl within is in
      let same_claim : Some claim ≡ Some next = sym at ∙ ap (slice_get claims) same ∙ here in
      none (subst Such (same_Some claim next same_claim) such)

-- a claim that is read stands among those that run
pub read_stands : (claims : List RunningClaim) (k : ℕ) (claim : RunningClaim) → k < length claims
    → claim ≡ get_or claims k claim → Stands (claims_seen claims) (claim_seen claim)
read_stands claims k claim within is = (
  k,
  slice_get-map claim_seen claims k
      ∙ ap (option_map claim_seen) (slice_get_read claims (length claims) k claim refl within is),
)

abbrev pub IsOfKey : FactKey → RunningClaim → Type 0
IsOfKey key claim = claim.key ≡ key

abbrev pub HasSerial : ℕ → RunningClaim → Type 0
HasSerial serial claim = claim.serial ≡ serial

pub serial_found : (claims : List RunningClaim) (key : FactKey) (stamp k : ℕ) (claim : RunningClaim)
    → k < length claims → claim ≡ get_or claims k claim → IsFor key stamp claim
    → IsSerialFor (claims_seen claims) key stamp claim.serial
serial_found claims key stamp k claim within is for = record {
  claim = claim_seen claim;
  runs = record { stands = read_stands claims k claim within is; of = for.of; at = for.at };
  number = refl;
}

-- none of all: made from one that stands
pub none_runs : (claims : List RunningClaim) (key : FactKey) (stamp bound : ℕ) → length claims ≤ bound
    → NoneBefore claims (IsFor key stamp) bound → NoneRuns (claims_seen claims) key stamp
none_runs claims key stamp bound all none claim runs =
    let made : IsMade claim_seen claims claim = made_from claim_seen claims claim runs.stands in
    let within : made.stands.0 < length claims = slice_get_within claims made.stands.0 made.from made.stands.1 in
    none.each made.stands.0 made.from (omega arith) made.stands.1
    (record {
      of = ap (λ (c : Running). c.key) made.is ∙ runs.of;
      at = ap (λ (c : Running). c.stamp) made.is ∙ runs.at;
    })

pub runs_not : (claims : List RunningClaim) (key : FactKey) (bound : ℕ) → length claims ≤ bound
    → NoneBefore claims (IsOfKey key) bound → RunsOf (claims_seen claims) key → ⊥
runs_not claims key bound all none runs =
    let made : IsMade claim_seen claims runs.claim = made_from claim_seen claims runs.claim runs.stands in
    let within : made.stands.0 < length claims = slice_get_within claims made.stands.0 made.from made.stands.1 in
    none.each made.stands.0 made.from (omega arith) made.stands.1
    (ap (λ (c : Running). c.key) made.is ∙ runs.of)

pub runs_yes : (claims : List RunningClaim) (key : FactKey) (k : ℕ) (claim : RunningClaim) → k < length claims
    → claim ≡ get_or claims k claim → claim.key ≡ key → RunsOf (claims_seen claims) key
runs_yes claims key k claim within is of =
    record { claim = claim_seen claim; stands = read_stands claims k claim within is; of = of }

pub names_found : (claims : List RunningClaim) (serial k names : ℕ) (claim : RunningClaim) → k < length claims
    → claim ≡ get_or claims k claim → claim.serial ≡ serial → names ≡ length (claim_seen claim).state
    → AreNamesOf (claims_seen claims) serial names
names_found claims serial k names claim within is of names_are other stands same one =
    names_are ∙ ap (λ (c : Running). length c.state)
    (one (claim_seen claim) other (read_stands claims k claim within is) stands (of ∙ sym same))

pub names_none : (claims : List RunningClaim) (serial bound names : ℕ) → length claims ≤ bound
    → NoneBefore claims (HasSerial serial) bound → AreNamesOf (claims_seen claims) serial names
names_none claims serial bound names all none other stands same one =
    let made : IsMade claim_seen claims other = made_from claim_seen claims other stands in
    let within : made.stands.0 < length claims = slice_get_within claims made.stands.0 made.from made.stands.1 in
    absurd (none.each made.stands.0 made.from (omega arith) made.stands.1
    (ap (λ (c : Running). c.serial) made.is ∙ same))

-- Without the claim of a serial

shorter_if : (b : Bool) (claim : Running) (rest all : List Running) → length rest ≤ length all
    → length (if b then claim ∷ rest else rest) ≤ length (claim ∷ all)
shorter_if true claim rest all low = omega arith
shorter_if false claim rest all low = omega arith

no_longer : (serial : ℕ) (running : List Running) → length (others serial running) ≤ length running
no_longer serial [] = omega arith
no_longer serial (claim ∷ running) = shorter_if (not (claim.serial == serial)) claim (others serial running) running
    (no_longer serial running)

fewer_if : (b : Bool) (claim : Running) (rest all : List Running) → length rest + 1 ≤ length all
    → length (if b then claim ∷ rest else rest) + 1 ≤ length (claim ∷ all)
fewer_if true claim rest all low = omega arith
fewer_if false claim rest all low = omega arith

gone_if : (b : Bool) (claim : Running) (rest all : List Running) → b ≡ false → length rest ≤ length all
    → length (if b then claim ∷ rest else rest) + 1 ≤ length (claim ∷ all)
gone_if true claim rest all gone low = absurd (false≢true (sym gone))
gone_if false claim rest all gone low = omega arith

passes_not : (a b : ℕ) → a ≡ b → not (a == b) ≡ false
passes_not a b same = grind (arith, nat_tests)

pub fewer : (serial : ℕ) (running : List Running) (k : ℕ) (claim : Running) → slice_get running k ≡ Some claim
    → claim.serial ≡ serial → length (others serial running) + 1 ≤ length running
fewer serial [] k claim at same = absurd (none-some claim at)
fewer serial (first ∷ running) zero claim at same =
    gone_if (not (first.serial == serial)) first (others serial running) running
    (passes_not first.serial serial (ap (λ (c : Running). c.serial) (same_Some first claim at) ∙ same))
    (no_longer serial running)
fewer serial (first ∷ running) (suc k) claim at same =
    fewer_if (not (first.serial == serial)) first (others serial running) running (fewer serial running k claim at same)
