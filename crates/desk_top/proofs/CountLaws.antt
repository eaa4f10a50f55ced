-- The counts of what was built, in any order, are those of the answers on one thread.
use Rattle.std.proofs.Common.{◌≡◌, ◌≢◌, ◌+◌, ℕ, zero, suc, true, List, [], ◌∷◌, Option, Some, None, AllPairs, map, slice_get, sum_by, take, refl, sym, ap, ◌∙◌, subst, arith}
use Rattle.std.proofs.lemmas.List.Sums.{sum_by-cons}
use Rattle.std.proofs.lemmas.Option.{get_or_from_slice_get, none-some, same_Some, slice_get_within}
use Rattle.build_spec.specs.Built.{BuildOutcome}
use Rattle.dita_doc.specs.Desk.{State, next}
use Rattle.dita_doc.specs.History.{Entry, replay, sources}
use Rattle.dita_doc.specs.Request.{Build, Get, Group, Names, Request, Single}
use Rattle.facts.specs.Rows.{Stands}
use Rattle.desk_work.specs.Build.{outcome_seen}
use Rattle.run_spec.specs.Answers.{Answer, answers_from, answers_to, built_by, entry_of, history_of}
use Rattle.run_spec.specs.EndsTrial.{count_of}
use Rattle.script_text.specs.Script.{Step}
use Rattle.desk_top.specs.Given.{IsGiven}
use Rattle.desk_top.specs.Served.{IsServed, is_build, places_of}
use Rattle.desk_top.specs.declared.callers.BuiltAt.{BuiltAt}
use Rattle.desk_top.proofs.PlaceLaws.{all_at, map_at, map_back, sum_map}

-- What stands at some places, and nothing elsewhere

-- nothing at this place
abbrev without : {O : Type 0} → List (Option O) → ℕ → List (Option O)
without [] n = []
without (one ∷ gives) zero = None ∷ gives
without (one ∷ gives) (suc n) = one ∷ without gives n

sum_without : {O : Type 0} (f : Option O → ℕ) → f None ≡ 0 → (gives : List (Option O)) (n : ℕ) (o : O)
    → slice_get gives n ≡ Some (Some o) → sum_by f gives ≡ f (Some o) + sum_by f (without gives n)
sum_without f none [] n o at = absurd (none-some (Some o) at)
sum_without f none (one ∷ gives) zero o at =
    omega (
      arith,
      sum_by-cons f one gives,
      sum_by-cons f None gives,
      ap f (same_Some one (Some o) at),
      none,
    )
sum_without f none (one ∷ gives) (suc n) o at =
    omega (
      arith,
      sum_by-cons f one gives,
      sum_by-cons f one (without gives n),
      sum_without f none gives n o at,
    )

left_at : {O : Type 0} (gives : List (Option O)) (n k : ℕ) (o : O) → slice_get (without gives n) k ≡ Some (Some o)
    → (k ≢ n) × (slice_get gives k ≡ Some (Some o))
left_at [] n k o at = absurd (none-some (Some o) at)
left_at (one ∷ gives) zero zero o at = absurd (none-some o (same_Some None (Some o) at))
left_at (one ∷ gives) zero (suc k) o at = (λ e. absurd (omega (arith, e)), at)
left_at (one ∷ gives) (suc n) zero o at = (λ e. absurd (omega (arith, e)), at)
left_at (one ∷ gives) (suc n) (suc k) o at =
    let left = left_at gives n k o at in (λ e. left.0 (omega (arith, e)), left.1)

stays_at : {O : Type 0} (gives : List (Option O)) (n k : ℕ) (x : Option O) → k ≢ n → slice_get gives k ≡ Some x
    → slice_get (without gives n) k ≡ Some x
stays_at [] n k x other at = at
stays_at (one ∷ gives) zero zero x other at = absurd (other refl)
stays_at (one ∷ gives) zero (suc k) x other at = at
stays_at (one ∷ gives) (suc n) zero x other at = at
stays_at (one ∷ gives) (suc n) (suc k) x other at =
    stays_at gives n k x (λ e. other (omega (arith, e))) at

sum_none : {O : Type 0} (f : Option O → ℕ) → f None ≡ 0 → (gives : List (Option O))
    → ((n : ℕ) (o : O) → slice_get gives n ≡ Some (Some o) → ⊥) → sum_by f gives ≡ 0
sum_none f none [] never = refl
sum_none f none (None ∷ gives) never =
    omega (arith, sum_by-cons f None gives, none, sum_none f none gives (λ n o at. never (suc n) o at))
sum_none f none (Some one ∷ gives) never = absurd (never 0 one refl)

-- each stands at its own place, and nothing else does
record AreAt {B O : Type 0} (place : B → ℕ) (gave : B → O) (gives : List (Option O)) (built : List B) : Type 0 where
  pub each : (k : ℕ) (b : B) → slice_get built k ≡ Some b → slice_get gives (place b) ≡ Some (Some (gave b))
  pub back : (n : ℕ) (o : O) → slice_get gives n ≡ Some (Some o) → Stands (map place built) n
  pub once : AllPairs (λ (n other : ℕ). n ≢ other) (map place built)

are_rest : {B O : Type 0} (place : B → ℕ) (gave : B → O) (gives : List (Option O)) (one : B) (built : List B)
    → AreAt place gave gives (one ∷ built) → AreAt place gave (without gives (place one)) built
are_rest place gave gives one built are = record {
  each = λ k b at. stays_at gives (place one) (place b) (Some (gave b))
      (λ e. are.once 0 (suc k) (place b) (omega arith)
      (omega (arith, slice_get_within (map place built) k (place b) (map_at place built k b at)))
      (sym e ∙ sym (get_or_from_slice_get (map place built) k (place b) (place b) (map_at place built k b at))))
      (are.each (suc k) b at);
  back = λ n o at. (let left = left_at gives (place one) n o at in
      behind n (are.back n o left.1) left.0);
  once = λ i j d before within. are.once (suc i) (suc j) d (omega (arith, before)) (omega (arith, within));
}
  where
    behind : (n : ℕ) → Stands (map place (one ∷ built)) n → n ≢ place one → Stands (map place built) n
    behind n (zero, at) other = absurd (other (sym (same_Some (place one) n at)))
    behind n (suc k, at) other = (k, at)

sum_each : {B O : Type 0} (f : Option O → ℕ) → f None ≡ 0 → (place : B → ℕ) (gave : B → O)
    (gives : List (Option O)) (built : List B) → AreAt place gave gives built
    → sum_by f gives ≡ sum_by (λ b. f (Some (gave b))) built
sum_each f none place gave gives [] are =
    sum_none f none gives (λ n o at. none-some n (are.back n o at).1)
sum_each f none place gave gives (one ∷ built) are =
    omega (
      arith,
      sum_without f none gives (place one) (gave one) (are.each 0 one refl),
      sum_each f none place gave (without gives (place one)) built (are_rest place gave gives one built are),
      sum_by-cons (λ b. f (Some (gave b))) one built,
    )

-- What the answers build

abbrev built_of : Answer → Option BuildOutcome
built_of answer = answer.built

built_there : (state : State) (place : ℕ) (steps : List Step) (n : ℕ) (answer : Answer)
    → slice_get (answers_from state place steps) n ≡ Some answer
    → answer.built ≡ built_by (replay state place (take n (map entry_of (answers_from state place steps))))
    answer.entry.request
built_there state place [] n answer at = absurd (none-some answer at)
built_there state place (step ∷ steps) zero answer at =
    subst (λ (a : Answer). a.built ≡ built_by state a.entry.request) (same_Some _ answer at) refl
built_there state place (step ∷ steps) (suc n) answer at =
    built_there (next state place step.request) (place + 1) steps n answer at

is_of_build : (state : State) (request : Request) (outcome : BuildOutcome)
    → built_by state request ≡ Some outcome → is_build request ≡ true
is_of_build state (Single edit) outcome is = absurd (none-some outcome is)
is_of_build state (Get name) outcome is = absurd (none-some outcome is)
is_of_build state Names outcome is = absurd (none-some outcome is)
is_of_build state (Build root val) outcome is = refl
is_of_build state (Group edits) outcome is = absurd (none-some outcome is)

-- a build that is given is that of the answer at its place
given_there : (steps : List Step) (one : BuiltAt) → IsGiven (history_of steps) one
    → slice_get (map built_of (answers_to steps)) one.place ≡ Some (Some (outcome_seen one.outcome))
given_there steps one given =
    let there = map_back entry_of (answers_to steps) one.place given.entry given.stands in
    let state : State = sources (history_of steps) one.place in
    let request : there.0.entry.request ≡ Build given.root given.val =
    ap (λ (e : Entry). e.request) there.2 ∙ given.is in
    let built : there.0.built ≡ Some (outcome_seen one.outcome) =
    built_there [] 0 steps one.place there.0 there.1
    ∙ ap (λ (r : Request). built_by state r) request
    ∙ ap Some (sym given.outcome) in
    map_at built_of (answers_to steps) one.place there.0 there.1 ∙ ap Some built

-- and a build of the answers was given
answer_given : (steps : List Step) (built : List BuiltAt) → IsServed (history_of steps) built
    → (n : ℕ) (outcome : BuildOutcome) → slice_get (map built_of (answers_to steps)) n ≡ Some (Some outcome)
    → Stands (places_of built) n
answer_given steps built served n outcome at =
    let there = map_back built_of (answers_to steps) n (Some outcome) at in
    let stands : slice_get (history_of steps) n ≡ Some there.0.entry =
    map_at entry_of (answers_to steps) n there.0 there.1 in
    let answered = served.answered n (slice_get_within (history_of steps) n there.0.entry stands) in
    let same : there.0.entry ≡ answered.entry =
    same_Some there.0.entry answered.entry (sym stands ∙ answered.stands) in
    let build = is_of_build (sources (history_of steps) n) there.0.entry.request outcome
    (sym (built_there [] 0 steps n there.0 there.1) ∙ there.2) in
    answered.outcome (subst (λ (e : Entry). is_build e.request ≡ true) same build)

-- what is counted of all builds is counted of the answers
pub counts_same : (f : Option BuildOutcome → ℕ) → f None ≡ 0 → (steps : List Step) (built : List BuiltAt)
    → IsServed (history_of steps) built
    → count_of f (answers_to steps) ≡ sum_by (λ (one : BuiltAt). f (Some (outcome_seen one.outcome))) built
counts_same f none steps built served =
    sym (sum_map f built_of (answers_to steps))
    ∙ sum_each f none (λ (one : BuiltAt). one.place) (λ (one : BuiltAt). outcome_seen one.outcome)
    (map built_of (answers_to steps)) built (record {
      each = λ k one at. given_there steps one (all_at (IsGiven (history_of steps)) built k one served.given at);
      back = answer_given steps built served;
      once = served.once;
    })
