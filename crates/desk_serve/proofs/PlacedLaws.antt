-- The places of a session in a history: they rise, and they weigh what the places of its pass weigh, if all entries of the
-- history are those of sessions of different numbers.
use Rattle.std.proofs.Common.{◌≡◌, ◌≢◌, ◌<◌, ◌≤◌, ◌+◌, ◌++◌, ◌==◌, ℕ, zero, suc, Bool, true, false, cond, if◌then◌else◌, List, [], ◌∷◌, Some, length, refl, sym, ap, ◌∙◌, subst, arith, sum_by, map, flat_map, eq-eqb, ne_eqb, ◌⊎◌, inl, inr, ⊎_elim}
use Rattle.std.specs.List.{slice_get}
use Rattle.std.proofs.lemmas.List.Sums.{sum_by-append, sum_by-cons}
use Rattle.std.proofs.lemmas.Option.{none-some, same_Some}
use mathlib.Core.Logic.{dite}
use native.Mathlib.Decide.{ℕ_discrete}
use Rattle.dita_doc.specs.History.{Entry}
use Rattle.facts.specs.Rows.{Stands}
use Rattle.desk_lock.specs.Knows.{with_session}
use Rattle.desk_lock.specs.Lists.{IsReordered}
use Rattle.desk_lock.specs.Past.{placed}
use Rattle.desk_lock.specs.declared.view.View.{View}
use Rattle.desk_lock.proofs.Weights.{all_light, heavy_stands, stands_weighs, sum_by-map, tick, tick_is, tick_other}
use Rattle.desk_work.proofs.Lists.{stands_either}
use Rattle.desk_session.specs.Serving.{places_from}
use Rattle.desk_serve.specs.Sessions.{brought}
use Rattle.desk_serve.proofs.RisingLaws.{Rises, rises_lower, same_rising}

-- sessions of this number and of those that follow, of which none took in another
abbrev pub AreNumbered : ℕ → List View → Type 0
AreNumbered session [] = Unit {0}
AreNumbered session (u ∷ us) = (u.session ≡ session) × (u.theirs ≡ []) × AreNumbered (session + 1) us

maybe_rises : (b : Bool) (place : ℕ) (more : List ℕ) → Rises (place + 1) more
    → Rises place (if b then place ∷ more else more)
maybe_rises true place more rises = (omega arith, rises)
maybe_rises false place more rises = rises_lower (place + 1) place more (omega arith) rises

maybe_weighs : (weight : ℕ → ℕ) (b : Bool) (place : ℕ) (more : List ℕ)
    → sum_by weight (if b then place ∷ more else more) ≡ cond b (weight place) 0 + sum_by weight more
maybe_weighs weight true place more = sum_by-cons weight place more
maybe_weighs weight false place more = omega arith

tagged_by : (b : Bool) (weight : ℕ → ℕ) (places : List ℕ)
    → sum_by (λ place. cond b (weight place) 0) places ≡ cond b (sum_by weight places) 0
tagged_by true weight places = refl
tagged_by false weight places = all_light (λ (place : ℕ). 0) places (λ k place at. refl)

module _ (session : ℕ) where
  pub places_rise : (place : ℕ) (log : List Entry) → Rises place (places_from session place log)
  places_rise place [] = tt
  places_rise place (entry ∷ log) = maybe_rises (entry.session == session) place (places_from session (place + 1) log)
      (places_rise (place + 1) log)

  -- a place of the session has its weight, and any other has none
  abbrev by_session : (ℕ → ℕ) → ℕ × ℕ → ℕ
  by_session weight one = cond (one.1 == session) (weight one.0) 0

  placed_weigh : (weight : ℕ → ℕ) (place : ℕ) (log : List Entry)
      → sum_by (by_session weight) (placed place log) ≡ sum_by weight (places_from session place log)
  placed_weigh weight place [] = refl
  placed_weigh weight place (entry ∷ log) =
      let c = sum_by-cons (by_session weight) (place, entry.session) (placed (place + 1) log) in
      let m = maybe_weighs weight (entry.session == session) place (places_from session (place + 1) log) in
      let r = placed_weigh weight (place + 1) log in omega (arith, c, m, r)

  brought_weigh : (weight : ℕ → ℕ) (u : View) → u.theirs ≡ []
      → sum_by (by_session weight) (brought u) ≡ cond (u.session == session) (sum_by weight u.mine) 0
  brought_weigh weight u alone =
      ap (λ list. sum_by (by_session weight) (list ++ with_session u.session u.mine)) alone
      ∙ sum_by-map (by_session weight) (λ place. (place, u.session)) u.mine
      ∙ tagged_by (u.session == session) weight u.mine

  others_weigh : (weight : ℕ → ℕ) (number : ℕ) (us : List View) → session < number → AreNumbered number us
      → sum_by (by_session weight) (flat_map brought us) ≡ 0
  others_weigh weight number [] below are = refl
  others_weigh weight number (u ∷ us) below are =
      let a = sum_by-append (by_session weight) (brought u) (flat_map brought us) in
      let differ : u.session ≢ session = λ same. absurd (omega (arith, same, below, are.0)) in
      let here = brought_weigh weight u are.1 ∙ ap (λ b. cond b (sum_by weight u.mine) 0) (ne_eqb u.session session differ) in
      let r = others_weigh weight (number + 1) us (omega (arith, below)) are.2 in omega (arith, a, here, r)

  mine_weigh : (weight : ℕ → ℕ) (number : ℕ) (us : List View) (k : ℕ) (u : View) → AreNumbered number us
      → slice_get us k ≡ Some u → session ≡ k + number
      → sum_by (by_session weight) (flat_map brought us) ≡ sum_by weight u.mine
  mine_weigh weight number [] k u are at is = absurd (none-some u at)
  mine_weigh weight number (first ∷ us) zero u are at is =
      let a = sum_by-append (by_session weight) (brought first) (flat_map brought us) in
      let same : first.session ≡ session = omega (arith, is, are.0) in
      let here = brought_weigh weight first are.1
      ∙ ap (λ b. cond b (sum_by weight first.mine) 0) (eq-eqb first.session session same) in
      let its : sum_by weight first.mine ≡ sum_by weight u.mine =
      ap (λ (one : View). sum_by weight one.mine) (same_Some first u at) in
      let r = others_weigh weight (number + 1) us (omega (arith, is)) are.2 in omega (arith, a, here, its, r)
  mine_weigh weight number (first ∷ us) (suc k) u are at is =
      let a = sum_by-append (by_session weight) (brought first) (flat_map brought us) in
      let differ : first.session ≢ session = λ same. absurd (omega (arith, same, is, are.0)) in
      let here = brought_weigh weight first are.1
      ∙ ap (λ b. cond b (sum_by weight first.mine) 0) (ne_eqb first.session session differ) in
      let r = mine_weigh weight (number + 1) us k u are.2 at (omega (arith, is)) in omega (arith, a, here, r)

-- the places of a session are all of its entries
pub its_places : (log : List Entry) (us : List View) (k : ℕ) (u : View) → IsReordered (flat_map brought us) (placed 0 log)
    → AreNumbered 1 us → slice_get us k ≡ Some u → Rises 0 u.mine → u.mine ≡ places_from (k + 1) 0 log
its_places log us k u weigh are at rises = same_rising 0 0 u.mine (places_from (k + 1) 0 log) rises
    (places_rise (k + 1) 0 log)
    (λ weight. sym (mine_weigh (k + 1) weight 1 us k u are at refl) ∙ weigh (by_session (k + 1) weight)
    ∙ placed_weigh (k + 1) weight 0 log)

-- Each entry is of one of the sessions

tagged_session : (tag : ℕ) (places : List ℕ) (k : ℕ) (one : ℕ × ℕ) → slice_get (with_session tag places) k ≡ Some one
    → one.1 ≡ tag
tagged_session tag [] k one at = absurd (none-some one at)
tagged_session tag (place ∷ places) zero one at = ap (λ (other : ℕ × ℕ). other.1) (sym (same_Some (place, tag) one at))
tagged_session tag (place ∷ places) (suc k) one at = tagged_session tag places k one at

brought_session : (number : ℕ) (us : List View) (k : ℕ) (one : ℕ × ℕ) → AreNumbered number us
    → slice_get (flat_map brought us) k ≡ Some one → (number ≤ one.1) × (one.1 < number + length us)
brought_session number [] k one are at = absurd (none-some one at)
brought_session number (u ∷ us) k one are at = ⊎_elim
    (λ here. let same = tagged_session u.session u.mine here.0 one
    (subst (λ list. slice_get (list ++ with_session u.session u.mine) here.0 ≡ Some one) are.1 here.1) in
    (omega (arith, same, are.0), omega (arith, same, are.0)))
    (λ there. let r = brought_session (number + 1) us there.0 one are.2 there.1 in
    (omega (arith, r.0), omega (arith, r.1)))
    (stands_either (brought u) (flat_map brought us) k one at)

placed_at : (place : ℕ) (log : List Entry) (k : ℕ) (entry : Entry) → slice_get log k ≡ Some entry
    → (one : ℕ × ℕ) × (slice_get (placed place log) k ≡ Some one) × (one.1 ≡ entry.session)
placed_at place [] k entry at = absurd (none-some entry at)
placed_at place (first ∷ log) zero entry at =
    ((place, first.session), refl, ap (λ (one : Entry). one.session) (same_Some first entry at))
placed_at place (first ∷ log) (suc k) entry at = placed_at (place + 1) log k entry at

pub its_session : (log : List Entry) (us : List View) (k : ℕ) (entry : Entry)
    → IsReordered (flat_map brought us) (placed 0 log) → AreNumbered 1 us → slice_get log k ≡ Some entry
    → (1 ≤ entry.session) × (entry.session ≤ length us)
its_session log us k entry weigh are at =
    let by : ℕ × ℕ → ℕ = λ one. tick entry.session one.1 in
    let there = placed_at 0 log k entry at in
    let heavy = stands_weighs by (placed 0 log) k there.0 there.1 in
    let one = tick_is entry.session there.0.1 there.2 in
    let same = weigh by in
    let found = heavy_stands by (flat_map brought us) (omega (arith, heavy, one, same)) in
    let is : found.1.1 ≡ entry.session = dite (ℕ_discrete found.1.1 entry.session) (λ e. e)
    (λ differ. let none = tick_other entry.session found.1.1 differ in absurd (omega (arith, none, found.3))) in
    let within = brought_session 1 us found.0 found.1 are found.2 in
    (omega (arith, is, within.0), omega (arith, is, within.1))
