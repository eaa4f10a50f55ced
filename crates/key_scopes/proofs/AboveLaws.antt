-- What stands on the way up in preorder is what encloses.
use Rattle.std.specs.Prelude.{◌≡◌, ◌+◌, ◌-◌, ◌<◌, ◌≤◌, ◌==◌, ◌&&◌, ◌++◌, ℕ, zero, suc, Bool, true, false, List, [], ◌∷◌, length, max, nat_le, nat_lt}
use Rattle.std.proofs.Common.{refl, sym, ap, subst, ◌∙◌, arith, get_or, inl, inr, set}
use Rattle.std.proofs.lemmas.Bool.{cases_Bool, eqb-true}
use Rattle.std.specs.Prelude.{◌⊎◌}
use Rattle.std.proofs.lemmas.Bool.Decides.{nat_tests}
use Rattle.key_scopes.specs.Above.{AreEndsFrom, AreInPreorder, IsAbove, IsLastIn, encloses, end_at, raised_to, risen}

pub above_self : (parent : ℕ → ℕ) (at : ℕ) → IsAbove parent at at
above_self parent at = record { steps = 0; is = refl }

pub above_one : (parent : ℕ → ℕ) (at : ℕ) → IsAbove parent (parent at) at
above_one parent at = record { steps = 1; is = refl }

pub above_step : (parent : ℕ → ℕ) (top at : ℕ) → IsAbove parent top (parent at) → IsAbove parent top at
above_step parent top at above = record { steps = suc above.steps; is = above.is }

by_steps : (parent : ℕ → ℕ) (top middle : ℕ) → IsAbove parent top middle → (steps at : ℕ)
    → risen parent steps at ≡ middle → IsAbove parent top at
by_steps parent top middle first zero at is = subst (IsAbove parent top) (sym is) first
by_steps parent top middle first (suc steps) at is =
    above_step parent top at (by_steps parent top middle first steps (parent at) is)

pub above_both : (parent : ℕ → ℕ) (top middle at : ℕ) → IsAbove parent top middle → IsAbove parent middle at
    → IsAbove parent top at
above_both parent top middle at first second = by_steps parent top middle first second.steps at second.is

-- Ends side by side

pub end_left : (first second : List ℕ) (i : ℕ) → i < length first → end_at (first ++ second) i ≡ end_at first i
end_left [] second i within = absurd (omega arith)
end_left (x ∷ first) second zero within = refl
end_left (x ∷ first) second (suc i) within = end_left first second i (omega arith)

pub end_right : (first second : List ℕ) (i : ℕ) → end_at (first ++ second) (length first + i) ≡ end_at second i
end_right [] second i = let same : 0 + i ≡ i = omega arith in ap (end_at second) same
end_right (x ∷ first) second i =
    let same : suc (length first) + i ≡ suc (length first + i) = omega arith in
    ap (end_at (x ∷ first ++ second)) same ∙ end_right first second i

-- One end that is raised

pub raised_set : (at end : ℕ) (ends : List ℕ) (d : ℕ) → at < length ends
    → set ends at (max (get_or ends at d) end) ≡ raised_to at end ends
raised_set at end [] d within = absurd (omega arith)
raised_set zero end (first ∷ ends) d within = refl
raised_set (suc at) end (first ∷ ends) d within = ap (λ more. first ∷ more) (raised_set at end ends d (omega arith))

pub raised_past : (at end : ℕ) (ends : List ℕ) → length ends ≤ at → ends ≡ raised_to at end ends
raised_past at end [] past = refl
raised_past zero end (first ∷ ends) past = absurd (omega arith)
raised_past (suc at) end (first ∷ ends) past = ap (λ more. first ∷ more) (raised_past at end ends (omega arith))

end_there : (at end : ℕ) (ends : List ℕ) → at < length ends
    → end_at (raised_to at end ends) at ≡ max (end_at ends at) end
end_there at end [] within = absurd (omega arith)
end_there zero end (first ∷ ends) within = refl
end_there (suc at) end (first ∷ ends) within = end_there at end ends (omega arith)

end_other : (at end other : ℕ) (ends : List ℕ) → (other == at) ≡ false
    → end_at (raised_to at end ends) other ≡ end_at ends other
end_other at end other [] differs = refl
end_other zero end zero (first ∷ ends) differs = absurd (let e : (0 == 0) ≡ true = refl in cc)
end_other zero end (suc other) (first ∷ ends) differs = refl
end_other (suc at) end zero (first ∷ ends) differs = refl
end_other (suc at) end (suc other) (first ∷ ends) differs =
    let less : (other == at) ≡ false = grind (arith, nat_tests) in end_other at end other ends less

length_raised : (at end : ℕ) (ends : List ℕ) → length (raised_to at end ends) ≡ length ends
length_raised at end [] = refl
length_raised zero end (first ∷ ends) = refl
length_raised (suc at) end (first ∷ ends) = ap (λ n. suc n) (length_raised at end ends)

module _ (parent : ℕ → ℕ) (count at : ℕ) (ends new : List ℕ) (root : parent 0 ≡ 0)
    (before : (place : ℕ) → 0 < place → place < count → parent place < place) (within : at < count)
    (ends_are : AreEndsFrom parent count (at + 1) ends) (is : new ≡ raised_to (parent at) (end_at ends at) ends) where
  abbrev around : ℕ
  around = parent at

  inside : around < count
  inside = by_at at refl
    where
      by_at : (place : ℕ) → place ≡ at → parent at < count
      by_at zero same = subst (λ n. parent n < count) same (omega (arith, root, within))
      by_at (suc place) same = let less = before at (omega arith) within in omega arith

  there : end_at new around ≡ max (end_at ends around) (end_at ends at)
  there = ap (λ all. end_at all around) is
      ∙ end_there around (end_at ends at) ends (omega (arith, inside, ends_are.long))

  other : (place : ℕ) → (place == around) ≡ false → end_at new place ≡ end_at ends place
  other place differs = ap (λ all. end_at all place) is ∙ end_other around (end_at ends at) place ends differs

  not_less : (place : ℕ) → ((place == around) ≡ true) ⊎ ((place == around) ≡ false)
      → end_at ends place ≤ end_at new place
  not_less place (inl same) =
      let here = eqb-true place around same in
      subst (λ n. end_at ends n ≤ end_at new n) (sym here) (omega (arith, there))
  not_less place (inr differs) = let kept = other place differs in omega arith

  last_of : (place : ℕ) → place < count → ((place == around) ≡ true) ⊎ ((place == around) ≡ false)
      → IsLastIn parent count place (end_at new place)
  last_of place low (inr differs) =
      subst (IsLastIn parent count place) (sym (other place differs)) (ends_are.last place low)
  last_of place low (inl same) =
      let here = eqb-true place around same in
      subst (λ n. IsLastIn parent count n (end_at new n)) (sym here)
      (by_max (end_at ends around) (end_at ends at) (cases_Bool (nat_lt (end_at ends around) (end_at ends at))) there)
    where
      by_max : (a b : ℕ) → (nat_lt (end_at ends around) (end_at ends at)
          ≡ true) ⊎ (nat_lt (end_at ends around) (end_at ends at) ≡ false)
          → end_at new around ≡ max (end_at ends around) (end_at ends at)
          → IsLastIn parent count around (end_at new around)
      by_max a b (inl less) is_max =
          let more : end_at ends around < end_at ends at = grind (arith, nat_tests) in
          let same_end : end_at ends at ≡ end_at new around = omega arith in
          let found = ends_are.last at within in
          subst (IsLastIn parent count around) same_end (record {
            last = found.last;
            within = found.within;
            above = above_both parent around at found.last (above_one parent at) found.above;
            is = found.is;
          })
      by_max a b (inr less) is_max =
          let more : end_at ends at ≤ end_at ends around = grind (arith, nat_tests) in
          let same_end : end_at ends around ≡ end_at new around = omega arith in
          subst (IsLastIn parent count around) same_end (ends_are.last around inside)

  -- the end of a parent is raised
  pub ends_more : AreEndsFrom parent count at new
  ends_more = record {
    long = ap length is ∙ length_raised around (end_at ends at) ends ∙ ends_are.long;
    past = λ place low. let kept = not_less place (cases_Bool (place == around)) in
        let was = ends_are.past place low in omega arith;
    raised = λ place from above low. by_place place from above low (cases_Bool (place == at));
    last = λ place low. last_of place low (cases_Bool (place == around));
  }
    where
      by_place : (place : ℕ) → at ≤ place → 0 < place → place < count
          → ((place == at) ≡ true) ⊎ ((place == at) ≡ false) → end_at new place ≤ end_at new (parent place)
      by_place place from above low (inl same) =
          let here = eqb-true place at same in
          let up = before place above low in
          let differs : (at == around) ≡ false = grind (arith, nat_tests, here, up) in
          let kept = other at differs in
          subst (λ n. end_at new n ≤ end_at new (parent n)) (sym here) (omega (arith, kept, there))
      by_place place from above low (inr behind) =
          let more : at + 1 ≤ place = grind (arith, nat_tests) in
          let least : around ≤ at = least_of at refl in
          let differs : (place == around) ≡ false = grind (arith, nat_tests, more, least) in
          let kept = other place differs in
          let was = ends_are.raised place more above low in
          let up = not_less (parent place) (cases_Bool (parent place == around)) in
          omega arith
        where
          least_of : (n : ℕ) → n ≡ at → parent at ≤ at
          least_of zero same = subst (λ m. parent m ≤ m) same (omega (arith, root))
          least_of (suc n) same = let less = before at (omega arith) within in omega arith

-- each number alone, one more
pub each_more : (ends : List ℕ) (at end : ℕ) → length ends ≡ at
    → ((place : ℕ) → place < at → end_at ends place ≡ place + 1)
    → end ≡ at + 1 → (place : ℕ) → place < at + 1 → end_at (ends ++ end ∷ []) place ≡ place + 1
each_more ends at end long each is place low = by_test (cases_Bool (nat_lt place at))
  where
    by_test : (nat_lt place at ≡ true) ⊎ (nat_lt place at ≡ false) → end_at (ends ++ end ∷ []) place ≡ place + 1
    by_test (inl less) =
        let under : place < at = grind (arith, nat_tests) in
        end_left ends (end ∷ []) place (omega (arith, long)) ∙ each place under
    by_test (inr more) =
        let not_under : at ≤ place = grind (arith, nat_tests) in
        let here : place ≡ length ends + 0 = omega (arith, long) in
        ap (end_at (ends ++ end ∷ [])) here ∙ end_right ends (end ∷ []) 0 ∙ omega (arith, is)

pub ends_first : (parent : ℕ → ℕ) (count : ℕ) (ends : List ℕ) → length ends ≡ count
    → ((place : ℕ) → place < count → end_at ends place ≡ place + 1) → AreEndsFrom parent count count ends
ends_first parent count ends long each = record {
  long = long;
  past = λ at low. let is = each at low in omega (arith, is);
  raised = λ at from above low. absurd (omega arith);
  last = λ at low. record { last = at; within = low; above = above_self parent at; is = each at low };
}

-- What encloses

module _ (parent : ℕ → ℕ) (count : ℕ) (ordered : AreInPreorder parent count) (ends : List ℕ)
    (ends_are : AreEndsFrom parent count 0 ends) where
  record Reaches (top at : ℕ) : Type 0 where
    low : top ≤ at
    end : end_at ends at ≤ end_at ends top

  reaches : (top : ℕ) (steps at : ℕ) → at < count → risen parent steps at ≡ top → Reaches top at
  reaches top zero at within is =
      subst (λ n. Reaches n at) is (record { low = omega arith; end = omega arith })
  reaches top (suc steps) zero within is =
      reaches top steps zero within (ap (risen parent steps) (sym ordered.root) ∙ is)
  reaches top (suc steps) (suc at) within is =
      let up = ordered.before (suc at) (omega arith) within in
      let behind = reaches top steps (parent (suc at)) (omega arith) is in
      let raised = ends_are.raised (suc at) (omega arith) (omega arith) within in
      record {
        low = let low = behind.low in omega (arith, low, up);
        end = let end = behind.end in omega (arith, end, raised);
      }

  pub encloses_above : (top at : ℕ) → at < count → IsAbove parent top at → encloses ends top at ≡ true
  encloses_above top at within above =
      let found = reaches top above.steps at within above.is in
      let past = ends_are.past at within in
      let low : nat_le top at ≡ true = grind (arith, nat_tests, found.low) in
      let high : nat_lt at (end_at ends top) ≡ true = grind (arith, nat_tests, found.end, past) in
      rw (low, high) refl

  -- down to a number that is not before the top
  down : (top gap at : ℕ) → at + gap < count → top ≤ at → IsAbove parent top (at + gap) → IsAbove parent top at
  down top zero at within low above =
      let same : at + 0 ≡ at = omega arith in subst (IsAbove parent top) same above
  down top (suc gap) at within low above =
      let more : at + suc gap ≡ suc (at + gap) = omega arith in
      down top gap at (omega arith) low
      (one_down (at + gap) (omega arith) (omega arith) (subst (IsAbove parent top) more above))
    where
      one_down : (place : ℕ) → top ≤ place → suc place < count → IsAbove parent top (suc place)
          → IsAbove parent top place
      one_down place under inside found = by_steps_of place under inside found.steps found.is
        where
          by_steps_of : (place : ℕ) → top ≤ place → suc place < count → (steps : ℕ)
              → risen parent steps (suc place) ≡ top → IsAbove parent top place
          by_steps_of place under inside zero is = absurd (omega arith)
          by_steps_of place under inside (suc steps) is =
              let one : suc place - 1 ≡ place = omega arith in
              above_both parent top (parent (suc place)) place (record { steps = steps; is = is })
              (subst (IsAbove parent (parent (suc place))) one (ordered.above (suc place) (omega arith) inside))

  pub above_encloses : (top at : ℕ) → at < count → top < count → encloses ends top at ≡ true → IsAbove parent top at
  above_encloses top at within inside found =
      by_tests (nat_le top at) (nat_lt at (end_at ends top)) refl refl found
    where
      by_tests : (a b : Bool) → nat_le top at ≡ a → nat_lt at (end_at ends top) ≡ b → (a && b) ≡ true
          → IsAbove parent top at
      by_tests false b e f both = cc
      by_tests true false e f both = cc
      by_tests true true e f both =
          let low : top ≤ at = grind (arith, nat_tests) in
          let high : at < end_at ends top = grind (arith, nat_tests) in
          let last = ends_are.last top inside in
          let gap : at + (last.last - at) ≡ last.last = omega (arith, last.is) in
          down top (last.last - at) at (omega (arith, gap, last.within)) low
          (subst (IsAbove parent top) (sym gap) last.above)
