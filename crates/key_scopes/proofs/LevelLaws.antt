-- A list that rises by a number: its elements of each number in turn, of which a stable sort keeps the order.
use Rattle.std.specs.Prelude.{◌≡◌, ◌+◌, ◌≤◌, ◌==◌, ◌&&◌, ◌++◌, ℕ, zero, suc, Bool, true, false, not, List, [], ◌∷◌, filter, map, nat_lt}
use Rattle.std.specs.List.{All, flat_map}
use Rattle.std.specs.Borrow.{Bor}
use Rattle.std.specs.Fn.{Called, ComputesKey}
use Rattle.std.specs.List.Sorted.{IsNonDecreasingBy, IsSortedByKey, IsStableByKey, ties}
use Rattle.std.specs.Ordering.{is_lt, nat_cmp}
use Rattle.std.proofs.Common.{refl, sym, ap, ◌∙◌, arith, append-nil}
use Rattle.std.proofs.lemmas.Bool.Decides.{nat_tests}
use Rattle.std.proofs.lemmas.List.Elements.{All-cons, All-from_get_or, All-head, All-nil, All-tail, All-weaker, filter-append}
use Rattle.std.proofs.lemmas.List.Sorted.{IsNonDecreasingBy-from_sort, answers_always}
use denote.Param.Members.{Mut}
use Rattle.key_scopes.specs.Defined.{is_level_within}
use Rattle.key_scopes.specs.Numbered.{entries, entry_of}
use Rattle.key_scopes.specs.OwnKeys.{by_level, is_at, numbers}
use Rattle.key_scopes.proofs.DefineLaws.{WrittenKey}

-- Filters

pub filter_all : {X : Type 0} (p : X → Bool) (xs : List X) → All (λ x. p x ≡ true) xs → filter p xs ≡ xs
filter_all p [] all = refl
filter_all p (x ∷ xs) all =
    rw (All-head (λ y. p y ≡ true) x xs all)
    (ap (λ more. x ∷ more) (filter_all p xs (All-tail (λ y. p y ≡ true) x xs all)))

pub filter_none : {X : Type 0} (p : X → Bool) (xs : List X) → All (λ x. p x ≡ false) xs → filter p xs ≡ []
filter_none p [] all = refl
filter_none p (x ∷ xs) all =
    rw (All-head (λ y. p y ≡ false) x xs all) (filter_none p xs (All-tail (λ y. p y ≡ false) x xs all))

pub filter_mapped : {X Y : Type 0} (p : Y → Bool) (f : X → Y) (xs : List X)
    → filter p (map f xs) ≡ map f (filter (λ x. p (f x)) xs)
filter_mapped p f [] = refl
filter_mapped p f (x ∷ xs) = by_one (filter_mapped p f xs) (p (f x)) refl
  where
    by_one : filter p (map f xs) ≡ map f (filter (λ y. p (f y)) xs) → (a : Bool) → p (f x) ≡ a
        → filter p (map f (x ∷ xs)) ≡ map f (filter (λ y. p (f y)) (x ∷ xs))
    by_one behind true e = simp e (ap (λ more. f x ∷ more) behind)
    by_one behind false e = simp e behind

-- what goes through an append goes through a list of lists
pub through : {X Y Z : Type 0} (take_in : List Y → List Z) → take_in [] ≡ []
    → ((a b : List Y) → take_in (a ++ b) ≡ take_in a ++ take_in b) → (g : X → List Y) (xs : List X)
    → take_in (flat_map g xs) ≡ flat_map (λ x. take_in (g x)) xs
through take_in none both g [] = none
through take_in none both g (x ∷ xs) =
    both (g x) (flat_map g xs) ∙ ap (λ more. take_in (g x) ++ more) (through take_in none both g xs)

pub map_both : {X Y : Type 0} (f : X → Y) (a b : List X) → map f (a ++ b) ≡ map f a ++ map f b
map_both f [] b = refl
map_both f (x ∷ a) b = ap (λ more. f x ∷ more) (map_both f a b)

-- lists that are the same for each number
numbered_same : {Y : Type 0} (f g : ℕ → List Y) (from count : ℕ) → ((at : ℕ) → from ≤ at → f at ≡ g at)
    → flat_map f (numbers from count) ≡ flat_map g (numbers from count)
numbered_same f g from zero same = refl
numbered_same f g from (suc count) same =
    ap (λ first. first ++ flat_map f (numbers (from + 1) count)) (same from (omega arith))
    ∙ ap (λ more. g from ++ more) (numbered_same f g (from + 1) count (λ at low. same at (omega arith)))

-- In order

module _ {X : Type 0} (n : X → ℕ) where
  abbrev pub Rises : List X → Type 0
  Rises [] = Unit
  Rises (x ∷ xs) = All (λ y. n x ≤ n y) xs × Rises xs

  pub rises_from : (xs : List X) → IsNonDecreasingBy n xs → Rises xs
  rises_from [] up = tt
  rises_from (x ∷ xs) up = (
    All-from_get_or (λ y. n x ≤ n y) xs x (λ j within. up 0 (suc j) x (omega arith) (omega arith)),
    rises_from xs (λ i j d low high. up (suc i) (suc j) d (omega arith) (omega arith)),
  )

  -- those of the first number, and the others behind them
  record IsSplit (from : ℕ) (xs : List X) : Type 0 where
    pub here : List X
    pub later : List X
    pub is : xs ≡ here ++ later
    pub same : All (λ x. n x ≡ from) here
    pub above : All (λ x. from + 1 ≤ n x) later
    pub rises : Rises later

  split : (from : ℕ) (xs : List X) → Rises xs → All (λ x. from ≤ n x) xs → IsSplit from xs
  split from [] rises low = record {
    here = [];
    later = [];
    is = refl;
    same = All-nil (λ x. n x ≡ from);
    above = All-nil (λ x. from + 1 ≤ n x);
    rises = tt;
  }
  split from (x ∷ xs) rises low =
      by_one (split from xs rises.1 (All-tail (λ y. from ≤ n y) x xs low)) (n x == from) refl
    where
      by_one : IsSplit from xs → (a : Bool) → (n x == from) ≡ a → IsSplit from (x ∷ xs)
      by_one more true e = record {
        here = x ∷ more.here;
        later = more.later;
        is = ap (λ all. x ∷ all) more.is;
        same = let first : n x ≡ from = grind (arith, nat_tests) in All-cons (λ y. n y ≡ from) x more.here first more.same;
        above = more.above;
        rises = more.rises;
      }
      by_one more false e =
          let low_here : from ≤ n x = All-head (λ y. from ≤ n y) x xs low in
          let first : from + 1 ≤ n x = grind (arith, nat_tests) in
          record {
            here = [];
            later = x ∷ xs;
            is = refl;
            same = All-nil (λ y. n y ≡ from);
            above = All-cons (λ y. from + 1 ≤ n y) x xs first
                (All-weaker (λ y. n x ≤ n y) (λ y. from + 1 ≤ n y) (λ y more. omega (arith, first, more)) xs rises.0);
            rises = rises;
          }

  abbrev of : ℕ → X → Bool
  of number x = n x == number

  abbrev below : ℕ → X → Bool
  below to x = nat_lt (n x) to

  -- the elements below a number are those of each number in turn
  pub in_turn : (count from to : ℕ) (xs : List X) → from + count ≡ to → Rises xs → All (λ x. from ≤ n x) xs
      → filter (below to) xs ≡ flat_map (λ number. filter (of number) xs) (numbers from count)
  in_turn zero from to xs long rises low =
      filter_none (below to) xs (All-weaker (λ x. from ≤ n x) (λ x. below to x ≡ false)
      (λ x there. grind (arith, nat_tests)) xs low)
  in_turn (suc count) from to xs long rises low =
      let parts = split from xs rises low in
      let whole : (p : X → Bool) → filter p xs ≡ filter p parts.here ++ filter p parts.later =
      λ p. ap (filter p) parts.is ∙ filter-append p parts.here parts.later in
      let here_below : filter (below to) parts.here ≡ parts.here =
      filter_all (below to) parts.here (All-weaker (λ x. n x ≡ from) (λ x. below to x ≡ true)
      (λ x there. grind (arith, nat_tests)) parts.here parts.same) in
      let here_of : filter (of from) parts.here ≡ parts.here =
      filter_all (of from) parts.here (All-weaker (λ x. n x ≡ from) (λ x. of from x ≡ true)
      (λ x there. grind (arith, nat_tests)) parts.here parts.same) in
      let later_of : filter (of from) parts.later ≡ [] =
      filter_none (of from) parts.later (All-weaker (λ x. from + 1 ≤ n x) (λ x. of from x ≡ false)
      (λ x there. grind (arith, nat_tests)) parts.later parts.above) in
      let first : filter (of from) xs ≡ parts.here =
      whole (of from) ∙ ap (λ some. some ++ filter (of from) parts.later) here_of
      ∙ ap (λ some. parts.here ++ some) later_of ∙ append-nil parts.here in
      let others : (number : ℕ) → from + 1 ≤ number → filter (of number) parts.later ≡ filter (of number) xs =
      λ number above. sym (whole (of number)
      ∙ ap (λ some. some ++ filter (of number) parts.later)
      (filter_none (of number) parts.here (All-weaker (λ x. n x ≡ from) (λ x. of number x ≡ false)
      (λ x there. grind (arith, nat_tests)) parts.here parts.same))) in
      whole (below to) ∙ ap (λ some. some ++ filter (below to) parts.later) (here_below ∙ sym first)
      ∙ ap (λ some. filter (of from) xs ++ some)
      (in_turn count (from + 1) to parts.later (omega arith) parts.rises parts.above
      ∙ numbered_same (λ number. filter (of number) parts.later) (λ number. filter (of number) xs) (from + 1) count
      others)

-- A stable sort by levels

tied : (a b : ℕ) → (not (is_lt (nat_cmp a b)) && not (is_lt (nat_cmp b a))) ≡ (b == a)
tied a b = grind (arith, nat_tests)

abbrev pub level_of : WrittenKey → ℕ
level_of written = written.2

stays : (written sorted : List WrittenKey) (level : ℕ) → IsStableByKey level_of nat_cmp written sorted
    → filter (of level_of level) sorted ≡ filter (of level_of level) written
stays written sorted level stable =
    let some : WrittenKey = (record { ref_ptr = (0, 0); now = [] }, 0, level, 0) in
    let test : WrittenKey → Bool = ties (λ (x : WrittenKey) (y : WrittenKey). is_lt (nat_cmp x.2 y.2)) some in
    let same : (y : WrittenKey) → test y ≡ of level_of level y = λ y. tied level y.2 in
    (λ i. filter (λ y. sym (same y) i) sorted) ∙ stable some ∙ (λ i. filter (λ y. same y i) written)

-- those below the count, by level
levels_sorted : (count : ℕ) (written sorted : List WrittenKey) → IsNonDecreasingBy level_of sorted
    → IsStableByKey level_of nat_cmp written sorted
    → filter (is_level_within count) (entries sorted) ≡ by_level count (entries written)
levels_sorted count written sorted up stable =
    let each : (level : ℕ)
    → map entry_of (filter (of level_of level) sorted) ≡ filter (is_at level) (entries written) =
    λ level. ap (map entry_of) (stays written sorted level stable) ∙ sym (filter_mapped (is_at level) entry_of written) in
    filter_mapped (is_level_within count) entry_of sorted
    ∙ ap (map entry_of) (in_turn level_of count 0 count sorted (omega arith) (rises_from level_of sorted up)
    (All-from_get_or (λ x. 0 ≤ level_of x) sorted (record { ref_ptr = (0, 0); now = [] }, 0, 0, 0)
    (λ j within. omega arith)))
    ∙ through (map entry_of) refl (map_both entry_of) (λ level. filter (of level_of level) sorted) (numbers 0 count)
    ∙ (λ i. flat_map (λ level. each level i) (numbers 0 count))

-- as `sort_by_key` does
pub sorted_entries : {F : Type 0} {g : Mut F (Bor WrittenKey × Unit {0}) ℕ} {f : F} (count : ℕ)
    (written sorted : List WrittenKey)
    → ((key : WrittenKey → ℕ) → ComputesKey g key f → IsSortedByKey key nat_cmp sorted)
    → ((key : WrittenKey → ℕ) → ComputesKey g key f → IsStableByKey key nat_cmp written sorted)
    → ((f : F) (a : Bor WrittenKey × Unit {0}) (r : ℕ) (f' : F) → Called g f a r f' → r ≡ level_of a.0.now)
    → filter (is_level_within count) (entries sorted) ≡ by_level count (entries written)
sorted_entries {F} {g} {f} count written sorted rising stable gives =
    let computes : ComputesKey g level_of f = answers_always g (λ a r. r ≡ level_of a.0.now) f gives in
    levels_sorted count written sorted (IsNonDecreasingBy-from_sort level_of sorted (rising level_of computes))
    (stable level_of computes)
