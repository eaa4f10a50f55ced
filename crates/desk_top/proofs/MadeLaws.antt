-- What builds made is counted by their parts: no more rows than parts, and no more bytes than those of the parts' rows.
use Rattle.std.proofs.Common.{◌≡◌, ◌<◌, ◌≤◌, ◌+◌, ℕ, zero, suc, Bool, true, false, if◌then◌else◌, List, [], ◌∷◌, Some, flat_map, length, map, sum, sum_by, refl, sym, ap, ◌∙◌, arith}
use Rattle.std.specs.List.{slice_get}
use Rattle.std.proofs.lemmas.List.Sums.{sum-map, sum_by-append, sum_by-cons}
use Rattle.dita_doc.specs.History.{Entry}
use Rattle.facts.specs.Rows.{RowData, Stands}
use Rattle.facts.specs.Table.{size}
use Rattle.desk_language.specs.Language.{Language, part_bytes}
use Rattle.desk_lock.specs.Learns.{AreLeft}
use Rattle.desk_lock.specs.Lists.{Each}
use Rattle.desk_lock.specs.Meaning.{Meaning}
use Rattle.desk_work.specs.Work.{IsMadeFor}
use Rattle.desk_top.specs.Made.{AreMade, BuildMade, IsMadeAs, basis_of, key_in, parts_in}
use Rattle.desk_top.proofs.PlaceLaws.{sum_map}

-- Weights

one_each : {X : Type 0} (xs : List X) → sum_by (λ (x : X). 1) xs ≡ length xs
one_each [] = refl
one_each {X} (x ∷ xs) = omega (arith, sum_by-cons (λ (y : X). 1) x xs, one_each xs)

pub sum_all : {X Y : Type 0} (f : Y → ℕ) (g : X → List Y) (xs : List X)
    → sum_by f (flat_map g xs) ≡ sum_by (λ x. sum_by f (g x)) xs
sum_all f g [] = refl
sum_all f g (x ∷ xs) = omega (
  arith,
  sum_by-append f (g x) (flat_map g xs),
  sum_all f g xs,
  sum_by-cons (λ y. sum_by f (g y)) x xs,
)

sum_below : {X : Type 0} (f g : X → ℕ) (xs : List X) → ((k : ℕ) (x : X) → slice_get xs k ≡ Some x → f x ≤ g x)
    → sum_by f xs ≤ sum_by g xs
sum_below f g [] below = omega arith
sum_below f g (x ∷ xs) below = omega (
  arith,
  sum_by-cons f x xs,
  sum_by-cons g x xs,
  below 0 x refl,
  sum_below f g xs (λ k. below (suc k)),
)

-- One build

-- the bytes of the rows of its parts
abbrev pub bytes_in : Language → BuildMade → List ℕ
bytes_in language one = map (part_bytes language one.state) (parts_in language one)

counted_as : (means : Meaning) (language : Language) (one : BuildMade) (rows : List RowData)
    → Each (IsMadeFor (basis_of means language one)) rows
    → size rows ≡ sum_by (λ (row : RowData). part_bytes language one.state (key_in row)) rows
counted_as means language one [] fits = refl
counted_as means language one (row ∷ rows) fits = omega (
  arith,
  sum_by-cons (λ (r : RowData). r.bytes) row rows,
  sum_by-cons (λ (r : RowData). part_bytes language one.state (key_in r)) row rows,
  fits.0.counts,
  counted_as means language one rows fits.1,
)

pub made_bytes : (means : Meaning) (language : Language) (log : List Entry) (one : BuildMade)
    → IsMadeAs means language log one → size one.made ≤ sum (bytes_in language one)
made_bytes means language log one is =
    let weight : RowData → ℕ = λ (row : RowData). part_bytes language one.state (key_in row) in
    let cited : sum_by weight one.cited ≡ sum (bytes_in language one) =
    sym (sum_map (part_bytes language one.state) key_in one.cited)
    ∙ ap (sum_by (part_bytes language one.state)) is.keys
    ∙ sym (sum-map (part_bytes language one.state) (parts_in language one)) in
    omega (arith, counted_as means language one one.made is.fits, is.once weight, cited)

length_map : {X Y : Type 0} (f : X → Y) (xs : List X) → length (map f xs) ≡ length xs
length_map f [] = refl
length_map f (x ∷ xs) = ap suc (length_map f xs)

pub made_count : (means : Meaning) (language : Language) (log : List Entry) (one : BuildMade)
    → IsMadeAs means language log one → length one.made ≤ length (bytes_in language one)
made_count means language log one is = omega (
  arith,
  one_each one.made,
  one_each one.cited,
  is.once (λ (row : RowData). 1),
  length_map key_in one.cited,
  ap length is.keys,
  length_map (part_bytes language one.state) (parts_in language one),
)

-- All builds

-- how many parts builds have, without those builds that are chosen by their places
abbrev pub parts_but : Language → (ℕ → Bool) → ℕ → List BuildMade → ℕ
parts_but language chosen at [] = 0
parts_but language chosen at (one ∷ builds) =
    (if chosen at then 0 else length (bytes_in language one)) + parts_but language chosen (at + 1) builds

counts_by : (chosen : Bool) (made parts : ℕ) → made ≤ parts → (chosen ≡ true → made ≡ 0)
    → made ≤ (if chosen then 0 else parts)
counts_by true made parts few none = omega (arith, none refl)
counts_by false made parts few none = few

made_but : (language : Language) (chosen : ℕ → Bool) (at : ℕ) (builds : List BuildMade)
    → ((k : ℕ) (one : BuildMade) → slice_get builds k ≡ Some one → length one.made ≤ length (bytes_in language one))
    → ((k : ℕ) (one : BuildMade) → slice_get builds k ≡ Some one → chosen (k + at) ≡ true → length one.made ≡ 0)
    → sum_by (λ (one : BuildMade). length one.made) builds ≤ parts_but language chosen at builds
made_but language chosen at [] few none = omega arith
made_but language chosen at (one ∷ builds) few none =
    let first : 0 + at ≡ at = omega arith in
    let here = counts_by (chosen at) (length one.made) (length (bytes_in language one)) (few 0 one refl)
    (λ yes. none 0 one refl (ap chosen first ∙ yes)) in
    let rest = made_but language chosen (at + 1) builds (λ k. few (suc k))
    (λ k other e yes. (let next : suc k + at ≡ k + (at + 1) = omega arith in
    none (suc k) other e (ap chosen next ∙ yes))) in
    omega (arith, sum_by-cons (λ (b : BuildMade). length b.made) one builds, here, rest)

module _ (means : Meaning) (language : Language) (log : List Entry) (limit : ℕ) (prints kept : List RowData)
    (count gone : ℕ) (builds : List BuildMade) (left : AreLeft limit prints kept count gone)
    (are : AreMade means language log prints builds) where
  -- no more rows are dropped than made
  pub fewer_dropped : gone ≤ count
  fewer_dropped = omega (arith, left.dropped, left.made)

  pub all_bytes_made : size prints ≤ sum_by (λ (one : BuildMade). sum (bytes_in language one)) builds
  all_bytes_made = omega (
    arith,
    are.all (λ (row : RowData). row.bytes),
    sum_all (λ (row : RowData). row.bytes) (λ (one : BuildMade). one.made) builds,
    sum_below (λ (one : BuildMade). size one.made) (λ (one : BuildMade). sum (bytes_in language one)) builds
        (λ k one e. made_bytes means language log one (are.each k one e)),
  )

  -- none is dropped if the rows of all parts fit
  pub none_dropped : sum_by (λ (one : BuildMade). sum (bytes_in language one)) builds ≤ limit → gone ≡ 0
  none_dropped fits = by_gone gone left.over
    where
      by_gone : (n : ℕ) → (0 < n → limit < size prints) → n ≡ 0
      by_gone zero over = refl
      by_gone (suc n) over =
          let much = over (omega arith) in absurd (omega (arith, much, all_bytes_made, fits))

  -- at most so many rows as the builds have parts are made, without builds that made nothing
  pub made_most : (chosen : ℕ → Bool)
      → ((k : ℕ) (one : BuildMade) → slice_get builds k ≡ Some one → chosen k ≡ true → (row : RowData)
      → Stands one.made row → ⊥) → count ≤ parts_but language chosen 0 builds
  made_most chosen never = omega (
    arith,
    left.made,
    one_each prints,
    are.all (λ (row : RowData). 1),
    one_each (flat_map (λ (one : BuildMade). one.made) builds),
    sum_all (λ (row : RowData). 1) (λ (one : BuildMade). one.made) builds,
    sum_below (λ (one : BuildMade). sum_by (λ (row : RowData). 1) one.made) (λ (one : BuildMade). length one.made) builds
        (λ k one e. omega (arith, one_each one.made)),
    made_but language chosen 0 builds (λ k one e. made_count means language log one (are.each k one e))
        (λ k one e yes. (let same : k + 0 ≡ k = omega arith in
        nothing one.made (never k one e (sym (ap chosen same) ∙ yes)))),
  )
    where
      nothing : (rows : List RowData) → ((row : RowData) → Stands rows row → ⊥) → length rows ≡ 0
      nothing [] none = refl
      nothing (row ∷ rows) none = absurd (none row (0, refl))
