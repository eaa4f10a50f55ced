-- A build that repeats another makes nothing, and cites for each part the row that the other cites, if no row was dropped.
use Rattle.std.proofs.Common.{◌≡◌, ◌⊎◌, ◌<◌, ◌≤◌, ℕ, zero, suc, List, [], ◌∷◌, Some, flat_map, length, map, sum_by, drop, refl, sym, ap, ◌∙◌, subst, inl, inr, ⊎_elim, arith}
use mathlib.Core.Logic.{dite}
use native.Mathlib.Decide.{ℕ_discrete}
use Rattle.std.specs.List.{slice_get}
use Rattle.std.proofs.lemmas.Option.{same_Some}
use Rattle.dita_doc.specs.History.{Entry, sources}
use Rattle.facts.specs.Rows.{RowData, Stands}
use Rattle.desk_language.specs.Language.{Language}
use Rattle.desk_lock.specs.Closes.{IsNeverTwice}
use Rattle.desk_lock.specs.Learns.{AreLeft}
use Rattle.desk_lock.specs.Lists.{Each}
use Rattle.desk_lock.specs.Meaning.{Meaning}
use Rattle.desk_lock.proofs.Weights.{heavy_stands, stands_weighs, tick, tick_other, tick_same}
use Rattle.desk_work.proofs.Lists.{each_at}
use Rattle.desk_work.specs.Work.{IsMadeFor}
use Rattle.desk_top.specs.Made.{AreMade, BuildMade, IsCitedBy, IsMadeAs, IsOfOneKey, IsRepeat, basis_of, key_in, parts_in}
use Rattle.desk_top.proofs.ElementLaws.{contained_stands, from_lists, stands_contained}
use Rattle.desk_top.proofs.PartsLaws.{IsOfBuildOf, part_of, part_once}
use Rattle.desk_top.proofs.PlaceLaws.{map_at, map_back}

-- which of two numbers is less
pub less_or_same : (m n : ℕ) → (m < n) ⊎ ((m ≡ n) ⊎ (n < m))
less_or_same zero zero = inr (inl refl)
less_or_same zero (suc n) = inl (omega arith)
less_or_same (suc m) zero = inr (inr (omega arith))
less_or_same (suc m) (suc n) = ⊎_elim (λ less. inl (omega (arith, less)))
    (λ more. inr (⊎_elim (λ same. inl (ap suc same)) (λ less. inr (omega (arith, less))) more)) (less_or_same m n)

-- What was published

module _ {limit : ℕ} {prints kept : List RowData} {count gone : ℕ} (left : AreLeft limit prints kept count gone) where
  pub mark_of : (row : RowData) → Stands prints row → row.serial ≤ row.mark
  mark_of row stands = left.marks stands.0 row stands.1

  pub one_rank : (row other : RowData) → Stands prints row → Stands prints other → row.rank ≡ other.rank → row ≡ other
  one_rank row other first second same =
      let here = left.ranks first.0 row first.1 in
      let there = left.ranks second.0 other second.1 in
      let spot : first.0 ≡ second.0 = omega (arith, here, there, same) in
      same_Some row other (sym first.1 ∙ ap (slice_get prints) spot ∙ second.1)

  pub one_serial : (row other : RowData) → Stands prints row → Stands prints other → row.serial ≡ other.serial
      → row ≡ other
  one_serial row other first second same =
      let spot = left.once first.0 second.0 row other first.1 second.1 same in
      same_Some row other (sym first.1 ∙ ap (slice_get prints) spot ∙ second.1)

-- with nothing dropped, all rows are left
pub all_left : (means : Meaning) (log : List Entry) (limit : ℕ) (prints kept : List RowData) (count gone : ℕ)
    → AreLeft limit prints kept count gone → gone ≡ 0 → IsNeverTwice means log kept → IsNeverTwice means log prints
all_left means log limit prints kept count gone left none never =
    let same : kept ≡ prints = left.kept ∙ ap (λ n. drop n prints) none in
    subst (IsNeverTwice means log) same never

-- Parts of a build

-- a row that is cited is of the build's map and DITAVAL
pub cited_of : (means : Meaning) (language : Language) (log : List Entry) (one : BuildMade)
    → IsMadeAs means language log one → (row : RowData) → Stands one.cited row → IsOfBuildOf one.root one.val (key_in row)
cited_of means language log one made row stands =
    part_of one.root one.val (language.page_count one.state one.root one.val) stands.0 (key_in row)
    (sym (ap (λ keys. slice_get keys stands.0) made.keys) ∙ map_at key_in one.cited stands.0 row stands.1)

-- of one part one row is cited
pub one_cited : (means : Meaning) (language : Language) (log : List Entry) (one : BuildMade)
    → IsMadeAs means language log one → (row other : RowData) → Stands one.cited row → Stands one.cited other
    → key_in row ≡ key_in other → row ≡ other
one_cited means language log one made row other first second same =
    let here : slice_get (parts_in language one) first.0 ≡ Some (key_in row) =
    sym (ap (λ keys. slice_get keys first.0) made.keys) ∙ map_at key_in one.cited first.0 row first.1 in
    let there : slice_get (parts_in language one) second.0 ≡ Some (key_in other) =
    sym (ap (λ keys. slice_get keys second.0) made.keys) ∙ map_at key_in one.cited second.0 other second.1 in
    let spot = part_once one.root one.val (language.page_count one.state one.root one.val) first.0 second.0 (key_in row)
    (key_in other) here there same in
    same_Some row other (sym first.1 ∙ ap (slice_get one.cited) spot ∙ second.1)

-- All builds of a batch

module _ (means : Meaning) (language : Language) (log : List Entry) (limit : ℕ) (prints kept : List RowData)
    (count gone : ℕ) (builds : List BuildMade) (left : AreLeft limit prints kept count gone)
    (are : AreMade means language log prints builds) where
  -- the build that made a row
  pub record IsMadeBy (row : RowData) : Type 0 where
    pub at : ℕ
    pub one : BuildMade
    pub stands : slice_get builds at ≡ Some one
    pub made : Stands one.made row

  heavy_same : (n m : ℕ) → 0 < tick n m → m ≡ n
  heavy_same n m heavy = dite (ℕ_discrete m n) (λ same. same)
      (λ differ. let none = tick_other n m differ in absurd (omega (arith, none, heavy)))

  made_at : (row : RowData) → Stands prints row → (at : ℕ) (one : BuildMade) → slice_get builds at ≡ Some one
      → (other : RowData) → Stands one.made other → other.serial ≡ row.serial → IsMadeBy row
  made_at row stands at one here other made same =
      let cited = each_at (Stands one.cited) one.made made.0 other (are.each at one here).among made.1 in
      let there = each_at (Stands prints) one.cited cited.0 other (are.stand at one here) cited.1 in
      let is : other ≡ row = one_serial left other row there stands same in
      record { at = at; one = one; stands = here; made = subst (Stands one.made) is made }

  pub made_by : (row : RowData) → Stands prints row → IsMadeBy row
  made_by row stands =
      let weight : RowData → ℕ = λ (r : RowData). tick row.serial r.serial in
      let self : weight row ≡ 1 = tick_same row.serial in
      let some_weight : 0 < sum_by weight (flat_map (λ (one : BuildMade). one.made) builds) =
      omega (arith, self, stands_weighs weight prints stands.0 row stands.1, are.all weight) in
      let heavy = heavy_stands weight (flat_map (λ (one : BuildMade). one.made) builds) some_weight in
      let found = from_lists (λ (one : BuildMade). one.made) builds heavy.1
      (stands_contained (flat_map (λ (one : BuildMade). one.made) builds) heavy.1 (heavy.0, heavy.2)) in
      let there = contained_stands builds found.one found.among in
      made_at row stands there.0 found.one there.1 heavy.1 (contained_stands found.one.made heavy.1 found.has)
      (heavy_same row.serial heavy.1.serial heavy.3)

  -- a build that repeats another

  module _ (never : IsNeverTwice means log prints) (at later : ℕ) (repeat : IsRepeat means builds at later)
      (parts : parts_in language repeat.second ≡ parts_in language repeat.first) where
    is_first : IsMadeAs means language log repeat.first
    is_first = are.each at repeat.first repeat.is_first

    is_second : IsMadeAs means language log repeat.second
    is_second = are.each later repeat.second repeat.is_second

    knows : (row : RowData) → Stands repeat.first.cited row → Stands repeat.second.known row
    knows row stands = each_at (Stands repeat.second.known) repeat.first.cited stands.0 row
        (are.follow at later repeat.first repeat.second repeat.before repeat.is_first repeat.is_second repeat.session)
        stands.1

    first_right : (row : RowData) → Stands repeat.first.cited row → IsCitedBy means repeat.first row
    first_right row stands =
        each_at (IsCitedBy means repeat.first) repeat.first.cited stands.0 row is_first.cited stands.1

    second_right : (row : RowData) → Stands repeat.second.cited row → IsCitedBy means repeat.second row
    second_right row stands =
        each_at (IsCitedBy means repeat.second) repeat.second.cited stands.0 row is_second.cited stands.1

    -- what the first cites is right at the second
    goes_on : (row : RowData) → Stands repeat.first.cited row → means.agrees row.fact repeat.second.state
    goes_on row stands =
        let right = (first_right row stands).right in
        let of = cited_of means language log repeat.first is_first row stands in
        repeat.forth row.fact right.sound of.map_is of.val_is right.agrees

    goes_back : (row : RowData) → Stands repeat.second.cited row → means.agrees row.fact repeat.first.state
    goes_back row stands =
        let right = (second_right row stands).right in
        let of = cited_of means language log repeat.second is_second row stands in
        repeat.back row.fact right.sound (of.map_is ∙ repeat.key.root) (of.val_is ∙ repeat.key.val) right.agrees

    -- of a row of the second, the row of its part that the first cites
    record Counterpart (row : RowData) : Type 0 where
      one : RowData
      cited : Stands repeat.first.cited one
      same : key_in one ≡ key_in row

    counterpart : (row : RowData) → Stands repeat.second.cited row → Counterpart row
    counterpart row stands =
        let keys : map key_in repeat.second.cited ≡ map key_in repeat.first.cited =
        is_second.keys ∙ parts ∙ sym is_first.keys in
        let found = map_back key_in repeat.first.cited stands.0 (key_in row)
        (sym (ap (λ all. slice_get all stands.0) keys) ∙ map_at key_in repeat.second.cited stands.0 row stands.1) in
        record { one = found.0; cited = (stands.0, found.1); same = found.2 }

    -- a row that was known, is of the part and agrees forbids that the build makes one
    refused : (one : BuildMade) → IsMadeAs means language log one → (row old : RowData) → Stands one.made row
        → Stands one.known old → Stands prints row → Stands prints old → key_in old ≡ key_in row
        → means.agrees old.fact one.state → ⊥
    refused one is row old made known here there same agrees =
        let above = each_at (λ (other : RowData). other.mark < row.serial) one.known known.0 old
        (each_at (λ (r : RowData). Each (λ (other : RowData). other.mark < r.serial) one.known) one.made made.0 row
        is.above made.1) known.1 in
        let fit = each_at (IsMadeFor (basis_of means language one)) one.made made.0 row is.fits made.1 in
        let state : one.state ≡ sources log row.stamp = is.stored ∙ ap (sources log) (sym fit.stamped) in
        never old row there here same above (subst (means.agrees old.fact) state agrees)

    first_stands : (row : RowData) → Stands repeat.first.cited row → Stands prints row
    first_stands row stands =
        each_at (Stands prints) repeat.first.cited stands.0 row (are.stand at repeat.first repeat.is_first) stands.1

    second_stands : (row : RowData) → Stands repeat.second.cited row → Stands prints row
    second_stands row stands =
        each_at (Stands prints) repeat.second.cited stands.0 row (are.stand later repeat.second repeat.is_second) stands.1

    -- the second makes nothing
    pub nothing_made : (row : RowData) → Stands repeat.second.made row → ⊥
    nothing_made row made =
        let cited = each_at (Stands repeat.second.cited) repeat.second.made made.0 row is_second.among made.1 in
        let other = counterpart row cited in
        refused repeat.second is_second row other.one made (knows other.one other.cited) (second_stands row cited)
        (first_stands other.one other.cited) other.same (goes_on other.one other.cited)

    module _ (row other : RowData) (first : Stands repeat.first.cited row) (second : Stands repeat.second.cited other)
        (same : key_in row ≡ key_in other) where
      -- no row of the first that was published later
      none_later : other.rank < row.rank → ⊥
      none_later less = ⊎_elim (λ made. nothing_made other made)
          (λ latest. (let known = knows row first in
          each_at (λ (old : RowData). key_in old ≡ key_in other → other.rank < old.rank
          → means.agrees old.fact repeat.second.state → ⊥) repeat.second.known known.0 row latest known.1 same less
          (goes_on row first)))
          (second_right other second).source

      -- a row that the first knew was not published later than its own
      none_known : row.rank < other.rank → Stands repeat.first.known other → ⊥
      none_known less known = ⊎_elim
          (λ made. refused repeat.first is_first row other made known (first_stands row first) (second_stands other second)
          (sym same) (goes_back other second))
          (λ latest. each_at (λ (old : RowData). key_in old ≡ key_in row → row.rank < old.rank
          → means.agrees old.fact repeat.first.state → ⊥) repeat.first.known known.0 other latest known.1 (sym same) less
          (goes_back other second))
          (first_right row first).source

      module _ (less : row.rank < other.rank) (maker : IsMadeBy other) where
        is_maker : IsMadeAs means language log maker.one
        is_maker = are.each maker.at maker.one maker.stands

        maker_cites : Stands maker.one.cited other
        maker_cites = each_at (Stands maker.one.cited) maker.one.made maker.made.0 other is_maker.among maker.made.1

        maker_key : IsOfOneKey repeat.first maker.one
        maker_key =
            let here = cited_of means language log maker.one is_maker other maker_cites in
            let there = cited_of means language log repeat.second is_second other second in
            record {
              root = sym here.map_is ∙ there.map_is ∙ repeat.key.root;
              val = sym here.val_is ∙ there.val_is ∙ repeat.key.val;
            }

        maker_session : maker.one.session ≡ repeat.first.session
        maker_session = repeat.alone maker.at maker.one maker.stands maker_key

        by_earlier : maker.at < at → ⊥
        by_earlier earlier = none_known less
            (each_at (Stands repeat.first.known) maker.one.cited maker_cites.0 other
            (are.follow maker.at at maker.one repeat.first earlier maker.stands repeat.is_first (sym maker_session))
            maker_cites.1)

        by_first : maker.at ≡ at → ⊥
        by_first here =
            let is : maker.one ≡ repeat.first =
            same_Some maker.one repeat.first (sym maker.stands ∙ ap (slice_get builds) here ∙ repeat.is_first) in
            let mine = subst (λ (one : BuildMade). Stands one.cited other) is maker_cites in
            let one = one_cited means language log repeat.first is_first row other first mine same in
            let rank = ap (λ (r : RowData). r.rank) one in omega (arith, rank, less)

        by_second : maker.at ≡ later → ⊥
        by_second here =
            let is : maker.one ≡ repeat.second =
            same_Some maker.one repeat.second (sym maker.stands ∙ ap (slice_get builds) here ∙ repeat.is_second) in
            nothing_made other (subst (λ (one : BuildMade). Stands one.made other) is maker.made)

        -- a later build would have known the row before it made it
        by_later : later < maker.at → ⊥
        by_later behind =
            let known = each_at (Stands maker.one.known) repeat.second.cited second.0 other
            (are.follow later maker.at repeat.second maker.one behind repeat.is_second maker.stands
            (maker_session ∙ sym repeat.session)) second.1 in
            let above = each_at (λ (old : RowData). old.mark < other.serial) maker.one.known known.0 other
            (each_at (λ (r : RowData). Each (λ (old : RowData). old.mark < r.serial) maker.one.known) maker.one.made
            maker.made.0 other is_maker.above maker.made.1) known.1 in
            let mark = mark_of left other (second_stands other second) in omega (arith, above, mark)

        nobody : ⊥
        nobody = ⊎_elim by_earlier (λ rest. ⊎_elim by_first
            (λ behind. ⊎_elim (λ between. repeat.next maker.at maker.one behind between maker.stands maker_key)
            (λ more. ⊎_elim by_second by_later more) (less_or_same maker.at later)) rest)
            (less_or_same maker.at at)

      -- the second cites the row that the first cites
      pub same_row : row ≡ other
      same_row = ⊎_elim
          (λ less. absurd (nobody less (made_by other (second_stands other second))))
          (λ rest. ⊎_elim (λ rank. one_rank left row other (first_stands row first) (second_stands other second) rank)
          (λ less. absurd (none_later less)) rest)
          (less_or_same row.rank other.rank)

    -- and so for all parts
    pub same_rows : repeat.second.cited ≡ repeat.first.cited
    same_rows = same_lists repeat.second.cited repeat.first.cited (is_second.keys ∙ parts ∙ sym is_first.keys)
        (λ k other row there here. (let keys : map key_in repeat.second.cited ≡ map key_in repeat.first.cited =
        is_second.keys ∙ parts ∙ sym is_first.keys in
        sym (same_row row other (k, here) (k, there)
        (same_Some (key_in row) (key_in other) (sym (map_at key_in repeat.first.cited k row here)
        ∙ sym (ap (λ all. slice_get all k) keys) ∙ map_at key_in repeat.second.cited k other there)))))
      where
        same_lists : (xs ys : List RowData) → map key_in xs ≡ map key_in ys
            → ((k : ℕ) (x y : RowData) → slice_get xs k ≡ Some x → slice_get ys k ≡ Some y → x ≡ y) → xs ≡ ys
        same_lists [] [] keys each = refl
        same_lists [] (y ∷ ys) keys each = absurd (omega (arith, ap length keys))
        same_lists (x ∷ xs) [] keys each = absurd (omega (arith, ap length keys))
        same_lists (x ∷ xs) (y ∷ ys) keys each =
            let here = each 0 x y refl refl in
            let rest = same_lists xs ys (ap (drop 1) keys) (λ k. each (suc k)) in λ i. here i ∷ rest i
