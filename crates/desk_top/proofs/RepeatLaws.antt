-- Of the builds that a text tells: one that repeats another cites the rows that the other cites, and the counts of the
-- end are right; by what the builds of the batch made and cited.
use Rattle.std.proofs.Common.{◌≡◌, ◌≢◌, ◌<◌, ◌≤◌, ◌+◌, ℕ, zero, suc, Bool, if◌then◌else◌, List, [], ◌∷◌, Option, Some, AllPairs, Contains, length, map, sum, sum_by, refl, sym, ap, ◌∙◌, subst, arith}
use Rattle.std.specs.List.{slice_get}
use Rattle.std.proofs.lemmas.List.Sums.{sum_by-cons}
use Rattle.std.proofs.lemmas.Option.{none-some, same_Some, slice_get_within}
use Rattle.build_spec.specs.Built.{BuildOutcome, Done, Stopped, TooLarge}
use Rattle.dita_doc.specs.Desk.{State}
use Rattle.dita_doc.specs.History.{Entry, sources}
use Rattle.facts.specs.Rows.{RowData, Stands}
use Rattle.desk_language.specs.Language.{Language, bytes_of_parts, parts_of, parts_with}
use Rattle.desk_lock.specs.Closes.{IsNeverTwice}
use Rattle.desk_lock.specs.Learns.{AreLeft}
use Rattle.desk_lock.specs.Meaning.{Meaning}
use Rattle.desk_work.proofs.Lists.{each_at, each_from, each_onward}
use Rattle.run_spec.specs.Faithful.{CitesAgain, CountsRight, Repeats, all_bytes, bytes_of, parts_without, table_limit}
use Rattle.run_spec.specs.HistoryTold.{BuildTold}
use Rattle.script_text.specs.Script.{Step}
use Rattle.transcript_text.specs.Transcript.{RowShown, Totals, Transcript}
use Rattle.desk_top.specs.Again.{AreToldAs, IsToldAs, IsUnchanged, KeepsRight, serials_in, serials_shown, shown_by}
use Rattle.desk_top.specs.Made.{AreMade, BuildMade, IsCitedBy, IsMadeAs, IsOfOneKey, IsRepeat, StaysRight, parts_in}
use Rattle.desk_top.proofs.AgainLaws.{all_left, cited_of, nothing_made, same_rows}
use Rattle.desk_top.proofs.ElementLaws.{contained_stands}
use Rattle.desk_top.proofs.FewLaws.{few_different}
use Rattle.desk_top.proofs.MadeLaws.{bytes_in, fewer_dropped, made_most, none_dropped, parts_but}
use Rattle.desk_top.proofs.PlaceLaws.{map_at, map_back, pair_at}
use Rattle.desk_top.proofs.SameBuildLaws.{IsRightRowAt, IsSameBuild, PartsTellAll, same_build}

pub here_within : {X : Type 0} (xs : List X) (k : ℕ) → k < length xs → (x : X) × (slice_get xs k ≡ Some x)
here_within [] k less = absurd (omega (arith, less))
here_within (x ∷ xs) zero less = (x, refl)
here_within (x ∷ xs) (suc k) less = here_within xs k (omega (arith, less))

-- Serials that are shown

shown_stands : (outcome : BuildOutcome) (rows : List RowData) (n : ℕ) → Stands (serials_shown outcome rows) n
    → Stands (serials_in rows) n
shown_stands (Done pages faults) [] n stands = stands
shown_stands (Done pages faults) (row ∷ rows) n stands = (suc stands.0, stands.1)
shown_stands (Stopped stop) rows n stands = absurd (none-some n stands.1)
shown_stands (TooLarge total) rows n stands = absurd (none-some n stands.1)

-- Counts of the text

bytes_told : (language : Language) (one : BuildMade) (told : BuildTold) → IsToldAs language one told
    → bytes_of language told ≡ bytes_in language one
bytes_told language one told is =
    ap (λ state. bytes_of_parts language state told.root told.val) is.state
    ∙ ap (λ root. bytes_of_parts language one.state root told.val) is.root
    ∙ ap (bytes_of_parts language one.state one.root) is.val

sum_told : (language : Language) (builds : List BuildMade) (told : List BuildTold) → length told ≡ length builds
    → ((k : ℕ) (one : BuildMade) (shown : BuildTold) → slice_get builds k ≡ Some one → slice_get told k ≡ Some shown
    → IsToldAs language one shown)
    → all_bytes language told ≡ sum_by (λ (one : BuildMade). sum (bytes_in language one)) builds
sum_told language [] [] count each = refl
sum_told language [] (t ∷ told) count each = absurd (omega (arith, count))
sum_told language (one ∷ builds) [] count each = absurd (omega (arith, count))
sum_told language (one ∷ builds) (t ∷ told) count each = omega (
  arith,
  sum_by-cons (λ (b : BuildTold). sum (bytes_of language b)) t told,
  sum_by-cons (λ (b : BuildMade). sum (bytes_in language b)) one builds,
  ap sum (bytes_told language one t (each 0 one t refl refl)),
  sum_told language builds told (omega (arith, count)) (λ k. each (suc k)),
)

parts_told : (language : Language) (chosen : ℕ → Bool) (at : ℕ) (builds : List BuildMade) (told : List BuildTold)
    → length told ≡ length builds
    → ((k : ℕ) (one : BuildMade) (shown : BuildTold) → slice_get builds k ≡ Some one → slice_get told k ≡ Some shown
    → IsToldAs language one shown)
    → parts_without language chosen at told ≡ parts_but language chosen at builds
parts_told language chosen at [] [] count each = refl
parts_told language chosen at [] (t ∷ told) count each = absurd (omega (arith, count))
parts_told language chosen at (one ∷ builds) [] count each = absurd (omega (arith, count))
parts_told language chosen at (one ∷ builds) (t ∷ told) count each =
    let here = ap length (bytes_told language one t (each 0 one t refl refl)) in
    let rest = parts_told language chosen (at + 1) builds told (omega (arith, count)) (λ k. each (suc k)) in
    λ i. (if chosen at then 0 else here i) + rest i

-- The builds of a text and of the batch

module _ (means : Meaning) (language : Language) (log : List Entry) (limit : ℕ) (prints kept : List RowData)
    (count gone : ℕ) (builds : List BuildMade) (told : List BuildTold) (left : AreLeft limit prints kept count gone)
    (are : AreMade means language log prints builds) (never : IsNeverTwice means log kept)
    (tell : PartsTellAll means language) (keeps : KeepsRight means language log) (like : AreToldAs language builds told)
  where
    record IsBehind (k : ℕ) (shown : BuildTold) : Type 0 where
      one : BuildMade
      stands : slice_get builds k ≡ Some one
      is : IsToldAs language one shown

    behind : (k : ℕ) (shown : BuildTold) → slice_get told k ≡ Some shown → IsBehind k shown
    behind k shown at =
        let within = slice_get_within told k shown at in
        let found = here_within builds k (omega (arith, within, like.count)) in
        record { one = found.0; stands = found.1; is = like.each k found.0 shown found.1 at }

    record IsShownAs (k : ℕ) (one : BuildMade) : Type 0 where
      shown : BuildTold
      stands : slice_get told k ≡ Some shown
      is : IsToldAs language one shown

    before : (k : ℕ) (one : BuildMade) → slice_get builds k ≡ Some one → IsShownAs k one
    before k one at =
        let within = slice_get_within builds k one at in
        let found = here_within told k (omega (arith, within, like.count)) in
        record { shown = found.0; stands = found.1; is = like.each k one found.0 at found.1 }

    module _ (at later : ℕ) (repeats : Repeats language told at later) where
      first : IsBehind at repeats.first
      first = behind at repeats.first repeats.is_first

      second : IsBehind later repeats.second
      second = behind later repeats.second repeats.is_second

      first_is : IsMadeAs means language log first.one
      first_is = are.each at first.one first.stands

      second_is : IsMadeAs means language log second.one
      second_is = are.each later second.one second.stands

      unchanged : IsUnchanged language (sources log first.one.place) (sources log second.one.place) first.one.root
          first.one.val
      unchanged =
          subst (λ (val : Option (List ℕ)). IsUnchanged language (sources log first.one.place)
          (sources log second.one.place) first.one.root val) first.is.val
          (subst (λ (root : List ℕ). IsUnchanged language (sources log first.one.place) (sources log second.one.place) root
          repeats.first.val) first.is.root
          (subst (λ (other : State). IsUnchanged language (sources log first.one.place) other repeats.first.root
          repeats.first.val) (second.is.state ∙ second_is.here)
          (subst (λ (state : State). IsUnchanged language state repeats.second.state repeats.first.root
          repeats.first.val) (first.is.state ∙ first_is.here) repeats.unchanged)))

      same_key : IsOfOneKey first.one second.one
      same_key = record {
        root = sym second.is.root ∙ repeats.key.root ∙ first.is.root;
        val = sym second.is.val ∙ repeats.key.val ∙ first.is.val;
      }

      forth : StaysRight means first.one first.one.state second.one.state
      forth fact sound root val agrees =
          subst (means.agrees fact) (sym second_is.here)
          (keeps.forth first.one.place second.one.place first.one.root first.one.val unchanged fact sound root val
          (subst (means.agrees fact) first_is.here agrees))

      back : StaysRight means first.one second.one.state first.one.state
      back fact sound root val agrees =
          subst (means.agrees fact) (sym first_is.here)
          (keeps.back first.one.place second.one.place first.one.root first.one.val unchanged fact sound root val
          (subst (means.agrees fact) second_is.here agrees))

      is_repeat : IsRepeat means builds at later
      is_repeat = record {
        first = first.one;
        second = second.one;
        is_first = first.stands;
        is_second = second.stands;
        before = repeats.before;
        key = same_key;
        session = sym second.is.session ∙ repeats.session ∙ first.is.session;
        alone = λ place other stands of. (let shown = before place other stands in
            sym shown.is.session ∙ repeats.alone place shown.shown shown.stands (record {
              root = shown.is.root ∙ of.root ∙ sym first.is.root;
              val = shown.is.val ∙ of.val ∙ sym first.is.val;
            }) ∙ first.is.session);
        next = λ between other behind ahead stands of. (let shown = before between other stands in
            repeats.next between shown.shown behind ahead shown.stands (record {
              root = shown.is.root ∙ of.root ∙ sym first.is.root;
              val = shown.is.val ∙ of.val ∙ sym first.is.val;
            }));
        forth = forth;
        back = back;
      }

      same : IsSameBuild means language tell first.one.root first.one.val first.one.state second.one.state
      same = same_build means language tell first.one.root first.one.val first.one.state second.one.state first.one.cited
          first_is.keys
          (each_onward (IsCitedBy means first.one)
          (IsRightRowAt means language tell first.one.root first.one.val first.one.state)
          first.one.cited (λ row by. record { sound = by.right.sound; agrees = by.right.agrees }) first_is.cited)
          (each_from (IsRightRowAt means language tell first.one.root first.one.val second.one.state) first.one.cited
          (λ k row stands. (let by = each_at (IsCitedBy means first.one) first.one.cited k row first_is.cited stands in
          let of = cited_of means language log first.one first_is row (k, stands) in
          record {
            sound = by.right.sound;
            agrees = forth row.fact by.right.sound of.map_is of.val_is by.right.agrees;
          })))

      same_parts : parts_in language second.one ≡ parts_in language first.one
      same_parts =
          ap (λ root. parts_of language second.one.state root second.one.val) same_key.root
          ∙ ap (parts_of language second.one.state first.one.root) same_key.val
          ∙ ap (parts_with first.one.root first.one.val) same.count

      same_clean : language.clean second.one.state second.one.root second.one.val
          ≡ language.clean first.one.state first.one.root first.one.val
      same_clean =
          ap (λ root. language.clean second.one.state root second.one.val) same_key.root
          ∙ ap (language.clean second.one.state first.one.root) same_key.val ∙ same.clean

      never_all : gone ≡ 0 → IsNeverTwice means log prints
      never_all none = all_left means log limit prints kept count gone left none never

      pub cites_same : gone ≡ 0 → repeats.second.cited ≡ repeats.first.cited
      unfolding is_repeat
      cites_same none =
          second.is.cited
          ∙ ap (λ outcome. serials_shown outcome second.one.cited) same_clean
          ∙ ap (serials_shown (language.clean first.one.state first.one.root first.one.val))
          (same_rows means language log limit prints kept count gone builds left are (never_all none) at later is_repeat
          same_parts)
          ∙ sym first.is.cited

      pub makes_nothing : gone ≡ 0 → (one : BuildMade) → slice_get builds later ≡ Some one → (row : RowData)
          → Stands one.made row → ⊥
      unfolding is_repeat
      makes_nothing none one stands row made =
          let is : one ≡ second.one = same_Some one second.one (sym stands ∙ second.stands) in
          nothing_made means language log limit prints kept count gone builds left are (never_all none) at later is_repeat
          same_parts row (subst (λ (b : BuildMade). Stands b.made row) is made)

    -- a build that repeats another cites the rows that the other cites
    pub cites_again : (totals : Totals) → totals.dropped ≡ gone → CitesAgain language totals told
    cites_again totals dropped none at later repeats = cites_same at later repeats (sym dropped ∙ none)

    -- a serial that a build of the text cites is that of a row that was published
    serial_printed : (k : ℕ) (shown : BuildTold) → slice_get told k ≡ Some shown → (n : ℕ) → Contains shown.cited n
        → Stands (serials_in prints) n
    serial_printed k shown at n cites =
        let one = behind k shown at in
        let there = shown_stands (language.clean one.one.state one.one.root one.one.val) one.one.cited n
        (contained_stands (shown_by language one.one) n
        (subst (λ (all : List ℕ). Contains all n) one.is.cited cites)) in
        let found = map_back (λ (row : RowData). row.serial) one.one.cited there.0 n there.1 in
        let printed = each_at (Stands prints) one.one.cited there.0 found.0 (are.stand k one.one one.stands) found.1 in
        (printed.0, map_at (λ (row : RowData). row.serial) prints printed.0 found.0 printed.1 ∙ ap Some found.2)

    module _ (steps : List Step) (transcript : Transcript) (limit_is : limit ≡ table_limit)
        (made_is : transcript.totals.made ≡ count) (dropped_is : transcript.totals.dropped ≡ gone)
        (entries_are : transcript.totals.entries ≡ length steps)
        (different : AllPairs (λ (row other : RowShown). row.serial ≢ other.serial) transcript.rows)
        (cited : (k : ℕ) (row : RowShown) → slice_get transcript.rows k ≡ Some row
        → (at : ℕ) × (shown : BuildTold) × (slice_get told at ≡ Some shown) × Contains shown.cited row.serial)
      where
        few_rows : length transcript.rows ≤ length prints
        few_rows =
            let few = few_different (map (λ (row : RowShown). row.serial) transcript.rows) (serials_in prints)
            (λ j k x y less first second. (
            let here = map_back (λ (row : RowShown). row.serial) transcript.rows j x first in
            let there = map_back (λ (row : RowShown). row.serial) transcript.rows k y second in
            λ same. pair_at (λ (row other : RowShown). row.serial ≢ other.serial) transcript.rows j k here.0 there.0
            different less here.1 there.1 (here.2 ∙ same ∙ sym there.2)))
            (λ k n at. (let here = map_back (λ (row : RowShown). row.serial) transcript.rows k n at in
            let by = cited k here.0 here.1 in
            subst (Stands (serials_in prints)) here.2 (serial_printed by.0 by.1 by.2 here.0.serial by.3))) in
            omega (
              arith,
              few,
              as_many (λ (row : RowShown). row.serial) transcript.rows,
              as_many (λ (row : RowData). row.serial) prints,
            )
          where
            as_many : {X Y : Type 0} (f : X → Y) (xs : List X) → length (map f xs) ≡ length xs
            as_many f [] = refl
            as_many f (x ∷ xs) = ap suc (as_many f xs)

        -- the counts of the end are right
        pub counts_right : CountsRight language steps transcript told
        counts_right = record {
          entries = entries_are;
          fewer = omega (
            arith,
            dropped_is,
            made_is,
            fewer_dropped means language log limit prints kept count gone builds left are,
          );
          fits = λ few. dropped_is
              ∙ none_dropped means language log limit prints kept count gone builds left are
              (omega (arith, few, limit_is, sum_told language builds told like.count like.each));
          rows = omega (arith, few_rows, left.made, made_is);
          most = λ chosen chooses. (let most = made_most means language log limit prints kept count gone builds left are
              chosen (λ k one stands yes row made. (let chose = chooses k yes in
              makes_nothing chose.1.0 k chose.1.1 (sym dropped_is ∙ chose.0) one stands row made)) in
              omega (arith, most, made_is, parts_told language chosen 0 builds told like.count like.each));
        }
