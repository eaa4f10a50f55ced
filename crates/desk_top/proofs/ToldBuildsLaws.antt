-- The builds that a text tells are those of the batch, in the order of their places.
use Rattle.std.proofs.Common.{◌≡◌, ◌≢◌, ◌<◌, ◌≤◌, ◌+◌, ◌++◌, ℕ, zero, suc, List, [], ◌∷◌, Option, Some, None, filter_map, length, option_map, take, refl, sym, ap, ◌∙◌, subst, arith}
use Rattle.std.specs.List.{AllZip, slice_get, cons_option}
use Rattle.std.specs.Option.{option_to_list}
use Rattle.std.proofs.lemmas.Option.{none-some, same_Some}
use Rattle.dita_doc.specs.Desk.{State, next}
use Rattle.dita_doc.specs.History.{Entry, replay, sources}
use Rattle.dita_doc.specs.Request.{Build, Get, Group, Names, Request, Single}
use Rattle.facts.specs.Rows.{Stands}
use Rattle.desk_language.specs.Language.{Language}
use Rattle.desk_lock.specs.Meaning.{Meaning}
use Rattle.run_spec.specs.HistoryTold.{BuildTold, build_at, build_of_request, builds_told, cited_by, moment_with, moments_from, next_with, step_of}
use Rattle.script_text.specs.Script.{Step}
use Rattle.transcript_text.specs.Transcript.{EntryShown}
use Rattle.desk_top.specs.Again.{AreToldAs, IsToldAs, shown_by}
use Rattle.desk_top.specs.Made.{BuildMade, IsMadeAs}
use Rattle.desk_top.specs.OneHistory.{step_in}

-- one entry more
replay_more : (state : State) (place : ℕ) (log : List Entry) (n : ℕ) (entry : Entry) → slice_get log n ≡ Some entry
    → replay state place (take (suc n) log) ≡ next (replay state place (take n log)) (place + n) entry.request
replay_more state place [] n entry at = absurd (none-some entry at)
replay_more state place (first ∷ log) zero entry at =
    let same : place ≡ place + 0 = omega arith in
    ap (λ (e : Entry). next state place e.request) (same_Some first entry at)
    ∙ ap (λ spot. next state spot entry.request) same
replay_more state place (first ∷ log) (suc n) entry at =
    let same : (place + 1) + n ≡ place + suc n = omega arith in
    replay_more (next state place first.request) (place + 1) log n entry at
    ∙ ap (λ spot. next (replay (next state place first.request) (place + 1) (take n log)) spot entry.request) same

sources_more : (log : List Entry) (n : ℕ) (entry : Entry) → slice_get log n ≡ Some entry
    → next (sources log n) n entry.request ≡ sources log (n + 1)
sources_more log n entry at =
    let zero_first : 0 + n ≡ n = omega arith in
    let after : suc n ≡ n + 1 = omega arith in
    ap (λ spot. next (sources log n) spot entry.request) (sym zero_first) ∙ sym (replay_more [] 0 log n entry at)
    ∙ ap (sources log) after

-- which requests are builds
record IsBuild (request : Request) : Type 0 where
  root : List ℕ
  val : Option (List ℕ)
  is : request ≡ Build root val

is_build_of : (state : State) (shown : EntryShown) (request : Request) (told : BuildTold)
    → build_of_request state shown request ≡ Some told → IsBuild request
is_build_of state shown (Single edit) told is = absurd (none-some told is)
is_build_of state shown (Get name) told is = absurd (none-some told is)
is_build_of state shown Names told is = absurd (none-some told is)
is_build_of state shown (Build root val) told is = record { root = root; val = val; is = refl }
is_build_of state shown (Group edits) told is = absurd (none-some told is)

module _ (means : Meaning) (language : Language) (steps : List Step) (log : List Entry) (builds : List BuildMade)
    (made : (one : BuildMade) → Stands builds one → IsMadeAs means language log one) where
  -- an entry is told with the request of its number; of a build it shows the serials that the build shows
  pub record IsToldBy (place : ℕ) (shown : EntryShown) : Type 0 where
    pub entry : Entry
    pub stands : slice_get log place ≡ Some entry
    pub named : step_of steps shown.number ≡ Some (step_in entry)
    pub session : shown.session ≡ entry.session
    pub cites : (one : BuildMade) → Stands builds one → one.place ≡ place → cited_by shown.shown ≡ shown_by language one

  -- a build stands at each place of a build
  pub record IsBuiltAt (list : List BuildMade) (place : ℕ) : Type 0 where
    pub one : BuildMade
    pub stands : Stands list one
    pub at : one.place ≡ place

  -- the builds at places from this one on
  pub record AreRest (list : List BuildMade) (from end : ℕ) : Type 0 where
    pub among : (one : BuildMade) → Stands list one → Stands builds one
    pub low : (one : BuildMade) → Stands list one → from ≤ one.place
    pub high : (one : BuildMade) → Stands list one → one.place < end
    pub rise : (j k : ℕ) (one other : BuildMade) → j < k → slice_get list j ≡ Some one → slice_get list k ≡ Some other
        → one.place < other.place
    pub cover : (place : ℕ) (entry : Entry) (root : List ℕ) (val : Option (List ℕ)) → from ≤ place → place < end
        → slice_get log place ≡ Some entry → entry.request ≡ Build root val → IsBuiltAt list place

  -- no build stands at the first place
  rest_skip : (list : List BuildMade) (from end : ℕ) → AreRest list from end
      → ((one : BuildMade) → Stands list one → one.place ≢ from) → AreRest list (from + 1) end
  rest_skip list from end rest none = record {
    among = rest.among;
    low = λ one stands. omega (arith, rest.low one stands, none one stands);
    high = rest.high;
    rise = rest.rise;
    cover = λ place entry root val least most at is. rest.cover place entry root val (omega (arith, least)) most at is;
  }

  -- the first build stands there
  rest_next : (one : BuildMade) (list : List BuildMade) (from end : ℕ) → AreRest (one ∷ list) from end
      → one.place ≡ from → AreRest list (from + 1) end
  rest_next one list from end rest here = record {
    among = λ other stands. rest.among other (suc stands.0, stands.1);
    low = λ other stands.
        omega (arith, rest.rise 0 (suc stands.0) one other (omega arith) refl stands.1, here);
    high = λ other stands. rest.high other (suc stands.0, stands.1);
    rise = λ j k x y less. rest.rise (suc j) (suc k) x y (omega (arith, less));
    cover = λ place entry root val least most at is.
        behind place least (rest.cover place entry root val (omega (arith, least)) most at is);
  }
    where
      behind : (place : ℕ) → from + 1 ≤ place → IsBuiltAt (one ∷ list) place → IsBuiltAt list place
      behind place least found = by_place found.stands.0 found.stands.1
        where
          by_place : (k : ℕ) → slice_get (one ∷ list) k ≡ Some found.one → IsBuiltAt list place
          by_place zero e =
              let first = ap (λ (b : BuildMade). b.place) (same_Some one found.one e) in
              absurd (omega (arith, first, found.at, here, least))
          by_place (suc k) e = record { one = found.one; stands = (k, e); at = found.at }

  -- the build that an entry is told to be
  told_at : (state : State) (place : ℕ) (shown : EntryShown) → state ≡ sources log place → (told_by : IsToldBy place shown)
      → (one : BuildMade) → Stands builds one → one.place ≡ place → (told : BuildTold)
      → build_of_request state shown told_by.entry.request ≡ Some told → IsToldAs language one told
  told_at state place shown same told_by one stands here told is =
      let as_made = made one stands in
      let entry : as_made.entry ≡ told_by.entry = same_Some as_made.entry told_by.entry
      (sym as_made.stands ∙ ap (slice_get log) here ∙ told_by.stands) in
      let request : told_by.entry.request ≡ Build one.root one.val =
      ap (λ (e : Entry). e.request) (sym entry) ∙ as_made.request in
      let this : BuildTold = record {
        session = shown.session;
        root = one.root;
        val = one.val;
        state = state;
        cited = cited_by shown.shown;
      } in
      let same_told : this ≡ told =
      same_Some this told (sym (ap (build_of_request state shown) request) ∙ is) in
      subst (IsToldAs language one) same_told (record {
        session = told_by.session ∙ ap (λ (e : Entry). e.session) (sym entry) ∙ as_made.session;
        root = refl;
        val = refl;
        state = same ∙ ap (sources log) (sym here) ∙ sym as_made.here;
        cited = told_by.cites one stands here;
      })

  abbrev put : Option BuildTold → List BuildTold → List BuildTold
  put None rest = rest
  put (Some told) rest = told ∷ rest

  module _ (state : State) (from end : ℕ) (shown : EntryShown) (same : state ≡ sources log from)
      (told_by : IsToldBy from shown) (within : from < end) (behind : List BuildTold)
      (rest_told : (list : List BuildMade) → AreRest list (from + 1) end → AllZip (IsToldAs language) list behind) where
    -- a build stands there, and it is the first
    first_told : (list : List BuildMade) → AreRest list from end → (told : BuildTold)
        → build_of_request state shown told_by.entry.request ≡ Some told → IsBuiltAt list from
        → AllZip (IsToldAs language) list (told ∷ behind)
    first_told [] rest told is found = absurd (none-some found.one found.stands.1)
    first_told (one ∷ list) rest told is found = (
      told_at state from shown same told_by one (rest.among one (0, refl)) here told is,
      rest_told list (rest_next one list from end rest here),
    )
      where
        by_place : (k : ℕ) → slice_get (one ∷ list) k ≡ Some found.one → one.place ≡ from
        by_place zero e = ap (λ (b : BuildMade). b.place) (same_Some one found.one e) ∙ found.at
        by_place (suc k) e =
            let less = rest.rise 0 (suc k) one found.one (omega arith) refl e in
            let least = rest.low one (0, refl) in absurd (omega (arith, less, least, found.at))

        here : one.place ≡ from
        here = by_place found.stands.0 found.stands.1

    by_found : (list : List BuildMade) → AreRest list from end → (found : Option BuildTold)
        → build_of_request state shown told_by.entry.request ≡ found
        → AllZip (IsToldAs language) list (put found behind)
    by_found list rest None is = rest_told list (rest_skip list from end rest none)
      where
        none : (one : BuildMade) → Stands list one → one.place ≢ from
        none one stands here =
            let as_made = made one (rest.among one stands) in
            let entry : as_made.entry ≡ told_by.entry = same_Some as_made.entry told_by.entry
            (sym as_made.stands ∙ ap (slice_get log) here ∙ told_by.stands) in
            none-some _ (sym is ∙ ap (λ (e : Entry). build_of_request state shown e.request) (sym entry)
            ∙ ap (build_of_request state shown) as_made.request)
    by_found list rest (Some told) is =
        let build = is_build_of state shown told_by.entry.request told is in
        first_told list rest told is
        (rest.cover from told_by.entry build.root build.val (omega arith) within told_by.stands build.is)

  -- entries from this place on
  told_from : (state : State) (from end : ℕ) (told : List EntryShown) (list : List BuildMade) → state ≡ sources log from
      → ((n : ℕ) (shown : EntryShown) → slice_get told n ≡ Some shown → IsToldBy (from + n) shown)
      → end ≡ from + length told → AreRest list from end
      → AllZip (IsToldAs language) list (filter_map build_at (moments_from steps state from told))
  told_from state from end [] [] same is last rest = tt
  told_from state from end [] (one ∷ list) same is last rest =
      absurd (omega (arith, rest.low one (0, refl), rest.high one (0, refl), last))
  told_from state from end (shown ∷ told) list same is last rest =
      let none : from + 0 ≡ from = omega arith in
      let told_by : IsToldBy from shown = subst (λ spot. IsToldBy spot shown) none (is 0 shown refl) in
      let later : State = next state from told_by.entry.request in
      let after : later ≡ sources log (from + 1) =
      ap (λ (s : State). next s from told_by.entry.request) same ∙ sources_more log from told_by.entry told_by.stands in
      subst (λ found. AllZip (IsToldAs language) list
      (filter_map build_at (option_to_list (option_map (moment_with state from shown) found)
      ++ moments_from steps (next_with state from found) (from + 1) told))) (sym told_by.named)
      (put_is (build_of_request state shown told_by.entry.request)
      (filter_map build_at (moments_from steps later (from + 1) told))
      (by_found state from end shown same told_by (omega (arith, last))
      (filter_map build_at (moments_from steps later (from + 1) told))
      (λ others more. told_from later (from + 1) end told others after
      (λ n s at. (let next_spot : from + suc n ≡ (from + 1) + n = omega arith in
      subst (λ spot. IsToldBy spot s) next_spot (is (suc n) s at))) (omega (arith, last)) more)
      list rest (build_of_request state shown told_by.entry.request) refl))
    where
      put_is : (found : Option BuildTold) (behind : List BuildTold) → AllZip (IsToldAs language) list (put found behind)
          → AllZip (IsToldAs language) list (cons_option found behind)
      put_is None behind zip = zip
      put_is (Some one) behind zip = zip

  zip_count : (list : List BuildMade) (told : List BuildTold) → AllZip (IsToldAs language) list told
      → length told ≡ length list
  zip_count [] [] zip = refl
  zip_count [] (t ∷ told) zip = absurd zip
  zip_count (one ∷ list) [] zip = absurd zip
  zip_count (one ∷ list) (t ∷ told) zip = ap suc (zip_count list told zip.1)

  zip_each : (list : List BuildMade) (told : List BuildTold) → AllZip (IsToldAs language) list told → (at : ℕ)
      (one : BuildMade) (shown : BuildTold) → slice_get list at ≡ Some one → slice_get told at ≡ Some shown
      → IsToldAs language one shown
  zip_each [] told zip at one shown here there = absurd (none-some one here)
  zip_each (x ∷ list) [] zip at one shown here there = absurd zip
  zip_each (x ∷ list) (t ∷ told) zip zero one shown here there =
      subst (λ (b : BuildMade). IsToldAs language b shown) (same_Some x one here)
      (subst (IsToldAs language x) (same_Some t shown there) zip.0)
  zip_each (x ∷ list) (t ∷ told) zip (suc at) one shown here there = zip_each list told zip.1 at one shown here there

  -- the builds of a text that tells the history are the builds of the batch
  pub told_builds : (told : List EntryShown) → length told ≡ length log
      → ((n : ℕ) (shown : EntryShown) → slice_get told n ≡ Some shown → IsToldBy n shown)
      → AreRest builds 0 (length log) → AreToldAs language builds (builds_told steps told)
  told_builds told count is rest =
      let zip = told_from [] 0 (length log) told builds refl
      (λ n shown at. (let same : n ≡ 0 + n = omega arith in subst (λ spot. IsToldBy spot shown) same (is n shown at)))
      (omega (arith, count)) rest in
      record { count = zip_count builds (builds_told steps told) zip; each = zip_each builds (builds_told steps told) zip }
