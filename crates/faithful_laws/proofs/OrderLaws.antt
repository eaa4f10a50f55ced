-- The history that a faithful transcript tells has each request of the script once, and those of a session in its
-- order.
use Rattle.std.proofs.Common.{◌≡◌, ◌+◌, ◌<◌, ◌==◌, ℕ, suc, List, [], ◌∷◌, Option, Some, None, All, cond, map, refl, sym, ap, subst, ◌∙◌, arith}
use Rattle.std.specs.Prelude.{AllPairs}
use Rattle.std.specs.List.{AllByRecursion, count_by, sum}
use Rattle.std.proofs.lemmas.List.Elements.{All-cons, All-from_recursion, All-nil, All-tail}
use Rattle.std.proofs.lemmas.List.Kept.{AllPairs-cons}
use Rattle.std.proofs.lemmas.List.Sums.{sum-map}
use Rattle.std.proofs.lemmas.Option.{none-some, same_Some}
use Rattle.dita_doc.specs.Desk.{State, next}
use Rattle.dita_doc.specs.History.{Entry}
use Rattle.script_text.specs.Script.{Step}
use Rattle.transcript_text.specs.Transcript.{EntryShown}
use Rattle.run_spec.specs.Faithful.{IsFaithful, IsInOrder, IsOfSession}
use Rattle.run_spec.specs.HistoryTold.{entry_told, history_told, moments_from, step_of}
use Rattle.run_spec.specs.Language.{dita}
use Rattle.run_spec.proofs.ToldLaws.{HasSession, behind}
use Rattle.faithful_laws.specs.OneHistory.{IsEarlier, IsOfRequest, KeepsOrder, Steps}

abbrev pub told_from : List Step → State → ℕ → List EntryShown → List Entry
told_from steps state place entries = map entry_told (moments_from steps state place entries)

-- Each entry is a request

abbrev TellsRequests : List Step → List EntryShown → Type 0
TellsRequests steps entries = (state : State) (place : ℕ)
    → AllByRecursion (IsOfRequest steps) (told_from steps state place entries)

requests_behind : (steps : List Step) (state : State) (place : ℕ) (entry : EntryShown) (entries : List EntryShown)
    (found : Option Step) → step_of steps entry.number ≡ found → HasSession entry found → TellsRequests steps entries
    → AllByRecursion (IsOfRequest steps) (map entry_told (behind steps state place entry entries found))
requests_behind steps state place entry entries None is of rest = absurd (none-some entry.session of)
requests_behind steps state place entry entries (Some step) is of rest = (
  is ∙ ap (λ (session : ℕ). Some (record { session = session; request = step.request }))
      (same_Some step.session entry.session of),
  rest (next state place step.request) (place + 1),
)

requests_told : (steps : List Step) (entries : List EntryShown) → All (IsOfSession steps) entries
    → TellsRequests steps entries
requests_told steps [] of state place = tt
requests_told steps (entry ∷ entries) of state place =
    requests_behind steps state place entry entries (step_of steps entry.number) refl (of 0 entry (omega arith))
    (requests_told steps entries (All-tail (IsOfSession steps) entry entries of))

-- What is read of sessions and numbers alone is the same of the entries and of the history

module _ {X : Type 0} (read : ℕ → ℕ → X) where
  abbrev of_shown : EntryShown → X
  of_shown entry = read entry.session entry.number

  abbrev of_told : Entry → X
  of_told entry = read entry.session entry.number

  abbrev TellsRead : List Step → List EntryShown → Type 0
  TellsRead steps entries = (state : State) (place : ℕ)
      → map of_told (told_from steps state place entries) ≡ map of_shown entries

  read_behind : (steps : List Step) (state : State) (place : ℕ) (entry : EntryShown) (entries : List EntryShown)
      (found : Option Step) → HasSession entry found → TellsRead steps entries
      → map of_told (map entry_told (behind steps state place entry entries found)) ≡ map of_shown (entry ∷ entries)
  read_behind steps state place entry entries None of rest = absurd (none-some entry.session of)
  read_behind steps state place entry entries (Some step) of rest =
      ap (λ (more : List X). read entry.session entry.number ∷ more) (rest (next state place step.request) (place + 1))

  read_told : (steps : List Step) (entries : List EntryShown) → All (IsOfSession steps) entries
      → TellsRead steps entries
  read_told steps [] of state place = refl
  read_told steps (entry ∷ entries) of state place =
      read_behind steps state place entry entries (step_of steps entry.number) (of 0 entry (omega arith))
      (read_told steps entries (All-tail (IsOfSession steps) entry entries of))

-- Once

abbrev if_number : ℕ → ℕ → ℕ → ℕ
if_number number session other = cond (other == number) 1 0

same_count : (steps : List Step) (entries : List EntryShown) → All (IsOfSession steps) entries → (number : ℕ)
    → count_by (λ (entry : Entry). entry.number == number) (told_from steps [] 0 entries)
    ≡ count_by (λ (entry : EntryShown). entry.number == number) entries
same_count steps entries of number =
    sym (sum-map (of_told (if_number number)) (told_from steps [] 0 entries))
    ∙ ap sum (read_told (if_number number) steps entries of [] 0)
    ∙ sum-map (of_shown (if_number number)) entries

-- In order

abbrev Key : Type 0
Key = ℕ × ℕ

abbrev key : ℕ → ℕ → Key
key session number = (session, number)

abbrev IsBefore : Key → Key → Type 0
IsBefore earlier later = earlier.0 ≡ later.0 → earlier.1 < later.1

abbrev AreOrdered : List Key → Type 0
AreOrdered [] = Unit {0}
AreOrdered (first ∷ keys) = AllByRecursion (IsBefore first) keys × AreOrdered keys

module _ {X : Type 0} (key_of : X → Key) where
  abbrev IsBeforeBy : X → X → Type 0
  IsBeforeBy x y = IsBefore (key_of x) (key_of y)

  each_key : (first : X) (xs : List X) → All (IsBeforeBy first) xs
      → AllByRecursion (IsBefore (key_of first)) (map key_of xs)
  each_key first [] all = tt
  each_key first (x ∷ xs) all =
      (all 0 x (omega arith), each_key first xs (All-tail (IsBeforeBy first) x xs all))

  keys_each : (first : X) (xs : List X) → AllByRecursion (IsBefore (key_of first)) (map key_of xs)
      → All (IsBeforeBy first) xs
  keys_each first [] each = All-nil (IsBeforeBy first)
  keys_each first (x ∷ xs) each = All-cons (IsBeforeBy first) x xs each.0 (keys_each first xs each.1)

  ordered : (xs : List X) → AllPairs IsBeforeBy xs → AreOrdered (map key_of xs)
  ordered [] pairs = tt
  ordered (x ∷ xs) pairs = (
    each_key x xs (λ i d within. pairs 0 (suc i) d (omega arith) (omega arith)),
    ordered xs (λ i j d less within. pairs (suc i) (suc j) d (omega arith) (omega arith)),
  )

  pairs_ordered : (xs : List X) → AreOrdered (map key_of xs) → AllPairs IsBeforeBy xs
  pairs_ordered [] order = λ i j d less within. absurd (omega arith)
  pairs_ordered (x ∷ xs) order =
      AllPairs-cons IsBeforeBy x xs (keys_each x xs order.0) (pairs_ordered xs order.1)

order_told : (steps : List Step) (entries : List EntryShown) → All (IsOfSession steps) entries
    → AllPairs IsInOrder entries → AllPairs IsEarlier (told_from steps [] 0 entries)
order_told steps entries of order = pairs_ordered (of_told key) (told_from steps [] 0 entries)
    (subst AreOrdered (sym (read_told key steps entries of [] 0)) (ordered (of_shown key) entries order))

pub keeps_order : (steps : Steps) (text : List ℕ) (is : IsFaithful dita steps text)
    → KeepsOrder steps (history_told steps is.transcript.entries)
keeps_order steps text is =
    let entries : List EntryShown = is.transcript.entries in
    let of = is.requests.sessions in
    record {
      each = All-from_recursion (IsOfRequest steps) (history_told steps entries) (requests_told steps entries of [] 0);
      once = λ number step there. same_count steps entries of number ∙ is.requests.once number step there;
      order = order_told steps entries of is.requests.order;
    }
