-- A history of two edits by two passes, of which one then takes in the other: the first stores a document, the second
-- removes it.
use Rattle.std.specs.Str.{is_utf8, chars}
use Rattle.std.proofs.Common.{◌≡◌, ◌≢◌, ◌+◌, ◌<◌, ℕ, zero, suc, List, [], ◌∷◌, ◌++◌, Option, Some, None, refl, sym, ap, ◌∙◌, inl, inr, length, arith, sum_by}
use Rattle.std.specs.Prelude.{codes}
use Rattle.std.proofs.lemmas.Option.{none-some}
use lib.Utf8.{encode}
use mathlib.Core.Option.{some}
use lib.ListN.{get_elem?}
use Rattle.atomic_table.specs.Table.{State}
use Rattle.dita_doc.specs.Desk.{IsStored, IsRemoved}
use Rattle.dita_doc.specs.History.{Entry, IsLegal}
use Rattle.dita_doc.specs.Pyx.{document_of}
use Rattle.dita_doc.specs.Request.{Request, Single, Put, Remove}
use Rattle.facts.specs.Table.{new_table}
use Rattle.desk_core.specs.Book.{BookData}
use Rattle.desk_lock.specs.Calls.{Appends, Joins, Splits}
use Rattle.desk_lock.specs.Closes.{Closes}
use Rattle.desk_lock.specs.Knows.{all_parts, arrived, both, first_view, made, parted, session_parts, settled, spent_view}
use Rattle.desk_lock.specs.Learns.{AreLeft, KnowsAll}
use Rattle.desk_lock.specs.Meaning.{Meaning}
use Rattle.desk_lock.specs.Past.{IsCounted, Past}
use Rattle.desk_lock.specs.Rule.{Counts, IsOfPast, IsOpen, RuleKept, Stocked}
use Rattle.desk_lock.specs.declared.view.View.{View}
use Rattle.lock_examples.proofs.Short.{of_two, open_desk, small}

abbrev a : List ℕ
a = codes "a"

abbrev topic : List ℕ
topic = codes "(p" ++ 10 ∷ codes ")p" ++ 10 ∷ []

abbrev put : Request
put = Single (Put a topic)

abbrev remove : Request
remove = Single (Remove a)

abbrev stored : Entry
stored = record { session = 0; number = 1; request = put; reply = IsStored 1 }

abbrev removed : Entry
removed = record { session = 1; number = 1; request = remove; reply = IsRemoved 1 }

abbrev log : List Entry
log = stored ∷ removed ∷ []

legal_first : IsLegal (stored ∷ [])
unfolding document_of is_utf8 chars encode
legal_first = (refl, tt)

legal : IsLegal log
unfolding document_of is_utf8 chars encode
legal = (refl, (refl, tt))

-- The first pass gives parts to another for session 1; each has an edit; then the first takes in the other

abbrev p : View
p = parted (first_view small) session_parts

abbrev q : View
q = arrived (first_view small) 1 session_parts

abbrev p_then : View
p_then = made p (stored ∷ []) 0

abbrev q_then : View
q_then = made q log 1

abbrev joined : View
joined = settled (both p_then q_then)

gives_parts : Splits (first_view small) 1 session_parts p q
gives_parts = record { gave = refl; got = refl }

first_edit : Appends p 1 put (IsStored 1) 0 p_then
first_edit = record {
  knows = refl;
  later = (stored ∷ [], refl);
  behind = omega arith;
  last = refl;
  entry = refl;
  legal = legal_first;
}

second_edit : Appends q 1 remove (IsRemoved 1) 1 q_then
second_edit = record {
  knows = refl;
  later = (log, refl);
  behind = omega arith;
  last = refl;
  entry = refl;
  legal = legal;
}

join : Joins p_then q_then joined
join = record { knows = refl; later = (removed ∷ [], refl); too = ([], refl) }

-- both entries were seen, one is its own, and the other is that of session 1; all parts are back

joined_seen : joined.seen ≡ log
joined_seen = refl

joined_mine : joined.mine ≡ 0 ∷ []
joined_mine = refl

joined_theirs : joined.theirs ≡ (1, 1) ∷ []
joined_theirs = refl

joined_parts : joined.parts ≡ all_parts
joined_parts = refl

-- The rule holds behind the join

abbrev book : BookData
book = record { store = record { history = log; entry_limit = 16; text_limit = 1000 }; table = new_table 1000 }

abbrev past : Past
past = record { log = log; draws = []; prints = []; limits = small }

counted : IsCounted past
counted = record {
  draws = λ before claim e. absurd (none-some claim e);
  ranks = λ before row e. absurd (none-some row e);
  marks = λ before row e. absurd (none-some row e);
  plans = λ before row e. absurd (none-some row e);
}

stocked : Stocked book past
stocked = record {
  history = refl;
  limits = refl;
  drawn = refl;
  running = tt;
  dropped = omega arith;
  rows = refl;
  over = λ some_gone. absurd (omega arith);
}

counts : Counts (joined ∷ spent_view ∷ []) book past
counts = record {
  places = λ weight. omega arith;
  draws = λ weight. refl;
  prints = λ weight. refl;
  running = λ weight. refl;
  parts = refl;
}

joined_fits : IsOfPast past joined
joined_fits = record {
  seen = ([], refl);
  also = (log, refl);
  limits = λ some_part. refl;
  mine = ((stored, refl, refl), tt);
  theirs = ((removed, refl, refl), tt);
  drawn = tt;
  stamps = tt;
  published = tt;
  rows = tt;
  met = tt;
  own = λ weight. omega arith;
}

spent_fits : IsOfPast past spent_view
spent_fits = record {
  seen = (log, refl);
  also = (log, refl);
  limits = λ some_part. absurd (omega arith);
  mine = tt;
  theirs = tt;
  drawn = tt;
  stamps = tt;
  published = tt;
  rows = tt;
  met = tt;
  own = λ weight. omega arith;
}

abbrev after_join : State (Option BookData) View
after_join = open_desk book (joined ∷ spent_view ∷ [])

is_open : IsOpen (λ b. b) after_join book
is_open = record {
  word = refl;
  inside = book;
  home = refl;
  is_book = refl;
  free = of_two (λ v. v.held ≡ None) joined spent_view refl refl;
}

kept : RuleKept (λ b. b) after_join
kept = record {
  past = past;
  book = book;
  one = refl;
  gate = inl is_open;
  counted = counted;
  stock = stocked;
  counts = counts;
  fits = of_two (IsOfPast past) joined spent_view joined_fits spent_fits;
  longest = (0, joined, refl, refl);
  spent = of_two (λ v. v.parts ≡ 0 → v ≡ spent_view) joined spent_view (λ none. absurd (omega arith)) (λ none. refl);
}

-- Closing gives the book of these two entries, of which the pass with all parts knows

left : AreLeft 1000 [] [] 0 0
left = record {
  kept = refl;
  made = refl;
  dropped = omega arith;
  over = λ some_gone. absurd (omega arith);
  ranks = λ before row e. absurd (none-some row e);
  marks = λ before row e. absurd (none-some row e);
  once = λ before other row again e f same. absurd (none-some row e);
}

knows_all : KnowsAll joined book
knows_all = record {
  prints = [];
  places = λ weight. refl;
  drawn = λ weight. refl;
  ended = λ weight. refl;
  published = λ weight. refl;
  print = λ row stands. absurd (none-some row stands.1);
  rows = tt;
  marks = tt;
  left = left;
}

closes : (means : Meaning) → Closes means joined book
closes means = record {
  begins = ([], refl);
  legal = legal;
  never_twice = λ row later stands stands_later same below. absurd (none-some row stands.1);
  limits = refl;
  all = λ all. knows_all;
}

-- What is refused

-- a book with an entry that no party counts
uncounted : Counts (record joined { theirs = [] } ∷ spent_view ∷ []) book past → ⊥
uncounted h = let two = h.places (λ place. 1) in absurd (omega arith)

-- a view that lost the place of its entry
lost_place : (w : View) → w.mine ≡ [] → Appends p 1 put (IsStored 1) 0 w → ⊥
lost_place w none h =
    let places : w.mine ≡ p.mine ++ 0 ∷ [] = ap (λ (v : View). v.mine) h.knows in
    let one : length w.mine ≡ 1 = ap (λ (places : List ℕ). length places) places in
    let zero : length w.mine ≡ 0 = ap (λ (places : List ℕ). length places) none in absurd (omega arith)

-- a closed book without the second entry
shorter_book : (means : Meaning) (short : BookData) → short.store.history ≡ stored ∷ [] → Closes means joined short → ⊥
shorter_book means short one h =
    let longer : 1 ≡ suc (suc (length h.begins.0)) =
    sym (ap (λ (entries : List Entry). length entries) one)
    ∙ ap (λ (entries : List Entry). length entries) h.begins.1 in
    absurd (omega arith)
