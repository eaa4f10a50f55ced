-- What a run tells of its requests, one after another.
use Rattle.std.proofs.Common.{◌≡◌, ◌+◌, ◌≤◌, ℕ, Bool, List, [], ◌∷◌, ◌++◌, Option, Some, None, length, refl, ap, sym, ◌∙◌, arith, append_assoc, append-nil, length-append, subst}
use Rattle.std.specs.List.{flat_map, All}
use Rattle.std.proofs.lemmas.List.Elements.{All-nil, All-cons, All-tail, All-append}
use Rattle.std.proofs.lemmas.List.Sums.{sum-map, sum_by-cons}
use Rattle.dita_doc.specs.Bytes.{Bytes}
use Rattle.dita_doc.specs.Desk.{next}
use Rattle.dita_doc.specs.History.{Entry, sources, history_size}
use Rattle.dita_doc.specs.Lines.{line}
use Rattle.dita_doc.specs.Request.{text_size}
use Rattle.dita_outside.specs.Pages.{Pages, TakesPages, TakesPagesFront}
use Rattle.run_spec.specs.Answers.{Answer, answers_from, answers_to, answer_shown, answers_shown, before_shown, transcript_of, pages_of_answer, pages_of_answers}
use Rattle.run_spec.proofs.HistoryLaws.{length-answers_from}
use Rattle.script_text.specs.Facts.{FitsScript, HasFewStep, IsUtf8Step, steps_size}
use Rattle.script_text.specs.Script.{Step, script_limit}
use Rattle.transcript_text.specs.Transcript.{EntryShown, IsEntryShown, IsRowShown, IsTranscript, Totals, entry_text, head_text, end_head, transcript_text}
use Rattle.version_store.proofs.HistoryLaws.{sources_push, size_push}
use Rattle.desk_top.specs.Runs.{IsUtf8Entry, HasRoom, TellsBehind, Answers, answer_behind}
use Rattle.desk_top.proofs.TakesLaws.{takes_then, takes_then_front, front_more, takes_none}

-- what was taken so far of all pages, and what is left of them
pub record HasTaken (old now : Option Pages) (left all : Pages) : Type 0 where
  pub done : Pages
  pub taken : TakesPages old now done
  pub whole : all ≡ done ++ left

-- some pages more
pub taken_more : (old now new : Option Pages) (some left all : Pages) → HasTaken old now (some ++ left) all
    → TakesPages now new some → HasTaken old new left all
taken_more old now new some left all before more = record {
  done = before.done ++ some;
  taken = takes_then old now new before.done some before.taken more;
  whole = before.whole ∙ sym (append_assoc before.done some left);
}

-- the first of some pages more, and then no other
pub taken_front : (old now new : Option Pages) (some left all : Pages) → HasTaken old now (some ++ left) all
    → TakesPagesFront now new some → TakesPagesFront old new all
taken_front old now new some left all before front =
    subst (TakesPagesFront old new) (append_assoc before.done some left ∙ sym before.whole)
    (front_more old new (before.done ++ some) left (takes_then_front old now new before.done some before.taken front))

-- the answers to what is left behind a history
abbrev pub answers_behind : List Entry → List Step → List Answer
answers_behind history left = answers_from (sources history (length history)) (length history) left

-- behind one entry more
length_push : (history : List Entry) (entry : Entry) → length (history ++ entry ∷ []) ≡ length history + 1
length_push history entry = omega (arith, length-append history (entry ∷ []))

pub state_push : (history : List Entry) (entry : Entry)
    → sources (history ++ entry ∷ []) (length (history ++ entry ∷ []))
    ≡ next (sources history (length history)) (length history) entry.request
state_push history entry = ap (sources (history ++ entry ∷ [])) (length_push history entry) ∙ sources_push history entry

answers_push : (history : List Entry) (entry : Entry) (left : List Step)
    → answers_behind (history ++ entry ∷ []) left
    ≡ answers_from (next (sources history (length history)) (length history) entry.request)
    (length history + 1) left
answers_push history entry left =
    ap (λ state. answers_from state (length (history ++ entry ∷ [])) left) (state_push history entry)
    ∙ ap (λ place. answers_from (next (sources history (length history)) (length history) entry.request) place left)
    (length_push history entry)

-- what is told of answers from a place on
abbrev pub answers_text : ℕ → List Answer → Bytes
answers_text place answers = flat_map entry_text (answers_shown place answers)

-- one entry more was told
told_more : (before after : Bytes) (shown : Option EntryShown) (rest : List EntryShown) → TellsBehind before after shown
    → after ++ flat_map entry_text rest ≡ before ++ flat_map entry_text (before_shown shown rest)
told_more before after None rest told = absurd told
told_more before after (Some entry) rest told =
    ap (λ t. t ++ flat_map entry_text rest) told.1
    ∙ append_assoc before (entry_text entry) (flat_map entry_text rest)

shown_more : (before after : Bytes) (shown : Option EntryShown) (rest : List EntryShown)
    → TellsBehind before after shown → All IsEntryShown rest → All IsEntryShown (before_shown shown rest)
shown_more before after None rest told all = absurd told
shown_more before after (Some entry) rest told all = All-cons IsEntryShown entry rest told.0 all

-- the first requests were answered, which are the history, and these are left; what was told before them and what is
-- told of them is the whole, and all entries are in the form if those of the rest are
pub record HasAnswered (with_terms : Bool) (all : List Step) (history : List Entry) (left : List Step) (text : Bytes)
    (old now : Option Pages) : Type 0 where
  pub counted : length history + length left ≡ length all
  pub told : text ++ answers_text (length history) (answers_behind history left) ≡ head_text
      ++ answers_text 0 (answers_to all)
  pub form : All IsEntryShown (answers_shown (length history) (answers_behind history left))
      → All IsEntryShown (answers_shown 0 (answers_to all))
  pub taken : HasTaken old now (pages_of_answers with_terms (answers_behind history left)) (pages_of_answers with_terms (answers_to all))
  pub size : history_size history + steps_size left ≤ script_limit
  pub utf8 : All IsUtf8Entry history
  pub rest : All IsUtf8Step left
  pub few : All HasFewStep left

-- one step more
pub steps_size_cons : (step : Step) (left : List Step)
    → steps_size (step ∷ left) ≡ text_size step.request + steps_size left
steps_size_cons step left =
    let bytes : Step → ℕ = λ step. text_size step.request in
    sum-map bytes (step ∷ left) ∙ sum_by-cons bytes step left ∙ ap (λ n. bytes step + n) (sym (sum-map bytes left))

-- none was answered
pub none_answered : (with_terms : Bool) (all left : List Step) (history : List Entry) (text : Bytes) (old : Option Pages) → FitsScript all
    → left ≡ all → history ≡ [] → text ≡ head_text
    → HasAnswered with_terms all history left text old old
none_answered with_terms all left history text old fits same none head = rw (same, none, head) (record {
  counted = omega arith;
  told = refl;
  form = λ shown. shown;
  taken = record { done = []; taken = takes_none old; whole = refl };
  size = omega (arith, fits.size);
  utf8 = λ k d within. absurd (omega arith);
  rest = fits.utf8;
  few = fits.few_edits;
})

-- there is room for one that is left
pub room_left : (with_terms : Bool) (all : List Step) (history : List Entry) (step : Step) (left : List Step) (text : Bytes)
    (old now : Option Pages)
    → FitsScript all → HasAnswered with_terms all history (step ∷ left) text old now → HasRoom history step
room_left with_terms all history step left text old now fits before = record {
  few = omega (arith, before.counted, fits.few);
  edits = before.few 0 step (omega arith);
  size = omega (arith, before.size, steps_size_cons step left);
  utf8 = before.utf8;
  this = before.rest 0 step (omega arith);
}

-- one request more
pub one_answered : (with_terms : Bool) (all : List Step) (history later : List Entry) (step : Step) (left : List Step)
    (text longer : Bytes) (old now new : Option Pages)
    → HasAnswered with_terms all history (step ∷ left) text old now → Answers history later step text longer
    → TakesPages now new (pages_of_answer with_terms (answer_behind history step))
    → HasAnswered with_terms all later left longer old new
one_answered with_terms all history later step left text longer old now new before a put =
    let entry = (answer_behind history step).entry in
    let rest = answers_from (next (sources history (length history)) (length history) step.request)
    (length history + 1) left in
    let same : answers_behind (history ++ entry ∷ []) left ≡ rest = answers_push history entry left in
    let longer_by : length (history ++ entry ∷ []) ≡ length history + 1 = length_push history entry in
    let more = answers_behind (history ++ entry ∷ []) left in
    let shown = answers_shown (length history + 1) rest in
    let same_shown : answers_shown (length (history ++ entry ∷ [])) more ≡ shown =
    ap (λ (place : ℕ). answers_shown place more) longer_by ∙ ap (answers_shown (length history + 1)) same in
    let this = answer_shown (length history) (answer_behind history step) in
    subst (λ (h : List Entry). HasAnswered with_terms all h left longer old new) (sym a.grown) (record {
      counted = omega (arith, before.counted, longer_by);
      told =
          ap (λ (entries : List EntryShown). longer ++ flat_map entry_text entries) same_shown
          ∙ told_more text longer this shown a.told ∙ before.told;
      form = λ all_shown. before.form (shown_more text longer this shown a.told
          (subst (All IsEntryShown) same_shown all_shown));
      taken = subst (λ (answers : List Answer). HasTaken old new (pages_of_answers with_terms answers)
          (pages_of_answers with_terms (answers_to all))) (sym same)
          (taken_more old now new (pages_of_answer with_terms (answer_behind history step)) (pages_of_answers with_terms rest)
          (pages_of_answers with_terms (answers_to all)) before.taken put);
      size = (let more : history_size (history ++ entry ∷ []) ≡ history_size history + text_size step.request =
          size_push history entry in omega (arith, before.size, more, steps_size_cons step left));
      utf8 = All-append IsUtf8Entry history (entry ∷ []) before.utf8
          (All-cons IsUtf8Entry entry [] (before.rest 0 step (omega arith)) (λ k d within. absurd (omega arith)));
      rest = All-tail IsUtf8Step step left before.rest;
      few = All-tail HasFewStep step left before.few;
    })

-- the answer to one request more was begun
pub answer_begun : (with_terms : Bool) (all : List Step) (history : List Entry) (step : Step) (left : List Step) (text : Bytes)
    (old now new : Option Pages)
    → HasAnswered with_terms all history (step ∷ left) text old now
    → TakesPagesFront now new (pages_of_answer with_terms (answer_behind history step))
    → TakesPagesFront old new (pages_of_answers with_terms (answers_to all))
answer_begun with_terms all history step left text old now new before front =
    taken_front old now new (pages_of_answer with_terms (answer_behind history step))
    (pages_of_answers with_terms (answers_from (next (sources history (length history)) (length history) step.request)
    (length history + 1) left))
    (pages_of_answers with_terms (answers_to all)) before.taken front

-- a transcript without rows
no_rows : (entries : List EntryShown) (totals : Totals)
    → head_text ++ flat_map entry_text entries ++ line (end_head totals)
    ≡ transcript_text (record { entries = entries; rows = []; totals = totals })
no_rows entries totals = ap (λ text. text ++ line (end_head totals))
    (sym (append-nil (head_text ++ flat_map entry_text entries)))

-- none is left
pub none_left : (with_terms : Bool) (all : List Step) (history : List Entry) (left : List Step) (text : Bytes) (old now : Option Pages)
    → left ≡ [] → HasAnswered with_terms all history left text old now → HasAnswered with_terms all history [] text old now
none_left with_terms all history left text old now none before =
    subst (λ (left : List Step). HasAnswered with_terms all history left text old now) none before

-- all were answered, and the end was told
pub all_told : (with_terms : Bool) (all : List Step) (history : List Entry) (text whole : Bytes) (count : ℕ) (old now : Option Pages)
    → HasAnswered with_terms all history [] text old now → count ≡ length history
    → whole ≡ text ++ line (end_head (record { entries = count; made = 0; dropped = 0 }))
    → whole ≡ transcript_text (transcript_of (answers_to all))
all_told with_terms all history text whole count old now before counts end =
    let many : count ≡ length (answers_to all) = omega (arith, before.counted, length-answers_from [] 0 all) in
    let told : text ≡ head_text ++ answers_text 0 (answers_to all) = sym (append-nil text) ∙ before.told in
    end ∙ ap (λ (t : Bytes). t ++ line (end_head (record { entries = count; made = 0; dropped = 0 }))) told
    ∙ ap (λ (n : ℕ). (head_text ++ answers_text 0 (answers_to all))
    ++ line (end_head (record { entries = n; made = 0; dropped = 0 }))) many
    ∙ no_rows (answers_shown 0 (answers_to all)) (record { entries = length (answers_to all); made = 0; dropped = 0 })

-- and the transcript is in the form
pub all_in_form : (with_terms : Bool) (all : List Step) (history : List Entry) (text : Bytes) (old now : Option Pages) → FitsScript all
    → HasAnswered with_terms all history [] text old now → IsTranscript (transcript_of (answers_to all))
all_in_form with_terms all history text old now fits before = record {
  entries = before.form (All-nil IsEntryShown);
  rows = All-nil IsRowShown;
  rising = tt;
  counted = omega (arith, fits.few, length-answers_from [] 0 all);
  made = omega arith;
  dropped = omega arith;
}
