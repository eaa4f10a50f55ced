-- One answer: the entry that it leaves, what is shown of it, and what it builds.
use Rattle.std.proofs.Common.{◌≡◌, ◌+◌, ◌==◌, ℕ, Bool, true, false, List, [], ◌∷◌, ◌++◌, Option, Some, None, Result, Ok, Err, if◌then◌else◌, length, option_map, refl, ap, sym, ◌∙◌, subst, not, ◌&&◌, nat_le, is_some, append-nil, map}
use Rattle.std.specs.Borrow.{Bor}
use Rattle.std.specs.List.{All, slice_get}
use Rattle.std.specs.Option.{option_and_then, option_copied, option_to_list}
use Rattle.std.specs.Str.{is_utf8}
use Rattle.std.proofs.lemmas.List.{map-append}
use Rattle.std.proofs.lemmas.Option.{same_Some, slice_get_within, get_or_from_slice_get}
use Rattle.build_spec.specs.Built.{BuildOutcome}
use Rattle.dita_doc.specs.Bytes.{Bytes}
use Rattle.dita_doc.specs.Desk.{State, Stored, Halt, Reply, IsStored, Conflict, TooManyNames, reply, next, stored_under, store_reply, unless_refused, get_reply, remove_reply, edit_reply, halt_of, group_reply, version_at, stored_limit}
use Rattle.dita_doc.specs.History.{Entry, sources}
use Rattle.dita_doc.specs.Pyx.{document_of}
use Rattle.dita_doc.specs.Request.{Edit, Put, PutIf, Remove, Request, Single, Get, Names, Build, Group, IsUtf8Edit, IsUtf8Request}
use Rattle.dita_doc.specs.Tree.{Content}
use Rattle.dita_doc.specs.declared.fact.Html.{Html}
use Rattle.dita_doc.specs.declared.fault.PyxFault.{PyxFault}
use Rattle.dita_doc.proofs.Lists.{get_pushed}
use Rattle.dita_outside.specs.Pages.{Pages, TakesPages, TakesPagesFront}
use Rattle.part_spec.specs.Parts.{clean_build, clean_terms}
use Rattle.reader_spec.specs.World.{world_of}
use Rattle.run_spec.specs.Answers.{answer_shown, build_shown, built_by, delivered, page_of_terms, pages_built, pages_of_answer, pages_wanted, terms_for}
use Rattle.run_spec.proofs.ShownLaws.{begun_built, some_map}
use Rattle.script_text.specs.Script.{Step}
use Rattle.transcript_text.specs.Transcript.{BuildShown, EntryShown, entry_shown}
use Rattle.transcript_text.specs.Written.{IsText, IsTextOfEntry, is_begun}
use Rattle.version_store.specs.Entries.{EditPuts, Puts}
use Rattle.version_store.proofs.EditLaws.{last_among}
use Rattle.version_store.specs.Kept.{Kept, answered, stored_now}
use Rattle.version_store.proofs.HistoryLaws.{from_sources, slice_get-take}
use Rattle.desk_top.specs.Builds.{built_at, pages_put_at, pages_put_by, terms_at, terms_put}
use Rattle.desk_top.specs.Runs.{Answers, IsUtf8Entry, TellsBehind, answer_behind}
use Rattle.desk_top.proofs.RunLaws.{state_push}

-- the store has answered a step, at this place and with this number
pub record HasKept (old new : Kept) (step : Step) (place number : ℕ) : Type 0 where
  pub at : place ≡ length old.history
  pub counted : number ≡ length old.history + 1
  pub grown : new ≡ answered step.session number step.request old

-- with the number of the entries before, and 1
pub kept_by : (old new : Kept) (session : ℕ) (request : Request) (place count : ℕ) → place ≡ length old.history
    → count ≡ length old.history
    → new ≡ answered session (count + 1) request old
    → HasKept old new (record { session = session; request = request }) place (count + 1)
kept_by old new session request place count at counts grown =
    record { at = at; counted = ap (λ n. n + 1) counts; grown = grown }

-- the entry of the step is the last one of the new history
new_history : (old new : Kept) (step : Step) (place number : ℕ) → HasKept old new step place number
    → new.history ≡ old.history ++ (answer_behind old.history step).entry ∷ []
new_history old new step place number kept =
    ap (λ (k : Kept). k.history) kept.grown ∙ ap (λ n. (answered step.session n step.request old).history) kept.counted

entry_there : (old new : Kept) (step : Step) (place number : ℕ) → HasKept old new step place number
    → slice_get new.history place ≡ Some (answer_behind old.history step).entry
entry_there old new step place number kept =
    let entry = (answer_behind old.history step).entry in
    ap (λ history. slice_get history place) (new_history old new step place number kept)
    ∙ ap (λ n. slice_get (old.history ++ entry ∷ []) n) kept.at ∙ get_pushed old.history entry

pub entry_is : (old new : Kept) (step : Step) (place number : ℕ) (entry : Entry) → HasKept old new step place number
    → slice_get new.history place ≡ Some entry
    → entry ≡ (answer_behind old.history step).entry
entry_is old new step place number entry kept there =
    same_Some entry _ (sym there ∙ entry_there old new step place number kept)

-- a build leaves the state, so it may be made behind its entry
built_same : (state : State) (place : ℕ) (request : Request)
    → built_by (next state place request) request ≡ built_by state request
built_same state place (Single edit) = refl
built_same state place (Get name) = refl
built_same state place Names = refl
built_same state place (Build root val) = refl
built_same state place (Group edits) = refl

terms_same : (state : State) (place : ℕ) (request : Request)
    → terms_for (next state place request) request ≡ terms_for state request
terms_same state place (Single edit) = refl
terms_same state place (Get name) = refl
terms_same state place Names = refl
terms_same state place (Build root val) = refl
terms_same state place (Group edits) = refl

pub built_new : (old new : Kept) (step : Step) (place number : ℕ) → HasKept old new step place number
    → built_at new place ≡ (answer_behind old.history step).built
built_new old new step place number kept =
    ap (option_and_then (λ (entry : Entry). built_by (stored_now new) entry.request))
    (entry_there old new step place number kept)
    ∙ ap (λ (history : List Entry). built_by (sources history (length history)) step.request)
    (new_history old new step place number kept)
    ∙ ap (λ state. built_by state step.request) (state_push old.history (answer_behind old.history step).entry)
    ∙ built_same (sources old.history (length old.history)) (length old.history) step.request

terms_new : (old new : Kept) (step : Step) (place number : ℕ) → HasKept old new step place number
    → terms_at new place ≡ (answer_behind old.history step).terms
terms_new old new step place number kept =
    ap (option_and_then (λ (entry : Entry). terms_for (stored_now new) entry.request))
    (entry_there old new step place number kept)
    ∙ ap (λ (history : List Entry). terms_for (sources history (length history)) step.request)
    (new_history old new step place number kept)
    ∙ ap (λ state. terms_for state step.request) (state_push old.history (answer_behind old.history step).entry)
    ∙ terms_same (sources old.history (length old.history)) (length old.history) step.request

-- the entry says that a build has its place exactly where it is a build
pub begun_answer : (old new : Kept) (step : Step) (place number : ℕ) (entry : Entry)
    → HasKept old new step place number → slice_get new.history place ≡ Some entry
    → is_some (built_at new place) ≡ is_begun entry.reply
begun_answer old new step place number entry kept there =
    ap is_some (built_new old new step place number kept)
    ∙ begun_built (sources old.history (length old.history)) (length old.history) step.request
    ∙ sym (ap (λ (e : Entry). is_begun e.reply) (entry_is old new step place number entry kept there))

-- the pages that its build puts are those of the answer
pages_same : (with_terms : Bool) (old new : Kept) (step : Step) (place number : ℕ)
    → HasKept old new step place number
    → pages_put_at with_terms number new place ≡ pages_of_answer with_terms (answer_behind old.history step)
pages_same with_terms old new step place number kept =
    let answer = answer_behind old.history step in
    ap (λ built. map (delivered number) (pages_wanted with_terms built (terms_at new place)))
    (built_new old new step place number kept)
    ∙ ap (λ terms. map (delivered number) (pages_wanted with_terms answer.built terms))
    (terms_new old new step place number kept)
    ∙ ap (λ n. map (delivered n) (pages_wanted with_terms answer.built answer.terms)) kept.counted

pub answer_put : (with_terms : Bool) (old new : Kept) (step : Step) (place number : ℕ) (a b : Option Pages)
    → HasKept old new step place number
    → TakesPages a b (pages_put_at with_terms number new place)
    → TakesPages a b (pages_of_answer with_terms (answer_behind old.history step))
answer_put with_terms old new step place number a b kept put =
    subst (TakesPages a b) (pages_same with_terms old new step place number kept) put

pub answer_front : (with_terms : Bool) (old new : Kept) (step : Step) (place number : ℕ) (a b : Option Pages)
    → HasKept old new step place number
    → TakesPagesFront a b (pages_put_at with_terms number new place)
    → TakesPagesFront a b (pages_of_answer with_terms (answer_behind old.history step))
answer_front with_terms old new step place number a b kept front =
    subst (TakesPagesFront a b) (pages_same with_terms old new step place number kept) front

-- Texts

edit_utf8 : (edit : Edit) (name bytes : List ℕ) → EditPuts edit name bytes → IsUtf8Edit edit → is_utf8 bytes ≡ true
edit_utf8 (Put named body) name bytes puts utf8 = ap is_utf8 (sym puts.1) ∙ utf8.1
edit_utf8 (PutIf version named body) name bytes puts utf8 = ap is_utf8 (sym puts.1) ∙ utf8.1
edit_utf8 (Remove named) name bytes puts utf8 = absurd puts

puts_utf8 : (request : Request) (name bytes : List ℕ) → Puts request name bytes → IsUtf8Request request
    → is_utf8 bytes ≡ true
puts_utf8 (Single edit) name bytes puts utf8 = edit_utf8 edit name bytes puts utf8
puts_utf8 (Get named) name bytes puts utf8 = absurd puts
puts_utf8 Names name bytes puts utf8 = absurd puts
puts_utf8 (Build root val) name bytes puts utf8 = absurd puts
puts_utf8 (Group edits) name bytes puts utf8 =
    let last = last_among IsUtf8Edit name edits puts.edit utf8 puts.last in
    edit_utf8 puts.edit name bytes puts.puts last

-- what is stored behind a history of UTF-8 is UTF-8
found_utf8 : (history : List Entry) (name : List ℕ) (hit : Option Stored) → All IsUtf8Entry history
    → stored_under (sources history (length history)) name ≡ hit → IsText (get_reply hit)
found_utf8 history name None utf8 is = tt
found_utf8 history name (Some stored) utf8 is =
    let from = from_sources history (length history) name stored is in
    let stands = slice_get-take history (length history) from.place from.entry from.stands in
    let at = subst IsUtf8Entry (get_or_from_slice_get history from.place from.entry from.entry stands)
    (utf8 from.place from.entry (slice_get_within history from.place from.entry stands)) in
    puts_utf8 from.entry.request stored.name stored.bytes from.puts at

if_text : (same : Bool) (first other : Reply) → IsText first → IsText other → IsText (if same then first else other)
if_text true first other a b = a
if_text false first other a b = b

refused_text : (read : Result Content PyxFault) (answer : Reply) → IsText answer → IsText (unless_refused read answer)
refused_text (Ok tree) answer a = a
refused_text (Err fault) answer a = tt

remove_text : (stored : Option Stored) → IsText (remove_reply stored)
remove_text None = tt
remove_text (Some stored) = tt

store_text : (state : State) (place : ℕ) (name : List ℕ) → IsText (store_reply state place name)
store_text state place name = if_text (nat_le stored_limit (length state) && not (is_some (stored_under state name)))
    (TooManyNames stored_limit) (IsStored (place + 1)) tt tt

edit_text : (state : State) (place : ℕ) (edit : Edit) → IsText (edit_reply state place edit)
edit_text state place (Put name body) = refused_text (document_of body) _ (store_text state place name)
edit_text state place (PutIf version name body) =
    refused_text (document_of body) _ (if_text (version_at state name == version)
    (store_reply state place name) (Conflict (version_at state name)) (store_text state place name) tt)
edit_text state place (Remove name) = remove_text (stored_under state name)

group_text : (count : ℕ) (halt : Option Halt) → IsText (group_reply count halt)
group_text count None = tt
group_text count (Some halt) = tt

pub reply_text : (history : List Entry) (request : Request) → All IsUtf8Entry history
    → IsText (reply (sources history (length history)) (length history) request)
reply_text history (Single edit) utf8 = edit_text (sources history (length history)) (length history) edit
reply_text history (Get name) utf8 = found_utf8 history name
    (stored_under (sources history (length history)) name) utf8 refl
reply_text history Names utf8 = tt
reply_text history (Build root val) utf8 = tt
reply_text history (Group edits) utf8 =
    group_text (length edits) (halt_of (sources history (length history)) (length history) edits)

-- The whole answer

-- a text behind another
told_behind : (before text after : Bytes) (shown : Option EntryShown) → IsTextOfEntry shown text
    → after ≡ before ++ text → TellsBehind before after shown
told_behind before text after None told put = absurd told
told_behind before text after (Some entry) told put = (told.0, put ∙ ap (λ t. before ++ t) told.1)

pub answers_whole : (old new : Kept) (step : Step) (place number : ℕ) (entry : Entry) (built : Option BuildShown)
    (told before after : Bytes)
    → HasKept old new step place number → slice_get new.history place ≡ Some entry
    → built ≡ option_map build_shown (built_at new place)
    → IsTextOfEntry (entry_shown place entry built) told → after ≡ before ++ told
    → Answers old.history new.history step before after
answers_whole old new step place number entry built told before after kept there shown text put =
    let answer = answer_behind old.history step in
    let same : entry_shown place entry built ≡ answer_shown (length old.history) answer =
    ap (λ (e : Entry). entry_shown place e built) (entry_is old new step place number entry kept there)
    ∙ ap (entry_shown place answer.entry) (shown
    ∙ ap (option_map build_shown) (built_new old new step place number kept))
    ∙ ap (λ n. answer_shown n answer) kept.at in
    record {
      grown = new_history old new step place number kept;
      told = told_behind before told after (answer_shown (length old.history) answer)
          (subst (λ (what : Option EntryShown). IsTextOfEntry what told) same text) put;
    }

-- What a build gave

-- an entry that is a build, over the sources that a store has
pub built_is : (kept : Kept) (place : ℕ) (entry : Entry) (state : State) (map : List ℕ) (val given : Option (List ℕ))
    (built : BuildOutcome) → slice_get kept.history place ≡ Some entry → entry.request ≡ Build map val
    → state ≡ stored_now kept → given ≡ val → built ≡ clean_build (world_of state) map given
    → built_at kept place ≡ Some built
built_is kept place entry state map val given built there asks stored same is =
    ap (option_and_then (λ (e : Entry). built_by (stored_now kept) e.request)) there
    ∙ ap (built_by (stored_now kept)) asks
    ∙ ap Some (sym (is ∙ ap (λ s. clean_build (world_of s) map given) stored
    ∙ ap (clean_build (world_of (stored_now kept)) map) same))

-- and the page of its terms
pub terms_is : (kept : Kept) (place : ℕ) (entry : Entry) (state : State) (map : List ℕ) (val given : Option (List ℕ))
    → slice_get kept.history place ≡ Some entry → entry.request ≡ Build map val
    → state ≡ stored_now kept → given ≡ val
    → terms_at kept place ≡ option_map page_of_terms (clean_terms (world_of state) map given)
terms_is kept place entry state map val given there asks stored same =
    ap (option_and_then (λ (e : Entry). terms_for (stored_now kept) e.request)) there
    ∙ ap (terms_for (stored_now kept)) asks
    ∙ ap (option_map page_of_terms) (sym (ap (λ s. clean_terms (world_of s) map given) stored
    ∙ ap (clean_terms (world_of (stored_now kept)) map) same))

-- the pages of a build, and behind them the page of its terms, if pages of terms are wanted
pub put_is : (with_terms : Bool) (kept : Kept) (place number : ℕ) (built : BuildOutcome) (of terms : Option Html)
    → built_at kept place ≡ Some built → terms_at kept place ≡ option_map page_of_terms of
    → terms ≡ (if with_terms then of else None)
    → pages_put_by number (Some built) ++ terms_put number terms ≡ pages_put_at with_terms number kept place
put_is false kept place number built of terms is there wanted =
    ap (λ (given : Option Html). pages_put_by number (Some built) ++ terms_put number given) wanted
    ∙ append-nil (pages_put_by number (Some built))
    ∙ ap (pages_put_by number) (sym is)
put_is true kept place number built of terms is there wanted =
    ap (λ (given : Option Html). pages_put_by number (Some built) ++ terms_put number given) wanted
    ∙ sym (map-append (delivered number) (pages_built (Some built)) (option_to_list (option_map page_of_terms of)))
    ∙ ap (λ given. map (delivered number) (pages_built (Some built) ++ option_to_list given)) (sym there)
    ∙ ap (λ given. map (delivered number) (pages_built given ++ option_to_list (terms_at kept place))) (sym is)

-- the same of what was made of the sources that a store has
pub put_whole : (with_terms : Bool) (kept : Kept) (place number : ℕ) (entry : Entry) (state : State) (map : List ℕ)
    (val given : Option (List ℕ)) (built : BuildOutcome) (terms : Option Html)
    → slice_get kept.history place ≡ Some entry → entry.request ≡ Build map val
    → state ≡ stored_now kept → given ≡ val → built ≡ clean_build (world_of state) map given
    → terms ≡ (if with_terms then clean_terms (world_of state) map given else None)
    → pages_put_by number (Some built) ++ terms_put number terms ≡ pages_put_at with_terms number kept place
put_whole with_terms kept place number entry state map val given built terms there asks stored same is wanted =
    put_is with_terms kept place number built (clean_terms (world_of state) map given) terms
    (built_is kept place entry state map val given built there asks stored same is)
    (terms_is kept place entry state map val given there asks stored same) wanted

-- what is there is shown, and what is shown is there
pub some_shown : {A B C : Type 0} (f : A → C) (g : B → C) (shown : Option A) (built : Option B)
    → option_map f shown ≡ option_map g built → is_some shown ≡ is_some built
some_shown f g shown built same = sym (some_map f shown) ∙ ap is_some same ∙ some_map g built

-- a borrowed option is there where the option is
pub some_copied : {A : Type 0} (borrowed : Option (Bor A)) (value : Option A) → option_copied borrowed ≡ value
    → is_some borrowed ≡ is_some value
some_copied None value e = ap is_some e
some_copied (Some x) value e = ap is_some e
