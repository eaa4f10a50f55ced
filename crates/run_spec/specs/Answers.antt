-- The requests of a script, answered in order on one thread: each with its entry, and a build with what it gave.
use Rattle.std.specs.Prelude.{◌+◌, ℕ, Bool, true, false, List, [], ◌∷◌, ◌++◌, Option, Some, None, length, codes, map, option_map}
use Rattle.std.specs.Fmt.{decimal}
use Rattle.std.specs.List.{flat_map}
use Rattle.std.specs.Option.{option_to_list}
use Rattle.build_spec.specs.Built.{BuildOutcome, Page, Done, Stopped, TooLarge, built_pages}
use Rattle.dita_doc.specs.Desk.{State, reply, next}
use Rattle.dita_doc.specs.History.{Entry}
use Rattle.dita_doc.specs.Request.{Request, Single, Get, Names, Build, Group}
use Rattle.dita_doc.specs.declared.fact.Html.{Html}
use Rattle.html_spec.specs.Terms.{terms_name}
use Rattle.part_spec.specs.Parts.{clean_build, clean_terms}
use Rattle.reader_spec.specs.World.{world_of}
use Rattle.script_text.specs.Script.{Step}
use Rattle.transcript_text.specs.Transcript.{BuildShown, PageShown, BuiltPages, StoppedBy, PagesTooLarge, InOutlet, EntryShown, Transcript, entry_shown, fault_shown}

-- what a request builds over what is stored, if it is a build
abbrev pub built_by : State → Request → Option BuildOutcome
built_by state (Single edit) = None
built_by state (Get name) = None
built_by state Names = None
built_by state (Build root val) = Some (clean_build (world_of state) root val)
built_by state (Group edits) = None

-- the page of terms, under its name
abbrev pub page_of_terms : Html → Page
page_of_terms html = (terms_name, html.bytes)

-- the page of terms of what a request builds, if it is a build and has terms
abbrev pub terms_for : State → Request → Option Page
terms_for state (Single edit) = None
terms_for state (Get name) = None
terms_for state Names = None
terms_for state (Build root val) = option_map page_of_terms (clean_terms (world_of state) root val)
terms_for state (Group edits) = None

-- an entry, what it built, and the page of its terms
pub record Answer : Type 0 where
  pub entry : Entry
  pub built : Option BuildOutcome
  pub terms : Option Page

-- the answer to the request of a number at a place
abbrev pub answer_at : State → ℕ → ℕ → Step → Answer
answer_at state place number step = record {
  entry = record {
    session = step.session;
    number = number;
    request = step.request;
    reply =
        reply state place step.request;
  };
  built = built_by state step.request;
  terms = terms_for state step.request;
}

-- the answers to requests in order, from this state and place on; a request has the number of its place and 1
abbrev pub answers_from : State → ℕ → List Step → List Answer
answers_from state place [] = []
answers_from state place (step ∷ steps) =
    answer_at state place (place + 1) step ∷ answers_from (next state place step.request) (place + 1) steps

-- the answers to the steps of a script, from a desk with nothing stored
abbrev pub answers_to : List Step → List Answer
answers_to steps = answers_from [] 0 steps

-- What is shown of them

-- a page that was put into the outlet
abbrev pub page_put : Page → PageShown
page_put page = record { name = page.0; mark = InOutlet (length page.1) }

abbrev pub build_shown : BuildOutcome → BuildShown
build_shown (Done pages faults) = BuiltPages (map page_put pages) (map fault_shown faults)
build_shown (Stopped stop) = StoppedBy stop
build_shown (TooLarge total) = PagesTooLarge total

-- the answer at a place: the answers to steps are shown each
abbrev pub answer_shown : ℕ → Answer → Option EntryShown
answer_shown place answer = entry_shown place answer.entry (option_map build_shown answer.built)

abbrev pub before_shown : Option EntryShown → List EntryShown → List EntryShown
before_shown None entries = entries
before_shown (Some entry) entries = entry ∷ entries

abbrev pub answers_shown : ℕ → List Answer → List EntryShown
answers_shown place [] = []
answers_shown place (answer ∷ answers) = before_shown (answer_shown place answer) (answers_shown (place + 1) answers)

-- the transcript of a run without rows
abbrev pub transcript_of : List Answer → Transcript
transcript_of answers = record {
  entries = answers_shown 0 answers;
  rows = [];
  totals = record { entries = length answers; made = 0; dropped = 0 };
}

-- The pages

-- a page under the folder of its request's number
abbrev pub delivered : ℕ → Page → Page
delivered number page = (codes "b" ++ decimal number ++ codes "/" ++ page.0, page.1)

abbrev pub pages_built : Option BuildOutcome → List Page
pages_built None = []
pages_built (Some built) = built_pages built

-- behind them, if the run wants it, the page of terms
abbrev pub pages_wanted : Bool → Option BuildOutcome → Option Page → List Page
pages_wanted false built terms = pages_built built
pages_wanted true built terms = pages_built built ++ option_to_list terms

abbrev pub pages_of_answer : Bool → Answer → List Page
pages_of_answer with_terms answer =
    map (delivered answer.entry.number) (pages_wanted with_terms answer.built answer.terms)

-- the pages of all builds, in order
abbrev pub pages_of_answers : Bool → List Answer → List Page
pages_of_answers with_terms answers = flat_map (pages_of_answer with_terms) answers

-- One history

abbrev pub entry_of : Answer → Entry
entry_of answer = answer.entry

-- the history of the answers to some steps
abbrev pub history_of : List Step → List Entry
history_of steps = map entry_of (answers_to steps)
