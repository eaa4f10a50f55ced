-- What a run asks of its store, and what an answer changes.
use Rattle.std.specs.Prelude.{◌≡◌, ◌+◌, ◌≤◌, ◌++◌, List, [], ◌∷◌, Option, Some, None, length}
use Rattle.std.specs.List.{All}
use Rattle.dita_doc.specs.Bytes.{Bytes}
use Rattle.dita_doc.specs.History.{Entry, history_size, sources}
use Rattle.dita_doc.specs.Request.{HasFewEdits, IsUtf8Request, text_size}
use Rattle.run_spec.specs.Answers.{Answer, answer_at, answer_shown}
use Rattle.script_text.specs.Facts.{IsUtf8Step}
use Rattle.script_text.specs.Script.{Step, script_limit, request_limit}
use Rattle.transcript_text.specs.Transcript.{EntryShown, IsEntryShown, entry_text}
use Rattle.version_store.specs.Kept.{Kept}

abbrev pub IsUtf8Entry : Entry → Type 0
IsUtf8Entry entry = IsUtf8Request entry.request

-- a history of UTF-8 alone that has room for one request more, which is of UTF-8 too and has no more edits than a group
-- may have
pub record HasRoom (history : List Entry) (step : Step) : Type 0 where
  pub few : length history + 1 ≤ request_limit
  pub edits : HasFewEdits step.request
  pub size : history_size history + text_size step.request ≤ script_limit
  pub utf8 : All IsUtf8Entry history
  pub this : IsUtf8Step step

-- the limits of a store are those of a desk
pub record IsOfDesk (kept : Kept) : Type 0 where
  pub entries : kept.entry_limit ≡ request_limit
  pub text : kept.text_limit ≡ script_limit

-- the answer to a step behind a history
abbrev pub answer_behind : List Entry → Step → Answer
answer_behind history step = answer_at (sources history (length history)) (length history) (length history + 1) step

-- the entry as it is shown stands behind the text, and is in the form of transcripts
abbrev pub TellsBehind : Bytes → Bytes → Option EntryShown → Type 0
TellsBehind before after None = ⊥
TellsBehind before after (Some entry) = IsEntryShown entry × (after ≡ before ++ entry_text entry)

-- a step was answered: its entry stands behind the history, and is shown behind the text
pub record Answers (history later : List Entry) (step : Step) (before after : Bytes) : Type 0 where
  pub grown : later ≡ history ++ (answer_behind history step).entry ∷ []
  pub told : TellsBehind before after (answer_shown (length history) (answer_behind history step))
