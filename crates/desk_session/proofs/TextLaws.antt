-- The text of an entry, and what it shows.
use Rattle.std.proofs.Common.{◌≡◌, ◌∙◌, ℕ, List, [], Option, Some, None, ap, option_map, subst, sym}
use Rattle.dita_doc.specs.Bytes.{Bytes}
use Rattle.dita_doc.specs.Desk.{Begun, Reply}
use Rattle.dita_doc.specs.History.{Entry}
use Rattle.transcript_text.specs.Transcript.{BuildShown, OfBuild, Shown, entry_shown, entry_text, entry_with, reply_shown}
use Rattle.transcript_text.specs.Written.{IsTextOfEntry}
use Rattle.desk_work.specs.declared.built.PageRow.{PageRow}
use Rattle.desk_session.specs.Asking.{TellsReply, shown_at}

module _ (place session number : ℕ) (entry : Entry) (of : entry.session ≡ session) (numbered : entry.number ≡ number) where
  at_once : (shown : Shown) → entry_text (entry_with place entry shown) ≡ shown_at place session number shown
  at_once shown = λ i. entry_text (record { place = place; session = of i; number = numbered i; shown = shown })

  tells_by : (reply : Reply) (found : Option Shown) (text : Bytes) (pages : List PageRow) → reply_shown reply None ≡ found
      → IsTextOfEntry (option_map (entry_with place entry) found) text → pages ≡ []
      → TellsReply place session number reply (record { text = text; pages = pages })
  tells_by reply None text pages is told none = absurd told
  tells_by reply (Some shown) text pages is told none = record {
    shown = shown;
    shows = is;
    text = told.1 ∙ at_once shown;
    pages = none;
  }

  built_by : (built : BuildShown) (text : Bytes) → entry.reply ≡ Begun
      → IsTextOfEntry (entry_shown place entry (Some built)) text → text ≡ shown_at place session number (OfBuild built)
  built_by built text begun told =
      let here = subst (λ (reply : Reply). IsTextOfEntry (option_map (entry_with place entry) (reply_shown reply (Some built))) text)
      begun told in here.1 ∙ at_once (OfBuild built)

pub tells_reply : (place session number : ℕ) (reply : Reply) (entry : Entry) (text : Bytes) (pages : List PageRow)
    → entry.reply ≡ reply → entry.session ≡ session → entry.number ≡ number
    → IsTextOfEntry (entry_shown place entry None) text → pages ≡ []
    → TellsReply place session number reply (record { text = text; pages = pages })
tells_reply place session number reply entry text pages same of numbered told none =
    tells_by place session number entry of numbered reply (reply_shown entry.reply None) text pages
    (ap (λ (one : Reply). reply_shown one None) (sym same)) told none

pub built_text : (place session number : ℕ) (built : BuildShown) (entry : Entry) (text : Bytes) → entry.reply ≡ Begun
    → entry.session ≡ session → entry.number ≡ number → IsTextOfEntry (entry_shown place entry (Some built)) text
    → text ≡ shown_at place session number (OfBuild built)
built_text place session number built entry text begun of numbered told =
    built_by place session number entry of numbered built text begun told
