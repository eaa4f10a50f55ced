-- How one request is put at the desk (own): what is answered, and what the pass knows then, `w`, over what it knew, `v`.
use Rattle.std.specs.Prelude.{◌≡◌, ◌≤◌, ◌++◌, ◌⊎◌, ℕ, false, List, [], ◌∷◌, Option, None, Some, All, IsSome, Result, Ok, Err, length, map, slice_get}
use Rattle.dita_doc.specs.Bytes.{Bytes}
use Rattle.dita_doc.specs.Desk.{Begun, Reply}
use Rattle.dita_doc.specs.Request.{Build, Request}
use Rattle.dita_doc.specs.declared.fact.Part.{Part}
use Rattle.dita_doc.specs.declared.fact.Part.TheVariants as parts
use Rattle.dita_doc.specs.declared.stop.Stop.{Stop}
use Rattle.dita_doc.specs.declared.stop.Stop.TheVariants as stops
use Rattle.dita_outside.specs.Links.{Messages}
use Rattle.dita_outside.specs.Pages.{Pages}
use Rattle.facts.specs.Rows.{row_data}
use Rattle.row_text.specs.RowWritten.{HasPage, with_part}
use Rattle.transcript_text.specs.Transcript.{IsContents, IsPage, OfBuild, PartShown, RowShown, Shown, entry_text, reply_shown, row_text}
use Rattle.transcript_text.specs.Written.{IsText, is_begun, text_shown}
use Rattle.transcript_text.specs.declared.built.BuiltText.{BuiltText}
use Rattle.transcript_text.specs.declared.built.BuiltText.TheVariants as texts
use Rattle.transcript_text.specs.declared.built.PageMark as marked
use Rattle.transcript_text.specs.declared.built.PageMark.TheVariants as marks
use Rattle.version_store.specs.declared.full.Full as full_declared
use Rattle.desk_lock.specs.Calls.{IsFull, Looks}
use Rattle.desk_lock.specs.Lists.{StartsWith}
use Rattle.desk_lock.specs.declared.view.View.{View}
use Rattle.desk_lock.specs.Meaning.{Meaning}
use Rattle.desk_language.specs.Language.{Language}
use Rattle.desk_work.specs.Build.{BuildOrder, EndsBuilt}
use Rattle.desk_work.specs.declared.built.BuildStop.{BuildStop}
use Rattle.desk_work.specs.declared.built.BuildStop.TheVariants as build_stops
use Rattle.desk_work.specs.declared.built.Built.{Built}
use Rattle.desk_work.specs.declared.built.Outcome.{Outcome}
use Rattle.desk_work.specs.declared.built.Outcome.TheVariants.{Done, Stopped, TooLarge}
use Rattle.desk_work.specs.declared.built.PageRow.{PageRow}
use Rattle.desk_session.specs.Answers.{CleanBuild, IsAnswered, SessionAnswer, entry_of, messages_of}
use Rattle.desk_session.specs.Pass.{basis_of}
use Rattle.desk_session.specs.declared.answer.Answer.{Answer}

-- The pass

-- it has these places more, and no others; what it saw and knew, it sees and knows still
pub record GoesOn (v w : View) (places : List ℕ) : Type 0 where
  pub mine : w.mine ≡ v.mine ++ places
  pub seen : StartsWith w.seen v.seen
  pub known : StartsWith w.rows v.rows
  pub session : w.session ≡ v.session
  pub theirs : w.theirs ≡ v.theirs
  pub parts : w.parts ≡ v.parts
  pub limits : w.limits ≡ v.limits

-- What builds show

-- a page by the serial of its row
abbrev pub page_marked : PageRow → List ℕ × marked.PageMark
page_marked page = (page.name, marks.Row page.row.serial)

abbrev pub text_of : Outcome → BuiltText
text_of (Done pages faults) = texts.Pages (map page_marked pages) faults
text_of (Stopped stop) = texts.Stopped stop
text_of (TooLarge total) = texts.TooLarge total

abbrev pub pages_of : Outcome → List PageRow
pages_of (Done pages faults) = pages
pages_of (Stopped stop) = []
pages_of (TooLarge total) = []

abbrev pub HasHtml : PageRow → Type 0
HasHtml page = IsSome (row_data page.row).fact.html

abbrev pub HasItsPage : PageRow → Type 0
HasItsPage page = HasPage (row_data page.row).fact

-- Answers at hand

-- the part that a row shows: no row of a plan is shown
abbrev pub part_seen : Part → PartShown
part_seen parts.Plan = IsContents
part_seen (parts.Page index) = IsPage index
part_seen parts.Contents = IsContents

abbrev pub row_seen : PageRow → RowShown
row_seen page = with_part (row_data page.row) (part_seen (row_data page.row).fact.key.part)

abbrev pub row_message : PageRow → Bytes
row_message page = row_text (row_seen page)

-- the text of an entry, and then those of rows
abbrev pub messages_in : Answer → Messages
messages_in answer = answer.text ∷ map row_message answer.pages

-- the text is that of an entry at this place which shows this
abbrev pub shown_at : (place session number : ℕ) → Shown → Bytes
shown_at place session number shown =
    entry_text (record { place = place; session = session; number = number; shown = shown })

-- a reply that has a text without a build: no build has begun, and bytes are UTF-8
pub record HasText (reply : Reply) : Type 0 where
  pub alone : is_begun reply ≡ false
  pub text : IsText reply

-- what is answered to a request that is no build
pub record TellsReply (place session number : ℕ) (reply : Reply) (answer : Answer) : Type 0 where
  pub shown : Shown
  pub shows : reply_shown reply None ≡ Some shown
  pub text : answer.text ≡ shown_at place session number shown
  pub pages : answer.pages ≡ []

-- what is answered to a build that gave this
pub record TellsBuilt (place session number : ℕ) (outcome : Outcome) (answer : Answer) : Type 0 where
  pub text : answer.text ≡ shown_at place session number (OfBuild (text_shown (text_of outcome)))
  pub pages : answer.pages ≡ pages_of outcome
  pub have : All HasHtml answer.pages

-- Builds

-- a build that gave this, whatever its outlet took
abbrev pub GivesBuild : Meaning → Language → View → BuildOrder → Built → View → Type 0
GivesBuild means language v order built w =
    (pages : Option Pages × Option Pages) × EndsBuilt means language v order built w pages.0 pages.1

-- the build has its place, and no more is said
pub record StandsBuilt (v : View) (order : BuildOrder) (w : View) : Type 0 where
  pub place : ℕ
  pub on : GoesOn v w (place ∷ [])
  pub behind : length v.seen ≤ place
  pub stands : slice_get w.seen place ≡ Some (record {
    session = v.session;
    number = order.number;
    request = Build order.root order.val;
    reply = Begun;
  })

abbrev pub stop_of : BuildStop → Stop full_declared.Full
stop_of build_stops.OutletFault = stops.NoMemory
stop_of build_stops.NoMemory = stops.NoMemory
stop_of (build_stops.Full full) = stops.Fault full

-- how a build ends whose outlet never fails
abbrev pub Builds : Meaning → Language → View → BuildOrder → Result Built (Stop full_declared.Full) → View → Type 0
Builds means language v order (Ok built) w = GivesBuild means language v order built w
Builds means language v order (Err (stops.Fault full)) w = IsFull v (Build order.root order.val) full w
Builds means language v order (Err stops.NoMemory) w = Looks v w ⊎ StandsBuilt v order w

-- Requests

-- the request was answered, behind all that was seen before
pub record PutsOne (clean : CleanBuild) (v : View) (number : ℕ) (request : Request) (answered : SessionAnswer) (w : View)
    : Type 0 where
  pub on : GoesOn v w (answered.place ∷ [])
  pub is : IsAnswered (basis_of clean v w) number request answered
  pub behind : length v.seen ≤ answered.place

-- the entry of the request stands, behind all that was seen before
pub record PutsAlone (clean : CleanBuild) (v : View) (number : ℕ) (request : Request) (w : View) : Type 0 where
  pub place : ℕ
  pub on : GoesOn v w (place ∷ [])
  pub stands : slice_get w.seen place ≡ Some (entry_of (basis_of clean v w) number request place)
  pub behind : length v.seen ≤ place

-- it was answered by these messages
pub record PutsAnswer (clean : CleanBuild) (v : View) (number : ℕ) (request : Request) (answer : Answer) (w : View)
    : Type 0 where
  pub answered : SessionAnswer
  pub puts : PutsOne clean v number request answered w
  pub messages : messages_in answer ≡ messages_of answered
  pub have : All HasItsPage answer.pages

-- how the desk answers; out of memory the entry may stand
abbrev pub Puts : CleanBuild → View → ℕ → Request → Result Answer (Stop full_declared.Full) → View → Type 0
Puts clean v number request (Ok answer) w = PutsAnswer clean v number request answer w
Puts clean v number request (Err (stops.Fault full)) w = IsFull v request full w
Puts clean v number request (Err stops.NoMemory) w = Looks v w ⊎ PutsAlone clean v number request w
