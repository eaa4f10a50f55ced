-- Requests, one line after the other.
use Rattle.std.proofs.Common.{◌≡◌, ◌+◌, ◌==◌, ℕ, Bool, true, false, if◌then◌else◌, List, [], ◌∷◌, ◌++◌, Option, Some, None, Result, Ok, Err, IfOk, IfSome, All, refl, sym, ap, ◌∙◌, subst, arith, append_assoc, append-nil}
use Rattle.std.specs.List.{list_any}
use Rattle.std.specs.Str.{is_utf8, IsUtf8}
use Rattle.std.proofs.lemmas.Bool.{or_parts, cond_both}
use Rattle.std.proofs.lemmas.List.Elements.{All-nil, All-cons, All-append}
use Rattle.dita_doc.specs.Bytes.{Bytes, spaced_words}
use Rattle.dita_doc.specs.Cut.{Lacks}
use Rattle.dita_doc.specs.Request.{Request, HasFewEdits, IsUtf8Request}
use Rattle.script_text.specs.Script.{Begun, Command, Step, Turn, is_passed, command_of, turn}
use Rattle.script_text.specs.Requests.{RequestsRead, request_line, asked_alone, ended_from, request_in, behind, read_lines, requests_of}
use Rattle.script_text.specs.declared.fault.ScriptCode.{ScriptCode}
use Rattle.script_text.specs.declared.fault.ScriptFault.{ScriptFault}
use Rattle.script_text.proofs.TextLaws.{IsFrom, command_from, texts_of}
use Rattle.script_text.proofs.ScriptTurns.{IsAsked, AsksFrom, IsSound, IsEnd, IsGoing, TurnBy, IsTurn, pending_texts, turn_is}
use Rattle.script_text.proofs.ScriptLaws.{more_utf8, turned_utf8, request_utf8}

-- what was read, by its parts
abbrev pub read_of : List Request → Option ScriptFault → RequestsRead
read_of requests fault = record { requests = requests; fault = fault }

-- Lines

-- what a line leads to, and the lines behind it
abbrev led : ℕ → List Bytes → Result Turn ScriptCode → RequestsRead
led number lines (Ok next) = behind (request_in next.step) (read_lines (number + 1) next.begun lines)
led number lines (Err code) = read_of [] (Some (record { code = code; line = number + 1 }))

read_led : (number : ℕ) (begun : Option Begun) (line : Bytes) (lines : List Bytes)
    → read_lines number begun (line ∷ lines) ≡ led number lines (turn request_line 0 begun line)
read_led number begun line lines = refl

behind_behind : (front more : List Request) (read : RequestsRead)
    → behind front (behind more read) ≡ behind (front ++ more) read
behind_behind front more read =
    ap (λ (requests : List Request). read_of requests read.fault) (sym (append_assoc front more read.requests))

-- all that is read behind a text, whatever follows
abbrev pub ReadsOn : Bytes → List Request → ℕ → Option Begun → Bytes → Type 0
ReadsOn text front number begun line =
    (rest : Bytes) → requests_of (text ++ rest) ≡ behind front (read_lines number begun (ended_from line rest))

-- a text with nothing behind it
pub reads_here : (text : Bytes) (front : List Request) (number : ℕ) (begun : Option Begun) (line : Bytes)
    → ReadsOn text front number begun line → requests_of text ≡ read_of front None
reads_here text front number begun line same =
    ap requests_of (sym (append-nil text))
    ∙ same []
    ∙ ap (λ (requests : List Request). read_of requests None) (append-nil front)

-- bytes without LF belong to the line at hand
ended_more : (line more rest : Bytes) → Lacks 10 more → ended_from line (more ++ rest) ≡ ended_from (line ++ more) rest
ended_more line [] rest lacks = ap (λ (l : Bytes). ended_from l rest) (sym (append-nil line))
ended_more line (b ∷ more) rest lacks =
    let parts = or_parts (b == 10) (list_any (λ c. c == 10) more) lacks in
    ap (λ (test : Bool). if test then line ∷ ended_from [] (more ++ rest) else ended_from (line ++ b ∷ []) (more ++ rest))
    parts.0
    ∙ ended_more (line ++ b ∷ []) more rest parts.1
    ∙ ap (λ (l : Bytes). ended_from l rest) (append_assoc line (b ∷ []) more)

pub reads_more : (text more front : Bytes) (requests : List Request) (number : ℕ) (begun : Option Begun)
    (line : Bytes) → Lacks 10 more → line ≡ front ++ more → ReadsOn text requests number begun front
    → ReadsOn (text ++ more) requests number begun line
reads_more text more front requests number begun line lacks is same rest =
    ap requests_of (append_assoc text more rest)
    ∙ same (more ++ rest)
    ∙ ap (λ (lines : List Bytes). behind requests (read_lines number begun lines)) (ended_more front more rest lacks)
    ∙ ap (λ (l : Bytes). behind requests (read_lines number begun (ended_from l rest))) (sym is)

-- a line is ended
pub reads_line : (text : Bytes) (requests : List Request) (number : ℕ) (begun : Option Begun) (line : Bytes)
    (next : Turn) → turn request_line 0 begun line ≡ Ok next → ReadsOn text requests number begun line
    → ReadsOn (text ++ 10 ∷ []) (requests ++ request_in next.step) (number + 1) next.begun []
reads_line text requests number begun line next is same rest =
    ap requests_of (append_assoc text (10 ∷ []) rest)
    ∙ same (10 ∷ rest)
    ∙ ap (λ (turned : Result Turn ScriptCode). behind requests (led number (ended_from [] rest) turned)) is
    ∙ behind_behind requests (request_in next.step) (read_lines (number + 1) next.begun (ended_from [] rest))

pub reads_fault : (text : Bytes) (requests : List Request) (number : ℕ) (begun : Option Begun) (line : Bytes)
    (code : ScriptCode) → turn request_line 0 begun line ≡ Err code → ReadsOn text requests number begun line
    → (rest : Bytes) → requests_of ((text ++ 10 ∷ []) ++ rest)
    ≡ read_of requests (Some (record { code = code; line = number + 1 }))
reads_fault text requests number begun line code is same rest =
    ap requests_of (append_assoc text (10 ∷ []) rest)
    ∙ same (10 ∷ rest)
    ∙ ap (λ (turned : Result Turn ScriptCode). behind requests (led number (ended_from [] rest) turned)) is
    ∙ ap (λ (all : List Request). read_of all (Some (record { code = code; line = number + 1 }))) (append-nil requests)

pub reads_nothing : ReadsOn [] [] 0 None []
unfolding requests_of
reads_nothing rest = refl

-- Requests that a desk takes

-- a group has few edits, and names and bodies are UTF-8
pub record IsFine (request : Request) : Type 0 where
  pub few : HasFewEdits request
  pub utf8 : IsUtf8Request request

-- a session over a link has no number
abbrev IsAny : ℕ → Type 0
IsAny session = Unit {0}

alone_asks : (line : Bytes) (command : Result Command ScriptCode) → IfOk command (IsFrom (spaced_words line))
    → AsksFrom IsAny 0 line (asked_alone command)
alone_asks line (Ok command) from = record { from = from; numbered = tt; room = omega arith }
alone_asks line (Err code) from = tt

line_asks : (line : Bytes) → AsksFrom IsAny 0 line (request_line 0 line)
line_asks line =
    cond_both (is_passed line) (Ok None) (asked_alone (command_of (spaced_words line))) (AsksFrom IsAny 0 line)
    (λ e. tt) (λ e. alone_asks line (command_of (spaced_words line)) (command_from (spaced_words line)))

-- what is begun keeps within the limits, and is UTF-8
record IsKept (begun : Option Begun) : Type 0 where
  sound : IsSound IsAny 0 begun
  utf8 : All IsUtf8 (pending_texts begun)

none_kept : IsKept None
none_kept = record { sound = omega arith; utf8 = All-nil IsUtf8 }

module _ (number : ℕ) (lines : List Bytes)
    (fine : (begun : Option Begun) → IsKept begun → All IsFine (read_lines (number + 1) begun lines).requests) where
  by_turn : (before : Option Begun) (line : Bytes) (step : Option Step) (after : Option Begun) → is_utf8 line ≡ true
      → IsKept before → TurnBy IsAny 0 before line step after
      → All IsFine (request_in step ++ (read_lines (number + 1) after lines).requests)
  by_turn before line None after utf8 kept is =
      fine after (record {
        sound = is.sound kept.sound;
        utf8 = turned_utf8 line (pending_texts before) (pending_texts after) utf8 is.texts kept.utf8;
      })
  by_turn before line (Some step) None utf8 kept is =
      let texts = more_utf8 line (pending_texts before) (texts_of step.request) utf8 is.texts kept.utf8 in
      let fit = is.fit kept.sound in
      let one : IsFine step.request = record { few = fit.few; utf8 = request_utf8 step.request texts } in
      All-cons IsFine step.request (read_lines (number + 1) None lines).requests one (fine None none_kept)
  by_turn before line (Some step) (Some after) utf8 kept is = absurd is

  by_line : (before : Option Begun) (line : Bytes) (turned : Result Turn ScriptCode) → IsKept before
      → IfOk turned (λ next. (is_utf8 line ≡ true) × IsTurn IsAny 0 before line next)
      → All IsFine (led number lines turned).requests
  by_line before line (Ok next) kept is = by_turn before line next.step next.begun is.0 kept is.1
  by_line before line (Err code) kept is = All-nil IsFine

fine_lines : (number : ℕ) (begun : Option Begun) (lines : List Bytes) → IsKept begun
    → All IsFine (read_lines number begun lines).requests
fine_lines number begun [] kept = All-nil IsFine
fine_lines number begun (line ∷ lines) kept =
    by_line number lines (λ after. fine_lines (number + 1) after lines) begun line (turn request_line 0 begun line) kept
    (turn_is IsAny 0 line request_line (line_asks line) begun)

-- so is each request that is read
pub fine_requests : (text : Bytes) → All IsFine (requests_of text).requests
unfolding requests_of
fine_requests text = fine_lines 0 None (ended_from [] text) none_kept
