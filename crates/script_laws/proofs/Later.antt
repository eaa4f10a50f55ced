-- What is read of requests is read again of all that goes on from there: the whole requests are the first ones, and
-- once a line is faulty nothing more is read.
use Rattle.std.specs.Prelude.{◌≡◌, ◌+◌, ◌==◌, ◌++◌, ℕ, Bool, true, false, List, [], ◌∷◌, Option, Some, None, Result, Ok, Err, if◌then◌else◌}
use Rattle.std.proofs.Common.{refl, sym, ap, ◌∙◌, subst, append_assoc}
use Rattle.std.proofs.lemmas.Option.{none-some}
use Rattle.dita_doc.specs.Bytes.{Bytes, line_feed}
use Rattle.dita_doc.specs.Request.{Request}
use Rattle.script_text.specs.Script.{Begun, Turn, turn}
use Rattle.script_text.specs.declared.fault.ScriptCode.{ScriptCode}
use Rattle.script_text.specs.Requests.{RequestsRead, behind, ended_from, read_lines, request_in, request_line, requests_of}
use Rattle.script_laws.specs.Follows.{Follows}

-- Lines

follows_behind : (first : List Request) (some more : RequestsRead) → Follows some more
    → Follows (behind first some) (behind first more)
follows_behind first some more follows = record {
  rest = follows.rest;
  first = ap (λ (requests : List Request). first ++ requests) follows.first
      ∙ sym (append_assoc first some.requests follows.rest);
  stays = λ fault is. ap (λ (read : RequestsRead). behind first read) (follows.stays fault is);
}

abbrev after_turn : ℕ → Result Turn ScriptCode → List Bytes → RequestsRead
after_turn number found lines = elim found [
  | Ok next ↦ behind (request_in next.step) (read_lines (number + 1) next.begun lines)
  | Err code ↦ record { requests = []; fault = Some (record { code = code; line = number + 1 }) }
]

turn_follows : (number : ℕ) (found : Result Turn ScriptCode) (lines more : List Bytes)
    → ((begun : Option Begun)
    → Follows (read_lines (number + 1) begun lines) (read_lines (number + 1) begun (lines ++ more)))
    → Follows (after_turn number found lines) (after_turn number found (lines ++ more))
turn_follows number (Ok next) lines more step =
    follows_behind (request_in next.step) (read_lines (number + 1) next.begun lines)
    (read_lines (number + 1) next.begun (lines ++ more)) (step next.begun)
turn_follows number (Err code) lines more step = record { rest = []; first = refl; stays = λ fault is. refl }

lines_follow : (lines more : List Bytes) (number : ℕ) (begun : Option Begun)
    → Follows (read_lines number begun lines) (read_lines number begun (lines ++ more))
lines_follow [] more number begun = record {
  rest = (read_lines number begun more).requests;
  first = refl;
  stays = λ fault is. absurd (none-some fault is);
}
lines_follow (line ∷ lines) more number begun =
    turn_follows number (turn request_line 0 begun line) lines more
    (λ next. lines_follow lines more (number + 1) next)

-- Bytes

-- the lines that are ended in more bytes begin with those that are ended in the first of them
abbrev HasMore : Bytes → Bytes → Bytes → Type 0
HasMore line text rest = (more : List Bytes) × (ended_from line (text ++ rest) ≡ ended_from line text ++ more)

abbrev ended_by : Bool → Bytes → ℕ → Bytes → List Bytes
ended_by feed line b bytes = if feed then line ∷ ended_from [] bytes else ended_from (line ++ b ∷ []) bytes

more_by : (feed : Bool) (line : Bytes) (b : ℕ) (text rest : Bytes) → ((before : Bytes) → HasMore before text rest)
    → (more : List Bytes) × (ended_by feed line b (text ++ rest) ≡ ended_by feed line b text ++ more)
more_by true line b text rest step =
    let found : HasMore [] text rest = step [] in
    (found.0, ap (λ (lines : List Bytes). line ∷ lines) found.1)
more_by false line b text rest step = step (line ++ b ∷ [])

more_lines : (text rest line : Bytes) → HasMore line text rest
more_lines [] rest line = (ended_from line rest, refl)
more_lines (b ∷ text) rest line =
    more_by (b == line_feed) line b text rest (λ before. more_lines text rest before)

pub requests_follow : (text rest : Bytes) → Follows (requests_of text) (requests_of (text ++ rest))
unfolding requests_of
requests_follow text rest =
    let found : HasMore [] text rest = more_lines text rest [] in
    subst (λ (lines : List Bytes). Follows (read_lines 0 None (ended_from [] text)) (read_lines 0 None lines))
    (sym found.1)
    (lines_follow (ended_from [] text) found.0 0 None)
