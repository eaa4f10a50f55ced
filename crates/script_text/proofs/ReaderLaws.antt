-- What a machine stands for behind bytes of a line, and behind its end.
use Rattle.std.proofs.Common.{◌≡◌, ◌+◌, ◌<◌, ℕ, List, [], ◌∷◌, ◌++◌, Option, Some, None, Result, Ok, Err, All, IfOk, IfSome, OnOk, is_ok, if◌then◌else◌, min, map, option_map, refl, sym, ap, ◌∙◌, subst, arith, append_assoc, append-nil}
use Rattle.std.specs.declared.alloc.AllocError.{AllocError}
use Rattle.std.proofs.lemmas.List.{map-append}
use Rattle.std.proofs.lemmas.List.Elements.{All-nil, All-cons, All-head, All-tail, All-append}
use Rattle.dita_doc.specs.Bytes.{Bytes}
use Rattle.dita_doc.specs.Cut.{Lacks, IsCutAt}
use Rattle.dita_doc.specs.Request.{Request}
use Rattle.dita_doc.specs.Seen.{HasOwnOrigin, request_seen}
use Rattle.dita_doc.specs.declared.request.Request as given
use Rattle.dita_doc.specs.declared.stop.Stop.{Stop}
use Rattle.dita_doc.specs.declared.stop.Stop.TheVariants.{Fault, NoMemory}
use Rattle.script_text.specs.Machine.{pending_seen, ended_seen, turned_seen}
use Rattle.script_text.specs.Pieces.{IsTaken}
use Rattle.script_text.specs.Reader.{IsAt, IsBehind, IsFaultBehind, IsTold, Stays, HasReadTo, last_number, request_in_seen}
use Rattle.script_text.specs.Requests.{RequestsRead, behind, ended_from, read_lines, request_in, request_line, requests_of}
use Rattle.script_text.specs.Script.{turn}
use Rattle.script_text.specs.declared.fault.ScriptCode.{ScriptCode}
use Rattle.script_text.specs.declared.fault.ScriptFault.{ScriptFault}
use Rattle.script_text.specs.declared.machine.ScriptMachine.{ScriptMachine}
use Rattle.script_text.specs.declared.request_machine.RequestMachine.{RequestMachine}
use Rattle.script_text.specs.declared.turn.Begun.{Begun}
use Rattle.script_text.proofs.RequestLaws.{ReadsOn, read_of, reads_here, reads_more, reads_line, reads_fault, reads_nothing, IsFine, fine_requests}

-- the machine stands for a longer text, by all that is read behind it
is_behind : (machine : RequestMachine) (text longer : Bytes) (more : List Request) (lines : ℕ)
    → machine.number ≡ min lines last_number
    → ReadsOn longer ((requests_of text).requests ++ more) lines (pending_seen machine.machine.begun) machine.line.items
    → IsBehind machine text longer more
is_behind machine text longer more lines counted same =
    let front = (requests_of text).requests ++ more in
    let begun = pending_seen machine.machine.begun in
    let line = machine.line.items in
    let all : (requests_of longer).requests ≡ front =
    ap (λ (read : RequestsRead). read.requests) (reads_here longer front lines begun line same) in
    record {
      at = record {
        lines = lines;
        counted = counted;
        same = λ rest.
            same rest
            ∙ ap (λ (f : List Request). behind f (read_lines lines begun (ended_from line rest))) (sym all);
      };
      requests = all;
    }

-- a new machine
pub at_nothing : (machine : RequestMachine) → machine.number ≡ 0 → machine.machine.begun ≡ None
    → machine.line.items ≡ [] → IsAt machine []
at_nothing machine number begun line =
    let none : requests_of [] ≡ read_of [] None = reads_here [] [] 0 None [] reads_nothing in
    record {
      lines = 0;
      counted = number;
      same = λ rest.
          reads_nothing rest
          ∙ ap (λ (l : Bytes). behind [] (read_lines 0 None (ended_from l rest))) (sym line)
          ∙ ap (λ (b : Option Begun). behind [] (read_lines 0 (pending_seen b) (ended_from machine.line.items rest)))
          (sym begun)
          ∙ ap (λ (read : RequestsRead). behind read.requests
          (read_lines 0 (pending_seen machine.machine.begun) (ended_from machine.line.items rest))) (sym none);
    }

-- bytes that were appended, if there was memory
pub added_ok : (result : Result (Unit {0}) AllocError) (items old bytes : Bytes) (P : Type 0)
    → items ≡ (if is_ok result then old ++ bytes else old) → (items ≡ old ++ bytes → P) → OnOk result P
added_ok (Ok done) items old bytes P is if_so = if_so is
added_ok (Err error) items old bytes P is if_so = tt

-- bytes of the line at hand
pub add_behind : (old new : RequestMachine) (text bytes : Bytes) → IsAt old text → Lacks 10 bytes
    → new.machine ≡ old.machine → new.number ≡ old.number → new.line.items ≡ old.line.items ++ bytes
    → IsBehind new text (text ++ bytes) []
add_behind old new text bytes at lacks machine number line =
    let begun = pending_seen old.machine.begun in
    let front = (requests_of text).requests in
    let same : ReadsOn (text ++ bytes) front at.lines begun new.line.items =
    reads_more text bytes old.line.items front at.lines begun new.line.items lacks line at.same in
    let here : ReadsOn (text ++ bytes) (front ++ []) at.lines (pending_seen new.machine.begun) new.line.items =
    subst (λ (m : ScriptMachine). ReadsOn (text ++ bytes) (front ++ []) at.lines (pending_seen m.begun) new.line.items)
    (sym machine)
    (subst (λ (f : List Request). ReadsOn (text ++ bytes) f at.lines begun new.line.items) (sym (append-nil front)) same)
    in
    is_behind new text (text ++ bytes) [] at.lines (number ∙ at.counted) here

-- the step that a line ended, as a request
request_ended : (step : Option (ℕ × given.Request))
    → request_in (ended_seen step) ≡ request_in_seen (option_map (λ (s : ℕ × given.Request). s.1) step)
request_ended None = refl
request_ended (Some step) = refl

-- the line at hand is ended
pub end_behind : (old new : RequestMachine) (text : Bytes) (step : Option (ℕ × given.Request))
    (request : Option given.Request) → IsAt old text
    → turn request_line 0 (pending_seen old.machine.begun) old.line.items ≡ Ok (turned_seen new.machine.begun step)
    → new.number ≡ min (old.number + 1) last_number → new.line.items ≡ []
    → request ≡ option_map (λ (s : ℕ × given.Request). s.1) step
    → IsBehind new text (text ++ 10 ∷ []) (request_in_seen request)
end_behind old new text step request at turned number line is =
    let front = (requests_of text).requests in
    let begun = pending_seen old.machine.begun in
    let next = turned_seen new.machine.begun step in
    let more : request_in (ended_seen step) ≡ request_in_seen request =
    request_ended step ∙ ap request_in_seen (sym is) in
    let same : ReadsOn (text ++ 10 ∷ []) (front ++ request_in (ended_seen step)) (at.lines + 1)
    (pending_seen new.machine.begun) [] =
    reads_line text front at.lines begun old.line.items next turned at.same in
    let here : ReadsOn (text ++ 10 ∷ []) (front ++ request_in_seen request) (at.lines + 1)
    (pending_seen new.machine.begun) new.line.items =
    subst (λ (l : Bytes). ReadsOn (text ++ 10 ∷ []) (front ++ request_in_seen request) (at.lines + 1)
    (pending_seen new.machine.begun) l) (sym line)
    (subst (λ (m : List Request). ReadsOn (text ++ 10 ∷ []) (front ++ m) (at.lines + 1)
    (pending_seen new.machine.begun) []) more same)
    in
    is_behind new text (text ++ 10 ∷ []) (request_in_seen request) (at.lines + 1) (omega (arith, at.counted, number))
    here

-- the line at hand is faulty
pub end_told : (machine : RequestMachine) (text : Bytes) (code : ScriptCode) (stop : Stop ScriptFault) → IsAt machine text
    → turn request_line 0 (pending_seen machine.machine.begun) machine.line.items ≡ Err code
    → IsFaultBehind code machine.number stop → IsTold stop text (text ++ 10 ∷ [])
end_told machine text code (Fault fault) at turned told = λ rest.
    let front = (requests_of text).requests in
    let begun = pending_seen machine.machine.begun in
    let number : at.lines ≡ machine.number = omega (arith, at.counted, told.1) in
    let same : record { code = code; line = at.lines + 1 } ≡ fault =
    ap (λ n. let f : ScriptFault = record { code = code; line = n + 1 } in f) number ∙ sym told.0 in
    reads_fault text front at.lines begun machine.line.items code turned at.same rest
    ∙ ap (λ (f : ScriptFault). read_of front (Some f)) same
end_told machine text code NoMemory at turned told = tt

-- Requests that were taken

all_behind : {A : Type 0} (P : A → Type 0) (front more : List A) → All P (front ++ more) → All P more
all_behind P [] more all = all
all_behind P (x ∷ front) more all = all_behind P front more (All-tail P x (front ++ more) all)

-- a request that the longer text has more
pub one_taken : (machine : RequestMachine) (text longer : Bytes) (request : Option given.Request)
    → IsBehind machine text longer (request_in_seen request) → IfSome request HasOwnOrigin → IfSome request IsTaken
one_taken machine text longer None is own = tt
one_taken machine text longer (Some request) is own =
    let all : All IsFine ((requests_of text).requests ++ request_seen request ∷ []) =
    subst (All IsFine) is.requests (fine_requests longer) in
    let fine = All-head IsFine (request_seen request) []
    (all_behind IsFine (requests_of text).requests (request_seen request ∷ []) all) in
    record { own = own; few = fine.few; utf8 = fine.utf8 }

-- the request of a step is the one that it stores
pub own_step : (step : Option (ℕ × given.Request)) (request : Option given.Request)
    → request ≡ option_map (λ (s : ℕ × given.Request). s.1) step
    → IfSome step (λ (s : ℕ × given.Request). HasOwnOrigin s.1) → IfSome request HasOwnOrigin
own_step None request is own = subst (λ (r : Option given.Request). IfSome r HasOwnOrigin) (sym is) tt
own_step (Some step) request is own = subst (λ (r : Option given.Request). IfSome r HasOwnOrigin) (sym is) own

-- Pieces

-- a longer text behind a longer one
behind_more : (first second : RequestMachine) (text longer longest all : Bytes) (more last : List Request)
    → longest ≡ all → IsBehind first text longer more → IsBehind second longer longest last
    → IsBehind second text all (more ++ last)
behind_more first second text longer longest all more last is one two =
    subst (λ (bytes : Bytes). IsBehind second text bytes (more ++ last)) is (record {
      at = two.at;
      requests =
          two.requests
          ∙ ap (λ (front : List Request). front ++ last) one.requests
          ∙ append_assoc (requests_of text).requests more last;
    })

pub same_more : (machine : RequestMachine) (text longer : Bytes) (more other : List Request) → more ≡ other
    → IsBehind machine text longer more → IsBehind machine text longer other
same_more machine text longer more other is behind = subst (λ (m : List Request). IsBehind machine text longer m) is behind

-- a line of a piece, which is cut off what is left of it
pub line_of_piece : (done line more rest piece : Bytes) → done ++ rest ≡ piece → IsCutAt 10 rest line more
    → (done ++ (line ++ 10 ∷ [])) ++ more ≡ piece
line_of_piece done line more rest piece whole cut =
    append_assoc done (line ++ 10 ∷ []) more
    ∙ ap (λ (bytes : Bytes). done ++ bytes) (append_assoc line (10 ∷ []) more ∙ sym cut.whole)
    ∙ whole

-- a text, what is done of a piece, and a line of it
line_behind : (text done line : Bytes) → ((text ++ done) ++ line) ++ 10 ∷ [] ≡ text ++ (done ++ (line ++ 10 ∷ []))
line_behind text done line =
    append_assoc (text ++ done) line (10 ∷ []) ∙ append_assoc text done (line ++ 10 ∷ [])

module _ (first second : RequestMachine) (text done : Bytes) (requests : List given.Request)
    (before : IsBehind first text (text ++ done) (map request_seen requests)) where
  -- the line at hand grew by bytes of the piece
  pub piece_added : (bytes : Bytes) → IsBehind second (text ++ done) ((text ++ done) ++ bytes) []
      → IsBehind second text ((text ++ done) ++ bytes) (map request_seen requests)
  piece_added bytes added =
      let seen = map request_seen requests in
      same_more second text ((text ++ done) ++ bytes) (seen ++ []) seen (append-nil seen)
      (behind_more first second text (text ++ done) ((text ++ done) ++ bytes) ((text ++ done) ++ bytes) seen [] refl
      before added)

  -- it grew by the last bytes
  pub piece_ends : (rest piece : Bytes) → done ++ rest ≡ piece
      → IsBehind second (text ++ done) ((text ++ done) ++ rest) []
      → IsBehind second text (text ++ piece) (map request_seen requests)
  piece_ends rest piece whole added =
      let all : (text ++ done) ++ rest ≡ text ++ piece =
      append_assoc text done rest ∙ ap (λ (bytes : Bytes). text ++ bytes) whole in
      subst (λ (bytes : Bytes). IsBehind second text bytes (map request_seen requests)) all (piece_added rest added)

  -- it was ended
  pub piece_goes_on : (third : RequestMachine) (line : Bytes) (more : List Request)
      → IsBehind second (text ++ done) ((text ++ done) ++ line) []
      → IsBehind third ((text ++ done) ++ line) (((text ++ done) ++ line) ++ 10 ∷ []) more
      → IsBehind third text (text ++ (done ++ (line ++ 10 ∷ []))) (map request_seen requests ++ more)
  piece_goes_on third line more added ended =
      behind_more second third text ((text ++ done) ++ line) (((text ++ done) ++ line) ++ 10 ∷ [])
      (text ++ (done ++ (line ++ 10 ∷ []))) (map request_seen requests) more (line_behind text done line)
      (piece_added line added) ended

  -- it is faulty
  pub piece_fails : (line more rest piece : Bytes) (fault : ScriptFault) → done ++ rest ≡ piece
      → IsCutAt 10 rest line more → IsBehind second (text ++ done) ((text ++ done) ++ line) []
      → IsTold (Fault fault) ((text ++ done) ++ line) (((text ++ done) ++ line) ++ 10 ∷ [])
      → Stays (text ++ piece) ((requests_of text).requests ++ map request_seen requests) fault
  piece_fails line more rest piece fault whole cut added told behind =
      let here : Bytes = ((text ++ done) ++ line) ++ 10 ∷ [] in
      let is : here ++ more ≡ text ++ piece =
      ap (λ (bytes : Bytes). bytes ++ more) (line_behind text done line)
      ∙ append_assoc text (done ++ (line ++ 10 ∷ [])) more
      ∙ ap (λ (bytes : Bytes). text ++ bytes) (line_of_piece done line more rest piece whole cut) in
      let one = piece_added line added in
      ap (λ (bytes : Bytes). requests_of (bytes ++ behind)) (sym is)
      ∙ ap requests_of (append_assoc here more behind)
      ∙ told (more ++ behind)
      ∙ ap (λ (front : List Request). read_of front (Some fault)) one.requests

-- one request more
pub seen_more : (requests : List given.Request) (request : given.Request)
    → map request_seen requests ++ request_in_seen (Some request) ≡ map request_seen (requests ++ request ∷ [])
seen_more requests request = sym (map-append request_seen requests (request ∷ []))
