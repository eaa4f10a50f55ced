-- What the steps of a script keep to: their number, their sessions, the edits of groups, the length of their texts and
-- UTF-8.
use Rattle.std.specs.Prelude.{◌≡◌, ◌+◌, ◌<◌, ◌≤◌, ◌==◌, ℕ, Bool, true, false, List, [], ◌∷◌, ◌++◌, Option, Some, None, Ok, length, take, map, filter, nat_lt}
use Rattle.std.specs.List.{All, sum}
use Rattle.std.specs.Str.{IsUtf8, is_utf8}
use Rattle.std.proofs.Common.{refl, sym, subst, arith, length-append, length-take}
use Rattle.std.proofs.lemmas.Bool.{cond_both, ltb-true, ltb-false}
use Rattle.std.proofs.lemmas.Bool.Decides.{nat_tests}
use Rattle.std.proofs.lemmas.List.Elements.{All-nil, All-cons, All-head, All-tail, All-append, All-filter}
use Rattle.std.proofs.lemmas.List.Sums.{sum_by-cons}
use Rattle.std.proofs.lemmas.Str.{IsUtf8-nil, IsUtf8-append, IsUtf8-from_ascii, IsUtf8-from_is_utf8, is_utf8-from_IsUtf8}
use Rattle.std.proofs.lemmas.Str.Ascii.{IsAscii-cons, IsAscii-nil}
use Rattle.dita_doc.specs.Lines.{lines_of}
use Rattle.dita_doc.specs.Bytes.{line_feed, space, is_space, onto_first, spaced_parts, has_bytes, spaced_words}
use Rattle.dita_doc.specs.declared.request.Request as given
use Rattle.dita_doc.specs.Request.{Edit, Put, PutIf, Remove, Request, Single, Get, Names, Build, Group, edit_size, text_size, IsUtf8Edit, IsUtf8Request}
use Rattle.script_text.specs.Script.{script_limit, request_limit, Step, Begun, script_line, is_no_line, steps_from, script_of}
use Rattle.script_text.specs.Facts.{steps_size, IsUtf8Step, HasFewStep, FitsScript, IsSession}
use Rattle.script_text.specs.Read.{step_seen, steps_seen}
use Rattle.dita_doc.proofs.Utf8Laws.{utf8_parts}
use Rattle.script_text.proofs.LineLaws.{has_line}
use Rattle.script_text.proofs.TextLaws.{Texts, edit_texts, group_texts, texts_of, AreLast}
use Rattle.script_text.proofs.ScriptTurns.{pending_texts, IsSound, HasMore, AreTurned, Adds, Opens, Grows, GoesOn, Follows, steps_keep, script_follows}

-- The count, the sessions and the edits of groups

abbrev pub HasNumber : Step → Type 0
HasNumber step = IsSession step.session

-- if what has begun keeps within the limits, the steps do
record AreWithinLimits (count : ℕ) (steps : List Step) : Type 0 where
  few : count + length steps ≤ request_limit
  sessions : All HasNumber steps
  edits : All HasFewStep steps

abbrev AreSound : ℕ → Option Begun → List (List ℕ) → List Step → Type 0
AreSound count begun lines steps = IsSound IsSession count begun → AreWithinLimits count steps

sound_follow : Follows AreSound
sound_follow = record {
  none = λ count room. record { few = omega arith; sessions = All-nil HasNumber; edits = All-nil HasFewStep };
  ends = λ count before line lines step steps utf8 from h sound.
      let fit = from.fit sound in
      let behind = h (omega (arith, fit.room)) in
      record {
        few = omega (arith, behind.few);
        sessions = All-cons HasNumber step steps fit.numbered behind.sessions;
        edits = All-cons HasFewStep step steps fit.few behind.edits;
      };
  goes = λ count before after line lines steps utf8 from h sound. h (from.sound sound);
}

script_limits : (bytes : List ℕ) (steps : List Step) → script_of bytes ≡ Ok steps → AreWithinLimits 0 steps
script_limits bytes steps e = script_follows AreSound bytes steps sound_follow e (omega arith)

-- a script has at most so many requests
pub script_few : (bytes : List ℕ) (steps : List Step) → script_of bytes ≡ Ok steps → length steps ≤ request_limit
script_few bytes steps e = omega (arith, (script_limits bytes steps e).few)

-- each request is asked in a session from 1 to the limit
pub script_sessions : (bytes : List ℕ) (steps : List Step) → script_of bytes ≡ Ok steps → All HasNumber steps
script_sessions bytes steps e = (script_limits bytes steps e).sessions

-- and each group has at most so many edits
pub script_edits : (bytes : List ℕ) (steps : List Step) → script_of bytes ≡ Ok steps → All HasFewStep steps
script_edits bytes steps e = (script_limits bytes steps e).edits

-- The length

-- where the text is too long, only no lines have steps
abbrev HaveNoLine : ℕ → Option Begun → List (List ℕ) → List Step → Type 0
HaveNoLine count begun lines steps = is_no_line lines ≡ true

no_line_long : GoesOn script_line true HaveNoLine
no_line_long = record {
  none = λ count. refl;
  more = λ count begun line lines next steps l t h. absurd (cc (l, h));
}

some_line : (bytes : List ℕ) → 0 < length bytes → is_no_line (lines_of bytes) ≡ false
some_line [] some = absurd (omega arith)
some_line (b ∷ bytes) some = has_line b (b == line_feed) (lines_of bytes)

short_by : (bytes : List ℕ) (steps : List Step) (long : Bool) → nat_lt script_limit (length bytes) ≡ long
    → steps_from script_line long 0 0 None (lines_of (take (script_limit + 1) bytes)) ≡ Ok steps
    → length bytes ≤ script_limit
short_by bytes steps true l e =
    let less : script_limit < length bytes = ltb-true _ _ l in
    let some = some_line (take (script_limit + 1) bytes) (omega (arith, length-take (script_limit + 1) bytes)) in
    let lines = lines_of (take (script_limit + 1) bytes) in
    let none = steps_keep script_line true HaveNoLine no_line_long 0 0 None lines steps e in
    absurd (cc (some, none))
short_by bytes steps false l e = ltb-false _ _ l

-- a script is of at most so many bytes
pub script_short : (bytes : List ℕ) (steps : List Step) → script_of bytes ≡ Ok steps → length bytes ≤ script_limit
unfolding script_of
script_short bytes steps e = short_by bytes steps (nat_lt script_limit (length bytes)) refl e

-- The sizes

-- the bytes of texts
abbrev bytes_in : List (List ℕ) → ℕ
bytes_in [] = 0
bytes_in (text ∷ texts) = length text + bytes_in texts

-- the bytes of lines, with an LF for each
abbrev line_bytes : List (List ℕ) → ℕ
line_bytes [] = 0
line_bytes (line ∷ lines) = length line + 1 + line_bytes lines

put_bytes : (b n : ℕ) (lines : List (List ℕ)) → line_bytes lines ≤ n + 1 → line_bytes (onto_first b lines) ≤ n + 2
put_bytes b n [] h = omega arith
put_bytes b n (line ∷ lines) h = omega arith

-- only the last line may lack its LF
lines_bytes : (bytes : List ℕ) → line_bytes (lines_of bytes) ≤ length bytes + 1
lines_bytes [] = omega arith
lines_bytes (b ∷ bytes) =
    cond_both (b == line_feed) ([] ∷ lines_of bytes) (onto_first b (lines_of bytes))
    (λ lines. line_bytes lines ≤ length (b ∷ bytes) + 1)
    (λ e. omega (arith, lines_bytes bytes))
    (λ e. omega (arith, put_bytes b (length bytes) (lines_of bytes) (lines_bytes bytes)))

onto_bytes : (b : ℕ) (parts : List (List ℕ)) → bytes_in (onto_first b parts) ≡ bytes_in parts + 1
onto_bytes b [] = refl
onto_bytes b (part ∷ parts) = omega arith

parts_bytes : (line : List ℕ) → bytes_in (spaced_parts line) ≤ length line
parts_bytes [] = omega arith
parts_bytes (b ∷ line) =
    cond_both (b == space) ([] ∷ spaced_parts line) (onto_first b (spaced_parts line))
    (λ parts. bytes_in parts ≤ length (b ∷ line))
    (λ e. omega (arith, parts_bytes line)) (λ e. omega (arith, parts_bytes line, onto_bytes b (spaced_parts line)))

kept_bytes : (parts : List (List ℕ)) → bytes_in (filter has_bytes parts) ≤ bytes_in parts
kept_bytes [] = omega arith
kept_bytes (part ∷ parts) =
    cond_both (has_bytes part) (part ∷ filter has_bytes parts) (filter has_bytes parts)
    (λ kept. bytes_in kept ≤ bytes_in (part ∷ parts))
    (λ e. omega (arith, kept_bytes parts)) (λ e. omega (arith, kept_bytes parts))

behind_bytes : (front texts : List (List ℕ)) → bytes_in texts ≤ bytes_in (front ++ texts)
behind_bytes [] texts = omega arith
behind_bytes (text ∷ front) texts = omega (arith, behind_bytes front texts)

-- the texts that are among a line's words fit into it
asked_bytes : (line : List ℕ) (texts : List (List ℕ)) → AreLast texts (spaced_words line) → bytes_in texts ≤ length line
asked_bytes line texts are =
    let all : bytes_in texts ≤ bytes_in (spaced_words line) =
    subst (λ (words : List (List ℕ)). bytes_in texts ≤ bytes_in words) are.1 (behind_bytes are.0 texts)
    in
    omega (arith, kept_bytes (spaced_parts line), parts_bytes line)

both_bytes : (front texts : Texts) → bytes_in (front ++ texts) ≡ bytes_in front + bytes_in texts
both_bytes [] texts = omega arith
both_bytes (text ∷ front) texts = omega (arith, both_bytes front texts)

edit_bytes : (edit : Edit) → edit_size edit ≡ bytes_in (edit_texts edit)
edit_bytes (Put name body) = omega arith
edit_bytes (PutIf version name body) = omega arith
edit_bytes (Remove name) = omega arith

group_bytes : (edits : List Edit) → sum (map edit_size edits) ≡ bytes_in (group_texts edits)
group_bytes [] = refl
group_bytes (edit ∷ edits) =
    omega (
      arith,
      sum_by-cons (λ n. n) (edit_size edit) (map edit_size edits),
      edit_bytes edit,
      group_bytes edits,
      both_bytes (edit_texts edit) (group_texts edits),
    )

request_bytes : (request : Request) → text_size request ≡ bytes_in (texts_of request)
request_bytes (Single edit) = edit_bytes edit
request_bytes (Get name) = omega arith
request_bytes Names = refl
request_bytes (Build root None) = omega arith
request_bytes (Build root (Some val)) = omega arith
request_bytes (Group edits) = group_bytes edits

more_bytes : (line : List ℕ) (before after : Texts) → HasMore line before after
    → bytes_in after ≤ bytes_in before + length line
more_bytes line before after more =
    rw more.is (omega (arith, both_bytes before more.texts, asked_bytes line more.texts more.last))

-- texts behind a line fit into those before it and the line with its LF
turned_bytes : (line : List ℕ) (before after : Texts) → AreTurned line before after
    → bytes_in after ≤ bytes_in before + length line + 1
turned_bytes line before after (Adds more) = omega (arith, more_bytes line before after more)
turned_bytes line before after (Opens name last is) =
    rw is (omega (arith, both_bytes before (name ∷ [] ∷ []), asked_bytes line (name ∷ []) last))
turned_bytes line before after (Grows front body was is) =
    let grown : List ℕ = body ++ line ++ line_feed ∷ [] in
    let feed = length-append (body ++ line) (line_feed ∷ []) in
    let size = length-append body line in
    rw (was, is) (omega (arith, both_bytes front (body ∷ []), both_bytes front (grown ∷ []), feed, size))

abbrev size_of : Step → ℕ
size_of step = text_size step.request

sizes_cons : (step : Step) (steps : List Step)
    → sum (map size_of (step ∷ steps)) ≡ text_size step.request + sum (map size_of steps)
sizes_cons step steps = sum_by-cons (λ n. n) (size_of step) (map size_of steps)

-- the steps of some lines, with a byte for each, fit into these and what was read before them
abbrev AreWithin : ℕ → Option Begun → List (List ℕ) → List Step → Type 0
AreWithin count begun lines steps =
    sum (map size_of steps) + length steps ≤ bytes_in (pending_texts begun) + line_bytes lines

within_follow : Follows AreWithin
within_follow = record {
  none = λ count. omega arith;
  ends = λ count before line lines step steps utf8 from h.
      let more = more_bytes line (pending_texts before) (texts_of step.request) from.texts in
      omega (arith, sizes_cons step steps, request_bytes step.request, more, h);
  goes = λ count before after line lines steps utf8 from h.
      omega (arith, turned_bytes line (pending_texts before) (pending_texts after) from.texts, h);
}

-- a byte for each is enough for the one LF that may be missing
without_feed : (steps : List Step) (n : ℕ) → sum (map size_of steps) + length steps ≤ n + 1 → steps_size steps ≤ n
without_feed [] n h = omega arith
without_feed (step ∷ steps) n h = omega arith

-- the names and bodies of a script are not longer than itself
pub script_texts : (bytes : List ℕ) (steps : List Step) → script_of bytes ≡ Ok steps → steps_size steps ≤ length bytes
script_texts bytes steps e =
    let text = take (script_limit + 1) bytes in
    let within = script_follows AreWithin bytes steps within_follow e in
    without_feed steps (length bytes) (omega (arith, within, lines_bytes text, length-take (script_limit + 1) bytes))

-- and so within the limit of scripts
pub script_size : (bytes : List ℕ) (steps : List Step) → script_of bytes ≡ Ok steps → steps_size steps ≤ script_limit
script_size bytes steps e = omega (arith, script_texts bytes steps e, script_short bytes steps e)

-- UTF-8

utf8_both : (front texts : Texts) → All IsUtf8 (front ++ texts) → All IsUtf8 front × All IsUtf8 texts
utf8_both [] texts all = (All-nil IsUtf8, all)
utf8_both (text ∷ front) texts all =
    let rest = utf8_both front texts (All-tail IsUtf8 text (front ++ texts) all) in
    (All-cons IsUtf8 text front (All-head IsUtf8 text (front ++ texts) all) rest.0, rest.1)

-- the texts that are among the words of UTF-8
asked_utf8 : (line : List ℕ) (texts : Texts) → is_utf8 line ≡ true → AreLast texts (spaced_words line)
    → All IsUtf8 texts
asked_utf8 line texts utf8 are =
    let parts = utf8_parts is_space line (λ b high. grind (arith, nat_tests)) (IsUtf8-from_is_utf8 line utf8) in
    let words = All-filter has_bytes IsUtf8 (spaced_parts line) parts in
    (utf8_both are.0 texts (subst (All IsUtf8) (sym are.1) words)).1

first_utf8 : (text : List ℕ) (texts : Texts) → All IsUtf8 (text ∷ texts) → is_utf8 text ≡ true
first_utf8 text texts all = is_utf8-from_IsUtf8 text (All-head IsUtf8 text texts all)

two_utf8 : (first second : List ℕ) → All IsUtf8 (first ∷ second ∷ []) → (is_utf8 first ≡ true) × (is_utf8 second ≡ true)
two_utf8 first second all =
    (first_utf8 first (second ∷ []) all, first_utf8 second [] (All-tail IsUtf8 first (second ∷ []) all))

edit_utf8 : (edit : Edit) → All IsUtf8 (edit_texts edit) → IsUtf8Edit edit
edit_utf8 (Put name body) all = two_utf8 name body all
edit_utf8 (PutIf version name body) all = two_utf8 name body all
edit_utf8 (Remove name) all = first_utf8 name [] all

group_utf8 : (edits : List Edit) → All IsUtf8 (group_texts edits) → All IsUtf8Edit edits
group_utf8 [] all = All-nil IsUtf8Edit
group_utf8 (edit ∷ edits) all =
    let both = utf8_both (edit_texts edit) (group_texts edits) all in
    All-cons IsUtf8Edit edit edits (edit_utf8 edit both.0) (group_utf8 edits both.1)

pub request_utf8 : (request : Request) → All IsUtf8 (texts_of request) → IsUtf8Request request
request_utf8 (Single edit) all = edit_utf8 edit all
request_utf8 (Get name) all = first_utf8 name [] all
request_utf8 Names all = tt
request_utf8 (Build root None) all = first_utf8 root [] all
request_utf8 (Build root (Some val)) all = two_utf8 root val all
request_utf8 (Group edits) all = group_utf8 edits all

pub more_utf8 : (line : List ℕ) (before after : Texts) → is_utf8 line ≡ true → HasMore line before after
    → All IsUtf8 before → All IsUtf8 after
more_utf8 line before after utf8 more known =
    rw more.is (All-append IsUtf8 before more.texts known (asked_utf8 line more.texts utf8 more.last))

grown_utf8 : (body line : List ℕ) → IsUtf8 body → is_utf8 line ≡ true → IsUtf8 (body ++ line ++ line_feed ∷ [])
grown_utf8 body line before utf8 =
    let feed = IsUtf8-from_ascii (line_feed ∷ []) (IsAscii-cons line_feed [] (omega arith) IsAscii-nil) in
    IsUtf8-append (body ++ line) (line_feed ∷ []) (IsUtf8-append body line before (IsUtf8-from_is_utf8 line utf8)) feed

one_utf8 : (text : List ℕ) → IsUtf8 text → All IsUtf8 (text ∷ [])
one_utf8 text is = All-cons IsUtf8 text [] is (All-nil IsUtf8)

-- texts behind a line of UTF-8 are UTF-8 where those before it are
pub turned_utf8 : (line : List ℕ) (before after : Texts) → is_utf8 line ≡ true → AreTurned line before after
    → All IsUtf8 before → All IsUtf8 after
turned_utf8 line before after utf8 (Adds more) known = more_utf8 line before after utf8 more known
turned_utf8 line before after utf8 (Opens name last is) known =
    let named = All-head IsUtf8 name [] (asked_utf8 line (name ∷ []) utf8 last) in
    rw is (All-append IsUtf8 before (name ∷ [] ∷ []) known
    (All-cons IsUtf8 name ([] ∷ []) named (one_utf8 [] IsUtf8-nil)))
turned_utf8 line before after utf8 (Grows front body was is) known =
    let both = utf8_both front (body ∷ []) (subst (All IsUtf8) was known) in
    let grown = grown_utf8 body line (All-head IsUtf8 body [] both.1) utf8 in
    rw is (All-append IsUtf8 front (_ ∷ []) both.0 (one_utf8 _ grown))

-- the steps are UTF-8, where what has begun is
abbrev AreUtf8 : ℕ → Option Begun → List (List ℕ) → List Step → Type 0
AreUtf8 count begun lines steps = All IsUtf8 (pending_texts begun) → All IsUtf8Step steps

utf8_follow : Follows AreUtf8
utf8_follow = record {
  none = λ count known. All-nil IsUtf8Step;
  ends = λ count before line lines step steps utf8 from h known.
      let texts = more_utf8 line (pending_texts before) (texts_of step.request) utf8 from.texts known in
      All-cons IsUtf8Step step steps (request_utf8 step.request texts) (h (All-nil IsUtf8));
  goes = λ count before after line lines steps utf8 from h known.
      h (turned_utf8 line (pending_texts before) (pending_texts after) utf8 from.texts known);
}

-- each name and each body of a script is UTF-8
pub script_utf8 : (bytes : List ℕ) (steps : List Step) → script_of bytes ≡ Ok steps → All IsUtf8Step steps
script_utf8 bytes steps e = script_follows AreUtf8 bytes steps utf8_follow e (All-nil IsUtf8)

-- so the steps of each script fit a desk
pub steps_fit : (bytes : List ℕ) (steps : List Step) → script_of bytes ≡ Ok steps → FitsScript steps
steps_fit bytes steps e = record {
  few = script_few bytes steps e;
  few_edits = script_edits bytes steps e;
  size = script_size bytes steps e;
  utf8 = script_utf8 bytes steps e;
}

-- what holds of steps as they are seen
pub seen_all : (P : Step → Type 0) (steps : List (ℕ × given.Request)) → All P (steps_seen steps)
    → All (λ step. P (step_seen step)) steps
seen_all P [] all = All-nil (λ step. P (step_seen step))
seen_all P (step ∷ steps) all =
    All-cons (λ step. P (step_seen step)) step steps (All-head P (step_seen step) (steps_seen steps) all)
    (seen_all P steps (All-tail P (step_seen step) (steps_seen steps) all))
