-- The line of a request is read as the request, and that of an edit as the edit; and it is one line.
use Rattle.std.specs.Prelude.{◌≡◌, ◌<◌, ◌≤◌, ◌==◌, ◌++◌, ℕ, Bool, true, false, not, List, [], ◌∷◌, Some, None, Result, Ok, Err, length, codes, nat_le, if◌then◌else◌}
use Rattle.std.specs.List.{All, list_all}
use Rattle.std.proofs.Common.{refl, sym, ap, ◌∙◌, subst, arith, append_assoc}
use Rattle.std.proofs.Math.Dec.{eqb-suc-zero}
use Rattle.std.proofs.lemmas.Bool.{and_left, and_right, and_parts, eqb-true, le-leb, lt-leb, leb-true, or_from}
use Rattle.std.proofs.lemmas.Bool.Decides.{nat_tests}
use Rattle.std.proofs.lemmas.List.Elements.{All-nil, All-cons, All-head, All-tail, All-same, All-weaker}
use Rattle.dita_doc.specs.Bytes.{line_feed, number_sign, space, tab, digit_zero, digit_nine, is_space, is_gap, is_digit, spaced_words}
use Rattle.dita_doc.specs.Cut.{Lacks}
use Rattle.dita_doc.specs.Name.{is_name}
use Rattle.dita_doc.specs.Request.{Edit, Put, PutIf, Remove, Request, Single, Get, Names, Build, Group, edit_limit}
use Rattle.dita_doc.proofs.LackLaws.{lacks_append, lacks_cons, lacks_name}
use Rattle.script_text.specs.declared.fault.ScriptCode.{ScriptCode}
use Rattle.script_text.specs.declared.fault.ScriptCode.TheVariants as faults
use Rattle.script_text.specs.Script.{request_limit, session_limit, number_of, PutOf, PutIfOf, EditCommand, WholeEdit, OpensBody, name_of, if_named, put_if_of, edit_of, Command, Edits, Whole, OpensGroup, edit_alone, command_of, AskedLine, counted, session_of, asked_in, asked_by, is_passed, script_line, edit_counted, edit_line, Step}
use Rattle.script_laws.specs.Words.{AreSpaces, AreBehind, IsLineOf, SaysNumber}
use Rattle.script_laws.specs.Blocks.{HasEditName, AreEditWords, IsLineOfEdit, HasNames, AreWordsOf, IsLineOfStep}
use Rattle.script_laws.proofs.WordLaws.{IsWord, words_of_line}
use Rattle.script_laws.proofs.NumberLaws.{number_said, number_is_word, number_first, number_bytes}

-- Words

-- a word that has no LF
pub record IsPlain (word : List ℕ) : Type 0 where
  pub is : IsWord word
  pub one : Lacks line_feed word

name_plain : (name : List ℕ) → is_name name ≡ true → IsPlain name
name_plain [] e = absurd cc
name_plain (b ∷ name) e = record {
  is = (ap not (eqb-suc-zero (length name)), lacks_name space (b ∷ name) (omega arith) e);
  one = lacks_name line_feed (b ∷ name) (omega arith) e;
}

digits_lack : (word : List ℕ) → list_all is_digit word ≡ true → Lacks line_feed word
digits_lack [] e = refl
digits_lack (b ∷ word) e =
    let parts = and_parts (is_digit b) (list_all is_digit word) e in
    let high : 48 ≤ b = leb-true _ _ (and_parts (nat_le digit_zero b) (nat_le b digit_nine) parts.0).0 in
    let other : (b == 10) ≡ false = grind (arith, nat_tests) in
    lacks_cons line_feed b word other (digits_lack word parts.1)

number_plain : (word : List ℕ) (number : ℕ) → SaysNumber number word → IsPlain word
number_plain word number says = record {
  is = number_is_word word number says;
  one = digits_lack word (number_bytes word number says);
}

one_plain : (x : List ℕ) → IsPlain x → All IsPlain (x ∷ [])
one_plain x p = All-cons IsPlain x [] p (All-nil IsPlain)

two_plain : (x y : List ℕ) → IsPlain x → IsPlain y → All IsPlain (x ∷ y ∷ [])
two_plain x y p q = All-cons IsPlain x (y ∷ []) p (one_plain y q)

three_plain : (x y z : List ℕ) → IsPlain x → IsPlain y → IsPlain z → All IsPlain (x ∷ y ∷ z ∷ [])
three_plain x y z p q r = All-cons IsPlain x (y ∷ z ∷ []) p (two_plain y z q r)

-- the words of an edit are such words
edit_plain : (edit : Edit) (words : List (List ℕ)) → HasEditName edit → AreEditWords edit words → All IsPlain words
edit_plain (Put name body) words named is =
    let verb : IsPlain (codes "put") = record { is = (refl, refl); one = refl } in
    All-same IsPlain words _ is (two_plain (codes "put") name verb (name_plain name named))
edit_plain (PutIf version name body) words named is =
    let verb : IsPlain (codes "putif") = record { is = (refl, refl); one = refl } in
    let number = number_plain is.0 version is.1 in
    All-same IsPlain words _ is.2 (three_plain (codes "putif") is.0 name verb number (name_plain name named))
edit_plain (Remove name) words named is =
    let verb : IsPlain (codes "remove") = record { is = (refl, refl); one = refl } in
    All-same IsPlain words _ is (two_plain (codes "remove") name verb (name_plain name named))

-- and those of a request
words_plain : (request : Request) (words : List (List ℕ)) → HasNames request → AreWordsOf request words
    → All IsPlain words
words_plain (Single edit) words named is = edit_plain edit words named is
words_plain (Get name) words named is =
    let verb : IsPlain (codes "get") = record { is = (refl, refl); one = refl } in
    All-same IsPlain words _ is (two_plain (codes "get") name verb (name_plain name named))
words_plain Names words named is =
    let verb : IsPlain (codes "names") = record { is = (refl, refl); one = refl } in
    All-same IsPlain words _ is (one_plain (codes "names") verb)
words_plain (Build root None) words named is =
    let verb : IsPlain (codes "build") = record { is = (refl, refl); one = refl } in
    All-same IsPlain words _ is (two_plain (codes "build") root verb (name_plain root named))
words_plain (Build root (Some val)) words named is =
    let verb : IsPlain (codes "build") = record { is = (refl, refl); one = refl } in
    All-same IsPlain words _ is
    (three_plain (codes "build") root val verb (name_plain root named.0) (name_plain val named.1))
words_plain (Group edits) words named is =
    let verb : IsPlain (codes "group") = record { is = (refl, refl); one = refl } in
    All-same IsPlain words _ is (one_plain (codes "group") verb)

-- One line

spaces_lack : (gap : List ℕ) → AreSpaces gap → Lacks line_feed gap
spaces_lack [] e = refl
spaces_lack (b ∷ gap) e =
    let parts = and_parts (is_space b) (list_all is_space gap) e in
    let same : b ≡ 32 = eqb-true b 32 parts.0 in
    let other : (b == 10) ≡ false = grind (arith, nat_tests) in
    lacks_cons line_feed b gap other (spaces_lack gap parts.1)

-- spaces, a word and what stands behind it
pieces_lack : (gap word more : List ℕ) → AreSpaces gap → IsPlain word → Lacks line_feed more
    → Lacks line_feed (gap ++ word ++ more)
pieces_lack gap word more spaces plain behind =
    let front = lacks_append line_feed gap word (spaces_lack gap spaces) plain.one in
    lacks_append line_feed (gap ++ word) more front behind

behind_lacks : (words : List (List ℕ)) (rest : List ℕ) → All IsPlain words → AreBehind words rest
    → Lacks line_feed rest
behind_lacks [] rest all spaces = spaces_lack rest spaces
behind_lacks (word ∷ words) rest all is =
    let more = behind_lacks words is.1 (All-tail IsPlain word words all) is.4 in
    let pieces = pieces_lack is.0 word is.1 is.2 (All-head IsPlain word words all) more in
    subst (Lacks line_feed) (sym is.3) (lacks_cons line_feed space (is.0 ++ word ++ is.1) refl pieces)

line_lacks : (words : List (List ℕ)) (text : List ℕ) → All IsPlain words → IsLineOf words text → Lacks line_feed text
line_lacks [] text all spaces = spaces_lack text spaces
line_lacks (word ∷ words) text all is =
    let more = behind_lacks words is.1 (All-tail IsPlain word words all) is.4 in
    subst (Lacks line_feed) (sym is.3) (pieces_lack is.0 word is.1 is.2 (All-head IsPlain word words all) more)

all_plain : (step : Step) (text : List ℕ) (line : IsLineOfStep step text) → All IsPlain (line.session ∷ line.words)
all_plain step text line =
    All-cons IsPlain line.session line.words (number_plain line.session step.session line.number)
    (words_plain step.request line.words line.names line.request)

-- the line of a request is one line
pub step_lacks : (step : Step) (text : List ℕ) → IsLineOfStep step text → Lacks line_feed text
step_lacks step text line = line_lacks (line.session ∷ line.words) text (all_plain step text line) line.line

line_plain : (edit : Edit) (text : List ℕ) (line : IsLineOfEdit edit text) → All IsPlain line.words
line_plain edit text line = edit_plain edit line.words line.name line.says

-- and so is that of an edit
pub edit_lacks : (edit : Edit) (text : List ℕ) → IsLineOfEdit edit text → Lacks line_feed text
edit_lacks edit text line = line_lacks line.words text (line_plain edit text line) line.line

-- It is not passed over

-- a byte with which no line begins that is passed over, if spaces stand before it
record IsMark (first : ℕ) : Type 0 where
  gap : is_gap first ≡ false
  sign : (first == number_sign) ≡ false

digit_mark : (first : ℕ) → is_digit first ≡ true → IsMark first
digit_mark first e =
    let high : 48 ≤ first = leb-true _ _ (and_parts (nat_le digit_zero first) (nat_le first digit_nine) e).0 in
    record {
      gap = or_from (first == space) (first == tab) (grind (arith, nat_tests)) (grind (arith, nat_tests));
      sign = grind (arith, nat_tests);
    }

no_gaps : (gap behind : List ℕ) (first : ℕ) → IsMark first → list_all is_gap (gap ++ first ∷ behind) ≡ false
no_gaps [] behind first mark = and_left (is_gap first) _ mark.gap
no_gaps (b ∷ gap) behind first mark = and_right (is_gap b) _ (no_gaps gap behind first mark)

not_passed : (gap behind : List ℕ) (first : ℕ) → AreSpaces gap → IsMark first
    → is_passed (gap ++ first ∷ behind) ≡ false
not_passed [] behind first spaces mark = or_from _ _ (no_gaps [] behind first mark) mark.sign
not_passed (b ∷ gap) behind first spaces mark =
    let same : b ≡ 32 = eqb-true b 32 (and_parts (is_space b) (list_all is_space gap) spaces).0 in
    let other : (b == number_sign) ≡ false = grind (arith, nat_tests) in
    or_from _ _ (no_gaps (b ∷ gap) behind first mark) other

-- a line whose first word begins with such a byte is not passed over
line_not_passed : (first : ℕ) (word : List ℕ) (words : List (List ℕ)) (text : List ℕ) → IsMark first
    → IsLineOf ((first ∷ word) ∷ words) text → is_passed text ≡ false
line_not_passed first word words text mark is =
    let whole : text ≡ is.0 ++ first ∷ (word ++ is.1) = is.3 ∙ append_assoc is.0 (first ∷ word) is.1 in
    ap is_passed whole ∙ not_passed is.0 (word ++ is.1) first is.2 mark

step_not_passed : (step : Step) (text : List ℕ) → IsLineOfStep step text → is_passed text ≡ false
step_not_passed step text line =
    let number = number_first line.session step.session line.number in
    let is : IsLineOf ((number.0 ∷ number.1) ∷ line.words) text =
    subst (λ (word : List ℕ). IsLineOf (word ∷ line.words) text) number.2 line.line in
    line_not_passed number.0 number.1 line.words text (digit_mark number.0 number.3) is

-- the first word of an edit begins with p or r
edit_not_passed : (edit : Edit) (words : List (List ℕ)) (text : List ℕ) → AreEditWords edit words
    → IsLineOf words text → is_passed text ≡ false
edit_not_passed (Put name body) words text is line =
    line_not_passed 112 (codes "ut") (name ∷ []) text (record { gap = refl; sign = refl })
    (subst (λ (words : List (List ℕ)). IsLineOf words text) is line)
edit_not_passed (PutIf version name body) words text is line =
    line_not_passed 112 (codes "utif") (is.0 ∷ name ∷ []) text (record { gap = refl; sign = refl })
    (subst (λ (words : List (List ℕ)). IsLineOf words text) is.2 line)
edit_not_passed (Remove name) words text is line =
    line_not_passed 114 (codes "emove") (name ∷ []) text (record { gap = refl; sign = refl })
    (subst (λ (words : List (List ℕ)). IsLineOf words text) is line)

-- What is read

-- the command that says an edit
abbrev pub edit_command_for : Edit → EditCommand
edit_command_for (Put name body) = OpensBody (PutOf name)
edit_command_for (PutIf version name body) = OpensBody (PutIfOf version name)
edit_command_for (Remove name) = WholeEdit (Remove name)

-- the command that asks a request
abbrev pub command_for : Request → Command
command_for (Single edit) = Edits (edit_command_for edit)
command_for (Get name) = Whole (Get name)
command_for Names = Whole Names
command_for (Build root val) = Whole (Build root val)
command_for (Group edits) = OpensGroup

named_told : {A : Type 0} (name : List ℕ) (command : Result A ScriptCode) → is_name name ≡ true
    → if_named (name_of name) command ≡ command
named_told name command e = ap (λ (test : Bool). if_named (if test then Ok name else Err faults.BadName) command) e

edit_told : (edit : Edit) (words : List (List ℕ)) → HasEditName edit → AreEditWords edit words
    → edit_of words ≡ Ok (edit_command_for edit)
edit_told (Put name body) words known is = ap edit_of is ∙ named_told name (Ok (OpensBody (PutOf name))) known
edit_told (PutIf version name body) words known is =
    ap edit_of is.2 ∙ ap (λ found. put_if_of found name) (number_said is.0 version is.1)
    ∙ named_told name (Ok (OpensBody (PutIfOf version name))) known
edit_told (Remove name) words known is = ap edit_of is ∙ named_told name (Ok (WholeEdit (Remove name))) known

-- the words of an edit are those of no other command
alone_told : (edit : Edit) (words : List (List ℕ)) → AreEditWords edit words
    → command_of words ≡ edit_alone (edit_of words)
alone_told (Put name body) words is =
    ap command_of is ∙ sym (ap (λ (words : List (List ℕ)). edit_alone (edit_of words)) is)
alone_told (PutIf version name body) words is =
    ap command_of is.2 ∙ sym (ap (λ (words : List (List ℕ)). edit_alone (edit_of words)) is.2)
alone_told (Remove name) words is =
    ap command_of is ∙ sym (ap (λ (words : List (List ℕ)). edit_alone (edit_of words)) is)

command_told : (request : Request) (words : List (List ℕ)) → HasNames request → AreWordsOf request words
    → command_of words ≡ Ok (command_for request)
command_told (Single edit) words known is = alone_told edit words is ∙ ap edit_alone (edit_told edit words known is)
command_told (Get name) words known is = ap command_of is ∙ named_told name (Ok (Whole (Get name))) known
command_told Names words known is = ap command_of is
command_told (Build root None) words known is =
    ap command_of is ∙ named_told root (Ok (Whole (Build root None))) known
command_told (Build root (Some val)) words known is =
    let whole : Result Command ScriptCode = Ok (Whole (Build root (Some val))) in
    ap command_of is ∙ named_told root (if_named (name_of val) whole) known.0 ∙ named_told val whole known.1
command_told (Group edits) words known is = ap command_of is

session_told : (number : ℕ) → 1 ≤ number → number ≤ session_limit → session_of (Some number) ≡ Ok number
session_told number first last =
    let some : (number == 0) ≡ false = grind (arith, nat_tests) in
    rw (some, le-leb number session_limit last) refl

counted_told : (count session : ℕ) (command : Command) → count < request_limit
    → counted count session (Ok command) ≡ Ok (Some (record { session = session; command = command }))
counted_told count session command room = rw (lt-leb request_limit count room) refl

-- what a step's line asks
abbrev pub asked_of : Step → AskedLine
asked_of step = record { session = step.session; command = command_for step.request }

words_in : (words : List (List ℕ)) (text : List ℕ) → All IsPlain words → IsLineOf words text
    → spaced_words text ≡ words
words_in words text all line =
    words_of_line words text (All-weaker IsPlain IsWord (λ word plain. plain.is) words all) line

-- the line of a request is read as it
pub step_told : (count : ℕ) (step : Step) (text : List ℕ) → count < request_limit → IsLineOfStep step text
    → script_line count text ≡ Ok (Some (asked_of step))
step_told count step text room line =
    let words : spaced_words text ≡ line.session ∷ line.words =
    words_in (line.session ∷ line.words) text (all_plain step text line) line.line in
    let number : number_of line.session ≡ Some step.session = number_said line.session step.session line.number in
    ap (λ (test : Bool). if test then Ok None else asked_by count (spaced_words text)) (step_not_passed step text line)
    ∙ ap (asked_by count) words
    ∙ ap (λ found. asked_in count (session_of found) line.words) number
    ∙ ap (λ found. asked_in count found line.words) (session_told step.session line.first line.last)
    ∙ ap (counted count step.session) (command_told step.request line.words line.names line.request)
    ∙ counted_told count step.session (command_for step.request) room

edit_counted_told : (count : ℕ) (edit : EditCommand) → count < edit_limit
    → edit_counted count (Ok edit) ≡ Ok (Some edit)
edit_counted_told count edit room = rw (lt-leb edit_limit count room) refl

-- the line of an edit is read as it
pub edit_line_told : (count : ℕ) (edit : Edit) (text : List ℕ) → count < edit_limit → IsLineOfEdit edit text
    → edit_line count text ≡ Ok (Some (edit_command_for edit))
edit_line_told count edit text room line =
    ap (λ (test : Bool). if test then Ok None else edit_counted count (edit_of (spaced_words text)))
    (edit_not_passed edit line.words text line.says line.line)
    ∙ ap (λ (words : List (List ℕ)). edit_counted count (edit_of words))
    (words_in line.words text (line_plain edit text line) line.line)
    ∙ ap (edit_counted count) (edit_told edit line.words line.name line.says)
    ∙ edit_counted_told count (edit_command_for edit) room
