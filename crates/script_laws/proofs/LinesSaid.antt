-- A line of which a request or an edit is read says it; and a line of which none is read is passed over.
use Rattle.std.specs.Prelude.{◌≡◌, ◌<◌, ◌≤◌, ◌==◌, ◌⊎◌, ℕ, Bool, true, false, List, [], ◌∷◌, Option, Some, None, Result, Ok, Err, IfOk, codes, bytes_eq, nat_le, if◌then◌else◌}
use Rattle.std.specs.List.{list_all}
use Rattle.std.proofs.Common.{refl, ap, arith, inl, inr}
use Rattle.std.proofs.lemmas.Bool.{cond_both, leb-true, leb-false, eqb-true, eqb-false, or_cases, or_left, and_parts, and_from}
use Rattle.std.proofs.lemmas.Slice.Eq.{bytes_eq-Decides}
use Rattle.dita_doc.specs.Bytes.{tab, number_sign, is_gap, is_space, spaced_words}
use Rattle.dita_doc.specs.Name.{is_name}
use Rattle.dita_doc.specs.Request.{Remove, Get, Build, edit_limit}
use Rattle.script_text.specs.declared.fault.ScriptCode.{ScriptCode}
use Rattle.script_text.specs.declared.fault.ScriptCode.TheVariants as faults
use Rattle.script_text.specs.Script.{request_limit, session_limit, number_of, PutOf, PutIfOf, with_body, EditCommand, WholeEdit, OpensBody, name_of, if_named, put_by, put_if_of, put_if_by, remove_by, edit_of, Command, Edits, Whole, OpensGroup, get_by, names_by, build_command, group_by, edit_alone, command_of, AskedLine, counted, session_of, asked_in, asked_by, is_passed, script_line, edit_counted, edit_line}
use Rattle.script_laws.specs.Words.{AreSpaces, IsLineOf, SaysNumber}
use Rattle.script_laws.specs.Blocks.{HasEditName, AreEditWords, IsBehindEdit, HasNames, AreWordsOf, IsBehind}
use Rattle.script_laws.proofs.WordLaws.{line_of_words}
use Rattle.script_laws.proofs.NumberLaws.{says_number}

-- by a test
says_if : {A : Type 0} (P : A → Type 0) (test : Bool) (x y : Result A ScriptCode) → (test ≡ true → IfOk x P) → IfOk y P
    → IfOk (if test then x else y) P
says_if P true x y first second = first refl
says_if P false x y first second = second

-- with a name
says_named : {A : Type 0} (P : A → Type 0) (name : List ℕ) (command : Result A ScriptCode)
    → (is_name name ≡ true → IfOk command P) → IfOk (if_named (name_of name) command) P
says_named P name command says =
    cond_both (is_name name) (Ok name) (Err faults.BadName) (λ found. IfOk (if_named found command) P) says (λ e. tt)

-- Edits

-- a whole edit with its words, behind which nothing stands; or a put with its words, whatever its body
abbrev pub SaysEdit : List (List ℕ) → EditCommand → Type 0
SaysEdit words (WholeEdit edit) = HasEditName edit × AreEditWords edit words × IsBehindEdit edit []
SaysEdit words (OpensBody opening) =
    (body : List ℕ) → HasEditName (with_body opening body) × AreEditWords (with_body opening body) words

module _ (verb : List ℕ) where
  put_says : (words : List (List ℕ)) → verb ≡ codes "put" → IfOk (put_by words) (SaysEdit (verb ∷ words))
  put_says [] is = tt
  put_says (name ∷ []) is =
      says_named (SaysEdit (verb ∷ name ∷ [])) name (Ok (OpensBody (PutOf name)))
      (λ e body. (e, ap (λ (first : List ℕ). first ∷ name ∷ []) is))
  put_says (name ∷ other ∷ words) is = tt

  put_if_says : (found : Option ℕ) (word name : List ℕ) → number_of word ≡ found → verb ≡ codes "putif"
      → IfOk (put_if_of found name) (SaysEdit (verb ∷ word ∷ name ∷ []))
  put_if_says None word name number is = tt
  put_if_says (Some version) word name number is =
      says_named (SaysEdit (verb ∷ word ∷ name ∷ [])) name (Ok (OpensBody (PutIfOf version name)))
      (λ e body. (e, (word, says_number word version number, ap (λ (first : List ℕ). first ∷ word ∷ name ∷ []) is)))

  put_if_by_says : (words : List (List ℕ)) → verb ≡ codes "putif" → IfOk (put_if_by words) (SaysEdit (verb ∷ words))
  put_if_by_says [] is = tt
  put_if_by_says (word ∷ []) is = tt
  put_if_by_says (word ∷ name ∷ []) is = put_if_says (number_of word) word name refl is
  put_if_by_says (word ∷ name ∷ other ∷ words) is = tt

  remove_says : (words : List (List ℕ)) → verb ≡ codes "remove" → IfOk (remove_by words) (SaysEdit (verb ∷ words))
  remove_says [] is = tt
  remove_says (name ∷ []) is =
      says_named (SaysEdit (verb ∷ name ∷ [])) name (Ok (WholeEdit (Remove name)))
      (λ e. (e, ap (λ (first : List ℕ). first ∷ name ∷ []) is, refl))
  remove_says (name ∷ other ∷ words) is = tt

-- the edit that is read of words is what they say
edit_says : (words : List (List ℕ)) → IfOk (edit_of words) (SaysEdit words)
edit_says [] = tt
edit_says (verb ∷ words) =
    let P : EditCommand → Type 0 = SaysEdit (verb ∷ words) in
    let is : (text : List ℕ) → bytes_eq verb text ≡ true → verb ≡ text = λ text. (bytes_eq-Decides verb text).0 in
    says_if P (bytes_eq verb (codes "put")) _ _ (λ e. put_says verb words (is (codes "put") e))
    (says_if P (bytes_eq verb (codes "putif")) _ _ (λ e. put_if_by_says verb words (is (codes "putif") e))
    (says_if P (bytes_eq verb (codes "remove")) _ _ (λ e. remove_says verb words (is (codes "remove") e)) tt))

-- Commands

-- an edit; another whole request with its words, behind which nothing stands; or the word of a group
abbrev pub SaysCommand : List (List ℕ) → Command → Type 0
SaysCommand words (Edits edit) = SaysEdit words edit
SaysCommand words (Whole request) = HasNames request × AreWordsOf request words × IsBehind request []
SaysCommand words OpensGroup = words ≡ codes "group" ∷ []

module _ (verb : List ℕ) where
  get_says : (words : List (List ℕ)) → verb ≡ codes "get" → IfOk (get_by words) (SaysCommand (verb ∷ words))
  get_says [] is = tt
  get_says (name ∷ []) is =
      says_named (SaysCommand (verb ∷ name ∷ [])) name (Ok (Whole (Get name)))
      (λ e. (e, ap (λ (first : List ℕ). first ∷ name ∷ []) is, refl))
  get_says (name ∷ other ∷ words) is = tt

  names_say : (words : List (List ℕ)) → verb ≡ codes "names" → IfOk (names_by words) (SaysCommand (verb ∷ words))
  names_say [] is = (tt, ap (λ (first : List ℕ). first ∷ []) is, refl)
  names_say (word ∷ words) is = tt

  build_says : (words : List (List ℕ)) → verb ≡ codes "build" → IfOk (build_command words) (SaysCommand (verb ∷ words))
  build_says [] is = tt
  build_says (root ∷ []) is =
      says_named (SaysCommand (verb ∷ root ∷ [])) root (Ok (Whole (Build root None)))
      (λ e. (e, ap (λ (first : List ℕ). first ∷ root ∷ []) is, refl))
  build_says (root ∷ val ∷ []) is =
      let P : Command → Type 0 = SaysCommand (verb ∷ root ∷ val ∷ []) in
      let whole : Result Command ScriptCode = Ok (Whole (Build root (Some val))) in
      says_named P root (if_named (name_of val) whole)
      (λ e. says_named P val whole (λ f. ((e, f), ap (λ (first : List ℕ). first ∷ root ∷ val ∷ []) is, refl)))
  build_says (root ∷ val ∷ other ∷ words) is = tt

  group_says : (words : List (List ℕ)) → verb ≡ codes "group" → IfOk (group_by words) (SaysCommand (verb ∷ words))
  group_says [] is = ap (λ (first : List ℕ). first ∷ []) is
  group_says (word ∷ words) is = tt

alone_says : (words : List (List ℕ)) (edit : Result EditCommand ScriptCode) → IfOk edit (SaysEdit words)
    → IfOk (edit_alone edit) (SaysCommand words)
alone_says words (Ok edit) says = says
alone_says words (Err code) says = tt

-- what is read of words is what they say
command_says : (words : List (List ℕ)) → IfOk (command_of words) (SaysCommand words)
command_says [] = tt
command_says (verb ∷ words) =
    let P : Command → Type 0 = SaysCommand (verb ∷ words) in
    let is : (text : List ℕ) → bytes_eq verb text ≡ true → verb ≡ text = λ text. (bytes_eq-Decides verb text).0 in
    says_if P (bytes_eq verb (codes "get")) _ _ (λ e. get_says verb words (is (codes "get") e))
    (says_if P (bytes_eq verb (codes "names")) _ _ (λ e. names_say verb words (is (codes "names") e))
    (says_if P (bytes_eq verb (codes "build")) _ _ (λ e. build_says verb words (is (codes "build") e))
    (says_if P (bytes_eq verb (codes "group")) _ _ (λ e. group_says verb words (is (codes "group") e))
    (alone_says (verb ∷ words) (edit_of (verb ∷ words)) (edit_says (verb ∷ words))))))

-- Lines

-- a line of a request behind so many, and what it asks
pub record IsLineOfAsked (count : ℕ) (text : List ℕ) (asked : AskedLine) : Type 0 where
  pub room : count < request_limit
  pub first : 1 ≤ asked.session
  pub last : asked.session ≤ session_limit
  pub session : List ℕ
  pub number : SaysNumber asked.session session
  pub words : List (List ℕ)
  pub says : SaysCommand words asked.command
  pub line : IsLineOf (session ∷ words) text

abbrev IsEmpty : List ℕ → Type 0
IsEmpty text = (list_all is_gap text ≡ true) ⊎ ((rest : List ℕ) × (text ≡ number_sign ∷ rest))

-- a line that is passed over, or one of a request
abbrev pub IsReadAs : ℕ → List ℕ → Result (Option AskedLine) ScriptCode → Type 0
IsReadAs count text (Ok None) = IsEmpty text
IsReadAs count text (Ok (Some asked)) = IsLineOfAsked count text asked
IsReadAs count text (Err code) = Unit {0}

-- spaces are gaps
gaps_of_spaces : (text : List ℕ) → AreSpaces text → list_all is_gap text ≡ true
gaps_of_spaces [] e = refl
gaps_of_spaces (b ∷ text) e =
    let parts = and_parts (is_space b) (list_all is_space text) e in
    and_from (is_gap b) (list_all is_gap text) (or_left (is_space b) (b == tab) parts.0) (gaps_of_spaces text parts.1)

passed_by : (b : ℕ) (text : List ℕ) → (list_all is_gap (b ∷ text) ≡ true) ⊎ ((b == number_sign) ≡ true)
    → IsEmpty (b ∷ text)
passed_by b text (inl e) = inl e
passed_by b text (inr e) = inr (text, ap (λ first. first ∷ text) (eqb-true b number_sign e))

passed_as : (text : List ℕ) → is_passed text ≡ true → IsEmpty text
passed_as [] e = inl refl
passed_as (b ∷ text) e = passed_by b text (or_cases (list_all is_gap (b ∷ text)) (b == number_sign) e)

module _ (count : ℕ) (text session : List ℕ) where
  counted_as : (number : ℕ) (words : List (List ℕ)) (found : Result Command ScriptCode) → 1 ≤ number
      → number ≤ session_limit → SaysNumber number session → IsLineOf (session ∷ words) text
      → IfOk found (SaysCommand words)
      → IsReadAs count text (counted count number found)
  counted_as number words (Err code) first last says line found = tt
  counted_as number words (Ok command) first last says line found =
      cond_both (nat_le request_limit count) (Err faults.TooManyRequests)
      (Ok (Some (record { session = number; command = command }))) (IsReadAs count text) (λ e. tt)
      (λ e. record {
        room = leb-false request_limit count e;
        first = first;
        last = last;
        session = session;
        number = says;
        words = words;
        says = found;
        line = line;
      })

  session_as : (found : Option ℕ) (words : List (List ℕ)) → number_of session ≡ found
      → IsLineOf (session ∷ words) text → IsReadAs count text (asked_in count (session_of found) words)
  session_as None words number line = tt
  session_as (Some number) words is line =
      let P : Result ℕ ScriptCode → Type 0 = λ found. IsReadAs count text (asked_in count found words) in
      cond_both (number == 0) (Err faults.BadNumber)
      (if nat_le number session_limit then Ok number else Err faults.TooManySessions) P (λ e. tt)
      (λ other. cond_both (nat_le number session_limit) (Ok number) (Err faults.TooManySessions) P
      (λ within.
      let none : number ≡ 0 → ⊥ = eqb-false number 0 other in
      counted_as number words (command_of words) (omega arith) (leb-true number session_limit within)
      (says_number session number is) line (command_says words))
      (λ e. tt))

words_as : (count : ℕ) (text : List ℕ) (words : List (List ℕ)) → IsLineOf words text
    → IsReadAs count text (asked_by count words)
words_as count text [] line = inl (gaps_of_spaces text line)
words_as count text (session ∷ words) line = session_as count text session (number_of session) words refl line

-- what is read of a line is what it says
pub line_as : (count : ℕ) (text : List ℕ) → IsReadAs count text (script_line count text)
line_as count text =
    cond_both (is_passed text) (Ok None) (asked_by count (spaced_words text)) (IsReadAs count text)
    (passed_as text) (λ e. words_as count text (spaced_words text) (line_of_words text))

-- Lines of groups

-- a line of an edit, and what it says
pub record IsLineOfCommand (text : List ℕ) (edit : EditCommand) : Type 0 where
  pub words : List (List ℕ)
  pub says : SaysEdit words edit
  pub line : IsLineOf words text

-- a line that is passed over, or one of an edit
abbrev pub IsEditAs : List ℕ → Result (Option EditCommand) ScriptCode → Type 0
IsEditAs text (Ok None) = IsEmpty text
IsEditAs text (Ok (Some edit)) = IsLineOfCommand text edit
IsEditAs text (Err code) = Unit {0}

edit_as : (count : ℕ) (text : List ℕ) (words : List (List ℕ)) (found : Result EditCommand ScriptCode)
    → IsLineOf words text → IfOk found (SaysEdit words) → IsEditAs text (edit_counted count found)
edit_as count text words (Err code) line says = tt
edit_as count text words (Ok edit) line says =
    cond_both (nat_le edit_limit count) (Err faults.TooManyEdits) (Ok (Some edit)) (IsEditAs text) (λ e. tt)
    (λ e. record { words = words; says = says; line = line })

-- what is read of a line of a group is what it says
pub edit_line_as : (count : ℕ) (text : List ℕ) → IsEditAs text (edit_line count text)
edit_line_as count text =
    let words = spaced_words text in
    cond_both (is_passed text) (Ok None) (edit_counted count (edit_of words)) (IsEditAs text)
    (passed_as text) (λ e. edit_as count text words (edit_of words) (line_of_words text) (edit_says words))
