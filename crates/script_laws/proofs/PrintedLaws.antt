-- What requests are printed as is a script of them.
use Rattle.std.specs.Prelude.{◌≡◌, ◌≤◌, ◌<◌, ◌^◌, ◌++◌, ℕ, true, List, [], ◌∷◌, Some, None, Ok, codes, length, map}
use Rattle.std.specs.Fmt.{decimal}
use Rattle.std.specs.List.{AllByRecursion, flat_map}
use Rattle.std.specs.Str.{IsUtf8, chars, is_utf8}
use Rattle.std.proofs.Common.{refl, sym, ap, subst, ◌∙◌, inl, append_assoc, arith}
use Rattle.std.proofs.lemmas.Fmt.{IsAscii-decimal, length-decimal-le}
use Rattle.std.proofs.lemmas.List.{append-nil}
use Rattle.std.proofs.lemmas.Str.{IsUtf8-append, IsUtf8-from_ascii, IsUtf8-from_is_utf8, is_utf8-from_IsUtf8}
use lib.Utf8.{encode}
use Rattle.dita_doc.specs.Bytes.{space}
use Rattle.dita_doc.specs.Lines.{line}
use Rattle.dita_doc.specs.Request.{Edit, Put, PutIf, Remove, Request, Single, Get, Names, Build, Group}
use Rattle.script_text.specs.Printed.{behind_edit, behind_request, body_text, edit_line, edit_text, request_line, step_text, steps_text}
use Rattle.script_text.specs.Script.{Step, script_of}
use Rattle.script_laws.specs.Blocks.{AreEditWords, AreItems, AreTextOf, AreWordsOf, Asks, Does, HasEditName, HasNames, IsBehind, IsBehindEdit, IsBody, IsLineOfEdit, IsLineOfStep, Steps, edits_of, step_of}
use Rattle.script_laws.specs.Printable.{CanAsk, CanEdit, CanName, CanPrint, CanPut, CanStep}
use Rattle.script_laws.specs.Words.{AreBehind, IsLineOf, SaysNumber}
use Rattle.script_laws.proofs.WholeLaws.{script_read}

-- Words with a space between each two

abbrev behind_words : List (List ℕ) → List ℕ
behind_words [] = []
behind_words (word ∷ []) = space ∷ word
behind_words (word ∷ next ∷ words) = space ∷ word ++ behind_words (next ∷ words)

are_behind : (words : List (List ℕ)) → AreBehind words (behind_words words)
are_behind [] = refl
are_behind (word ∷ []) = ([], [], refl, ap (λ (rest : List ℕ). space ∷ rest) (sym (append-nil word)), refl)
are_behind (word ∷ next ∷ words) = ([], behind_words (next ∷ words), refl, refl, are_behind (next ∷ words))

-- a line of a word and those behind it
line_of : (word : List ℕ) (words : List (List ℕ)) → IsLineOf (word ∷ words) (word ++ behind_words words)
line_of word words = ([], behind_words words, refl, refl, are_behind words)

-- UTF-8

utf8_number : (number : ℕ) → number < 10 ^ 18 → IsUtf8 (decimal number)
utf8_number number low = IsUtf8-from_ascii (decimal number) (IsAscii-decimal number (omega arith))

utf8_name : (name : List ℕ) → CanName name → IsUtf8 name
utf8_name name can = IsUtf8-from_is_utf8 name can.utf8

utf8_both : (front back : List ℕ) → is_utf8 front ≡ true → IsUtf8 back → IsUtf8 (front ++ back)
utf8_both front back utf8 behind = IsUtf8-append front back (IsUtf8-from_is_utf8 front utf8) behind

-- with a space behind it
utf8_gap : (front : List ℕ) → IsUtf8 front → IsUtf8 (front ++ codes " ")
unfolding is_utf8 chars encode
utf8_gap front utf8 = IsUtf8-append front (codes " ") utf8 (IsUtf8-from_is_utf8 (codes " ") refl)

-- Numbers

says : (number : ℕ) → number < 10 ^ 18 → SaysNumber number (decimal number)
says number low = record {
  zeros = [];
  are = refl;
  is = refl;
  short = length-decimal-le 18 number (omega arith) low (omega arith);
}

-- Edits

edit_names : (edit : Edit) → CanEdit edit → HasEditName edit
edit_names (Put name body) can = can.0.named
edit_names (PutIf version name body) can = can.1.named
edit_names (Remove name) can = can.named

abbrev edit_words : Edit → List (List ℕ)
edit_words (Put name body) = name ∷ []
edit_words (PutIf version name body) = decimal version ∷ name ∷ []
edit_words (Remove name) = name ∷ []

abbrev edit_word : Edit → List ℕ
edit_word (Put name body) = codes "put"
edit_word (PutIf version name body) = codes "putif"
edit_word (Remove name) = codes "remove"

edit_says : (edit : Edit) → CanEdit edit
    → AreEditWords edit (edit_word edit ∷ edit_words edit)
edit_says (Put name body) can = refl
edit_says (PutIf version name body) can = (decimal version, says version can.0, refl)
edit_says (Remove name) can = refl

edit_is : (edit : Edit) → edit_line edit ≡ edit_word edit ++ behind_words (edit_words edit)
edit_is (Put name body) = refl
edit_is (PutIf version name body) =
    ap (λ (rest : List ℕ). codes "putif " ++ rest) (append_assoc (decimal version) (codes " ") name)
edit_is (Remove name) = refl

edit_utf8 : (edit : Edit) → CanEdit edit → IsUtf8 (edit_line edit)
unfolding is_utf8 chars encode
edit_utf8 (Put name body) can = utf8_both (codes "put ") name refl (utf8_name name can.0)
edit_utf8 (PutIf version name body) can = IsUtf8-append (codes "putif " ++ decimal version ++ codes " ") name
    (utf8_gap (codes "putif " ++ decimal version) (utf8_both (codes "putif ") (decimal version) refl
    (utf8_number version can.0))) (utf8_name name can.1)
edit_utf8 (Remove name) can = utf8_both (codes "remove ") name refl (utf8_name name can)

line_of_edit : (edit : Edit) → CanEdit edit → IsLineOfEdit edit (edit_line edit)
line_of_edit edit can = record {
  name = edit_names edit can;
  words = edit_word edit ∷ edit_words edit;
  says = edit_says edit can;
  line = subst (λ (text : List ℕ). IsLineOf (edit_word edit ∷ edit_words edit) text) (sym (edit_is edit))
      (line_of (edit_word edit) (edit_words edit));
  utf8 = is_utf8-from_IsUtf8 (edit_line edit) (edit_utf8 edit can);
}

is_body : (body : List ℕ) → CanPut body → IsBody body (body_text body)
is_body body can = record { lines = can.lines; each = can.each; is = can.is; ended = refl }

is_behind_edit : (edit : Edit) → CanEdit edit → IsBehindEdit edit (behind_edit edit)
is_behind_edit (Put name body) can = is_body body can.1
is_behind_edit (PutIf version name body) can = is_body body can.2
is_behind_edit (Remove name) can = refl

-- Groups

are_edits : (edits : List Edit) → edits ≡ flat_map edits_of (map Does edits)
are_edits [] = refl
are_edits (edit ∷ edits) = ap (λ (more : List Edit). edit ∷ more) (are_edits edits)

are_items : (edits : List Edit) → AllByRecursion CanEdit edits
    → AreItems (map Does edits) (flat_map edit_text edits ++ line (codes "end"))
are_items [] can = refl
are_items (edit ∷ edits) can = (
  edit_text edit,
  flat_map edit_text edits ++ line (codes "end"),
  (edit_line edit, behind_edit edit, line_of_edit edit can.0, is_behind_edit edit can.0, refl),
  are_items edits can.1,
  append_assoc (edit_text edit) (flat_map edit_text edits) (line (codes "end")),
)

-- Requests

has_names : (request : Request) → CanAsk request → HasNames request
has_names (Single edit) can = edit_names edit can
has_names (Get name) can = can.named
has_names Names can = tt
has_names (Build root None) can = can.named
has_names (Build root (Some val)) can = (can.0.named, can.1.named)
has_names (Group edits) can = tt

abbrev request_words : Request → List (List ℕ)
request_words (Single edit) = edit_word edit ∷ edit_words edit
request_words (Get name) = codes "get" ∷ name ∷ []
request_words Names = codes "names" ∷ []
request_words (Build root None) = codes "build" ∷ root ∷ []
request_words (Build root (Some val)) = codes "build" ∷ root ∷ val ∷ []
request_words (Group edits) = codes "group" ∷ []

request_says : (request : Request) → CanAsk request → AreWordsOf request (request_words request)
request_says (Single edit) can = edit_says edit can
request_says (Get name) can = refl
request_says Names can = refl
request_says (Build root None) can = refl
request_says (Build root (Some val)) can = refl
request_says (Group edits) can = refl

request_is : (request : Request) → codes " " ++ request_line request ≡ behind_words (request_words request)
request_is (Single (Put name body)) = refl
request_is (Single (PutIf version name body)) =
    ap (λ (rest : List ℕ). codes " putif " ++ rest) (append_assoc (decimal version) (codes " ") name)
request_is (Single (Remove name)) = refl
request_is (Get name) = refl
request_is Names = refl
request_is (Build root None) = refl
request_is (Build root (Some val)) =
    ap (λ (rest : List ℕ). codes " build " ++ rest) (append_assoc root (codes " ") val)
request_is (Group edits) = refl

request_utf8 : (request : Request) → CanAsk request → IsUtf8 (request_line request)
unfolding is_utf8 chars encode
request_utf8 (Single edit) can = edit_utf8 edit can
request_utf8 (Get name) can = utf8_both (codes "get ") name refl (utf8_name name can)
request_utf8 Names can = IsUtf8-from_is_utf8 (codes "names") refl
request_utf8 (Build root None) can = utf8_both (codes "build ") root refl (utf8_name root can)
request_utf8 (Build root (Some val)) can = IsUtf8-append (codes "build " ++ root ++ codes " ") val
    (utf8_gap (codes "build " ++ root) (utf8_both (codes "build ") root refl (utf8_name root can.0)))
    (utf8_name val can.1)
request_utf8 (Group edits) can = IsUtf8-from_is_utf8 (codes "group") refl

is_behind : (request : Request) → CanAsk request → IsBehind request (behind_request request)
is_behind (Single edit) can = is_behind_edit edit can
is_behind (Get name) can = refl
is_behind Names can = refl
is_behind (Build root val) can = refl
is_behind (Group edits) can =
    record { items = map Does edits; are = are_edits edits; printed = are_items edits can.0; few = can.1 }

-- Steps

abbrev step_line : Step → List ℕ
step_line step = decimal step.session ++ codes " " ++ request_line step.request

step_utf8 : (step : Step) → step.session < 10 ^ 18 → CanAsk step.request → IsUtf8 (step_line step)
step_utf8 step low can = IsUtf8-append (decimal step.session ++ codes " ") (request_line step.request)
    (utf8_gap (decimal step.session) (utf8_number step.session low)) (request_utf8 step.request can)

line_of_step : (step : Step) → CanStep step → IsLineOfStep step (step_line step)
line_of_step step can =
    let low : step.session < 10 ^ 18 = omega (arith, can.last) in
    record {
      first = can.first;
      last = can.last;
      names = has_names step.request can.asks;
      session = decimal step.session;
      number = says step.session low;
      words = request_words step.request;
      request = request_says step.request can.asks;
      line = subst (λ (text : List ℕ). IsLineOf (decimal step.session ∷ request_words step.request) text)
          (ap (λ (behind : List ℕ). decimal step.session ++ behind) (sym (request_is step.request))
          ∙ sym (append_assoc (decimal step.session) (codes " ") (request_line step.request)))
          (line_of (decimal step.session) (request_words step.request));
      utf8 = is_utf8-from_IsUtf8 (step_line step) (step_utf8 step low can.asks);
    }

are_asked : (steps : List Step) → steps ≡ flat_map step_of (map Asks steps)
are_asked [] = refl
are_asked (step ∷ steps) = ap (λ (more : List Step). step ∷ more) (are_asked steps)

are_text : (steps : List Step) → AllByRecursion CanStep steps → AreTextOf (map Asks steps) (steps_text steps)
are_text [] can = refl
are_text (step ∷ steps) can = (
  step_text step,
  steps_text steps,
  (step_line step, behind_request step.request, line_of_step step can.0, is_behind step.request can.0.asks, refl),
  are_text steps can.1,
  refl,
)

pub printed_read : (steps : Steps) → CanPrint steps → script_of (steps_text steps) ≡ Ok steps
printed_read steps can = script_read (steps_text steps) steps (record {
  blocks = map Asks steps;
  asked = are_asked steps;
  text = steps_text steps;
  printed = are_text steps can.each;
  is = inl refl;
  few = can.few;
  short = can.short;
})
