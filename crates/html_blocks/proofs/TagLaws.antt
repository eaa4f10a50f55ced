-- Start tags, part by part.
use Rattle.std.specs.Prelude.{◌≡◌, ◌++◌, ℕ, Bool, true, false, List, [], ◌∷◌, Option, Some, None, Result, Ok, Err, OnOk, codes, is_ok, unwrap_or, if◌then◌else◌}
use Rattle.std.specs.Borrow.{Bor}
use Rattle.std.specs.Option.{option_and_then, option_copied, option_map_or}
use Rattle.std.proofs.Common.{refl, sym, ap, ◌∙◌, append_assoc}
use Rattle.dita_doc.specs.HtmlEscapes.{escaped_value}
use Rattle.html_blocks.specs.Marks.{behind, class_text}
use Rattle.html_blocks.specs.Opened.{kind_text, note_begun, note_text}
use Rattle.html_blocks.specs.Shown.{id_behind, name_begun}
use Rattle.html_blocks.proofs.MarkLaws.{shown_value}
use Rattle.map_spec.specs.Elements.{attribute}
use Rattle.map_spec.specs.Titles.{id_of}
use Rattle.map_spec.specs.Written.{Element}
use Rattle.html_spec.specs.Blocks.{HtmlContext, attribute_text, class_with, id_attribute, if_some_text, note_class, start_of}

-- Ids

id_by : (around : HtmlContext) (topic : Bool) (id : List ℕ)
    → id_behind (if topic then None else Some around.topic) id ≡ id_attribute around topic id
id_by around true [] = refl
id_by around false [] = refl
id_by around true (b ∷ id) = refl
id_by around false (b ∷ id) = refl

chain : (a b c d : List ℕ) → ((a ++ b) ++ c) ++ d ≡ a ++ ((b ++ c) ++ d)
chain a b c d =
    append_assoc (a ++ b) c d
    ∙ append_assoc a b (c ++ d)
    ∙ ap (λ end. a ++ end) (sym (append_assoc b c d))

-- a start tag is written in parts
pub start_parts : (around : HtmlContext) (topic : Bool) (before : Option (List ℕ)) (element : Element) (name class more : List ℕ)
    → before ≡ (if topic then None else Some around.topic)
    → ((name_begun name before (id_of element) ++ attribute_text (codes "class") (if_some_text class)) ++ more)
    ++ codes ">" ≡ start_of around topic element name class more
start_parts around topic before element name class more is =
    let classed = attribute_text (codes "class") (if_some_text class) in
    ap (λ id. codes "<" ++ ((((name ++ attribute_text (codes "id") id) ++ classed) ++ more) ++ codes ">"))
    (ap (λ front. id_behind front (id_of element)) is ∙ id_by around topic (id_of element))
    ∙ ap (λ middle. codes "<" ++ (middle ++ codes ">"))
    (chain name (attribute_text (codes "id") (id_attribute around topic (id_of element))) classed more)

-- what a reference has behind it, or another
pub unwrap_now : (found : Option (Bor (List ℕ))) (other result : Bor (List ℕ)) → result ≡ unwrap_or found other
    → result.now ≡ unwrap_or (option_copied found) other.now
unwrap_now None other result is = ap (λ (r : Bor (List ℕ)). r.now) is
unwrap_now (Some text) other result is = ap (λ (r : Bor (List ℕ)). r.now) is

-- Notes

note_by : (kind : Option (List ℕ)) → escaped_value (codes "note"
    ++ option_map_or (λ some. codes " " ++ some) (option_and_then if_some_text kind) [])
    ≡ codes "note" ++ kind_text (unwrap_or kind [])
note_by None = refl
note_by (Some []) = refl
note_by (Some (b ∷ kind)) = refl

pub marked_note : (element : Element) (marks : List (List ℕ))
    → note_begun (unwrap_or (attribute (codes "type") element) []) ++ (behind marks ++ codes "\"")
    ≡ class_text (class_with marks (note_class element))
marked_note element marks =
    sym (shown_value (note_class element) marks
    ∙ ap (λ value. codes " class=\"" ++ (value ++ (behind marks ++ codes "\"")))
    (note_by (attribute (codes "type") element)))

pub note_parts : (element : Element) → note_text (unwrap_or (attribute (codes "type") element) [])
    ≡ attribute_text (codes "class") (if_some_text (note_class element))
note_parts element =
    sym (ap (λ value. codes " class=\"" ++ (value ++ codes "\"")) (note_by (attribute (codes "type") element)))

-- Texts that grow

-- what is appended, in other words
pub text_as : {T E : Type 0} (result : Result T E) (old new one other : List ℕ) → one ≡ other
    → OnOk result (new ≡ old ++ one) → OnOk result (new ≡ old ++ other)
text_as (Ok done) old new one other same is = is ∙ ap (λ bytes. old ++ bytes) same
text_as (Err error) old new one other same is = tt

-- two parts
pub text_then : {T E : Type 0} (result : Result T E) (old middle new one more all : List ℕ) → middle ≡ old ++ one
    → one ++ more ≡ all → OnOk result (new ≡ middle ++ more) → OnOk result (new ≡ old ++ all)
text_then (Ok done) old middle new one more all first same is =
    is ∙ ap (λ bytes. bytes ++ more) first ∙ append_assoc old one more ∙ ap (λ bytes. old ++ bytes) same
text_then (Err error) old middle new one more all first same is = tt

-- three parts, of which the last is appended if there is memory
pub text_end : {T E : Type 0} (result : Result T E) (old first second new a b c all : List ℕ)
    → first ≡ old ++ a → second ≡ first ++ b → new ≡ (if is_ok result then second ++ c else second)
    → (a ++ b) ++ c ≡ all → OnOk result (new ≡ old ++ all)
text_end (Ok done) old first second new a b c all one two last same =
    last
    ∙ ap (λ bytes. bytes ++ c) two
    ∙ ap (λ bytes. (bytes ++ b) ++ c) one
    ∙ ap (λ bytes. bytes ++ c) (append_assoc old a b)
    ∙ append_assoc old (a ++ b) c
    ∙ ap (λ bytes. old ++ bytes) same
text_end (Err error) old first second new a b c all one two last same = tt

-- four parts, of which the last is appended if there is memory
pub text_last : {T E : Type 0} (result : Result T E) (old first second third new a b c d all : List ℕ)
    → first ≡ old ++ a → second ≡ first ++ b → third ≡ second ++ c
    → new ≡ (if is_ok result then third ++ d else third) → ((a ++ b) ++ c) ++ d ≡ all
    → OnOk result (new ≡ old ++ all)
text_last (Ok done) old first second third new a b c d all one two three last same =
    last
    ∙ ap (λ bytes. bytes ++ d) three
    ∙ ap (λ bytes. (bytes ++ c) ++ d) two
    ∙ ap (λ bytes. ((bytes ++ b) ++ c) ++ d) one
    ∙ ap (λ bytes. (bytes ++ c) ++ d) (append_assoc old a b)
    ∙ ap (λ bytes. bytes ++ d) (append_assoc old (a ++ b) c)
    ∙ append_assoc old ((a ++ b) ++ c) d
    ∙ ap (λ bytes. old ++ bytes) same
text_last (Err error) old first second third new a b c d all one two three last same = tt
