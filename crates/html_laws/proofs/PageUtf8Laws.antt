-- A page of texts in UTF-8 is UTF-8.
use Rattle.std.specs.Prelude.{◌≡◌, ℕ, Bool, true, false, List, [], ◌∷◌, ◌++◌, length, nat_le, codes}
use Rattle.std.specs.List.{AllByRecursion, flat_map}
use Rattle.std.specs.Str.{IsUtf8}
use Rattle.std.proofs.Common.{refl}
use Rattle.std.proofs.lemmas.Str.{IsUtf8-append, IsUtf8-nil}
use Rattle.dita_doc.specs.HtmlEscapes.{escaped, escaped_value}
use Rattle.dita_doc.specs.Lines.{line}
use Rattle.dita_doc.specs.declared.content.LinkKind.{LinkKind}
use Rattle.dita_doc.specs.declared.content.LinkKind.TheVariants as links
use Rattle.dita_doc.specs.declared.content.PageLink.{PageLink}
use Rattle.dita_doc.specs.declared.fact.Html.{Html}
use Rattle.html_spec.specs.PageHtml.{kind_text, link_item, page_text, page_within, related_line}
use Rattle.html_laws.specs.Utf8.{IsUtf8Link}
use Rattle.html_laws.proofs.TextUtf8Laws.{utf8_codes, utf8_escaped, utf8_three, utf8_value}

pub utf8_line : (text : List ℕ) → IsUtf8 text → IsUtf8 (line text)
utf8_line text is = IsUtf8-append text (10 ∷ []) is (utf8_codes (10 ∷ []) refl)

pub utf8_each : {X : Type 0} (P : X → Type 0) (f : X → List ℕ) (xs : List X) → ((x : X) → P x → IsUtf8 (f x))
    → AllByRecursion P xs → IsUtf8 (flat_map f xs)
utf8_each P f [] each all = IsUtf8-nil
utf8_each P f (x ∷ xs) each all = IsUtf8-append (f x) (flat_map f xs) (each x all.0) (utf8_each P f xs each all.1)

utf8_kind : (kind : LinkKind) → IsUtf8 (kind_text kind)
utf8_kind links.Previous = utf8_codes (codes "previous") refl
utf8_kind links.Next = utf8_codes (codes "next") refl
utf8_kind links.Sibling = utf8_codes (codes "sibling") refl
utf8_kind links.Related = utf8_codes (codes "related") refl

utf8_item : (link : PageLink) → IsUtf8Link link → IsUtf8 (link_item link)
utf8_item link is =
    let kind = kind_text link.kind in
    let href = escaped_value link.href in
    let label = escaped link.label in
    let front = utf8_three (codes "<li class=\"") kind (codes "\"><a href=\"")
    (utf8_codes (codes "<li class=\"") refl) (utf8_kind link.kind) (utf8_codes (codes "\"><a href=\"") refl) in
    let middle = utf8_three (codes "<li class=\"" ++ kind ++ codes "\"><a href=\"") href (codes "\">") front
    (utf8_value link.href is.0) (utf8_codes (codes "\">") refl) in
    utf8_three (codes "<li class=\"" ++ kind ++ codes "\"><a href=\"" ++ href ++ codes "\">") label
    (codes "</a></li>") middle (utf8_escaped link.label is.1) (utf8_codes (codes "</a></li>") refl)

utf8_related : (related : List PageLink) → AllByRecursion IsUtf8Link related → IsUtf8 (related_line related)
utf8_related [] all = IsUtf8-nil
utf8_related (link ∷ more) all =
    let start = codes "<nav class=\"related\"><ul>" in
    let items = flat_map link_item (link ∷ more) in
    utf8_line (start ++ items ++ codes "</ul></nav>")
    (utf8_three start items (codes "</ul></nav>") (utf8_codes (codes "<nav class=\"related\"><ul>") refl)
    (utf8_each IsUtf8Link link_item (link ∷ more) utf8_item all) (utf8_codes (codes "</ul></nav>") refl))

utf8_head : (title : List ℕ) → IsUtf8 title
    → IsUtf8 (line (codes "<html><head><meta charset=\"utf-8\"><title>" ++ escaped title ++ codes "</title></head>"))
utf8_head title is =
    utf8_line (codes "<html><head><meta charset=\"utf-8\"><title>" ++ escaped title ++ codes "</title></head>")
    (utf8_three (codes "<html><head><meta charset=\"utf-8\"><title>") (escaped title) (codes "</title></head>")
    (utf8_codes (codes "<html><head><meta charset=\"utf-8\"><title>") refl) (utf8_escaped title is)
    (utf8_codes (codes "</title></head>") refl))

-- four lines, a list of links, and a line
utf8_lines : (a b c d e f : List ℕ) → IsUtf8 a → IsUtf8 b → IsUtf8 c → IsUtf8 d → IsUtf8 e → IsUtf8 f
    → IsUtf8 (a ++ b ++ c ++ d ++ e ++ f)
utf8_lines a b c d e f first second third fourth fifth sixth =
    utf8_three (a ++ b ++ c ++ d) e f (utf8_three (a ++ b) c d (IsUtf8-append a b first second) third fourth) fifth sixth

pub text_utf8 : (title body : List ℕ) (related : List PageLink) → IsUtf8 title → IsUtf8 body
    → AllByRecursion IsUtf8Link related → IsUtf8 (page_text title body related)
text_utf8 title body related titled within linked =
    utf8_lines (line (codes "<!DOCTYPE html>"))
    (line (codes "<html><head><meta charset=\"utf-8\"><title>" ++ escaped title ++ codes "</title></head>"))
    (line (codes "<body>")) (line body) (related_line related) (line (codes "</body></html>"))
    (utf8_line (codes "<!DOCTYPE html>") (utf8_codes (codes "<!DOCTYPE html>") refl)) (utf8_head title titled)
    (utf8_line (codes "<body>") (utf8_codes (codes "<body>") refl)) (utf8_line body within)
    (utf8_related related linked) (utf8_line (codes "</body></html>") (utf8_codes (codes "</body></html>") refl))

-- by whether it is too long
within_by : (limit : ℕ) (name : List ℕ) (line : ℕ) (title : List ℕ) (body : Html) (related : List PageLink)
    (fits : Bool) → nat_le (length (page_text title body.bytes related)) limit ≡ fits → IsUtf8 title
    → IsUtf8 body.bytes → AllByRecursion IsUtf8Link related
    → IsUtf8 (page_within limit name line title body related).bytes
within_by limit name line title body related true e titled within linked =
    rw e (text_utf8 title body.bytes related titled within linked)
within_by limit name line title body related false e titled within linked =
    rw e (text_utf8 title [] [] titled IsUtf8-nil tt)

pub page_utf8 : (limit : ℕ) (name : List ℕ) (line : ℕ) (title : List ℕ) (body : Html) (related : List PageLink)
    → IsUtf8 title → IsUtf8 body.bytes → AllByRecursion IsUtf8Link related
    → IsUtf8 (page_within limit name line title body related).bytes
page_utf8 limit name line title body related titled within linked =
    within_by limit name line title body related _ refl titled within linked
