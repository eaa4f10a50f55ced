-- A page as a whole is markup behind the doctype.
use Rattle.std.specs.Prelude.{◌≡◌, ℕ, Bool, true, false, List, [], ◌∷◌, ◌++◌, Some, length, nat_le, codes}
use Rattle.std.specs.List.{flat_map}
use Rattle.std.proofs.Common.{refl, sym, ◌∙◌, subst, append_assoc}
use Rattle.dita_doc.specs.HtmlEscapes.{escaped, escaped_value}
use Rattle.dita_doc.specs.declared.content.LinkKind.{LinkKind}
use Rattle.dita_doc.specs.declared.content.LinkKind.TheVariants as links
use Rattle.dita_doc.specs.declared.content.PageLink.{PageLink}
use Rattle.dita_doc.specs.declared.fact.Html.{Html}
use Rattle.dita_doc.proofs.Lists.{joined_four}
use Rattle.html_spec.specs.Blocks.{attribute_text}
use Rattle.html_spec.specs.PageHtml.{kind_text, link_item, page_text, page_within, related_line}
use Rattle.html_laws.specs.Markup.{IsMarkup, IsPage, Itself, NoNodes, Text, attribute_names, element_names, void_names}
use Rattle.html_laws.proofs.BlocksLaws.{attribute_known}
use Rattle.html_laws.proofs.MarkupLaws.{markup_beside, markup_element, markup_none, markup_text, markup_void, no_attributes}

-- an element of this name, with these attributes, around nodes
abbrev pub element : (name attributes inside : List ℕ) → List ℕ
element name attributes inside =
    (codes "<" ++ name ++ attributes ++ codes ">") ++ inside ++ (codes "</" ++ name ++ codes ">")

abbrev pub line_end : List ℕ
line_end = 10 ∷ []

markup_line_end : IsMarkup line_end
markup_line_end = (Text (Itself 10) NoNodes, (refl, tt), refl)

pub markup_each : {X : Type 0} (f : X → List ℕ) (xs : List X) → ((x : X) → IsMarkup (f x)) → IsMarkup (flat_map f xs)
markup_each f [] each = markup_none
markup_each f (x ∷ xs) each = markup_beside (f x) (flat_map f xs) (each x) (markup_each f xs each)

-- The list of links

kind_shown : (kind : LinkKind) → escaped_value (kind_text kind) ≡ kind_text kind
kind_shown links.Previous = refl
kind_shown links.Next = refl
kind_shown links.Sibling = refl
kind_shown links.Related = refl

-- both sides in their parts, one behind the other
flat_item : (a kind b href c label d : List ℕ)
    → a ++ kind ++ b ++ href ++ c ++ label ++ d ≡ a ++ (kind ++ (b ++ (href ++ (c ++ (label ++ d)))))
flat_item a kind b href c label d = simp append_assoc

nested_item : (a kind b c d href e f label g h : List ℕ)
    → (a ++ kind ++ b ++ c) ++ ((d ++ href ++ e ++ f) ++ label ++ g) ++ h
    ≡ a ++ (kind ++ (b ++ (c ++ (d ++ (href ++ (e ++ (f ++ (label ++ (g ++ h)))))))))
nested_item a kind b c d href e f label g h = simp append_assoc

item_parts : (kind href label : List ℕ)
    → codes "<li class=\"" ++ kind ++ codes "\"><a href=\"" ++ href ++ codes "\">" ++ label ++ codes "</a></li>"
    ≡ element (codes "li") (codes " " ++ codes "class" ++ codes "=\"" ++ kind ++ codes "\"")
    (element (codes "a") (codes " " ++ codes "href" ++ codes "=\"" ++ href ++ codes "\"") label)
item_parts kind href label =
    flat_item (codes "<li class=\"") kind (codes "\"><a href=\"") href (codes "\">") label (codes "</a></li>")
    ∙ sym (nested_item (codes "<li class=\"") kind (codes "\"") (codes ">") (codes "<a href=\"") href (codes "\"")
    (codes ">") label (codes "</a>") (codes "</li>"))

item_markup : (link : PageLink) → IsMarkup (link_item link)
unfolding element_names attribute_names
item_markup link =
    let kind = kind_text link.kind in
    let anchor = markup_element (codes "a") (attribute_text (codes "href") (Some link.href)) (escaped link.label) refl
    (attribute_known (codes "href") (Some link.href) refl) (markup_text link.label) in
    let inside = element (codes "a") (attribute_text (codes "href") (Some link.href)) (escaped link.label) in
    let whole = markup_element (codes "li") (attribute_text (codes "class") (Some kind)) inside refl
    (attribute_known (codes "class") (Some kind) refl) anchor in
    subst IsMarkup (sym (item_parts kind (escaped_value link.href) (escaped link.label)))
    (subst (λ shown. IsMarkup
    (element (codes "li") (codes " " ++ codes "class" ++ codes "=\"" ++ shown ++ codes "\"") inside))
    (kind_shown link.kind) whole)

nested_nav : (a b items c d end : List ℕ)
    → a ++ (b ++ items ++ c) ++ d ++ end ≡ a ++ (b ++ (items ++ (c ++ (d ++ end))))
nested_nav a b items c d end = simp append_assoc

nav_parts : (items : List ℕ)
    → codes "<nav class=\"related\"><ul>" ++ items ++ codes "</ul></nav>" ++ line_end
    ≡ element (codes "nav") (attribute_text (codes "class") (Some (codes "related"))) (element (codes "ul") [] items)
    ++ line_end
nav_parts items =
    joined_four (codes "<nav class=\"related\"><ul>") items (codes "</ul></nav>") line_end
    ∙ sym (nested_nav (codes "<nav class=\"related\">") (codes "<ul>") items (codes "</ul>") (codes "</nav>") line_end)

related_markup : (related : List PageLink) → IsMarkup (related_line related)
unfolding element_names attribute_names
related_markup [] = markup_none
related_markup (link ∷ more) =
    let items = flat_map link_item (link ∷ more) in
    let list = markup_element (codes "ul") [] items refl no_attributes
    (markup_each link_item (link ∷ more) item_markup) in
    let attributes = attribute_text (codes "class") (Some (codes "related")) in
    let nav = markup_element (codes "nav") attributes (element (codes "ul") [] items) refl
    (attribute_known (codes "class") (Some (codes "related")) refl) list in
    subst IsMarkup (sym (nav_parts items))
    (markup_beside (element (codes "nav") attributes (element (codes "ul") [] items)) line_end nav markup_line_end)

-- The page

abbrev meta : List ℕ
meta = codes "<" ++ codes "meta" ++ attribute_text (codes "charset") (Some (codes "utf-8")) ++ codes ">"

abbrev head_of : List ℕ → List ℕ
head_of title = element (codes "head") [] (meta ++ element (codes "title") [] title)

abbrev body_of : (body related : List ℕ) → List ℕ
body_of body related = element (codes "body") [] (line_end ++ body ++ line_end ++ related)

abbrev whole_of : (title body related : List ℕ) → List ℕ
whole_of title body related =
    line_end ++ element (codes "html") [] (head_of title ++ line_end ++ body_of body related) ++ line_end

flat_page : (a b title c d body related e end : List ℕ)
    → (a ++ end) ++ (b ++ title ++ c ++ end) ++ (d ++ end) ++ (body ++ end) ++ related ++ (e ++ end)
    ≡ a ++ (end ++ (b ++ (title ++ (c ++ (end ++ (d ++ (end ++ (body ++ (end ++ (related ++ (e ++ end)))))))))))
flat_page a b title c d body related e end = simp append_assoc

nested_page : (a html head meta title_start title title_end head_end start body related body_end html_end end : List ℕ)
    → a ++ (end ++ (html ++ ((head ++ (meta ++ (title_start ++ title ++ title_end)) ++ head_end) ++ end
    ++ (start ++ (end ++ body ++ end ++ related) ++ body_end)) ++ html_end) ++ end)
    ≡ a ++ (end ++ (html ++ (head ++ (meta ++ (title_start ++ (title ++ (title_end ++ (head_end ++ (end ++ (start
    ++ (end ++ (body ++ (end ++ (related ++ (body_end ++ (html_end ++ end))))))))))))))))
nested_page a html head meta title_start title title_end head_end start body related body_end html_end end =
    simp append_assoc

frame : (title body related : List ℕ)
    → (codes "<!DOCTYPE html>" ++ line_end)
    ++ (codes "<html><head><meta charset=\"utf-8\"><title>" ++ title ++ codes "</title></head>" ++ line_end)
    ++ (codes "<body>" ++ line_end) ++ (body ++ line_end) ++ related ++ (codes "</body></html>" ++ line_end)
    ≡ codes "<!DOCTYPE html>" ++ whole_of title body related
frame title body related =
    flat_page (codes "<!DOCTYPE html>") (codes "<html><head><meta charset=\"utf-8\"><title>") title
    (codes "</title></head>") (codes "<body>") body related (codes "</body></html>") line_end
    ∙ sym (nested_page (codes "<!DOCTYPE html>") (codes "<html>") (codes "<head>") meta (codes "<title>") title
    (codes "</title>") (codes "</head>") (codes "<body>") body related (codes "</body>") (codes "</html>") line_end)

head_markup : (title : List ℕ) → IsMarkup (head_of (escaped title))
unfolding element_names void_names attribute_names
head_markup title =
    let charset = markup_void (codes "meta") (attribute_text (codes "charset") (Some (codes "utf-8"))) refl
    (attribute_known (codes "charset") (Some (codes "utf-8")) refl) in
    let text = markup_element (codes "title") [] (escaped title) refl no_attributes (markup_text title) in
    markup_element (codes "head") [] (meta ++ element (codes "title") [] (escaped title)) refl no_attributes
    (markup_beside meta (element (codes "title") [] (escaped title)) charset text)

body_of_markup : (body related : List ℕ) → IsMarkup body → IsMarkup related → IsMarkup (body_of body related)
unfolding element_names
body_of_markup body related within links =
    let front = markup_beside line_end body markup_line_end within in
    let middle = markup_beside (line_end ++ body) line_end front markup_line_end in
    markup_element (codes "body") [] (line_end ++ body ++ line_end ++ related) refl no_attributes
    (markup_beside (line_end ++ body ++ line_end) related middle links)

whole_markup : (title body related : List ℕ) → IsMarkup body → IsMarkup related
    → IsMarkup (whole_of (escaped title) body related)
unfolding element_names
whole_markup title body related within links =
    let head = head_of (escaped title) in
    let inside = markup_beside (head ++ line_end) (body_of body related)
    (markup_beside head line_end (head_markup title) markup_line_end) (body_of_markup body related within links) in
    let html = element (codes "html") [] (head ++ line_end ++ body_of body related) in
    let element_of = markup_element (codes "html") [] (head ++ line_end ++ body_of body related) refl no_attributes
    inside in
    markup_beside (line_end ++ html) line_end (markup_beside line_end html markup_line_end element_of) markup_line_end

page_from : (whole : List ℕ) → IsMarkup whole → IsPage (codes "<!DOCTYPE html>" ++ whole)
page_from whole is = (is.0, is.1, rw is.2 refl)

-- the text of a page whose body is markup
pub text_is_page : (title body : List ℕ) (related : List PageLink) → IsMarkup body → IsPage (page_text title body related)
text_is_page title body related within =
    subst IsPage (sym (frame (escaped title) body (related_line related)))
    (page_from (whole_of (escaped title) body (related_line related))
    (whole_markup title body (related_line related) within (related_markup related)))

-- by whether it is too long
within_by : (limit : ℕ) (name : List ℕ) (line : ℕ) (title : List ℕ) (body : Html) (related : List PageLink)
    (fits : Bool) → nat_le (length (page_text title body.bytes related)) limit ≡ fits → IsMarkup body.bytes
    → IsPage (page_within limit name line title body related).bytes
within_by limit name line title body related true e within = rw e (text_is_page title body.bytes related within)
within_by limit name line title body related false e within = rw e (text_is_page title [] [] markup_none)

pub page_is_page : (limit : ℕ) (name : List ℕ) (line : ℕ) (title : List ℕ) (body : Html) (related : List PageLink)
    → IsMarkup body.bytes → IsPage (page_within limit name line title body related).bytes
page_is_page limit name line title body related within =
    within_by limit name line title body related _ refl within
