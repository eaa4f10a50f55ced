-- The page of terms is a page.
use Rattle.std.specs.Prelude.{◌≡◌, ◌++◌, ℕ, zero, suc, List, [], ◌∷◌, Option, Some, None, IfSome, Result, Ok, Err, length, nat_le, slice_get, unwrap_or, codes}
use Rattle.std.specs.List.{flat_map, list_all}
use Rattle.std.proofs.Common.{refl, sym, ◌∙◌, append_assoc, subst}
use Rattle.dita_doc.specs.HtmlEscapes.{escaped, escaped_value}
use Rattle.dita_doc.specs.declared.content.TermEntry.{TermEntry}
use Rattle.dita_doc.specs.declared.fact.Html.{Html}
use Rattle.dita_doc.specs.declared.plan.Plan.{Plan}
use Rattle.dita_doc.specs.declared.plan.PlanStop.{PlanStop}
use Rattle.dita_doc.proofs.Lists.{joined_five}
use Rattle.reader_spec.specs.World.{World}
use Rattle.map_spec.specs.PlanOf.{limits, plan_of}
use Rattle.html_spec.specs.Blocks.{attribute_text}
use Rattle.html_spec.specs.PageHtml.{page_limit, page_text}
use Rattle.html_spec.specs.Terms.{IndexPages, below, body_of, ends, item, items_of, levels_of, list_of, index_link, pages_ended, index_pages, terms_html, texts_of, within}
use Rattle.part_spec.specs.Parts.{clean_terms, parts_of, rooms, terms_by, terms_in, terms_part, page_titles, total_limit, total_of}
use Rattle.html_laws.specs.Markup.{IsMarkup, IsPage, Itself, NoNodes, Text, attribute_names, element_names}
use Rattle.html_laws.proofs.BlocksLaws.{attribute_known}
use Rattle.html_laws.proofs.EachLaws.{chosen}
use Rattle.html_laws.proofs.MarkupLaws.{markup_beside, markup_element, markup_none, markup_text, no_attributes}
use Rattle.html_laws.proofs.PageLaws.{element, markup_each, text_is_page}

-- Links

markup_space : IsMarkup (codes " ")
markup_space = (Text (Itself 32) NoNodes, (refl, tt), refl)

nested_link : (space start href quote close title end : List ℕ)
    → space ++ ((start ++ href ++ quote ++ close) ++ title ++ end)
    ≡ space ++ (start ++ (href ++ (quote ++ (close ++ (title ++ end)))))
nested_link space start href quote close title end = simp append_assoc

link_parts : (href title : List ℕ)
    → codes " <a href=\"" ++ href ++ codes "\">" ++ title ++ codes "</a>"
    ≡ codes " " ++ element (codes "a") (codes " " ++ codes "href" ++ codes "=\"" ++ href ++ codes "\"") title
link_parts href title =
    joined_five (codes " <a href=\"") href (codes "\">") title (codes "</a>")
    ∙ sym (nested_link (codes " ") (codes "<a href=\"") href (codes "\"") (codes ">") title (codes "</a>"))

link_markup : (pages : IndexPages) (at : ℕ) → IsMarkup (index_link pages at)
unfolding element_names attribute_names
link_markup pages at =
    let href = unwrap_or (slice_get pages.names at) [] in
    let title = unwrap_or (slice_get pages.titles at) [] in
    let attributes = attribute_text (codes "href") (Some href) in
    let anchor = markup_element (codes "a") attributes (escaped title) refl
    (attribute_known (codes "href") (Some href) refl) (markup_text title) in
    subst IsMarkup (sym (link_parts (escaped_value href) (escaped title)))
    (markup_beside (codes " ") (element (codes "a") attributes (escaped title)) markup_space anchor)

-- Items

list_markup : (items : List ℕ) (entries : List TermEntry) → IsMarkup items → IsMarkup (list_of items entries)
unfolding element_names
list_markup items entries within =
    chosen IsMarkup (list_all ends entries) [] (codes "<ul>" ++ items ++ codes "</ul>") markup_none
    (markup_element (codes "ul") [] items refl no_attributes within)

item_parts : (start text links list end : List ℕ)
    → start ++ text ++ links ++ list ++ end ≡ start ++ (text ++ links ++ list) ++ end
item_parts start text links list end = simp append_assoc

item_markup : (pages : IndexPages) (items : List TermEntry → List ℕ) (text : List ℕ) (entries : List TermEntry)
    → IsMarkup (items entries) → IsMarkup (item pages items text entries)
unfolding element_names
item_markup pages items text entries within =
    let links = flat_map (index_link pages) (pages_ended entries) in
    let list = list_of (items entries) entries in
    let inside = markup_beside (escaped text ++ links) list
    (markup_beside (escaped text) links (markup_text text)
    (markup_each (index_link pages) (pages_ended entries) (link_markup pages)))
    (list_markup (items entries) entries within) in
    subst IsMarkup (sym (item_parts (codes "<li>") (escaped text) links list (codes "</li>")))
    (markup_element (codes "li") [] (escaped text ++ links ++ list) refl no_attributes inside)

items_markup : (levels : ℕ) (pages : IndexPages) (entries : List TermEntry) → IsMarkup (items_of levels pages entries)
items_markup zero pages entries = markup_none
items_markup (suc levels) pages entries =
    markup_each (λ text. item pages (items_of levels pages) text (below text entries)) (texts_of entries)
    (λ text. item_markup pages (items_of levels pages) text (below text entries)
    (items_markup levels pages (below text entries)))

-- The page

flat_index : (start items end : List ℕ) → start ++ items ++ end ≡ start ++ (items ++ end)
flat_index start items end = simp append_assoc

nested_index : (nav title list items list_end nav_end : List ℕ)
    → nav ++ (title ++ (list ++ items ++ list_end)) ++ nav_end
    ≡ nav ++ (title ++ (list ++ (items ++ (list_end ++ nav_end))))
nested_index nav title list items list_end nav_end = simp append_assoc

abbrev heading : List ℕ
heading = element (codes "h1") [] (codes "Index")

index_parts : (items : List ℕ)
    → codes "<nav class=\"terms\"><h1>Index</h1><ul>" ++ items ++ codes "</ul></nav>"
    ≡ element (codes "nav") (attribute_text (codes "class") (Some (codes "terms")))
    (heading ++ element (codes "ul") [] items)
index_parts items =
    flat_index (codes "<nav class=\"terms\"><h1>Index</h1><ul>") items (codes "</ul></nav>")
    ∙ sym (nested_index (codes "<nav class=\"terms\">") (codes "<h1>Index</h1>") (codes "<ul>") items (codes "</ul>")
    (codes "</nav>"))

body_markup : (pages : IndexPages) (entries : List TermEntry) → IsMarkup (body_of pages entries)
unfolding element_names attribute_names
body_markup pages entries =
    let items = items_of (levels_of entries) pages entries in
    let list = markup_element (codes "ul") [] items refl no_attributes
    (items_markup (levels_of entries) pages entries) in
    let title = markup_element (codes "h1") [] (codes "Index") refl no_attributes (markup_text (codes "Index")) in
    let attributes = attribute_text (codes "class") (Some (codes "terms")) in
    let inside = heading ++ element (codes "ul") [] items in
    subst IsMarkup (sym (index_parts items))
    (markup_element (codes "nav") attributes inside refl (attribute_known (codes "class") (Some (codes "terms")) refl)
    (markup_beside heading (element (codes "ul") [] items) title list))

abbrev IsHtmlPage : Html → Type 0
IsHtmlPage html = IsPage html.bytes

within_page : (limit : ℕ) (body : List ℕ) → IsMarkup body → IsHtmlPage (within limit body)
within_page limit body is =
    let text = page_text (codes "Index") body [] in
    chosen IsPage (nat_le (length text) limit) text (page_text (codes "Index") [] [])
    (text_is_page (codes "Index") body [] is) (text_is_page (codes "Index") [] [] markup_none)

abbrev ArePages : Option Html → Type 0
ArePages html = IfSome html IsHtmlPage

html_page : (entries : List TermEntry) (plan : Plan) (titles : List (List ℕ))
    → ArePages (terms_html entries plan titles)
html_page [] plan titles = tt
html_page (entry ∷ entries) plan titles =
    let pages = index_pages plan titles in
    within_page page_limit (body_of pages (entry ∷ entries)) (body_markup pages (entry ∷ entries))

terms_page : (world : World) (val : Option (List ℕ)) (made : Result Plan PlanStop)
    → ArePages (terms_by rooms total_limit world val made)
terms_page world val (Err stop) = tt
terms_page world val (Ok plan) =
    chosen ArePages (nat_le (total_of (parts_of rooms world plan val)) total_limit)
    (terms_part rooms world plan val) None
    (html_page (terms_in rooms world plan val) plan (page_titles world plan)) tt

pub terms_are_page : (world : World) (map : List ℕ) (val : Option (List ℕ))
    → IfSome (clean_terms world map val) (λ html. IsPage html.bytes)
unfolding clean_terms
terms_are_page world map val = terms_page world val (plan_of limits world map val)
