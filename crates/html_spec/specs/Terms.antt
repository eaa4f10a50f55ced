-- The index of terms (DITA 1.3, "indexterm", "index-base"): the terms that pages have, one inside another, and the page that
-- lists them. What of the terms is listed, in which order, and the form of the page are our own.
use Rattle.std.specs.Prelude.{◌==◌, ◌||◌, ℕ, zero, suc, Bool, not, List, [], ◌∷◌, ◌++◌, Option, Some, None, filter, length, map, max, nat_le, slice_get, unwrap_or, codes, bytes_eq, if◌then◌else◌}
use Rattle.std.specs.BTreeSet.{insert_key}
use Rattle.std.specs.List.{filter_map, flat_map, fold, list_all, list_any}
use Rattle.std.specs.Option.{option_map_or}
use Rattle.std.specs.Ordering.{nat_cmp}
use Rattle.std.specs.Cmp.Lexicographic.{slice_cmp}
use Rattle.std.specs.declared.cmp.Ordering.{Ordering}
use Rattle.dita_doc.specs.HtmlEscapes.{escaped, escaped_value}
use Rattle.dita_doc.specs.PlainText.{folded}
use Rattle.dita_doc.specs.declared.content.TermEntry.{TermEntry}
use Rattle.dita_doc.specs.declared.fact.Html.{Html}
use Rattle.dita_doc.specs.declared.plan.PagePlan.{PagePlan}
use Rattle.dita_doc.specs.declared.plan.Plan.{Plan}
use Rattle.map_spec.specs.Elements.{is_a, is_whole}
use Rattle.map_spec.specs.Written.{Element, Written, End, Chars, Node, elements_below}
use Rattle.html_spec.specs.PageHtml.{page_limit, page_text}

-- Terms

abbrev pub is_term : Element → Bool
is_term element = is_a (codes "topic/indexterm") element

-- what stands in one of these is no text of the term around it
abbrev pub is_apart : Element → Bool
is_apart element = is_term element || is_a (codes "topic/index-base") element

abbrev pub own_characters : Written → List ℕ
own_characters End = []
own_characters (Chars text doc rest) = text ++ own_characters rest
own_characters (Node element inside rest) =
    (if is_apart element then [] else own_characters inside) ++ own_characters rest

-- the text of a term that holds these nodes
abbrev pub term_text : Written → List ℕ
term_text inside = folded (own_characters inside)

abbrev pub holds_term : Written → Bool
holds_term inside = list_any (is_whole (codes "topic/indexterm")) (elements_below inside)

-- the terms that hold no other, in document order: each with the texts from the outermost term around it to its own
abbrev pub paths_among : List (List ℕ) → Written → List (List (List ℕ))
paths_among around End = []
paths_among around (Chars text doc rest) = paths_among around rest
paths_among around (Node element inside rest) =
    (if is_term element
    then if holds_term inside then paths_among (around ++ term_text inside ∷ []) inside
    else (around ++ term_text inside ∷ []) ∷ []
    else paths_among around inside)
    ++ paths_among around rest

abbrev pub has_text : List ℕ → Bool
has_text text = not (length text == 0)

-- the entries of a page's content; one with an empty text is dropped
abbrev pub terms_of : ℕ → Written → List TermEntry
terms_of page nodes =
    map (λ path. record { path = path; page = page }) (filter (λ path. list_all has_text path) (paths_among [] nodes))

-- The list: at each level each text once, by its bytes

-- each once, rising
abbrev pub rising : {A : Type 0} → (A → A → Ordering) → List A → List A
rising order ones = fold (insert_key order) [] ones

abbrev pub first_text : TermEntry → Option (List ℕ)
first_text entry = slice_get entry.path 0

abbrev pub texts_of : List TermEntry → List (List ℕ)
texts_of entries = rising (slice_cmp nat_cmp) (filter_map first_text entries)

-- what stands below a text: the entries that begin with it, without it
abbrev pub path_behind : List ℕ → List (List ℕ) → Option (List (List ℕ))
path_behind text [] = None
path_behind text (first ∷ more) = if bytes_eq first text then Some more else None

abbrev pub entry_behind : List ℕ → TermEntry → Option TermEntry
entry_behind text entry = option_map_or
    (λ path. Some (record { path = path; page = entry.page })) (path_behind text entry.path) None

abbrev pub below : List ℕ → List TermEntry → List TermEntry
below text entries = filter_map (entry_behind text) entries

-- the pages of the entries that end here, each once, in the order of the plan
abbrev pub ends : TermEntry → Bool
ends entry = length entry.path == 0

abbrev pub pages_ended : List TermEntry → List ℕ
pages_ended entries = rising nat_cmp (map (λ (entry : TermEntry). entry.page) (filter ends entries))

-- The page

-- the names and the titles of the plan's pages
pub record IndexPages : Type 0 where
  pub names : List (List ℕ)
  pub titles : List (List ℕ)

abbrev pub index_link : IndexPages → ℕ → List ℕ
index_link pages at =
    codes " <a href=\"" ++ escaped_value (unwrap_or (slice_get pages.names at) []) ++ codes "\">"
    ++ escaped (unwrap_or (slice_get pages.titles at) []) ++ codes "</a>"

-- what goes on below a text, if anything does
abbrev pub list_of : List ℕ → List TermEntry → List ℕ
list_of items entries = if list_all ends entries then [] else codes "<ul>" ++ items ++ codes "</ul>"

abbrev pub item : IndexPages → (List TermEntry → List ℕ) → List ℕ → List TermEntry → List ℕ
item pages items text entries =
    codes "<li>" ++ escaped text ++ flat_map (index_link pages) (pages_ended entries)
    ++ list_of (items entries) entries ++ codes "</li>"

-- the items of so many levels
abbrev pub items_of : ℕ → IndexPages → List TermEntry → List ℕ
items_of zero pages entries = []
items_of (suc levels) pages entries =
    flat_map (λ text. item pages (items_of levels pages) text (below text entries)) (texts_of entries)

-- so many as the longest path has
abbrev pub levels_of : List TermEntry → ℕ
levels_of entries = fold (λ most (entry : TermEntry). max most (length entry.path)) 0 entries

abbrev pub body_of : IndexPages → List TermEntry → List ℕ
body_of pages entries =
    codes "<nav class=\"terms\"><h1>Index</h1><ul>" ++ items_of (levels_of entries) pages entries ++ codes "</ul></nav>"

-- a page that is too long has an empty body, and no fault
abbrev pub within : ℕ → List ℕ → Html
within limit body =
    let text = page_text (codes "Index") body [] in
    record { bytes = if nat_le (length text) limit then text else page_text (codes "Index") [] []; faults = [] }

abbrev pub index_pages : Plan → List (List ℕ) → IndexPages
index_pages plan titles =
    record { names = map (λ (page : PagePlan). page.name) plan.pages; titles = titles }

-- the name of the page; those of all other pages end with `.html`
abbrev pub terms_name : List ℕ
terms_name = codes "terms.htm"

-- the page of some entries, if there are any
abbrev pub terms_html : List TermEntry → Plan → List (List ℕ) → Option Html
terms_html [] plan titles = None
terms_html (entry ∷ entries) plan titles =
    Some (within page_limit (body_of (index_pages plan titles) (entry ∷ entries)))
