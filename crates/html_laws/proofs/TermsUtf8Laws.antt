-- The page of the terms of UTF-8 is UTF-8.
use Rattle.std.specs.Prelude.{◌++◌, ℕ, zero, suc, List, [], ◌∷◌, Option, Some, None, IfSome, filter, length, nat_le, slice_get, unwrap_or, codes, bytes_eq, if◌then◌else◌}
use Rattle.std.specs.BTreeSet.{insert_key}
use Rattle.std.specs.List.{AllByRecursion, filter_map, flat_map, fold, list_all}
use Rattle.std.specs.Ordering.{match_ordering, nat_cmp}
use Rattle.std.specs.Cmp.Lexicographic.{slice_cmp}
use Rattle.std.specs.Str.{IsUtf8}
use Rattle.std.specs.declared.cmp.Ordering.{Ordering}
use Rattle.std.specs.declared.cmp.Ordering.TheVariants.{Less, Equal, Greater}
use Rattle.std.proofs.Common.{refl}
use Rattle.std.proofs.lemmas.Str.{IsUtf8-append, IsUtf8-nil}
use Rattle.dita_doc.specs.HtmlEscapes.{escaped, escaped_value}
use Rattle.dita_doc.specs.declared.content.TermEntry.{TermEntry}
use Rattle.dita_doc.specs.declared.fact.Html.{Html}
use Rattle.dita_doc.specs.declared.plan.PagePlan.{PagePlan}
use Rattle.dita_doc.specs.declared.plan.Plan.{Plan}
use Rattle.dita_doc.proofs.EscapeUtf8Laws.{utf8_folded}
use Rattle.map_spec.specs.Written.{Written, End, Chars, Node}
use Rattle.html_spec.specs.PageHtml.{page_limit, page_text}
use Rattle.html_spec.specs.Terms.{IndexPages, below, body_of, ends, entry_behind, first_text, has_text, holds_term, is_apart, is_term, item, items_of, levels_of, list_of, own_characters, index_link, pages_ended, index_pages, path_behind, paths_among, term_text, terms_html, terms_of, texts_of, within}
use Rattle.html_laws.specs.Utf8.{IsUtf8Content, IsUtf8Page}
use Rattle.html_laws.proofs.DomainUtf8Laws.{AreUtf8Names}
use Rattle.html_laws.proofs.EachLaws.{chosen, of_any, of_both, of_filter_map, of_kept, of_map_or, of_mapped, of_option, of_place}
use Rattle.html_laws.proofs.PageUtf8Laws.{text_utf8, utf8_each}
use Rattle.html_laws.proofs.TextUtf8Laws.{utf8_codes, utf8_escaped, utf8_three, utf8_value}

-- Terms

utf8_own : (nodes : Written) → IsUtf8Content nodes → IsUtf8 (own_characters nodes)
utf8_own End all = IsUtf8-nil
utf8_own (Chars text doc rest) all = IsUtf8-append text (own_characters rest) all.0 (utf8_own rest all.1)
utf8_own (Node element inside rest) all =
    IsUtf8-append (if is_apart element then [] else own_characters inside) (own_characters rest)
    (chosen IsUtf8 (is_apart element) [] (own_characters inside) IsUtf8-nil (utf8_own inside all.1))
    (utf8_own rest all.2)

utf8_paths : (around : List (List ℕ)) (nodes : Written) → AreUtf8Names around → IsUtf8Content nodes
    → AllByRecursion AreUtf8Names (paths_among around nodes)
utf8_paths around End above all = tt
utf8_paths around (Chars text doc rest) above all = utf8_paths around rest above all.1
utf8_paths around (Node element inside rest) above all =
    let longer = around ++ term_text inside ∷ [] in
    let longer_is = of_both IsUtf8 around (term_text inside ∷ []) above
    (utf8_folded (own_characters inside) (utf8_own inside all.1), tt) in
    let whole = longer ∷ [] in
    let deeper = paths_among longer inside in
    let other = paths_among around inside in
    of_both AreUtf8Names
    (if is_term element then if holds_term inside then deeper else whole else other) (paths_among around rest)
    (chosen (AllByRecursion AreUtf8Names) (is_term element) (if holds_term inside then deeper else whole) other
    (chosen (AllByRecursion AreUtf8Names) (holds_term inside) deeper whole (utf8_paths longer inside longer_is all.1)
    (longer_is, tt))
    (utf8_paths around inside above all.1))
    (utf8_paths around rest above all.2)

abbrev pub IsUtf8Entry : TermEntry → Type 0
IsUtf8Entry entry = AreUtf8Names entry.path

pub utf8_terms : (page : ℕ) (nodes : Written) → IsUtf8Content nodes → AllByRecursion IsUtf8Entry (terms_of page nodes)
utf8_terms page nodes all =
    let paths = paths_among [] nodes in
    let made = λ (path : List (List ℕ)). (let entry : TermEntry = record { path = path; page = page } in entry) in
    of_mapped AreUtf8Names IsUtf8Entry made (filter (λ path. list_all has_text path) paths) (λ path is. is)
    (of_kept AreUtf8Names (λ path. list_all has_text path) paths (utf8_paths [] nodes tt all))

-- Texts in order

by_order : {X : Type 0} (P : X → Type 0) (order : Ordering) (less equal greater : X) → P less → P equal → P greater
    → P (match_ordering order less equal greater)
by_order P Less less equal greater first second third = first
by_order P Equal less equal greater first second third = second
by_order P Greater less equal greater first second third = third

module _ {X : Type 0} (P : X → Type 0) (order : X → X → Ordering) where
  of_inserted : (xs : List X) (x : X) → AllByRecursion P xs → P x → AllByRecursion P (insert_key order xs x)
  of_inserted [] x all is = (is, tt)
  of_inserted (first ∷ xs) x all is =
      by_order (AllByRecursion P) (order x first) (x ∷ first ∷ xs) (first ∷ xs) (first ∷ insert_key order xs x)
      (is, all) all (all.0, of_inserted xs x all.1 is)

  of_folded : (done xs : List X) → AllByRecursion P done → AllByRecursion P xs
      → AllByRecursion P (fold (insert_key order) done xs)
  of_folded done [] before all = before
  of_folded done (x ∷ xs) before all =
      of_folded (insert_key order done x) xs (of_inserted done x before all.0) all.1

utf8_texts : (entries : List TermEntry) → AllByRecursion IsUtf8Entry entries → AllByRecursion IsUtf8 (texts_of entries)
utf8_texts entries all =
    of_folded IsUtf8 (slice_cmp nat_cmp) [] (filter_map first_text entries) tt
    (of_filter_map IsUtf8Entry IsUtf8 first_text entries (λ entry is. of_place IsUtf8 entry.path 0 is) all)

utf8_behind : (text : List ℕ) (path : List (List ℕ)) → AreUtf8Names path → IfSome (path_behind text path) AreUtf8Names
utf8_behind text [] all = tt
utf8_behind text (first ∷ more) all =
    chosen (λ (path : Option (List (List ℕ))). IfSome path AreUtf8Names) (bytes_eq first text) (Some more) None all.1 tt

utf8_below : (text : List ℕ) (entries : List TermEntry) → AllByRecursion IsUtf8Entry entries
    → AllByRecursion IsUtf8Entry (below text entries)
utf8_below text entries all =
    of_filter_map IsUtf8Entry IsUtf8Entry (entry_behind text) entries
    (λ entry is. of_map_or AreUtf8Names (λ (found : Option TermEntry). IfSome found IsUtf8Entry)
    (λ path. Some (record { path = path; page = entry.page })) (path_behind text entry.path) None (λ path one. one)
    (utf8_behind text entry.path is) tt) all

-- Items

abbrev pub AreUtf8Pages : IndexPages → Type 0
AreUtf8Pages pages = AllByRecursion IsUtf8 pages.names × AllByRecursion IsUtf8 pages.titles

module _ (pages : IndexPages) (known : AreUtf8Pages pages) where
  utf8_link : (at : ℕ) → IsUtf8 (index_link pages at)
  utf8_link at =
      let name = unwrap_or (slice_get pages.names at) [] in
      let title = unwrap_or (slice_get pages.titles at) [] in
      let named = of_option IsUtf8 (slice_get pages.names at) [] (of_place IsUtf8 pages.names at known.0) IsUtf8-nil in
      let titled = of_option IsUtf8 (slice_get pages.titles at) [] (of_place IsUtf8 pages.titles at known.1) IsUtf8-nil
      in
      utf8_three (codes " <a href=\"" ++ escaped_value name ++ codes "\">") (escaped title) (codes "</a>")
      (utf8_three (codes " <a href=\"") (escaped_value name) (codes "\">") (utf8_codes (codes " <a href=\"") refl)
      (utf8_value name named) (utf8_codes (codes "\">") refl))
      (utf8_escaped title titled) (utf8_codes (codes "</a>") refl)

  utf8_list : (items : List ℕ) (entries : List TermEntry) → IsUtf8 items → IsUtf8 (list_of items entries)
  utf8_list items entries is =
      chosen IsUtf8 (list_all ends entries) [] (codes "<ul>" ++ items ++ codes "</ul>") IsUtf8-nil
      (utf8_three (codes "<ul>") items (codes "</ul>") (utf8_codes (codes "<ul>") refl) is
      (utf8_codes (codes "</ul>") refl))

  utf8_item : (items : List TermEntry → List ℕ) (text : List ℕ) (entries : List TermEntry) → IsUtf8 text
      → IsUtf8 (items entries) → IsUtf8 (item pages items text entries)
  utf8_item items text entries is within =
      let any : ℕ → Type 0 = λ at. Unit {0} in
      let links = flat_map (index_link pages) (pages_ended entries) in
      utf8_three (codes "<li>" ++ escaped text ++ links) (list_of (items entries) entries) (codes "</li>")
      (utf8_three (codes "<li>") (escaped text) links (utf8_codes (codes "<li>") refl) (utf8_escaped text is)
      (utf8_each any (index_link pages) (pages_ended entries) (λ at one. utf8_link at)
      (of_any any (pages_ended entries) (λ at. tt))))
      (utf8_list (items entries) entries within) (utf8_codes (codes "</li>") refl)

  utf8_items : (levels : ℕ) (entries : List TermEntry) → AllByRecursion IsUtf8Entry entries
      → IsUtf8 (items_of levels pages entries)
  utf8_items zero entries all = IsUtf8-nil
  utf8_items (suc levels) entries all =
      utf8_each IsUtf8 (λ text. item pages (items_of levels pages) text (below text entries)) (texts_of entries)
      (λ text is. utf8_item (items_of levels pages) text (below text entries) is
      (utf8_items levels (below text entries) (utf8_below text entries all))) (utf8_texts entries all)

  utf8_body : (entries : List TermEntry) → AllByRecursion IsUtf8Entry entries → IsUtf8 (body_of pages entries)
  utf8_body entries all =
      let start = codes "<nav class=\"terms\"><h1>Index</h1><ul>" in
      utf8_three start (items_of (levels_of entries) pages entries) (codes "</ul></nav>")
      (utf8_codes (codes "<nav class=\"terms\"><h1>Index</h1><ul>") refl) (utf8_items (levels_of entries) entries all)
      (utf8_codes (codes "</ul></nav>") refl)

-- The page

abbrev pub HasUtf8Html : Html → Type 0
HasUtf8Html html = IsUtf8 html.bytes

utf8_within : (limit : ℕ) (body : List ℕ) → IsUtf8 body → HasUtf8Html (within limit body)
utf8_within limit body is =
    let title = utf8_codes (codes "Index") refl in
    let text = page_text (codes "Index") body [] in
    chosen IsUtf8 (nat_le (length text) limit) text (page_text (codes "Index") [] [])
    (text_utf8 (codes "Index") body [] title is tt) (text_utf8 (codes "Index") [] [] title IsUtf8-nil tt)

pub utf8_terms_html : (entries : List TermEntry) (plan : Plan) (titles : List (List ℕ))
    → AllByRecursion IsUtf8Entry entries → AllByRecursion IsUtf8Page plan.pages → AllByRecursion IsUtf8 titles
    → IfSome (terms_html entries plan titles) HasUtf8Html
utf8_terms_html [] plan titles all known titled = tt
utf8_terms_html (entry ∷ entries) plan titles all known titled =
    let pages = index_pages plan titles in
    utf8_within page_limit (body_of pages (entry ∷ entries))
    (utf8_body pages
    (of_mapped IsUtf8Page IsUtf8 (λ (page : PagePlan). page.name) plan.pages (λ page is. is.1) known, titled)
    (entry ∷ entries) all)
