-- The links of a page to other pages of a plan in UTF-8 are UTF-8.
use Rattle.std.specs.Prelude.{ℕ, List, [], ◌∷◌, ◌++◌, IfSome, slice_get}
use Rattle.std.specs.List.{AllByRecursion, filter_map, flat_map}
use Rattle.dita_doc.specs.declared.content.LinkKind.TheVariants as links
use Rattle.dita_doc.specs.declared.content.PageLink.{PageLink}
use Rattle.dita_doc.specs.declared.plan.PagePlan.{PagePlan}
use Rattle.dita_doc.specs.declared.plan.Plan.{Plan}
use Rattle.href_text.specs.Joined.{relative_path}
use Rattle.reader_spec.specs.World.{World}
use Rattle.map_spec.specs.Titles.{title_in}
use Rattle.link_spec.specs.Links.{LinkTo, family_links, links_of_kind, page_link, page_links, row_links, to_each_once}
use Rattle.part_spec.specs.Parts.{hrefs_once, all_page_links}
use Rattle.html_laws.specs.Utf8.{IsUtf8Link, IsUtf8Page, IsUtf8World}
use Rattle.html_laws.proofs.ContentUtf8Laws.{utf8_title_in}
use Rattle.html_laws.proofs.EachLaws.{of_any, of_both, of_filter_map, of_kept, of_map_or, of_option_map, of_place}
use Rattle.html_laws.proofs.ReferenceUtf8Laws.{utf8_relative}

utf8_once : (all : List PageLink) → AllByRecursion IsUtf8Link all → AllByRecursion IsUtf8Link (hrefs_once all)
utf8_once [] is = tt
utf8_once (link ∷ more) is = (is.0, of_kept IsUtf8Link _ (hrefs_once more) (utf8_once more is.1))

module _ (world : World) (plan : Plan) (all : IsUtf8World world) (pages : AllByRecursion IsUtf8Page plan.pages) where
  utf8_page_link : (page : PagePlan) (link : LinkTo) → IfSome (page_link world plan page link) IsUtf8Link
  utf8_page_link page link =
      of_option_map IsUtf8Page IsUtf8Link (λ (other : PagePlan). record {
        kind = link.kind;
        href = relative_path page.name other.name;
        label = title_in world other.id.doc [];
      }) (slice_get plan.pages link.page)
      (λ other is. (utf8_relative page.name other.name is.1, utf8_title_in world other.id.doc [] all is.0))
      (of_place IsUtf8Page plan.pages link.page pages)

  utf8_page_links : (page : ℕ) (found : List LinkTo) → AllByRecursion IsUtf8Link (page_links world plan page found)
  utf8_page_links page found =
      let any : LinkTo → Type 0 = λ link. Unit {0} in
      of_map_or IsUtf8Page (AllByRecursion IsUtf8Link)
      (λ own. filter_map (page_link world plan own) (to_each_once found)) (slice_get plan.pages page) []
      (λ own is. of_filter_map any IsUtf8Link (page_link world plan own) (to_each_once found)
      (λ link one. utf8_page_link own link) (of_any any (to_each_once found) (λ link. tt)))
      (of_place IsUtf8Page plan.pages page pages) tt

  -- with the links of the page's own elements
  pub utf8_links_of : (index : ℕ) (own : List PageLink) → AllByRecursion IsUtf8Link own
      → AllByRecursion IsUtf8Link (all_page_links world plan index own)
  utf8_links_of index own is =
      let families = family_links world plan index in
      let rows = row_links world plan index in
      utf8_once (families ++ rows ++ own)
      (of_both IsUtf8Link (families ++ rows) own
      (of_both IsUtf8Link families rows
      (utf8_page_links index
      (flat_map (links_of_kind world plan index) (links.Previous ∷ links.Next ∷ links.Sibling ∷ [])))
      (utf8_page_links index (links_of_kind world plan index links.Related))) is)
