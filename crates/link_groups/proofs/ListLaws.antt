-- The list of a page, with one link more, and as it is written.
use Rattle.std.specs.Prelude.{◌≡◌, ◌+◌, ◌<◌, ◌==◌, ◌||◌, ℕ, zero, suc, Bool, true, false, List, [], ◌∷◌, ◌++◌, Option, Some, None, IsTrue, length, map, option_map, slice_get, take}
use Rattle.std.specs.List.{filter_map, list_any}
use Rattle.std.specs.Option.{option_map_or, option_to_list}
use Rattle.std.proofs.Common.{refl, sym, ap, subst, ◌∙◌, append-nil, append_assoc, arith, get_or}
use Rattle.std.proofs.lemmas.Bool.Decides.{nat_tests}
use Rattle.std.proofs.lemmas.List.{map-append, take_more}
use Rattle.std.proofs.lemmas.List.Elements.{filter_map-append}
use Rattle.std.proofs.lemmas.Option.{none-some, same_Some}
use Rattle.dita_doc.specs.declared.content.LinkKind.{LinkKind}
use Rattle.dita_doc.specs.declared.content.PageLink.{PageLink}
use Rattle.dita_doc.specs.declared.plan.PagePlan.{PagePlan}
use Rattle.dita_doc.specs.declared.plan.Plan.{Plan}
use Rattle.dita_doc.proofs.Lists.{any_push}
use Rattle.dita_doc.proofs.Tests.{number_swaps}
use Rattle.link_spec.specs.Links.{LinkTo, page_link, page_links, to_each_once}
use Rattle.reader_spec.specs.World.{World}
use Rattle.readers.specs.Founded.{is_among}
use Rattle.readers.proofs.FoundedLaws.{among_behind, among_first}
use Rattle.link_groups.specs.LinkLists.{HoldsLinks, leads_to, link_beside, link_shown, links_to_nodes, page_link_in, page_link_to, with_link}
use Rattle.link_groups.specs.LinkNodes.{names_of_pages}
use Rattle.link_groups.specs.PageMarks.{has_mark}
use Rattle.link_groups.specs.declared.link_list.LinkList.{LinkList}
use Rattle.link_groups.specs.declared.link_list.LinkTo as declared
use Rattle.link_groups.specs.declared.link_nodes.LinkNode.{LinkNode}
use Rattle.link_groups.specs.declared.page_marks.PageMarks.{PageMarks}
use Rattle.link_groups.proofs.OnceLaws.{once_again, once_new}

abbrev link_of : LinkKind → ℕ → LinkTo
link_of kind page = record { kind = kind; page = page }

own_none : (own : ℕ) (kind : LinkKind) (page : ℕ) (b : Bool) → (page == own) ≡ b → b ≡ true
    → link_beside own kind page ≡ None
own_none own kind page true e is = rw e refl
own_none own kind page false e is = cc

other_some : (own : ℕ) (kind : LinkKind) (page : ℕ) (b : Bool) → (page == own) ≡ b → b ≡ false
    → link_beside own kind page ≡ Some (link_of kind page)
other_some own kind page false e is = rw e refl
other_some own kind page true e is = cc

-- a link to the page itself
pub held_own : (own : ℕ) (all : List LinkTo) (kind : LinkKind) (page : ℕ) (list : LinkList) → page ≡ list.page
    → HoldsLinks own all list → HoldsLinks own (with_link own all kind page) list
held_own own all kind page list same holds =
    let is : (page == own) ≡ true = let e : page ≡ own = same ∙ holds.page in grind (arith, nat_tests) in
    subst (λ l. HoldsLinks own l list)
    (sym (ap (λ l. all ++ option_to_list l) (own_none own kind page (page == own) refl is) ∙ append-nil all)) holds

-- it is another
another : (own page : ℕ) (list : LinkList) → (page ≡ list.page → ⊥) → list.page ≡ own → (page == own) ≡ false
another own page list apart is = let differs : page ≡ own → ⊥ = λ e. apart (e ∙ sym is) in grind (arith, nat_tests)

-- the marks of a list with one link more
marks_more : (all : List LinkTo) (kind : LinkKind) (page : ℕ) (old new : PageMarks)
    → ((other : ℕ) → has_mark other new ≡ ((other == page) || has_mark other old))
    → ((other : ℕ) → has_mark other old ≡ list_any (leads_to other) all)
    → (other : ℕ) → has_mark other new ≡ list_any (leads_to other) (all ++ link_of kind page ∷ [])
marks_more all kind page old new put seen other =
    put other
    ∙ (λ i. number_swaps other page i || seen other i)
    ∙ sym (any_push (leads_to other) all (link_of kind page))

-- a link to a page that the list has a link to
pub held_again : (own : ℕ) (all : List LinkTo) (kind : LinkKind) (page : ℕ) (old new : LinkList)
    → (page ≡ old.page → ⊥) → has_mark page old.seen ≡ true → new.page ≡ old.page
    → new.links.items ≡ old.links.items
    → ((other : ℕ) → has_mark other new.seen ≡ ((other == page) || has_mark other old.seen)) → HoldsLinks own all old
    → HoldsLinks own (with_link own all kind page) new
held_again own all kind page old new apart there same links put holds =
    let link : with_link own all kind page ≡ all ++ link_of kind page ∷ [] = ap (λ l. all ++ option_to_list l)
    (other_some own kind page (page == own) refl (another own page old apart holds.page)) in
    subst (λ l. HoldsLinks own l new) (sym link) (record {
      page = same ∙ holds.page;
      are =
          ap (map link_shown) links ∙ holds.are
          ∙ sym (once_again all (link_of kind page) (sym (holds.seen page) ∙ there));
      seen = marks_more all kind page old.seen new.seen put holds.seen;
    })

-- a link to a new page
pub held_new : (own : ℕ) (all : List LinkTo) (kind : LinkKind) (page : ℕ) (old new : LinkList)
    → (page ≡ old.page → ⊥) → has_mark page old.seen ≡ false → new.page ≡ old.page
    → new.links.items ≡ old.links.items ++ record { kind = kind; page = page } ∷ []
    → ((other : ℕ) → has_mark other new.seen ≡ ((other == page) || has_mark other old.seen)) → HoldsLinks own all old
    → HoldsLinks own (with_link own all kind page) new
held_new own all kind page old new apart absent same links put holds =
    let made : declared.LinkTo = record { kind = kind; page = page } in
    let link : with_link own all kind page ≡ all ++ link_of kind page ∷ [] = ap (λ l. all ++ option_to_list l)
    (other_some own kind page (page == own) refl (another own page old apart holds.page)) in
    subst (λ l. HoldsLinks own l new) (sym link) (record {
      page = same ∙ holds.page;
      are =
          ap (map link_shown) links ∙ map-append link_shown old.links.items (made ∷ [])
          ∙ ap (λ l. l ++ link_of kind page ∷ []) holds.are
          ∙ sym (once_new all (link_of kind page) (sym (holds.seen page) ∙ absent));
      seen = marks_more all kind page old.seen new.seen put holds.seen;
    })

-- The documents of pages

pub page_among : (pages : List PagePlan) (place : ℕ) (page : PagePlan) → Some page ≡ slice_get pages place
    → IsTrue (is_among (names_of_pages pages) page.id.doc)
page_among [] zero page is = absurd (none-some page (sym is))
page_among [] (suc place) page is = absurd (none-some page (sym is))
page_among (first ∷ pages) zero page is =
    subst (λ (p : PagePlan). IsTrue (is_among (names_of_pages (first ∷ pages)) p.id.doc))
    (same_Some first page (sym is)) (among_first first.id.doc (names_of_pages pages))
page_among (first ∷ pages) (suc place) page is =
    among_behind first.id.doc (names_of_pages pages) page.id.doc (page_among pages place page is)

-- The list as it is written

-- one link more to the page of a node
pub nodes_more : (own : ℕ) (all : List LinkTo) (kind : LinkKind) (nodes : List LinkNode) (index : ℕ) (d : LinkNode)
    (list : LinkList) → index < length nodes
    → HoldsLinks own (with_link own (all ++ links_to_nodes own kind (take index nodes)) kind (get_or nodes index d).page) list
    → HoldsLinks own (all ++ links_to_nodes own kind (take (index + 1) nodes)) list
nodes_more own all kind nodes index d list within holds =
    let node = get_or nodes index d in
    subst (λ links. HoldsLinks own links list) (
    append_assoc all (links_to_nodes own kind (take index nodes)) (option_to_list (link_beside own kind node.page))
    ∙ ap (λ links. all ++ links) (
    ap (λ links. links_to_nodes own kind (take index nodes) ++ links) (one_link own kind node)
    ∙ sym (filter_map-append (λ (n : LinkNode). link_beside own kind n.page) (take index nodes) (node ∷ []))
    ∙ ap (links_to_nodes own kind) (sym (take_more nodes index d within)))) holds
  where
    one_link : (own : ℕ) (kind : LinkKind) (node : LinkNode)
        → option_to_list (link_beside own kind node.page) ≡ links_to_nodes own kind (node ∷ [])
    one_link own kind node = by_link (link_beside own kind node.page) refl
      where
        by_link : (link : Option LinkTo) → link_beside own kind node.page ≡ link
            → option_to_list (link_beside own kind node.page) ≡ links_to_nodes own kind (node ∷ [])
        by_link None e = rw e refl
        by_link (Some link) e = rw e refl

-- a link whose page is not there is not written
pub none_written : (world : World) (pages : List PagePlan) (own : PagePlan) (link : declared.LinkTo)
    (old : List PageLink) → None ≡ slice_get pages link.page
    → old ≡ old ++ option_to_list (page_link_in world pages own (link_shown link))
none_written world pages own link old none =
    sym (ap (λ found. old ++ option_to_list (option_map (page_link_to world link.kind own) found)) (sym none)
    ∙ append-nil old)

pub one_written : (world : World) (pages : List PagePlan) (own other : PagePlan) (link : declared.LinkTo)
    (made : PageLink) (old new : List PageLink) → new ≡ old ++ made ∷ [] → made ≡ page_link_to world link.kind own other
    → Some other ≡ slice_get pages link.page
    → new ≡ old ++ option_to_list (page_link_in world pages own (link_shown link))
one_written world pages own other link made old new put is there =
    put ∙ ap (λ l. old ++ l ∷ []) is
    ∙ ap (λ found. old ++ option_to_list (option_map (page_link_to world link.kind own) found)) there

pub written_more : (world : World) (pages : List PagePlan) (own : PagePlan) (links : List declared.LinkTo) (index : ℕ)
    (d : declared.LinkTo) (old new : List PageLink) → index < length links
    → old ≡ filter_map (page_link_in world pages own) (map link_shown (take index links))
    → new ≡ old ++ option_to_list (page_link_in world pages own (link_shown (get_or links index d)))
    → new ≡ filter_map (page_link_in world pages own) (map link_shown (take (index + 1) links))
written_more world pages own links index d old new within before put =
    let link = get_or links index d in
    put ∙ ap (λ l. l ++ option_to_list (page_link_in world pages own (link_shown link))) before
    ∙ ap (λ l. filter_map (page_link_in world pages own) (map link_shown (take index links)) ++ l)
    (one_shown link (page_link_in world pages own (link_shown link)) refl)
    ∙ sym (filter_map-append (page_link_in world pages own) (map link_shown (take index links)) (link_shown link ∷ []))
    ∙ ap (filter_map (page_link_in world pages own)) (
    sym (map-append link_shown (take index links) (link ∷ []))
    ∙ ap (map link_shown) (sym (take_more links index d within)))
  where
    one_shown : (link : declared.LinkTo) (found : Option PageLink) → page_link_in world pages own (link_shown link) ≡ found
        → option_to_list (page_link_in world pages own (link_shown link))
        ≡ filter_map (page_link_in world pages own) (link_shown link ∷ [])
    one_shown link None e = rw e refl
    one_shown link (Some found) e = rw e refl

-- a page that is not there has no links
pub none_linked : (world : World) (plan : Plan) (pages : List PagePlan) (own : ℕ) (all : List LinkTo) (list : LinkList)
    → pages ≡ plan.pages → HoldsLinks own all list → None ≡ slice_get pages list.page
    → [] ≡ page_links world plan own all
none_linked world plan pages own all list same holds none =
    ap (λ found. option_map_or (λ page. filter_map (page_link world plan page) (to_each_once all)) found [])
    (none ∙ (λ i. slice_get (same i) (holds.page i)))

pub all_linked : (world : World) (plan : Plan) (pages : List PagePlan) (own : ℕ) (all : List LinkTo) (list : LinkList)
    (page : PagePlan) (links : List declared.LinkTo) (written : List PageLink) → pages ≡ plan.pages
    → HoldsLinks own all list → Some page ≡ slice_get pages list.page → links ≡ list.links.items
    → written ≡ filter_map (page_link_in world pages page) (map link_shown links)
    → written ≡ page_links world plan own all
all_linked world plan pages own all list page links written same holds there are is =
    is ∙ (λ i. filter_map (page_link_in world (same i) page) (map link_shown (are i)))
    ∙ ap (filter_map (page_link world plan page)) holds.are
    ∙ ap (λ found. option_map_or (λ p. filter_map (page_link world plan p) (to_each_once all)) found [])
    (there ∙ (λ i. slice_get (same i) (holds.page i)))
