-- The links of a page by the nodes of its plan, and behind them others: each href once, they are those by collections, by
-- relationship tables and the others.
use Rattle.std.specs.Prelude.{◌≡◌, ◌==◌, ◌&&◌, ℕ, Bool, true, false, not, List, [], ◌∷◌, ◌++◌, Option, Some, None, bytes_eq, filter, option_map, slice_get}
use Rattle.std.specs.List.{filter_map, flat_map}
use Rattle.std.specs.Option.{option_map_or}
use Rattle.std.proofs.Common.{refl, sym, ap, subst, ◌∙◌, append_assoc}
use Rattle.std.proofs.lemmas.Bool.{true≢false, eqb-true}
use Rattle.std.proofs.lemmas.Grind.{flat_map-append}
use Rattle.std.proofs.lemmas.List.{append-nil}
use Rattle.std.proofs.lemmas.Option.{same_Some}
use Rattle.std.proofs.lemmas.List.Elements.{filter-append, filter_map-append}
use Rattle.std.proofs.lemmas.Slice.Eq.{bytes_eq-Decides}
use Rattle.dita_doc.specs.declared.content.LinkKind.{LinkKind}
use Rattle.dita_doc.specs.declared.content.LinkKind.TheVariants as kinds
use Rattle.dita_doc.specs.declared.content.PageLink.{PageLink}
use Rattle.dita_doc.specs.declared.plan.PagePlan.{PagePlan}
use Rattle.dita_doc.specs.declared.plan.Plan.{Plan}
use Rattle.dita_doc.proofs.Lists.{filter_both}
use Rattle.dita_doc.proofs.Tests.{and_swap}
use Rattle.href_text.specs.Joined.{relative_path}
use Rattle.map_spec.specs.Titles.{title_in}
use Rattle.node_links.specs.NodeTable.{links_by_nodes, node_links}
use Rattle.link_spec.specs.Links.{LinkTo, family_links, links_of_kind, page_link, page_links, row_links, to_each_once}
use Rattle.part_spec.specs.Parts.{hrefs_once, all_page_links}
use Rattle.reader_spec.specs.World.{World}
use Rattle.clean_build.proofs.OnceLaws.{has_other, other_passes}

-- A test of hrefs

abbrev pub by_href : (List ℕ → Bool) → PageLink → Bool
by_href test link = test link.href

-- links are tested before or after each is kept once
filter_swap : {X : Type 0} (p q : X → Bool) (xs : List X) → filter p (filter q xs) ≡ filter q (filter p xs)
filter_swap p q xs = filter_both p q (λ x. q x && p x) (λ x. refl) xs
    ∙ sym (filter_both q p (λ x. q x && p x) (λ x. and_swap (p x) (q x)) xs)

pub once_filtered : (test : List ℕ → Bool) (links : List PageLink)
    → filter (λ (link : PageLink). test link.href) (hrefs_once links)
    ≡ hrefs_once (filter (λ (link : PageLink). test link.href) links)
once_filtered test [] = refl
once_filtered test (link ∷ links) = by_test (once_filtered test links) (test link.href) refl
  where
    by_test : filter (by_href test) (hrefs_once links) ≡ hrefs_once (filter (by_href test) links) → (a : Bool) → test link.href ≡ a
        → filter (by_href test) (link ∷ filter (has_other link) (hrefs_once links)) ≡ hrefs_once (filter (by_href test) (link ∷ links))
    by_test behind true e = simp e (ap (λ more. link ∷ more)
        (filter_swap (by_href test) (has_other link) (hrefs_once links) ∙ ap (filter (has_other link)) behind))
    by_test behind false e = simp e (filter_swap (by_href test) (has_other link) (hrefs_once links)
        ∙ filter_both (has_other link) (by_href test) (by_href test) (other_passes test link e) (hrefs_once links) ∙ behind)

-- what stands before counts as it is
pub once_before : (front links others : List PageLink) → hrefs_once links ≡ hrefs_once others
    → hrefs_once (front ++ links) ≡ hrefs_once (front ++ others)
once_before [] links others same = same
once_before (link ∷ front) links others same =
    ap (λ more. link ∷ filter (has_other link) more) (once_before front links others same)

-- Links to pages, as they are written: one page gives one href

module _ (f : LinkTo → Option PageLink)
    (alike : (one other : LinkTo) (link more : PageLink) → one.page ≡ other.page → f one ≡ Some link → f other ≡ Some more
    → more.href ≡ link.href)
    (none : (one other : LinkTo) → one.page ≡ other.page → f one ≡ None → f other ≡ None) where
  abbrev other_page : LinkTo → LinkTo → Bool
  other_page one other = not (other.page == one.page)

  same_page : (one other : LinkTo) → other_page one other ≡ false → one.page ≡ other.page
  same_page one other e = by_test (other.page == one.page) refl e
    where
      by_test : (b : Bool) → (other.page == one.page) ≡ b → not b ≡ false → one.page ≡ other.page
      by_test true f e = sym (eqb-true other.page one.page f)
      by_test false f e = absurd (true≢false e)

  -- of links to a page without one nothing is written
  none_left : (one : LinkTo) → f one ≡ None → (all : List LinkTo)
      → filter_map f (filter (other_page one) all) ≡ filter_map f all
  none_left one is [] = refl
  none_left one is (other ∷ all) = by_test (none_left one is all) (other_page one other) refl
    where
      by_test : filter_map f (filter (other_page one) all) ≡ filter_map f all → (b : Bool) → other_page one other ≡ b
          → filter_map f (filter (other_page one) (other ∷ all)) ≡ filter_map f (other ∷ all)
      by_test behind true e = simp e (step (f other) refl)
        where
          step : (made : Option PageLink) → f other ≡ made
              → filter_map f (other ∷ filter (other_page one) all) ≡ filter_map f (other ∷ all)
          step None g = simp g behind
          step (Some link) g = simp g (ap (λ more. link ∷ more) behind)
      by_test behind false e =
          let gone : f other ≡ None = none one other (same_page one other e) is in simp (e, gone) behind

  -- of links to the page of a link none passes that has another href
  same_left : (one : LinkTo) (link : PageLink) → f one ≡ Some link → (all : List LinkTo)
      → filter (has_other link) (filter_map f (filter (other_page one) all)) ≡ filter (has_other link) (filter_map f all)
  same_left one link is [] = refl
  same_left one link is (other ∷ all) = by_test (same_left one link is all) (other_page one other) (f other) refl refl
    where
      by_test : filter (has_other link) (filter_map f (filter (other_page one) all))
          ≡ filter (has_other link) (filter_map f all) → (b : Bool) (made : Option PageLink) → other_page one other ≡ b
          → f other ≡ made → filter (has_other link) (filter_map f (filter (other_page one) (other ∷ all)))
          ≡ filter (has_other link) (filter_map f (other ∷ all))
      by_test behind true None e g = simp (e, g) behind
      by_test behind true (Some more) e g = simp (e, g) (step (has_other link more) refl)
        where
          step : (a : Bool) → has_other link more ≡ a
              → filter (has_other link) (more ∷ filter_map f (filter (other_page one) all))
              ≡ filter (has_other link) (more ∷ filter_map f all)
          step true h = simp h (ap (λ rest. more ∷ rest) behind)
          step false h = simp h behind
      by_test behind false None e g = simp (e, g) behind
      by_test behind false (Some more) e g =
          let one_href : more.href ≡ link.href = alike one other link more (same_page one other e) is g in
          let stays : has_other link more ≡ false = ap not ((bytes_eq-Decides more.href link.href).1 one_href) in
          simp (e, g, stays) behind

  pub once_written : (all : List LinkTo) (behind : List PageLink)
      → hrefs_once (filter_map f (to_each_once all) ++ behind) ≡ hrefs_once (filter_map f all ++ behind)
  once_written [] behind = refl
  once_written (one ∷ all) behind = by_link (once_written all behind) (f one) refl
    where
      by_link : hrefs_once (filter_map f (to_each_once all) ++ behind) ≡ hrefs_once (filter_map f all ++ behind)
          → (made : Option PageLink) → f one ≡ made
          → hrefs_once (filter_map f (to_each_once (one ∷ all)) ++ behind)
          ≡ hrefs_once (filter_map f (one ∷ all) ++ behind)
      by_link same None e = simp e (ap (λ links. hrefs_once (links ++ behind)) (none_left one e (to_each_once all)) ∙ same)
      by_link same (Some link) e = simp e (ap (λ links. link ∷ links) (passed link e ∙ ap (filter (has_other link)) same))
        where
          passed : (link : PageLink) → f one ≡ Some link
              → filter (has_other link) (hrefs_once (filter_map f (filter (other_page one) (to_each_once all)) ++ behind))
              ≡ filter (has_other link) (hrefs_once (filter_map f (to_each_once all) ++ behind))
          passed link e =
              let test : List ℕ → Bool = λ href. not (bytes_eq href link.href) in
              let some = filter_map f (filter (other_page one) (to_each_once all)) in
              let whole = filter_map f (to_each_once all) in
              once_filtered test (some ++ behind) ∙ ap hrefs_once (filter-append (has_other link) some behind
              ∙ ap (λ links. links ++ filter (has_other link) behind) (same_left one link e (to_each_once all))
              ∙ sym (filter-append (has_other link) whole behind)) ∙ sym (once_filtered test (whole ++ behind))

-- The links of a page

module _ (world : World) (plan : Plan) (own : PagePlan) where
  abbrev shown_as : LinkTo → PagePlan → PageLink
  shown_as link page = record {
    kind = link.kind;
    href = relative_path own.name page.name;
    label = title_in world page.id.doc [];
  }

  one_href : (found : Option PagePlan) (one other : LinkTo) (link more : PageLink)
      → option_map (shown_as one) found ≡ Some link → option_map (shown_as other) found ≡ Some more
      → more.href ≡ link.href
  one_href None one other link more is also = absurd (cc)
  one_href (Some page) one other link more is also =
      ap (λ (l : PageLink). l.href) (sym (same_Some (shown_as other page) more also))
      ∙ ap (λ (l : PageLink). l.href) (same_Some (shown_as one page) link is)

  alike_shown : (one other : LinkTo) (link more : PageLink) → one.page ≡ other.page
      → page_link world plan own one ≡ Some link → page_link world plan own other ≡ Some more → more.href ≡ link.href
  alike_shown one other link more same is also = one_href (slice_get plan.pages one.page) one other link more is
      (subst (λ n. option_map (shown_as other) (slice_get plan.pages n) ≡ Some more) (sym same) also)

  no_link : (found : Option PagePlan) (one other : LinkTo) → option_map (shown_as one) found ≡ None
      → option_map (shown_as other) found ≡ None
  no_link None one other is = refl
  no_link (Some page) one other is = absurd (cc)

  none_shown : (one other : LinkTo) → one.page ≡ other.page → page_link world plan own one ≡ None
      → page_link world plan own other ≡ None
  none_shown one other same is =
      subst (λ n. option_map (shown_as other) (slice_get plan.pages n) ≡ None) same
      (no_link (slice_get plan.pages one.page) one other is)

  abbrev shown : List LinkTo → List PageLink
  shown all = filter_map (page_link world plan own) all

  pub both_shown : (first second : List LinkTo) (more : List PageLink)
      → hrefs_once (shown (to_each_once (first ++ second)) ++ more)
      ≡ hrefs_once (shown (to_each_once first) ++ (shown (to_each_once second) ++ more))
  both_shown first second more =
      let once = once_written (page_link world plan own) alike_shown none_shown in
      once (first ++ second) more
      ∙ ap (λ links. hrefs_once (links ++ more)) (filter_map-append (page_link world plan own) first second)
      ∙ ap hrefs_once (append_assoc (shown first) (shown second) more)
      ∙ once_before (shown first) (shown second ++ more) (shown (to_each_once second) ++ more) (sym (once second more))
      ∙ sym (once first (shown (to_each_once second) ++ more))

by_nodes : (f : LinkKind → List LinkTo)
    → flat_map f (kinds.Previous ∷ kinds.Next ∷ kinds.Sibling ∷ kinds.Related ∷ [])
    ≡ flat_map f (kinds.Previous ∷ kinds.Next ∷ kinds.Sibling ∷ []) ++ f kinds.Related
by_nodes f = flat_map-append f (kinds.Previous ∷ kinds.Next ∷ kinds.Sibling ∷ []) (kinds.Related ∷ [])
    ∙ ap (λ links. flat_map f (kinds.Previous ∷ kinds.Next ∷ kinds.Sibling ∷ []) ++ links) (append-nil (f kinds.Related))

nodes_are : (world : World) (plan : Plan) (index : ℕ) → links_by_nodes world plan index
    ≡ flat_map (links_of_kind world plan index) (kinds.Previous ∷ kinds.Next ∷ kinds.Sibling ∷ kinds.Related ∷ [])
nodes_are world plan index = refl

pub links_once : (world : World) (plan : Plan) (index : ℕ) (own : List PageLink)
    → hrefs_once (node_links world plan index ++ own) ≡ all_page_links world plan index own
links_once world plan index own =
    let start : hrefs_once (node_links world plan index ++ own)
    ≡ hrefs_once (page_links world plan index (links_by_nodes world plan index) ++ own) = refl in
    let next = ap (λ all. hrefs_once (page_links world plan index all ++ own))
    (nodes_are world plan index ∙ by_nodes (links_of_kind world plan index)) in
    start ∙ next ∙ by_page (slice_get plan.pages index)
    ∙ ap hrefs_once (sym (append_assoc (family_links world plan index) (row_links world plan index) own))
  where
    by_page : (found : Option PagePlan)
        → hrefs_once (option_map_or (λ page. filter_map (page_link world plan page) (to_each_once
        (flat_map (links_of_kind world plan index) (kinds.Previous ∷ kinds.Next ∷ kinds.Sibling ∷ [])
        ++ links_of_kind world plan index kinds.Related))) found [] ++ own)
        ≡ hrefs_once (option_map_or (λ page. filter_map (page_link world plan page) (to_each_once
        (flat_map (links_of_kind world plan index) (kinds.Previous ∷ kinds.Next ∷ kinds.Sibling ∷ [])))) found []
        ++ (option_map_or (λ page. filter_map (page_link world plan page) (to_each_once
        (links_of_kind world plan index kinds.Related))) found [] ++ own))
    by_page None = refl
    by_page (Some page) = both_shown world plan page
        (flat_map (links_of_kind world plan index) (kinds.Previous ∷ kinds.Next ∷ kinds.Sibling ∷ []))
        (links_of_kind world plan index kinds.Related) own
