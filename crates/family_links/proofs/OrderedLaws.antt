-- The links of one kind by nodes in order. Of the nodes that are linked to some may be left out, where one before has
-- the same page.
use Rattle.std.specs.Prelude.{◌≡◌, ◌+◌, ◌<◌, ◌≤◌, ◌==◌, ◌||◌, ◌⊎◌, ℕ, Bool, true, false, List, [], ◌∷◌, ◌++◌, Option, Some, None, length, if◌then◌else◌}
use Rattle.std.specs.List.{All, cons_option, filter_map, list_any}
use Rattle.std.specs.List.Sorted.{IsNonDecreasingBy, IsPermutation}
use Rattle.std.specs.Option.{option_and_then, option_to_list}
use Rattle.std.proofs.Common.{refl, sym, ap, subst, ◌∙◌, append-nil, append_assoc, arith, inl, inr}
use Rattle.std.proofs.Math.Logic.{⊎_elim}
use Rattle.std.proofs.lemmas.Bool.{cases_eq, eqb-true, or_cases, or_left, or_right}
use Rattle.std.proofs.lemmas.List.Elements.{All-contains, All-head, All-tail, filter_map-append}
use Rattle.std.proofs.lemmas.List.Folds.{Any-from_list_any, list_any-append}
use Rattle.std.proofs.lemmas.List.Sorted.{All-permutation, list_any-IsPermutation}
use Rattle.dita_doc.specs.declared.content.LinkKind.{LinkKind}
use Rattle.dita_doc.specs.declared.plan.Plan.{Plan}
use Rattle.dita_doc.specs.declared.plan.PlanNode.{PlanNode}
use Rattle.dita_doc.proofs.Tests.{number_itself}
use Rattle.link_groups.specs.LinkLists.{leads_to, link_beside, links_to_nodes}
use Rattle.link_groups.specs.declared.link_nodes.LinkNode.{LinkNode}
use Rattle.link_groups.proofs.OrderLaws.{flat_same, is_linked, link_at, links_from, once_any}
use Rattle.link_groups.proofs.OnceLaws.{once_again, once_first_again, once_same}
use Rattle.map_spec.specs.Scopes.{places, places_from}
use Rattle.link_spec.specs.Links.{LinkTo, link_to, links_of_kind, to_each_once}
use Rattle.reader_spec.specs.World.{World}
use Rattle.family_links.proofs.NodeLaws.{IsNode, RiseFrom, is_place, node_page, node_within, place_of, rise_any, sorted_rise}

-- Nodes at one place

abbrev AllAt : ℕ → List LinkNode → Type 0
AllAt from [] = Unit {0}
AllAt from (node ∷ nodes) = (node.at ≡ from) × AllAt from nodes

abbrev some : List LinkNode → Bool
some [] = false
some (node ∷ nodes) = true

-- the nodes at the first place, and those behind it
record Run (from : ℕ) (nodes : List LinkNode) : Type 0 where
  here : List LinkNode
  later : List LinkNode
  is : nodes ≡ here ++ later
  at : AllAt from here
  rise : RiseFrom (from + 1) later

run_more : (from : ℕ) (node : LinkNode) (nodes : List LinkNode) → RiseFrom from (node ∷ nodes) → Run node.at nodes
    → (from ≡ node.at) ⊎ (from ≡ node.at → ⊥) → Run from (node ∷ nodes)
run_more from node nodes rise r (inl same) = record {
  here = node ∷ r.here;
  later = r.later;
  is = ap (λ l. node ∷ l) r.is;
  at = (sym same, subst (λ n. AllAt n r.here) (sym same) r.at);
  rise = subst (λ n. RiseFrom (n + 1) r.later) (sym same) r.rise;
}
run_more from node nodes rise r (inr other) = record {
  here = [];
  later = node ∷ nodes;
  is = refl;
  at = tt;
  rise = (omega (arith, rise.0, other), rise.1);
}

run : (from : ℕ) (nodes : List LinkNode) → RiseFrom from nodes → Run from nodes
run from [] rise = record { here = []; later = []; is = refl; at = tt; rise = tt }
run from (node ∷ nodes) rise = run_more from node nodes rise (run node.at nodes rise.1) (cases_eq from node.at)

any_here : (from at : ℕ) (here : List LinkNode) → AllAt from here → list_any (is_place at) here ≡ true → at ≡ from
any_here from at [] all among = cc
any_here from at (node ∷ nodes) all among =
    ⊎_elim (λ first. sym (eqb-true node.at at first) ∙ all.0) (λ behind. any_here from at nodes all.1 behind)
    (or_cases (node.at == at) (list_any (is_place at) nodes) among)

here_any : (from : ℕ) (here : List LinkNode) → AllAt from here → some here ≡ true
    → list_any (is_place from) here ≡ true
here_any from [] all there = cc
here_any from (node ∷ nodes) all there =
    or_left (node.at == from) (list_any (is_place from) nodes) (ap (λ n. n == from) all.0 ∙ number_itself from)

any_some : (at : ℕ) (here : List LinkNode) → list_any (is_place at) here ≡ true → some here ≡ true
any_some at [] among = cc
any_some at (node ∷ nodes) among = refl

-- Their links

front : {X : Type 0} (first : Option X) (xs : List X) → option_to_list first ++ xs ≡ cons_option first xs
front None xs = refl
front (Some x) xs = refl

again : (first : Option LinkTo) (links : List LinkTo)
    → to_each_once (option_to_list first ++ (option_to_list first ++ links))
    ≡ to_each_once (option_to_list first ++ links)
again None links = refl
again (Some link) links = once_first_again link links

twice : (first : Option LinkTo) → to_each_once (option_to_list first ++ option_to_list first)
    ≡ to_each_once (option_to_list first)
twice first =
    ap (λ l. to_each_once (option_to_list first ++ l)) (sym (append-nil (option_to_list first))) ∙ again first []
    ∙ ap to_each_once (append-nil (option_to_list first))

module _ (f : ℕ → Option LinkTo) where
  abbrev linked : List LinkNode → List LinkTo
  linked nodes = filter_map (λ (node : LinkNode). f node.at) nodes

  abbrev first_of : ℕ → List LinkNode → List LinkTo
  first_of from [] = []
  first_of from (node ∷ nodes) = option_to_list (f from)

  here_once : (from : ℕ) (here : List LinkNode) → AllAt from here
      → to_each_once (linked here) ≡ to_each_once (first_of from here)
  here_once from [] all = refl
  here_once from (node ∷ []) all =
      ap to_each_once (sym (front (f node.at) []) ∙ append-nil (option_to_list (f node.at))
      ∙ ap (λ n. option_to_list (f n)) all.0)
  here_once from (node ∷ next ∷ nodes) all =
      ap to_each_once (sym (front (f node.at) (linked (next ∷ nodes)))
      ∙ ap (λ n. option_to_list (f n) ++ linked (next ∷ nodes)) all.0)
      ∙ once_same (option_to_list (f from)) (option_to_list (f from)) (linked (next ∷ nodes)) (option_to_list (f from))
      refl (here_once from (next ∷ nodes) all.1)
      ∙ twice (f from)

-- a link to the same page from one of the nodes that is at this place, or before it
pub record Earlier (f : ℕ → Option LinkTo) (nodes : List LinkNode) (at : ℕ) (link : LinkTo) : Type 0 where
  pub other : ℕ
  pub upto : other ≤ at
  pub there : list_any (is_place other) nodes ≡ true
  pub is : f other ≡ Some link

abbrev IsGiven : (ℕ → Option LinkTo) → List LinkTo → List LinkNode → ℕ → LinkTo → Type 0
IsGiven f before nodes at link = (list_any (leads_to link.page) before ≡ true) ⊎ Earlier f nodes at link

module _ (f G : ℕ → Option LinkTo) where
  -- what the first place gives
  no_link : (before : List LinkTo) (link : LinkTo) → list_any (leads_to link.page) before ≡ true
      → to_each_once (before ++ []) ≡ to_each_once (before ++ link ∷ [])
  no_link before link there = ap to_each_once (append-nil before) ∙ sym (once_again before link there)

  first_none : (before : List LinkTo) (from : ℕ) (g : Option LinkTo) → G from ≡ g
      → ((link : LinkTo) → G from ≡ Some link → list_any (leads_to link.page) before ≡ true)
      → to_each_once (before ++ []) ≡ to_each_once (before ++ option_to_list g)
  first_none before from None e given = refl
  first_none before from (Some link) e given = no_link before link (given link e)

  first_some : (before : List LinkTo) (from : ℕ) (own : Option LinkTo) → f from ≡ own
      → ((link : LinkTo) → f from ≡ Some link → G from ≡ Some link)
      → ((link : LinkTo) → G from ≡ Some link → (list_any (leads_to link.page) before ≡ true) ⊎ (f from ≡ Some link))
      → to_each_once (before ++ option_to_list own) ≡ to_each_once (before ++ option_to_list (G from))
  first_some before from None d sub sup =
      first_none before from (G from) refl
      (λ link e. ⊎_elim (λ given. given) (λ own. absurd (no_own link own)) (sup link e))
    where
      no_own : (link : LinkTo) → f from ≡ Some link → ⊥
      no_own link own = let both : None ≡ Some link = sym d ∙ own in cc
  first_some before from (Some link) d sub sup =
      ap (λ o. to_each_once (before ++ option_to_list o)) (sym (sub link d))

  first_given : (before : List LinkTo) (from : ℕ) (here : List LinkNode)
      → ((link : LinkTo) → f from ≡ Some link → some here ≡ true → G from ≡ Some link)
      → ((link : LinkTo) → G from ≡ Some link
      → (list_any (leads_to link.page) before ≡ true) ⊎ ((f from ≡ Some link) × (some here ≡ true)))
      → to_each_once (before ++ first_of f from here) ≡ to_each_once (before ++ option_to_list (G from))
  first_given before from [] sub sup =
      first_none before from (G from) refl (λ link e. ⊎_elim (λ given. given) (λ own. absurd (none own.1)) (sup link e))
    where
      none : false ≡ true → ⊥
      none e = cc
  first_given before from (node ∷ nodes) sub sup =
      first_some before from (f from) refl (λ link d. sub link d refl)
      (λ link e. ⊎_elim (λ given. inl given) (λ own. inr own.0) (sup link e))

  module _ (before : List LinkTo) (from : ℕ) (nodes : List LinkNode) (rise : RiseFrom from nodes) (r : Run from nodes)
      (sub : (at : ℕ) (link : LinkTo) → f at ≡ Some link → list_any (is_place at) nodes ≡ true → G at ≡ Some link)
      (sup : (at : ℕ) (link : LinkTo) → from ≤ at → G at ≡ Some link → IsGiven f before nodes at link) where
    parts : (at : ℕ) → list_any (is_place at) nodes
        ≡ (list_any (is_place at) r.here || list_any (is_place at) r.later)
    parts at = ap (list_any (is_place at)) r.is ∙ list_any-append (is_place at) r.here r.later

    in_later : (at : ℕ) → list_any (is_place at) r.later ≡ true → list_any (is_place at) nodes ≡ true
    in_later at there = parts at ∙ or_right (list_any (is_place at) r.here) (list_any (is_place at) r.later) there

    in_part : (at : ℕ) → list_any (is_place at) nodes ≡ true
        → (list_any (is_place at) r.here ≡ true) ⊎ (list_any (is_place at) r.later ≡ true)
    in_part at there = or_cases (list_any (is_place at) r.here) (list_any (is_place at) r.later)
        (sym (parts at) ∙ there)

    sub_here : (link : LinkTo) → f from ≡ Some link → some r.here ≡ true → G from ≡ Some link
    sub_here link is there = sub from link is (parts from
        ∙ or_left (list_any (is_place from) r.here) (list_any (is_place from) r.later)
        (here_any from r.here r.at there))

    at_first : (link : LinkTo) → Earlier f nodes from link → (f from ≡ Some link) × (some r.here ≡ true)
    at_first link earlier =
        let begins = rise_any from earlier.other nodes rise earlier.there in
        let same : earlier.other ≡ from = omega (arith, begins, earlier.upto) in (
          ap f (sym same) ∙ earlier.is,
          ⊎_elim (λ there. any_some earlier.other r.here there)
              (λ there. absurd (too_late earlier.other earlier.upto
              (rise_any (from + 1) earlier.other r.later r.rise there)))
              (in_part earlier.other earlier.there),
        )
      where
        too_late : (other : ℕ) → other ≤ from → from + 1 ≤ other → ⊥
        too_late other upto begins = omega (arith, upto, begins)

    sup_here : (link : LinkTo) → G from ≡ Some link
        → (list_any (leads_to link.page) before ≡ true) ⊎ ((f from ≡ Some link) × (some r.here ≡ true))
    sup_here link e = ⊎_elim (λ given. inl given) (λ earlier. inr (at_first link earlier))
        (sup from link (omega arith) e)

    has_first : (link : LinkTo) → G from ≡ Some link
        → list_any (leads_to link.page) (before ++ option_to_list (G from)) ≡ true
    has_first link e =
        ap (λ o. list_any (leads_to link.page) (before ++ option_to_list o)) e
        ∙ list_any-append (leads_to link.page) before (link ∷ [])
        ∙ or_right (list_any (leads_to link.page) before) ((link.page == link.page) || false)
        (or_left (link.page == link.page) false (number_itself link.page))

    has_before : (link : LinkTo) → list_any (leads_to link.page) before ≡ true
        → list_any (leads_to link.page) (before ++ option_to_list (G from)) ≡ true
    has_before link given =
        list_any-append (leads_to link.page) before (option_to_list (G from))
        ∙ or_left (list_any (leads_to link.page) before) (list_any (leads_to link.page) (option_to_list (G from))) given

    given_later : (at : ℕ) (link : LinkTo) → Earlier f nodes at link
        → IsGiven f (before ++ option_to_list (G from)) r.later at link
    given_later at link earlier = ⊎_elim
        (λ there. inl (has_first link (sub_here link
        (ap f (sym (any_here from earlier.other r.here r.at there)) ∙ earlier.is)
        (any_some earlier.other r.here there))))
        (λ there. inr (record { other = earlier.other; upto = earlier.upto; there = there; is = earlier.is }))
        (in_part earlier.other earlier.there)

    sup_later : (at : ℕ) (link : LinkTo) → from + 1 ≤ at → G at ≡ Some link
        → IsGiven f (before ++ option_to_list (G from)) r.later at link
    sup_later at link less e = ⊎_elim (λ given. inl (has_before link given)) (λ earlier. given_later at link earlier)
        (sup at link (omega (arith, less)) e)

    -- the first place is passed
    passed : to_each_once (before ++ linked f nodes)
        ≡ to_each_once ((before ++ option_to_list (G from)) ++ linked f r.later)
    passed =
        ap (λ l. to_each_once (before ++ l)) (ap (linked f) r.is
        ∙ filter_map-append (λ (node : LinkNode). f node.at) r.here r.later)
        ∙ once_same before before (linked f r.here ++ linked f r.later)
        (first_of f from r.here ++ linked f r.later) refl
        (once_same (linked f r.here) (first_of f from r.here) (linked f r.later) (linked f r.later)
        (here_once f from r.here r.at) refl)
        ∙ ap to_each_once (sym (append_assoc before (first_of f from r.here) (linked f r.later)))
        ∙ once_same (before ++ first_of f from r.here) (before ++ option_to_list (G from)) (linked f r.later)
        (linked f r.later) (first_given before from r.here sub_here sup_here) refl

  in_order : (before : List LinkTo) (from : ℕ) (plan : List PlanNode) (nodes : List LinkNode) → RiseFrom from nodes
      → ((at : ℕ) → list_any (is_place at) nodes ≡ true → at < from + length plan)
      → ((at : ℕ) (link : LinkTo) → f at ≡ Some link → list_any (is_place at) nodes ≡ true → G at ≡ Some link)
      → ((at : ℕ) (link : LinkTo) → from ≤ at → G at ≡ Some link → IsGiven f before nodes at link)
      → to_each_once (before ++ linked f nodes) ≡ to_each_once (before ++ filter_map G (places_from from plan))
  in_order before from [] [] rise below sub sup = refl
  in_order before from [] (node ∷ nodes) rise below sub sup =
      let less = below node.at (or_left (node.at == node.at) (list_any (is_place node.at) nodes)
      (number_itself node.at)) in
      absurd (omega (arith, less, rise.0))
  in_order before from (head ∷ plan) nodes rise below sub sup =
      let r = run from nodes rise in
      passed before from nodes rise r sub sup
      ∙ in_order (before ++ option_to_list (G from)) (from + 1) plan r.later r.rise
      (λ at there. let less = below at (in_later before from nodes rise r sub sup at there) in omega (arith, less))
      (λ at link is there. sub at link is (in_later before from nodes rise r sub sup at there))
      (sup_later before from nodes rise r sub sup)
      ∙ ap to_each_once (append_assoc before (option_to_list (G from)) (filter_map G (places_from (from + 1) plan))
      ∙ ap (λ l. before ++ l) (front (G from) (filter_map G (places_from (from + 1) plan))))

if_some : {X : Type 0} (b : Bool) (o : Option X) (x : X) → (if b then o else None) ≡ Some x → (b ≡ true) × (o ≡ Some x)
if_some true o x is = (refl, is)
if_some false o x is = cc

-- The links of one kind

module _ (world : World) (plan : Plan) (page : ℕ) (kind : LinkKind) where
  abbrev pub leads : ℕ → Option LinkTo
  leads = link_at world plan page kind

  abbrev pub linked_to : ℕ → Bool
  linked_to = is_linked world plan page kind

  abbrev link_made : ℕ → Option LinkTo
  link_made to = if linked_to to then leads to else None

  linked_nodes : (nodes : List LinkNode) → All (IsNode world plan) nodes
      → links_to_nodes page kind nodes ≡ linked leads nodes
  linked_nodes [] all = refl
  linked_nodes (node ∷ nodes) all = (λ i. cons_option
      (ap (option_and_then (link_beside page kind)) (sym (node_page world plan node
      (All-head (IsNode world plan) node nodes all))) i)
      (linked_nodes nodes (All-tail (IsNode world plan) node nodes all) i))

  within_plan : (at : ℕ) (nodes : List LinkNode) → All (IsNode world plan) nodes → list_any (is_place at) nodes ≡ true
      → at < length plan.nodes
  within_plan at nodes all there =
      let found = Any-from_list_any (is_place at) nodes there in
      let node = found.1 in
      let less = node_within world plan node
      (All-contains (IsNode world plan) nodes node all (found.0, found.2, found.3)) in
      let same = eqb-true node.at at found.4 in omega (arith, less, same)

  pub in_place : (nodes ordered : List LinkNode) → IsPermutation nodes ordered → IsNonDecreasingBy place_of ordered
      → All (IsNode world plan) nodes
      → ((to : ℕ) (link : LinkTo) → leads to ≡ Some link → list_any (is_place to) nodes ≡ true → linked_to to ≡ true)
      → ((to : ℕ) (link : LinkTo) → leads to ≡ Some link → linked_to to ≡ true → Earlier leads nodes to link)
      → to_each_once (links_to_nodes page kind ordered) ≡ to_each_once (links_of_kind world plan page kind)
  in_place nodes ordered permuted sorted all sub sup =
      let good = All-permutation (IsNode world plan) nodes ordered permuted all in
      let same : (at : ℕ) → list_any (is_place at) nodes ≡ list_any (is_place at) ordered =
      λ at. list_any-IsPermutation (is_place at) nodes ordered permuted in
      ap to_each_once (linked_nodes ordered good)
      ∙ in_order leads link_made [] 0 plan.nodes ordered (sorted_rise ordered sorted)
      (λ at there. let less = within_plan at ordered good there in omega (arith, less))
      (λ at link is there. ap (λ b. if b then leads at else None) (sub at link is (same at ∙ there)) ∙ is)
      (λ at link less e. let both = if_some (linked_to at) (leads at) link e in
      let earlier = sup at link both.1 both.0 in
      inr (record {
        other = earlier.other;
        upto = earlier.upto;
        there = sym (same earlier.other) ∙ earlier.there;
        is = earlier.is;
      }))
      ∙ sym (flat_same (λ to. filter_map (link_to world plan page kind to) (places plan.nodes)) link_made
      (λ to. once_any (leads to) (links_from world plan page kind to) (places plan.nodes)) (places plan.nodes))
