-- The links of one kind: by the nodes that are linked to, in order.
use Rattle.std.specs.Prelude.{◌≡◌, ◌+◌, ◌<◌, ◌≤◌, ◌==◌, ◌&&◌, ℕ, Bool, true, false, not, List, [], ◌∷◌, ◌++◌, Option, Some, None, filter, length, if◌then◌else◌}
use Rattle.std.specs.List.{filter_map, flat_map, list_any}
use Rattle.std.specs.Option.{option_and_then, option_to_list}
use Rattle.std.proofs.Common.{refl, sym, ap, subst, ◌∙◌, arith}
use Rattle.std.proofs.lemmas.Bool.{eqb-true}
use Rattle.std.proofs.lemmas.Bool.Decides.{nat_tests}
use Rattle.std.proofs.lemmas.Map.Views.{any-filter_same}
use Rattle.dita_doc.specs.declared.content.LinkKind.{LinkKind}
use Rattle.dita_doc.specs.declared.plan.Plan.{Plan}
use Rattle.dita_doc.specs.declared.plan.PlanNode.{PlanNode}
use Rattle.dita_doc.proofs.Tests.{from_zero}
use Rattle.map_spec.specs.Scopes.{places, places_from}
use Rattle.link_spec.specs.Links.{LinkTo, is_page_at, link_to, links_as, links_of_kind, may_link, page_of_node, to_each_once}
use Rattle.reader_spec.specs.World.{World}
use Rattle.link_groups.specs.LinkLists.{link_beside}
use Rattle.link_groups.proofs.OnceLaws.{once_first_again, once_same}

-- A link from some of several places is one link

module _ (link : Option LinkTo) (test : ℕ → Bool) where
  abbrev if_test : ℕ → Option LinkTo
  if_test from = if test from then link else None

  abbrev if_any : List ℕ → Option LinkTo
  if_any froms = if list_any test froms then link else None

pub once_any : (link : Option LinkTo) (test : ℕ → Bool) (froms : List ℕ)
    → to_each_once (filter_map (if_test link test) froms) ≡ to_each_once (option_to_list (if_any link test froms))
once_any link test [] = refl
once_any link test (from ∷ froms) = by_test link (once_any link test froms) (test from) (list_any test froms) refl refl
  where
    by_test : (one : Option LinkTo)
        → to_each_once (filter_map (if_test one test) froms) ≡ to_each_once (option_to_list (if_any one test froms))
        → (a b : Bool) → test from ≡ a → list_any test froms ≡ b
        → to_each_once (filter_map (if_test one test) (from ∷ froms))
        ≡ to_each_once (option_to_list (if_any one test (from ∷ froms)))
    by_test one behind false b e f = rw e behind
    by_test None behind true b e f = rw e (behind ∙ none b f)
      where
        none : (b : Bool) → list_any test froms ≡ b → to_each_once (option_to_list (if_any None test froms)) ≡ []
        none true f = rw f refl
        none false f = rw f refl
    by_test (Some one) behind true true e f =
        rw e (once_same (one ∷ []) (one ∷ []) (filter_map (if_test (Some one) test) froms) (one ∷ []) refl
        (behind ∙ ap (λ c. to_each_once (option_to_list (if c then Some one else None))) f)
        ∙ once_first_again one [])
    by_test (Some one) behind true false e f =
        rw e (once_same (one ∷ []) (one ∷ []) (filter_map (if_test (Some one) test) froms) [] refl
        (behind ∙ ap (λ c. to_each_once (option_to_list (if c then Some one else None))) f))

-- Links by several places

front_link : (h : ℕ → Option LinkTo) (to : ℕ) (tos : List ℕ)
    → option_to_list (h to) ++ filter_map h tos ≡ filter_map h (to ∷ tos)
front_link h to tos = by_case (h to) refl
  where
    by_case : (link : Option LinkTo) → h to ≡ link
        → option_to_list (h to) ++ filter_map h tos ≡ filter_map h (to ∷ tos)
    by_case None e = rw e refl
    by_case (Some link) e = rw e refl

pub flat_same : (g : ℕ → List LinkTo) (h : ℕ → Option LinkTo)
    → ((to : ℕ) → to_each_once (g to) ≡ to_each_once (option_to_list (h to))) → (tos : List ℕ)
    → to_each_once (flat_map g tos) ≡ to_each_once (filter_map h tos)
flat_same g h each [] = refl
flat_same g h each (to ∷ tos) =
    once_same (g to) (option_to_list (h to)) (flat_map g tos) (filter_map h tos) (each to) (flat_same g h each tos)
    ∙ ap to_each_once (front_link h to tos)

-- Places in order

abbrev pub AreFrom : ℕ → List ℕ → Type 0
AreFrom from [] = Unit {0}
AreFrom from (at ∷ ats) = (from ≤ at) × AreFrom at ats

abbrev pub AreBelow : ℕ → List ℕ → Type 0
AreBelow end [] = Unit {0}
AreBelow end (at ∷ ats) = (at < end) × AreBelow end ats

abbrev pub among : List ℕ → ℕ → Bool
among ats at = list_any (λ other. other == at) ats

abbrev others : ℕ → List ℕ → List ℕ
others from ats = filter (λ at. not (at == from)) ats

differs : (from at : ℕ) → from < at → (at == from) ≡ false
differs from at less = grind (arith, nat_tests)

-- none of those that begin later
none_later : (from later : ℕ) (ats : List ℕ) → from < later → AreFrom later ats
    → (among ats from ≡ false) × (others from ats ≡ ats)
none_later from later [] less are = (refl, refl)
none_later from later (at ∷ ats) less are =
    let other = differs from at (omega (arith, are.0)) in
    let behind = none_later from at ats (omega (arith, are.0)) are.1 in
    (rw other behind.0, rw other (ap (λ l. at ∷ l) behind.1))

others_from : (from : ℕ) (ats : List ℕ) → AreFrom from ats → AreFrom (from + 1) (others from ats)
others_from from [] are = tt
others_from from (at ∷ ats) are = by_test (at == from) refl (others_from from ats)
  where
    by_test : (b : Bool) → (at == from) ≡ b → (AreFrom from ats → AreFrom (from + 1) (others from ats))
        → AreFrom (from + 1) (others from (at ∷ ats))
    by_test true e behind = rw e (behind (subst (λ n. AreFrom n ats) (eqb-true at from e) are.1))
    by_test false e behind =
        let less : from < at = grind (arith, nat_tests) in
        rw e (omega (arith, less), subst (AreFrom at) (sym (none_later from at ats less are.1).1) are.1)

others_below : (from end : ℕ) (ats : List ℕ) → AreBelow end ats → AreBelow end (others from ats)
others_below from end [] are = tt
others_below from end (at ∷ ats) are = by_test (others_below from end ats are.1) (at == from) refl
  where
    by_test : AreBelow end (others from ats) → (b : Bool) → (at == from) ≡ b → AreBelow end (others from (at ∷ ats))
    by_test behind true e = rw e behind
    by_test behind false e = rw e (are.0, behind)

among_others : (from at : ℕ) (ats : List ℕ) → from < at → among (others from ats) at ≡ among ats at
among_others from at ats less = any-filter_same (λ other. other == at) (λ other. not (other == from)) true
    (λ k is. ap not (ap (λ n. n == from) (eqb-true k at is) ∙ differs from at less)) ats

module _ (f : ℕ → Option LinkTo) where
  abbrev if_there : Bool → ℕ → List LinkTo
  if_there there from = if there then option_to_list (f from) else []

  again : (link : Option LinkTo) (links : List LinkTo) → to_each_once (option_to_list link ++ (option_to_list link ++ links))
      ≡ to_each_once (option_to_list link ++ links)
  again None links = refl
  again (Some link) links = once_first_again link links

  -- the first place stands in front
  first_once : (from : ℕ) (ats : List ℕ) → AreFrom from ats
      → to_each_once (filter_map f ats)
      ≡ to_each_once (if_there (among ats from) from ++ filter_map f (others from ats))
  first_once from [] are = refl
  first_once from (at ∷ ats) are = by_test (at == from) refl (first_once from ats)
    where
      by_there : (b : Bool) → among ats from ≡ b
          → to_each_once (filter_map f ats)
          ≡ to_each_once (if_there (among ats from) from ++ filter_map f (others from ats))
          → to_each_once (option_to_list (f from) ++ filter_map f ats)
          ≡ to_each_once (option_to_list (f from) ++ filter_map f (others from ats))
      by_there true g behind =
          once_same (option_to_list (f from)) (option_to_list (f from)) (filter_map f ats)
          (option_to_list (f from) ++ filter_map f (others from ats)) refl
          (behind ∙ ap (λ b. to_each_once (if_there b from ++ filter_map f (others from ats))) g)
          ∙ again (f from) (filter_map f (others from ats))
      by_there false g behind =
          once_same (option_to_list (f from)) (option_to_list (f from)) (filter_map f ats)
          (filter_map f (others from ats)) refl
          (behind ∙ ap (λ b. to_each_once (if_there b from ++ filter_map f (others from ats))) g)

      by_test : (b : Bool) → (at == from) ≡ b
          → (AreFrom from ats → to_each_once (filter_map f ats)
          ≡ to_each_once (if_there (among ats from) from ++ filter_map f (others from ats)))
          → to_each_once (filter_map f (at ∷ ats))
          ≡ to_each_once (if_there (among (at ∷ ats) from) from ++ filter_map f (others from (at ∷ ats)))
      by_test true e behind =
          let same = eqb-true at from e in
          ap to_each_once (sym (front_link f at ats) ∙ ap (λ n. option_to_list (f n) ++ filter_map f ats) same)
          ∙ by_there (among ats from) refl (behind (subst (λ n. AreFrom n ats) same are.1))
          ∙ rw e refl
      by_test false e behind =
          let less : from < at = grind (arith, nat_tests) in
          let later = none_later from at (at ∷ ats) less (omega arith, are.1) in
          sym (ap (λ b. to_each_once (if_there b from ++ filter_map f (others from (at ∷ ats)))) later.0
          ∙ ap (λ l. to_each_once (filter_map f l)) later.1)

  filter_from : (p q : ℕ → Bool) (from : ℕ) (nodes : List PlanNode) → ((at : ℕ) → from ≤ at → p at ≡ q at)
      → filter p (places_from from nodes) ≡ filter q (places_from from nodes)
  filter_from p q from [] each = refl
  filter_from p q from (node ∷ nodes) each =
      by_test (filter_from p q (from + 1) nodes (λ at less. each at (omega (arith, less)))) (q from) refl
    where
      by_test : filter p (places_from (from + 1) nodes) ≡ filter q (places_from (from + 1) nodes) → (b : Bool)
          → q from ≡ b → filter p (places_from from (node ∷ nodes)) ≡ filter q (places_from from (node ∷ nodes))
      by_test behind true e = let g : p from ≡ true = each from (omega arith) ∙ e in rw (e, g) (ap (λ l. from ∷ l) behind)
      by_test behind false e = let g : p from ≡ false = each from (omega arith) ∙ e in rw (e, g) behind

  -- places in order lead where all those do that are among them
  pub in_order : (from : ℕ) (nodes : List PlanNode) (ats : List ℕ) → AreFrom from ats
      → AreBelow (from + length nodes) ats
      → to_each_once (filter_map f ats) ≡ to_each_once (filter_map f (filter (among ats) (places_from from nodes)))
  in_order from [] [] are below = refl
  in_order from [] (at ∷ ats) are below = absurd (omega (arith, are.0, below.0))
  in_order from (node ∷ nodes) ats are below =
      first_once from ats are ∙ by_test (among ats from) refl
      (in_order (from + 1) nodes (others from ats) (others_from from ats are)
      (others_below from (from + 1 + length nodes) ats (subst (λ n. AreBelow n ats) long below)))
    where
      long : from + length (node ∷ nodes) ≡ from + 1 + length nodes
      long = omega arith

      rest : filter (among (others from ats)) (places_from (from + 1) nodes)
          ≡ filter (among ats) (places_from (from + 1) nodes)
      rest = filter_from (among (others from ats)) (among ats) (from + 1) nodes
          (λ at less. among_others from at ats (omega (arith, less)))

      by_test : (b : Bool) → among ats from ≡ b
          → to_each_once (filter_map f (others from ats))
          ≡ to_each_once (filter_map f (filter (among (others from ats)) (places_from (from + 1) nodes)))
          → to_each_once (if_there (among ats from) from ++ filter_map f (others from ats))
          ≡ to_each_once (filter_map f (filter (among ats) (places_from from (node ∷ nodes))))
      by_test true e behind =
          rw e (once_same (option_to_list (f from)) (option_to_list (f from)) (filter_map f (others from ats))
          (filter_map f (filter (among ats) (places_from (from + 1) nodes))) refl
          (behind ∙ ap (λ l. to_each_once (filter_map f l)) rest)
          ∙ ap to_each_once (front_link f from (filter (among ats) (places_from (from + 1) nodes))))
      by_test false e behind = rw e (behind ∙ ap (λ l. to_each_once (filter_map f l)) rest)

-- What is kept by a test, and then led to
pub kept_links : (p : ℕ → Bool) (f h : ℕ → Option LinkTo) → ((at : ℕ) → (if p at then f at else None) ≡ h at)
    → (ats : List ℕ) → filter_map f (filter p ats) ≡ filter_map h ats
kept_links p f h each [] = refl
kept_links p f h each (at ∷ ats) = by_test (kept_links p f h each ats) (p at) refl
  where
    by_test : filter_map f (filter p ats) ≡ filter_map h ats → (b : Bool) → p at ≡ b
        → filter_map f (filter p (at ∷ ats)) ≡ filter_map h (at ∷ ats)
    by_test behind true e =
        let same : f at ≡ h at = sym (ap (λ b. if b then f at else None) e) ∙ each at in
        rw e (sym (front_link f at (filter p ats)) ∙ (λ i. option_to_list (same i) ++ behind i) ∙ front_link h at ats)
    by_test behind false e =
        let same : None ≡ h at = sym (ap (λ b. if b then f at else None) e) ∙ each at in
        rw e (behind ∙ ap (λ l. option_to_list l ++ filter_map h ats) same ∙ front_link h at ats)

-- The links of one kind

module _ (world : World) (plan : Plan) (page : ℕ) (kind : LinkKind) where
  abbrev pub links_from : ℕ → ℕ → Bool
  links_from to from = is_page_at plan page from && links_as world plan kind from to && may_link world plan from to

  -- a node of the page links to this node
  abbrev pub is_linked : ℕ → Bool
  is_linked to = list_any (links_from to) (places plan.nodes)

  -- the link to a node, if it has another page
  abbrev pub link_at : ℕ → Option LinkTo
  link_at to = option_and_then (link_beside page kind) (page_of_node plan to)

  one_to : (to : ℕ) → to_each_once (filter_map (link_to world plan page kind to) (places plan.nodes))
      ≡ to_each_once (option_to_list (if is_linked to then link_at to else None))
  one_to to = once_any (link_at to) (links_from to) (places plan.nodes)

  -- nodes in order, among which each node with another page is that is linked to, and no other
  pub kind_in_order : (ats : List ℕ) → AreFrom 0 ats → AreBelow (length plan.nodes) ats
      → ((to : ℕ) (link : LinkTo) → link_at to ≡ Some link → among ats to ≡ is_linked to)
      → to_each_once (filter_map link_at ats) ≡ to_each_once (links_of_kind world plan page kind)
  kind_in_order ats are below each =
      in_order link_at 0 plan.nodes ats are (subst (λ n. AreBelow n ats) (from_zero (length plan.nodes)) below)
      ∙ ap to_each_once (kept_links (among ats) link_at (λ to. if is_linked to then link_at to else None)
      (λ to. by_link to (link_at to) refl) (places plan.nodes))
      ∙ sym (flat_same (λ to. filter_map (link_to world plan page kind to) (places plan.nodes))
      (λ to. if is_linked to then link_at to else None) one_to (places plan.nodes))
    where
      none : Option LinkTo
      none = None

      by_both : (a b : Bool) → (if a then none else none) ≡ (if b then none else none)
      by_both true true = refl
      by_both true false = refl
      by_both false true = refl
      by_both false false = refl

      by_link : (to : ℕ) (link : Option LinkTo) → link_at to ≡ link
          → (if among ats to then link_at to else None) ≡ (if is_linked to then link_at to else None)
      by_link to None e =
          (λ i. if among ats to then e i else None) ∙ by_both (among ats to) (is_linked to)
          ∙ sym (λ i. if is_linked to then e i else None)
      by_link to (Some link) e = ap (λ b. if b then link_at to else None) (each to link e)
