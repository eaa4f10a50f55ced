-- One element more: in a list in which a test holds of some, in one that is kept by a test, and in the links of a page.
use Rattle.std.specs.Prelude.{◌≡◌, ◌+◌, ◌<◌, ◌||◌, ℕ, Bool, true, false, List, [], ◌∷◌, ◌++◌, filter, length, take, Option, Some, None, if◌then◌else◌}
use Rattle.std.specs.List.{list_any}
use Rattle.std.specs.Option.{option_to_list}
use Rattle.std.proofs.Common.{refl, sym, ap, subst, ◌∙◌, append_assoc, get_or}
use Rattle.std.proofs.lemmas.List.{take_more}
use Rattle.std.proofs.lemmas.List.Elements.{filter_map-append}
use Rattle.std.proofs.lemmas.List.Folds.{list_any-append}
use Rattle.dita_doc.specs.declared.content.LinkKind.TheVariants as links
use Rattle.dita_doc.proofs.Tests.{or_assoc, or_false}
use Rattle.link_groups.specs.LinkLists.{HoldsLinks, link_beside, links_to_nodes, with_link}
use Rattle.link_groups.specs.declared.link_list.LinkList.{LinkList}
use Rattle.link_groups.specs.declared.link_nodes.LinkNode.{LinkNode}
use Rattle.link_groups.proofs.OnceLaws.{filter_both}
use Rattle.link_spec.specs.Links.{LinkTo}
use Rattle.reltable_links.specs.Linked.{if_target, is_target}

module _ {X : Type 0} (q : X → Bool) (xs : List X) (index : ℕ) (d : X) (within : index < length xs) where
  pub any_next : list_any q (take (index + 1) xs) ≡ (list_any q (take index xs) || q (get_or xs index d))
  any_next = ap (list_any q) (take_more xs index d within)
      ∙ list_any-append q (take index xs) (get_or xs index d ∷ [])
      ∙ ap (λ b. list_any q (take index xs) || b) (or_false (q (get_or xs index d)))

  pub any_more : (old mid new : Bool) → new ≡ (mid || q (get_or xs index d)) → mid ≡ (old || list_any q (take index xs))
      → new ≡ (old || list_any q (take (index + 1) xs))
  any_more old mid new put before =
      put ∙ ap (λ b. b || q (get_or xs index d)) before
      ∙ or_assoc old (list_any q (take index xs)) (q (get_or xs index d))
      ∙ ap (λ b. old || b) (sym any_next)

  pub any_alone : (mid new : Bool) → new ≡ (mid || q (get_or xs index d)) → mid ≡ list_any q (take index xs)
      → new ≡ list_any q (take (index + 1) xs)
  any_alone mid new put before = put ∙ ap (λ b. b || q (get_or xs index d)) before ∙ sym any_next

  one_kept : (x : X) → (if q x then x ∷ [] else []) ≡ filter q (x ∷ [])
  one_kept x = by_test (q x) refl
    where
      by_test : (b : Bool) → q x ≡ b → (if q x then x ∷ [] else []) ≡ filter q (x ∷ [])
      by_test true e = rw e refl
      by_test false e = rw e refl

  pub kept_next : filter q (take (index + 1) xs)
      ≡ filter q (take index xs) ++ (if q (get_or xs index d) then get_or xs index d ∷ [] else [])
  kept_next = ap (filter q) (take_more xs index d within)
      ∙ filter_both q (take index xs) (get_or xs index d ∷ [])
      ∙ ap (λ l. filter q (take index xs) ++ l) (sym (one_kept (get_or xs index d)))

  pub kept_more : (old new : List X)
      → new ≡ old ++ (if q (get_or xs index d) then get_or xs index d ∷ [] else [])
      → old ≡ filter q (take index xs) → new ≡ filter q (take (index + 1) xs)
  kept_more old new put before =
      put ∙ ap (λ l. l ++ (if q (get_or xs index d) then get_or xs index d ∷ [] else [])) before ∙ sym kept_next

-- a link to the page of one node
pub one_link : (own : ℕ) (node : LinkNode)
    → option_to_list (link_beside own links.Related node.page) ≡ links_to_nodes own links.Related (node ∷ [])
one_link own node = by_link (link_beside own links.Related node.page) refl
  where
    by_link : (link : Option LinkTo) → link_beside own links.Related node.page ≡ link
        → option_to_list (link_beside own links.Related node.page) ≡ links_to_nodes own links.Related (node ∷ [])
    by_link None e = rw e refl
    by_link (Some link) e = rw e refl

pub target_put : (own : ℕ) (all : List LinkTo) (node : LinkNode) (list : LinkList) → node.is_target ≡ true
    → HoldsLinks own (with_link own all links.Related node.page) list
    → HoldsLinks own (all ++ links_to_nodes own links.Related (if_target node)) list
target_put own all node list is holds = subst (λ l. HoldsLinks own l list) (
    ap (λ l. all ++ l) (one_link own node
    ∙ ap (λ b. links_to_nodes own links.Related (if b then node ∷ [] else [])) (sym is))) holds

pub linked_more : (own : ℕ) (all : List LinkTo) (nodes : List LinkNode) (index : ℕ) (d : LinkNode)
    (list : LinkList) → index < length nodes
    → HoldsLinks own ((all ++ links_to_nodes own links.Related (filter is_target (take index nodes)))
    ++ links_to_nodes own links.Related (if_target (get_or nodes index d))) list
    → HoldsLinks own (all ++ links_to_nodes own links.Related (filter is_target (take (index + 1) nodes))) list
linked_more own all nodes index d list within holds =
    let some = filter is_target (take index nodes) in
    let one = if_target (get_or nodes index d) in
    subst (λ l. HoldsLinks own l list) (
    append_assoc all (links_to_nodes own links.Related some) (links_to_nodes own links.Related one)
    ∙ ap (λ l. all ++ l) (
    sym (filter_map-append (λ (n : LinkNode). link_beside own links.Related n.page) some one)
    ∙ ap (links_to_nodes own links.Related) (sym (kept_next is_target nodes index d within)))) holds
