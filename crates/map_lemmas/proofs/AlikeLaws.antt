-- Lists of nodes that are alike: what is read of a node at a place is the same for both.
use Rattle.std.specs.Prelude.{◌≡◌, ℕ, List, [], ◌∷◌, Option, Some, None, length, map, option_map, slice_get}
use Rattle.std.specs.List.{cons_option}
use Rattle.std.specs.Option.{option_and_then, option_map_or}
use Rattle.std.proofs.Common.{refl, sym, ap, ◌∙◌}
use Rattle.std.proofs.lemmas.List.{length-map}
use Rattle.std.proofs.lemmas.Option.{none-some, same_Some, slice_get-map}
use Rattle.dita_doc.specs.declared.plan.PlanNode.{PlanNode}
use Rattle.map_lemmas.specs.Alike.{AreAlike, IsFoundAlike, IsLike, plain, shape}

-- Nodes that are alike, or none

module _ {X : Type 0} where
  -- two functions that agree on nodes that are alike give the same
  read_or : (see look : PlanNode → X) (none : X) (found other : Option PlanNode) → IsFoundAlike found other
      → ((node more : PlanNode) → IsLike node more → see node ≡ look more)
      → option_map_or see found none ≡ option_map_or look other none
  read_or see look none None None alike same = refl
  read_or see look none None (Some more) alike same = absurd (none-some (plain more) alike)
  read_or see look none (Some node) None alike same = absurd (none-some (plain node) (sym alike))
  read_or see look none (Some node) (Some more) alike same =
      same node more (same_Some (plain node) (plain more) alike)

  -- also where they may find nothing in turn
  read_then : (see look : PlanNode → Option X) (found other : Option PlanNode) → IsFoundAlike found other
      → ((node more : PlanNode) → IsLike node more → see node ≡ look more)
      → option_and_then see found ≡ option_and_then look other
  read_then see look None None alike same = refl
  read_then see look None (Some more) alike same = absurd (none-some (plain more) alike)
  read_then see look (Some node) None alike same = absurd (none-some (plain node) (sym alike))
  read_then see look (Some node) (Some more) alike same =
      same node more (same_Some (plain node) (plain more) alike)

  -- and where the result says that a node was there
  read_map : (see look : PlanNode → X) (found other : Option PlanNode) → IsFoundAlike found other
      → ((node more : PlanNode) → IsLike node more → see node ≡ look more)
      → option_map see found ≡ option_map look other
  read_map see look None None alike same = refl
  read_map see look None (Some more) alike same = absurd (none-some (plain more) alike)
  read_map see look (Some node) None alike same = absurd (none-some (plain node) (sym alike))
  read_map see look (Some node) (Some more) alike same =
      ap Some (same node more (same_Some (plain node) (plain more) alike))

-- nodes in front of lists that are alike
pub alike_front : (found other : Option PlanNode) (nodes others : List PlanNode) → IsFoundAlike found other
    → AreAlike nodes others → AreAlike (cons_option found nodes) (cons_option other others)
alike_front None None nodes others first alike = alike
alike_front None (Some more) nodes others first alike = absurd (none-some (plain more) first)
alike_front (Some node) None nodes others first alike = absurd (none-some (plain node) (sym first))
alike_front (Some node) (Some more) nodes others first alike =
    λ i. same_Some (plain node) (plain more) first i ∷ alike i

-- Lists that are alike

-- the other way round
pub alike_back : (nodes others : List PlanNode) → AreAlike nodes others → AreAlike others nodes
alike_back nodes others alike = sym alike

-- a list like one that is like a third is like the third
pub alike_both : (nodes others more : List PlanNode) → AreAlike nodes others → AreAlike others more
    → AreAlike nodes more
alike_both nodes others more first second = first ∙ second

-- what is the same of a list and of its nodes without what they carry, is the same of two that are alike
pub by_plain : {X : Type 0} (see : List PlanNode → X) → ((nodes : List PlanNode) → see (map plain nodes) ≡ see nodes)
    → (nodes others : List PlanNode) → AreAlike nodes others → see nodes ≡ see others
by_plain see same nodes others alike = sym (same nodes) ∙ ap see alike ∙ same others

-- where nodes stand, they stand without what they carry
plain_shapes : (nodes : List PlanNode) → map shape (map plain nodes) ≡ map shape nodes
plain_shapes [] = refl
plain_shapes (node ∷ nodes) = ap (λ more. shape node ∷ more) (plain_shapes nodes)

module _ (nodes others : List PlanNode) (alike : AreAlike nodes others) where
  -- they are as many
  pub same_length : length nodes ≡ length others
  same_length = sym (length-map nodes plain) ∙ ap length alike ∙ length-map others plain

  -- the nodes at a place
  pub same_node : (at : ℕ) → IsFoundAlike (slice_get nodes at) (slice_get others at)
  same_node at =
      sym (slice_get-map plain nodes at) ∙ ap (λ all. slice_get all at) alike ∙ slice_get-map plain others at

  -- what is read of them, or what holds if there is none
  pub same_read_or : {X : Type 0} (see look : PlanNode → X) (none : X) (at : ℕ)
      → ((node other : PlanNode) → IsLike node other → see node ≡ look other)
      → option_map_or see (slice_get nodes at) none ≡ option_map_or look (slice_get others at) none
  same_read_or see look none at same =
      read_or see look none (slice_get nodes at) (slice_get others at) (same_node at) same

  -- what is read of them, if there is something
  pub same_read_then : {X : Type 0} (see look : PlanNode → Option X) (at : ℕ)
      → ((node other : PlanNode) → IsLike node other → see node ≡ look other)
      → option_and_then see (slice_get nodes at) ≡ option_and_then look (slice_get others at)
  same_read_then see look at same = read_then see look (slice_get nodes at) (slice_get others at) (same_node at) same

  -- what is made of them
  pub same_read_map : {X : Type 0} (see look : PlanNode → X) (at : ℕ)
      → ((node other : PlanNode) → IsLike node other → see node ≡ look other)
      → option_map see (slice_get nodes at) ≡ option_map look (slice_get others at)
  same_read_map see look at same = read_map see look (slice_get nodes at) (slice_get others at) (same_node at) same

  -- parents and ends
  pub same_shapes : map shape nodes ≡ map shape others
  same_shapes = by_plain (map shape) plain_shapes nodes others alike
