-- The lists of tokens, one put behind the other, and those of a node by those of its parent.
use Rattle.std.specs.Prelude.{◌≡◌, ◌+◌, ◌<◌, ℕ, zero, suc, Bool, List, [], ◌∷◌, ◌++◌, Option, Some, None, Result, IfOk, map, length, slice_get, codes}
use Rattle.std.specs.Borrow.{Bor}
use Rattle.std.specs.Option.{option_and_then, option_copied}
use Rattle.std.proofs.Common.{refl, sym, ap, subst, ◌∙◌, arith, get_or, length-append}
use Rattle.std.proofs.Math.Logic.{⊎_elim}
use Rattle.std.proofs.lemmas.Bool.{cases_lt}
use Rattle.std.proofs.lemmas.List.{append-nil}
use Rattle.dita_doc.specs.declared.plan.PlanNode.{PlanNode}
use Rattle.dita_doc.proofs.Lists.{get_front, get_read}
use Rattle.map_spec.specs.Cascade as cascade
use Rattle.map_spec.specs.Cascade.{attribute_at, merged_tokens, spaced, tokens_on, walk, whole_at, with_new}
use Rattle.map_spec.specs.Written.{Whole}
use Rattle.plan_nodes.specs.Home as home
use Rattle.plan_nodes.specs.Preorder.{HasParentsBefore}
use Rattle.reader_spec.specs.World.{World}
use Rattle.attr_cascade.specs.Nearest as near
use Rattle.attr_cascade.specs.Tokens.{AreTokens, IsPlaceOf, IsTokens, Longer, value_merges, own_tokens, place_at, tokens_at, tokens_in, value_of}
use Rattle.attr_cascade.specs.declared.tokens.TokenList.{TokenList}
use Rattle.attr_cascade.proofs.NearestLaws.{nearest_there}
use Rattle.plan_nodes.proofs.HomeLaws.{value_same}
use Rattle.plan_nodes.proofs.ListLaws.{get_more}
use Rattle.plan_nodes.proofs.PlaceLaws.{walk_root, walk_up}

get-last : {X : Type 0} (xs : List X) (at : ℕ) (x : X) → at ≡ length xs → slice_get (xs ++ x ∷ []) at ≡ Some x
get-last [] zero x is = refl
get-last [] (suc at) x is = absurd (omega arith)
get-last (y ∷ xs) zero x is = absurd (omega arith)
get-last (y ∷ xs) (suc at) x is = get-last xs at x (omega arith)

value_there : (tokens : List (List ℕ)) → 0 < length tokens → Some (spaced tokens) ≡ value_of tokens
value_there [] some = absurd (omega arith)
value_there (token ∷ tokens) some = refl

-- a list is put behind the others
pub list_put : (old new : List TokenList) (list : TokenList) (at : ℕ) → new ≡ old ++ list ∷ [] → at ≡ length old
    → list.value ≡ spaced (tokens_in list) → 0 < length (tokens_in list) → IsPlaceOf old new (Some at) (tokens_in list)
list_put old new list at more last value some = record {
  longer = (list ∷ [], more);
  is = (
    list,
    ap (λ all. slice_get all at) more ∙ get-last old at list last,
    record { are = refl; value = ap (λ v. Some v) value ∙ value_there (tokens_in list) some },
  );
}

-- nothing is put
pub place_kept : (lists : List TokenList) (place : Option ℕ) (tokens more : List (List ℕ)) → IsTokens lists place tokens
    → more ≡ tokens → IsPlaceOf lists lists place more
place_kept lists place tokens more are same = record {
  longer = ([], sym (append-nil lists));
  is = subst (IsTokens lists place) (sym same) are;
}

pub place_same : {E : Type 0} (result : Result (Option ℕ) E) (old new : List TokenList) (tokens more : List (List ℕ))
    → tokens ≡ more → IfOk result (λ place. IsPlaceOf old new place tokens)
    → IfOk result (λ place. IsPlaceOf old new place more)
place_same result old new tokens more same is =
    subst (λ all. IfOk result (λ place. IsPlaceOf old new place all)) same is

-- Nodes one after the other

longer_tokens : (old new : List TokenList) (place : Option ℕ) (tokens : List (List ℕ)) → Longer old new
    → IsTokens old place tokens → IsTokens new place tokens
longer_tokens old new None tokens longer is = is
longer_tokens old new (Some at) tokens longer is =
    (is.0, ap (λ all. slice_get all at) longer.1 ∙ get_front old longer.0 at is.0 is.1, is.2)

module _ (world : World) (name : List ℕ) (nodes : List PlanNode) where
  -- the tokens above a node
  pub record Above (lists : List TokenList) (places : List (Option ℕ)) (at : ℕ) (node : PlanNode) : Type 0 where
    pub tokens : List (List ℕ)
    pub are : IsTokens lists (place_at places node.parent) tokens
    pub is : merged_tokens (cascade.merges world (walk nodes at)) (cascade.own_tokens world name node) tokens
        ≡ tokens_at world name nodes at

  no_place : (places : List (Option ℕ)) (at : ℕ) → length places ≡ 0 → place_at places at ≡ None
  no_place [] at none = refl
  no_place (place ∷ places) at none = absurd (omega arith)

  root_above : (lists : List TokenList) (places : List (Option ℕ)) (node : PlanNode) → slice_get nodes 0 ≡ Some node
      → AreTokens world name nodes lists places 0 → Above lists places 0 node
  root_above lists places node is so_far = record {
    tokens = [];
    are = subst (λ p. IsTokens lists p []) (sym (no_place places node.parent so_far.many)) refl;
    is =
        ap (λ w. merged_tokens (cascade.merges world w) (cascade.own_tokens world name node) [])
        (walk_root nodes node is)
        ∙ ap (tokens_on world name) (sym (walk_root nodes node is));
  }

  node_above : (lists : List TokenList) (places : List (Option ℕ)) (at : ℕ) (node : PlanNode) → HasParentsBefore nodes
      → slice_get nodes at ≡ Some node → 0 < at → AreTokens world name nodes lists places at
      → Above lists places at node
  node_above lists places at node before is above so_far =
      let up = walk_up nodes before at node is above in
      record {
        tokens = tokens_at world name nodes node.parent;
        are = so_far.each node.parent (before at node above is);
        is =
            ap (λ w. merged_tokens (cascade.merges world w) (cascade.own_tokens world name node)
            (tokens_at world name nodes node.parent)) up
            ∙ ap (tokens_on world name) (sym up);
      }

  pub above : (lists : List TokenList) (places : List (Option ℕ)) (at : ℕ) (node : PlanNode) → HasParentsBefore nodes
      → slice_get nodes at ≡ Some node → AreTokens world name nodes lists places at → Above lists places at node
  above lists places zero node before is so_far = root_above lists places node is so_far
  above lists places (suc at) node before is so_far =
      node_above lists places (suc at) node before is (omega arith) so_far

  pub tokens_more : (old new : List TokenList) (places later : List (Option ℕ)) (at : ℕ) (place : Option ℕ)
      (tokens : List (List ℕ)) → AreTokens world name nodes old places at → later ≡ places ++ place ∷ []
      → tokens ≡ tokens_at world name nodes at → IsPlaceOf old new place tokens
      → AreTokens world name nodes new later (at + 1)
  tokens_more old new places later at place tokens so_far more same is = record {
    many = ap length more ∙ omega (arith, length-append places (place ∷ []), so_far.many);
    each = λ k below. ⊎_elim
        (λ before. subst (λ p. IsTokens new p (tokens_at world name nodes k))
        (sym (ap (λ all. place_at all k) more
        ∙ ap (option_and_then (λ (p : Option ℕ). p)) (get_more places (place ∷ []) k (omega (arith, so_far.many)))))
        (longer_tokens old new (place_at places k) _ is.longer (so_far.each k before)))
        (λ past. let here : k ≡ at = omega arith in
        subst (λ n. IsTokens new (place_at later n) (tokens_at world name nodes n)) (sym here)
        (subst (λ p. IsTokens new p (tokens_at world name nodes at))
        (sym (ap (λ all. place_at all at) more
        ∙ ap (option_and_then (λ (p : Option ℕ). p)) (get-last places at place (sym so_far.many))))
        (subst (IsTokens new place) same is.is)))
        (cases_lt k at);
  }

-- the value of `cascade` at a node
pub merges_here : (world : World) (nodes : List PlanNode) (values : List near.Value) (at : ℕ)
    → values ≡ near.nearest_of world (codes "cascade") nodes → at < length nodes
    → value_merges (near.value_at values at) ≡ cascade.merges world (walk nodes at)
merges_here world nodes values at are within =
    ap (λ v. value_merges (near.value_at v at)) are
    ∙ ap value_merges (nearest_there world (codes "cascade") nodes at within)

-- one more node
pub table_more : (world : World) (name : List ℕ) (nodes : List PlanNode) (homes : List (Option Whole)) (at : ℕ)
    (node : PlanNode) (old new : List TokenList) (places later : List (Option ℕ)) (place over : Option ℕ)
    (own : Option (Bor (List ℕ))) (test : Bool) (values : List near.Value) → homes ≡ map (whole_at world) nodes
    → HasParentsBefore nodes → values ≡ near.nearest_of world (codes "cascade") nodes → at < length nodes
    → node ≡ get_or nodes at node → AreTokens world name nodes old places at → over ≡ place_at places node.parent
    → option_copied own ≡ home.value_at homes at name → test ≡ value_merges (near.value_at values at)
    → ((tokens : List (List ℕ)) → IsTokens old over tokens
    → IsPlaceOf old new place (merged_tokens test (own_tokens (option_copied own)) tokens))
    → later ≡ places ++ place ∷ [] → AreTokens world name nodes new later (at + 1)
table_more world name nodes homes at node old new places later place over own test values same before cascades within item
    so_far over_is own_is test_is made more =
    let is = get_read nodes at node within item in
    let up = above world name nodes old places at node before is so_far in
    tokens_more world name nodes old new places later at place _ so_far more
    (ap (λ t. merged_tokens t (own_tokens (option_copied own)) up.tokens) (test_is ∙ merges_here world nodes values at cascades within)
    ∙ ap (λ v. merged_tokens (cascade.merges world (walk nodes at)) (own_tokens v) up.tokens)
    (own_is ∙ value_same world homes nodes at node name same is)
    ∙ up.is)
    (made up.tokens (subst (λ p. IsTokens old p up.tokens) (sym over_is) up.are))
