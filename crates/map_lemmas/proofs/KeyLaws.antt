-- What a key gives is the same for nodes that are alike.
use Rattle.std.specs.Prelude.{◌≡◌, ◌+◌, ◌==◌, ℕ, zero, suc, List, [], ◌∷◌, ◌++◌, Option, Some, None, is_some, map, slice_get, unwrap_or, codes, if◌then◌else◌, true, ◌<◌, length, ◌≤◌, Bool, false}
use Rattle.std.specs.List.{IsDistinct, flat_map, list_any}
use Rattle.std.specs.Option.{option_and_then, option_map_or, option_or}
use Rattle.std.proofs.Common.{ap, arith, eqb, length-append, refl, sym, ◌∙◌}
use Rattle.std.proofs.Math.Path.{fun_ext}
use Rattle.std.proofs.lemmas.Bool.{false≢true}
use Rattle.dita_doc.specs.declared.fault.FaultCode.{FaultCode}
use Rattle.dita_doc.specs.declared.fault.FaultCode.TheVariants as faults
use Rattle.dita_doc.specs.declared.plan.PlanNode.{PlanNode}
use Rattle.dita_doc.specs.declared.plan.Scope.{Scope}
use Rattle.dita_doc.specs.declared.plan.Target.TheVariants as targets
use Rattle.reader_spec.specs.World.{World}
use Rattle.map_spec.specs.Cascade.{attribute_at, walk}
use Rattle.map_spec.specs.Keys.{Chain, answer_of_chain, attribute_of, chain, chain_at, chain_from, fault_of_place, href_target, key_answer, key_of, label_or, last_of, met_again, target_of_definition, target_of_chain, text_of_chain, text_of_definition, texts_of_node, title_of_target, undefined, undefined_at, untitled_at}
use Rattle.map_spec.specs.Scopes.{behind, child_scopes, first_found, node_fault, own, qualified}
use Rattle.map_spec.specs.Target.{target_by}
use Rattle.map_spec.specs.Titles.{first_text}
use Rattle.map_lemmas.specs.Alike.{AreAlike, IsLike}
use Rattle.map_lemmas.proofs.AlikeLaws.{same_length, same_read_or, same_read_then}
use Rattle.map_lemmas.proofs.ScopeLaws.{same_found, same_scope_at}
use Rattle.map_lemmas.proofs.WalkLaws.{same_attribute_at, same_cascaded_value, same_walk}

-- Faults at a place

module _ (nodes others : List PlanNode) (alike : AreAlike nodes others) where
  pub same_fault_of_place : (at : ℕ) (code : FaultCode) (detail : List ℕ)
      → fault_of_place nodes at (λ node. node_fault node code detail)
      ≡ fault_of_place others at (λ node. node_fault node code detail)
  same_fault_of_place at code detail = same_read_or nodes others alike (λ node. node_fault node code detail ∷ [])
      (λ node. node_fault node code detail ∷ []) [] at (λ node other like i. node_fault (like i) code detail ∷ [])

  same_met_again : (met key : List ℕ) (at : ℕ) → met_again nodes met key at ≡ met_again others met key at
  same_met_again met key at = λ i. record { met = met; faults = same_fault_of_place at faults.KeyCycle key i }

  same_untitled_at : (first : ℕ) (key text : List ℕ)
      → untitled_at nodes first key text ≡ untitled_at others first key text
  same_untitled_at first key [] = same_fault_of_place first faults.KeyNoText key
  same_untitled_at first key (b ∷ text) = refl

module _ (world : World) (nodes others : List PlanNode) (alike : AreAlike nodes others) where
  -- The chain of definitions

  same_attribute_of : (name : List ℕ) (at : ℕ) → attribute_of world nodes name at ≡ attribute_of world others name at
  same_attribute_of name at = same_read_then nodes others alike (attribute_at world name) (attribute_at world name) at
      (same_attribute_at world name)

  same_undefined_at : (key : List ℕ) (last : Option ℕ)
      → undefined_at world nodes key last ≡ undefined_at world others key last
  same_undefined_at key None = refl
  same_undefined_at key (Some at) = λ i. if is_some (same_attribute_of (codes "href") at i) then []
      else same_fault_of_place nodes others alike at faults.KeyUndefined key i

  same_chain_at : (follow next : List ℕ → ℕ → List ℕ → Chain) → follow ≡ next → (met key : List ℕ) (found : Option ℕ)
      → chain_at follow world nodes met key found ≡ chain_at next world others met key found
  same_chain_at follow next same met key None = λ i.
      record { met = met; faults = same_undefined_at key (last_of met) i }
  same_chain_at follow next same met key (Some at) = λ i.
      if list_any (λ other. other == at) met then same_met_again nodes others alike met key at i
      else option_map_or (λ keyref. same i (met ++ at ∷ []) (same_scope_at nodes others alike at i) (key_of keyref))
      (same_attribute_of (codes "keyref") at i) (record { met = met ++ at ∷ []; faults = [] })

  same_chain_from : (steps : ℕ) (met : List ℕ) (scope : ℕ) (key : List ℕ)
      → chain_from steps world nodes met scope key ≡ chain_from steps world others met scope key
  unfolding chain_from
  same_chain_from zero met scope key = refl
  same_chain_from (suc steps) met scope key = λ i.
      same_chain_at (chain_from steps world nodes) (chain_from steps world others)
      (λ j more next other. same_chain_from steps more next other j) met key
      (same_found world nodes others alike scope key i) i

  pub same_chain : (scope : ℕ) (key : List ℕ) → chain world nodes scope key ≡ chain world others scope key
  same_chain scope key = λ i. same_chain_from (same_length nodes others alike i + 1) [] scope key i

  -- The target

  same_target_at : (node other : PlanNode) → IsLike node other → (around more : List PlanNode) → AreAlike around more
      → target_of_definition world node around ≡ target_of_definition world other more
  same_target_at node other like around more walks = λ i. option_and_then (λ href.
      target_by href (same_cascaded_value world (codes "format") around more walks i)
      (same_cascaded_value world (codes "scope") around more walks i) (like i).doc)
      (attribute_at world (codes "href") (like i))

  pub same_href_target : (at : ℕ) → href_target world nodes at ≡ href_target world others at
  same_href_target at = same_read_then nodes others alike (λ node. target_of_definition world node (walk nodes at))
      (λ node. target_of_definition world node (walk others at)) at
      (λ node other like. same_target_at node other like (walk nodes at) (walk others at)
      (same_walk nodes others alike at))

  pub same_target_of_chain : (met : List ℕ) → target_of_chain world nodes met ≡ target_of_chain world others met
  same_target_of_chain met = λ i.
      unwrap_or (option_and_then (λ at. same_href_target at i) (last_of met)) targets.Nothing

  -- The text

  same_text_of_definition : (at : ℕ) → text_of_definition world nodes at ≡ text_of_definition world others at
  same_text_of_definition at = same_read_or nodes others alike (λ node. first_text (texts_of_node world node))
      (λ node. first_text (texts_of_node world node)) [] at
      (λ node other like i. first_text (texts_of_node world (like i)))

  pub same_text_of_chain : (met : List ℕ) → text_of_chain world nodes met ≡ text_of_chain world others met
  same_text_of_chain met = λ i. first_text (map (λ at. same_text_of_definition at i) met
      ++ title_of_target world (same_target_of_chain met i) ∷ [])

  -- The whole

  same_answer_of_chain : (key : List ℕ) (chain : Chain)
      → answer_of_chain world nodes key chain ≡ answer_of_chain world others key chain
  same_answer_of_chain key chain = λ i. option_map_or (λ first. record {
    node = Some first;
    target = same_target_of_chain chain.met i;
    label = label_or key (same_text_of_chain chain.met i);
    faults = chain.faults ++ same_untitled_at nodes others alike first key (same_text_of_chain chain.met i) i;
  }) (slice_get chain.met 0) undefined

  pub same_key_answer : (scope : ℕ) (key : List ℕ)
      → key_answer world nodes scope key ≡ key_answer world others scope key
  same_key_answer scope key = λ i. same_answer_of_chain key (same_chain scope key i) i

-- Definitions that a chain has met

-- each once, each a node
pub record AreMet (count : ℕ) (met : List ℕ) : Type 0 where
  pub distinct : IsDistinct eqb met
  pub below : (at : ℕ) → list_any (eqb at) met ≡ true → at < count

pub none_met : (count : ℕ) → AreMet count []
unfolding IsDistinct
none_met count = record { distinct = tt; below = λ at is. absurd (false≢true is) }

-- As many steps as a key is long are enough

-- the same where the functions may find nothing in turn
pub and_then_same : {X Y : Type 0} (found : Option X) (f g : X → Option Y) → ((x : X) → found ≡ Some x → f x ≡ g x)
    → option_and_then f found ≡ option_and_then g found
and_then_same None f g same = refl
and_then_same (Some x) f g same = same x refl

-- the first that is found in two lists, one behind the other
first_beside : {X : Type 0} (some more : List (Option X))
    → first_found (some ++ more) ≡ option_or (first_found some) (first_found more)
first_beside [] more = refl
first_beside (Some x ∷ some) more = refl
first_beside (None ∷ some) more = first_beside some more

-- nothing is found where no list has anything
pub none_found : {X Y : Type 0} (xs : List X) (f : X → List (Option Y)) → ((x : X) → first_found (f x) ≡ None)
    → first_found (flat_map f xs) ≡ None
none_found [] f none = refl
none_found (x ∷ xs) f none = first_beside (f x) (flat_map f xs) ∙ rw (none x) (none_found xs f none)

-- nor where no answer is anything
pub none_mapped : {X Y : Type 0} (xs : List X) (f : X → Option Y) → ((x : X) → f x ≡ None)
    → first_found (map f xs) ≡ None
none_mapped [] f none = refl
none_mapped (x ∷ xs) f none = rw (none x) (none_mapped xs f none)

-- a name and a dot stand before no text without bytes
pub behind_nothing : (name : List ℕ) → behind (name ++ codes ".") [] ≡ None
behind_nothing [] = refl
behind_nothing (b ∷ name) = refl

-- what is found under a test is found without it
told_if : {X : Type 0} (test : Bool) (found : Option X) (x : X) → (if test then found else None) ≡ Some x
    → found ≡ Some x
told_if true found x e = e
told_if false found x e = absurd (cc)

-- what stands behind a beginning is shorter by its length
pub behind_shorter : (front text rest : List ℕ) → behind front text ≡ Some rest
    → length text ≡ length front + length rest
behind_shorter [] text rest e = let same : text ≡ rest = cc in omega (arith, ap length same)
behind_shorter (b ∷ front) [] rest e = absurd (cc)
behind_shorter (b ∷ front) (c ∷ text) rest e =
    omega (arith, behind_shorter front text rest (told_if (b == c) (behind front text) rest e))

-- no key is qualified that is nothing
pub not_qualified : (steps : ℕ) (world : World) (nodes : List PlanNode) (scope : ℕ)
    → qualified steps world nodes scope [] ≡ None
unfolding qualified
not_qualified zero world nodes scope = refl
not_qualified (suc steps) world nodes scope = none_found (child_scopes nodes scope) _ (λ child.
    none_mapped child.0.names _ (λ name. ap (option_and_then (λ rest.
    option_or (own world nodes child.1 rest) (qualified steps world nodes child.1 rest))) (behind_nothing name)))

-- two searches of as many steps as the key has bytes, or more, are one
pub qualified_same : (n m : ℕ) (world : World) (nodes : List PlanNode) (scope : ℕ) (key : List ℕ) → length key ≤ n
    → length key ≤ m → qualified n world nodes scope key ≡ qualified m world nodes scope key
unfolding qualified
qualified_same n m world nodes scope [] first second =
    not_qualified n world nodes scope ∙ sym (not_qualified m world nodes scope)
qualified_same zero m world nodes scope (b ∷ key) first second = absurd (omega arith)
qualified_same (suc n) zero world nodes scope (b ∷ key) first second = absurd (omega arith)
qualified_same (suc n) (suc m) world nodes scope (b ∷ key) first second =
    ap (λ (f : Scope × ℕ → List (Option ℕ)). first_found (flat_map f (child_scopes nodes scope))) (fun_ext (λ child.
    ap (λ (g : List ℕ → Option ℕ). map g child.0.names) (fun_ext (λ name.
    and_then_same (behind (name ++ codes ".") (b ∷ key)) _ _ (λ rest is.
    let shorter = behind_shorter (name ++ codes ".") (b ∷ key) rest is in
    let long = length-append name (codes ".") in
    ap (option_or (own world nodes child.1 rest))
    (qualified_same n m world nodes child.1 rest (omega arith) (omega arith)))))))
