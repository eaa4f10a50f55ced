-- The steps of a chain of definitions, and the answer at its end.
use Rattle.std.specs.Prelude.{◌≡◌, ◌-◌, ◌==◌, ◌++◌, ◌||◌, ℕ, suc, Bool, true, false, List, [], ◌∷◌, Option, Some, None, Result, Ok, Err, IfOk, codes, cond, length, slice_get}
use Rattle.std.specs.List.{list_any}
use Rattle.std.proofs.Common.{refl, sym, ap, ◌∙◌, arith}
use Rattle.dita_doc.specs.declared.content.KeyAnswer.{KeyAnswer}
use Rattle.dita_doc.specs.declared.fault.Fault.{Fault}
use Rattle.dita_doc.specs.declared.fault.FaultCode.TheVariants as codes_of
use Rattle.dita_doc.specs.declared.plan.PlanNode.{PlanNode}
use Rattle.dita_doc.specs.declared.plan.Target.{Target}
use Rattle.dita_doc.specs.declared.stop.NoMemory.{NoMemory}
use Rattle.dita_doc.proofs.Tests.{cond_or, or_assoc, or_last}
use Rattle.map_spec.specs.Keys.{Chain, answer_of_chain, attribute_of, chain_at, chain_from, fault_of_place, key_of, label_or, last_of, met_again, target_of_chain, text_of_chain, undefined_at, untitled_at}
use Rattle.map_spec.specs.Scopes.{definition_found, node_fault, scope_at}
use Rattle.map_spec.specs.Titles.{first_text}
use Rattle.reader_spec.specs.World.{World}
use Rattle.key_answers.specs.Seen.{texts_with}

pub last_there : (xs : List ℕ) → slice_get xs (length xs - 1) ≡ last_of xs
last_there [] = refl
last_there (x ∷ []) = refl
last_there (x ∷ y ∷ xs) =
    let long : length (x ∷ y ∷ xs) - 1 ≡ suc (length xs) = omega arith in
    let less : length (y ∷ xs) - 1 ≡ length xs = omega arith in
    ap (slice_get (x ∷ y ∷ xs)) long ∙ ap (slice_get (y ∷ xs)) (sym less) ∙ last_there (y ∷ xs)

-- Steps

module _ (world : World) (nodes : List PlanNode) (left : ℕ) (met : List ℕ) (scope : ℕ) (key : List ℕ) where
  pub step_is : chain_from (suc left) world nodes met scope key
      ≡ chain_at (chain_from left world nodes) world nodes met key (definition_found world nodes scope key)
  unfolding chain_from
  step_is = refl

  pub step_none : None ≡ definition_found world nodes scope key → chain_from (suc left) world nodes met scope key
      ≡ record { met = met; faults = undefined_at world nodes key (last_of met) }
  step_none none =
      step_is ∙ ap (chain_at (chain_from left world nodes) world nodes met key) (sym none)

  module _ (at : ℕ) (is : Some at ≡ definition_found world nodes scope key) where
    step_at : chain_from (suc left) world nodes met scope key
        ≡ chain_at (chain_from left world nodes) world nodes met key (Some at)
    step_at = step_is ∙ ap (chain_at (chain_from left world nodes) world nodes met key) (sym is)

    pub step_again : list_any (λ other. other == at) met ≡ true
        → chain_from (suc left) world nodes met scope key ≡ met_again nodes met key at
    step_again again = step_at ∙ rw again refl

    pub step_last : list_any (λ other. other == at) met ≡ false → attribute_of world nodes (codes "keyref") at ≡ None
        → chain_from (suc left) world nodes met scope key ≡ record { met = met ++ at ∷ []; faults = [] }
    step_last new none = step_at ∙ rw (new, none) refl

    pub step_next : (keyref : List ℕ) → list_any (λ other. other == at) met ≡ false
        → attribute_of world nodes (codes "keyref") at ≡ Some keyref
        → chain_from (suc left) world nodes met scope key
        ≡ chain_from left world nodes (met ++ at ∷ []) (scope_at nodes at) (key_of keyref)
    step_next keyref new next = step_at ∙ rw (new, next) refl

-- The ways in which a chain ends, and that in which it goes on

module _ (world : World) (nodes : List PlanNode) (left : ℕ) (met : List ℕ) (scope : ℕ) (key bytes : List ℕ)
    (whole : Chain) (same : whole ≡ chain_from (suc left) world nodes met scope key) (are : bytes ≡ key) where
  found_by : (at : Option ℕ) → at ≡ definition_found world nodes scope bytes
      → at ≡ definition_found world nodes scope key
  found_by at is = is ∙ ap (definition_found world nodes scope) are

  pub ends_undefined : (seen : Chain) (faults : List Fault) (last : Option ℕ) (slice : List ℕ)
      → None ≡ definition_found world nodes scope bytes → seen ≡ record { met = met; faults = faults }
      → faults ≡ undefined_at world nodes key last → last ≡ last_of slice → slice ≡ met → seen ≡ whole
  ends_undefined seen faults last slice none is fault last_is slice_is =
      let said : faults ≡ undefined_at world nodes key (last_of met) =
      fault ∙ ap (undefined_at world nodes key) (last_is ∙ ap last_of slice_is) in
      let made : List Fault → Chain = λ f. record { met = met; faults = f } in
      is ∙ ap made said ∙ sym (step_none world nodes left met scope key (found_by None none)) ∙ sym same

  module _ (at : ℕ) (is : Some at ≡ definition_found world nodes scope bytes) (known : Bool)
      (test : known ≡ list_any (λ other. other == at) met) where
    pub ends_again : (seen : Chain) (faults : List Fault) → known ≡ true
        → seen ≡ record { met = met; faults = faults }
        → faults ≡ fault_of_place nodes at (λ node. node_fault node codes_of.KeyCycle key) → seen ≡ whole
    ends_again seen faults again seen_is fault =
        let made : List Fault → Chain = λ f. record { met = met; faults = f } in
        seen_is ∙ ap made fault
        ∙ sym (step_again world nodes left met scope key at (found_by (Some at) is) (sym test ∙ again)) ∙ sym same

    module _ (value : Option (List ℕ)) (value_is : value ≡ attribute_of world nodes (codes "keyref") at)
        (new : known ≡ false) (more : List ℕ) (pushed : more ≡ met ++ at ∷ []) where
      pub ends_here : (seen : Chain) → None ≡ value → seen ≡ record { met = more; faults = [] } → seen ≡ whole
      ends_here seen none seen_is =
          let made : List ℕ → Chain = λ m. record { met = m; faults = [] } in
          seen_is ∙ ap made pushed
          ∙ sym (step_last world nodes left met scope key at (found_by (Some at) is) (sym test ∙ new)
          (sym value_is ∙ sym none)) ∙ sym same

      pub goes_on : (keyref : List ℕ) (inner : ℕ) (next : List ℕ) → Some keyref ≡ value → inner ≡ scope_at nodes at
          → next ≡ key_of keyref → whole ≡ chain_from left world nodes more inner next
      goes_on keyref inner next some inner_is next_is =
          same
          ∙ step_next world nodes left met scope key at (found_by (Some at) is) keyref (sym test ∙ new)
          (sym value_is ∙ sym some)
          ∙ ap (λ m. chain_from left world nodes m (scope_at nodes at) (key_of keyref)) (sym pushed)
          ∙ ap (λ s. chain_from left world nodes more s (key_of keyref)) (sym inner_is)
          ∙ ap (chain_from left world nodes more inner) (sym next_is)

pub no_steps : (world : World) (nodes : List PlanNode) (met : List ℕ) (scope : ℕ) (key : List ℕ)
    → chain_from 0 world nodes met scope key ≡ record { met = met; faults = [] }
unfolding chain_from
no_steps world nodes met scope key = refl

-- The set of those that were met

pub any_append : (test : ℕ → Bool) (xs ys : List ℕ) → list_any test (xs ++ ys) ≡ (list_any test xs || list_any test ys)
any_append test [] ys = refl
any_append test (x ∷ xs) ys =
    ap (λ b. test x || b) (any_append test xs ys) ∙ sym (or_assoc (test x) (list_any test xs) (list_any test ys))

pub met_more : (met more : List ℕ) (at other : ℕ) (old new same : Bool) → new ≡ cond same true old
    → same ≡ (at == other) → old ≡ list_any (λ n. n == other) met → more ≡ met ++ at ∷ []
    → new ≡ list_any (λ n. n == other) more
met_more met more at other old new same put is was pushed =
    put
    ∙ cond_or same old
    ∙ ap (λ b. b || old) is
    ∙ ap (λ b. (at == other) || b) was
    ∙ or_last (at == other) (list_any (λ n. n == other) met)
    ∙ sym (any_append (λ n. n == other) met (at ∷ []))
    ∙ ap (list_any (λ n. n == other)) (sym pushed)

-- Answers

pub answer_made : (world : World) (nodes : List PlanNode) (key : List ℕ) (chain : Chain) (first : ℕ) (target : Target)
    (text label : List ℕ) (untitled all : List Fault) → Some first ≡ slice_get chain.met 0
    → target ≡ target_of_chain world nodes chain.met → text ≡ first_text (texts_with world nodes chain.met target)
    → label ≡ label_or key text → untitled ≡ untitled_at nodes first key text → all ≡ chain.faults ++ untitled
    → (let made : KeyAnswer = record { node = Some first; target = target; label = label; faults = all } in
    made ≡ answer_of_chain world nodes key chain)
answer_made world nodes key chain first target text label untitled all begins target_is text_is label_is untitled_is
    all_is =
    let whole : text ≡ text_of_chain world nodes chain.met =
    text_is ∙ ap (λ t. first_text (texts_with world nodes chain.met t)) target_is in
    let made : (t : Target) (l : List ℕ) (f : List Fault) → KeyAnswer =
    λ t l f. record { node = Some first; target = t; label = l; faults = f } in
    rw (← begins) (
    ap (λ t. made t label all) target_is
    ∙ ap (λ l. made (target_of_chain world nodes chain.met) l all) (label_is ∙ ap (label_or key) whole)
    ∙ ap (λ f. made (target_of_chain world nodes chain.met) (label_or key (text_of_chain world nodes chain.met)) f)
    (all_is ∙ ap (λ f. chain.faults ++ f) (untitled_is ∙ ap (untitled_at nodes first key) whole)))

-- the same of what was made, if there was memory
pub answer_given : (world : World) (nodes : List PlanNode) (key : List ℕ) (chain : Chain) (first : ℕ) (target : Target)
    (text : List ℕ) (result : Result KeyAnswer NoMemory) → Some first ≡ slice_get chain.met 0
    → target ≡ target_of_chain world nodes chain.met → text ≡ first_text (texts_with world nodes chain.met target)
    → IfOk result (λ answer. answer ≡ record {
      node = Some first;
      target = target;
      label = label_or key text;
      faults = chain.faults ++ untitled_at nodes first key text;
    })
    → IfOk result (λ answer. answer ≡ answer_of_chain world nodes key chain)
answer_given world nodes key chain first target text (Err stop) begins target_is text_is is = tt
answer_given world nodes key chain first target text (Ok answer) begins target_is text_is is =
    is ∙ answer_made world nodes key chain first target text _ _ _ begins target_is text_is refl refl refl
