-- Tables of rules: the first rule for an aim, before and after a stable sort, and by halving.
use Rattle.std.specs.Prelude.{◌≡◌, ◌&&◌, ◌<◌, ◌≤◌, ℕ, zero, suc, Bool, true, false, not, List, [], ◌∷◌, Option, Some, None, filter, find, length, option_map, is_some, unwrap_or, if◌then◌else◌}
use Rattle.std.specs.Cmp.{IsTotalOrder, tied_then}
use Rattle.std.specs.List.Sorted.{IsSortedByClosure, IsStableByClosure, IsStableByKey, IsNonDecreasingBy, IsPartitionedBy, ties}
use Rattle.std.specs.Option.{option_or}
use Rattle.std.specs.Ordering.{is_lt, is_eq, ordering_index, ordering_reverse}
use Rattle.std.specs.Cmp.Lexicographic.{options_total}
use Rattle.std.specs.Borrow.{Bor}
use Rattle.std.specs.Fn.{Called, ComparesAs}
use denote.Param.Members.{Mut}
use Rattle.std.specs.declared.cmp.Ordering.{Ordering}
use Rattle.std.specs.declared.cmp.Ordering.TheVariants.{Less, Equal, Greater}
use Rattle.std.proofs.Common.{refl, sym, ◌∙◌, ap, arith, get_or, ⊎_elim}
use Rattle.std.proofs.lemmas.Cmp.{nat_list_cmp_total, on_total, then_total}
use Rattle.std.proofs.lemmas.Bool.{cases_lt}
use Rattle.std.proofs.lemmas.List.{get_or_default}
use Rattle.std.proofs.lemmas.List.Sorted.{searchable_from_sorted, answers_always, ranks_by}
use Rattle.std.proofs.lemmas.Map.Text.{is_eq-slice_cmp}
use Rattle.dita_doc.specs.declared.content.Action.{Action}
use Rattle.dita_doc.specs.declared.content.Action.TheVariants as actions
use Rattle.dita_doc.specs.declared.content.Rule.{Rule}
use Rattle.ditaval_rules.specs.Aim.{Aim, AreSorted, IsPlaceFor, IsTableOf, aim_cmp, aim_of, deciding_action, first_action, is_below, is_for, part_cmp, val_behind}
use Rattle.ditaval_rules.specs.Rules.{is_same_text}
use Rattle.ditaval_rules.specs.Verdict.{is_this_text, is_for_token, is_for_attribute, is_default, or_else, deciding, is_exclude, decides_exclude, decided as action_of}

-- The first that passes

pub find_alike : {X : Type 0} (p q : X → Bool) → ((x : X) → p x ≡ q x) → (xs : List X) → find p xs ≡ find q xs
find_alike p q same [] = refl
find_alike p q same (x ∷ xs) = rw (same x, find_alike p q same xs) refl

found_none : {X : Type 0} (p : X → Bool) (xs : List X)
    → ((k : ℕ) (d : X) → k < length xs → p (get_or xs k d) ≡ false) → find p xs ≡ None
found_none p [] none = refl
found_none p (x ∷ xs) none =
    rw (none 0 x (omega arith)) (found_none p xs (λ k d inside. none (suc k) d (omega arith)))

found_at : {X : Type 0} (p : X → Bool) (xs : List X) (i : ℕ) (x : X) → i < length xs → x ≡ get_or xs i x
    → p x ≡ true → ((k : ℕ) (d : X) → k < i → p (get_or xs k d) ≡ false) → find p xs ≡ Some x
found_at p [] i x inside is passes none = absurd (omega arith)
found_at p (y ∷ xs) zero x inside is passes none = rw (← is, passes) refl
found_at p (y ∷ xs) (suc i) x inside is passes none =
    rw (none 0 y (omega arith))
    (found_at p xs i x (omega arith) is passes (λ k d below. none (suc k) d (omega arith)))

-- it is the first of those that pass
abbrev head_of : {X : Type 0} → List X → Option X
head_of [] = None
head_of (x ∷ xs) = Some x

head_from : {X : Type 0} (x : X) (found : Option X) (xs : List X) (passes : Bool) → found ≡ head_of xs
    → (if passes then Some x else found) ≡ head_of (if passes then x ∷ xs else xs)
head_from x found xs true more = refl
head_from x found xs false more = more

find_head : {X : Type 0} (p : X → Bool) (xs : List X) → find p xs ≡ head_of (filter p xs)
find_head p [] = refl
find_head p (x ∷ xs) = head_from x (find p xs) (filter p xs) (p x) (find_head p xs)

-- Orders

aim_total : IsTotalOrder aim_cmp
aim_total =
    let texts = options_total nat_list_cmp_total in
    then_total (on_total (λ (a : Aim). a.0) texts) (on_total (λ (a : Aim). a.1) texts)

tied : (o : Ordering) → (not (is_lt (ordering_reverse o)) && not (is_lt o)) ≡ is_eq o
tied Less = refl
tied Equal = refl
tied Greater = refl

lower : (o : Ordering) → is_lt o ≡ true → is_eq o ≡ false
lower Less is = refl
lower Equal is = cc
lower Greater is = refl

index_lower : (o : Ordering) → is_lt o ≡ true → ordering_index o < 1
index_lower Less is = omega arith
index_lower Equal is = cc
index_lower Greater is = cc

lower_index : (o : Ordering) → ordering_index o < 1 → is_lt o ≡ true
lower_index Less low = refl
lower_index Equal low = absurd (omega arith)
lower_index Greater low = absurd (omega arith)

higher : (o : Ordering) → is_lt o ≡ false → is_eq o ≡ false → 1 < ordering_index o
higher Less not_lower other = cc
higher Equal not_lower other = cc
higher Greater not_lower other = omega arith

index_higher : (o : Ordering) → 1 < ordering_index o → is_eq o ≡ false
index_higher Less high = absurd (omega arith)
index_higher Equal high = absurd (omega arith)
index_higher Greater high = refl

-- A stable sort leaves the first for each aim

first_stays : (old new : List Rule) → IsStableByKey aim_of aim_cmp old new → (mark : Rule)
    → find (is_for (aim_of mark)) new ≡ find (is_for (aim_of mark)) old
first_stays old new stable mark =
    let test : Rule → Bool = λ rule. ties (λ x y. is_lt (aim_cmp (aim_of x) (aim_of y))) mark rule in
    let same : (rule : Rule) → is_for (aim_of mark) rule ≡ test rule = λ rule.
    sym (rw (aim_total.antisymm (aim_of mark) (aim_of rule)) (tied (aim_cmp (aim_of rule) (aim_of mark)))) in
    find_alike (is_for (aim_of mark)) test same new ∙ find_head test new ∙ ap head_of (stable mark)
    ∙ sym (find_head test old) ∙ sym (find_alike (is_for (aim_of mark)) test same old)

-- and the rules are a table once they are sorted by what they are for, as `sort_by` does
pub table_sorted : {F : Type 0} {g : Mut F (Bor Rule × (Bor Rule × Unit {0})) Ordering} {f : F} (old new rules : List Rule)
    → old ≡ rules → IsSortedByClosure g f new → IsStableByClosure g f old new
    → ((f : F) (a : Bor Rule × (Bor Rule × Unit {0})) (r : Ordering) (f' : F) → Called g f a r f'
    → r ≡ aim_cmp (aim_of a.0.now) (aim_of a.1.0.now)) → IsTableOf new rules
table_sorted {F} {g} {f} old new rules same sorted stable gives =
    let below : Rule → Rule → Bool = λ x y. is_lt (aim_cmp (aim_of x) (aim_of y)) in
    let order = ranks_by aim_total aim_of in
    let compares : ComparesAs g below f = answers_always g (λ a r. is_lt r ≡ below a.0.now a.1.0.now) f
    (λ f a r f' called. ap is_lt (gives f a r f' called)) in (
      sorted below order compares,
      λ mark. first_stays old new (stable below order compares) mark ∙ ap (λ l. find (is_for (aim_of mark)) l) same,
    )

-- By halving

module _ (aim : Aim) where
  abbrev order_of : Rule → Ordering
  order_of rule = aim_cmp (aim_of rule) aim

  rises : (rules : List Rule) → AreSorted rules → IsNonDecreasingBy (λ rule. ordering_index (order_of rule)) rules
  rises rules sorted = searchable_from_sorted aim_total aim_of rules aim sorted

  -- what `partition_point` asks
  pub parted : (rules : List Rule) → AreSorted rules → IsPartitionedBy (is_below aim) rules
  parted rules sorted i j d le inside below =
      let rise = rises rules sorted i j d le inside in
      let low = index_lower (order_of (get_or rules j d)) below in
      lower_index (order_of (get_or rules i d)) (omega arith)

  module _ (rules : List Rule) (sorted : AreSorted rules) (at : ℕ) (part : IsPlaceFor aim rules at) where
    before : (k : ℕ) (d : Rule) → k < at → is_for aim (get_or rules k d) ≡ false
    before k d below = lower (order_of (get_or rules k d)) (part.0 k d (omega arith) below)

    -- the rule there is the first, if it is for this
    pub halved_found : (rule : Rule) → at < length rules → rule ≡ get_or rules at rule → is_for aim rule ≡ true
        → Some rule.action ≡ first_action aim rules
    halved_found rule inside is passes =
        rw (found_at (is_for aim) rules at rule inside is passes before) refl

    -- if it is for another, or none is there, there is none
    pub halved_other : (rule : Rule) → at < length rules → rule ≡ get_or rules at rule → is_for aim rule ≡ false
        → None ≡ first_action aim rules
    halved_other rule inside is other =
        rw (found_none (is_for aim) rules none) refl
      where
        none : (k : ℕ) (d : Rule) → k < length rules → is_for aim (get_or rules k d) ≡ false
        none k d here = ⊎_elim (λ low. before k d low)
            (λ high.
            let same : rule ≡ get_or rules at d = is ∙ get_or_default rules at rule d inside in
            let apart : is_for aim (get_or rules at d) ≡ false = sym (ap (is_for aim) same) ∙ other in
            let above = higher (order_of (get_or rules at d)) (part.1 at d (omega arith) inside) apart in
            let rise = rises rules sorted at k d high here in
            index_higher (order_of (get_or rules k d)) (omega arith))
            (cases_lt k at)

    pub halved_past : length rules ≤ at → None ≡ first_action aim rules
    halved_past past = rw (found_none (is_for aim) rules (λ k d inside. before k d (omega arith))) refl

-- The rule that decides a token

text_at : (one other : Option (List ℕ)) → is_eq (part_cmp one other) ≡ is_same_text one other
text_at None None = refl
text_at None (Some other) = refl
text_at (Some one) None = refl
text_at (Some one) (Some other) = is_eq-slice_cmp one other

-- a rule is for just what its texts name
aim_at : (rule : Rule) (aim : Aim) → is_for aim rule
    ≡ (is_same_text rule.att aim.0 && is_same_text (val_behind rule.att rule.val) aim.1)
aim_at rule aim =
    let parts = tied_then (part_cmp rule.att aim.0) (part_cmp (val_behind rule.att rule.val) aim.1) in
    sym parts ∙ rw (text_at rule.att aim.0, text_at (val_behind rule.att rule.val) aim.1) refl

for_token : (att token : List ℕ) (rule_att val : Option (List ℕ))
    → (is_same_text rule_att (Some att) && is_same_text (val_behind rule_att val) (Some token))
    ≡ (is_this_text att rule_att && is_this_text token val)
for_token att token None val = refl
for_token att token (Some own) None = refl
for_token att token (Some own) (Some text) = refl

for_attribute : (att : List ℕ) (rule_att val : Option (List ℕ))
    → (is_same_text rule_att (Some att) && is_same_text (val_behind rule_att val) None)
    ≡ (is_this_text att rule_att && not (is_some val))
for_attribute att None val = refl
for_attribute att (Some own) None = refl
for_attribute att (Some own) (Some text) = refl

for_all : (rule_att val : Option (List ℕ))
    → (is_same_text rule_att None && is_same_text (val_behind rule_att val) None) ≡ not (is_some rule_att)
for_all None val = refl
for_all (Some own) val = refl

abbrev pub excluding : Option Action → Bool
excluding None = false
excluding (Some action) = is_exclude action

excluding_seen : (one two three : Option Rule) → decides_exclude (or_else one (or_else two three))
    ≡ excluding (option_or (option_map (λ (rule : Rule). rule.action) one)
    (option_or (option_map (λ (rule : Rule). rule.action) two) (option_map (λ (rule : Rule). rule.action) three)))
excluding_seen None None None = refl
excluding_seen None None (Some three) = refl
excluding_seen None (Some two) three = refl
excluding_seen (Some one) two three = refl

action_seen : (one two three : Option Rule) → action_of (or_else one (or_else two three))
    ≡ unwrap_or (option_or (option_map (λ (rule : Rule). rule.action) one)
    (option_or (option_map (λ (rule : Rule). rule.action) two) (option_map (λ (rule : Rule). rule.action) three)))
    actions.Include
action_seen None None None = refl
action_seen None None (Some three) = refl
action_seen None (Some two) three = refl
action_seen (Some one) two three = refl

-- a rule for an attribute and a token
abbrev rule_for : Option (List ℕ) → Option (List ℕ) → Rule
rule_for att val = record { att = att; val = val; action = actions.Include }

module _ (sorted rules : List Rule) (table : IsTableOf sorted rules) where
  abbrev action_in : Option Rule → Option Action
  action_in found = option_map (λ (rule : Rule). rule.action) found

  first_by : (mark : Rule) (test : Rule → Bool) → ((rule : Rule) → is_for (aim_of mark) rule ≡ test rule)
      → first_action (aim_of mark) sorted ≡ action_in (find test rules)
  first_by mark test same =
      ap action_in (table.1 mark ∙ find_alike (is_for (aim_of mark)) test same rules)

  module _ (att token : List ℕ) where
    of_token : first_action (Some att, Some token) sorted ≡ action_in (find (is_for_token att token) rules)
    of_token = first_by (rule_for (Some att) (Some token)) (is_for_token att token)
        (λ rule. aim_at rule (Some att, Some token) ∙ for_token att token rule.att rule.val)

    of_attribute : first_action (Some att, None) sorted ≡ action_in (find (is_for_attribute att) rules)
    of_attribute = first_by (rule_for (Some att) None) (is_for_attribute att)
        (λ rule. aim_at rule (Some att, None) ∙ for_attribute att rule.att rule.val)

    of_all : first_action (None, None) sorted ≡ action_in (find is_default rules)
    of_all = first_by (rule_for None None) is_default (λ rule. aim_at rule (None, None) ∙ for_all rule.att rule.val)

    pub decided : decides_exclude (deciding rules att token) ≡ excluding (deciding_action sorted att token)
    decided =
        rw (of_token, of_attribute, of_all)
        (excluding_seen (find (is_for_token att token) rules) (find (is_for_attribute att) rules) (find is_default rules))

    pub decided_action : action_of (deciding rules att token)
        ≡ unwrap_or (deciding_action sorted att token) actions.Include
    decided_action =
        rw (of_token, of_attribute, of_all)
        (action_seen (find (is_for_token att token) rules) (find (is_for_attribute att) rules) (find is_default rules))
