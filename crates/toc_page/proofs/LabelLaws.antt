-- The label of an item, and what it leads to.
use Rattle.std.specs.Prelude.{◌≡◌, ◌+◌, ◌<◌, ◌≤◌, ◌&&◌, ◌||◌, ◌∷◌, ℕ, zero, suc, Bool, true, false, not, List, [], Option, Result, Some, None, IfOk, codes, is_some, length, map, slice_get, unwrap_or, if◌then◌else◌}
use Rattle.std.specs.Option.{option_and_then}
use Rattle.std.proofs.Common.{refl, sym, ap, subst, ◌∙◌, arith}
use Rattle.std.proofs.Math.Logic.{⊎_elim}
use Rattle.std.proofs.lemmas.Bool.{cases_lt, false≢true}
use Rattle.dita_doc.specs.declared.plan.PagePlan.{PagePlan}
use Rattle.dita_doc.specs.declared.plan.Plan.{Plan}
use Rattle.dita_doc.specs.declared.plan.PlanNode.{PlanNode}
use Rattle.dita_doc.specs.declared.plan.Target.{Target}
use Rattle.dita_doc.specs.declared.plan.Target.TheVariants as targets
use Rattle.key_scopes.specs.Found.{found_in}
use Rattle.key_scopes.specs.Table.{Table}
use Rattle.map_spec.specs.Cascade.{whole_at}
use Rattle.map_spec.specs.Elements.{is_value}
use Rattle.map_spec.specs.Pages.{local_name, page_for}
use Rattle.map_spec.specs.Scopes.{definition_found}
use Rattle.map_spec.specs.Written.{Whole}
use Rattle.html_spec.specs.Contents.{href_by, is_local, is_locked, is_text, label_by_target, label_of, navtitle_of}
use Rattle.link_spec.specs.Links.{context_of, page_of_node, plan_target}
use Rattle.plan_nodes.specs.Home.{value_at}
use Rattle.reader_spec.specs.World.{World}
use Rattle.plan_nodes.proofs.HomeLaws.{value_same}
use Rattle.toc_page.specs.Toc.{AreKeys, href_to, is_file, navtitle_counts, needs_keys, needs_keys_in, page_name}
use Rattle.toc_page.proofs.TextLaws.{value_known}

-- the target at a place
pub target_is : (plan : Plan) (at : ℕ) (target : Target) → Some target ≡ slice_get plan.targets at
    → plan_target plan at ≡ target
target_is plan at target there = ap (λ found. unwrap_or found targets.Nothing) (sym there)

pub no_target : (plan : Plan) (at : ℕ) → None ≡ slice_get plan.targets at → plan_target plan at ≡ targets.Nothing
no_target plan at there = ap (λ found. unwrap_or found targets.Nothing) (sym there)

-- Keys

-- what is so below a number, and at it
pub below_more : (P : ℕ → Type 0) (n : ℕ) → ((k : ℕ) → k < n → P k) → P n → (k : ℕ) → k < n + 1 → P k
below_more P n below here k less = ⊎_elim (λ before. below k before)
    (λ behind. let same : n ≡ k = omega (arith, less, behind) in subst P same here) (cases_lt k n)

pub needs_none : (plan : Plan) (homes : List (Option Whole)) (at : ℕ) → length plan.targets ≤ at
    → needs_keys_in plan homes at ≡ false
needs_none plan homes at past =
    ap (λ found. is_file (unwrap_or found targets.Nothing) && is_some (value_at homes at (codes "keyref")))
    (get_past plan.targets at past)
  where
    get_past : (all : List Target) (n : ℕ) → length all ≤ n → slice_get all n ≡ None
    get_past [] zero past = refl
    get_past [] (suc n) past = refl
    get_past (target ∷ all) zero past = absurd (omega (arith, past))
    get_past (target ∷ all) (suc n) past = get_past all n (omega (arith, past))

pub needs_never : (plan : Plan) (homes : List (Option Whole)) (end : ℕ)
    → ((k : ℕ) → k < end → needs_keys_in plan homes k ≡ false) → length plan.targets ≤ end
    → (at : ℕ) → needs_keys_in plan homes at ≡ false
needs_never plan homes end before past at = ⊎_elim (λ less. before at less)
    (λ behind. needs_none plan homes at (omega (arith, past, behind))) (cases_lt at end)

pub needs_same : (world : World) (plan : Plan) (homes : List (Option Whole)) (at : ℕ)
    → homes ≡ map (whole_at world) plan.nodes → needs_keys_in plan homes at ≡ needs_keys world plan at
needs_same world plan homes at same = ap (λ value. is_file (plan_target plan at) && is_some value)
    (value_known world homes plan.nodes at (codes "keyref") same)

pub no_keys : (world : World) (plan : Plan) (homes : List (Option Whole)) → homes ≡ map (whole_at world) plan.nodes
    → ((at : ℕ) → needs_keys_in plan homes at ≡ false) → AreKeys world plan None
no_keys world plan homes same none = record {
  each = λ at is. absurd (false≢true (sym (none at) ∙ needs_same world plan homes at same ∙ is));
}

-- what is found in the table of a plan is the definition of the key
pub found_key : (world : World) (plan : Plan) (keys : Option Table) (table : Table) (at scope : ℕ) (key : List ℕ)
    (found : Option ℕ) → found ≡ found_in table scope key → keys ≡ Some table → AreKeys world plan keys
    → needs_keys world plan at ≡ true → found ≡ definition_found world plan.nodes scope key
found_key world plan keys table at scope key found is some are needs =
    is ∙ ((subst (AreKeys world plan) some are).each at needs).found scope key

-- Labels

module _ (world : World) (plan : Plan) (at : ℕ) (node : PlanNode) (homes : List (Option Whole)) (navtitle : List ℕ)
    (counts : Bool) (same : homes ≡ map (whole_at world) plan.nodes) (there : slice_get plan.nodes at ≡ Some node)
    (title : navtitle ≡ navtitle_of world node) (is : counts ≡ navtitle_counts plan homes at navtitle) where
  abbrev label_if : Bool → List ℕ
  label_if b = if b then navtitle_of world node else label_by_target world plan node (plan_target plan at)

  counts_same : counts ≡ (is_text (navtitle_of world node) && (is_locked world node || not (is_local (plan_target plan at))))
  counts_same =
      is
      ∙ ap (λ text. navtitle_counts plan homes at text) title
      ∙ ap (λ value. is_text (navtitle_of world node) && (is_value (codes "yes") value || not (is_local (plan_target plan at))))
      (value_same world homes plan.nodes at node (codes "locktitle") same there)

  pub label_own : counts ≡ true → navtitle ≡ label_of world plan at node
  label_own holds = title ∙ ap label_if (sym holds ∙ counts_same)

  pub label_other : counts ≡ false → label_by_target world plan node (plan_target plan at) ≡ label_of world plan at node
  label_other fails = ap label_if (sym fails ∙ counts_same)

-- Links

page_here : (plan : Plan) (at : ℕ) (name : List ℕ) (node : PlanNode) → local_name (plan_target plan at) ≡ Some name
    → slice_get plan.nodes at ≡ Some node → page_of_node plan at ≡ page_for plan.pages name (context_of node name)
page_here plan at name node named there =
    ap (option_and_then (λ n. option_and_then (λ (found : PlanNode). page_for plan.pages n (context_of found n))
    (slice_get plan.nodes at))) named
    ∙ ap (option_and_then (λ (found : PlanNode). page_for plan.pages name (context_of found name))) there

href_there : (pages : List PagePlan) (plan : Plan) (at : ℕ) (node : PlanNode) (target : Target) → pages ≡ plan.pages
    → slice_get plan.nodes at ≡ Some node → plan_target plan at ≡ target
    → href_to pages plan node target ≡ href_by plan at target
href_there pages plan at node targets.Nothing same there is = refl
href_there pages plan at node (targets.File name rest) same there is = refl
href_there pages plan at node (targets.Other value) same there is = refl
href_there pages plan at node (targets.Local name reference) same there is =
    ap (λ ps. page_name plan (page_for ps name (context_of node name))) same
    ∙ ap (page_name plan) (sym (page_here plan at name node (ap local_name is) there))

pub href_is : (pages : List PagePlan) (plan : Plan) (at : ℕ) (node : PlanNode) (target : Target) → pages ≡ plan.pages
    → slice_get plan.nodes at ≡ Some node → Some target ≡ slice_get plan.targets at
    → href_to pages plan node target ≡ href_by plan at (plan_target plan at)
href_is pages plan at node target same there found =
    let is = target_is plan at target found in
    href_there pages plan at node target same there is ∙ ap (href_by plan at) (sym is)

-- a result is something else as well
pub ok_as : {X E : Type 0} (result : Result X E) (one other : X) → one ≡ other → IfOk result (λ x. x ≡ one)
    → IfOk result (λ x. x ≡ other)
ok_as result one other is = subst (λ y. IfOk result (λ x. x ≡ y)) is
