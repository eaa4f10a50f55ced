-- What one node writes, and what is known of it.
use Rattle.std.specs.Prelude.{◌≡◌, ◌&&◌, ◌++◌, ℕ, Bool, true, false, List, [], Some, None, slice_get}
use Rattle.std.specs.Option.{option_map_or}
use Rattle.std.proofs.Common.{sym, ap, ◌∙◌, append_assoc, append-nil}
use Rattle.dita_doc.specs.declared.plan.Plan.{Plan}
use Rattle.dita_doc.specs.declared.plan.PlanNode.{PlanNode}
use Rattle.dita_doc.proofs.Tests.{and_false}
use Rattle.map_spec.specs.Cascade.{is_in_table, walk}
use Rattle.html_spec.specs.Contents.{is_item, navtitle_of}
use Rattle.reader_spec.specs.World.{World}
use Rattle.toc_page.specs.Opened.{before_item, opened, stack_of}
use Rattle.toc_page.specs.Toc.{IsStep, end_at, front_at, is_item_at, is_told, item_front, may_be_item, open_at, text_at}
use Rattle.toc_page.specs.declared.list.OpenItems.{OpenItems}

-- a node that is no item writes nothing
nothing_written : (world : World) (plan : Plan) (at : ℕ) (items : OpenItems) (out : List ℕ)
    → is_item_at world plan at ≡ false → IsStep world plan at items items out out
nothing_written world plan at items out is = record {
  text = sym (append-nil out)
      ∙ ap (λ b. out ++ text_at b at (stack_of items) (front_at world plan at)) (sym is);
  stack = ap (λ b. open_at b at (end_at plan at) (stack_of items)) (sym is);
}

pub no_node : (world : World) (plan : Plan) (at : ℕ) (items : OpenItems) (out : List ℕ)
    → slice_get plan.nodes at ≡ None → IsStep world plan at items items out out
no_node world plan at items out there =
    nothing_written world plan at items out (ap (λ node. option_map_or (is_item world plan at) node false) there)

module _ (world : World) (plan : Plan) (at : ℕ) (node : PlanNode) (there : slice_get plan.nodes at ≡ Some node) where
  item_here : is_item_at world plan at ≡ is_item world plan at node
  item_here = ap (λ found. option_map_or (is_item world plan at) found false) there

  -- by what was tested first
  pub never_item : (items : OpenItems) (out : List ℕ) (inside test : Bool) → inside ≡ is_in_table (walk plan.nodes at)
      → test ≡ may_be_item inside node → test ≡ false → IsStep world plan at items items out out
  never_item items out inside test same is fails =
      nothing_written world plan at items out (item_here
      ∙ ap (λ b. may_be_item b node && is_told plan at (navtitle_of world node)) (sym same)
      ∙ ap (λ b. b && is_told plan at (navtitle_of world node)) (sym is ∙ fails))

  pub untold_item : (items : OpenItems) (out navtitle : List ℕ) (test : Bool) → navtitle ≡ navtitle_of world node
      → test ≡ is_told plan at navtitle → test ≡ false → IsStep world plan at items items out out
  untold_item items out navtitle test same is fails =
      nothing_written world plan at items out (item_here
      ∙ ap (λ title. may_be_item (is_in_table (walk plan.nodes at)) node && is_told plan at title) (sym same)
      ∙ ap (λ b. may_be_item (is_in_table (walk plan.nodes at)) node && b) (sym is ∙ fails)
      ∙ and_false (may_be_item (is_in_table (walk plan.nodes at)) node))

  pub is_an_item : (navtitle : List ℕ) (inside test told : Bool) → inside ≡ is_in_table (walk plan.nodes at)
      → test ≡ may_be_item inside node → test ≡ true → navtitle ≡ navtitle_of world node
      → told ≡ is_told plan at navtitle → told ≡ true → is_item_at world plan at ≡ true
  is_an_item navtitle inside test told same is holds title told_is told_yes =
      item_here
      ∙ ap (λ b. may_be_item b node && is_told plan at (navtitle_of world node)) (sym same)
      ∙ ap (λ b. b && is_told plan at (navtitle_of world node)) (sym is ∙ holds)
      ∙ ap (λ t. is_told plan at t) (sym title) ∙ sym told_is ∙ told_yes

  pub item_written : (old new : OpenItems) (before middle after : List ℕ) → is_item_at world plan at ≡ true
      → middle ≡ before ++ before_item at (stack_of old) → stack_of new ≡ opened at node.end (stack_of old)
      → after ≡ middle ++ item_front world plan at node → IsStep world plan at old new before after
  item_written old new before middle after is begun stack front = record {
    text = front
        ∙ ap (λ l. l ++ item_front world plan at node) begun
        ∙ append_assoc before (before_item at (stack_of old)) (item_front world plan at node)
        ∙ ap (λ l. before ++ (before_item at (stack_of old) ++ l))
        (sym (ap (λ found. option_map_or (item_front world plan at) found []) there))
        ∙ ap (λ b. before ++ text_at b at (stack_of old) (front_at world plan at)) (sym is);
    stack = stack
        ∙ ap (λ end. opened at end (stack_of old)) (sym (ap (λ found. option_map_or (λ (n : PlanNode). n.end) found 0) there))
        ∙ ap (λ b. open_at b at (end_at plan at) (stack_of old)) (sym is);
  }
