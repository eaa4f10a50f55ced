-- Where what an element holds stands.
use Rattle.std.specs.Prelude.{◌≡◌, ◌+◌, ℕ, Bool, true, false, List, Some, codes}
use Rattle.std.proofs.Common.{refl, sym, ap, ◌∙◌, arith}
use Rattle.html_blocks.specs.Opened.{depth_within, topic_within}
use Rattle.html_blocks.specs.Shown.{around_shown, counted}
use Rattle.html_blocks.specs.Walk.{IsWithin}
use Rattle.html_blocks.specs.declared.context.HtmlContext.{HtmlContext}
use Rattle.html_tables.specs.declared.groups.Groups.{Groups}
use Rattle.html_tables.specs.Walk.{HasColumns, KeepsGroups, columns_within}
use Rattle.html_tables.proofs.WalkLaws.{context_beside, context_within, kept_context}
use Rattle.map_spec.specs.Elements.{tokens_of}
use Rattle.map_spec.specs.Written.{Element, Written}
use Rattle.html_spec.specs.Blocks as blocks
use Rattle.html_spec.specs.Blocks.{Form, around_in, columns_in, context_in, head_in, is_type, simple_head_in, within_type}
use Rattle.html_spec.specs.Tables.{is_column_group}

pub kept_within : (old new : Groups) (context : HtmlContext) (around : blocks.HtmlContext) → KeepsGroups old new
    → IsWithin old context around → IsWithin new context around
kept_within old new context around kept is = record {
  topic = is.topic;
  depth = is.depth;
  nearest = is.nearest;
  tables = kept_context old new context.tables around kept is.tables;
}

module _ (element : Element) (inside : Written) (around : blocks.HtmlContext) where
  group_topic : (group : Bool) → is_column_group element ≡ group
      → (columns_in element inside around).topic ≡ around.topic
  group_topic true e = rw e refl
  group_topic false e = rw e refl

  group_depth : (group : Bool) → is_column_group element ≡ group
      → (columns_in element inside around).depth ≡ around.depth
  group_depth true e = rw e refl
  group_depth false e = rw e refl

  group_around : (group : Bool) → is_column_group element ≡ group
      → (columns_in element inside around).around ≡ around.around
  group_around true e = rw e refl
  group_around false e = rw e refl

counted_next : (depth : ℕ) → counted (counted depth + 1) ≡ counted (depth + 1)
counted_next depth = omega arith

module _ (token : List ℕ) (element : Element) (around : blocks.HtmlContext) where
  typed_topic : (topic : Bool) → is_type (codes "topic") token ≡ topic
      → topic_within token element around.topic ≡ (within_type token element around).topic
  typed_topic true e = rw e refl
  typed_topic false e = rw e refl

  typed_depth : (topic : Bool) → is_type (codes "topic") token ≡ topic
      → depth_within token (counted around.depth) ≡ counted (within_type token element around).depth
  typed_depth true e = rw e (counted_next around.depth)
  typed_depth false e = rw e refl

module _ (old new : Groups) (context within : HtmlContext) (element : Element) (inside : Written)
    (around : blocks.HtmlContext)
    (is : IsWithin old context around)
    (nearest : HasColumns new within.tables.group (columns_within (tokens_of element) inside around.columns)) where
  -- what an element of no form holds
  pub within_none : within.topic.now ≡ context.topic.now → within.depth ≡ context.depth
      → within.around ≡ context.around → within.tables.head ≡ context.tables.head
      → within.tables.simple_head ≡ context.tables.simple_head
      → IsWithin new within (columns_in element inside around)
  within_none topic depth same head simple = record {
    topic = topic ∙ is.topic ∙ sym (group_topic element inside around (is_column_group element) refl);
    depth = depth ∙ is.depth ∙ ap counted (sym (group_depth element inside around (is_column_group element) refl));
    nearest = ap around_shown same ∙ is.nearest
        ∙ sym (group_around element inside around (is_column_group element) refl);
    tables = context_beside old new context.tables within.tables element inside around is.tables nearest head simple;
  }

  -- what an element of a form holds
  pub within_some : (row : List ℕ × Form) → within.topic.now ≡ topic_within row.0 element context.topic.now
      → within.depth ≡ depth_within row.0 context.depth
      → around_shown within.around ≡ around_in row.0 (around_shown context.around)
      → within.tables.head ≡ head_in row.0 context.tables.head
      → within.tables.simple_head ≡ simple_head_in row.0 context.tables.simple_head
      → IsWithin new within (context_in element inside (Some row) around)
  within_some row topic depth same head simple =
      let typed = within_type row.0 element around in
      record {
        topic = topic ∙ ap (topic_within row.0 element) is.topic
            ∙ typed_topic row.0 element around (is_type (codes "topic") row.0) refl
            ∙ sym (group_topic element inside typed (is_column_group element) refl);
        depth = depth ∙ ap (depth_within row.0) is.depth
            ∙ typed_depth row.0 element around (is_type (codes "topic") row.0) refl
            ∙ ap counted (sym (group_depth element inside typed (is_column_group element) refl));
        nearest = same ∙ ap (around_in row.0) is.nearest
            ∙ sym (group_around element inside typed (is_column_group element) refl);
        tables = context_within old new context.tables within.tables element inside around is.tables nearest row head
            simple;
      }
