-- The way from the root of a document down to a table.
use Rattle.std.specs.Prelude.{◌≡◌, ◌+◌, ◌-◌, ◌<◌, ◌≤◌, ℕ, suc, List, []}
use Rattle.std.proofs.Common.{refl, sym, ap, ◌∙◌, arith}
use Rattle.html_tables.specs.declared.context.TableContext.{TableContext}
use Rattle.html_tables.specs.declared.groups.Groups.{Groups}
use Rattle.html_tables.specs.Walk.{HasWithin, IsContext, cells_at, cells_of}
use Rattle.html_tables.proofs.PlaceLaws.{cells_left, left_behind, left_here, left_inside, left_text}
use Rattle.map_spec.specs.Written.{Element, Written, End, Chars, Node, size}
use Rattle.html_spec.specs.Blocks.{HtmlContext, context_in, outside, row_for}

-- where the first of the nodes that are left stands; and the element sought stands among them, if anywhere
pub record LeadsTo (groups : Groups) (tables : TableContext) (here table : ℕ) (left all : Written) : Type 0 where
  pub around : HtmlContext
  pub at : ℕ
  pub is : IsContext groups tables around
  pub there : table ≡ here + at
  pub cells : cells_at all table ≡ cells_left around here at left

-- from the root
pub down_begins : (groups : Groups) (tables : TableContext) (table : ℕ) (left all : Written) → left ≡ all
    → IsContext groups tables outside → LeadsTo groups tables 0 table left all
down_begins groups tables table left all same is = record {
  around = outside;
  at = table;
  is = is;
  there = omega arith;
  cells =
      let there : 0 + table ≡ table = omega arith in
      rw (there, same) refl;
}

module _ (groups : Groups) (tables : TableContext) (here table : ℕ) (left all : Written)
    (way : LeadsTo groups tables here table left all) where
  -- no node is left
  pub down_ends : left ≡ End → [] ≡ cells_at all table
  down_ends none = sym (way.cells ∙ ap (cells_left way.around here way.at) none)

  -- a text is no element
  pub down_nothing : (text doc : List ℕ) (rest : Written) → left ≡ Chars text doc rest → here ≡ table
      → [] ≡ cells_at all table
  down_nothing text doc rest first is =
      let there = way.there in
      let at : way.at ≡ 0 = omega (arith, is, there) in
      sym (way.cells ∙ ap (cells_left way.around here way.at) first
      ∙ ap (λ k. cells_left way.around here k (Chars text doc rest)) at)

  pub down_text : (text doc : List ℕ) (rest : Written) → left ≡ Chars text doc rest → (here ≡ table → ⊥)
      → LeadsTo groups tables (here + 1) table rest all
  down_text text doc rest first other =
      let there = way.there in
      let some : way.at ≡ 0 → ⊥ = λ e. other (omega (arith, e, there)) in
      let at : way.at ≡ suc (way.at - 1) = omega (arith, some) in
      record {
        around = way.around;
        at = way.at - 1;
        is = way.is;
        there = omega (arith, at, there);
        cells = way.cells ∙ ap (cells_left way.around here way.at) first
            ∙ ap (λ k. cells_left way.around here k (Chars text doc rest)) at
            ∙ left_text way.around here (way.at - 1) text doc rest;
      }

module _ (groups : Groups) (tables : TableContext) (here table : ℕ) (left all : Written)
    (way : LeadsTo groups tables here table left all) (element : Element) (inside rest : Written)
    (first : left ≡ Node element inside rest) where
  -- the element sought is here
  pub down_found : here ≡ table → cells_of way.around here (element, inside) ≡ cells_at all table
  down_found is =
      let there = way.there in
      let at : way.at ≡ 0 = omega (arith, is, there) in
      sym (way.cells ∙ ap (cells_left way.around here way.at) first
      ∙ ap (λ k. cells_left way.around here k (Node element inside rest)) at
      ∙ left_here way.around here element inside rest)

  -- it is below this one
  pub down_inside : (new : Groups) (within : TableContext) → HasWithin new within element inside way.around
      → (here ≡ table → ⊥) → table < here + 1 + size inside → LeadsTo new within (here + 1) table inside all
  down_inside new within is other low =
      let there = way.there in
      let some : way.at ≡ 0 → ⊥ = λ e. other (omega (arith, e, there)) in
      let at : way.at ≡ suc (way.at - 1) = omega (arith, some) in
      record {
        around = context_in element inside (row_for element) way.around;
        at = way.at - 1;
        is = is;
        there = omega (arith, at, there);
        cells = way.cells ∙ ap (cells_left way.around here way.at) first
            ∙ ap (λ k. cells_left way.around here k (Node element inside rest)) at
            ∙ left_inside way.around here element inside rest (way.at - 1) (omega (arith, at, there, low));
      }

  -- it is behind this one
  pub down_behind : (past : ℕ) → past ≡ here + 1 + size inside → past ≤ table
      → LeadsTo groups tables past table rest all
  down_behind past is high =
      let there = way.there in
      let at : way.at ≡ suc (way.at - 1) = omega (arith, is, there, high) in
      record {
        around = way.around;
        at = way.at - 1 - size inside;
        is = way.is;
        there = omega (arith, is, there, high);
        cells = way.cells ∙ ap (cells_left way.around here way.at) first
            ∙ ap (λ k. cells_left way.around here k (Node element inside rest)) at
            ∙ left_behind way.around here element inside rest (way.at - 1) (omega (arith, at, is, there, high))
            ∙ ap (λ n. cells_left way.around n (way.at - 1 - size inside) rest) (sym is);
      }
