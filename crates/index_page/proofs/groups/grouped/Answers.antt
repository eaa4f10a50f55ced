use Rattle.std.proofs.Common.{◌≡◌, ◌∷◌, ◌+◌, List, ◌∙◌, ap, drop, refl, sym}
use Rattle.std.specs.Map.{keys_of}
use Rattle.index_page.specs.declared.rows.TermRow.{TermRow}
use Rattle.index_page.proofs.GroupLaws.{row_at, row_step, text_step, with_rows, with_texts}
use Rattle.index_page.proofs.groups.grouped.Goals as goal

pub loop-row-preserved : goal.loop-row-preserved
loop-row-preserved c =
    let at = c.loop-row.row-index in
    let rows = c.args.rows.now in
    let row : TermRow = c.row-item.result in
    let more : List TermRow = drop (at + 1) rows in
    let before = c.loop-row.groups.entries in
    let after = c.put.new.groups.entries in
    let rest : drop at rows ≡ row ∷ more = row_at rows at row c.loop-row-test.true c.row-item.is in
    let path = c.in-Some.path.now in
    let goes = c.in-Some.ensures.cases.0 ∙ ap (λ text. text ∷ path) (sym c.in_ok-clone.ensures.cases) in
    record {
      texts =
          text_step row more c.in_ok-clone.field-0 path goes (keys_of before) (keys_of after) c.in_ok-put.ensures.texts
          ∙ ap (with_texts (keys_of before)) (sym rest)
          ∙ c.loop-row.invariant.texts;
      rows = λ text.
          row_step row more c.in_ok-clone.field-0 path goes before after
          (record { path = c.in-Some.path; page = c.row-item.result.page }) refl refl c.in_ok-put.ensures.rows text
          ∙ ap (λ l. with_rows before l text) (sym rest)
          ∙ c.loop-row.invariant.rows text;
    }
