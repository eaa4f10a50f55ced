use Rattle.std.proofs.Common.{[], ◌++◌, ◌∙◌, All, ap, length, nat_cmp, subst, sym}
use Rattle.std.specs.List.Sorted.{IsStrictlySortedBy}
use Rattle.std.specs.Map.{keys_of, values_of}
use Rattle.dita_doc.specs.Bytes.{Bytes}
use Rattle.facts.specs.Table.{TableData, made}
use Rattle.version_store.specs.Kept.{Kept}
use Rattle.desk_top.specs.Runs.{IsUtf8Entry}
use Rattle.desk_top.specs.Told.{AreOfBuilds, HasUtf8Page, TellsEntries, TellsRows}
use Rattle.desk_top.proofs.ShownLaws.{of_builds}
use Rattle.desk_top.proofs.TextMadeLaws.{whole_batch}
use Rattle.desk_top.proofs.ToldLaws.{all_utf8, all_within}
use Rattle.desk_top.proofs.WholeLaws.{rows_have_utf8}
use Rattle.desk_top.proofs.told.transcript_of.Goals as goal

pub cited_by-requires : goal.cited_by-requires
cited_by-requires c = all_within c.args.answered.book.store.history c.args.answered.built.items c.entries.result
    (c.entries.ensures.value ∙ ap (λ (kept : Kept). length kept.history) c.store-store.ensures.store) c.requires

pub append_entries-requires-clause-utf8 : goal.append_entries-requires-clause-utf8
append_entries-requires-clause-utf8 c = subst (λ (kept : Kept). All IsUtf8Entry kept.history)
    (sym c.store-store.ensures.store)
    (all_utf8 c.args.answered.book.store.history c.args.answered.built.items c.requires)

pub append_entries-requires-clause-built : goal.append_entries-requires-clause-built
append_entries-requires-clause-built c =
    let log = c.args.answered.book.store.history in
    let here = of_builds log c.args.answered.built.items c.in_ok-cited.cited.shown.items c.requires
    c.in_ok-cited.ensures.shown in
    subst (λ (kept : Kept). AreOfBuilds kept.history c.as_slice.result.now) (sym c.store-store.ensures.store)
    (subst (AreOfBuilds log) (sym c.as_slice.ensures.value) here)

pub append_rows-requires : goal.append_rows-requires
append_rows-requires c = subst (λ entries. All HasUtf8Page (values_of entries)) (sym c.in_ok-cited.ensures.rows)
    (rows_have_utf8 c.args.answered.book.store.history c.args.answered.built.items c.in_ok-cited.cited.shown.items
    c.requires c.in_ok-cited.ensures.shown)

pub returns : goal.returns
returns c =
    let log = c.args.answered.book.store.history in
    let same = c.store-store.ensures.store in
    let told = subst (λ shown. TellsEntries log shown (length log) c.in_ok-text.text c.append_entries.new.text)
    c.as_slice.ensures.value
    (subst (λ (kept : Kept). TellsEntries kept.history c.as_slice.result.now (length kept.history) c.in_ok-text.text
    c.append_entries.new.text) same c.in_ok-append_entries.ensures) in
    let lines = subst (λ entries. TellsRows (values_of entries) [] c.append_entries.new.text c.append_rows.new.text)
    c.in_ok-cited.ensures.rows c.in_ok-append_rows.ensures.told in
    let sorted = subst (λ entries. IsStrictlySortedBy nat_cmp (keys_of entries)) c.in_ok-cited.ensures.rows
    c.in_ok-append_rows.ensures.ordered in
    whole_batch c.args.answered.book c.args.answered.built.items c.in_ok-cited.cited.shown.items c.requires
    c.in_ok-cited.ensures.shown
    (record { entries = c.entries-2.result; made = c.made.result; dropped = c.dropped.result })
    c.in_ok-text.text c.append_entries.new.text c.append_rows.new.text c.append.new.self told lines sorted
    c.entries-2.type_inv c.made.type_inv c.dropped.type_inv c.in_ok-text.ensures
    (c.entries-2.ensures.value ∙ ap (λ (kept : Kept). length kept.history) same)
    (c.made.ensures ∙ ap made c.table-table.ensures.table)
    (c.dropped.ensures ∙ ap (λ (table : TableData). table.dropped) c.table-table.ensures.table)
    (c.in_ok-append.ensures
    ∙ ap (λ (more : Bytes). c.append_rows.new.text ++ more) (c.as_slice-2.ensures ∙ c.in_ok-end.ensures))
