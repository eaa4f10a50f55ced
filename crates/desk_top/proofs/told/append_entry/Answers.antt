use Rattle.std.proofs.Common.{◌++◌, ◌∙◌, ap, sym}
use Rattle.dita_doc.specs.Bytes.{Bytes}
use Rattle.dita_doc.specs.Seen.{entry_seen}
use Rattle.desk_top.proofs.AnswerLaws.{some_copied}
use Rattle.desk_top.proofs.EntryLaws.{entry_begun, entry_utf8}
use Rattle.desk_top.proofs.ShownLaws.{stands_at}
use Rattle.desk_top.proofs.ToldLaws.{entry_told}
use Rattle.desk_top.proofs.told.append_entry.Goals as goal

pub write_entry-requires-clause-built : goal.write_entry-requires-clause-built
write_entry-requires-clause-built c =
    let entry = entry_seen c.entry.result.now in
    some_copied c.as_ref.result c.args.built.now c.as_ref.ensures.value ∙ c.requires.built
    ∙ stands_at c.args.store.now.history c.args.place entry c.entry.ensures
    ∙ sym (entry_begun c.args.store.now.history c.args.place entry c.requires.legal c.entry.ensures)

pub write_entry-requires-clause-text : goal.write_entry-requires-clause-text
write_entry-requires-clause-text c = entry_utf8 c.args.store.now.history c.args.place (entry_seen c.entry.result.now)
    c.requires.legal c.requires.utf8 c.requires.within c.entry.ensures

pub returns : goal.returns
returns c = entry_told _ _ _ _ _ _ _ _ c.entry.ensures c.as_ref.ensures.value c.in_ok-entry.ensures
    (c.in_ok-append.ensures ∙ ap (λ (more : Bytes). c.args.text.now ++ more) c.as_slice.ensures)
