use Rattle.std.proofs.Common.{◌++◌, ap, sym, ◌∙◌, subst, Option}
use Rattle.dita_doc.specs.Bytes.{Bytes}
use Rattle.dita_doc.specs.History.{Entry}
use Rattle.dita_doc.specs.Seen.{entry_seen, request_seen}
use Rattle.run_spec.specs.Answers.{build_shown}
use Rattle.transcript_text.specs.Transcript.{entry_shown}
use Rattle.transcript_text.specs.Written.{IsText, IsTextOfEntry, built_shown, text_shown}
use Rattle.transcript_text.specs.declared.built.BuiltText.{BuiltText}
use Rattle.desk_top.proofs.AnswerLaws.{kept_by, answer_put, answer_front, answers_whole, begun_answer, entry_is, reply_text, some_copied, some_shown}
use Rattle.desk_top.proofs.TakesLaws.{front_all, puts_front}
use Rattle.desk_top.proofs.run.answer.Goals as goal

pub returns-in_err-built-clause-pages : goal.returns-in_err-built-clause-pages
returns-in_err-built-clause-pages g c =
    let kept = kept_by c.args.store.now c.keep.new.store c.args.session
    (request_seen c.args.request) c.in_ok-place.place c.entries.result c.in_ok-place.ensures.place
    c.entries.ensures.value c.in_ok-place.ensures.ok in
    puts_front _ _ _ _ c.from_residual-in_err-built.result c.from_residual-in_err-built.ensures.1
    (answer_front c.args.with_terms _ _ _ _ _ _ _ kept c.in_err-built.ensures.pages)

pub write_entry-requires-clause-built : goal.write_entry-requires-clause-built
write_entry-requires-clause-built g c =
    let kept = kept_by c.args.store.now c.keep.new.store c.args.session
    (request_seen c.args.request) c.in_ok-place.place c.entries.result c.in_ok-place.ensures.place
    c.entries.ensures.value c.in_ok-place.ensures.ok in
    some_copied c.as_ref.result c.in_ok-built.built c.as_ref.ensures.value
    ∙ some_shown text_shown build_shown c.in_ok-built.built _ c.in_ok-built.ensures.shown
    ∙ begun_answer _ _ _ _ _ (entry_seen c.entry.result.now) kept c.entry.ensures

pub write_entry-requires-clause-text : goal.write_entry-requires-clause-text
write_entry-requires-clause-text g c =
    let kept = kept_by c.args.store.now c.keep.new.store c.args.session
    (request_seen c.args.request) c.in_ok-place.place c.entries.result c.in_ok-place.ensures.place
    c.entries.ensures.value c.in_ok-place.ensures.ok in
    subst (λ (entry : Entry). IsText entry.reply)
    (sym (entry_is _ _ _ _ _ (entry_seen c.entry.result.now) kept c.entry.ensures))
    (reply_text c.args.store.now.history (request_seen c.args.request) c.requires.room.utf8)

pub returns-in_err-entry-clause-pages : goal.returns-in_err-entry-clause-pages
returns-in_err-entry-clause-pages g c =
    let kept = kept_by c.args.store.now c.keep.new.store c.args.session
    (request_seen c.args.request) c.in_ok-place.place c.entries.result c.in_ok-place.ensures.place
    c.entries.ensures.value c.in_ok-place.ensures.ok in
    puts_front _ _ _ _ c.from_residual-in_err-entry.result c.from_residual-in_err-entry.ensures.1
    (front_all _ _ _ (answer_put c.args.with_terms _ _ _ _ _ _ _ kept c.in_ok-built.ensures.pages))

pub returns-in_err-append-clause-pages : goal.returns-in_err-append-clause-pages
returns-in_err-append-clause-pages g c =
    let kept = kept_by c.args.store.now c.keep.new.store c.args.session
    (request_seen c.args.request) c.in_ok-place.place c.entries.result c.in_ok-place.ensures.place
    c.entries.ensures.value c.in_ok-place.ensures.ok in
    puts_front _ _ _ _ c.from_residual-in_err-append.result c.from_residual-in_err-append.ensures.1
    (front_all _ _ _ (answer_put c.args.with_terms _ _ _ _ _ _ _ kept c.in_ok-built.ensures.pages))

pub returns-clause-pages : goal.returns-clause-pages
returns-clause-pages g c =
    let kept = kept_by c.args.store.now c.keep.new.store c.args.session
    (request_seen c.args.request) c.in_ok-place.place c.entries.result c.in_ok-place.ensures.place
    c.entries.ensures.value c.in_ok-place.ensures.ok in
    answer_put c.args.with_terms _ _ _ _ _ _ _ kept c.in_ok-built.ensures.pages

pub returns-clause-ok : goal.returns-clause-ok
returns-clause-ok g c =
    let kept = kept_by c.args.store.now c.keep.new.store c.args.session
    (request_seen c.args.request) c.in_ok-place.place c.entries.result c.in_ok-place.ensures.place
    c.entries.ensures.value c.in_ok-place.ensures.ok in
    answers_whole _ _ _ _ _ (entry_seen c.entry.result.now)
    (built_shown c.in_ok-built.built) c.in_ok-entry.entry c.args.text.now c.append.new.self kept c.entry.ensures
    c.in_ok-built.ensures.shown
    (subst (λ (built : Option BuiltText). IsTextOfEntry
    (entry_shown c.in_ok-place.place (entry_seen c.entry.result.now) (built_shown built)) c.in_ok-entry.entry)
    c.as_ref.ensures.value c.in_ok-entry.ensures)
    (c.in_ok-append.ensures ∙ ap (λ (more : Bytes). c.args.text.now ++ more) c.as_slice.ensures)
