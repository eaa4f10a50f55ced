use Rattle.std.proofs.Common.{ap, ◌∙◌, ◌∷◌, [], length, length-append}
use Rattle.transcript_text.specs.declared.transcript.EntryText.{EntryText}
use Rattle.transcript_text.proofs.StateLaws.{entry_no_bar, entry_no_fit, entry_more, entry_may_more}
use Rattle.transcript_text.proofs.Utf8Laws.{fits_utf8}
use Rattle.transcript_text.proofs.state.entry_text.Goals as goal

pub with_text-requires : goal.with_text-requires
with_text-requires c = fits_utf8 c.args.below c.len.result c.in-Some.text.now c.if-not-fits.ensures

pub returns-in_default-clause-complete : goal.returns-in_default-clause-complete
returns-in_default-clause-complete c =
    λ more may less. entry_no_bar c.args.below _ c.args.line.now more c.in_default.ensures may less

pub returns-then-not-fits-clause-complete : goal.returns-then-not-fits-clause-complete
returns-then-not-fits-clause-complete c = λ more may less.
    let none = rw c.len.ensures.length at c.if-not-fits.ensures in
    entry_no_fit c.args.below _ c.args.line.now c.in-Some.text.now more c.in-Some.ensures none may less

pub returns-clause-sound : goal.returns-clause-sound
returns-clause-sound c = λ read has less.
    let fits = rw c.len.ensures.length at c.if-not-fits.ensures in
    c.in_ok-with_entry.ensures.sound _
    (entry_more c.args.entries c.args.opened _ c.args.below read c.args.line.now c.in-Some.text.now has less
    c.in-Some.ensures fits c.in_ok-longer.ensures)

pub returns-clause-complete : goal.returns-clause-complete
returns-clause-complete c = λ more may less.
    c.in_ok-with_entry.ensures.complete more (entry_may_more c.args.below _ _ c.args.line.now more may less
    (ap (λ (entry : EntryText). length entry.lines) c.in_ok-longer.ensures
    ∙ length-append c.args.opened.lines (c.in-Some.text.now ∷ [])))
