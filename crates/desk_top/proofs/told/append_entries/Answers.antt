use Rattle.std.proofs.Common.{rules, ◌≡◌, ◌<◌, ◌∙◌, None, arith, length, subst}
use Rattle.std.proofs.lemmas.List.{get_or_default}
use Rattle.desk_top.specs.Told.{TellsEntries, TellsEntry}
use Rattle.desk_top.proofs.ToldLaws.{no_entries, one_entry}
use Rattle.desk_top.proofs.told.append_entries.Goals as goal

pub loop-place-init : goal.loop-place-init
loop-place-init c = record { told = no_entries _ _ _; within = search rules }

pub loop-place-preserved : goal.loop-place-preserved
loop-place-preserved c =
    let log = c.args.store.now.history in
    let shown = c.args.shown.now in
    let within : c.loop-place.place < length shown =
    omega (arith, c.loop-place-test.true, c.entries-place-end.ensures.value, c.requires.count) in
    let one = c.index-shown-place.is
    ∙ get_or_default shown c.loop-place.place c.index-shown-place.result None within in
    record {
      told = one_entry log shown c.loop-place.place c.args.text.now c.loop-place.text c.append_entry.new.text
          c.loop-place.invariant.told
          (subst (λ built. TellsEntry log c.loop-place.place built c.loop-place.text c.append_entry.new.text) one
          c.in_ok-append_entry.ensures);
      within = search rules;
    }

pub returns : goal.returns
returns c =
    let same : c.loop-place.place ≡ length c.args.store.now.history =
    omega (arith, c.loop-place.invariant.within, c.loop-place-test.false, c.entries-place-end.ensures.value) in
    subst (λ many. TellsEntries c.args.store.now.history c.args.shown.now many c.args.text.now c.loop-place.text) same
    c.loop-place.invariant.told
