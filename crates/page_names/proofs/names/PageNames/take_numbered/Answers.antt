use Rattle.std.proofs.Common.{◌+◌, ◌∙◌, ap, refl, subst}
use Rattle.std.specs.BTreeMap.{insert_entry}
use Rattle.std.specs.Cmp.Lexicographic.{slice_cmp}
use Rattle.std.specs.Ordering.{nat_cmp}
use Rattle.map_spec.specs.Pages.{with_number}
use Rattle.page_names.specs.Taken.{IsTakenBy}
use Rattle.page_names.proofs.NameLaws.{number_known, number_taken}
use Rattle.page_names.proofs.names.PageNames.take_numbered.Goals as goal

pub returns-in-Some : goal.returns-in-Some
returns-in-Some c = λ taken are.
    let before = c.loop-number.invariant.names taken are in
    let number = c.loop-number.number in
    let same = c.loop-number.invariant.same in
    number_taken taken c.args.base c.in-Some.name c.as_str-in-loop-number.result.now number c.len.result
    c.saturating_add-number-end.result c.args.self.now c.take.new.self
    (record { taken = c.take.new.self.taken; next = c.insert.new.self }) are before.1 c.len.ensures.len
    c.saturating_add-number-end.ensures c.loop-number-test.true
    (c.as_str-in-loop-number.ensures ∙ c.in_ok-numbered.ensures
    ∙ ap (λ b. with_number b number) (c.as_str.ensures ∙ same))
    (subst (IsTakenBy taken c.as_str-in-loop-number.result.now c.take.new.self) c.in-Some.is
    (c.in_ok-name.ensures taken before.0)) refl
    (c.in_ok-insert.ensures.entries
    ∙ ap (λ b. insert_entry (slice_cmp nat_cmp) c.take.new.self.next.entries b (number + 1)) same)

pub loop-number-preserved : goal.loop-number-preserved
loop-number-preserved c = record {
  same = c.loop-number.invariant.same;
  names = λ taken are.
      (let before = c.loop-number.invariant.names taken are in
      number_known taken c.args.base c.as_str-in-loop-number.result.now c.loop-number.number c.take.new.self before.1
      (c.as_str-in-loop-number.ensures ∙ c.in_ok-numbered.ensures
      ∙ ap (λ b. with_number b c.loop-number.number) (c.as_str.ensures ∙ c.loop-number.invariant.same))
      (subst (IsTakenBy taken c.as_str-in-loop-number.result.now c.take.new.self) c.in_default.is
      (c.in_ok-name.ensures taken before.0)));
}
