use Rattle.std.proofs.Common.{true, false, ap, sym, subst, ◌∙◌}
use Rattle.std.specs.List.{filter_map}
use Rattle.std.specs.Str.{IsUtf8}
use Rattle.ditaval_rules.specs.Domains.{name_in, pieces_from, names_declared}
use Rattle.ditaval_rules.proofs.NameLaws.{with_all, all_counted}
use Rattle.ditaval_rules.proofs.DomainLaws.{end_declares, end_passed, no_pieces, utf8_words_before, utf8_behind}
use Rattle.ditaval_rules.proofs.domains.names_declared.Goals as goal

pub loop-text-init : goal.loop-text-init
loop-text-init c = record {
  names = c.new-names.ensures.seen;
  whole = ap (λ l. with_all l (filter_map name_in (pieces_from true c.as_bytes-rest.result.now))) c.new-names.ensures.list
      ∙ all_counted (filter_map name_in (pieces_from true c.as_bytes-rest.result.now))
      ∙ ap names_declared c.as_bytes-rest.ensures.value;
  utf8 = subst IsUtf8 (sym c.as_bytes-rest.ensures.value) c.utf8.value;
}

pub put_last-requires-clause-utf8 : goal.put_last-requires-clause-utf8
put_last-requires-clause-utf8 c =
    utf8_words_before c.loop-text.may_begin c.loop-text.rest.now c.in-Some.text.now c.in-Some.more.now c.loop-text.names.list
    c.in-Some.ensures c.loop-text.invariant.utf8

pub loop-text-preserved-in_ok-put_last : goal.loop-text-preserved-in_ok-put_last
loop-text-preserved-in_ok-put_last c = record {
  names = c.in_ok-put_last.ensures.seen;
  whole =
      ap (λ l. with_all l (filter_map name_in (pieces_from false c.in-Some.more.now))) c.in_ok-put_last.ensures.list
      ∙ sym (end_declares c.loop-text.may_begin c.loop-text.rest.now c.in-Some.text.now c.in-Some.more.now
      c.loop-text.names.list c.in-Some.ensures (sym c.declares.ensures ∙ c.if-declares.true))
      ∙ c.loop-text.invariant.whole;
  utf8 = utf8_behind c.loop-text.may_begin c.loop-text.rest.now c.in-Some.text.now c.in-Some.more.now
      c.loop-text.names.list c.in-Some.ensures c.loop-text.invariant.utf8;
}

pub loop-text-preserved : goal.loop-text-preserved
loop-text-preserved c = record {
  names = c.loop-text.invariant.names;
  whole =
      sym (end_passed c.loop-text.may_begin c.loop-text.rest.now c.in-Some.text.now c.in-Some.more.now
      c.loop-text.names.list c.in-Some.ensures (sym c.declares.ensures ∙ c.if-declares.false))
      ∙ c.loop-text.invariant.whole;
  utf8 = utf8_behind c.loop-text.may_begin c.loop-text.rest.now c.in-Some.text.now c.in-Some.more.now
      c.loop-text.names.list c.in-Some.ensures c.loop-text.invariant.utf8;
}

pub returns : goal.returns
returns c =
    c.finish.ensures
    ∙ sym (ap (λ l. with_all c.loop-text.names.list (filter_map name_in l))
    (no_pieces c.loop-text.may_begin c.loop-text.rest.now c.in_default.ensures))
    ∙ c.loop-text.invariant.whole
