use Rattle.std.proofs.Common.{ℕ, List, [], Some, None, refl, slice_get, sym, ap, ◌∙◌}
use Rattle.std.specs.Option.{option_copied}
use Rattle.dita_doc.specs.declared.doc.Doc.{Doc}
use Rattle.readers.specs.Named.{under_names, named_tree}
use Rattle.conref_targets.specs.Parts.{end_place, ends_of}
use Rattle.conref_targets.proofs.RangeEndLaws.{ends_behind, ends_here, ends_none, range_as, stored_there}
use Rattle.conref_targets.proofs.ranges.range_end.Goals as goal

pub returns-in_default-clause-range : goal.returns-in_default-clause-range
returns-in_default-clause-range c = λ documents meant are is here.
    range_as meant.standing c.args.target.now.end (option_copied c.args.value) None _ _ (ap option_copied c.in_default.is)
    refl (ends_none documents meant c.args.found.now is c.args.target.now.end)

pub returns-then-is_end-clause-range : goal.returns-then-is_end-clause-range
returns-then-is_end-clause-range c = λ documents meant are is here.
    range_as meant.standing c.args.target.now.end (option_copied c.args.value) (Some c.in-Some.value.now) _ _
    (ap option_copied c.in-Some.is) refl
    (ends_here documents meant c.args.found.now is c.args.target.now here c.in-Some.value.now c.as_str.result.now
    (sym c.in_ok-id.ensures ∙ c.in-Some-2.is ∙ ap Some (sym c.as_str.ensures))
    (sym (c.is_end.ensures []) ∙ c.if-is_end.true))

pub returns-clause-range : goal.returns-clause-range
returns-clause-range c = λ documents meant are is here.
    range_as meant.standing c.args.target.now.end (option_copied c.args.value) (Some c.in-Some.value.now) _ _
    (ap option_copied c.in-Some.is) refl
    (ends_behind documents meant c.args.found.now is c.args.target.now here c.in-Some.value.now c.as_str.result.now
    (sym c.in_ok-id.ensures ∙ c.in-Some-2.is ∙ ap Some (sym c.as_str.ensures)) c.deref-2.result.now c.in_ok-end.end
    c.end_of_range.result c.deref-2.ensures (sym (c.is_end.ensures []) ∙ c.if-is_end.false)
    (c.in_ok-end.ensures.end documents are
    (stored_there documents meant c.args.found.now is c.deref.result.now c.deref.ensures)
    ∙ ap (λ (d : Doc). slice_get (ends_of (named_tree d)) c.args.found.now.place) (c.deref.ensures ∙ sym c.deref-2.ensures))
    (λ part there fits. c.end_of_range.ensures part there (fits ∙ sym c.unwrap_or.ensures)
    ∙ ap (λ (id : List ℕ). end_place id c.args.target.now.end (under_names c.deref-2.result.now.origins part))
    (c.as_str-2.ensures ∙ sym c.as_str.ensures)))
