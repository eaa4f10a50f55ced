use Rattle.std.proofs.Common.{◌++◌, List, ap, filter, refl, ◌∙◌}
use Rattle.dita_doc.specs.declared.doc.Attribute.{Attribute}
use Rattle.doc_elements.specs.Walk.{element_of}
use Rattle.conref_pull.specs.Merging.{is_given, part_of, taking}
use Rattle.conref_pull.proofs.HrefMergeLaws.{by_element, is_shown, part_named, shown, taking_named}
use Rattle.conref_pull.proofs.TakingLaws.{taken_up}
use Rattle.conref_pull.proofs.merge.Merged.with_target.Goals as goal

pub returns-clause-merged : goal.returns-clause-merged
returns-clause-merged c = λ own is.
    taken_up c.args.leaves (record { attributes = c.append.new.out; href_doc = c.in_ok-href_doc.href_doc }) c.args.self own
    (element_of c.args.origin.now c.args.target.now) c.append_missing.new.out c.takes_href.result
    c.in_ok-href_doc.href_doc is
    (c.in_ok-append_missing.ensures
    ∙ ap (λ (some : List Attribute). some ++ filter (is_given c.args.leaves c.args.self.attributes) c.args.target.now.attributes)
    c.new-more.ensures)
    c.takes_href.ensures c.in_ok-href_doc.ensures c.in_ok-append.ensures refl

pub returns-clause-hrefs : goal.returns-clause-hrefs
returns-clause-hrefs c = λ told named mine.
    (let own = shown c.args.self in
    let target = element_of c.args.origin.now c.args.target.now in
    by_element told (record { attributes = c.append.new.out; href_doc = c.in_ok-href_doc.href_doc })
    (taking own (part_of c.args.leaves target)) (returns-clause-merged c own (is_shown c.args.self))
    (taking_named told own (part_of c.args.leaves target) mine (part_named told c.args.leaves target named)))
