use Rattle.std.proofs.Common.{◌∷◌, ◌++◌, ◌∙◌, [], ap, refl, subst}
use Rattle.dita_doc.proofs.Lists.{read_or}
use Rattle.doc_elements.specs.Walk.{element_of}
use Rattle.map_spec.specs.Elements.{fault_at}
use Rattle.conref_push.specs.Gathered.{fault_seen}
use Rattle.conref_push.specs.Sight.{sight_of}
use Rattle.conref_push.specs.Table as table
use Rattle.conref_push.specs.Table.{IsChanged}
use Rattle.conref_push.proofs.TableLaws.{tabled_fault}
use Rattle.conref_push.proofs.table.PushTable.put_fault.Goals as goal

pub returns : goal.returns
returns c = λ all acting tabled.
    let seen = fault_seen (sight_of c.args.name.now c.args.pushing) c.args.code in
    let detail = ap (λ text. text.now) c.unwrap_or-detail.ensures ∙ read_or c.args.pushing.conref _ in
    let fault_is = c.in_ok-fault.ensures
    ∙ ap (fault_at (element_of c.args.name.now c.args.pushing.element.now) c.args.code) detail in
    tabled_fault all acting c.args.self.now (record { entries = c.add_fault.new.self; faults = c.push.new.self })
    c.args.name.now seen tabled
    (subst (λ f. IsChanged c.args.self.now.entries c.add_fault.new.self c.args.name.now (table.with_fault f))
    (c.in_ok-clone.ensures.cases ∙ fault_is) c.in_ok-add_fault.ensures)
    refl (c.in_ok-push.ensures ∙ ap (λ f. c.args.self.now.faults ++ f ∷ []) fault_is)
