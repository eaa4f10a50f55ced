use Rattle.std.proofs.Common.{◌∙◌, Some, None}
use Rattle.conref_push.proofs.TableLaws.{list_found}
use Rattle.conref_push.proofs.table.PushTable.pushes_into.Goals as goal

pub returns-in_ok-copy_faults-in-Some : goal.returns-in_ok-copy_faults-in-Some
returns-in_ok-copy_faults-in-Some c = λ world documents tabled.
    list_found world documents c.args.self.now c.args.doc.now (Some c.in-Some.entry.now) _ _ c.in-Some.ensures
    (c.in_ok-copy_pushes-in-Some.ensures ∙ c.as_slice.ensures)
    (c.in_ok-copy_faults-in-Some.ensures ∙ c.as_slice-in-Some.ensures) tabled

pub returns-in-None : goal.returns-in-None
returns-in-None c = λ world documents tabled.
    list_found world documents c.args.self.now c.args.doc.now None _ _ c.in-None.ensures c.new.ensures
    c.new-in-None.ensures tabled
