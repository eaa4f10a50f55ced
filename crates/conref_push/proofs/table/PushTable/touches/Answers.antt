use Rattle.std.proofs.Common.{◌∙◌, Some, None}
use Rattle.conref_push.proofs.TableLaws.{touched_found}
use Rattle.conref_push.proofs.table.PushTable.touches.Goals as goal

pub returns-in-Some : goal.returns-in-Some
returns-in-Some c = λ world documents tabled. c.touches.ensures
    ∙ touched_found world documents c.args.self.now c.args.doc.now (Some c.in-Some.entry.now) c.in-Some.ensures tabled

pub returns-in-None : goal.returns-in-None
returns-in-None c = λ world documents tabled.
    touched_found world documents c.args.self.now c.args.doc.now None c.in-None.ensures tabled
