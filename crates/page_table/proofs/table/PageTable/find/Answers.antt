use Rattle.page_table.proofs.PageLaws.{found_nothing}
use Rattle.page_table.proofs.table.PageTable.find.Goals as goal

pub returns-in_default : goal.returns-in_default
returns-in_default c = λ pages is. found_nothing pages c.args.self.now is c.args.doc.now c.args.context.now
    c.in_default.ensures.value
