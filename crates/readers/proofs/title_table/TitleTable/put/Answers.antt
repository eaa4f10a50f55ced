use Rattle.std.proofs.Common.{sym, subst}
use Rattle.readers.specs.Titled.{AreTitles}
use Rattle.readers.proofs.TitleLaws.{title_put}
use Rattle.readers.proofs.title_table.TitleTable.put.Goals as goal

pub returns-clause-titles : goal.returns-clause-titles
returns-clause-titles c = λ world titles title. subst (AreTitles world) (sym c.in_ok-insert.ensures.entries)
    (title_put world c.args.topic c.args.text c.self.inside.titles.entries
    (subst (AreTitles world) (sym c.self.view_is) titles) title)
