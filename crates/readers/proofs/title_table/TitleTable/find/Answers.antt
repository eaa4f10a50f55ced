use Rattle.std.proofs.Common.{◌≡◌, sym, subst}
use Rattle.map_spec.specs.Titles.{title_in}
use Rattle.readers.specs.Titled.{AreTitles}
use Rattle.readers.proofs.TitleLaws.{text_found, title_found}
use Rattle.readers.proofs.title_table.TitleTable.find.Goals as goal

pub returns : goal.returns
returns c = λ world titles. text_found (λ text. title_in world c.args.topic.now.name c.args.topic.now.topic ≡ text) _ _
    c.get.ensures.value (title_found world c.args.topic.now c.self.inside.titles.entries
    (subst (AreTitles world) (sym c.self.view_is) titles))
