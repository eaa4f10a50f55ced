use Rattle.std.proofs.Common.{ap, ◌∙◌, option_map}
use Rattle.std.specs.Option.{option_map_or}
use Rattle.map_spec.specs.Titles.{title_of_document}
use Rattle.map_spec.specs.Written.{written_in}
use Rattle.readers.proofs.GrowthLaws.{told_answer}
use Rattle.readers.proofs.TitleLaws.{title_at}
use Rattle.title_layer.proofs.layer.TitleLayer.make_title.Goals as goal

pub invariant_of-self-clause-known : goal.invariant_of-self-clause-known
invariant_of-self-clause-known g c = λ world a. let name = c.args.name.now in
    c.put.ensures.titles world (c.ask.new.self.known world a)
    (title_at world c.args.at _ _ _ _ c.requires.name c.requires.topic c.in_ok-copy.ensures.cases
    (ap (λ tree. option_map_or (title_of_document name c.args.topic.now) (option_map (written_in name) tree) name)
    (told_answer world _ _ _ c.in_ok-found.ensures.below a) ∙ c.in_ok-text.ensures))
