use Rattle.reader_spec.specs.World.{world_of}
use Rattle.readers.proofs.TitleLaws.{title_at, title_moved}
use Rattle.source_reader.proofs.known_titles.KnownTitles.title.Goals as goal

pub returns-in-Some-clause-value : goal.returns-in-Some-clause-value
returns-in-Some-clause-value c = let world = world_of c.args.self.now.sources.now in
    title_moved world c.in_ok-at.at _ _ _ _ c.in_ok-at.ensures.name c.in_ok-at.ensures.topic c.in_ok-clone.ensures.cases
    (c.in-Some.ensures world c.args.self.now.titles)

pub invariant_of-self-2 : goal.invariant_of-self-2
invariant_of-self-2 c = let world = world_of c.args.self.now.sources.now in record {
  titles = c.put.ensures.titles world c.args.self.now.titles
      (title_at world c.in_ok-at.at _ _ _ _ c.in_ok-at.ensures.name c.in_ok-at.ensures.topic
      c.in_ok-clone-2.ensures.cases c.in_ok-text.ensures);
}
