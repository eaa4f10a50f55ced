use Rattle.std.proofs.Common.{◌∷◌, ◌++◌, []}
use Rattle.desk_work.proofs.PileLaws.{pile_taken, top_within}
use Rattle.desk_work.proofs.deal.take.Goals as goal

pub returns : goal.returns
returns c = record {
  taken = pile_taken c.args.piles.now c.args.home c.index-piles-home.result c.pop.new.self c.in-Some.job
      (top_within c.args.piles.now c.args.home (c.requires.0 ++ c.requires.1 ∷ []) c.requires.2) c.in-Some.ensures.items;
}
