use Rattle.std.proofs.Common.{ap, sym, ◌∙◌}
use Rattle.std.proofs.lemmas.Bool.Decides.{Decides-at}
use Rattle.std.proofs.lemmas.Slice.Eq.{bytes_eq-Decides}
use Rattle.map_spec.specs.Titles.{first_in}
use Rattle.reader_spec.specs.World.{World}
use Rattle.fact_judge.proofs.StoodLaws.{tells_value}
use Rattle.fact_judge.proofs.stored.StoredSince.is_first.Goals as goal

pub returns : goal.returns
returns c = tells_value c.eq.result _ c.in_ok-given.given c.args.id.now
    (sym (ap (λ (world : World). first_in world c.args.name.now) c.requires.known) ∙ c.in_ok-given.ensures)
    (Decides-at c.eq.result _ c.eq.ensures (bytes_eq-Decides c.in_ok-given.given c.args.id.now))
