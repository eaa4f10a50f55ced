use Rattle.std.proofs.Common.{ap, sym, ◌∙◌}
use Rattle.std.proofs.lemmas.Bool.Decides.{Decides-at}
use Rattle.std.proofs.lemmas.Slice.Eq.{bytes_eq-Decides}
use Rattle.map_spec.specs.Titles.{title_in}
use Rattle.reader_spec.specs.World.{World}
use Rattle.fact_judge.proofs.StoodLaws.{tells_value}
use Rattle.fact_judge.proofs.stored.StoredSince.is_title.Goals as goal

pub returns-clause-tells : goal.returns-clause-tells
returns-clause-tells c = tells_value c.eq.result _ c.in_ok-given.given c.args.text.now
    (sym (ap (λ (world : World). title_in world c.args.name.now c.args.topic.now) c.requires.known)
    ∙ c.in_ok-given.ensures.value)
    (Decides-at c.eq.result _ c.eq.ensures (bytes_eq-Decides c.in_ok-given.given c.args.text.now))
