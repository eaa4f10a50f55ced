use Rattle.std.proofs.Common.{ap, sym, ◌∙◌}
use Rattle.std.proofs.lemmas.Bool.Decides.{Decides-at}
use Rattle.map_spec.specs.Titles.{kind_in}
use Rattle.reader_spec.specs.World.{World}
use Rattle.fact_judge.proofs.EqLaws.{doc_kind_decides}
use Rattle.fact_judge.proofs.StoodLaws.{tells_value}
use Rattle.fact_judge.proofs.stored.StoredSince.is_kind.Goals as goal

pub returns : goal.returns
returns c = tells_value c.eq.result _ c.kind-given.result c.args.kind
    (sym (ap (λ (world : World). kind_in world c.args.name.now) c.requires.known) ∙ c.kind-given.ensures)
    (Decides-at c.eq.result _ c.eq.ensures (doc_kind_decides c.kind-given.result c.args.kind))
