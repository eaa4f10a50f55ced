use Rattle.std.proofs.Common.{◌≡◌, ◌∙◌, ap, rules, sym}
use Rattle.doc_maker.specs.Building as spec
use Rattle.doc_maker.specs.Made as made_spec
use Rattle.doc_maker.proofs.BuildingLaws.{top_of_all, whole_closed}
use Rattle.doc_maker.proofs.maker.DocMaker.close_all.Goals as goal

pub loop-self-preserved : goal.loop-self-preserved
loop-self-preserved c = (
  ap spec.whole c.close.ensures.closed ∙ whole_closed (made_spec.building c.loop-self.self)
      ∙ c.loop-self.invariant.0,
  c.close.ensures.declared ∙ c.loop-self.invariant.1,
)

pub returns-clause-top : goal.returns-clause-top
returns-clause-top c =
    let none : c.depth.result ≡ 0 = search rules in
    top_of_all (made_spec.building c.loop-self.self) (made_spec.building c.args.self.now) c.loop-self.invariant.0
    (sym c.depth.ensures ∙ none)
