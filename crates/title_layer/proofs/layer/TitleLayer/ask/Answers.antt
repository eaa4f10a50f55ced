use Rattle.readers.specs.Titled.{AreTitles}
use Rattle.readers.proofs.LayerLaws.{knows_more, tried_asked}
use Rattle.title_layer.proofs.layer.TitleLayer.ask.Goals as goal

pub invariant_of-self-2-clause-carried : goal.invariant_of-self-2-clause-carried
invariant_of-self-2-clause-carried g c = tried_asked _ _ _ _ _ _ _ _ c.args.self.now.carried
    c.in_ok-clone.ensures.cases c.in_ok-begin.ensures.ok c.doc.ensures.grows c.doc.ensures.founded

pub invariant_of-self-2-clause-known : goal.invariant_of-self-2-clause-known
invariant_of-self-2-clause-known g c = knows_more (λ world. AreTitles world c.args.self.now.table.now) _ _
    c.doc.ensures.grows c.args.self.now.known
