use Rattle.std.proofs.Common.{subst, sym}
use Rattle.std.specs.Prelude.{IfSome}
use Rattle.dita_doc.specs.declared.doc.Doc.{Doc}
use Rattle.conref_targets.specs.Asking.{reused_of_doc, reused_of_whole}
use Rattle.conref_pull.proofs.LinkLaws.{link_whole}
use Rattle.readers.specs.Founded.{AreAmong}
use Rattle.readers.specs.Named.{named_tree}
use Rattle.conref_targets.specs.Hrefs.{HaveNamed}
use Rattle.conref_targets.specs.PageAsking.{AreMet}
use Rattle.conref_pull.proofs.LinkLaws.{link_named}
use Rattle.conref_pull.proofs.chain.TakenTarget.whole.Goals as goal

pub returns-clause-target : goal.returns-clause-target
returns-clause-target c = λ one is.
    link_whole c.deref.result.now c.args.self.now one c.whole_at.result c.deref.ensures is c.whole_at.ensures.whole

pub returns-clause-names : goal.returns-clause-names
returns-clause-names c = subst (λ (doc : Doc). IfSome c.whole_at.result
    (λ whole. AreAmong (reused_of_whole whole) (reused_of_doc doc))) c.deref.ensures c.whole_at.ensures.names

pub returns-clause-hrefs : goal.returns-clause-hrefs
returns-clause-hrefs c = λ told given. c.whole_at.ensures.hrefs told
    (subst (λ (doc : Doc). HaveNamed told (named_tree doc)) (sym c.deref.ensures)
    (link_named told c.args.self.now given))

pub returns-clause-met : goal.returns-clause-met
returns-clause-met c = λ page met. c.whole_at.ensures.met page
    (subst (λ (doc : Doc). AreMet page (named_tree doc)) (sym c.deref.ensures) met)
