use Rattle.std.proofs.Common.{subst, sym}
use Rattle.dita_doc.specs.declared.plan.Target.{Target}
use Rattle.readers.specs.Founded.{StaysFounded}
use Rattle.xref_links.specs.Names.{names_of_target}
use Rattle.xref_links.proofs.link.text_of_target.Goals as goal

pub returns-in-Local-clause-founded : goal.returns-in-Local-clause-founded
returns-in-Local-clause-founded g c =
    subst (λ (target : Target). StaysFounded (names_of_target target) (g.A.Reader.told c.args.asker.now)
    (g.A.Reader.told c.title.new.self)) (sym c.in-Local.is) c.title.ensures.founded
