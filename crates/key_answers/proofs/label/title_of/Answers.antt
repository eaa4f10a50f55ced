use Rattle.std.proofs.Common.{option_to_list, subst, sym}
use Rattle.dita_doc.specs.declared.plan.Target.{Target}
use Rattle.map_spec.specs.Pages.{local_name}
use Rattle.readers.specs.Founded.{StaysFounded}
use Rattle.readers.proofs.OnlyLaws.{only_title}
use Rattle.key_answers.proofs.label.title_of.Goals as goal

pub returns-in-Local-clause-only : goal.returns-in-Local-clause-only
returns-in-Local-clause-only g c = only_title c.title.result c.args.target.now c.in-Local.name
    c.in-Local.reference _ _ c.in-Local.is c.title.ensures.told

pub returns-in-Local-clause-founded : goal.returns-in-Local-clause-founded
returns-in-Local-clause-founded g c =
    subst (λ (target : Target). StaysFounded (option_to_list (local_name target)) (g.T.Reader.told c.args.asker.now)
    (g.T.Reader.told c.title.new.self)) (sym c.in-Local.is) c.title.ensures.founded
