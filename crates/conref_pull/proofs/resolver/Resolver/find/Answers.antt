use Rattle.doc_elements.specs.Walk.{element_of}
use Rattle.conref_targets.specs.ResolveInput.{setting_of}
use Rattle.conref_targets.specs.Sought.{sought_shown}
use Rattle.conref_pull.proofs.SeekLaws.{sought_in}
use Rattle.conref_pull.proofs.resolver.Resolver.find.Goals as goal

pub returns-clause-known : goal.returns-clause-known
returns-clause-known g c = λ world agrees are.
    sought_in c.find_referenced.result
    (setting_of world (g.A.Reader.stand c.args.asker.now).setting c.args.self.now.context.now.page c.args.self.now.rules)
    c.args.topic.now (element_of c.args.origin.now c.args.element.now) (sought_shown c.args.sought) c.args.self.now
    c.find_referenced.new.faults c.find_referenced.new.places
    (c.find_referenced.ensures.known world c.args.self.now.rules agrees are)

pub returns-clause-only : goal.returns-clause-only
returns-clause-only g c = c.find_referenced.ensures.only
