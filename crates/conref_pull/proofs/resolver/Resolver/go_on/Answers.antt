use Rattle.std.proofs.Common.{refl, sym, ◌∙◌}
use Rattle.doc_elements.specs.Walk.{element_of}
use Rattle.conref_pull.proofs.AcceptedLaws.{accept_refused, accept_taken}
use Rattle.conref_pull.proofs.resolver.Resolver.go_on.Goals as goal

pub returns-in_ok-push_fault-in-Some-clause-known : goal.returns-in_ok-push_fault-in-Some-clause-known
returns-in_ok-push_fault-in-Some-clause-known c = λ documents meant at target places tables is here end names special range deep
    room. accept_refused documents meant c.args.found is at c.args.links
    (element_of c.args.origin.now c.args.element.now) c.args.self.now c.push_fault.new.self places tables special
    c.args.from c.args.to range deep room c.in-Some.code (sym c.refusal.ensures.code ∙ c.in-Some.is)
    c.in_ok-push_fault-in-Some.ensures

pub returns-in_ok-enter-in-None-clause-known : goal.returns-in_ok-enter-in-None-clause-known
returns-in_ok-enter-in-None-clause-known c = λ documents meant at target places tables is here end names special range deep
    room. accept_taken documents meant c.args.found is at c.args.links
    (element_of c.args.origin.now c.args.element.now) c.args.self.now (record c.args.self.now { path = c.enter.new.path })
    places tables special c.args.from c.args.to range deep room target c.in_ok-enter-in-None.field-0 c.args.declared names here end
    (sym c.refusal.ensures.code ∙ c.in-None.is) c.in_ok-enter-in-None.ensures.link c.in_ok-enter-in-None.ensures.path refl
