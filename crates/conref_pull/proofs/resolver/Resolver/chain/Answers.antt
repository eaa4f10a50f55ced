use Rattle.std.proofs.Common.{List, arith, sym, subst}
use Rattle.std.proofs.lemmas.List.Elements.{All-nil}
use Rattle.doc_elements.specs.Walk.{element_of}
use Rattle.conref_spec.specs.Content.{followed}
use Rattle.conref_targets.specs.ResolveInput.{setting_of}
use Rattle.conref_pull.specs.Linked.{AreGivenTo, IsFollowed}
use Rattle.conref_pull.specs.Met.{LinkMet, LinksMet}
use Rattle.conref_pull.specs.State.{path_within}
use Rattle.conref_pull.specs.declared.chain.TakenTarget.{TakenTarget}
use Rattle.conref_pull.proofs.resolver.Resolver.chain.Goals as goal

pub returns-clause-given : goal.returns-clause-given
returns-clause-given g c = c.in_ok-end.ensures.given
    (subst (λ (links : List TakenTarget). AreGivenTo (g.A.Reader.told c.args.asker.now) links) (sym c.new-taken.ensures.items) tt)

pub returns-clause-known : goal.returns-clause-known
returns-clause-known g c = λ world at inside agrees are deep room.
    (let setting = setting_of world (g.A.Reader.stand c.args.asker.now).setting c.args.self.now.context.now.page
    c.args.self.now.rules in
    let element = element_of c.args.origin.now c.args.element.now in
    subst (λ (links : List TakenTarget). IsFollowed setting.pushed element inside
    (followed setting c.args.topic.now at (path_within c.args.self.now c.args.links) element inside) links
    c.follow.new.taken.items c.args.links c.in_ok-end.end c.args.self.now c.follow.new.self c.follow.new.places)
    c.new-taken.ensures.items
    (c.in_ok-end.ensures.known world at 33 inside agrees are deep (omega arith) (omega arith) room))

pub returns-clause-only : goal.returns-clause-only
returns-clause-only g c = λ page agrees at met. c.in_ok-end.ensures.only page agrees at met
    (subst (LinksMet page) (sym c.new-taken.ensures.items) (All-nil (LinkMet page)))
