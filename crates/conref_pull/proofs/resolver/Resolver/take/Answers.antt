use Rattle.std.proofs.Common.{Option, sym, ap, refl, subst, ◌∙◌}
use Rattle.std.specs.Option.{option_copied}
use Rattle.doc_elements.specs.Walk.{element_of}
use Rattle.conref_spec.specs.Content as content
use Rattle.conref_targets.specs.Asking.{IsGivenIn}
use Rattle.conref_targets.specs.PageAsking.{FindsOnly}
use Rattle.conref_targets.specs.ResolveInput.{setting_of}
use Rattle.conref_targets.specs.Sought.{sought_found, sought_shown}
use Rattle.conref_targets.specs.declared.find.Found.{Found}
use Rattle.conref_targets.proofs.AskingLaws.{about_among, among_both}
use Rattle.conref_targets.proofs.FileLaws.{conref_among}
use Rattle.conref_targets.proofs.FindLaws.{sought_is}
use Rattle.conref_pull.specs.Seeking.{IsSought}
use Rattle.conref_pull.specs.State.{path_within}
use Rattle.conref_pull.proofs.LinkAskLaws.{given_link}
use Rattle.conref_pull.proofs.TakeLaws.{no_reference, some_reference, step_missing, step_on, step_without}
use Rattle.conref_pull.proofs.MetLaws.{asks_same, takes_link}
use Rattle.conref_pull.proofs.resolver.Resolver.take.Goals as goal

pub returns-in_err-found-clause-asks : goal.returns-in_err-found-clause-asks
returns-in_err-found-clause-asks g c = λ nodes same.
    (let element = element_of c.args.origin.now c.args.element.now in
    about_among nodes _ _ _ _
    (among_both _ _ _ (conref_among element c.args.origin.now (option_copied c.in-Some.sought.conref) refl
    (ap (λ (s : content.Sought). s.conref) (sought_is c.in-Some.sought element
    (ap sought_found (sym c.in-Some.is) ∙ c.by.ensures c.args.origin.now)))))
    (c.find.ensures.asks nodes same))

pub returns-in_default-2-clause-asks : goal.returns-in_default-2-clause-asks
returns-in_default-2-clause-asks g c = λ nodes same.
    (let element = element_of c.args.origin.now c.args.element.now in
    about_among nodes _ _ _ _
    (among_both _ _ _ (conref_among element c.args.origin.now (option_copied c.in-Some.sought.conref) refl
    (ap (λ (s : content.Sought). s.conref) (sought_is c.in-Some.sought element
    (ap sought_found (sym c.in-Some.is) ∙ c.by.ensures c.args.origin.now)))))
    (c.find.ensures.asks nodes same))

pub returns-clause-asks : goal.returns-clause-asks
returns-clause-asks g c = λ nodes same.
    (let element = element_of c.args.origin.now c.args.element.now in
    about_among nodes _ _ _ _
    (among_both _ _ _ (conref_among element c.args.origin.now (option_copied c.in-Some.sought.conref) refl
    (ap (λ (s : content.Sought). s.conref) (sought_is c.in-Some.sought element
    (ap sought_found (sym c.in-Some.is) ∙ c.by.ensures c.args.origin.now)))))
    (c.find.ensures.asks nodes same))

pub returns-clause-given : goal.returns-clause-given
returns-clause-given g c =
    given_link (g.A.Reader.told c.find.new.asker) c.in-Some-2.found c.accept.result c.accept.ensures.doc
    (subst (λ (found : Option Found). IsGivenIn (g.A.Reader.told c.find.new.asker) found) c.in-Some-2.is
    c.in_ok-found.ensures.given)

pub returns-in_default-clause-known : goal.returns-in_default-clause-known
returns-in_default-clause-known g c = λ world at agrees are deep room.
    (let setting = setting_of world (g.A.Reader.stand c.args.asker.now).setting c.args.self.now.context.now.page
    c.args.self.now.rules in
    let element = element_of c.args.origin.now c.args.element.now in
    step_without setting c.args.topic.now at (path_within c.args.self.now c.args.links) element c.args.self.now
    c.args.places.now are (no_reference element (c.in_default.ensures c.args.origin.now)))

pub returns-in_default-2-clause-known : goal.returns-in_default-2-clause-known
returns-in_default-2-clause-known g c = λ world at agrees are deep room.
    (let setting = setting_of world (g.A.Reader.stand c.args.asker.now).setting c.args.self.now.context.now.page
    c.args.self.now.rules in
    let element = element_of c.args.origin.now c.args.element.now in
    let seen = ap sought_found (sym c.in-Some.is) ∙ c.by.ensures c.args.origin.now in
    step_missing setting c.args.topic.now at (path_within c.args.self.now c.args.links) element c.args.self.now
    c.find.new.self c.find.new.places (sought_shown c.in-Some.sought) _ (some_reference element c.in-Some.sought seen)
    (sought_is c.in-Some.sought element seen) c.in_default-2.is (c.in_ok-found.ensures.known world agrees are))

pub returns-clause-known : goal.returns-clause-known
returns-clause-known g c = λ world at agrees are deep room.
    (let setting = setting_of world (g.A.Reader.stand c.args.asker.now).setting c.args.self.now.context.now.page
    c.args.self.now.rules in
    let element = element_of c.args.origin.now c.args.element.now in
    let seen = ap sought_found (sym c.in-Some.is) ∙ c.by.ensures c.args.origin.now in
    step_on setting c.args.topic.now at c.args.links element c.in-Some-2.found c.args.self.now c.find.new.self
    c.accept.new.self c.find.new.places c.accept.new.places (sought_shown c.in-Some.sought) c.accept.result
    (some_reference element c.in-Some.sought seen) (sought_is c.in-Some.sought element seen)
    (subst (λ (found : Option Found). IsSought setting c.args.topic.now element (sought_shown c.in-Some.sought)
    c.args.self.now c.find.new.self c.find.new.places found) c.in-Some-2.is
    (c.in_ok-found.ensures.known world agrees are)) deep room
    (λ meant. c.accept.ensures.known setting.pushed meant at))

pub returns-in_default-clause-only : goal.returns-in_default-clause-only
returns-in_default-clause-only g c = λ page agrees at met. record { asks = asks_same page _ _ refl; met = tt }

pub returns-in_default-2-clause-only : goal.returns-in_default-2-clause-only
returns-in_default-2-clause-only g c = λ page agrees at met.
    (let element = element_of c.args.origin.now c.args.element.now in
    let finds = c.in_ok-found.ensures.only page agrees at met (sought_is c.in-Some.sought element
    (ap sought_found (sym c.in-Some.is) ∙ c.by.ensures c.args.origin.now)) in
    record { asks = finds.asks; met = tt })

pub returns-clause-only : goal.returns-clause-only
returns-clause-only g c = λ page agrees at met.
    (let element = element_of c.args.origin.now c.args.element.now in
    let old = g.A.Reader.told c.args.asker.now in
    let new = g.A.Reader.told c.find.new.asker in
    takes_link page old new c.in-Some-2.found c.accept.result c.accept.ensures.doc
    (subst (λ (found : Option Found). FindsOnly page old new found) c.in-Some-2.is
    (c.in_ok-found.ensures.only page agrees at met (sought_is c.in-Some.sought element
    (ap sought_found (sym c.in-Some.is) ∙ c.by.ensures c.args.origin.now)))))
