use Rattle.std.proofs.Common.{◌+◌, ◌<◌, List, Option, IsSome, arith, sym, ap, refl, subst, ◌∙◌}
use Rattle.std.specs.Arc.{arc_value}
use Rattle.std.specs.Borrow.{Bor}
use Rattle.dita_doc.specs.declared.plan.Context.{Context}
use Rattle.doc_elements.specs.Walk.{element_of}
use Rattle.readers.specs.Setting.{Stand}
use Rattle.conref_pull.specs.Linked.{AreGivenTo, IsGivenIf}
use Rattle.readers.proofs.GivenLaws.{given_later}
use Rattle.readers.proofs.GrowthLaws.{agrees_before, grows_trans}
use Rattle.conref_targets.specs.Origin.{whole_of}
use Rattle.conref_targets.specs.ResolveInput.{setting_of}
use Rattle.conref_targets.proofs.AskingLaws.{about_then, given_reused, given_some, whole_element}
use Rattle.conref_pull.specs.Linked.{IsStep}
use Rattle.conref_pull.specs.Met.{TakesOnly}
use Rattle.conref_pull.specs.State.{path_within}
use Rattle.conref_pull.specs.Step.{step_of}
use Rattle.conref_pull.specs.declared.chain.TakenTarget.{TakenTarget}
use Rattle.conref_pull.specs.declared.resolver.Resolver.{Resolver}
use Rattle.conref_pull.proofs.LinkAskLaws.{links_later, links_more}
use Rattle.conref_pull.proofs.FollowLaws.{follow_ended, follow_lost, follow_on, followed_there, page_same_setting, step_room}
use Rattle.conref_pull.proofs.TakeLaws.{depth_same}
use Rattle.conref_pull.proofs.MetLaws.{at_on, follows_more}
use Rattle.conref_pull.proofs.resolver.Resolver.+follow.Goals as goal

pub returns-in_default-clause-given : goal.returns-in_default-clause-given
returns-in_default-clause-given g t c = λ given. links_later _ _ _ c.take.ensures.grows given

pub returns-in_default-whole-clause-given : goal.returns-in_default-whole-clause-given
returns-in_default-whole-clause-given g t c = λ given. links_later _ _ _ c.take.ensures.grows given

pub returns-in_err-end-clause-asks : goal.returns-in_err-end-clause-asks
returns-in_err-end-clause-asks g t c = λ nodes same.
    about_then nodes _ _ _ _ _ _ _
    (ap (λ (context : Bor Context). context.now.page.doc) c.in_ok-link.ensures.page.context)
    (given_some _ _ _ (whole_element c.in-Some-whole.target _ c.in-Some-whole.ensures.names)
    (given_reused _ (arc_value c.in-Some.link.doc)
    (subst (λ (link : Option TakenTarget). IsGivenIf (g.A.Reader.told c.take.new.asker) link) c.in-Some.is
    c.in_ok-link.ensures.given))) c.take.ensures.grows (c.take.ensures.asks nodes same)
    (c.follow.ensures.asks nodes
    (ap (λ (stand : Stand). stand.setting.nodes) c.take.ensures.stand ∙ same))

pub returns-in_err-push-clause-asks : goal.returns-in_err-push-clause-asks
returns-in_err-push-clause-asks g t c = λ nodes same.
    about_then nodes _ _ _ _ _ _ _
    (ap (λ (context : Bor Context). context.now.page.doc) c.in_ok-link.ensures.page.context)
    (given_some _ _ _ (whole_element c.in-Some-whole.target _ c.in-Some-whole.ensures.names)
    (given_reused _ (arc_value c.in-Some.link.doc)
    (subst (λ (link : Option TakenTarget). IsGivenIf (g.A.Reader.told c.take.new.asker) link) c.in-Some.is
    c.in_ok-link.ensures.given))) c.take.ensures.grows (c.take.ensures.asks nodes same)
    (c.follow.ensures.asks nodes
    (ap (λ (stand : Stand). stand.setting.nodes) c.take.ensures.stand ∙ same))

pub returns-clause-asks : goal.returns-clause-asks
returns-clause-asks g t c = λ nodes same.
    about_then nodes _ _ _ _ _ _ _
    (ap (λ (context : Bor Context). context.now.page.doc) c.in_ok-link.ensures.page.context)
    (given_some _ _ _ (whole_element c.in-Some-whole.target _ c.in-Some-whole.ensures.names)
    (given_reused _ (arc_value c.in-Some.link.doc)
    (subst (λ (link : Option TakenTarget). IsGivenIf (g.A.Reader.told c.take.new.asker) link) c.in-Some.is
    c.in_ok-link.ensures.given))) c.take.ensures.grows (c.take.ensures.asks nodes same)
    (c.follow.ensures.asks nodes
    (ap (λ (stand : Stand). stand.setting.nodes) c.take.ensures.stand ∙ same))

pub returns-clause-given : goal.returns-clause-given
returns-clause-given g t c = λ given.
    subst (λ (links : List TakenTarget). AreGivenTo (g.A.Reader.told c.follow.new.asker) links) (sym c.in_ok-push.ensures.items)
    (links_more _ _ _ (c.in_ok-end.ensures.given (links_later _ _ _ c.take.ensures.grows given))
    (given_later _ _ _ c.follow.ensures.grows
    (subst (λ (link : Option TakenTarget). IsGivenIf (g.A.Reader.told c.take.new.asker) link) c.in-Some.is
    c.in_ok-link.ensures.given)))

pub returns-in_default-clause-known : goal.returns-in_default-clause-known
returns-in_default-clause-known g t c = λ world at steps inside agrees are deep some far room.
    (let setting = setting_of world (g.A.Reader.stand c.args.asker.now).setting c.args.self.now.context.now.page
    c.args.self.now.rules in
    follow_ended setting c.args.topic.now at c.args.links (element_of c.args.origin.now c.args.element.now) inside
    c.args.self.now c.take.new.self c.take.new.places room steps c.args.taken.now.items _ some c.in_default.is
    (c.in_ok-link.ensures.known world at agrees are deep room))

pub returns-in_default-whole-clause-known : goal.returns-in_default-whole-clause-known
returns-in_default-whole-clause-known g t c = λ world at steps inside agrees are deep some far room.
    (let setting = setting_of world (g.A.Reader.stand c.args.asker.now).setting c.args.self.now.context.now.page
    c.args.self.now.rules in
    let element = element_of c.args.origin.now c.args.element.now in
    let step = subst (λ (link : Option TakenTarget). IsStep setting.pushed (step_of setting c.args.topic.now at
    (path_within c.args.self.now c.args.links) element) c.args.self.now c.take.new.self c.take.new.places link)
    c.in-Some.is (c.in_ok-link.ensures.known world at agrees are deep room) in
    follow_lost setting c.args.topic.now at c.args.links element inside c.args.self.now c.take.new.self
    c.take.new.places room c.in-Some.link step c.in_default-whole.ensures.target steps c.args.taken.now.items)

pub returns-clause-known : goal.returns-clause-known
returns-clause-known g t c = λ world at steps inside agrees are deep some far room.
    (let stand = g.A.Reader.stand c.args.asker.now in
    let other = g.A.Reader.stand c.take.new.asker in
    let old = c.args.self.now in
    let mid = c.take.new.self in
    let setting = setting_of world stand.setting old.context.now.page old.rules in
    let element = element_of c.args.origin.now c.args.element.now in
    let links = c.args.links in
    let taken = subst (λ (link : Option TakenTarget). IsStep setting.pushed (step_of setting c.args.topic.now at
    (path_within old links) element) old mid c.take.new.places link) c.in-Some.is
    (c.in_ok-link.ensures.known world at (agrees_before world _ _ c.in_ok-end.ensures.grows agrees) are deep room) in
    let few : links < 32 = subst (λ (link : Option TakenTarget). IsSome link → links < 32) c.in-Some.is
    c.in_ok-link.ensures.limit refl in
    let target = c.in-Some-whole.target in
    follow_on setting c.args.topic.now at links element inside old mid c.take.new.places room c.in-Some.link taken target
    c.in-Some-whole.ensures.target c.follow.new.self c.follow.new.places steps c.in_ok-end.end c.args.taken.now.items
    c.follow.new.taken.items c.push.new.self.items some
    (λ n is. followed_there setting (setting_of world other.setting mid.context.now.page mid.rules) c.args.topic.now at n
    (links + 1) c.in_ok-end.end (path_within mid (links + 1)) (whole_of target).0 (whole_of target).1
    c.args.taken.now.items c.follow.new.taken.items mid c.follow.new.self c.take.new.places c.follow.new.places
    (page_same_setting world stand other old mid c.take.ensures.stand c.in_ok-link.ensures.page)
    (λ tables. c.in_ok-end.ensures.known world at n (whole_of target).1 agrees tables
    (depth_same old mid at (ap (λ (r : Resolver). r.maker) taken.state) (ap (λ (r : Resolver). r.deepest) taken.state)
    deep) (omega arith) (omega arith)
    (step_room setting c.args.topic.now at links element inside old mid c.take.new.places room c.in-Some.link taken))
    taken.tables)
    c.in_ok-push.ensures.items)

pub returns-in_err-link-clause-asks : goal.returns-in_err-link-clause-asks
returns-in_err-link-clause-asks g t c = c.take.ensures.asks

pub returns-in_default-clause-asks : goal.returns-in_default-clause-asks
returns-in_default-clause-asks g t c = c.take.ensures.asks

pub returns-in_default-whole-clause-asks : goal.returns-in_default-whole-clause-asks
returns-in_default-whole-clause-asks g t c = c.take.ensures.asks

pub returns-in_err-end-clause-grows : goal.returns-in_err-end-clause-grows
returns-in_err-end-clause-grows g t c = grows_trans _ _ _ c.take.ensures.grows c.follow.ensures.grows

pub returns-in_err-push-clause-grows : goal.returns-in_err-push-clause-grows
returns-in_err-push-clause-grows g t c = grows_trans _ _ _ c.take.ensures.grows c.follow.ensures.grows

pub returns-clause-grows : goal.returns-clause-grows
returns-clause-grows g t c = grows_trans _ _ _ c.take.ensures.grows c.follow.ensures.grows

pub returns-in_default-clause-only : goal.returns-in_default-clause-only
returns-in_default-clause-only g t c = λ page agrees at met links.
    record { asks = (c.in_ok-link.ensures.only page agrees at met).asks; met = links }

pub returns-in_default-whole-clause-only : goal.returns-in_default-whole-clause-only
returns-in_default-whole-clause-only g t c = λ page agrees at met links.
    record { asks = (c.in_ok-link.ensures.only page agrees at met).asks; met = links }

pub returns-clause-only : goal.returns-clause-only
returns-clause-only g t c = λ page agrees at met links.
    (let old = g.A.Reader.told c.args.asker.now in
    let told = g.A.Reader.told c.take.new.asker in
    let takes = subst (λ (link : Option TakenTarget). TakesOnly page old told link) c.in-Some.is
    (c.in_ok-link.ensures.only page (agrees_before page.world _ _ c.in_ok-end.ensures.grows agrees) at met) in
    follows_more page _ _ _ c.follow.new.taken.items c.push.new.self.items c.in-Some.link c.in_ok-push.ensures.items takes.asks takes.met
    (c.in_ok-end.ensures.only page agrees (at_on c.in_ok-link.ensures.page c.in_ok-link.ensures.stand at)
    (c.in-Some-whole.ensures.met page takes.met).0 links))
