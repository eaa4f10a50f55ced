use Rattle.std.proofs.Common.{◌≡◌, List, ℕ, Option, None, false, [], sym, ap, refl, subst, ◌∙◌}
use Rattle.std.specs.Borrow.{Bor}
use Rattle.std.specs.Option.{option_copied}
use Rattle.dita_doc.specs.declared.plan.PlanNode.{PlanNode}
use Rattle.map_spec.specs.Keys.{key_answer}
use Rattle.readers.specs.Documents.{AsksOnly, nothing}
use Rattle.readers.specs.Founded.{StaysFounded, homes}
use Rattle.readers.specs.Setting.{Stand}
use Rattle.readers.specs.Told.{Told}
use Rattle.readers.proofs.GrowthLaws.{agrees_before, grows_trans, told_answer}
use Rattle.conref_targets.specs.Asking.{Asks}
use Rattle.conref_targets.specs.Found.{IsKeyed}
use Rattle.conref_targets.specs.ResolveInput.{setting_of}
use Rattle.conref_targets.proofs.AskingLaws.{about_after, about_key, given_target}
use Rattle.conref_targets.proofs.FindLaws.{keyed_none, keyed_some, target_there}
use Rattle.conref_targets.proofs.PageAskingLaws.{asks_key, asks_same, at_later, finds_none, finds_then, key_leads}
use Rattle.conref_targets.proofs.find.find_by_key.Goals as goal

-- the question for the key, where the nodes of the map are these
key_asked : {all nodes : List PlanNode} {old new : List Told} → all ≡ nodes → StaysFounded (homes all) old new
    → AsksOnly nothing [] old new → Asks nodes [] old new
key_asked {nodes = nodes} {old} {new} same founded asks = about_key nodes old new
    (subst (λ (all : List PlanNode). StaysFounded (homes all) old new) same founded) asks

pub returns-in_default-clause-known : goal.returns-in_default-clause-known
returns-in_default-clause-known g c = λ world rules agrees are.
    (let setting = setting_of world (g.A.Reader.stand c.args.asker.now).setting c.args.context.now.page rules in
    subst (λ (v : Option (Bor (List ℕ))). IsKeyed setting (option_copied v) c.args.faults.now c.args.faults.now
    c.args.places.now (record { found = None; is_defined = false })) (sym c.in_default.is)
    (keyed_none setting c.args.places.now (record { found = None; is_defined = false }) c.args.faults.now are refl refl))

pub returns-clause-known : goal.returns-clause-known
returns-clause-known g c = λ world rules agrees are.
    (let stand = g.A.Reader.stand c.args.asker.now in
    let setting = setting_of world stand.setting c.args.context.now.page rules in
    let answer = c.in_ok-node.field-0 in
    let before = agrees_before world _ _ c.in_ok-find_target.ensures.grows agrees in
    let holds = told_answer world _ _ _ c.in_ok-node.ensures.told before in
    let key_is = c.in_ok-text.ensures ∙ c.split_key.ensures.key in
    subst (λ (v : Option (Bor (List ℕ))). IsKeyed setting (option_copied v) c.args.faults.now c.append_faults.new.out
    c.find_target.new.places (record { found = c.in_ok-find_target.field-0; is_defined = c.is_some.result }))
    (sym c.in-Some.is)
    (keyed_some setting c.in-Some.keyref.now answer c.find_target.new.places
    (record { found = c.in_ok-find_target.field-0; is_defined = c.is_some.result }) c.args.faults.now
    c.append_faults.new.out
    (ap (λ (k : List ℕ). key_answer world stand.setting.nodes c.args.context.now.page.scope k) (sym key_is) ∙ holds)
    (target_there world c.args.context.now.page rules c.in-Some.keyref.now answer.target answer.target
    c.args.places.now c.find_target.new.places c.in_ok-find_target.field-0 stand
    (g.A.Reader.stand c.key.new.self) c.in_ok-node.ensures.stand refl
    (λ there. c.in_ok-find_target.ensures.known world c.args.context.now.page rules agrees there
    c.split_key.ensures.id) are)
    c.is_some.ensures
    c.in_ok-append_faults.ensures))

pub returns-in_err-find_target-clause-asks : goal.returns-in_err-find_target-clause-asks
returns-in_err-find_target-clause-asks g c = λ nodes same.
    about_after nodes [] (g.A.Reader.told c.args.asker.now) (g.A.Reader.told c.key.new.self) _
    c.in_ok-node.ensures.grows
    (key_asked same c.in_ok-node.ensures.founded c.in_ok-node.ensures.asks)
    (c.find_target.ensures.asks nodes
    (ap (λ (stand : Stand). stand.setting.nodes) c.in_ok-node.ensures.stand ∙ same)
    (given_target _ _ _ _ _ _ c.in_ok-node.ensures.told))

pub returns-clause-asks : goal.returns-clause-asks
returns-clause-asks g c = λ nodes same.
    about_after nodes [] (g.A.Reader.told c.args.asker.now) (g.A.Reader.told c.key.new.self) _
    c.in_ok-node.ensures.grows
    (key_asked same c.in_ok-node.ensures.founded c.in_ok-node.ensures.asks)
    (c.in_ok-find_target.ensures.asks nodes
    (ap (λ (stand : Stand). stand.setting.nodes) c.in_ok-node.ensures.stand ∙ same)
    (given_target _ _ _ _ _ _ c.in_ok-node.ensures.told))

pub returns-in_err-node-clause-asks : goal.returns-in_err-node-clause-asks
returns-in_err-node-clause-asks g c = λ nodes same. key_asked same c.key.ensures.founded c.key.ensures.asks

pub returns-in_err-append_faults-clause-asks : goal.returns-in_err-append_faults-clause-asks
returns-in_err-append_faults-clause-asks g c = λ nodes same.
    key_asked same c.in_ok-node.ensures.founded c.in_ok-node.ensures.asks

pub returns-clause-given : goal.returns-clause-given
returns-clause-given g c = c.in_ok-find_target.ensures.given

pub returns-in_err-find_target-clause-stand : goal.returns-in_err-find_target-clause-stand
returns-in_err-find_target-clause-stand g c = c.find_target.ensures.stand ∙ c.in_ok-node.ensures.stand

pub returns-clause-stand : goal.returns-clause-stand
returns-clause-stand g c = c.in_ok-find_target.ensures.stand ∙ c.in_ok-node.ensures.stand

pub returns-in_err-find_target-clause-grows : goal.returns-in_err-find_target-clause-grows
returns-in_err-find_target-clause-grows g c = grows_trans _ _ _ c.in_ok-node.ensures.grows c.find_target.ensures.grows

pub returns-clause-grows : goal.returns-clause-grows
returns-clause-grows g c = grows_trans _ _ _ c.in_ok-node.ensures.grows c.in_ok-find_target.ensures.grows

pub returns-in_default-clause-only : goal.returns-in_default-clause-only
returns-in_default-clause-only g c = λ page element agrees at met same. finds_none (asks_same page _ _ refl)

pub returns-clause-only : goal.returns-clause-only
returns-clause-only g c = λ page element agrees at met same.
    (let answer = c.in_ok-node.field-0 in
    let written = sym same ∙ ap option_copied c.in-Some.is in
    let key_is = c.in_ok-text.ensures ∙ c.split_key.ensures.key in
    let before = agrees_before page.world _ _ c.in_ok-find_target.ensures.grows agrees in
    let holds = told_answer page.world _ _ _ c.in_ok-node.ensures.told before in
    finds_then _ _ _ c.in_ok-find_target.field-0
    (asks_key met at c.in-Some.keyref.now _ written key_is answer _ _ c.in_ok-node.ensures.told)
    (c.in_ok-find_target.ensures.only page c.args.context.now.page agrees (at_later at c.in_ok-node.ensures.stand)
    (λ name. key_leads met at c.in-Some.keyref.now _ written key_is answer name holds)))
