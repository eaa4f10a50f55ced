use Rattle.std.proofs.Common.{[], sym, ap, refl, ◌∙◌}
use Rattle.std.specs.Option.{option_copied}
use Rattle.doc_elements.specs.Walk.{element_of}
use Rattle.conref_spec.specs.Content as content
use Rattle.readers.specs.Setting.{Stand}
use Rattle.readers.proofs.GrowthLaws.{agrees_before, grows_trans}
use Rattle.conref_targets.specs.ResolveInput.{setting_of}
use Rattle.conref_targets.specs.Sought.{sought_shown}
use Rattle.conref_targets.proofs.AskingLaws.{about_after, about_among, none_among}
use Rattle.conref_targets.proofs.FindLaws.{sought_first, sought_none, sought_second, value_there}
use Rattle.conref_targets.proofs.PageAskingLaws.{asks_then, at_later, finds_none, finds_then}
use Rattle.conref_targets.proofs.find.find_referenced.Goals as goal

pub returns-then-is_some-clause-known : goal.returns-then-is_some-clause-known
returns-then-is_some-clause-known g c = λ world rules agrees are.
    sought_first
    (setting_of world (g.A.Reader.stand c.args.asker.now).setting c.args.context.now.page rules)
    c.args.topic.now (element_of c.args.origin.now c.args.element.now) (sought_shown c.args.sought) c.args.faults.now
    c.find_by_key.new.faults c.find_by_key.new.places c.in_ok-keyed.keyed
    (c.in_ok-keyed.ensures.known world rules agrees are) (sym c.if-is_some.ensures)

pub returns-then-is_some-2-clause-known : goal.returns-then-is_some-2-clause-known
returns-then-is_some-2-clause-known g c = λ world rules agrees are.
    (let stand = g.A.Reader.stand c.args.asker.now in
    let page = c.args.context.now.page in
    let setting = setting_of world stand.setting page rules in
    let element = element_of c.args.origin.now c.args.element.now in
    let keyed = c.in_ok-keyed.ensures.known world rules
    (agrees_before world _ _ c.in_ok-found.ensures.grows agrees) are in
    sought_second setting c.args.topic.now element (sought_shown c.args.sought) c.args.faults.now
    c.find_by_key.new.faults c.find_by_key.new.places c.find_by_value.new.places
    c.in_ok-keyed.keyed keyed (sym c.if-is_some.ensures) c.in_ok-found.found
    (value_there world page rules c.args.topic.now element (option_copied c.args.sought.conref)
    c.find_by_key.new.places c.find_by_value.new.places c.in_ok-found.found stand _ c.in_ok-keyed.ensures.stand
    (λ there. c.in_ok-found.ensures.known world rules element agrees there refl) keyed.search.tables)
    (sym c.if-is_some-2.ensures))

pub returns-clause-known : goal.returns-clause-known
returns-clause-known g c = λ world rules agrees are.
    (let stand = g.A.Reader.stand c.args.asker.now in
    let page = c.args.context.now.page in
    let setting = setting_of world stand.setting page rules in
    let element = element_of c.args.origin.now c.args.element.now in
    let keyed = c.in_ok-keyed.ensures.known world rules
    (agrees_before world _ _ c.in_ok-found.ensures.grows agrees) are in
    sought_none setting c.args.topic.now element (sought_shown c.args.sought) c.args.faults.now
    c.find_by_key.new.faults c.find_by_key.new.places c.find_by_value.new.places
    c.in_ok-keyed.keyed keyed (sym c.if-is_some.ensures) c.push_missing.new.faults c.in_ok-found.found
    (value_there world page rules c.args.topic.now element (option_copied c.args.sought.conref)
    c.find_by_key.new.places c.find_by_value.new.places c.in_ok-found.found stand _ c.in_ok-keyed.ensures.stand
    (λ there. c.in_ok-found.ensures.known world rules element agrees there refl) keyed.search.tables)
    (sym c.if-is_some-2.ensures) c.in_ok-push_missing.ensures)

pub returns-then-is_some-2-clause-asks : goal.returns-then-is_some-2-clause-asks
returns-then-is_some-2-clause-asks g c = λ nodes same.
    about_after nodes _ _ _ _ c.in_ok-keyed.ensures.grows
    (about_among nodes [] _ _ _ (none_among _) (c.in_ok-keyed.ensures.asks nodes same))
    (c.in_ok-found.ensures.asks nodes
    (ap (λ (stand : Stand). stand.setting.nodes) c.in_ok-keyed.ensures.stand ∙ same))

pub returns-clause-asks : goal.returns-clause-asks
returns-clause-asks g c = λ nodes same.
    about_after nodes _ _ _ _ c.in_ok-keyed.ensures.grows
    (about_among nodes [] _ _ _ (none_among _) (c.in_ok-keyed.ensures.asks nodes same))
    (c.in_ok-found.ensures.asks nodes
    (ap (λ (stand : Stand). stand.setting.nodes) c.in_ok-keyed.ensures.stand ∙ same))

pub returns-then-is_some-clause-given : goal.returns-then-is_some-clause-given
returns-then-is_some-clause-given g c = c.in_ok-keyed.ensures.given

pub returns-then-is_some-2-clause-given : goal.returns-then-is_some-2-clause-given
returns-then-is_some-2-clause-given g c = c.in_ok-found.ensures.given

pub returns-in_err-keyed-clause-asks : goal.returns-in_err-keyed-clause-asks
returns-in_err-keyed-clause-asks g c = λ nodes same.
    about_among nodes [] _ _ _ (none_among _) (c.find_by_key.ensures.asks nodes same)

pub returns-then-is_some-clause-asks : goal.returns-then-is_some-clause-asks
returns-then-is_some-clause-asks g c = λ nodes same.
    about_among nodes [] _ _ _ (none_among _) (c.find_by_key.ensures.asks nodes same)

pub returns-in_err-found-clause-asks : goal.returns-in_err-found-clause-asks
returns-in_err-found-clause-asks g c = λ nodes same.
    about_after nodes _ _ _ _ c.in_ok-keyed.ensures.grows
    (about_among nodes [] _ _ _ (none_among _) (c.in_ok-keyed.ensures.asks nodes same))
    (c.find_by_value.ensures.asks nodes
    (ap (λ (stand : Stand). stand.setting.nodes) c.in_ok-keyed.ensures.stand ∙ same))

pub returns-in_err-push_missing-clause-asks : goal.returns-in_err-push_missing-clause-asks
returns-in_err-push_missing-clause-asks g c = λ nodes same.
    about_after nodes _ _ _ _ c.in_ok-keyed.ensures.grows
    (about_among nodes [] _ _ _ (none_among _) (c.in_ok-keyed.ensures.asks nodes same))
    (c.find_by_value.ensures.asks nodes
    (ap (λ (stand : Stand). stand.setting.nodes) c.in_ok-keyed.ensures.stand ∙ same))

pub returns-in_err-found-clause-grows : goal.returns-in_err-found-clause-grows
returns-in_err-found-clause-grows g c = grows_trans _ _ _ c.find_by_key.ensures.grows c.find_by_value.ensures.grows

pub returns-in_err-found-clause-stand : goal.returns-in_err-found-clause-stand
returns-in_err-found-clause-stand g c = c.find_by_value.ensures.stand ∙ c.find_by_key.ensures.stand

pub returns-then-is_some-2-clause-grows : goal.returns-then-is_some-2-clause-grows
returns-then-is_some-2-clause-grows g c = grows_trans _ _ _ c.find_by_key.ensures.grows c.find_by_value.ensures.grows

pub returns-then-is_some-2-clause-stand : goal.returns-then-is_some-2-clause-stand
returns-then-is_some-2-clause-stand g c = c.find_by_value.ensures.stand ∙ c.find_by_key.ensures.stand

pub returns-in_err-push_missing-clause-grows : goal.returns-in_err-push_missing-clause-grows
returns-in_err-push_missing-clause-grows g c = grows_trans _ _ _ c.find_by_key.ensures.grows c.find_by_value.ensures.grows

pub returns-in_err-push_missing-clause-stand : goal.returns-in_err-push_missing-clause-stand
returns-in_err-push_missing-clause-stand g c = c.find_by_value.ensures.stand ∙ c.find_by_key.ensures.stand

pub returns-clause-grows : goal.returns-clause-grows
returns-clause-grows g c = grows_trans _ _ _ c.find_by_key.ensures.grows c.find_by_value.ensures.grows

pub returns-clause-stand : goal.returns-clause-stand
returns-clause-stand g c = c.find_by_value.ensures.stand ∙ c.find_by_key.ensures.stand

pub returns-then-is_some-clause-only : goal.returns-then-is_some-clause-only
returns-then-is_some-clause-only g c = λ page agrees at met same.
    c.in_ok-keyed.ensures.only page (element_of c.args.origin.now c.args.element.now) agrees at met
    (ap (λ (s : content.Sought). s.conkeyref) same)

pub returns-then-is_some-2-clause-only : goal.returns-then-is_some-2-clause-only
returns-then-is_some-2-clause-only g c = λ page agrees at met same.
    (let element = element_of c.args.origin.now c.args.element.now in
    let keyed = c.in_ok-keyed.ensures.only page element
    (agrees_before page.world _ _ c.in_ok-found.ensures.grows agrees) at met
    (ap (λ (s : content.Sought). s.conkeyref) same) in
    finds_then _ _ _ c.in_ok-found.found keyed.asks
    (c.in_ok-found.ensures.only page element agrees (at_later at c.in_ok-keyed.ensures.stand) met refl
    (ap (λ (s : content.Sought). s.conref) same)))

pub returns-clause-only : goal.returns-clause-only
returns-clause-only g c = λ page agrees at met same.
    (let element = element_of c.args.origin.now c.args.element.now in
    let keyed = c.in_ok-keyed.ensures.only page element
    (agrees_before page.world _ _ c.in_ok-found.ensures.grows agrees) at met
    (ap (λ (s : content.Sought). s.conkeyref) same) in
    finds_none (asks_then page _ _ _ keyed.asks
    (c.in_ok-found.ensures.only page element agrees (at_later at c.in_ok-keyed.ensures.stand) met refl
    (ap (λ (s : content.Sought). s.conref) same)).asks))
