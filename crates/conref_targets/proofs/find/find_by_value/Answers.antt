use Rattle.std.proofs.Common.{Option, [], ◌∷◌, sym, ap, refl, ◌∙◌}
use Rattle.std.specs.Borrow.{Bor}
use Rattle.std.specs.Option.{option_copied, unwrap_or}
use Rattle.std.proofs.Common.{List, ℕ}
use Rattle.href_text.specs.Joined.{joined}
use Rattle.map_spec.specs.Target.{if_read}
use Rattle.conref_spec.specs.Content.{by_conref, found_in}
use Rattle.conref_targets.specs.ResolveInput.{setting_of}
use Rattle.conref_targets.proofs.AskingLaws.{about_among, first_page}
use Rattle.conref_targets.proofs.FileLaws.{value_among}
use Rattle.conref_targets.proofs.FindLaws.{joined_to, none_search, same_topic, search_as, unjoined, unread}
use Rattle.conref_targets.proofs.PageAskingLaws.{asks_same, conref_of, finds_none, own_of}
use Rattle.conref_targets.proofs.find.find_by_value.Goals as goal

pub returns-in_default-clause-known : goal.returns-in_default-clause-known
returns-in_default-clause-known g c = λ world rules element agrees are same.
    (let setting = setting_of world (g.A.Reader.stand c.args.asker.now).setting c.args.context.now.page rules in
    none_search setting.pushed _ _ c.args.places.now
    (ap (λ (v : Option (Bor (List ℕ))). by_conref setting c.args.topic.now element (option_copied v)) c.in_default.is) are)

pub returns-in_default-2-clause-known : goal.returns-in_default-2-clause-known
returns-in_default-2-clause-known g c = λ world rules element agrees are same.
    (let setting = setting_of world (g.A.Reader.stand c.args.asker.now).setting c.args.context.now.page rules in
    none_search setting.pushed _ _ c.args.places.now
    (ap (λ (v : Option (Bor (List ℕ))). by_conref setting c.args.topic.now element (option_copied v)) c.in-Some.is
    ∙ unread setting c.args.topic.now element c.in-Some.conref.now
    (sym c.in_ok-reference.ensures ∙ c.in_default-2.is)) are)

pub returns-in_default-3-clause-known : goal.returns-in_default-3-clause-known
returns-in_default-3-clause-known g c = λ world rules element agrees are same.
    (let setting = setting_of world (g.A.Reader.stand c.args.asker.now).setting c.args.context.now.page rules in
    none_search setting.pushed _ _ c.args.places.now
    (ap (λ (v : Option (Bor (List ℕ))). by_conref setting c.args.topic.now element (option_copied v)) c.in-Some.is
    ∙ unjoined setting c.args.topic.now element c.in-Some.conref.now c.in-Some-2.reference
    (sym c.in_ok-reference.ensures ∙ c.in-Some-2.is) (sym c.if-is_same_topic.ensures)
    (ap (λ (d : List ℕ). if_read (joined d c.in-Some-2.reference.file)) same
    ∙ sym (c.in_ok-name-2.ensures.value (joined c.args.origin.now c.in-Some-2.reference.file) c.join_name.ensures)
    ∙ c.in_default-3.is)) are)

pub returns-then-is_same_topic-clause-known : goal.returns-then-is_same_topic-clause-known
returns-then-is_same_topic-clause-known g c = λ world rules element agrees are same.
    (let setting = setting_of world (g.A.Reader.stand c.args.asker.now).setting c.args.context.now.page rules in
    let reference = c.in-Some-2.reference in
    search_as c.find_in.result setting.pushed
    (found_in setting c.in_ok-name.name c.in_ok-topic.topic reference.element) _ c.in-Some.conref.now _
    c.find_in.new.places
    (ap (λ (v : Option (Bor (List ℕ))). by_conref setting c.args.topic.now element (option_copied v)) c.in-Some.is
    ∙ same_topic setting c.args.topic.now element c.in-Some.conref.now reference
    (sym c.in_ok-reference.ensures ∙ c.in-Some-2.is) (sym c.if-is_same_topic.ensures)
    ∙ ap (λ (n : List ℕ). found_in setting n c.args.topic.now reference.element) (sym c.in_ok-name.ensures.cases)
    ∙ ap (λ (t : List ℕ). found_in setting c.in_ok-name.name t reference.element) (sym c.in_ok-topic.ensures))
    (ap (λ (v : Option (Bor (List ℕ))). unwrap_or (option_copied v) []) c.in-Some.is)
    (c.find_in.ensures.known world c.args.context.now.page rules agrees are))

pub returns-clause-known : goal.returns-clause-known
returns-clause-known g c = λ world rules element agrees are same.
    (let setting = setting_of world (g.A.Reader.stand c.args.asker.now).setting c.args.context.now.page rules in
    let reference = c.in-Some-2.reference in
    search_as c.find_in-2.result setting.pushed
    (found_in setting c.in-Some-3.name reference.topic reference.element) _ c.in-Some.conref.now _
    c.find_in-2.new.places
    (ap (λ (v : Option (Bor (List ℕ))). by_conref setting c.args.topic.now element (option_copied v)) c.in-Some.is
    ∙ joined_to setting c.args.topic.now element c.in-Some.conref.now reference
    (sym c.in_ok-reference.ensures ∙ c.in-Some-2.is) c.in-Some-3.name (sym c.if-is_same_topic.ensures)
    (ap (λ (d : List ℕ). if_read (joined d reference.file)) same
    ∙ sym (c.in_ok-name-2.ensures.value (joined c.args.origin.now reference.file) c.join_name.ensures)
    ∙ c.in-Some-3.is))
    (ap (λ (v : Option (Bor (List ℕ))). unwrap_or (option_copied v) []) c.in-Some.is)
    (c.find_in-2.ensures.known world c.args.context.now.page rules agrees are))

pub returns-then-is_same_topic-clause-asks : goal.returns-then-is_same_topic-clause-asks
returns-then-is_same_topic-clause-asks g c = λ nodes same.
    about_among nodes (c.in_ok-name.name ∷ []) _ _ _
    (first_page c.in_ok-name.name c.args.context.now.page.doc _ c.in_ok-name.ensures.cases)
    (c.find_in.ensures.asks nodes same)

pub returns-clause-asks : goal.returns-clause-asks
returns-clause-asks g c = λ nodes same.
    about_among nodes (c.in-Some-3.name ∷ []) _ _ _
    (value_among c.args.origin.now c.in-Some.conref.now c.in-Some-2.reference c.in-Some-3.name
    (option_copied c.args.conref) c.args.context.now.page.doc (ap option_copied c.in-Some.is)
    (sym c.in_ok-reference.ensures ∙ c.in-Some-2.is)
    (sym (c.in_ok-name-2.ensures.value (joined c.args.origin.now c.in-Some-2.reference.file) c.join_name.ensures)
    ∙ c.in-Some-3.is))
    (c.find_in-2.ensures.asks nodes same)

pub returns-in_default-clause-only : goal.returns-in_default-clause-only
returns-in_default-clause-only g c = λ page element agrees at met home same. finds_none (asks_same page _ _ refl)

pub returns-in_default-2-clause-only : goal.returns-in_default-2-clause-only
returns-in_default-2-clause-only g c = λ page element agrees at met home same. finds_none (asks_same page _ _ refl)

pub returns-in_default-3-clause-only : goal.returns-in_default-3-clause-only
returns-in_default-3-clause-only g c = λ page element agrees at met home same. finds_none (asks_same page _ _ refl)

pub returns-then-is_same_topic-clause-only : goal.returns-then-is_same_topic-clause-only
returns-then-is_same_topic-clause-only g c = λ page element agrees at met home same.
    c.find_in.ensures.only page c.args.context.now.page agrees at (own_of at c.in_ok-name.ensures.cases)

pub returns-clause-only : goal.returns-clause-only
returns-clause-only g c = λ page element agrees at met home same.
    (let reference = c.in-Some-2.reference in
    c.find_in-2.ensures.only page c.args.context.now.page agrees at
    (conref_of met c.in-Some.conref.now reference c.in-Some-3.name (sym same ∙ ap option_copied c.in-Some.is)
    (sym c.in_ok-reference.ensures ∙ c.in-Some-2.is) (sym c.if-is_same_topic.ensures)
    (ap (λ (d : List ℕ). if_read (joined d reference.file)) home
    ∙ sym (c.in_ok-name-2.ensures.value (joined c.args.origin.now reference.file) c.join_name.ensures)
    ∙ c.in-Some-3.is)))
