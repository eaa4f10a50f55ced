use Rattle.std.proofs.Common.{List, ℕ, Option, [], ◌∷◌, sym, ap, refl, subst, ◌∙◌}
use Rattle.std.specs.Option.{option_to_list, unwrap_or}
use Rattle.dita_doc.specs.declared.plan.Target.{Target}
use Rattle.map_spec.specs.Pages.{local_name}
use Rattle.conref_spec.specs.Content.{found_in, key_named}
use Rattle.conref_targets.specs.Asking.{AreGiven}
use Rattle.conref_targets.specs.ResolveInput.{setting_of}
use Rattle.conref_targets.proofs.AskingLaws.{about_given, about_same}
use Rattle.conref_targets.proofs.FindLaws.{search_as}
use Rattle.conref_targets.proofs.PageAskingLaws.{asks_same, finds_none}
use Rattle.conref_targets.proofs.find.find_target.Goals as goal

pub returns-in-Local-clause-known : goal.returns-in-Local-clause-known
returns-in-Local-clause-known g c = λ world page rules agrees are same.
    (let setting = setting_of world (g.A.Reader.stand c.args.asker.now).setting page rules in
    let reference = c.in-Local.reference in
    search_as c.find_in.result setting.pushed
    (found_in setting c.in-Local.name reference.topic c.in_ok-element-in-Local.element) _ c.args.keyref.now _
    c.find_in.new.places
    (ap (λ (t : Target). key_named setting c.args.keyref.now t) c.in-Local.is
    ∙ ap (λ (e : List ℕ). found_in setting c.in-Local.name reference.topic e)
    (ap (λ (i : Option (List ℕ)). unwrap_or i reference.element) (sym same) ∙ sym c.in_ok-element-in-Local.ensures))
    refl (c.find_in.ensures.known world page rules agrees are))

pub returns-in-Local-clause-asks : goal.returns-in-Local-clause-asks
returns-in-Local-clause-asks g c = λ nodes same given.
    about_given nodes [] (c.in-Local.name ∷ []) _ _
    (subst (λ (t : Target). AreGiven (g.A.Reader.told c.args.asker.now) (option_to_list (local_name t))) c.in-Local.is
    given) (c.find_in.ensures.asks nodes same)

pub returns-in_err-element-in-Local-clause-asks : goal.returns-in_err-element-in-Local-clause-asks
returns-in_err-element-in-Local-clause-asks g c = λ nodes same given. about_same nodes _ _ _ refl

pub returns-clause-asks : goal.returns-clause-asks
returns-clause-asks g c = λ nodes same given. about_same nodes _ _ _ refl

pub returns-in-Local-clause-only : goal.returns-in-Local-clause-only
returns-in-Local-clause-only g c = λ page id agrees at leads.
    c.find_in.ensures.only page id agrees at (leads c.in-Local.name (ap local_name c.in-Local.is))

pub returns-clause-only : goal.returns-clause-only
returns-clause-only g c = λ page id agrees at leads. finds_none (asks_same page _ _ refl)
