use Rattle.std.proofs.Common.{◌≡◌, ◌∷◌, ◌++◌, ◌+◌, ℕ, List, [], refl, length, map, ap, sym, subst, ◌∙◌}
use Rattle.std.proofs.lemmas.List.{append-nil, map-append}
use Rattle.std.specs.Prelude.{Option, option_map}
use Rattle.std.specs.Option.{option_to_list}
use Rattle.ditaval_rules.specs.Declarations.{AreBefore, Declaring, declaring_of, IsLastAround}
use Rattle.ditaval_rules.specs.declared.declarations.DeclaredEntry.{DeclaredEntry}
use Rattle.ditaval_rules.proofs.DeclarationLaws.{declaring_named, entry_of, one_more, own_is}
use Rattle.ditaval_rules.proofs.declarations.push_own.Goals as goal

abbrev names_named : ℕ → ℕ → Option (List (List ℕ)) → List Declaring
names_named place end own = option_to_list (option_map (declaring_named place end) own)

pub returns-in_ok-push-clause-before : goal.returns-in_ok-push-clause-before
returns-in_ok-push-clause-before c =
    let entry = entry_of c.args.place c.args.node.now.end c.last_around-outer.result c.in-Some.names in
    let same : c.len.result ≡ length c.args.entries.now.items =
    c.len.ensures ∙ sym c.as_slice.ensures.len ∙ ap length c.as_slice.ensures.value in
    let seen : IsLastAround c.args.entries.now.items c.args.place c.len.result c.last_around-outer.result =
    subst (λ (l : List DeclaredEntry). IsLastAround l c.args.place c.len.result c.last_around-outer.result)
    c.as_slice.ensures.value c.last_around-outer.ensures in
    let last : IsLastAround c.args.entries.now.items c.args.place (length c.args.entries.now.items) entry.outer =
    subst (λ (n : ℕ). IsLastAround c.args.entries.now.items c.args.place n c.last_around-outer.result) same seen in
    subst (AreBefore (c.args.place + 1)) (sym c.in_ok-push.ensures.items)
    (one_more c.args.entries.now.items c.args.place entry c.requires refl last)

pub returns-in_ok-push-clause-declaring : goal.returns-in_ok-push-clause-declaring
returns-in_ok-push-clause-declaring c =
    let entry = entry_of c.args.place c.args.node.now.end c.last_around-outer.result c.in-Some.names in
    let own = own_is c.args.place c.args.node.now.end c.args.node.now.attributes c.in_ok-names.field-0
    c.in_ok-names.ensures in
    ap (map declaring_of) c.in_ok-push.ensures.items
    ∙ map-append declaring_of c.args.entries.now.items (entry ∷ [])
    ∙ ap (λ l. map declaring_of c.args.entries.now.items ++ l)
    (sym (own ∙ ap (names_named c.args.place c.args.node.now.end) c.in-Some.is))

pub returns-in_default-clause-declaring : goal.returns-in_default-clause-declaring
returns-in_default-clause-declaring c =
    let own = own_is c.args.place c.args.node.now.end c.args.node.now.attributes c.in_ok-names.field-0
    c.in_ok-names.ensures in
    sym (ap (λ l. map declaring_of c.args.entries.now.items ++ l)
    (own ∙ ap (names_named c.args.place c.args.node.now.end) c.in_default.is)
    ∙ append-nil (map declaring_of c.args.entries.now.items))
