use Rattle.std.proofs.Common.{◌++◌, List, ℕ, ap, sym, option_to_list, ◌∙◌}
use Rattle.std.proofs.lemmas.List.Concat.{flat_map-append}
use Rattle.std.specs.Borrow.{Bor}
use Rattle.dita_doc.specs.Shown.{shown}
use Rattle.dita_doc.specs.declared.content.Rule.{Rule}
use Rattle.conref_targets.specs.Rules.{all_kept, rules_kept}
use Rattle.conref_targets.proofs.rules.RuleLists.of_page.Goals as goal

pub returns : goal.returns
returns c =
    let val = option_to_list c.args.context.now.val in
    let known = c.args.self.now in
    c.in_ok-push_filters.ensures
    ∙ ap (λ (some : List (List Rule)). some ++ all_kept known c.as_slice.result.now)
    (c.in_ok-push_val.ensures
    ∙ ap (λ (items : List (Bor (List Rule))). shown items ++ all_kept known val) c.new-tables.ensures.items)
    ∙ sym (flat_map-append (rules_kept known) val c.as_slice.result.now)
    ∙ ap (λ (names : List (List ℕ)). all_kept known (val ++ names)) c.as_slice.ensures
