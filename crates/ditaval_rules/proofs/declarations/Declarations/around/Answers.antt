use Rattle.std.proofs.Common.{map, ap, ◌∙◌}
use Rattle.ditaval_rules.specs.Declarations.{AreDeclarations, declaring_of, lies_around, last_names}
use Rattle.ditaval_rules.proofs.DeclarationLaws.{found_around}
use Rattle.ditaval_rules.proofs.declarations.Declarations.around.Goals as goal

pub returns : goal.returns
returns c tree are =
    let entries = c.as_slice-entries.result.now in
    let known : AreDeclarations tree (map declaring_of entries) =
    ap (map declaring_of) c.as_slice-entries.ensures.value ∙ c.self.view_is ∙ are in
    c.names_at.ensures (lies_around c.args.place) c.count_before.ensures
    ∙ ap (λ names. last_names (lies_around c.args.place) names entries) c.self.invariant.empty
    ∙ found_around entries c.args.place tree known
