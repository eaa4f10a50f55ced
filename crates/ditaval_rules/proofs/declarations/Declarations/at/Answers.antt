use Rattle.std.proofs.Common.{map, ap, ◌∙◌}
use Rattle.ditaval_rules.specs.Declarations.{AreDeclarations, declaring_of, holds, last_names}
use Rattle.ditaval_rules.proofs.DeclarationLaws.{found_at}
use Rattle.ditaval_rules.proofs.declarations.Declarations.at.Goals as goal

pub returns : goal.returns
returns c tree are =
    let entries = c.as_slice-entries.result.now in
    let known : AreDeclarations tree (map declaring_of entries) =
    ap (map declaring_of) c.as_slice-entries.ensures.value ∙ c.self.view_is ∙ are in
    c.names_at.ensures (holds c.args.place) c.count_to.ensures
    ∙ ap (λ names. last_names (holds c.args.place) names entries) c.self.invariant.empty
    ∙ found_at entries c.args.place tree known
