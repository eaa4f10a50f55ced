use Rattle.std.specs.Prelude.{◌≡◌, List, ℕ, IfOk}
use Rattle.std.specs.Option.{option_copied}
use Rattle.std.proofs.Common.{subst}
use Rattle.branch_copies.proofs.StandLaws.{other_names}
use Rattle.branch_copies.proofs.names.names_at.Goals as goal

pub returns-in_default : goal.returns-in_default
returns-in_default c = λ world parent head below more are stands is.
    subst (λ (all : List (List ℕ)). IfOk c.words_once-in_default.result (λ names. names ≡ all))
    (other_names world c.args.nodes.now c.args.homes.now parent c.args.at head below more c.args.kind
    (option_copied c.value-own.result) are stands is c.in_default.not-Map c.in_default.not-Included c.value-own.ensures)
    c.words_once-in_default.ensures
