use Rattle.std.specs.Prelude.{ℕ, ◌+◌, [], codes}
use Rattle.std.specs.Option.{option_copied, option_map_or}
use Rattle.std.proofs.Common.{ap, sym, ◌∙◌}
use Rattle.map_spec.specs.Branches.{words_written}
use Rattle.plan_nodes.specs.Home as home
use Rattle.branch_copies.proofs.StandLaws.{included_words}
use Rattle.branch_copies.proofs.names.included_keyscope.Goals as goal

pub returns-in_err-included_map : goal.returns-in_err-included_map
returns-in_err-included_map c = λ world parent head below more are stands.
    ap (λ r. words_written (option_copied r)) c.from_residual.ensures
    ∙ ap (λ found. option_map_or (λ (m : ℕ). words_written (home.value_at c.args.homes.now m (codes "keyscope"))) found [])
    (sym c.in_err-included_map.was ∙ c.included_map.ensures parent head below more stands)
    ∙ included_words world c.args.nodes.now c.args.homes.now below c.args.at (c.args.at + 1) are stands.1

pub returns : goal.returns
returns c = λ world parent head below more are stands.
    ap words_written c.value.ensures
    ∙ ap (λ found. option_map_or (λ (m : ℕ). words_written (home.value_at c.args.homes.now m (codes "keyscope"))) found [])
    (sym c.in_ok-included_map.was ∙ c.included_map.ensures parent head below more stands)
    ∙ included_words world c.args.nodes.now c.args.homes.now below c.args.at (c.args.at + 1) are stands.1
