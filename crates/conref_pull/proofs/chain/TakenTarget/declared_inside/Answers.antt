use Rattle.std.specs.List.{each_same}
use Rattle.std.proofs.Common.{ℕ, List, Option, Some, None, ap, unwrap_or, ◌∙◌}
use Rattle.conref_pull.proofs.LinkLaws.{link_inside, no_target}
use Rattle.conref_pull.proofs.chain.TakenTarget.declared_inside.Goals as goal

pub returns-in_default : goal.returns-in_default
returns-in_default c = λ one is. absurd (no_target one (c.in_default.ensures.target one is))

pub returns-in-Some-own : goal.returns-in-Some-own
returns-in-Some-own c = λ one is. link_inside c.args.self.now one c.in-Some.target (Some c.in-Some-own.names)
    (c.in-Some.ensures.target one is) is (c.in_ok-own.ensures c.args.self.now.declared
    ∙ ap (λ (own : Option (List (List ℕ))). unwrap_or own c.args.self.now.declared) c.in-Some-own.is)

pub returns-in_ok-clone-in-None : goal.returns-in_ok-clone-in-None
returns-in_ok-clone-in-None c = λ one is. each_same c.args.self.now.declared c.in_ok-clone-in-None.field-0 c.in_ok-clone-in-None.ensures.cases
    ∙ link_inside c.args.self.now one c.in-Some.target None (c.in-Some.ensures.target one is) is
    (c.in_ok-own.ensures c.args.self.now.declared
    ∙ ap (λ (own : Option (List (List ℕ))). unwrap_or own c.args.self.now.declared) c.in-None.is)
