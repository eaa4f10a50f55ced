-- The page stays the same, and so does how it is judged.
use Rattle.std.specs.Prelude.{◌≡◌, List}
use Rattle.std.proofs.Common.{ap, ◌∙◌}
use Rattle.dita_doc.specs.declared.fault.Fault.{Fault}
use Rattle.conref_pull.specs.State.{IsSamePage}
use Rattle.conref_pull.specs.declared.resolver.Resolver.{Resolver}

pub page_same : (a b : Resolver) → b ≡ a → IsSamePage a b
page_same a b is = record {
  context = ap (λ (r : Resolver). r.context) is;
  rules = ap (λ (r : Resolver). r.rules) is;
  deepest = ap (λ (r : Resolver). r.deepest) is;
}

pub page_faults : (a b : Resolver) (faults : List Fault) → b ≡ record a { faults = faults } → IsSamePage a b
page_faults a b faults is = record {
  context = ap (λ (r : Resolver). r.context) is;
  rules = ap (λ (r : Resolver). r.rules) is;
  deepest = ap (λ (r : Resolver). r.deepest) is;
}

pub page_then : (a b c : Resolver) → IsSamePage a b → IsSamePage b c → IsSamePage a c
page_then a b c first next = record {
  context = next.context ∙ first.context;
  rules = next.rules ∙ first.rules;
  deepest = next.deepest ∙ first.deepest;
}

-- what closes most claims that the page is the same
pub ruleset paging = (page_same, page_faults, page_then)
