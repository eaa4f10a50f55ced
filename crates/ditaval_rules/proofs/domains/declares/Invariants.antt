use Rattle.std.proofs.Common.{◌≡◌, length}
use Rattle.std.specs.List.{list_any}
use Rattle.ditaval_rules.specs.Names.{ends_of, is_declaration}
use Rattle.ditaval_rules.proofs.domains.declares.Given as goal

abbrev pub invariant-loop-first : goal.invariant-loop-first
invariant-loop-first l =
    list_any is_declaration (ends_of l.begins l.rest) ≡ list_any is_declaration (ends_of l.may_begin l.text)

abbrev pub decreases-loop-first : goal.decreases-loop-first
decreases-loop-first l = length l.rest
