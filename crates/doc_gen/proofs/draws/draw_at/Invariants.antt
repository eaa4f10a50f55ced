use Rattle.std.proofs.Common.{◌≡◌}
use Rattle.doc_gen.specs.Project as project_spec
use Rattle.doc_gen.proofs.draws.draw_at.Given as goal

abbrev pub invariant-loop : goal.invariant-loop
invariant-loop l = l.draw ≡ project_spec.drawn l.number l.counter
