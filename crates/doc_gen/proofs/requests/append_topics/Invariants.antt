use Rattle.std.proofs.Common.{◌≡◌, ◌++◌, ◌+◌, ◌-◌}
use Rattle.std.specs.List.{flat_map}
use Rattle.script_text.specs.Printed as printed_spec
use Rattle.doc_gen.specs.Project as project_spec
use Rattle.doc_gen.proofs.requests.append_topics.Given as goal

abbrev pub invariant-loop-index : goal.invariant-loop-index
invariant-loop-index l = record {
  draw : l.draw ≡ project_spec.drawn l.number l.index;
  text : l.out ++ flat_map (λ index. printed_spec.step_text (project_spec.puts_first l.number l.topics index))
      (project_spec.numbers_from (l.index + 1) (l.topics - l.index))
      ≡ l.fn.out ++ flat_map (λ index. printed_spec.step_text (project_spec.puts_first l.number l.topics index))
      (project_spec.numbers_from 1 l.topics);
}
