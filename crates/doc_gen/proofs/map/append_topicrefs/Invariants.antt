use Rattle.std.proofs.Common.{◌≡◌, ◌++◌, [], ◌+◌, ◌-◌}
use Rattle.std.specs.List.{flat_map}
use Rattle.doc_gen.specs.Project as project_spec
use Rattle.doc_gen.proofs.map.append_topicrefs.Given as goal

abbrev pub invariant-loop-index : goal.invariant-loop-index
invariant-loop-index l =
    l.out ++ flat_map (λ index. project_spec.topicref index [])
    (project_spec.numbers_from (l.index + 1) (l.topics - l.index))
    ≡ l.fn.out ++ flat_map (λ index. project_spec.topicref index []) (project_spec.numbers_from 1 l.topics)
