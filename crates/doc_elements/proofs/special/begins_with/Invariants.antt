use Rattle.std.proofs.Common.{◌≡◌, length}
use Rattle.dita_doc.specs.ClassValue.{words_of}
use Rattle.map_spec.specs.Elements.{begins_with}
use Rattle.doc_elements.proofs.special.begins_with.Given as goal

abbrev pub invariant-loop-word : goal.invariant-loop-word
invariant-loop-word l = begins_with (words_of l.own) (words_of l.wanted)
    ≡ begins_with (words_of l.fn.text) (words_of l.fn.first)

abbrev pub decreases-loop-word : goal.decreases-loop-word
decreases-loop-word l = length l.wanted
