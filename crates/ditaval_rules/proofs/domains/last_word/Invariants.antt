use Rattle.std.proofs.Common.{◌≡◌, length}
use Rattle.std.specs.List.{last_or}
use Rattle.std.specs.Option.{option_copied}
use Rattle.dita_doc.specs.ClassValue.{words_of}
use Rattle.ditaval_rules.specs.Names.{last_word}
use Rattle.ditaval_rules.proofs.domains.last_word.Given as goal

abbrev pub invariant-loop-word : goal.invariant-loop-word
invariant-loop-word l = last_or (option_copied l.last) (words_of l.rest) ≡ last_word l.text

abbrev pub decreases-loop-word : goal.decreases-loop-word
decreases-loop-word l = length l.rest
