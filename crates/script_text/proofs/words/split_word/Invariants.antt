use denote.Shadow.{shadow}
use denote.Text.{Utf8}
use Rattle.std.proofs.Common.{◌≡◌, length}
use Rattle.dita_doc.specs.Bytes.{spaced_words}
use Rattle.script_text.proofs.words.split_word.Given as goal

abbrev pub invariant-loop-word : goal.invariant-loop-word
invariant-loop-word l = record { words : spaced_words l.line ≡ spaced_words l.rest; text : shadow (Utf8 l.rest) }

abbrev pub decreases-loop-word : goal.decreases-loop-word
decreases-loop-word l = length l.rest
