use Rattle.std.proofs.Common.{◌≡◌, ◌&&◌, ◌||◌, bytes_eq, length}
use Rattle.std.specs.List.{list_all, list_any}
use Rattle.dita_doc.specs.ClassValue.{is_token, words_of}
use Rattle.dita_doc.proofs.class.words_have.Given as goal

abbrev pub invariant-loop-word : goal.invariant-loop-word
invariant-loop-word l = (list_all is_token (words_of l.text) && list_any (bytes_eq l.token) (words_of l.text))
    ≡ (list_all is_token (words_of l.rest) && (l.has || list_any (bytes_eq l.token) (words_of l.rest)))

abbrev pub decreases-loop-word : goal.decreases-loop-word
decreases-loop-word l = length l.rest
