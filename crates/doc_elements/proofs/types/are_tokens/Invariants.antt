use Rattle.std.proofs.Common.{◌≡◌, ◌==◌, ◌&&◌, ◌||◌, not, length}
use Rattle.std.specs.List.{list_all}
use Rattle.dita_doc.specs.ClassValue.{is_token, words_of}
use Rattle.doc_elements.proofs.types.are_tokens.Given as goal

abbrev pub invariant-loop-word : goal.invariant-loop-word
invariant-loop-word l = (not (length (words_of l.text) == 0) && list_all is_token (words_of l.text))
    ≡ ((l.has_words || not (length (words_of l.rest) == 0)) && list_all is_token (words_of l.rest))

abbrev pub decreases-loop-word : goal.decreases-loop-word
decreases-loop-word l = length l.rest
