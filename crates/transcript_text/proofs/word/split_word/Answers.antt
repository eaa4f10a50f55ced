use Rattle.transcript_text.proofs.WordLaws.{words_cut, one_word}
use Rattle.transcript_text.proofs.word.split_word.Goals as goal

pub returns-in-Some : goal.returns-in-Some
returns-in-Some c = words_cut _ _ _ c.in-Some.ensures

pub returns-in-None : goal.returns-in-None
returns-in-None c = one_word _ c.in-None.ensures
