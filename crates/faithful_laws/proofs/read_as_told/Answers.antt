use Rattle.faithful_laws.proofs.ReadBackLaws.{bytes_have_one, numbers_make, read_as, same_history, same_transcript}
use Rattle.faithful_laws.proofs.read_as_told.Goals as goal

pub returns : goal.returns
returns c = record {
  read = read_as;
  transcript = same_transcript;
  history = same_history;
  bytes = bytes_have_one;
  numbers = numbers_make;
}
