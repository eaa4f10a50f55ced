use Rattle.std.proofs.Common.{◌≡◌, ◌++◌, length}
use Rattle.std.specs.List.{All}
use Rattle.std.specs.Str.{IsUtf8}
use Rattle.dita_doc.specs.ClassValue.{words_of}
use Rattle.attr_cascade.specs.Tokens.{texts}
use Rattle.attr_cascade.proofs.tokens.words_in.Given as goal

abbrev pub invariant-loop-word : goal.invariant-loop-word
invariant-loop-word l = record {
  whole : texts l.words.items ++ words_of l.rest ≡ words_of l.value;
  utf8 : All IsUtf8 (words_of l.rest);
}

abbrev pub decreases-loop-word : goal.decreases-loop-word
decreases-loop-word l = length l.rest
