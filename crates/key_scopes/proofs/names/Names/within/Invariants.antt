use Rattle.std.proofs.Common.{◌≡◌, ◌++◌, length, List, ℕ}
use Rattle.std.specs.List.{All}
use Rattle.std.specs.Str.{IsUtf8}
use Rattle.dita_doc.specs.ClassValue.{words_of}
use Rattle.key_scopes.specs.Named.{AreNames}
use Rattle.key_scopes.proofs.names.Names.within.Given as goal

abbrev pub invariant-loop-word : goal.invariant-loop-word
invariant-loop-word l = record {
  before : List (List ℕ);
  are : AreNames before l.names;
  whole : before ++ words_of l.rest ≡ words_of l.value;
  utf8 : All IsUtf8 (words_of l.rest);
}

abbrev pub decreases-loop-word : goal.decreases-loop-word
decreases-loop-word l = length l.rest
