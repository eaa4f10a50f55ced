use Rattle.std.proofs.Common.{◌≡◌, ◌++◌, length}
use Rattle.std.specs.List.{All, list_all}
use Rattle.std.specs.Str.{IsUtf8}
use Rattle.dita_doc.specs.ClassValue.{is_token, words_of}
use Rattle.dita_class.proofs.list_with.Given as goal

abbrev pub invariant-loop-word : goal.invariant-loop-word
invariant-loop-word l = record {
  utf8 : All IsUtf8 (words_of l.rest);
  whole : l.tokens ++ words_of l.rest ≡ words_of l.text;
  tokens : list_all is_token (words_of l.text) ≡ list_all is_token (words_of l.rest);
}

abbrev pub decreases-loop-word : goal.decreases-loop-word
decreases-loop-word l = length l.rest
