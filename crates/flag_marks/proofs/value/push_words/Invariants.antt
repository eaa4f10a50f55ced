use Rattle.std.proofs.Common.{◌≡◌, ◌++◌, length}
use Rattle.std.specs.List.{All}
use Rattle.std.specs.Str.{IsUtf8}
use Rattle.dita_doc.specs.ClassValue.{words_of}
use Rattle.flag_marks.specs.Marks.{marks_of_tokens}
use Rattle.flag_marks.proofs.value.push_words.Given as goal

abbrev pub invariant-loop-word : goal.invariant-loop-word
invariant-loop-word l = record {
  whole : l.texts ++ marks_of_tokens l.table l.att (words_of l.rest)
      ≡ l.fn.texts ++ marks_of_tokens l.table l.att (words_of l.value);
  utf8 : All IsUtf8 (words_of l.rest);
}

abbrev pub decreases-loop-word : goal.decreases-loop-word
decreases-loop-word l = length l.rest
