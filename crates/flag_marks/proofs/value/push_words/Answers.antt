use Rattle.std.proofs.Common.{◌++◌, List, ℕ, ap, sym, subst}
use Rattle.std.specs.List.{All}
use Rattle.std.specs.Str.{IsUtf8}
use Rattle.std.proofs.lemmas.List.Elements.{All-tail}
use Rattle.dita_doc.specs.ClassValue.{words_of}
use Rattle.dita_doc.proofs.Utf8Laws.{utf8_words}
use Rattle.flag_marks.specs.Marks.{marks_of_tokens}
use Rattle.flag_marks.proofs.TokenLaws.{token_put}
use Rattle.flag_marks.proofs.value.push_words.Goals as goal

pub loop-word-init : goal.loop-word-init
loop-word-init c =
    let are_utf8 : List ℕ → Type 0 = λ text. All IsUtf8 (words_of text) in
    record {
      whole = ap (λ text. c.args.texts.now ++ marks_of_tokens c.args.table.now c.args.att.now (words_of text))
          c.as_bytes-rest.ensures.value;
      utf8 = subst are_utf8 (sym c.as_bytes-rest.ensures.value) (utf8_words c.args.value.now c.utf8.value);
    }

pub loop-word-preserved : goal.loop-word-preserved
loop-word-preserved c = record {
  whole = token_put c.args.table.now c.args.att.now c.loop-word.texts c.push_word.new.texts
      c.from_utf8_unchecked.result.now c.in-Some.word.now (words_of c.loop-word.rest.now)
      (words_of c.in-Some.more.now) _ c.in_ok-push_word.ensures c.from_utf8_unchecked.ensures
      c.in-Some.ensures.words c.loop-word.invariant.whole;
  utf8 = All-tail IsUtf8 _ _ (subst (All IsUtf8) c.in-Some.ensures.words c.loop-word.invariant.utf8);
}
