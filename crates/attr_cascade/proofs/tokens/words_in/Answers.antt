use Rattle.std.proofs.Common.{List, ℕ, refl, sym, subst}
use Rattle.std.specs.List.{All}
use Rattle.std.specs.Str.{IsUtf8}
use Rattle.std.proofs.lemmas.List.Elements.{All-head, All-tail}
use Rattle.dita_doc.specs.ClassValue.{words_of}
use Rattle.dita_doc.proofs.Utf8Laws.{utf8_words}
use Rattle.attr_cascade.proofs.TextLaws.{words_on}
use Rattle.attr_cascade.proofs.tokens.words_in.Goals as goal

pub loop-word-init : goal.loop-word-init
loop-word-init c =
    let are_utf8 : List ℕ → Type 0 = λ text. All IsUtf8 (words_of text) in
    record {
      whole = rw (c.new-words.ensures.items, c.as_bytes-rest.ensures.value) refl;
      utf8 = subst are_utf8 (sym c.as_bytes-rest.ensures.value) (utf8_words c.args.value.now c.utf8.value);
    }

pub from_utf8_unchecked-requires : goal.from_utf8_unchecked-requires
from_utf8_unchecked-requires c =
    All-head IsUtf8 _ _ (subst (All IsUtf8) c.in-Some.ensures.words c.loop-word.invariant.utf8)

pub loop-word-preserved : goal.loop-word-preserved
loop-word-preserved c = record {
  whole = words_on c.loop-word.words.items c.push.new.self.items c.from_utf8_unchecked.result c.in-Some.word.now
      (words_of c.loop-word.rest.now) (words_of c.in-Some.more.now) (words_of c.args.value.now)
      c.in_ok-push.ensures.items c.from_utf8_unchecked.ensures c.in-Some.ensures.words c.loop-word.invariant.whole;
  utf8 = All-tail IsUtf8 _ _ (subst (All IsUtf8) c.in-Some.ensures.words c.loop-word.invariant.utf8);
}
