use Rattle.std.proofs.Common.{◌++◌, ◌∷◌, [], List, ℕ, sym, subst, append_assoc, ◌∙◌, ap}
use Rattle.std.specs.List.{All}
use Rattle.std.specs.Str.{IsUtf8}
use Rattle.std.proofs.lemmas.List.Elements.{All-head, All-tail}
use Rattle.dita_doc.specs.ClassValue.{words_of}
use Rattle.dita_doc.proofs.Utf8Laws.{utf8_words}
use Rattle.key_scopes.proofs.names.Names.within.Goals as goal

pub loop-word-init : goal.loop-word-init
loop-word-init c =
    let are_utf8 : List ℕ → Type 0 = λ text. All IsUtf8 (words_of text) in
    record {
      before = [];
      are = c.new-names.ensures;
      whole = ap words_of c.as_bytes-rest.ensures.value;
      utf8 = subst are_utf8 (sym c.as_bytes-rest.ensures.value) (utf8_words c.args.value.now c.utf8.value);
    }

pub from_utf8_unchecked-requires : goal.from_utf8_unchecked-requires
from_utf8_unchecked-requires c =
    All-head IsUtf8 _ _ (subst (All IsUtf8) c.in-Some.ensures.words c.loop-word.invariant.utf8)

pub loop-word-preserved : goal.loop-word-preserved
loop-word-preserved c =
    let before = c.loop-word.invariant.before in
    let word = c.in-Some.word.now in
    let rest = words_of c.in-Some.more.now in
    record {
      before = before ++ c.from_utf8_unchecked.result.now ∷ [];
      are = c.in_ok-push.ensures before c.loop-word.invariant.are;
      whole = append_assoc before (c.from_utf8_unchecked.result.now ∷ []) rest
          ∙ ap (λ text. before ++ text ∷ rest) c.from_utf8_unchecked.ensures
          ∙ ap (λ words. before ++ words) (sym c.in-Some.ensures.words)
          ∙ c.loop-word.invariant.whole;
      utf8 = All-tail IsUtf8 _ _ (subst (All IsUtf8) c.in-Some.ensures.words c.loop-word.invariant.utf8);
    }
