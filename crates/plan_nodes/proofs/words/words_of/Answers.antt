use Rattle.std.proofs.Common.{List, ℕ, refl, sym, subst, append_assoc, ◌∙◌}
use Rattle.std.specs.List.{All}
use Rattle.std.specs.Str.{IsUtf8}
use Rattle.std.proofs.lemmas.List.{append-nil}
use Rattle.std.proofs.lemmas.List.Elements.{All-head, All-tail}
use Rattle.dita_doc.specs.ClassValue.{words_of}
use Rattle.dita_doc.proofs.Utf8Laws.{utf8_words}
use Rattle.plan_nodes.proofs.words.words_of.Goals as goal

pub loop-word-init : goal.loop-word-init
loop-word-init c =
    let are_utf8 : List ℕ → Type 0 = λ text. All IsUtf8 (words_of text) in
    record {
      whole = rw (c.new-words.ensures, c.as_bytes-rest.ensures.value) refl;
      utf8 = subst are_utf8 (sym c.as_bytes-rest.ensures.value) (utf8_words c.args.value.now c.utf8.value);
    }

pub from_bytes-requires : goal.from_bytes-requires
from_bytes-requires c =
    All-head IsUtf8 _ _ (subst (All IsUtf8) c.in-Some.ensures.words c.loop-word.invariant.utf8)

pub loop-word-preserved : goal.loop-word-preserved
loop-word-preserved c = record {
  whole = rw (c.in_ok-push.ensures, c.in_ok-from_bytes.ensures, append_assoc)
      (rw c.in-Some.ensures.words at c.loop-word.invariant.whole);
  utf8 = All-tail IsUtf8 _ _ (subst (All IsUtf8) c.in-Some.ensures.words c.loop-word.invariant.utf8);
}

pub returns : goal.returns
returns c = sym (append-nil c.loop-word.words) ∙ rw c.in_default.ensures at c.loop-word.invariant.whole
