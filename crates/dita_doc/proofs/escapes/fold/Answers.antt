use Rattle.std.specs.Str.{IsUtf8}
use Rattle.std.proofs.Common.{rules, tests, arith, ◌≡◌, ◌++◌, ◌∷◌, [], ◌∙◌, List, ℕ, subst, sym, if◌then◌else◌}
use Rattle.std.proofs.lemmas.Bool.Decides.{nat_tests}
use Rattle.std.proofs.lemmas.Iterator.{YieldsList}
use Rattle.std.proofs.lemmas.Iterator.Consumers.{YieldsList-turn, YieldsList-end, YieldsList-from_filter}
use Rattle.std.proofs.lemmas.Iterator.Splits.{YieldsList-from_slice_split}
use Rattle.std.proofs.lemmas.List.{length_push}
use Rattle.dita_doc.specs.PlainText.{is_blank_byte, folded}
use Rattle.dita_doc.specs.Bytes.{has_bytes}
use Rattle.dita_doc.proofs.EscapeLaws.{fold_none, fold_more, fold_all, words_of, slice_split_parts}
use Rattle.dita_doc.proofs.EscapeUtf8Laws.{utf8_folded}
use Rattle.dita_doc.proofs.escapes.fold.Given as given
use Rattle.dita_doc.proofs.escapes.fold.Goals as goal
use Rattle.dita_doc.proofs.escapes.fold.Goals.{After-into_iter-word-iterator, In-None, then-not-is_empty+in_ok-push, else-not-is_empty}

abbrev GoesOver : After-into_iter-word-iterator → List (List ℕ) → Type 0
GoesOver c words =
    YieldsList given.iterator-loop-word.next_gives (λ word. word.now) c.into_iter-word-iterator.result words

-- the loop goes over the words of the text
by_words : (c : After-into_iter-word-iterator) → GoesOver c (words_of c.args.text.now)
by_words c =
    rw (← slice_split_parts is_blank_byte c.args.text.now)
    (YieldsList-from_filter _ has_bytes
    (YieldsList-from_slice_split _ is_blank_byte c.args.text.now (cc) (cc) (cc) (λ x b q k. search (rules, tests)))
    (cc) (λ x b q k. search (rules, tests)))

pub loop-word-init : goal.loop-word-init
loop-word-init c = fold_none c.args.text.now c.new-line.result.items c.new-line.ensures.items

pub loop-word-preserved : goal.loop-word-preserved
loop-word-preserved c =
    let line : List ℕ = c.loop-word.line.items in
    let words = by_words (goal.at.loop-word-preserved c).After-into_iter-word-iterator in
    let steps = c.next.ensures.steps in
    let turn = YieldsList-turn words c.loop-word.yielded _ c.loop-word.yielded_by _ _ _ c.in-Some.is steps in
    let gapped : c.if-not-is_empty.line.items ≡ (if has_bytes line then line ++ 32 ∷ [] else line) =
    elim c.if-not-is_empty.branch [
      | then-not-is_empty+in_ok-push w ↦ grind (arith, nat_tests)
      | else-not-is_empty w ↦ grind (arith, nat_tests)
    ] in
    let longer = c.in_ok-extend_from_slice.ensures.items in
    rw length_push (fold_more c.args.text.now line _ _ _ _ turn.0 turn.1 gapped longer c.loop-word.invariant)

whole : (c : In-None) → c.loop-word.line.items ≡ folded c.args.text.now
whole c =
    let words = by_words (goal.at.from_vec-requires c).After-into_iter-word-iterator in
    let end = YieldsList-end words c.loop-word.yielded _ c.loop-word.yielded_by _ _ c.in-None.is c.next.ensures.steps in
    fold_all c.args.text.now c.loop-word.line.items _ end.1 c.loop-word.invariant

pub from_vec-requires : goal.from_vec-requires
from_vec-requires c = subst IsUtf8 (sym (whole c)) (utf8_folded c.args.text.now c.utf8.text)

pub returns : goal.returns
returns c = c.from_vec.ensures ∙ whole (goal.at.returns c).In-None
