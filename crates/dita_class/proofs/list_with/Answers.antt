use Rattle.std.proofs.Common.{subst, append_assoc}
use Rattle.std.specs.List.{All}
use Rattle.std.specs.Str.{IsUtf8}
use Rattle.std.proofs.lemmas.List.Elements.{All-tail}
use Rattle.dita_class.proofs.list_with.Goals as goal

pub loop-word-preserved : goal.loop-word-preserved
loop-word-preserved c =
    let first = c.in-Some.ensures.words in
    let is_token = rw c.if-not-is_token.false at c.is_token.ensures in
    record {
      utf8 = All-tail IsUtf8 c.in-Some.word.now _ (subst (All IsUtf8) first c.loop-word.invariant.utf8);
      whole = rw (c.in_ok-push.ensures, c.in_ok-from_bytes.ensures, append_assoc, ← first) c.loop-word.invariant.whole;
      tokens = rw (c.loop-word.invariant.tokens, first, ← is_token);
    }
