use Rattle.std.proofs.Common.{◌≡◌, ◌++◌, ◌∙◌, List, [], ◌∷◌, ℕ, ap, append_assoc, codes, sym}
use Rattle.std.specs.Fmt.{decimal}
use Rattle.std.proofs.lemmas.Result.{IfOk-weaker}
use Rattle.desk_session.proofs.say.full_message.Goals as goal

spaced : (first second space end : List ℕ) → first ++ (space ++ (second ++ end)) ≡ ((first ++ space) ++ second) ++ end
spaced first second space end =
    sym (append_assoc (first ++ space) second end ∙ append_assoc first space (second ++ end))

pub returns : goal.returns
returns c = IfOk-weaker c.from_slice.result _ _ (λ message is. is ∙ c.as_bytes.ensures.value ∙ c.in_ok-format.ensures.ok
    ∙ ap (λ (rest : List ℕ). codes "full " ++ rest)
    (spaced (decimal c.args.full.entries) (decimal c.args.full.bytes) (codes " ") (10 ∷ []))) c.from_slice.ensures
