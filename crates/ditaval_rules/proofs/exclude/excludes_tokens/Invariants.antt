use Rattle.std.proofs.Common.{◌≡◌, ◌&&◌, ◌||◌, length}
use Rattle.std.specs.List.{list_all}
use Rattle.dita_doc.specs.ClassValue.{words_of}
use Rattle.ditaval_rules.specs.Verdict.{is_some_token, decides_exclude, deciding}
use Rattle.ditaval_rules.proofs.exclude.excludes_tokens.Given as goal

abbrev pub invariant-loop-token : goal.invariant-loop-token
invariant-loop-token g l =
    (is_some_token (words_of l.value)
    && list_all (λ token. decides_exclude (deciding (g.D.Decides.rules l.decides) l.att token)) (words_of l.value))
    ≡ ((l.has_token || is_some_token (words_of l.rest))
    && list_all (λ token. decides_exclude (deciding (g.D.Decides.rules l.decides) l.att token)) (words_of l.rest))

abbrev pub decreases-loop-token : goal.decreases-loop-token
decreases-loop-token g l = length l.rest
