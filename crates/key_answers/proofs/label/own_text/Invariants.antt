use Rattle.std.proofs.Common.{◌≡◌, drop}
use Rattle.std.specs.Prelude.{map}
use Rattle.map_spec.specs.Titles.{first_text}
use Rattle.key_answers.specs.Seen.{text_seen}
use Rattle.key_answers.proofs.label.own_text.Given as goal

abbrev pub invariant-loop-at : goal.invariant-loop-at
invariant-loop-at l = first_text (map (text_seen l.defined.homes.now) l.met)
    ≡ first_text (map (text_seen l.defined.homes.now) (drop l.at-index l.met))
