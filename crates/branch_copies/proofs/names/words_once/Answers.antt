use Rattle.std.proofs.Common.{ap, ◌∙◌}
use Rattle.map_spec.specs.Branches.{words_written}
use Rattle.map_spec.specs.Cascade.{with_new}
use Rattle.std.specs.Option.{option_copied}
use Rattle.branch_copies.proofs.SeenLaws.{words_once}
use Rattle.branch_copies.proofs.names.words_once.Goals as goal

pub returns : goal.returns
returns c =
    words_once (words_written (option_copied c.args.first)) (words_written (option_copied c.args.second))
    c.append_words.new.names c.append_words-2.new.names
    (c.in_ok-append_words.ensures.words
    ∙ ap (λ names. with_new names (words_written (option_copied c.args.first))) c.new-names.ensures)
    c.in_ok-append_words-2.ensures.words
