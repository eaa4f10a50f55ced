use Rattle.std.proofs.Common.{◌∙◌}
use Rattle.key_answers.proofs.ChainLaws.{last_there}
use Rattle.key_answers.proofs.chain.last_of.Goals as goal

pub returns : goal.returns
returns c = c.copied.ensures ∙ c.last.ensures.value ∙ last_there c.args.met.now
