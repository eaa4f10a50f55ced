use Rattle.std.proofs.Common.{ap, not, rules}
use Rattle.std.proofs.lemmas.Iterator.{YieldsList-from_slice}
use Rattle.std.proofs.lemmas.Iterator.Search.{any_from_yields_List}
use Rattle.map_spec.specs.Scopes.{is_bad_byte}
use Rattle.key_scopes.proofs.names.is_good_name.Goals as goal

pub returns : goal.returns
returns c = ap not (any_from_yields_List is_bad_byte _ _ c.any.result c.any.ensures.ran
    (YieldsList-from_slice c.args.name.now cc) (λ x b q k. search rules))
