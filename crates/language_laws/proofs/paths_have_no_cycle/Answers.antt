use Rattle.std.specs.Prelude.{◌+◌}
use Rattle.conref_spec.specs.Content.{path_limit}
use Rattle.language_laws.proofs.MapPathLaws.{included_fits}
use Rattle.language_laws.proofs.PathLaws.{follows_from}
use Rattle.language_laws.proofs.paths_have_no_cycle.Goals as goal

pub returns-clause-maps : goal.returns-clause-maps
returns-clause-maps c = included_fits

pub returns-clause-targets : goal.returns-clause-targets
returns-clause-targets c = follows_from (path_limit + 1)
