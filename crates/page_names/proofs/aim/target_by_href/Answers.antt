use Rattle.std.proofs.Common.{ap}
use Rattle.std.specs.Option.{option_copied}
use Rattle.page_names.proofs.GivenUseLaws.{href_named}
use Rattle.page_names.proofs.aim.target_by_href.Goals as goal

pub returns-clause-given : goal.returns-clause-given
returns-clause-given c = λ told given.
    href_named told c.args.node.now (option_copied c.args.href) c.in-Some.href.now
    c.unwrap_or-format.result.now c.unwrap_or-scope.result.now c.in_ok-read.read c.target_read.result
    c.args.faults.now c.target_read.new.faults given (ap option_copied c.in-Some.is)
    c.in_ok-read.ensures c.target_read.ensures
