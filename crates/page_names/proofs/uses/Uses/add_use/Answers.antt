use Rattle.std.proofs.Common.{ap}
use Rattle.std.specs.Option.{option_copied}
use Rattle.page_names.proofs.GivenUseLaws.{some_founded}
use Rattle.page_names.proofs.UseLaws.{some_added}
use Rattle.page_names.proofs.uses.Uses.add_use.Goals as goal

pub returns-in-Some-clause-known : goal.returns-in-Some-clause-known
returns-in-Some-clause-known g c = λ world nodes names uses agrees carries used first.
    some_added world nodes c.args.at c.args.node.now names uses (option_copied c.args.name) c.in-Some.name.now
    c.add_name.result c.args.self.now c.add_name.new.self (ap option_copied c.in-Some.is)
    (c.add_name.ensures.known world nodes names uses agrees carries used first)

pub returns-in-Some-clause-founded : goal.returns-in-Some-clause-founded
returns-in-Some-clause-founded g c =
    some_founded (option_copied c.args.name) c.in-Some.name.now _ _ (ap option_copied c.in-Some.is)
    c.add_name.ensures.founded
