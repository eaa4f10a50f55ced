use Rattle.std.proofs.Common.{ap}
use Rattle.std.specs.Option.{option_copied}
use Rattle.node_filter.proofs.DomainLaws.{names_none, names_some}
use Rattle.node_filter.proofs.domains.DeclaredNames.names.Goals as goal

pub returns-in-Some : goal.returns-in-Some
returns-in-Some c = λ world nodes declared here.
    names_some world c.args.self.now.documents.items nodes c.args.self.now.homes.items c.args.at c.args.node.now
    declared.are here (option_copied c.document.result) c.document.ensures c.in-Some.document.now c.at.result.now
    (ap option_copied c.in-Some.is) c.at.ensures

pub returns-in-None : goal.returns-in-None
returns-in-None c = λ world nodes declared here.
    names_none world c.args.self.now.documents.items nodes c.args.self.now.homes.items c.args.at c.args.node.now
    declared.are here (option_copied c.document.result) c.document.ensures c.args.self.now.none
    (ap option_copied c.in-None.is) declared.none
