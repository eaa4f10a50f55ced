use Rattle.std.proofs.lemmas.Option.{slice_get_past}
use Rattle.dita_doc.proofs.Lists.{get_read}
use Rattle.branch_copies.proofs.node.Originals.group.Goals as goal

pub returns-in_default : goal.returns-in_default
returns-in_default c =
    rw (slice_get_past c.args.self.now.nodes.now c.args.branch.now.place c.in_default.ensures.lookup.3)

pub returns : goal.returns
returns c =
    let found = c.in-Some.ensures.lookup in
    rw (
      get_read c.args.self.now.nodes.now c.args.branch.now.place c.in-Some.ditavalref.now found.3.0 found.1,
      c.in_ok-marked.ensures,
      c.in_ok-names_in_copy.ensures,
    )
