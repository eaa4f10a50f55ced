use Rattle.std.proofs.Common.{◌∙◌, ap}
use Rattle.attr_cascade.specs.Nearest.{seen}
use Rattle.attr_cascade.proofs.ValueLaws.{tables_push}
use Rattle.attr_cascade.proofs.values.put_table.Goals as goal

pub returns : goal.returns
returns c = λ world names homes before near are.
    tables_push world c.args.nodes.now names c.args.name.now c.args.tables.now.items c.push.new.self.items
    c.in_ok-of.field-0 are
    (c.in_ok-of.ensures world homes before (ap seen c.deref.ensures.value ∙ near.cascade)) c.in_ok-push.ensures.items
