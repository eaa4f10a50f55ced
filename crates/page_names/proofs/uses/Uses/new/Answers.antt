use Rattle.page_names.proofs.UseLaws.{no_uses}
use Rattle.page_names.proofs.uses.Uses.new.Goals as goal

pub returns : goal.returns
returns c = λ world nodes.
    no_uses world nodes (record {
      pages = c.new.result;
      targets = c.new-2.result;
      documents = c.new-3.result;
      faults = c.new-4.result;
    }) c.new.ensures c.new-2.ensures (c.new-3.ensures world) c.new-4.ensures
