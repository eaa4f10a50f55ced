use Rattle.std.proofs.Common.{◌∙◌, Some, false, refl, sym, true}
use Rattle.map_spec.specs.Cascade.{walk}
use Rattle.page_names.proofs.UseLaws.{added}
use Rattle.page_names.proofs.uses.Uses.add_name.Goals as goal

pub returns-in_ok-put-clause-known : goal.returns-in_ok-put-clause-known
returns-in_ok-put-clause-known g c = λ world nodes names uses agrees carries used first.
    added world nodes c.args.at c.args.node.now names uses (Some c.args.name.now) c.args.name.now
    c.in_ok-kind.kind true c.args.self.now
    (record {
      pages = c.put.new.self;
      targets = c.args.self.now.targets;
      documents = c.kind.new.self;
      faults = c.append_kind.new.faults;
    }) refl (c.in_ok-kind.ensures.known world names agrees used) refl
    c.in_ok-append_kind.ensures
    (sym (c.makes_page.ensures world (walk nodes c.args.at) carries.values) ∙ c.if-makes_page.true)
    (c.in_ok-put.ensures uses first)

pub returns-else-makes_page-clause-known : goal.returns-else-makes_page-clause-known
returns-else-makes_page-clause-known g c = λ world nodes names uses agrees carries used first.
    added world nodes c.args.at c.args.node.now names uses (Some c.args.name.now) c.args.name.now
    c.in_ok-kind.kind false c.args.self.now
    (record {
      pages = c.args.self.now.pages;
      targets = c.args.self.now.targets;
      documents = c.kind.new.self;
      faults = c.append_kind.new.faults;
    }) refl (c.in_ok-kind.ensures.known world names agrees used) refl
    c.in_ok-append_kind.ensures
    (sym (c.makes_page.ensures world (walk nodes c.args.at) carries.values) ∙ c.if-makes_page.false) first
