use Rattle.std.proofs.Common.{◌∙◌, refl}
use Rattle.std.specs.Option.{option_copied}
use Rattle.readers.proofs.DocumentLaws.{asks_after}
use Rattle.readers.proofs.GrowthLaws.{agrees_before, grows_trans}
use Rattle.page_names.proofs.GivenUseLaws.{used_founded}
use Rattle.page_names.proofs.UseLaws.{carried, node_added}
use Rattle.page_names.proofs.uses.Uses.add_node.Goals as goal

pub returns-clause-known : goal.returns-clause-known
returns-clause-known g c = λ world nodes agrees ready homes there inside before.
    let at = c.args.at in
    let node = c.args.node.now in
    let carries = carried _ world nodes at node ready there in
    let first = agrees_before world _ _ c.add_use.ensures.grows agrees in
    node_added world nodes at node c.in_ok-target.target c.args.is_in_table (option_copied c.used_name-name.result)
    c.args.self.now
    (record {
      pages = c.args.self.now.pages;
      targets = c.args.self.now.targets;
      documents = c.args.self.now.documents;
      faults = c.aim.new.faults;
    }) c.add_use.new.self
    (record {
      pages = c.add_use.new.self.pages;
      targets = c.push.new.self;
      documents = c.add_use.new.self.documents;
      faults = c.add_use.new.self.faults;
    }) there carries inside before
    (c.in_ok-target.ensures.known world nodes first ready.keys homes there carries) refl c.used_name-name.ensures
    (c.in_ok-add_use.ensures.known world nodes _ _ agrees carries before.documents before.pages)
    c.in_ok-push.ensures refl
    refl refl

pub returns-in_err-add_use-clause-founded : goal.returns-in_err-add_use-clause-founded
returns-in_err-add_use-clause-founded g c = λ given.
    used_founded _ _ _ _ c.in_ok-target.target c.args.is_in_table (option_copied c.used_name-name.result)
    c.in_ok-target.ensures.founded (c.in_ok-target.ensures.given given) c.used_name-name.ensures
    c.in_err-add_use.ensures.founded

pub returns-in_err-push-clause-founded : goal.returns-in_err-push-clause-founded
returns-in_err-push-clause-founded g c = λ given.
    used_founded _ _ _ _ c.in_ok-target.target c.args.is_in_table (option_copied c.used_name-name.result)
    c.in_ok-target.ensures.founded (c.in_ok-target.ensures.given given) c.used_name-name.ensures
    c.in_ok-add_use.ensures.founded

pub returns-clause-founded : goal.returns-clause-founded
returns-clause-founded g c = λ given.
    used_founded _ _ _ _ c.in_ok-target.target c.args.is_in_table (option_copied c.used_name-name.result)
    c.in_ok-target.ensures.founded (c.in_ok-target.ensures.given given) c.used_name-name.ensures
    c.in_ok-add_use.ensures.founded

pub returns-in_err-target-clause-stand : goal.returns-in_err-target-clause-stand
returns-in_err-target-clause-stand g c = c.aim.ensures.stand

pub returns-in_err-target-clause-asks : goal.returns-in_err-target-clause-asks
returns-in_err-target-clause-asks g c = c.aim.ensures.asks

pub returns-in_err-target-clause-grows : goal.returns-in_err-target-clause-grows
returns-in_err-target-clause-grows g c = c.aim.ensures.grows

pub returns-in_err-target-clause-founded : goal.returns-in_err-target-clause-founded
returns-in_err-target-clause-founded g c = λ given. c.aim.ensures.founded

pub returns-in_err-add_use-clause-stand : goal.returns-in_err-add_use-clause-stand
returns-in_err-add_use-clause-stand g c = c.add_use.ensures.stand ∙ c.aim.ensures.stand

pub returns-in_err-add_use-clause-asks : goal.returns-in_err-add_use-clause-asks
returns-in_err-add_use-clause-asks g c = asks_after _ _ _ _ _ c.aim.ensures.grows c.aim.ensures.asks c.add_use.ensures.asks

pub returns-in_err-add_use-clause-grows : goal.returns-in_err-add_use-clause-grows
returns-in_err-add_use-clause-grows g c = grows_trans _ _ _ c.aim.ensures.grows c.add_use.ensures.grows

pub returns-in_err-push-clause-stand : goal.returns-in_err-push-clause-stand
returns-in_err-push-clause-stand g c = c.add_use.ensures.stand ∙ c.aim.ensures.stand

pub returns-in_err-push-clause-asks : goal.returns-in_err-push-clause-asks
returns-in_err-push-clause-asks g c = asks_after _ _ _ _ _ c.aim.ensures.grows c.aim.ensures.asks c.add_use.ensures.asks

pub returns-in_err-push-clause-grows : goal.returns-in_err-push-clause-grows
returns-in_err-push-clause-grows g c = grows_trans _ _ _ c.aim.ensures.grows c.add_use.ensures.grows

pub returns-clause-stand : goal.returns-clause-stand
returns-clause-stand g c = c.add_use.ensures.stand ∙ c.aim.ensures.stand

pub returns-clause-asks : goal.returns-clause-asks
returns-clause-asks g c = asks_after _ _ _ _ _ c.aim.ensures.grows c.aim.ensures.asks c.add_use.ensures.asks

pub returns-clause-grows : goal.returns-clause-grows
returns-clause-grows g c = grows_trans _ _ _ c.aim.ensures.grows c.add_use.ensures.grows
