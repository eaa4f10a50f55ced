use Rattle.std.specs.Arc.{arc_value}
use Rattle.std.proofs.Common.{refl}
use Rattle.xref_links.proofs.ImageLaws.{image_more}
use Rattle.xref_links.proofs.image.add_image.Goals as goal

pub returns : goal.returns
returns c = λ here named.
    image_more here c.args.page c.args.standing (arc_value c.args.page.context.now).name c.args.target
    c.in_ok-target.target
    c.in_ok-href.href c.args.made.now
    (record {
      anchors = c.push.new.self;
      links = c.args.made.now.links;
      faults = c.image_target.new.faults;
    }) named c.in_ok-target.ensures c.in_ok-href.ensures c.in_ok-push.ensures refl
