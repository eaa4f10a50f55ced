use Rattle.std.proofs.Common.{[]}
use Rattle.map_spec.specs.Pages.{contents_name}
use Rattle.page_names.proofs.NameLaws.{first_taken, nothing_taken}
use Rattle.page_names.proofs.names.PageNames.new.Goals as goal

pub returns : goal.returns
returns c =
    first_taken contents_name c.take.new.self c.in_ok-take.field-0
    (c.in_ok-take.ensures [] (nothing_taken (record { taken = c.new.result; next = c.new-2.result }) c.new.ensures.empty
    c.new-2.ensures.empty))
