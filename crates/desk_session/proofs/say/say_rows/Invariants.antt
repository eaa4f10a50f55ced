-- So far the rows of the first pages were sent.
use Rattle.std.proofs.Common.{◌≡◌, map, take}
use Rattle.desk_session.specs.Asking.{row_message}
use Rattle.desk_session.specs.Saying.{Says}
use Rattle.desk_session.proofs.say.say_rows.Given as goal

abbrev pub invariant-loop-page : goal.invariant-loop-page
invariant-loop-page g l = record {
  says : Says (g.L.Link.told l.fn.link) (g.L.Link.told l.link) (map row_message (take l.page-index l.pages));
  sure : (g.L.Link.told l.link).faults ≡ (g.L.Link.told l.fn.link).faults;
}
