use Rattle.std.proofs.Common.{refl, rules, ◌∙◌}
use Rattle.key_scopes.proofs.numbering.Numbering.begin_scope.Goals as goal

pub returns : goal.returns
returns c = record {
  is = c.in_ok-number.ensures.place ∙ c.len.ensures.length;
  scopes = search rules;
  faults = refl;
  places = refl;
  written = refl;
}
