use Rattle.std.proofs.Common.{◌≡◌, drop}
use Rattle.map_spec.specs.Pages.{with_affixes}
use Rattle.page_names.proofs.base.with_affixes.Given as goal

abbrev pub invariant-loop-affix : goal.invariant-loop-affix
invariant-loop-affix l = with_affixes l.base (drop l.affix-index l.affixes) ≡ with_affixes l.fn.path l.affixes
