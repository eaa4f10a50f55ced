use Rattle.std.proofs.Common.{◌≡◌, length}
use Rattle.std.specs.List.{filter_map}
use Rattle.std.specs.Str.{IsUtf8}
use Rattle.ditaval_rules.specs.Domains.{name_in, pieces_from, names_declared}
use Rattle.ditaval_rules.specs.Names.{AreNames}
use Rattle.ditaval_rules.proofs.NameLaws.{with_all}
use Rattle.ditaval_rules.proofs.domains.names_declared.Given as goal

abbrev pub invariant-loop-text : goal.invariant-loop-text
invariant-loop-text l = record {
  names : AreNames l.names;
  whole : with_all l.names.list (filter_map name_in (pieces_from l.may_begin l.rest)) ≡ names_declared l.value;
  utf8 : IsUtf8 l.rest;
}

abbrev pub decreases-loop-text : goal.decreases-loop-text
decreases-loop-text l = length l.rest
