-- What a maker has found (own), which goes on from part to part: it is right in the world of its sources.
use Rattle.std.specs.Prelude.{ℕ, List, Option}
use Rattle.std.specs.Coded.{Coded, Coded-set, codes}
use Rattle.std.proofs.Props.{props}
use Rattle.conref_targets.specs.Rules.{AreRules}
use Rattle.dita_doc.specs.declared.content.Rule.{Rule}
use Rattle.plan_reader.specs.Tables.{GoesOn}
use Rattle.pushed_docs.specs.Made.{AreKept-prop}
use Rattle.reader_spec.specs.World.{World}
use Rattle.readers.specs.Titled.{AreTitles-prop}
use Rattle.fact_maker.specs.declared.findings.Findings.{Findings}

-- titles, documents of these names with their pushes, and the rules of DITAVALs
pub record GoOn (world : World) (documents : List (List ℕ)) (findings : Findings) : Type 0 where
  pub cache : GoesOn world documents findings.cache
  pub rules : AreRules world findings.rules

rules_code : Coded (Option (List Rule))
rules_code = hlevel codes

rules_set : IsSet (Option (List Rule))
rules_set = Coded-set rules_code

-- there is one proof of this at most
pub GoOn-prop : (world : World) (documents : List (List ℕ)) (findings : Findings) → IsProp (GoOn world documents findings)
GoOn-prop world documents findings = hlevel (props, AreTitles-prop, AreKept-prop, rules_set)
