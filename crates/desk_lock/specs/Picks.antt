-- What the steps of a desk tell if no proof picks it (own); and a claim by its three numbers.
use Rattle.std.specs.Prelude.{ℕ, [], None, Err}
use denote.RawPtr.{null_ptr}
use Rattle.dita_doc.specs.declared.fact.FactKey.{FactKey}
use Rattle.dita_doc.specs.declared.fact.Part.TheVariants as parts
use Rattle.dita_doc.specs.declared.plan.PlanStop.TheVariants as stops
use Rattle.facts.specs.Rows.{Claim, RowData}
use Rattle.facts.specs.declared.fact.Fact.{Fact}
use Rattle.facts.specs.declared.fact.PlanFact.{PlanFact}

abbrev pub claim_at : ℕ → FactKey → ℕ → Claim
claim_at serial key stamp = record { serial = serial; key = key; stamp = stamp }

abbrev pub no_key : FactKey
no_key = record { map = []; val = None; part = parts.Plan }

abbrev pub no_claim : Claim
no_claim = claim_at 0 no_key 0

abbrev pub no_plan : PlanFact
no_plan = record { asked = []; value = Err stops.NoMap }

abbrev pub no_fact : Fact
no_fact = record {
  key = no_key;
  plan = record { ptr = null_ptr; value = no_plan };
  planned = 0;
  asked = [];
  html = None;
}

abbrev pub no_row : RowData
no_row = record { serial = 0; stamp = 0; rank = 0; mark = 0; bytes = 0; fact = no_fact }
