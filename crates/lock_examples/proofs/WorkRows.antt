-- A build that stops, since its map is not stored: its one part is the plan, which one worker makes.
use Rattle.std.proofs.Common.{◌≡◌, ◌+◌, ◌≤◌, ℕ, List, [], ◌∷◌, ◌++◌, Option, Some, None, Result, Ok, Err, refl, sym, ap, ◌∙◌, inl, inr, length, arith, sum_by}
use Rattle.std.specs.Prelude.{codes}
use Rattle.build_spec.specs.Built as clean_spec
use Rattle.dita_doc.specs.Desk.{State}
use Rattle.dita_doc.specs.declared.fact.FactKey.{FactKey}
use Rattle.dita_doc.specs.declared.fact.Part.TheVariants as parts
use Rattle.dita_doc.specs.declared.plan.PlanStop.TheVariants as stops
use Rattle.facts.specs.Rows.{RowData}
use Rattle.facts.specs.declared.fact.Fact.{Fact}
use Rattle.desk_lock.specs.Knows.{arrived, both, drew, first_view, has_met, parted, printed, settled}
use Rattle.desk_lock.specs.Meaning.{IsRightRow, Meaning}
use Rattle.desk_lock.specs.declared.view.View.{View}
use Rattle.desk_work.specs.Build.{Ends, EndsBuilt, BuildOrder, Stood, Whole}
use Rattle.desk_language.specs.Language.{Language, key_of}
use Rattle.desk_work.specs.Work.{Cites, Basis, IsMadeFor, Job, Progress, Worked}
use Rattle.desk_work.specs.declared.built.Built.{Built}
use Rattle.desk_work.specs.declared.built.Outcome.TheVariants as outcomes
use Rattle.lock_examples.proofs.ClaimRows as claims
use Rattle.lock_examples.proofs.Short.{small}

-- a list of one row weighs 1 if each row weighs 1
nothing_weighs : (rows : List RowData) → 1 ≡ length rows → sum_by (λ row. 1) rows ≤ 0 → ⊥
nothing_weighs [] one none = absurd (omega arith)
nothing_weighs (row ∷ []) one none = absurd (omega arith)
nothing_weighs (row ∷ other ∷ rows) one none = absurd (omega arith)

abbrev order : BuildOrder
order = record { number = 1; root = codes "m"; val = None }

abbrev plan_key : FactKey
plan_key = key_of order.root order.val parts.Plan

abbrev language : Language
language = record {
  clean = λ state root val. clean_spec.Stopped stops.NoMap;
  page_count = λ state root val. None;
  value_bytes = λ state key. 0;
  Reaches = λ state root val name. name ≡ root;
}

-- what the parts mean, and the fact of this plan, which is right
module _ (means : Meaning) (fact : Fact) (is_key : fact.key ≡ plan_key) (agrees : means.agrees fact [])
    (sound : means.is_sound fact) where
  abbrev row : RowData
  row = record { serial = 1; stamp = 0; rank = 1; mark = 1; bytes = 64; fact = fact }

  abbrev basis : Basis
  basis = record { means = means; language = language; snapshot = claims.snapshot }

  -- the worker's hand, with the claim and then with the row
  abbrev has_claim : View
  has_claim = drew (arrived claims.caller 0 1) claims.log (record { serial = 1; key = fact.key; stamp = 0 })

  abbrev has_row : View
  has_row = printed has_claim claims.log row

  abbrev then : View
  then = settled (both (parted claims.caller 1) has_row)

  right : IsRightRow means row plan_key []
  right = record { key = is_key; agrees = agrees; sound = sound }

  worked : Worked basis claims.caller then (row ∷ [])
  worked = record {
    seen = ([], refl);
    session = refl;
    limits = refl;
    mine = refl;
    theirs = refl;
    published = refl;
    drawn = (record { serial = 1; key = fact.key; stamp = 0 } ∷ [], refl);
    released = ([], refl);
    known = (row ∷ [], refl);
    met = ([], refl);
    stand = ((0, refl), tt);
    ended = λ weight. omega arith;
    fits = (record { stamped = refl; counts = refl; right = record { key = refl; agrees = agrees; sound = sound } }, tt);
    above = (tt, tt);
  }

  abbrev job : Job
  job = record { key = plan_key; row = Some row }

  progress : Progress basis claims.caller then (job ∷ [])
  progress = record {
    rows = row ∷ [];
    worked = worked;
    done = (record { right = right; stands = (0, refl); source = inl (0, refl) }, tt);
    once = λ weight. omega arith;
    among = ((job, (0, refl), refl), tt);
  }

  abbrev built : Built
  built = record { place = 0; outcome = outcomes.Stopped stops.NoMap }

  stood : Stood means language (first_view small) order 0 [] (job ∷ []) then
  stood = record {
    stamp = 0;
    between = claims.caller;
    begun = claims.begins;
    progress = progress;
    keys = ([], refl);
    parts = refl;
  }

  ends : Ends means language (first_view small) order (Ok built) then (Some []) (Some [])
  ends = record {
    state = [];
    jobs = job ∷ [];
    stood = stood;
    whole = record { all = refl; done = (refl, tt) };
    outcome = refl;
    cited = tt;
    took = refl;
  }

  -- What is refused

  -- a worker that keeps its claim
  claim_is_kept : (rows : List RowData) → Worked basis claims.caller (settled (both
      (parted claims.caller 1) has_claim)) rows → ⊥
  claim_is_kept rows h = let one = h.ended (λ serial. 1) in absurd (omega arith)

  -- a row that no part cites
  cited_by_none : Progress basis claims.caller then (record job { row = None } ∷ []) → ⊥
  cited_by_none p =
      let one : 1 ≡ length p.rows = ap (λ (rows : List RowData). length rows) p.worked.published in
      let none = p.once (λ row. 1) in absurd (nothing_weighs p.rows one none)

  -- a build that answers other than the clean build does
  other_stop : EndsBuilt means language (first_view small) order
      (record { place = 0; outcome = outcomes.Stopped stops.NotMap }) then (Some []) (Some []) → ⊥
  other_stop h = cc h.outcome
