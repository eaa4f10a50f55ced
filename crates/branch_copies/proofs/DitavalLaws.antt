-- The DITAVALs that were read, one put behind the other, and the table of their places.
use Rattle.std.specs.Prelude.{◌≡◌, ◌≤◌, ℕ, List, [], ◌++◌, Option, Some, None, length}
use Rattle.std.specs.BTreeMap.{insert_entry, is_at}
use Rattle.std.specs.Cmp.Lexicographic.{slice_cmp}
use Rattle.std.specs.Map.{lookup}
use Rattle.std.specs.Ordering.{nat_cmp}
use Rattle.std.proofs.Common.{refl, sym, subst, ◌∙◌, arith, append-nil, length-append}
use Rattle.std.proofs.lemmas.Option.{slice_get_past}
use Rattle.dita_doc.specs.declared.fault.Fault.{Fault}
use Rattle.ditaval_rules.specs.declared.rules.RulesRead.{RulesRead}
use Rattle.plan_nodes.proofs.HomeLaws.{within_more}
use Rattle.plan_nodes.proofs.ListLaws.{get_more}
use Rattle.plan_nodes.proofs.MemoLaws.{IsEach, each_found, each_kept, each_put}
use Rattle.reader_spec.specs.World.{World}
use Rattle.plan_nodes.specs.HomeDocs.{IsWithin, Known}
use Rattle.branch_copies.specs.Ditavals.{AreKnown, IsDitavalOf, IsKnown, Longer, ditaval_at, faults_at}

pub ditaval_more : (read more : List RulesRead) (place : Option ℕ) → IsWithin (length read) place
    → ditaval_at (read ++ more) place ≡ ditaval_at read place
ditaval_more read more None within = refl
ditaval_more read more (Some at) within = get_more read more at within

pub within_longer : (read more : List RulesRead) (place : Option ℕ) → IsWithin (length read) place
    → IsWithin (length (read ++ more)) place
within_longer read more place within =
    within_more (length read) (length (read ++ more)) place (omega (arith, length-append read more)) within

-- what was known before is still known
known_more : (world : World) (read more : List RulesRead) (name : List ℕ) (place : Option ℕ)
    → IsKnown world read name place → IsKnown world (read ++ more) name place
known_more world read more name place known = record {
  within = within_longer read more place known.within;
  is = ditaval_more read more place known.within ∙ known.is;
}

known_each : (world : World) (read : List RulesRead) → IsEach (IsKnown world read) (AreKnown world read)
known_each world read = record {
  none = tt;
  first = λ entry more known. known.0;
  behind = λ entry more known. known.1;
  both = λ entry more here known. (here, known);
}

pub known_longer : (world : World) (old new : List RulesRead) (entries : List Known) → Longer old new
    → AreKnown world old entries → AreKnown world new entries
known_longer world old new entries longer known =
    subst (λ read. AreKnown world read entries) (sym longer.1)
    (each_kept (IsKnown world old) (IsKnown world (old ++ longer.0)) (AreKnown world old)
    (AreKnown world (old ++ longer.0)) (known_each world old) (known_each world (old ++ longer.0))
    (known_more world old longer.0) entries known)

pub place_found : (world : World) (read : List RulesRead) (name : List ℕ) (entries : List Known) (place : Option ℕ)
    → Some place ≡ lookup (is_at (slice_cmp nat_cmp name)) entries → AreKnown world read entries
    → IsDitavalOf world read read entries name place
place_found world read name entries place is known = record {
  longer = ([], sym (append-nil read));
  known = known;
  here = each_found (IsKnown world read) (AreKnown world read) (known_each world read) name entries place is known;
}

-- a DITAVAL was put behind the others, and its place into the table
pub place_put : (world : World) (old new : List RulesRead) (name key : List ℕ) (place : Option ℕ)
    (entries later : List Known) → Longer old new → key ≡ name
    → later ≡ insert_entry (slice_cmp nat_cmp) entries key place → AreKnown world old entries
    → IsKnown world new name place → IsDitavalOf world old new later name place
place_put world old new name key place entries later longer same is known here = record {
  longer = longer;
  known = each_put (IsKnown world new) (AreKnown world new) (known_each world new) name key place entries later same is
      (known_longer world old new entries longer known) here;
  here = here;
}

-- no DITAVAL has no faults
pub no_faults : (faults : List Fault) (read : List RulesRead) (at : ℕ) → length read ≤ at
    → faults ≡ faults ++ faults_at read at
no_faults faults read at past = rw (slice_get_past read at past) (sym (append-nil faults))
