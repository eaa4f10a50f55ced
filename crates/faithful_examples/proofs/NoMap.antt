-- A script that builds a map which is not stored, with the language that is published: the transcript of its run, and
-- two other texts. Each text is faithful, or it falls: the clause and the place stand above it.
use Rattle.std.specs.Fmt.{digits}
use Rattle.std.specs.Prelude.{◌≡◌, ◌==◌, ◌+◌, ◌<◌, ℕ, zero, suc, Bool, true, false, List, [], ◌∷◌, None, Some, Ok, count_by, if◌then◌else◌, length}
use Rattle.std.specs.Str.{is_utf8, chars}
use Rattle.std.proofs.Common.{refl, ap, subst, ◌∙◌, arith}
use Rattle.std.proofs.lemmas.List.Elements.{recursion_from_All}
use Rattle.std.proofs.lemmas.Option.{none-some}
use lib.Utf8.{encode}
use Rattle.desk_language.specs.Language.{bytes_of_parts}
use Rattle.dita_doc.specs.Request.{Build}
use Rattle.dita_doc.specs.declared.plan.PlanStop.{PlanStop}
use Rattle.dita_doc.specs.declared.plan.PlanStop.TheVariants as stops
use Rattle.script_text.specs.Script.{Step, script_of}
use Rattle.transcript_text.specs.Transcript.{EntryShown, IsTranscript, OfBuild, StoppedBy, Totals, transcript_text}
use Rattle.run_spec.specs.Cites.{ShowsBuilt}
use Rattle.run_spec.specs.Faithful.{CountsRight, IsFaithfulTo, IsInOrder, IsOfSession, Repeats, ShowsBuild, ShowsReply, parts_without}
use Rattle.run_spec.specs.HistoryTold.{BuildTold, Moment, builds_told, moments_of}
use Rattle.run_spec.specs.Language.{dita}
use Rattle.faithful_examples.proofs.OneTopic.{in_m, no_map, no_map_parts, no_map_shown}
use Rattle.faithful_examples.proofs.Shown.{lines, all_of, pairs_of, each_number}
use Rattle.faithful_examples.proofs.Verdicts.{Keeps, is_faithful, keeps, rowless, rowless_form, rowless_rows}

abbrev steps : List Step
steps = record { session = 1; request = Build in_m None } ∷ []

abbrev script : List ℕ
script = lines ("1 build m.ditamap" ∷ [])

asked : script_of script ≡ Ok steps
unfolding script_of is_utf8 chars encode
asked = refl

abbrev entries : PlanStop → List EntryShown
entries stop = record { place = 0; session = 1; number = 1; shown = OfBuild (StoppedBy stop) } ∷ []

abbrev made : ℕ → Totals
made rows = record { entries = 1; made = rows; dropped = 0 }

form : (stop : PlanStop) (rows : ℕ) → rows < 3 → IsTranscript (rowless (entries stop) (made rows))
form stop rows few = rowless_form (entries stop) (made rows)
    (record { place = omega arith; session = omega arith; number = omega arith; shown = tt }, tt)
    (omega arith) (omega (arith, few)) (omega arith)

-- the one build of the text
abbrev told : List BuildTold
told = builds_told steps (entries stops.NoMap)

none_repeats : (at later : ℕ) → Repeats dita told at later → ⊥
none_repeats at zero repeats = omega (arith, repeats.before)
none_repeats at (suc later) repeats = none-some repeats.second repeats.is_second

-- it is not left out, and has one part
one_part : (given : Bool) (chosen : ℕ → Bool) → chosen 0 ≡ given → (given ≡ true → ⊥)
    → parts_without dita chosen 0 told ≡ 1
one_part true chosen e none = absurd (none refl)
one_part false chosen e none =
    ap (λ (first : Bool). (if first then 0 else length (bytes_of_parts dita [] in_m None)) + 0) e
    ∙ ap (λ (parts : List ℕ). length parts + 0) no_map_parts

its_counts : CountsRight dita steps (rowless (entries stops.NoMap) (made 1)) told
its_counts = record {
  entries = refl;
  fewer = omega arith;
  fits = λ small. refl;
  rows = omega arith;
  most = λ chosen chooses. omega (
    arith,
    one_part (chosen 0) chosen refl (λ e.
        let repeats = (chooses 0 e).1 in none_repeats repeats.0 0 repeats.1),
  );
}

its_clauses : Keeps steps (rowless (entries stops.NoMap) (made 1))
its_clauses = record {
  places = (refl, tt);
  count = refl;
  requests = record {
    sessions = all_of (IsOfSession steps) (entries stops.NoMap) (refl, tt);
    once = each_number (λ number. count_by (λ (one : EntryShown). one.number == number) (entries stops.NoMap) ≡ 1) steps
        (refl, tt);
    order = pairs_of IsInOrder (entries stops.NoMap) (tt, tt);
  };
  replies = all_of ShowsReply (moments_of steps (entries stops.NoMap)) ((Some (StoppedBy stops.NoMap), refl), tt);
  builds = all_of (λ (moment : Moment). ShowsBuild dita [] moment moment.step.request)
      (moments_of steps (entries stops.NoMap)) (no_map_shown, tt);
  rows = rowless_rows (entries stops.NoMap) (made 1);
  again = λ none at later repeats. absurd (none_repeats at later repeats);
  counts = its_counts;
}

abbrev text : List ℕ
text = lines ("dita transcript 1" ∷ "entry 0 1 1 nomap" ∷ "end 1 1 0" ∷ [])

text_is : text ≡ transcript_text (rowless (entries stops.NoMap) (made 1))
unfolding digits
text_is = refl

text_is_faithful : IsFaithfulTo script text
text_is_faithful = is_faithful script text steps (rowless (entries stops.NoMap) (made 1)) asked
    (form stops.NoMap 1 (omega arith)) text_is its_clauses

-- two rows were made, and the build has one part: it falls with its counts
abbrev two_made : List ℕ
two_made = lines ("dita transcript 1" ∷ "entry 0 1 1 nomap" ∷ "end 1 2 0" ∷ [])

two_made_is : two_made ≡ transcript_text (rowless (entries stops.NoMap) (made 2))
unfolding digits
two_made_is = refl

two_made_falls : IsFaithfulTo script two_made → ⊥
two_made_falls given =
    let kept = keeps script two_made steps (rowless (entries stops.NoMap) (made 2)) asked
    (form stops.NoMap 2 (omega arith)) two_made_is given in
    omega (
      arith,
      kept.counts.most (λ place. false) (λ later e. absurd (cc e)),
      one_part false (λ place. false) refl (λ e. cc e),
    )

-- another stop is told: it falls with the build at place 0
abbrev other_stop : List ℕ
other_stop = lines ("dita transcript 1" ∷ "entry 0 1 1 notmap" ∷ "end 1 1 0" ∷ [])

other_stop_is : other_stop ≡ transcript_text (rowless (entries stops.NotMap) (made 1))
unfolding digits
other_stop_is = refl

other_stop_falls : IsFaithfulTo script other_stop → ⊥
other_stop_falls given =
    let kept = keeps script other_stop steps (rowless (entries stops.NotMap) (made 1)) asked
    (form stops.NotMap 1 (omega arith)) other_stop_is given in
    let each = recursion_from_All (λ (moment : Moment). ShowsBuild dita [] moment moment.step.request)
    (moments_of steps (entries stops.NotMap)) kept.builds in
    cc (subst (λ built. ShowsBuilt [] in_m None built (OfBuild (StoppedBy stops.NotMap))) no_map each.0)
