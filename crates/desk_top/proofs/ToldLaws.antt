-- The texts of entries put together, and what is known of the entries of a history that was served.
use Rattle.std.proofs.Common.{◌≡◌, ◌<◌, ◌⊎◌, ◌+◌, ◌++◌, ℕ, zero, suc, List, [], ◌∷◌, Option, Some, None, All, ap, ◌∙◌, append-nil, append_assoc, flat_map, get_or, inl, inr, length, refl, subst, sym, ⊎_elim, arith}
use Rattle.std.specs.List.{slice_get}
use Rattle.std.proofs.lemmas.List.{length_push}
use Rattle.std.proofs.lemmas.List.Elements.{All-cons, All-nil, All-weaker}
use Rattle.std.proofs.lemmas.Option.{none-some, same_Some}
use Rattle.dita_doc.specs.Bytes.{Bytes}
use Rattle.dita_doc.specs.History.{Entry}
use Rattle.transcript_text.specs.Transcript.{EntryShown, entry_shown, entry_text}
use Rattle.transcript_text.specs.Written.{IsTextOfEntry, built_shown}
use Rattle.transcript_text.specs.declared.built.BuiltText.{BuiltText}
use Rattle.desk_top.specs.Runs.{IsUtf8Entry}
use Rattle.desk_top.specs.Served.{IsOfBuild, IsServed, places_of}
use Rattle.desk_top.specs.Told.{IsToldOf, TellsEntries, TellsEntry}
use Rattle.desk_top.specs.declared.callers.BuiltAt.{BuiltAt}
use Rattle.desk_top.proofs.ShownLaws.{build_within}

-- One entry

told_by : (log : List Entry) (place : ℕ) (entry : Entry) (of shown : Option BuiltText) (found : Option EntryShown)
    (text old new : Bytes) → slice_get log place ≡ Some entry → entry_shown place entry (built_shown of) ≡ found
    → of ≡ shown → IsTextOfEntry found text → new ≡ old ++ text → TellsEntry log place shown old new
told_by log place entry of shown None text old new stands found same is more = absurd is
told_by log place entry of shown (Some told) text old new stands found same is more = record {
  told = told;
  is = record {
    is = record { entry = entry; stands = stands; built = built_shown of; shown = found; form = is.0 };
    shows = ap built_shown same;
  };
  text = more ∙ ap (λ back. old ++ back) is.1;
}

pub entry_told : (log : List Entry) (place : ℕ) (entry : Entry) (of shown : Option BuiltText) (text old new : Bytes)
    → slice_get log place ≡ Some entry → of ≡ shown → IsTextOfEntry (entry_shown place entry (built_shown of)) text
    → new ≡ old ++ text → TellsEntry log place shown old new
entry_told log place entry of shown text old new stands same is more =
    told_by log place entry of shown (entry_shown place entry (built_shown of)) text old new stands refl same is more

-- One entry after another

get_last : (told : List EntryShown) (last one : EntryShown) (place : ℕ) → slice_get (told ++ last ∷ []) place ≡ Some one
    → (slice_get told place ≡ Some one) ⊎ ((place ≡ length told) × (one ≡ last))
get_last [] last one zero e = inr (refl, sym (same_Some last one e))
get_last [] last one (suc place) e = absurd (none-some one e)
get_last (first ∷ told) last one zero e = inl e
get_last (first ∷ told) last one (suc place) e = ⊎_elim (λ is. inl is) (λ is. inr (ap suc is.0, is.1))
    (get_last told last one place e)

flat_last : (told : List EntryShown) (last : EntryShown)
    → flat_map entry_text (told ++ last ∷ []) ≡ flat_map entry_text told ++ entry_text last
flat_last [] last = append-nil (entry_text last)
flat_last (first ∷ told) last =
    ap (λ rest. entry_text first ++ rest) (flat_last told last)
    ∙ sym (append_assoc (entry_text first) (flat_map entry_text told) (entry_text last))

pub no_entries : (log : List Entry) (shown : List (Option BuiltText)) (text : Bytes)
    → TellsEntries log shown 0 text text
no_entries log shown text = record {
  told = [];
  are = λ place entry e. absurd (none-some entry e);
  count = refl;
  text = sym (append-nil text);
}

pub one_entry : (log : List Entry) (shown : List (Option BuiltText)) (place : ℕ) (old text new : Bytes)
    → TellsEntries log shown place old text → TellsEntry log place (get_or shown place None) text new
    → TellsEntries log shown (place + 1) old new
one_entry log shown place old text new before tells = record {
  told = before.told ++ tells.told ∷ [];
  are = λ other entry e. ⊎_elim (λ is. before.are other entry is)
      (λ is. subst (λ one. IsToldOf log other (get_or shown other None) one) (sym is.1)
      (subst (λ n. IsToldOf log n (get_or shown n None) tells.told) (sym (is.0 ∙ before.count)) tells.is))
      (get_last before.told tells.told entry other e);
  count = omega (arith, length_push before.told tells.told, before.count);
  text = tells.text ∙ ap (λ front. front ++ entry_text tells.told) before.text
      ∙ append_assoc old (flat_map entry_text before.told) (entry_text tells.told)
      ∙ ap (λ back. old ++ back) (sym (flat_last before.told tells.told));
}

-- A history that was served

all_from : {X : Type 0} (P : X → Type 0) (xs : List X)
    → ((k : ℕ) → k < length xs → (x : X) × (slice_get xs k ≡ Some x) × P x) → All P xs
all_from P [] each = All-nil P
all_from P (x ∷ xs) each =
    let first = each 0 (omega arith) in
    All-cons P x xs (subst P (sym (same_Some x first.0 first.1)) first.2)
    (all_from P xs (λ k within. each (suc k) (omega arith)))

pub all_utf8 : (log : List Entry) (built : List BuiltAt) → IsServed log built → All IsUtf8Entry log
all_utf8 log built served = all_from IsUtf8Entry log (λ place within.
    let answered = served.answered place within in (answered.entry, answered.stands, answered.utf8))

pub all_within : (log : List Entry) (built : List BuiltAt) (entries : ℕ) → entries ≡ length log → IsServed log built
    → All (λ place. place < entries) (places_of built)
all_within log built entries count served = All-weaker (IsOfBuild log) (λ place. place < entries)
    (λ place is. let within = build_within log place is in omega (arith, within, count)) (places_of built) served.builds
