use Rattle.std.proofs.Common.{◌≡◌, ℕ, Bool, true, false, List, Result, Ok, Err, MatchResult, sym, refl, ◌∙◌}
use Rattle.std.specs.Prelude.{is_ok}
use Rattle.std.specs.Str.{is_utf8, IsUtf8}
use Rattle.std.proofs.lemmas.Str.{IsUtf8-from_is_utf8, is_utf8-from_IsUtf8}
use Rattle.dita_doc.proofs.bytes.is_utf8.Goals as goal

not_utf8 : (bytes : List ℕ) (b : Bool) → is_utf8 bytes ≡ b → ¬ (IsUtf8 bytes) → false ≡ is_utf8 bytes
not_utf8 bytes true is none = absurd (none (IsUtf8-from_is_utf8 bytes is))
not_utf8 bytes false is none = sym is

is_utf8-is_ok : {A E : Type 0} (P : A → Type 0) (Q : E → Type 0) (bytes : List ℕ) (r : Result A E)
    → MatchResult r (λ s. P s × IsUtf8 bytes) (λ e. ¬ (IsUtf8 bytes) × Q e) → is_ok r ≡ is_utf8 bytes
is_utf8-is_ok P Q bytes (Ok s) h = sym (is_utf8-from_IsUtf8 bytes h.1)
is_utf8-is_ok P Q bytes (Err e) h = not_utf8 bytes (is_utf8 bytes) refl h.0

pub returns : goal.returns
returns c = c.is_ok.ensures.value ∙ is_utf8-is_ok _ _ c.args.bytes.now c.from_utf8.result c.from_utf8.ensures.cases
