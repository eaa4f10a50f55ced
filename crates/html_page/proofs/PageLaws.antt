-- The lines of a page, and its limit.
use Rattle.std.specs.Prelude.{◌≡◌, ◌≤◌, ◌<◌, ℕ, Bool, true, false, List, [], ◌∷◌, ◌++◌, Result, Ok, Err, IfOk, length, nat_le, if◌then◌else◌}
use Rattle.std.proofs.Common.{refl, ap, ◌∙◌, append_assoc, arith}
use Rattle.std.proofs.lemmas.Bool.Decides.{nat_tests}
use Rattle.dita_doc.specs.Bytes.{line_feed}
use Rattle.dita_doc.specs.Lines.{line}
use Rattle.dita_doc.specs.declared.content.PageLink.{PageLink}
use Rattle.dita_doc.specs.declared.fact.Html.{Html}
use Rattle.dita_doc.specs.declared.fault.Fault.{Fault}
use Rattle.dita_doc.specs.declared.stop.NoMemory.{NoMemory}
use Rattle.html_spec.specs.PageHtml.{page_text, page_within, too_large}

-- a page that is written in three pieces
pub text_written : (page first before body behind related end : List ℕ) → page ≡ first ++ body ++ behind
    → first ≡ before → behind ≡ line_feed ∷ related ++ end → page ≡ before ++ line body ++ related ++ end
text_written page first before body behind related end e f n = rw (e, f, n) (simp append_assoc)

taken : {A : Type 0} (test : Bool) (x y : A) → test ≡ true → x ≡ (if test then x else y)
taken true x y is = refl
taken false x y is = cc

left : {A : Type 0} (test : Bool) (x y : A) → test ≡ false → y ≡ (if test then x else y)
left false x y is = refl
left true x y is = cc

at_most : (a b limit : ℕ) → a ≡ b → a ≤ limit → nat_le b limit ≡ true
at_most a b limit same most = grind (arith, nat_tests)

over : (a b limit : ℕ) → a ≡ b → limit < a → nat_le b limit ≡ false
over a b limit same more = grind (arith, nat_tests)

module _ (limit : ℕ) (name : List ℕ) (at : ℕ) (title : List ℕ) (body : Html) (related : List PageLink) (text : List ℕ)
    (size : ℕ) (is : text ≡ page_text title body.bytes related) (long : size ≡ length text)
  where
    -- a page within the limit
    pub page_whole : (faults : List Fault) → faults ≡ body.faults → size ≤ limit
        → record { bytes = text; faults = faults } ≡ page_within limit name at title body related
    page_whole faults same within = (λ i. record { bytes = is i; faults = same i })
        ∙ taken (nat_le (length (page_text title body.bytes related)) limit) _ _
        (at_most size _ limit (long ∙ ap length is) within)

    -- a page that is too long
    pub page_instead : (result : Result Html NoMemory) → limit < size
        → IfOk result (λ html. html.bytes ≡ page_text title [] []
        × html.faults ≡ body.faults ++ too_large name at ∷ [])
        → IfOk result (λ html. html ≡ page_within limit name at title body related)
    page_instead (Ok html) more made = (λ i. record { bytes = made.0 i; faults = made.1 i })
        ∙ left (nat_le (length (page_text title body.bytes related)) limit) _ _
        (over size _ limit (long ∙ ap length is) more)
    page_instead (Err stop) more made = tt
