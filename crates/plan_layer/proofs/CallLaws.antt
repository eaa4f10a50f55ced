-- What a call leaves behind at each way out of it, while the layer stays made for the same plan: a question that was perhaps
-- put, one that was put, or its answer in its place.
use Rattle.std.specs.Prelude.{◌≡◌, ℕ, List, ◌∷◌, ◌⊎◌, drop}
use Rattle.std.specs.Borrow.{GName}
use Rattle.std.proofs.Common.{refl, sym, ap, subst, ◌∙◌}
use Rattle.dita_doc.specs.declared.plan.PagePlan.{PagePlan}
use Rattle.plan_layer.specs.Carried.{made_for}
use Rattle.readers.specs.Documents.{AsksOnly, documents_asked, nothing}
use Rattle.readers.specs.Founded.{Grows, StaysFounded, names_asked}
use Rattle.readers.specs.Noted.{told_of, told_onto}
use Rattle.readers.specs.Setting.{Setting, Stand}
use Rattle.readers.specs.Told.{Told}
use Rattle.readers.specs.declared.questions.Note.{Note}
use Rattle.readers.proofs.DocumentLaws as document
use Rattle.readers.proofs.FetchLaws as fetch
use Rattle.readers.proofs.LayerLaws as layer

-- the layer stands as before
pub call_stand : (setting : Setting) (documents documents' : List (List ℕ)) (pages pages' : List PagePlan)
    → documents' ≡ documents → pages' ≡ pages → (below below' : Stand) (one one' two two' three three' : GName)
    → below' ≡ below → one' ≡ one → two' ≡ two → three' ≡ three
    → record below' {
      setting = made_for documents' pages' setting;
      lent = one' ∷ two' ∷ three' ∷ below'.lent;
    } ≡ record below { setting = made_for documents pages setting; lent = one ∷ two ∷ three ∷ below.lent }
call_stand setting documents documents' pages pages' ds ps below below' one one' two two' three three' same a b c =
    rw (ds, ps, same, a, b, c) refl

module _ (setting : Setting) (start : List Told) (documents documents' : List (List ℕ)) (pages pages' : List PagePlan)
    (ds : documents' ≡ documents) (ps : pages' ≡ pages) (put : Note) (old new : List Note)
  where
    abbrev before : List Told
    before = told_onto (made_for documents pages setting) start old

    abbrev after : List Told
    after = told_onto (made_for documents' pages' setting) start new

    moved : (P : List Told → Type 0) → P (told_onto (made_for documents pages setting) start new) → P after
    moved P holds = subst (λ ds. P (told_onto (made_for ds pages' setting) start new)) (sym ds)
        (subst (λ ps. P (told_onto (made_for documents ps setting) start new)) (sym ps) holds)

    pub tried_founded : (names : List (List ℕ)) → names_asked (told_of (made_for documents pages setting) put) ≡ names
        → (new ≡ old) ⊎ (new ≡ put ∷ old) → StaysFounded names before after
    tried_founded names asked either = moved (StaysFounded names before)
        (layer.stays_tried (made_for documents pages setting) start put names old new asked either)

    pub tried_asks : (names : List (List ℕ)) → documents_asked (told_of (made_for documents pages setting) put) ≡ names
        → (new ≡ old) ⊎ (new ≡ put ∷ old) → AsksOnly nothing names before after
    tried_asks names asked either = moved (AsksOnly nothing names before)
        (fetch.asks_tried (made_for documents pages setting) start nothing put names old new asked either)

    pub tried_grows : (new ≡ old) ⊎ (new ≡ put ∷ old) → Grows before after
    tried_grows either = moved (Grows before) (layer.grows_tried (made_for documents pages setting) start put old new either)

    pub put_founded : (names : List (List ℕ)) → names_asked (told_of (made_for documents pages setting) put) ≡ names
        → new ≡ put ∷ old → StaysFounded names before after
    put_founded names asked is = moved (StaysFounded names before)
        (layer.stays_put (made_for documents pages setting) start put names old new asked is)

    pub put_asks : (names : List (List ℕ)) → documents_asked (told_of (made_for documents pages setting) put) ≡ names
        → new ≡ put ∷ old → AsksOnly nothing names before after
    put_asks names asked is = moved (AsksOnly nothing names before)
        (document.asks_put (made_for documents pages setting) start nothing put names old new asked is)

    pub put_grows : new ≡ put ∷ old → Grows before after
    put_grows is = moved (Grows before) (layer.grows_put (made_for documents pages setting) start put old new is)

    -- the answer `t` is written over the question
    module _ (t : Told) (note : Note) (between : List Note) (tells : told_of (made_for documents pages setting) note ≡ t)
        (was : between ≡ put ∷ old) (is : new ≡ note ∷ drop 1 between)
      where
        pub settled_told : after ≡ t ∷ before
        settled_told = moved (λ ts. ts ≡ t ∷ before) (ap (told_onto (made_for documents pages setting) start)
            (is ∙ ap (λ notes. note ∷ drop 1 notes) was) ∙ ap (λ t. t ∷ before) tells)

        pub settled_founded : (names : List (List ℕ)) → names_asked t ≡ names → StaysFounded names before after
        settled_founded names asked = moved (StaysFounded names before) (layer.stays_settled
            (made_for documents pages setting) start put note names old between new (ap names_asked tells ∙ asked) was is)

        pub settled_asks : (names : List (List ℕ)) → documents_asked t ≡ names → AsksOnly nothing names before after
        settled_asks names asked = moved (AsksOnly nothing names before) (fetch.asks_settled
            (made_for documents pages setting) start nothing put note names old between new
            (ap documents_asked tells ∙ asked) was is)

        pub settled_grows : Grows before after
        settled_grows = moved (Grows before)
            (layer.grows_settled (made_for documents pages setting) start put note old between new was is)
