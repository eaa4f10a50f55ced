-- What the questions of a reader that tells pushes say of the reader below it: that stays founded, and for which documents
-- it is asked.
use Rattle.std.proofs.Common.{◌≡◌, ◌||◌, ◌⊎◌, ℕ, List, [], ◌∷◌, ◌++◌, IsTrue, inl, inr, sym, ap, subst, refl, ◌∙◌}
use Rattle.std.proofs.Math.Logic.{⊎_elim, ∥∥₁_elim}
use Rattle.std.proofs.lemmas.Bool.{false≢true, or_cases, or_left, or_right}
use Rattle.conref_push.proofs.AmongLaws.{among_append}
use Rattle.plan_layer.specs.Passing.{FollowsPlan, PassesOn}
use Rattle.readers.specs.Documents.{AskedBy, AsksOnly, Covers, Follows, may_ask}
use Rattle.readers.specs.Founded.{Grows, is_among}
use Rattle.readers.specs.Props.{AskedBy-prop}
use Rattle.readers.specs.Told.{Told, document, kind, title, first, key, pushes, page_of, pending, pending_document}
use Rattle.readers.proofs.AmongLaws.{among_back, among_front}
use Rattle.readers.proofs.DocumentLaws.{asks_by, asks_when, may_ask_before, reach, root_may}
use Rattle.readers.proofs.FoundedLaws.{none_among}

-- a rule, but from pushes only what follows by another, and nothing from pages and from questions without answers
abbrev as_told : Follows → Follows → Follows
as_told rule follows (document name tree) = rule (document name tree)
as_told rule follows (kind name answer) = rule (kind name answer)
as_told rule follows (title name topic text) = rule (title name topic text)
as_told rule follows (first name id) = rule (first name id)
as_told rule follows (key nodes scope text answer) = rule (key nodes scope text answer)
as_told rule follows (pushes documents name answer) = follows (pushes documents name answer)
as_told rule follows (page_of pages name context answer) = []
as_told rule follows (pending names) = []
as_told rule follows (pending_document name) = []

told_plan : (rule follows : Follows) → FollowsPlan follows → FollowsPlan (as_told rule follows)
told_plan rule follows plan = record {
  pushes = plan.pushes;
  pages = λ pages name context answer. refl;
  tried = λ names. refl;
  sought = λ name. refl;
}

told_less : (rule follows : Follows) (t : Told) (m : List ℕ) → Covers rule follows
    → IsTrue (is_among (as_told rule follows t) m) → IsTrue (is_among (rule t) m)
told_less rule follows (document name tree) m covers among = among
told_less rule follows (kind name answer) m covers among = among
told_less rule follows (title name topic text) m covers among = among
told_less rule follows (first name id) m covers among = among
told_less rule follows (key nodes scope text answer) m covers among = among
told_less rule follows (pushes documents name answer) m covers among = covers.each _ m among
told_less rule follows (page_of pages name context answer) m covers among = absurd (false≢true among)
told_less rule follows (pending names) m covers among = absurd (false≢true among)
told_less rule follows (pending_document name) m covers among = absurd (false≢true among)

told_covers : (rule follows : Follows) → FollowsPlan follows → Covers rule follows
    → Covers (as_told rule follows) follows
told_covers rule follows plan covers = record { each = each }
  where
    each : (t : Told) (m : List ℕ) → IsTrue (is_among (follows t) m) → IsTrue (is_among (as_told rule follows t) m)
    each (document name tree) m among = covers.each _ m among
    each (kind name answer) m among = covers.each _ m among
    each (title name topic text) m among = covers.each _ m among
    each (first name id) m among = covers.each _ m among
    each (key nodes scope text answer) m among = covers.each _ m among
    each (pushes documents name answer) m among = among
    each (page_of pages name context answer) m among = absurd (none_among _ m (plan.pages _ _ _ _) among)
    each (pending names) m among = absurd (none_among _ m (plan.tried names) among)
    each (pending_document name) m among = absurd (none_among _ m (plan.sought name) among)

reach_may : (rule : Follows) (roots : List (List ℕ)) (ts : List Told) (m : List ℕ)
    → is_among (reach rule roots ts) m ≡ may_ask rule roots ts m
reach_may rule roots [] m = refl
reach_may rule roots (t ∷ ts) m = among_append (rule t) (reach rule roots ts) m
    ∙ ap (λ b. is_among (rule t) m || b) (reach_may rule roots ts m)

module _ (rule less : Follows) (roots : List (List ℕ)) where
  -- from wider roots a rule may give less
  asked_wider : (wide : List (List ℕ)) (ts : List Told)
      → ((m : List ℕ) → IsTrue (may_ask rule roots ts m) → IsTrue (is_among wide m)) → AskedBy rule roots ts
      → AskedBy less wide ts
  asked_wider wide [] inside asked = tt
  asked_wider wide (t ∷ ts) inside asked =
      let behind : (m : List ℕ) → IsTrue (may_ask rule roots ts m) → IsTrue (is_among wide m)
      = λ m may. inside m (or_right (is_among (rule t) m) _ may)
      in (
        record { each = λ m among. root_may less wide ts m (behind m (asked.0.each m among)) },
        asked_wider wide ts behind asked.1,
      )

  may_narrower : (wide : List (List ℕ)) (ts : List Told) (m : List ℕ)
      → ((t : Told) (m : List ℕ) → IsTrue (is_among (less t) m) → IsTrue (is_among (rule t) m))
      → IsTrue (may_ask less wide ts m) → IsTrue (may_ask rule roots ts m) ⊎ IsTrue (is_among wide m)
  may_narrower wide [] m covers may = inr may
  may_narrower wide (t ∷ ts) m covers may =
      ⊎_elim (λ here. inl (or_left (is_among (rule t) m) _ (covers t m here)))
      (λ behind. ⊎_elim (λ b. inl (or_right (is_among (rule t) m) _ b)) inr (may_narrower wide ts m covers behind))
      (or_cases (is_among (less t) m) (may_ask less wide ts m) may)

  asked_narrower : (start more : List Told)
      → ((t : Told) (m : List ℕ) → IsTrue (is_among (less t) m) → IsTrue (is_among (rule t) m))
      → AskedBy less (reach rule roots start) (more ++ start) → AskedBy rule roots start
      → AskedBy rule roots (more ++ start)
  asked_narrower start [] covers asked before = before
  asked_narrower start (t ∷ more) covers asked before = (
    record {
      each = λ m among. ⊎_elim (λ may. may)
          (λ root. may_ask_before rule roots start (more ++ start) m (record { is = ∣ (more, refl) ∣₁ })
          (subst IsTrue (reach_may rule roots start m) root))
          (may_narrower (reach rule roots start) (more ++ start) m covers (asked.0.each m among));
    },
    asked_narrower start more covers asked.1 before,
  )

-- the reader below is asked only for the documents for which the one above was asked, and for those of the plan
pub asks_below : (follows : Follows) (names documents : List (List ℕ)) (start below above : List Told)
    → FollowsPlan follows → Grows start below → PassesOn documents below above → AsksOnly follows names start above
    → AsksOnly follows (names ++ documents) start below
asks_below follows names documents start below above plan grows passed asks =
    asks_when follows (names ++ documents) start below grows (λ rule roots covers may asked.
    let less = as_told rule follows in
    let wide = reach rule roots start in
    let inside : (m : List ℕ) → IsTrue (may_ask rule roots start m) → IsTrue (is_among wide m)
    = λ m a. subst IsTrue (sym (reach_may rule roots start m)) a
    in
    let down : AskedBy less wide below
    = passed.asked less wide (told_plan rule follows plan)
    (record { each = λ m among. inside m (may.each m (among_back names documents m among)) })
    (asks_by follows names start above asks less wide (told_covers rule follows plan covers)
    (record { each = λ m among. root_may less wide start m (inside m (may.each m (among_front names documents m among))) })
    (asked_wider rule less roots wide start inside asked))
    in
    ∥∥₁_elim grows.is (AskedBy-prop rule roots below) (λ p. subst (AskedBy rule roots) (sym p.1)
    (asked_narrower rule less roots start p.0 (λ t m. told_less rule follows t m covers)
    (subst (AskedBy less wide) p.1 down) asked)))
