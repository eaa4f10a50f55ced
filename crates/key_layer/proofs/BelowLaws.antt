-- What the questions of a reader that passes them on say of the reader below it: for which documents that is asked.
use Rattle.std.proofs.Common.{◌≡◌, ◌||◌, ◌⊎◌, ℕ, List, [], ◌∷◌, ◌++◌, IsTrue, inl, inr, sym, ap, subst, refl, ◌∙◌}
use Rattle.std.proofs.Math.Logic.{⊎_elim, ∥∥₁_elim}
use Rattle.std.proofs.lemmas.Bool.{false≢true, or_cases, or_left, or_right}
use Rattle.readers.specs.Documents.{AskedBy, AsksOnly, Covers, Follows, may_ask}
use Rattle.readers.specs.Founded.{Grows, is_among}
use Rattle.readers.specs.Props.{AskedBy-prop}
use Rattle.readers.specs.Told.{Told, document, kind, title, first, key, pushes, page_of, pending, pending_document}
use Rattle.readers.proofs.DocumentLaws.{asks_by, asks_when, may_ask_before, root_may}
use Rattle.readers.proofs.FoundedLaws.{among_append, none_among}
use Rattle.key_layer.specs.Passing.{FollowsNoKey, PassesOn}

-- the rule, but nothing from keys and from questions without answers
abbrev without_keys : Follows → Follows
without_keys rule (document name tree) = rule (document name tree)
without_keys rule (kind name answer) = rule (kind name answer)
without_keys rule (title name topic text) = rule (title name topic text)
without_keys rule (first name id) = rule (first name id)
without_keys rule (key nodes scope text answer) = []
without_keys rule (pushes documents name answer) = rule (pushes documents name answer)
without_keys rule (page_of pages name context answer) = rule (page_of pages name context answer)
without_keys rule (pending names) = []
without_keys rule (pending_document name) = []

no_key : (rule : Follows) → FollowsNoKey (without_keys rule)
no_key rule = record { keys = λ nodes scope text answer. refl; tried = λ names. refl; sought = λ name. refl }

without_less : (rule : Follows) (t : Told) (m : List ℕ) → IsTrue (is_among (without_keys rule t) m)
    → IsTrue (is_among (rule t) m)
without_less rule (document name tree) m among = among
without_less rule (kind name answer) m among = among
without_less rule (title name topic text) m among = among
without_less rule (first name id) m among = among
without_less rule (key nodes scope text answer) m among = absurd (false≢true among)
without_less rule (pushes documents name answer) m among = among
without_less rule (page_of pages name context answer) m among = among
without_less rule (pending names) m among = absurd (false≢true among)
without_less rule (pending_document name) m among = absurd (false≢true among)

covers_without : (rule follows : Follows) → FollowsNoKey follows → Covers rule follows
    → Covers (without_keys rule) follows
covers_without rule follows plain covers = record { each = each }
  where
    each : (t : Told) (m : List ℕ) → IsTrue (is_among (follows t) m) → IsTrue (is_among (without_keys rule t) m)
    each (document name tree) m among = covers.each _ m among
    each (kind name answer) m among = covers.each _ m among
    each (title name topic text) m among = covers.each _ m among
    each (first name id) m among = covers.each _ m among
    each (key nodes scope text answer) m among = absurd (none_among _ m (plain.keys nodes scope text answer) among)
    each (pushes documents name answer) m among = covers.each _ m among
    each (page_of pages name context answer) m among = covers.each _ m among
    each (pending names) m among = absurd (none_among _ m (plain.tried names) among)
    each (pending_document name) m among = absurd (none_among _ m (plain.sought name) among)

module _ (rule : Follows) (roots : List (List ℕ)) where
  -- all that may be asked for
  abbrev reach : List Told → List (List ℕ)
  reach [] = roots
  reach (t ∷ ts) = rule t ++ reach ts

  reach_may : (ts : List Told) (m : List ℕ) → is_among (reach ts) m ≡ may_ask rule roots ts m
  reach_may [] m = refl
  reach_may (t ∷ ts) m =
      among_append (rule t) (reach ts) m ∙ ap (λ b. is_among (rule t) m || b) (reach_may ts m)

  -- from wider roots a rule may give less
  asked_wider : (wide : List (List ℕ)) (ts : List Told)
      → ((m : List ℕ) → IsTrue (may_ask rule roots ts m) → IsTrue (is_among wide m)) → AskedBy rule roots ts
      → AskedBy (without_keys rule) wide ts
  asked_wider wide [] inside asked = tt
  asked_wider wide (t ∷ ts) inside asked =
      let behind : (m : List ℕ) → IsTrue (may_ask rule roots ts m) → IsTrue (is_among wide m)
      = λ m may. inside m (or_right (is_among (rule t) m) _ may)
      in (
        record { each = λ m among. root_may (without_keys rule) wide ts m (behind m (asked.0.each m among)) },
        asked_wider wide ts behind asked.1,
      )

  may_narrower : (wide : List (List ℕ)) (ts : List Told) (m : List ℕ)
      → IsTrue (may_ask (without_keys rule) wide ts m) → IsTrue (may_ask rule roots ts m) ⊎ IsTrue (is_among wide m)
  may_narrower wide [] m may = inr may
  may_narrower wide (t ∷ ts) m may = ⊎_elim (λ here. inl (or_left (is_among (rule t) m) _ (without_less rule t m here)))
      (λ behind. ⊎_elim (λ b. inl (or_right (is_among (rule t) m) _ b)) inr (may_narrower wide ts m behind))
      (or_cases (is_among (without_keys rule t) m) (may_ask (without_keys rule) wide ts m) may)

  asked_narrower : (start more : List Told) → AskedBy (without_keys rule) (reach start) (more ++ start)
      → AskedBy rule roots start → AskedBy rule roots (more ++ start)
  asked_narrower start [] asked before = before
  asked_narrower start (t ∷ more) asked before = (
    record {
      each = λ m among. ⊎_elim (λ may. may)
          (λ root. may_ask_before rule roots start (more ++ start) m (record { is = ∣ (more, refl) ∣₁ })
          (subst IsTrue (reach_may start m) root))
          (may_narrower (reach start) (more ++ start) m (asked.0.each m among));
    },
    asked_narrower start more asked.1 before,
  )

-- the reader below is asked only for the documents for which the one above was asked
pub asks_below : (follows : Follows) (names : List (List ℕ)) (start below above : List Told) → FollowsNoKey follows
    → Grows start below → PassesOn below above → AsksOnly follows names start above
    → AsksOnly follows names start below
asks_below follows names start below above plain grows passed asks = asks_when follows names start below grows
    (λ rule roots covers may asked.
    let wide = reach rule roots start in
    let inside : (m : List ℕ) → IsTrue (may_ask rule roots start m) → IsTrue (is_among wide m)
    = λ m a. subst IsTrue (sym (reach_may rule roots start m)) a
    in
    let down : AskedBy (without_keys rule) wide below
    = passed.asked (without_keys rule) wide (no_key rule)
    (asks_by follows names start above asks (without_keys rule) wide (covers_without rule follows plain covers)
    (record { each = λ m among. root_may (without_keys rule) wide start m (inside m (may.each m among)) })
    (asked_wider rule roots wide start inside asked))
    in
    ∥∥₁_elim grows.is (AskedBy-prop rule roots below) (λ p. subst (AskedBy rule roots) (sym p.1)
    (asked_narrower rule roots start p.0 (subst (AskedBy (without_keys rule) wide) p.1 down) asked)))
