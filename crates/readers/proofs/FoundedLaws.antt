-- Which names are allowed, and what stays founded.
use Rattle.std.specs.List.{cons_option}
use Rattle.std.specs.Option.{option_to_list}
use Rattle.std.specs.Prelude.{None, Option, Some}
use Rattle.std.proofs.Common.{◌≡◌, ◌⊎◌, ℕ, List, [], ◌∷◌, IsTrue, false, sym, subst, refl, bytes_eq, arith, get_or, length, suc, zero, ◌<◌, ap, ◌++◌, ◌||◌, ◌∙◌, inl, inr}
use Rattle.std.proofs.Math.Bool.{or_assoc}
use Rattle.std.proofs.Math.Logic.{∥∥₁_elim, ⊎_elim}
use Rattle.std.proofs.lemmas.Bool.{false≢true, or_cases, or_left, or_right}
use Rattle.std.proofs.lemmas.Slice.Eq.{bytes_eq-Decides}
use Rattle.dita_doc.specs.declared.plan.PlanNode.{PlanNode}
use Rattle.readers.specs.Founded.{AreAbout, AreAllowed, AreKnown, Grows, IsFounded, StaysFounded, homes, is_allowed, is_among, is_known, names_asked, names_given}
use Rattle.readers.specs.Props.{IsFounded-prop}
use Rattle.readers.specs.Told.{Told}
use Rattle.readers.proofs.GrowthLaws.{allowed_behind, are_allowed_before, grows_trans}

pub among_first : (name : List ℕ) (names : List (List ℕ)) → IsTrue (is_among (name ∷ names) name)
among_first name names = or_left (bytes_eq name name) _ ((bytes_eq-Decides name name).1 refl)

pub among_behind : (name : List ℕ) (names : List (List ℕ)) (m : List ℕ) → IsTrue (is_among names m)
    → IsTrue (is_among (name ∷ names) m)
among_behind name names m among = or_right (bytes_eq name m) _ among

pub among_one : (name m : List ℕ) → IsTrue (is_among (name ∷ []) m) → name ≡ m
among_one name m among = ⊎_elim (bytes_eq-Decides name m).0 (λ no. absurd (false≢true no))
    (or_cases (bytes_eq name m) false among)

pub root_allowed : (roots : List (List ℕ)) (ts : List Told) (m : List ℕ) → IsTrue (is_among roots m)
    → IsTrue (is_allowed roots ts m)
root_allowed roots [] m among = among
root_allowed roots (t ∷ ts) m among = or_right (is_among (names_given t) m) _ (root_allowed roots ts m among)

-- one name that is allowed, as calls about one document want it
pub one_allowed : (roots : List (List ℕ)) (ts : List Told) (name : List ℕ) → IsTrue (is_allowed roots ts name)
    → AreAllowed roots ts (name ∷ [])
one_allowed roots ts name allowed = record {
  each = λ m among. subst (λ n. IsTrue (is_allowed roots ts n)) (among_one name m among) allowed;
}

-- one of the names that are allowed
pub allowed_one : (roots : List (List ℕ)) (ts : List Told) (names : List (List ℕ)) (name : List ℕ)
    → IsTrue (is_among names name) → AreAllowed roots ts names → AreAllowed roots ts (name ∷ [])
allowed_one roots ts names name among allowed = one_allowed roots ts name (allowed.each name among)

pub none_allowed : (roots : List (List ℕ)) (ts : List Told) → AreAllowed roots ts []
none_allowed roots ts = record { each = λ m among. absurd (false≢true among) }

-- what the last answer gives is allowed
pub given_allowed : (roots : List (List ℕ)) (t : Told) (old new : List Told) → new ≡ t ∷ old
    → AreAllowed roots new (names_given t)
given_allowed roots t old new is = record {
  each = λ m among.
      subst (λ ts. IsTrue (is_allowed roots ts m)) (sym is) (or_left (is_among (names_given t) m) _ among);
}

pub among_append : (xs ys : List (List ℕ)) (m : List ℕ) → is_among (xs ++ ys) m ≡ is_among xs m || is_among ys m
among_append [] ys m = refl
among_append (x ∷ xs) ys m = ap (λ b. bytes_eq x m || b) (among_append xs ys m)
    ∙ sym (or_assoc (bytes_eq x m) (is_among xs m) (is_among ys m))

-- What is known when a question is put

known_root : (names : List (List ℕ)) (ts : List Told) (m : List ℕ) → IsTrue (is_among names m)
    → IsTrue (is_known names ts m)
known_root names [] m among = among
known_root names (t ∷ ts) m among = or_right (is_among (names_given t) m) _
    (or_right (is_among (names_asked t) m) _ (known_root names ts m among))

-- what was known before still is
known_behind : (names : List (List ℕ)) (more old : List Told) (m : List ℕ) → IsTrue (is_known names old m)
    → IsTrue (is_known names (more ++ old) m)
known_behind names [] old m known = known
known_behind names (t ∷ more) old m known = or_right (is_among (names_given t) m) _
    (or_right (is_among (names_asked t) m) _ (known_behind names more old m known))

-- it is one of the list, or it was told
known_told : (names : List (List ℕ)) (ts : List Told) (m : List ℕ) → IsTrue (is_known names ts m)
    → IsTrue (is_among names m) ⊎ IsTrue (is_known [] ts m)
known_told names [] m known = inl known
known_told names (t ∷ ts) m known = ⊎_elim (λ given. inr (or_left (is_among (names_given t) m) _ given))
    (λ rest. ⊎_elim (λ asked. inr (or_right (is_among (names_given t) m) _ (or_left (is_among (names_asked t) m) _ asked)))
    (λ older. ⊎_elim (λ listed. inl listed) (λ told. inr (or_right (is_among (names_given t) m) _
    (or_right (is_among (names_asked t) m) _ told))) (known_told names ts m older))
    (or_cases (is_among (names_asked t) m) (is_known names ts m) rest))
    (or_cases (is_among (names_given t) m) (is_among (names_asked t) m || is_known names ts m) known)

-- what was told is allowed, if it is founded
told_allowed : (roots : List (List ℕ)) (ts : List Told) (m : List ℕ) → IsFounded roots ts → IsTrue (is_known [] ts m)
    → IsTrue (is_allowed roots ts m)
told_allowed roots [] m founded known = absurd (false≢true known)
told_allowed roots (t ∷ ts) m founded known = ⊎_elim (λ given. or_left (is_among (names_given t) m) _ given)
    (λ rest. or_right (is_among (names_given t) m) _ (⊎_elim (λ asked. founded.0.each m asked)
    (λ older. told_allowed roots ts m founded.1 older)
    (or_cases (is_among (names_asked t) m) (is_known [] ts m) rest)))
    (or_cases (is_among (names_given t) m) (is_among (names_asked t) m || is_known [] ts m) known)

founded_more : (roots names : List (List ℕ)) (more old : List Told) → AreAllowed roots old names → IsFounded roots old
    → AreAbout names more old → IsFounded roots (more ++ old)
founded_more roots names [] old allowed founded about = founded
founded_more roots names (t ∷ more) old allowed founded about =
    let before = founded_more roots names more old allowed founded about.1 in
    let asked : AreAllowed roots (more ++ old) (names_asked t) = record {
      each = λ m here. ⊎_elim (λ listed. allowed_behind roots more old m (allowed.each m listed))
          (λ told. told_allowed roots (more ++ old) m before told)
          (known_told names (more ++ old) m (about.0.each m here));
    } in
    (asked, before)

-- what was founded stays so, if the documents of the call were allowed
pub stays_by : (names : List (List ℕ)) (old new : List Told) → StaysFounded names old new → (roots : List (List ℕ))
    → AreAllowed roots old names → IsFounded roots old → IsFounded roots new
stays_by names old new stays roots allowed founded = ∥∥₁_elim stays.is (IsFounded-prop roots new) (λ p.
    subst (IsFounded roots) (sym p.1) (founded_more roots names p.0 old allowed founded p.2))

pub stays_grows : (names : List (List ℕ)) (old new : List Told) → StaysFounded names old new → Grows old new
stays_grows names old new stays = record { is = ∥∥₁_elim stays.is (hlevel) (λ p. ∣ (p.0, p.1) ∣₁) }

-- all that questions were about
abbrev all_asked : List Told → List (List ℕ)
all_asked [] = []
all_asked (t ∷ ts) = names_asked t ++ all_asked ts

asked_before : (names : List (List ℕ)) (ts : List Told) (m : List ℕ) → IsTrue (is_among (all_asked ts) m)
    → IsTrue (is_known names ts m)
asked_before names [] m among = absurd (false≢true among)
asked_before names (t ∷ ts) m among = ⊎_elim
    (λ asked. or_right (is_among (names_given t) m) _ (or_left (is_among (names_asked t) m) _ asked))
    (λ older. or_right (is_among (names_given t) m) _
    (or_right (is_among (names_asked t) m) _ (asked_before names ts m older)))
    (or_cases (is_among (names_asked t) m) (is_among (all_asked ts) m)
    (sym (among_append (names_asked t) (all_asked ts) m) ∙ among))

-- what was asked about is founded from that alone
asked_founded : (roots : List (List ℕ)) (ts : List Told)
    → ((m : List ℕ) → IsTrue (is_among (all_asked ts) m) → IsTrue (is_among roots m)) → IsFounded roots ts
asked_founded roots [] inside = tt
asked_founded roots (t ∷ ts) inside =
    let split = among_append (names_asked t) (all_asked ts) in
    let asked : AreAllowed roots ts (names_asked t) = record {
      each = λ m here. root_allowed roots ts m (inside m (split m ∙ or_left (is_among (names_asked t) m) _ here));
    } in
    (asked, asked_founded roots ts (λ m here. inside m (split m ∙ or_right (is_among (names_asked t) m) _ here)))

allowed_known : (roots names : List (List ℕ)) (ts : List Told) (m : List ℕ) → IsTrue (is_allowed roots ts m)
    → IsTrue (is_among roots m) ⊎ IsTrue (is_known names ts m)
allowed_known roots names [] m allowed = inl allowed
allowed_known roots names (t ∷ ts) m allowed =
    ⊎_elim (λ given. inr (or_left (is_among (names_given t) m) _ given))
    (λ older. ⊎_elim (λ root. inl root) (λ known. inr (or_right (is_among (names_given t) m) _
    (or_right (is_among (names_asked t) m) _ known))) (allowed_known roots names ts m older))
    (or_cases (is_among (names_given t) m) (is_allowed roots ts m) allowed)

module _ (names : List (List ℕ)) (old : List Told) where
  known_by : (more : List Told) (m : List ℕ) → IsTrue (is_allowed (names ++ all_asked old) (more ++ old) m)
      → IsTrue (is_known names (more ++ old) m)
  known_by more m allowed = ⊎_elim (λ root. ⊎_elim (λ listed. known_root names (more ++ old) m listed)
      (λ asked. known_behind names more old m (asked_before names old m asked))
      (or_cases (is_among names m) (is_among (all_asked old) m) (sym (among_append names (all_asked old) m) ∙ root)))
      (λ known. known) (allowed_known (names ++ all_asked old) names (more ++ old) m allowed)

  about_by : (more : List Told) → IsFounded (names ++ all_asked old) (more ++ old) → AreAbout names more old
  about_by [] founded = tt
  about_by (t ∷ more) founded =
      let known : AreKnown names (more ++ old) (names_asked t) =
      record { each = λ m here. known_by more m (founded.0.each m here) } in
      (known, about_by more founded.1)

-- a call that keeps what was founded so from any roots, and tells more, tells of known documents alone
pub stays_when : (names : List (List ℕ)) (old new : List Told) → Grows old new
    → ((roots : List (List ℕ)) → AreAllowed roots old names → IsFounded roots old → IsFounded roots new)
    → StaysFounded names old new
stays_when names old new grows by =
    let roots = names ++ all_asked old in
    let allowed : AreAllowed roots old names = record {
      each = λ m here. root_allowed roots old m
          (among_append names (all_asked old) m ∙ or_left (is_among names m) _ here);
    } in
    let founded = asked_founded roots old (λ m here. among_append names (all_asked old) m
    ∙ or_right (is_among names m) _ here) in
    record {
      is = ∥∥₁_elim grows.is (hlevel) (λ p.
          ∣ (p.0, p.1, about_by names old p.0 (subst (IsFounded roots) p.1 (by roots allowed founded))) ∣₁);
    }

-- What calls tell

pub stays_same : (names : List (List ℕ)) (old new : List Told) → new ≡ old → StaysFounded names old new
stays_same names old new is = record { is = ∣ ([], is, tt) ∣₁ }

-- a question is told
pub stays_told : (t : Told) (names : List (List ℕ)) (old new : List Told) → names_asked t ≡ names → new ≡ t ∷ old
    → StaysFounded names old new
stays_told t names old new asked is =
    let known : AreKnown names old (names_asked t) = record {
      each = λ m here. known_root names old m (subst (λ some. IsTrue (is_among some m)) asked here);
    } in
    record { is = ∣ (t ∷ [], is, (known, tt)) ∣₁ }

-- one call after another about the same documents
pub stays_after : (names : List (List ℕ)) (a b c : List Told) → Grows a b → StaysFounded names a b
    → StaysFounded names b c → StaysFounded names a c
stays_after names a b c grows before next = stays_when names a c (grows_trans a b c grows (stays_grows names b c next))
    (λ roots allowed founded. stays_by names b c next roots (are_allowed_before roots a b names grows allowed)
    (stays_by names a b before roots allowed founded))

-- one call after another, where the second is about documents that are allowed by then
pub stays_then : (names more : List (List ℕ)) (a b c : List Told) → StaysFounded names a b
    → ((roots : List (List ℕ)) → AreAllowed roots a names → AreAllowed roots b more)
    → StaysFounded more b c → StaysFounded names a c
stays_then names more a b c before allowed next = stays_when names a c
    (grows_trans a b c (stays_grows names a b before) (stays_grows more b c next))
    (λ roots first founded. stays_by more b c next roots (allowed roots first)
    (stays_by names a b before roots first founded))

-- a call about some of the documents
pub stays_among : (some names : List (List ℕ)) (old new : List Told)
    → ((m : List ℕ) → IsTrue (is_among some m) → IsTrue (is_among names m)) → StaysFounded some old new
    → StaysFounded names old new
stays_among some names old new among stays = stays_when names old new (stays_grows some old new stays)
    (λ roots allowed founded. stays_by some old new stays roots
    (record { each = λ m here. allowed.each m (among m here) }) founded)

-- a call about one of the documents
pub stays_one : (name : List ℕ) (names : List (List ℕ)) (old new : List Told) → IsTrue (is_among names name)
    → StaysFounded (name ∷ []) old new → StaysFounded names old new
stays_one name names old new among = stays_among (name ∷ []) names old new
    (λ m here. subst (λ n. IsTrue (is_among names n)) (among_one name m here) among)

-- the documents of nodes that are the same
pub homes_founded : (nodes all : List PlanNode) (old new : List Told) → nodes ≡ all → StaysFounded (homes nodes) old new
    → StaysFounded (homes all) old new
homes_founded nodes all old new same = subst (λ l. StaysFounded (homes l) old new) same

-- what closes most claims that what was told stays founded
pub ruleset founding = (stays_same, stays_told, stays_after, stays_one, homes_founded, among_first, among_behind)

-- a name of a list is among its names
pub document_among : (documents : List (List ℕ)) (at : ℕ) (name : List ℕ) → at < length documents
    → name ≡ get_or documents at name → IsTrue (is_among documents name)
document_among [] at name within is = absurd (omega arith)
document_among (first ∷ documents) zero name within is =
    subst (λ n. IsTrue (is_among (first ∷ documents) n)) (sym is) (among_first first documents)
document_among (first ∷ documents) (suc at) name within is =
    among_behind first documents name (document_among documents at name (omega arith) is)

pub none_among : (names : List (List ℕ)) (m : List ℕ) → names ≡ [] → IsTrue (is_among names m) → ⊥
none_among names m none among = false≢true (subst (λ ns. IsTrue (is_among ns m)) none among)

pub cons_behind : (first : Option (List ℕ)) (more : List (List ℕ)) (m : List ℕ) → IsTrue (is_among more m)
    → IsTrue (is_among (cons_option first more) m)
cons_behind None more m among = among
cons_behind (Some name) more m among = or_right (bytes_eq name m) _ among

pub cons_first : (first : Option (List ℕ)) (more : List (List ℕ)) (m : List ℕ)
    → IsTrue (is_among (option_to_list first) m) → IsTrue (is_among (cons_option first more) m)
cons_first None more m among = absurd (false≢true among)
cons_first (Some name) more m among =
    ⊎_elim (λ here. or_left (bytes_eq name m) _ here) (λ none. absurd (false≢true none))
    (or_cases (bytes_eq name m) false among)
