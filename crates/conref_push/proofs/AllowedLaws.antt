-- What was asked for is allowed, where the whole list is founded.
use Rattle.std.specs.Prelude.{◌≡◌, ◌+◌, ◌<◌, ◌≤◌, ℕ, false, List, [], ◌∷◌, ◌++◌, Option, Result, Ok, Err, OnOk, IsTrue, bytes_eq, length, take}
use Rattle.std.proofs.Common.{sym, subst, get_or}
use Rattle.std.proofs.Math.Logic.{⊎_elim}
use Rattle.std.proofs.lemmas.Bool.{or_cases, or_left}
use Rattle.std.proofs.lemmas.List.{take_all}
use Rattle.dita_doc.specs.Tree.{Content}
use Rattle.plan_nodes.proofs.HomeLaws.{push_of}
use Rattle.readers.specs.Founded.{AreAllowed, Grows, IsFounded, is_among}
use Rattle.readers.specs.Told.{Told, document}
use Rattle.readers.proofs.GrowthLaws.{are_allowed_before, founded_before, grows_one, grows_trans}
use Rattle.conref_push.proofs.AmongLaws.{among_push}

pub on_any : {A B : Type 0} (P : Type 0) (result : Result A B) → P → OnOk result P
on_any P (Ok value) is = is
on_any P (Err error) is = tt

-- a document that was asked for
pub asked_allowed : (roots : List (List ℕ)) (name : List ℕ) (tree : Option Content) (old middle new : List Told)
    → middle ≡ document name tree ∷ old → Grows middle new → IsFounded roots new → AreAllowed roots new (name ∷ [])
asked_allowed roots name tree old middle new is grows founded = are_allowed_before roots old new (name ∷ [])
    (grows_trans old middle new (grows_one (document name tree) old middle is) grows)
    (subst (IsFounded roots) is (founded_before roots middle new grows founded)).0

allowed_more : (roots : List (List ℕ)) (ts : List Told) (names : List (List ℕ)) (name : List ℕ)
    → AreAllowed roots ts names → AreAllowed roots ts (name ∷ []) → AreAllowed roots ts (names ++ name ∷ [])
allowed_more roots ts names name are one = record {
  each = λ m among. ⊎_elim (are.each m) (λ same. one.each m (or_left (bytes_eq name m) false same))
      (or_cases (is_among names m) (bytes_eq name m) (subst IsTrue (among_push names name m) among));
}

-- one document more
pub allowed_next : (roots : List (List ℕ)) (old new : List Told) (documents : List (List ℕ)) (at : ℕ) (one : List ℕ)
    → at < length documents → one ≡ get_or documents at one → Grows old new
    → (IsFounded roots old → AreAllowed roots old (take at documents))
    → (IsFounded roots new → AreAllowed roots new (one ∷ [])) → IsFounded roots new
    → AreAllowed roots new (take (at + 1) documents)
allowed_next roots old new documents at one within is grows before now founded =
    subst (AreAllowed roots new) (sym (push_of documents at one within is))
    (allowed_more roots new (take at documents) one
    (are_allowed_before roots old new (take at documents) grows (before (founded_before roots old new grows founded)))
    (now founded))

pub allowed_all : (roots : List (List ℕ)) (ts : List Told) (documents : List (List ℕ)) (at : ℕ)
    → length documents ≤ at → AreAllowed roots ts (take at documents) → AreAllowed roots ts documents
allowed_all roots ts documents at past = subst (AreAllowed roots ts) (take_all at documents past)
