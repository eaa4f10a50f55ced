-- A set of names after one more was put into it.
use Rattle.std.proofs.Common.{◌≡◌, ℕ, Bool, false, List, [], ◌∷◌, bytes_eq, sym, refl, ap, ◌∙◌}
use Rattle.std.specs.Prelude.{◌||◌}
use Rattle.std.specs.declared.cmp.Ordering.{Ordering}
use Rattle.std.specs.declared.cmp.Ordering.TheVariants.{Less, Equal, Greater}
use Rattle.std.specs.List.{list_any}
use Rattle.std.specs.Ordering.{is_eq, match_ordering, nat_cmp}
use Rattle.std.specs.Cmp.Lexicographic.{slice_cmp}
use Rattle.std.specs.BTreeMap.{is_at}
use Rattle.std.specs.BTreeSet.{BTreeSet, insert_key}
use Rattle.std.proofs.lemmas.Map.Text.{is_eq-slice_cmp}
use Rattle.dita_doc.specs.TextOrder.{text_cmp}
use Rattle.dita_doc.proofs.NameOrder.{same_from_equal}
use Rattle.dita_doc.proofs.Tests.{or_swap, or_twice}
use Rattle.pyx_text.specs.Machine.{has_name}

-- whether a name is one of these
abbrev pub is_among : List ℕ → List (List ℕ) → Bool
is_among name keys = list_any (is_at (λ k. slice_cmp nat_cmp name k)) keys

-- the first of the keys, behind or before which a name is put
is_among-placed : (other : List ℕ) (k x : List ℕ) (keys more : List (List ℕ)) (order : Ordering)
    → slice_cmp nat_cmp k x ≡ order
    → is_among other more ≡ (bytes_eq other k || is_among other keys)
    → is_among other (match_ordering order (k ∷ x ∷ keys) (x ∷ keys) (x ∷ more))
    ≡ (bytes_eq other k || is_among other (x ∷ keys))
is_among-placed other k x keys more Less is rest = ap (λ b. b || is_among other (x ∷ keys)) (is_eq-slice_cmp other k)
is_among-placed other k x keys more Equal is rest =
    ap (λ b. b || is_among other keys) (is_eq-slice_cmp other x)
    ∙ or_twice (bytes_eq other x) (is_among other keys)
    ∙ ap (λ b. bytes_eq other x || (b || is_among other keys)) (sym (is_eq-slice_cmp other x))
    ∙ ap (λ name. bytes_eq other name || is_among other (x ∷ keys)) (sym (same_from_equal k x is))
is_among-placed other k x keys more Greater is rest =
    let test = is_eq (slice_cmp nat_cmp other x) in
    ap (λ b. test || b) rest ∙ or_swap test (bytes_eq other k) (is_among other keys)

-- the keys with a name put among them
is_among-insert : (other : List ℕ) (k : List ℕ) (keys : List (List ℕ))
    → is_among other (insert_key text_cmp keys k) ≡ (bytes_eq other k || is_among other keys)
is_among-insert other k [] = ap (λ b. b || false) (is_eq-slice_cmp other k)
is_among-insert other k (x ∷ keys) = is_among-placed other k x keys (insert_key text_cmp keys k)
    (slice_cmp nat_cmp k x) refl (is_among-insert other k keys)

-- after a name was put into a set, the set has it and those that it had
pub has_name-insert : (other name : List ℕ) (k : List ℕ) (old new : BTreeSet (List ℕ)) → k ≡ name
    → new.keys ≡ insert_key text_cmp old.keys k → has_name other new ≡ (bytes_eq other name || has_name other old)
has_name-insert other name k old new is keys =
    ap (is_among other) keys ∙ is_among-insert other k old.keys ∙ ap (λ n. bytes_eq other n || has_name other old) is
