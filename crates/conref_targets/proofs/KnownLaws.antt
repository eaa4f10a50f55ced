-- What is kept under names, when one more is put.
use Rattle.std.specs.Prelude.{◌≡◌, ℕ, Bool, true, false, List, Some, cond}
use Rattle.std.specs.BTreeMap as tree
use Rattle.std.specs.BTreeMap.{BTreeMap, is_at}
use Rattle.std.proofs.Common.{refl, subst, ◌∙◌}
use Rattle.dita_doc.specs.TextOrder.{text_cmp}
use Rattle.dita_doc.proofs.NameOrder.{same_from_equal}
use Rattle.dita_doc.proofs.Orders.{equal_test}

module _ {X : Type 0} (P : List ℕ → X → Type 0) (old new : BTreeMap (List ℕ) X) (key : List ℕ) (value : X)
    (puts : (q : List ℕ) → tree.get text_cmp new q
    ≡ cond (is_at (text_cmp key) q) (Some value) (tree.get text_cmp old q))
  where
    -- what holds of all that was kept, and of what is put, holds of all that is kept
    pub put_found : ((name : List ℕ) (x : X) → Some x ≡ tree.get text_cmp old name → P name x) → P key value
        → (name : List ℕ) (x : X) → Some x ≡ tree.get text_cmp new name → P name x
    put_found before here name x is = by_test (is_at (text_cmp key) name) refl (is ∙ puts name)
      where
        by_test : (test : Bool) → is_at (text_cmp key) name ≡ test
            → Some x ≡ cond test (Some value) (tree.get text_cmp old name) → P name x
        by_test true same e =
            let equal : value ≡ x = cc in
            subst (P name) equal
            (subst (λ n. P n value) (same_from_equal key name (equal_test (text_cmp key name) same)) here)
        by_test false same e = before name x e
