use Rattle.std.proofs.Common.{◌≡◌, ℕ, List, Option, None, Some, refl}
use Rattle.dita_doc.proofs.plan.ContextClone.clone.Goals as goal

-- what is known of a copy of a missing text, or of a text
abbrev IsCopy : Option (List ℕ) → Option (List ℕ) → Type 0
IsCopy None None = Unit {0}
IsCopy None (Some copy) = ⊥
IsCopy (Some one) None = ⊥
IsCopy (Some one) (Some copy) = copy ≡ one

same : (one copy : Option (List ℕ)) → IsCopy one copy → copy ≡ one
same None None is_copy = refl
same None (Some copy) is_copy = elim is_copy [ ]
same (Some one) None is_copy = elim is_copy [ ]
same (Some one) (Some copy) is_copy = λ i. Some (is_copy i)

pub returns : goal.returns
returns c =
    let val = same c.args.self.now.val c.in_ok-clone-2.field-0 c.in_ok-clone-2.ensures.cases in
    record {
      cases = λ i. record {
        map = c.in_ok-clone.ensures.cases i;
        val = val i;
        page = c.in_ok-clone-3.ensures.cases i;
        name = c.in_ok-clone-4.ensures.cases i;
      };
    }
