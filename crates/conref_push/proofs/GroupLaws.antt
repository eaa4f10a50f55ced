-- Pushes by the places that they go to, one after the other.
use Rattle.std.specs.Prelude.{◌≡◌, ◌+◌, ◌<◌, ◌≤◌, ◌==◌, ℕ, Bool, true, false, List, [], ◌∷◌, ◌++◌, Some, None, cond, length, take, if◌then◌else◌}
use Rattle.std.specs.BTreeMap as tree
use Rattle.std.specs.Ordering.{nat_cmp}
use Rattle.std.specs.declared.alloc.Global.{Global}
use Rattle.std.specs.declared.vec.Vec.{Vec}
use Rattle.std.proofs.Common.{refl, sym, ap, subst, ◌∙◌, append-nil, get_or}
use Rattle.std.proofs.lemmas.Bool.{eqb-true}
use Rattle.std.proofs.lemmas.List.{take_all}
use Rattle.std.proofs.lemmas.List.Elements.{filter-append}
use Rattle.dita_doc.specs.declared.content.Push.{Push}
use Rattle.dita_doc.proofs.Orders.{at_number}
use Rattle.plan_nodes.proofs.HomeLaws.{push_of}
use Rattle.conref_push.specs.Making.{AreGroups, Groups, HasAt, group_at, group_of, pushes_to}

pub no_groups : (groups : Groups) → groups.entries ≡ [] → AreGroups [] groups
no_groups groups none = λ place. rw none refl

-- a push behind the others to its place
pub group_put : (pushes : List Push) (push : Push) (old middle new : Groups) (group : Vec Push Global)
    → HasAt old middle push.at None → HasAt middle new push.at (Some group)
    → group.items ≡ group_at old push.at ++ push ∷ [] → AreGroups pushes old
    → AreGroups (pushes ++ push ∷ []) new
group_put pushes push old middle new group out back is are = λ place.
    ap group_of (back.each place ∙ ap (cond (tree.is_at (nat_cmp push.at) place) (Some group)) (out.each place))
    ∙ ap (λ test. group_of (cond test (Some group) (cond test None (tree.get nat_cmp old place))))
    (at_number push.at place)
    ∙ by_test place (push.at == place) refl
    ∙ sym (filter-append (λ (p : Push). p.at == place) pushes (push ∷ []))
  where
    by_test : (place : ℕ) (test : Bool) → (push.at == place) ≡ test
        → group_of (cond test (Some group) (cond test None (tree.get nat_cmp old place)))
        ≡ pushes_to place pushes ++ (if test then push ∷ [] else [])
    by_test place true same =
        is ∙ ap (λ l. l ++ push ∷ []) (are push.at)
        ∙ ap (λ n. pushes_to n pushes ++ push ∷ []) (eqb-true push.at place same)
    by_test place false other = are place ∙ sym (append-nil (pushes_to place pushes))

pub groups_step : (pushes : List Push) (at : ℕ) (one : Push) (groups : Groups) → at < length pushes
    → one ≡ get_or pushes at one → AreGroups (take at pushes ++ one ∷ []) groups
    → AreGroups (take (at + 1) pushes) groups
groups_step pushes at one groups within is =
    subst (λ some. AreGroups some groups) (sym (push_of pushes at one within is))

pub groups_all : (pushes : List Push) (at : ℕ) (groups : Groups) → length pushes ≤ at
    → AreGroups (take at pushes) groups → AreGroups pushes groups
groups_all pushes at groups past = subst (λ some. AreGroups some groups) (take_all at pushes past)
