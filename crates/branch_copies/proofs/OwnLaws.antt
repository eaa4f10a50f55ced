-- The branches of one node, and up to which place nodes are passed over behind it.
use Rattle.std.specs.Prelude.{◌≡◌, ℕ, Bool, true, false, List, [], ◌∷◌}
use Rattle.std.specs.Option.{option_map_or}
use Rattle.std.proofs.Common.{refl, sym, ap, subst, ◌∙◌}
use Rattle.dita_doc.specs.declared.plan.PlanKind.{PlanKind}
use Rattle.dita_doc.specs.declared.plan.PlanKind.TheVariants as kinds
use Rattle.dita_doc.specs.declared.plan.PlanNode.{PlanNode}
use Rattle.ditaval_rules.specs.declared.rules.RulesRead.{RulesRead}
use Rattle.map_spec.specs.Branches.{branches_of, ditavalrefs, has_branches, is_ditavalref}
use Rattle.map_spec.specs.MapTree.{Head, MapTree, MapNode}
use Rattle.reader_spec.specs.World.{World}
use Rattle.branch_copies.specs.Appended.{AreAppended, branches_for, has_branches_at, if_ditavalref}
use Rattle.plan_nodes.specs.HomeDocs.{Known}
use Rattle.branch_copies.specs.Ditavals.{AreKnown}
use Rattle.branch_copies.specs.Reading.{next_behind}
use Rattle.branch_copies.specs.Stands.{StandsAt, end_at, is_ditavalref_at}
use Rattle.branch_copies.specs.declared.branches.Branches.{Branches}
use Rattle.branch_copies.proofs.AppendedLaws.{appended_none, other_appended}
use Rattle.branch_copies.proofs.StandLaws.{end_stands}

kind_none : (kind : PlanKind) → is_ditavalref kind ≡ true → has_branches kind ≡ false
kind_none kinds.DitavalRef is = refl
kind_none kinds.Map is = cc
kind_none _ is = cc

none_of : (world : World) (head : Head) (below : MapTree) → has_branches head.kind ≡ false
    → [] ≡ branches_of world head below
none_of world head below other = rw other refl

pub ref_none : (world : World) (head : Head) (below : MapTree) → is_ditavalref head.kind ≡ true
    → [] ≡ branches_of world head below
ref_none world head below is = none_of world head below (kind_none head.kind is)

all_of : (world : World) (head : Head) (below : MapTree) → has_branches head.kind ≡ true
    → branches_for world (ditavalrefs below) ≡ branches_of world head below
all_of world head below has = rw has refl

module _ (world : World) (nodes : List PlanNode) (parent at : ℕ) (head : Head) (below more : MapTree)
    (stands : StandsAt nodes parent at (MapNode head below more)) where
  kind_at : (test : Bool) → is_ditavalref_at nodes at ≡ test → is_ditavalref head.kind ≡ test
  kind_at test is = sym (ap (λ found. option_map_or (λ (n : PlanNode). is_ditavalref n.kind) found false) stands.0) ∙ is

  has_at : (test : Bool) → has_branches_at nodes at ≡ test → has_branches head.kind ≡ test
  has_at test is = sym (ap (λ found. option_map_or (λ (n : PlanNode). has_branches n.kind) found false) stands.0) ∙ is

  here_next : is_ditavalref_at nodes at ≡ false → at ≡ next_behind at head below
  here_next other = let kind : is_ditavalref head.kind ≡ false = kind_at false other in rw kind refl

  behind_next : (end : ℕ) → is_ditavalref_at nodes at ≡ true → end ≡ end_at nodes at → end ≡ next_behind at head below
  behind_next end is ends =
      let kind : is_ditavalref head.kind ≡ true = kind_at true is in
      rw kind (ends ∙ end_stands nodes parent at head below more stands)

  module _ (read : List RulesRead) (entries : List Known) (made : Branches) (known : AreKnown world read entries) where
    pub ref_passed : (end : ℕ) → is_ditavalref_at nodes at ≡ true → end ≡ end_at nodes at
        → (end ≡ next_behind at head below)
        × AreAppended world nodes read read entries made made (branches_of world head below)
    ref_passed end is ends = (
      behind_next end is ends,
      subst (AreAppended world nodes read read entries made made) (ref_none world head below (kind_at true is))
          (appended_none world nodes read entries made known),
    )

    pub other_passed : is_ditavalref_at nodes at ≡ false → has_branches_at nodes at ≡ false
        → (at ≡ next_behind at head below)
        × AreAppended world nodes read read entries made made (branches_of world head below)
    other_passed other none = (
      here_next other,
      subst (AreAppended world nodes read read entries made made) (none_of world head below (has_at false none))
          (appended_none world nodes read entries made known),
    )

    pub child_passed : is_ditavalref_at nodes at ≡ false
        → AreAppended world nodes read read entries made made (branches_for world (if_ditavalref head))
    child_passed other = other_appended world nodes read entries made head (kind_at false other) known

  pub child_read : is_ditavalref_at nodes at ≡ true
      → branches_for world (head ∷ []) ≡ branches_for world (if_ditavalref head)
  child_read is = let kind : is_ditavalref head.kind ≡ true = kind_at true is in rw kind refl

  pub own_read : (old new : List RulesRead) (entries : List Known) (before after : Branches)
      → is_ditavalref_at nodes at ≡ false → has_branches_at nodes at ≡ true
      → AreAppended world nodes old new entries before after (branches_for world (ditavalrefs below))
      → (at ≡ next_behind at head below)
      × AreAppended world nodes old new entries before after (branches_of world head below)
  own_read old new entries before after other has appended = (
    here_next other,
    subst (AreAppended world nodes old new entries before after) (all_of world head below (has_at true has)) appended,
  )
