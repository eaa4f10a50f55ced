-- What is left makes the rest, as work is put and taken.
use Rattle.std.specs.Prelude.{◌≡◌, ◌<◌, ◌≤◌, ◌++◌, ℕ, zero, suc, List, [], ◌∷◌, length, Vec}
use Rattle.std.specs.declared.alloc.Global.{Global}
use Rattle.std.proofs.Common.{refl, ap, subst, ◌∙◌, arith, length-append}
use Rattle.dita_doc.specs.declared.plan.PlanNode.{PlanNode}
use Rattle.map_spec.specs.Branches.{Branch}
use Rattle.map_spec.specs.MapTree.{MapTree}
use Rattle.reader_spec.specs.World.{World}
use Rattle.branch_copies.specs.Chained.{chain_at, shown}
use Rattle.branch_copies.specs.Going.{Going, chains_of}
use Rattle.branch_copies.specs.Leaves.{CopiesMake, Leaves, WalkMakes, WorkMakes, chain_in, parent_of, put}
use Rattle.branch_copies.specs.declared.copying.Copying.{Copying}
use Rattle.branch_copies.specs.declared.node.Originals.{Originals}
use Rattle.branch_copies.specs.declared.work.Work.{Work}
use Rattle.branch_copies.specs.declared.work.Work.TheVariants as works
use Rattle.branch_copies.proofs.TreeLaws.{length_put}

-- Chains

pub chain_shown : (chains : List (Vec ℕ Global)) (at : ℕ) → chain_at chains at ≡ chain_in (shown chains) at
chain_shown [] at = refl
chain_shown (chain ∷ chains) zero = refl
chain_shown (chain ∷ chains) (suc at) = chain_shown chains at

-- a chain stays as others are put behind it, and the first of these stands there
pub chain_still : (chains more : List (List ℕ)) (at : ℕ) → at < length chains
    → chain_in (chains ++ more) at ≡ chain_in chains at
chain_still [] more at within = absurd (omega arith)
chain_still (chain ∷ chains) more zero within = refl
chain_still (chain ∷ chains) more (suc at) within = chain_still chains more at (omega arith)

pub chain_put : (chains : List (List ℕ)) (chain : List ℕ) (at : ℕ) → at ≡ length chains
    → chain_in (chains ++ chain ∷ []) at ≡ chain
chain_put [] chain zero is = refl
chain_put [] chain (suc at) is = absurd (omega arith)
chain_put (first ∷ chains) chain zero is = absurd (omega arith)
chain_put (first ∷ chains) chain (suc at) is = chain_put chains chain at (omega arith)

module _ (world : World) (source : Originals) (defined : List Branch) where
  pub pushed : (chains : List (List ℕ)) (front : List Work) (work : Work) (tree : MapTree) (made all : List PlanNode)
      → WorkMakes world source defined chains work tree
      → Leaves world source defined chains front (put (parent_of work) tree made) all
      → Leaves world source defined chains (front ++ work ∷ []) made all
  pushed chains [] work tree made all makes is = (made, tree, refl, makes, is)
  pushed chains (first ∷ front) work tree made all makes is =
      (is.0, is.1, pushed chains front work tree made is.0 makes is.2, is.3, is.4)

  pub taken : (chains : List (List ℕ)) (front : List Work) (work : Work) (made all : List PlanNode)
      → Leaves world source defined chains (front ++ work ∷ []) made all
      → (tree : MapTree) × WorkMakes world source defined chains work tree
      × Leaves world source defined chains front (put (parent_of work) tree made) all
  taken chains [] work made all is = (is.1, is.3, ap (put (parent_of work) is.1) is.2 ∙ is.4)
  taken chains (first ∷ front) work made all is =
      let inner = taken chains front work made is.0 is.2 in
      (inner.0, inner.1, (is.0, is.1, inner.2, is.3, is.4))

  pub leaves_longer : (chains : List (List ℕ)) (works : List Work) (made all : List PlanNode)
      → Leaves world source defined chains works made all → length made ≤ length all
  leaves_longer chains [] made all is = omega (arith, ap (λ l. length l) is)
  leaves_longer chains (work ∷ works) made all is = omega (
    arith,
    leaves_longer chains works made is.0 is.2,
    length_put (parent_of work) is.1 is.0,
    ap (λ l. length l) is.4,
  )

  -- more chains

  makes_still : (chains more : List (List ℕ)) (work : Work) (tree : MapTree)
      → WorkMakes world source defined chains work tree → WorkMakes world source defined (chains ++ more) work tree
  makes_still chains more (works.Walk walk) tree makes = walk_still makes
    where
      walk_still : WalkMakes world source defined chains walk tree
          → WalkMakes world source defined (chains ++ more) walk tree
      walk_still makes =
          let still = chain_still chains more walk.chain makes.chain in
          record {
            above = makes.above;
            original = makes.original;
            stands = makes.stands;
            have = makes.have;
            ends = makes.ends;
            chain = omega (arith, length-append chains more, makes.chain);
            is = rw still makes.is;
          }
  makes_still chains more (works.Copies copies) tree makes = copies_still makes
    where
      copies_still : CopiesMake world source defined chains copies tree
          → CopiesMake world source defined (chains ++ more) copies tree
      copies_still makes =
          let still = chain_still chains more copies.chain makes.chain in
          record {
            above = makes.above;
            head = makes.head;
            below = makes.below;
            stands = makes.stands;
            have = makes.have;
            ends = makes.ends;
            fits = makes.fits;
            chain = omega (arith, length-append chains more, makes.chain);
            stays = rw still makes.stays;
            is = rw still makes.is;
          }

  pub leaves_still : (chains more : List (List ℕ)) (all_works : List Work) (made all : List PlanNode)
      → Leaves world source defined chains all_works made all
      → Leaves world source defined (chains ++ more) all_works made all
  leaves_still chains more [] made all is = is
  leaves_still chains more (work ∷ all_works) made all is = (
    is.0,
    is.1,
    leaves_still chains more all_works made is.0 is.2,
    makes_still chains more work is.1 is.3,
    is.4,
  )

  -- the last work is done next
  pub record IsTaken (x : Copying) (left : Vec Work Global) (work : Work) (all : List PlanNode) : Type 0 where
    pub tree : MapTree
    pub makes : WorkMakes world source defined (chains_of x) work tree
    pub going : Going world source defined (record x { left = left }) (put (parent_of work) tree x.made.items) all

  pub going_taken : (x : Copying) (left : Vec Work Global) (work : Work) (all : List PlanNode)
      → x.left.items ≡ left.items ++ work ∷ [] → Going world source defined x x.made.items all
      → IsTaken x left work all
  going_taken x left work all is going =
      let one = taken (chains_of x) left.items work x.made.items all
      (subst (λ l. Leaves world source defined (chains_of x) l x.made.items all) is going.leaves) in
      record { tree = one.0; makes = one.1; going = record { few = going.few; leaves = one.2 } }
