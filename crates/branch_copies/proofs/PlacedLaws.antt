-- Where the branches of each node stand among those of all nodes.
use Rattle.std.specs.Prelude.{◌≡◌, ◌+◌, ◌++◌, ℕ, zero, suc, Bool, true, false, List, [], ◌∷◌, Some, drop, length, replicate, slice_get, take, if◌then◌else◌}
use Rattle.std.proofs.Common.{refl, sym, ap, ◌∙◌, append-nil, append_assoc, arith, length-append}
use Rattle.std.proofs.Math.Seq.{drop-append_seam, take-append_seam}
use Rattle.std.proofs.lemmas.Grind.{flat_map-append}
use Rattle.std.proofs.lemmas.List.{length-replicate}
use Rattle.map_spec.specs.Branches.{Branch, branch_faults, branches_of, is_ditavalref}
use Rattle.map_spec.specs.MapTree.{Head, MapTree, MapNode, NoNodes, count}
use Rattle.reader_spec.specs.World.{World}
use Rattle.branch_copies.specs.Placed.{faults_in, branches_joined, placed, span_of, spans_of}
use Rattle.branch_copies.specs.Read.{HasBranches, HaveBranches}

-- Lists that are joined

pub joined_append : (front back : List (List Branch))
    → branches_joined (front ++ back) ≡ branches_joined front ++ branches_joined back
joined_append front back = flat_map-append (λ (own : List Branch). own) front back

pub joined_last : (front : List (List Branch)) (own : List Branch)
    → branches_joined (front ++ own ∷ []) ≡ branches_joined front ++ own
joined_last [] own = append-nil own
joined_last (first ∷ front) own =
    ap (λ l. first ++ l) (joined_last front own) ∙ sym (append_assoc first (branches_joined front) own)

joined_none : (n : ℕ) → branches_joined (replicate n []) ≡ []
joined_none zero = refl
joined_none (suc n) = joined_none n

pub faults_append : (front back : List Branch) → faults_in (front ++ back) ≡ faults_in front ++ faults_in back
faults_append front back = flat_map-append (λ (branch : Branch). branch.filter.faults) front back

-- Spans

pub spans_last : (front : List (List Branch)) (first : ℕ) (own : List Branch)
    → spans_of first (front ++ own ∷ [])
    ≡ spans_of first front ++ span_of (first + length (branches_joined front)) own ∷ []
spans_last [] first own = let same : first ≡ first + 0 = omega arith in ap (λ n. span_of n own ∷ []) same
spans_last (x ∷ front) first own =
    let same : first + length x + length (branches_joined front) ≡ first + length (branches_joined (x ∷ front)) =
    omega (arith, length-append x (branches_joined front)) in
    ap (λ l. span_of first x ∷ l) (spans_last front (first + length x) own
    ∙ ap (λ n. spans_of (first + length x) front ++ span_of n own ∷ []) same)

span_at : (front others : List (List Branch)) (own : List Branch) (first at : ℕ) → length front ≡ at
    → slice_get (spans_of first (front ++ own ∷ others)) at
    ≡ Some (span_of (first + length (branches_joined front)) own)
span_at [] others own first zero long =
    let same : first ≡ first + 0 = omega arith in ap (λ n. Some (span_of n own)) same
span_at [] others own first (suc at) long = absurd (omega (arith, long))
span_at (x ∷ front) others own first zero long = absurd (omega (arith, long))
span_at (x ∷ front) others own first (suc at) long =
    let same : first + length x + length (branches_joined front) ≡ first + length (branches_joined (x ∷ front)) =
    omega (arith, length-append x (branches_joined front)) in
    span_at front others own (first + length x) at (omega (arith, long)) ∙ ap (λ n. Some (span_of n own)) same

-- Trees

module _ (world : World) where
  pub other_placed : (head : Head) (below more : MapTree) → is_ditavalref head.kind ≡ false
      → placed world (MapNode head below more)
      ≡ branches_of world head below ∷ (placed world below ++ placed world more)
  other_placed head below more other = rw other refl

  pub ref_placed : (head : Head) (below more : MapTree) → is_ditavalref head.kind ≡ true
      → placed world (MapNode head below more) ≡ ([] ∷ replicate (count below) []) ++ placed world more
  ref_placed head below more is = rw is refl

  placed_length : (tree : MapTree) → length (placed world tree) ≡ count tree
  placed_length NoNodes = refl
  placed_length (MapNode head below more) =
      by_test (is_ditavalref head.kind) (placed_length below) (placed_length more)
    where
      by_test : (test : Bool) → length (placed world below) ≡ count below → length (placed world more) ≡ count more
          → length (if test then ([] ∷ replicate (count below) []) ++ placed world more
          else branches_of world head below ∷ (placed world below ++ placed world more))
          ≡ count (MapNode head below more)
      by_test true inner behind =
          let none : List Branch = [] in
          omega (
            arith,
            inner,
            behind,
            length-append (replicate (count below) none) (placed world more),
            length-replicate (count below) none,
          )
      by_test false inner behind =
          omega (arith, inner, behind, length-append (placed world below) (placed world more))

  -- what stands behind a node's subtree
  abbrev Front : Head → MapTree → MapTree → Type 0
  Front head below more = (front : List (List Branch)) × (length front ≡ 1 + count below)
      × (placed world (MapNode head below more) ≡ front ++ placed world more)

  front_of : (head : Head) (below more : MapTree) → Front head below more
  front_of head below more = by_test (is_ditavalref head.kind) refl
    where
      by_test : (test : Bool) → is_ditavalref head.kind ≡ test → Front head below more
      by_test true e = let none : List Branch = [] in (
        [] ∷ replicate (count below) [],
        omega (arith, length-replicate (count below) none),
        ref_placed head below more e,
      )
      by_test false e = (
        branches_of world head below ∷ placed world below,
        omega (arith, placed_length below),
        other_placed head below more e,
      )

  has_at : (head : Head) (below : MapTree) (front others all : List (List Branch)) (at : ℕ) → length front ≡ at
      → all ≡ front ++ branches_of world head below ∷ others
      → HasBranches world (spans_of 0 all) (branches_joined all) at head below
  has_at head below front others all at long is =
      let own = branches_of world head below in
      let whole : branches_joined all ≡ branches_joined front ++ (own ++ branches_joined others) =
      ap branches_joined is ∙ joined_append front (own ∷ others) in
      let zero_first : 0 + length (branches_joined front) ≡ length (branches_joined front) = omega arith in
      record {
        span = span_of (length (branches_joined front)) own;
        here = ap (λ l. slice_get (spans_of 0 l) at) is ∙ span_at front others own 0 at long
            ∙ ap (λ n. Some (span_of n own)) zero_first;
        fits = omega (
          arith,
          ap length whole,
          length-append (branches_joined front) (own ++ branches_joined others),
          length-append own (branches_joined others),
        );
        are = ap (λ l. take (length own) (drop (length (branches_joined front)) l)) whole
            ∙ ap (take (length own)) (drop-append_seam (branches_joined front) (own ++ branches_joined others))
            ∙ take-append_seam own (branches_joined others);
      }

  -- the nodes of a tree have the branches that stand at their places
  have_in : (tree : MapTree) (front back all : List (List Branch)) (at : ℕ) → length front ≡ at
      → all ≡ front ++ (placed world tree ++ back) → HaveBranches world (spans_of 0 all) (branches_joined all) at tree
  have_in NoNodes front back all at long is = tt
  have_in (MapNode head below more) front back all at long is = (
    λ other.
        let own = branches_of world head below in
        let first : all ≡ front ++ own ∷ (placed world below ++ (placed world more ++ back)) =
        is ∙ ap (λ l. front ++ (l ++ back)) (other_placed head below more other)
        ∙ ap (λ l. front ++ own ∷ l) (append_assoc (placed world below) (placed world more) back) in (
          has_at head below front (placed world below ++ (placed world more ++ back)) all at long first,
          have_in below (front ++ own ∷ []) (placed world more ++ back) all (at + 1)
              (omega (arith, long, length-append front (own ∷ [])))
              (first ∙ sym (append_assoc front (own ∷ []) (placed world below ++ (placed world more ++ back)))),
        ),
    let start = front_of head below more in
        have_in more (front ++ start.0) back all (at + 1 + count below)
        (omega (arith, long, length-append front start.0, start.1))
        (is ∙ ap (λ l. front ++ (l ++ back)) start.2 ∙ ap (λ l. front ++ l) (append_assoc start.0 (placed world more) back)
        ∙ sym (append_assoc front start.0 (placed world more ++ back))),
  )

  pub have_all : (tree : MapTree) → HaveBranches world (spans_of 0 (placed world tree)) (branches_joined (placed world tree)) 0 tree
  have_all tree = have_in tree [] [] (placed world tree) 0 refl (sym (append-nil (placed world tree)))

  -- and their faults are those of all
  pub faults_all : (tree : MapTree) → faults_in (branches_joined (placed world tree)) ≡ branch_faults world tree
  faults_all NoNodes = refl
  faults_all (MapNode head below more) =
      by_test (is_ditavalref head.kind) (faults_all below) (faults_all more)
    where
      by_test : (test : Bool) → faults_in (branches_joined (placed world below)) ≡ branch_faults world below
          → faults_in (branches_joined (placed world more)) ≡ branch_faults world more
          → faults_in (branches_joined (if test then ([] ∷ replicate (count below) []) ++ placed world more
          else branches_of world head below ∷ (placed world below ++ placed world more)))
          ≡ (if test then branch_faults world more
          else faults_in (branches_of world head below) ++ branch_faults world below ++ branch_faults world more)
      by_test true inner behind =
          ap faults_in (joined_append (replicate (count below) []) (placed world more)
          ∙ ap (λ l. l ++ branches_joined (placed world more)) (joined_none (count below))) ∙ behind
      by_test false inner behind =
          faults_append (branches_of world head below) (branches_joined (placed world below ++ placed world more))
          ∙ ap (λ l. faults_in (branches_of world head below) ++ l)
          (ap faults_in (joined_append (placed world below) (placed world more))
          ∙ faults_append (branches_joined (placed world below)) (branches_joined (placed world more))
          ∙ ap (λ l. l ++ faults_in (branches_joined (placed world more))) inner
          ∙ ap (λ l. branch_faults world below ++ l) behind)
          ∙ sym (append_assoc (faults_in (branches_of world head below)) (branch_faults world below)
          (branch_faults world more))
