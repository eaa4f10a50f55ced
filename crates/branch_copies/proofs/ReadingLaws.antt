-- The branches of all nodes, read from the first node to the last.
use Rattle.std.specs.Prelude.{◌≡◌, ◌+◌, ◌-◌, ◌<◌, ◌≤◌, ◌++◌, ℕ, zero, suc, Bool, true, false, List, [], ◌∷◌, length, replicate}
use Rattle.std.proofs.Common.{refl, sym, ap, subst, ◌∙◌, append-nil, append_assoc, arith, length-append}
use Rattle.std.proofs.Math.Logic.{⊎_elim}
use Rattle.std.proofs.lemmas.Bool.{cases_lt}
use Rattle.dita_doc.specs.declared.plan.PlanNode.{PlanNode}
use Rattle.ditaval_rules.specs.declared.rules.RulesRead.{RulesRead}
use Rattle.map_spec.specs.Branches as branches
use Rattle.map_spec.specs.Branches.{branches_of, is_ditavalref}
use Rattle.map_spec.specs.MapTree.{Head, MapTree, MapNode, NoNodes, count}
use Rattle.reader_spec.specs.World.{World}
use Rattle.branch_copies.specs.Appended.{AreAppended}
use Rattle.plan_nodes.specs.HomeDocs.{Known}
use Rattle.branch_copies.specs.Ditavals.{AreKnown}
use Rattle.branch_copies.specs.Placed.{faults_in, branches_joined, placed, span_of, spans_of}
use Rattle.branch_copies.specs.Read.{AllRead, AreRead, HaveBranches}
use Rattle.branch_copies.specs.Reading.{AreDone, AreLeft, IsReading, StandAll, Trees, count_all, next_behind, placed_all}
use Rattle.branch_copies.specs.Stands.{StandsAt}
use Rattle.branch_copies.specs.declared.branches.Branches.{Branches}
use Rattle.branch_copies.specs.declared.branches.Span.{Span}
use Rattle.branch_copies.proofs.AppendedLaws.{read_append, read_length, read_longer}
use Rattle.branch_copies.proofs.OwnLaws.{ref_none}
use Rattle.branch_copies.proofs.PlacedLaws.{faults_all, faults_append, have_all, joined_last, other_placed, ref_placed, spans_last}

abbrev none : List branches.Branch
none = []

-- What is left

module _ (world : World) (nodes : List PlanNode) where
  -- the first node that is left, and what is left behind it
  abbrev FirstLeft : ℕ → Trees → Type 0
  FirstLeft at trees = (parent : ℕ) × (head : Head) × (below : MapTree) × (more : MapTree) × (others : Trees)
      × StandsAt nodes parent at (MapNode head below more)
      × StandAll nodes (at + count (MapNode head below more)) others
      × (count_all trees ≡ count (MapNode head below more) + count_all others)
      × (placed_all world trees ≡ placed world (MapNode head below more) ++ placed_all world others)

  first_left : (trees : Trees) (at : ℕ) → StandAll nodes at trees → 0 < count_all trees → FirstLeft at trees
  first_left [] at stand some = absurd (omega arith)
  first_left (tree ∷ others) at stand some = by_tree tree.0 tree.1 stand some
      (λ same counts. first_left others at same counts)
    where
      by_tree : (parent : ℕ) (tree : MapTree) → StandsAt nodes parent at tree × StandAll nodes (at + count tree) others
          → 0 < count tree + count_all others
          → (StandAll nodes at others → 0 < count_all others → FirstLeft at others) → FirstLeft at ((parent, tree) ∷ others)
      by_tree parent NoNodes stand some again =
          let here : at + 0 ≡ at = omega arith in
          let rest = again (subst (λ place. StandAll nodes place others) here stand.1) (omega (arith, some)) in
          (rest.0, rest.1, rest.2, rest.3, rest.4, rest.5, rest.6, omega (arith, rest.7), rest.8)
      by_tree parent (MapNode head below more) stand some again =
          (parent, head, below, more, others, stand.0, stand.1, refl, refl)

  pub left_begins : (tree : MapTree) → StandsAt nodes 0 0 tree → length nodes ≡ count tree
      → AreLeft world nodes 0 0 (placed world tree)
  left_begins tree stands long = record {
    trees = (0, tree) ∷ [];
    stand = (stands, tt);
    ends = omega (arith, long);
    is = sym (append-nil (placed world tree));
  }

  -- a node is passed over
  abbrev Passed : (at next : ℕ) → List (List branches.Branch) → Type 0
  Passed at next left = (more : List (List branches.Branch)) × (left ≡ none ∷ more) × AreLeft world nodes (at + 1) next more

  pub left_passed : (at next : ℕ) (left : List (List branches.Branch)) → at < next → AreLeft world nodes at next left
      → Passed at next left
  left_passed at next left less behind = by_rest (next - at) refl behind.trees behind.stand behind.ends behind.is
    where
      by_rest : (skip : ℕ) → next - at ≡ skip → (trees : Trees) → StandAll nodes (at + skip) trees
          → at + skip + count_all trees ≡ length nodes → left ≡ replicate skip none ++ placed_all world trees
          → Passed at next left
      by_rest zero e trees stand ends is = absurd (omega (arith, e))
      by_rest (suc skip) e trees stand ends is =
          let after : next - (at + 1) ≡ skip = omega (arith, e) in
          let place : at + suc skip ≡ at + 1 + (next - (at + 1)) = omega (arith, e) in (
            replicate skip none ++ placed_all world trees,
            is,
            record {
              trees = trees;
              stand = subst (λ p. StandAll nodes p trees) place stand;
              ends = omega (arith, place, ends);
              is = ap (λ n. replicate n none ++ placed_all world trees) (sym after);
            },
          )

  -- a node is here
  abbrev Here : ℕ → List (List branches.Branch) → Type 0
  Here at left = (parent : ℕ) × (head : Head) × (below : MapTree) × (more : MapTree)
      × (others : List (List branches.Branch)) × StandsAt nodes parent at (MapNode head below more)
      × (left ≡ branches_of world head below ∷ others) × AreLeft world nodes (at + 1) (next_behind at head below) others

  here_by : (at parent : ℕ) (head : Head) (below more : MapTree) (others : Trees) (left : List (List branches.Branch))
      → StandsAt nodes parent at (MapNode head below more)
      → StandAll nodes (at + count (MapNode head below more)) others
      → at + (count (MapNode head below more) + count_all others) ≡ length nodes
      → left ≡ placed world (MapNode head below more) ++ placed_all world others → Here at left
  here_by at parent head below more others left stands behind ends is = by_test (is_ditavalref head.kind) refl
    where
      by_test : (test : Bool) → is_ditavalref head.kind ≡ test → Here at left
      by_test true e =
          let next : next_behind at head below ≡ at + 1 + count below = rw e refl in
          let skip : next_behind at head below - (at + 1) ≡ count below = omega (arith, next) in
          let place : at + 1 + count below ≡ at + 1 + (next_behind at head below - (at + 1)) = omega (arith, skip) in
          let end : at + count (MapNode head below more) ≡ at + 1 + (next_behind at head below - (at + 1)) + count more =
          omega (arith, skip) in
          let rest = placed_all world ((parent, more) ∷ others) in (
            parent,
            head,
            below,
            more,
            replicate (count below) none ++ rest,
            stands,
            is ∙ ap (λ l. l ++ placed_all world others) (ref_placed world head below more e)
                ∙ append_assoc (none ∷ replicate (count below) none) (placed world more) (placed_all world others)
                ∙ ap (λ own. own ∷ (replicate (count below) none ++ rest)) (ref_none world head below e),
            record {
              trees = (parent, more) ∷ others;
              stand = (
                subst (λ p. StandsAt nodes parent p more) place stands.2,
                subst (λ p. StandAll nodes p others) end behind,
              );
              ends = omega (arith, end, ends);
              is = ap (λ n. replicate n none ++ rest) (sym skip);
            },
          )
      by_test false e =
          let next : next_behind at head below ≡ at = rw e refl in
          let skip : next_behind at head below - (at + 1) ≡ 0 = omega (arith, next) in
          let place : at + 1 ≡ at + 1 + (next_behind at head below - (at + 1)) = omega (arith, skip) in
          let inner : at + 1 + count below ≡ at + 1 + (next_behind at head below - (at + 1)) + count below =
          omega (arith, skip) in
          let end : at + count (MapNode head below more)
          ≡ at + 1 + (next_behind at head below - (at + 1)) + count below + count more = omega (arith, skip) in
          let rest = placed_all world ((at, below) ∷ (parent, more) ∷ others) in (
            parent,
            head,
            below,
            more,
            rest,
            stands,
            is ∙ ap (λ l. l ++ placed_all world others) (other_placed world head below more e)
                ∙ ap (λ l. branches_of world head below ∷ l)
                (append_assoc (placed world below) (placed world more) (placed_all world others)),
            record {
              trees = (at, below) ∷ (parent, more) ∷ others;
              stand = (
                subst (λ p. StandsAt nodes at p below) place stands.1,
                (subst (λ p. StandsAt nodes parent p more) inner stands.2, subst (λ p. StandAll nodes p others) end behind),
              );
              ends = omega (arith, end, ends);
              is = ap (λ n. replicate n none ++ rest) (sym skip);
            },
          )

  here_first : (at : ℕ) (left : List (List branches.Branch)) (trees : Trees) → FirstLeft at trees
      → at + count_all trees ≡ length nodes → left ≡ placed_all world trees → Here at left
  here_first at left trees first ends is =
      here_by at first.0 first.1 first.2 first.3 first.4 left first.5 first.6 (omega (arith, ends, first.7)) (is ∙ first.8)

  pub left_here : (at next : ℕ) (left : List (List branches.Branch)) → next ≤ at → at < length nodes
      → AreLeft world nodes at next left → Here at left
  left_here at next left past less behind =
      let skip : next - at ≡ 0 = omega (arith, past) in
      let place : at + (next - at) ≡ at = omega (arith, skip) in
      here_first at left behind.trees
      (first_left behind.trees at (subst (λ p. StandAll nodes p behind.trees) place behind.stand)
      (omega (arith, behind.ends, skip, less)))
      (omega (arith, behind.ends, skip))
      (behind.is ∙ ap (λ n. replicate n none ++ placed_all world behind.trees) skip)

  placed_none : (trees : Trees) → count_all trees ≡ 0 → placed_all world trees ≡ []
  placed_none [] empty = refl
  placed_none (tree ∷ others) empty = by_tree tree.1 empty (λ rest. placed_none others rest)
    where
      by_tree : (tree : MapTree) → count tree + count_all others ≡ 0
          → (count_all others ≡ 0 → placed_all world others ≡ []) → placed world tree ++ placed_all world others ≡ []
      by_tree NoNodes empty again = again (omega (arith, empty))
      by_tree (MapNode head below more) empty again = absurd (omega (arith, empty))

  left_ends : (at next : ℕ) (left : List (List branches.Branch)) → length nodes ≤ at → AreLeft world nodes at next left
      → left ≡ []
  left_ends at next left past behind =
      let skip : next - at ≡ 0 = omega (arith, past, behind.ends) in
      behind.is ∙ ap (λ n. replicate n none ++ placed_all world behind.trees) skip
      ∙ placed_none behind.trees (omega (arith, past, behind.ends))

-- What is done

module _ (world : World) (nodes : List PlanNode) (tree : MapTree) where
  done_begins : (read : List RulesRead) (entries : List Known) (made : Branches) → AreKnown world read entries
      → made.branches.items ≡ [] → made.spans.items ≡ [] → made.faults ≡ []
      → AreDone world nodes read entries made []
  done_begins read entries made known no_branches no_spans no_faults = record {
    known = known;
    are = subst (λ all. AreRead read nodes all []) (sym no_branches) tt;
    spans = no_spans;
    faults = no_faults;
  }

  pub reading_begins : (read : List RulesRead) (entries : List Known) (made : Branches) → AreKnown world read entries
      → made.branches.items ≡ [] → made.spans.items ≡ [] → made.faults ≡ [] → StandsAt nodes 0 0 tree
      → length nodes ≡ count tree → IsReading world nodes tree read entries made 0 0
  reading_begins read entries made known no_branches no_spans no_faults stands long = record {
    done = [];
    left = placed world tree;
    all = refl;
    before = done_begins read entries made known no_branches no_spans no_faults;
    behind = left_begins world nodes tree stands long;
  }

  -- a node is done: its branches were read, and its span was put behind the others
  module _ (old new : List RulesRead) (entries later : List Known) (made after done_now : Branches) (first count_now : ℕ)
      (branches_same : done_now.branches.items ≡ after.branches.items)
      (faults_same : done_now.faults ≡ after.faults)
      (spans_put : done_now.spans.items ≡ after.spans.items ++ record { first = first; count = count_now } ∷ [])
      (first_is : first ≡ length made.branches.items)
      (count_is : count_now ≡ length after.branches.items - length made.branches.items) where
    done_next : (done : List (List branches.Branch)) (own : List branches.Branch)
        → AreDone world nodes old entries made done → AreAppended world nodes old new later made after own
        → AreDone world nodes new later done_now (done ++ own ∷ [])
    done_next done own before read =
        let all = after.branches.items in
        let many : length made.branches.items ≡ 0 + length (branches_joined done) =
        omega (arith, read_length old nodes made.branches.items (branches_joined done) before.are) in
        let more : length all - length made.branches.items ≡ length own =
        omega (
          arith,
          ap length read.branches,
          length-append made.branches.items read.more,
          read_length new nodes read.more own read.are,
        ) in
        let span : Span = record { first = first; count = count_now } in
        let here : span ≡ span_of (0 + length (branches_joined done)) own =
        ap (λ n. record { first = n; count = count_now }) (first_is ∙ many)
        ∙ ap (λ n. record { first = 0 + length (branches_joined done); count = n }) (count_is ∙ more) in
        record {
          known = read.known;
          are = subst (λ l. AreRead new nodes l (branches_joined (done ++ own ∷ [])))
              (sym (branches_same ∙ read.branches))
              (subst (AreRead new nodes (made.branches.items ++ read.more)) (sym (joined_last done own))
              (read_append new nodes made.branches.items read.more (branches_joined done) own
              (read_longer old new nodes made.branches.items (branches_joined done) read.longer before.are) read.are));
          spans = spans_put ∙ ap (λ l. l ++ span ∷ []) (read.spans ∙ before.spans)
              ∙ ap (λ s. spans_of 0 done ++ s ∷ []) here ∙ sym (spans_last done 0 own);
          faults = faults_same ∙ read.faults ∙ ap (λ l. l ++ faults_in own) before.faults
              ∙ sym (faults_append (branches_joined done) own) ∙ ap faults_in (sym (joined_last done own));
        }

    reading_after : (at next end : ℕ) (so_far : IsReading world nodes tree old entries made at next)
        (own : List branches.Branch) (others : List (List branches.Branch)) → so_far.left ≡ own ∷ others
        → AreLeft world nodes (at + 1) end others → AreAppended world nodes old new later made after own
        → IsReading world nodes tree new later done_now (at + 1) end
    reading_after at next end so_far own others is behind read = record {
      done = so_far.done ++ own ∷ [];
      left = others;
      all = so_far.all ∙ ap (λ l. so_far.done ++ l) is ∙ sym (append_assoc so_far.done (own ∷ []) others);
      before = done_next so_far.done own so_far.before read;
      behind = behind;
    }

    pub reading_next : (at next end : ℕ) → at < length nodes → IsReading world nodes tree old entries made at next
        → (AreKnown world old entries → at < next
        → (end ≡ next) × AreAppended world nodes old new later made after [])
        → ((parent : ℕ) (head : Head) (below more : MapTree) → StandsAt nodes parent at (MapNode head below more)
        → AreKnown world old entries → next ≤ at → (end ≡ next_behind at head below)
        × AreAppended world nodes old new later made after (branches_of world head below))
        → IsReading world nodes tree new later done_now (at + 1) end
    reading_next at next end less so_far passed here = ⊎_elim
        (λ below. let one = passed so_far.before.known below in
        let rest = left_passed world nodes at next so_far.left below so_far.behind in
        reading_after at next end so_far [] rest.0 rest.1
        (subst (λ n. AreLeft world nodes (at + 1) n rest.0) (sym one.0) rest.2) one.1)
        (λ past. let rest = left_here world nodes at next so_far.left past less so_far.behind in
        let one = here rest.0 rest.1 rest.2 rest.3 rest.5 so_far.before.known past in
        reading_after at next end so_far (branches_of world rest.1 rest.2) rest.4 rest.6
        (subst (λ n. AreLeft world nodes (at + 1) n rest.4) (sym one.0) rest.7) one.1)
        (cases_lt at next)

  pub reading_ends : (read : List RulesRead) (entries : List Known) (made : Branches) (at next : ℕ)
      → length nodes ≤ at → IsReading world nodes tree read entries made at next → AllRead world read nodes tree made
  reading_ends read entries made at next past so_far =
      let whole : so_far.done ≡ placed world tree =
      sym (so_far.all ∙ ap (λ l. so_far.done ++ l) (left_ends world nodes at next so_far.left past so_far.behind)
      ∙ append-nil so_far.done) in
      record {
        defined = branches_joined (placed world tree);
        are = subst (λ l. AreRead read nodes made.branches.items (branches_joined l)) whole so_far.before.are;
        have = subst (λ spans. HaveBranches world spans (branches_joined (placed world tree)) 0 tree)
            (sym (so_far.before.spans ∙ ap (spans_of 0) whole)) (have_all world tree);
        faults = so_far.before.faults ∙ ap (λ l. faults_in (branches_joined l)) whole ∙ faults_all world tree;
      }
