-- The ditavalrefs among the children of a node, one after the other.
use Rattle.std.specs.Prelude.{◌≡◌, ◌+◌, ◌<◌, ◌≤◌, ◌++◌, ℕ, Bool, true, false, List, [], ◌∷◌, if◌then◌else◌}
use Rattle.std.proofs.Common.{refl, sym, ap, subst, ◌∙◌, append-nil, append_assoc, arith}
use Rattle.dita_doc.specs.declared.plan.PlanNode.{PlanNode}
use Rattle.ditaval_rules.specs.declared.rules.RulesRead.{RulesRead}
use Rattle.map_spec.specs.Branches.{ditavalrefs, is_ditavalref}
use Rattle.map_spec.specs.MapTree.{Head, MapTree, MapNode, NoNodes, count}
use Rattle.reader_spec.specs.World.{World}
use Rattle.branch_copies.specs.Appended.{AreAppended, AreRefsRead, RefsLeft, branches_for, if_ditavalref}
use Rattle.plan_nodes.specs.HomeDocs.{Known}
use Rattle.branch_copies.specs.Ditavals.{AreKnown}
use Rattle.branch_copies.specs.Stands.{StandsAt, end_at, next_at}
use Rattle.branch_copies.specs.declared.branches.Branches.{Branches}
use Rattle.branch_copies.proofs.AppendedLaws.{appended_none, appended_then, branches_both}
use Rattle.branch_copies.proofs.StandLaws.{end_stands, next_stands}

refs_of : (head : Head) (below more : MapTree)
    → ditavalrefs (MapNode head below more) ≡ if_ditavalref head ++ ditavalrefs more
refs_of head below more = by_test (is_ditavalref head.kind)
  where
    by_test : (test : Bool) → (if test then head ∷ ditavalrefs more else ditavalrefs more)
        ≡ (if test then head ∷ [] else []) ++ ditavalrefs more
    by_test true = refl
    by_test false = refl

-- a child is here, and its next sibling behind it
abbrev pub NextRef : (nodes : List PlanNode) (at end child next : ℕ) (below : MapTree) (done : List Head) → Type 0
NextRef nodes at end child next below done =
    (head : Head) × (inside : MapTree) × (rest : MapTree) × StandsAt nodes at child (MapNode head inside rest)
    × RefsLeft nodes at end next below (done ++ if_ditavalref head)

next_by : (nodes : List PlanNode) (at end child next : ℕ) (below left : MapTree) (done : List Head) → child < end
    → next ≡ next_at nodes child → StandsAt nodes at child left → child + count left ≡ end
    → done ++ ditavalrefs left ≡ ditavalrefs below → NextRef nodes at end child next below done
next_by nodes at end child next below NoNodes done less is stands ends all = absurd (omega arith)
next_by nodes at end child next below (MapNode head inside rest) done less is stands ends all =
    let next_is : next ≡ child + 1 + count inside = is ∙ next_stands nodes at child head inside rest stands in (
      head,
      inside,
      rest,
      stands,
      record {
        left = rest;
        stands = subst (λ place. StandsAt nodes at place rest) (sym next_is) stands.2;
        ends = omega (arith, next_is, ends);
        all = append_assoc done (if_ditavalref head) (ditavalrefs rest)
            ∙ ap (λ l. done ++ l) (sym (refs_of head inside rest)) ∙ all;
      },
    )

refs_end : (child : ℕ) (left below : MapTree) (done : List Head) → count left ≡ 0
    → done ++ ditavalrefs left ≡ ditavalrefs below → done ≡ ditavalrefs below
refs_end child NoNodes below done none all = sym (append-nil done) ∙ all
refs_end child (MapNode head inside rest) below done none all = absurd (omega arith)

-- They are read

module _ (world : World) (nodes : List PlanNode) (old : List RulesRead) (before : Branches) (at end : ℕ)
    (below : MapTree) where
  pub refs_begin : (parent child : ℕ) (head : Head) (more : MapTree) (entries : List Known) → child ≡ at + 1
      → end ≡ end_at nodes at → StandsAt nodes parent at (MapNode head below more) → AreKnown world old entries
      → AreRefsRead world nodes old old entries before before at end child below
  refs_begin parent child head more entries first is stands known = record {
    done = [];
    left = record {
      left = below;
      stands = subst (λ place. StandsAt nodes at place below) (sym first) stands.1;
      ends = ap (λ place. place + count below) first ∙ sym (is ∙ end_stands nodes parent at head below more stands);
      all = refl;
    };
    read = appended_none world nodes old entries before known;
  }

  pub refs_next : (read new : List RulesRead) (entries later : List Known) (made after : Branches) (child next : ℕ)
      → child < end → next ≡ next_at nodes child
      → AreRefsRead world nodes old read entries before made at end child below
      → ((head : Head) (inside rest : MapTree) → StandsAt nodes at child (MapNode head inside rest)
      → AreKnown world read entries
      → AreAppended world nodes read new later made after (branches_for world (if_ditavalref head)))
      → AreRefsRead world nodes old new later before after at end next below
  refs_next read new entries later made after child next less is so_far one =
      let here : NextRef nodes at end child next below so_far.done =
      next_by nodes at end child next below so_far.left.left so_far.done less is so_far.left.stands so_far.left.ends
      so_far.left.all in
      let head : Head = here.0 in
      record {
        done = so_far.done ++ if_ditavalref head;
        left = here.4;
        read = subst (AreAppended world nodes old new later before after)
            (branches_both world so_far.done (if_ditavalref head))
            (appended_then world nodes old read new entries later before made after (branches_for world so_far.done)
            (branches_for world (if_ditavalref head)) so_far.read
            (one head here.1 here.2 here.3 so_far.read.known));
      }

  pub refs_end_read : (new : List RulesRead) (entries : List Known) (after : Branches) (child : ℕ) → end ≤ child
      → AreRefsRead world nodes old new entries before after at end child below
      → AreAppended world nodes old new entries before after (branches_for world (ditavalrefs below))
  refs_end_read new entries after child past so_far =
      subst (λ refs. AreAppended world nodes old new entries before after (branches_for world refs))
      (refs_end child so_far.left.left below so_far.done (omega (arith, so_far.left.ends)) so_far.left.all) so_far.read
