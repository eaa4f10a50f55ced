-- What work makes: trees one behind another, and work on top of other work.
use Rattle.std.specs.Prelude.{◌≡◌, ◌+◌, ◌<◌, ◌≤◌, ℕ, zero, suc, List, [], ◌∷◌, ◌++◌, length}
use Rattle.std.proofs.Common.{refl, sym, ap, ◌∙◌, arith, append_assoc, append-nil, length-append}
use Rattle.dita_doc.specs.declared.fault.Fault.{Fault}
use Rattle.dita_doc.specs.declared.plan.PlanNode.{PlanNode}
use Rattle.map_spec.specs.MapTree.{Grown, Head, beneath, beside, count, no_growth, node_of, nodes_below, with_faults}
use Rattle.plan_nodes.specs.Preorder.{without_end}
use Rattle.reader_spec.specs.World.{World}
use Rattle.map_lemmas.proofs.TreeLaws.{below_beside, length_below}
use Rattle.map_expand.specs.Homes.{Home, home_at}
use Rattle.map_expand.specs.Making.{AllFit, MadeNodes, WorkFits, after, done_by, path_after, path_in, put, put_faults, without_ends}
use Rattle.map_expand.specs.declared.work.Work.{Work}
use Rattle.map_expand.specs.declared.work.Work.TheVariants as works

-- Trees

pub length_without : (nodes : List PlanNode) → length (without_ends nodes) ≡ length nodes
length_without [] = refl
length_without (node ∷ nodes) = ap suc (length_without nodes)

pub without_both : (nodes more : List PlanNode) → without_ends (nodes ++ more) ≡ without_ends nodes ++ without_ends more
without_both [] more = refl
without_both (node ∷ nodes) more = ap (λ others. without_end node ∷ others) (without_both nodes more)

pub made_same : (nodes other : List PlanNode) (faults more : List Fault) → nodes ≡ other → faults ≡ more
    → (let made : MadeNodes = record { nodes = nodes; faults = faults } in made)
    ≡ record { nodes = other; faults = more }
made_same nodes other faults more same alike = rw (same, alike) refl

pub put_beside : (parent : ℕ) (first second : Grown) (made : MadeNodes)
    → put parent (beside first second) made ≡ put parent second (put parent first made)
put_beside parent first second made =
    let place = length made.nodes in
    let front = nodes_below parent place first.tree in
    let there : length (made.nodes ++ without_ends front) ≡ place + count first.tree = omega (
      arith,
      length-append made.nodes (without_ends front),
      length_without front,
      length_below parent place first.tree,
    ) in
    made_same _ _ _ _
    (ap (λ nodes. made.nodes ++ without_ends nodes) (below_beside parent place first.tree second.tree)
    ∙ ap (λ nodes. made.nodes ++ nodes) (without_both front (nodes_below parent (place + count first.tree) second.tree))
    ∙ sym (append_assoc made.nodes (without_ends front) (without_ends (nodes_below parent (place + count first.tree) second.tree)))
    ∙ ap (λ n. (made.nodes ++ without_ends front) ++ without_ends (nodes_below parent n second.tree)) (sym there))
    (sym (append_assoc made.faults first.faults second.faults))

pub put_with_faults : (parent : ℕ) (faults : List Fault) (grown : Grown) (made : MadeNodes)
    → put parent (with_faults faults grown) made ≡ put parent grown (put_faults faults made)
put_with_faults parent faults grown made =
    made_same _ _ _ _ refl (sym (append_assoc made.faults faults grown.faults))

pub put_nothing : (parent : ℕ) (made : MadeNodes) → put parent no_growth made ≡ made
put_nothing parent made = made_same _ _ _ _ (append-nil made.nodes) (append-nil made.faults)

-- a node, and those below it behind it
abbrev pub put_node : Head → ℕ → MadeNodes → MadeNodes
put_node head parent made = record {
  nodes = made.nodes ++ without_end (node_of head parent 0) ∷ [];
  faults = made.faults;
}

pub put_beneath : (parent : ℕ) (head : Head) (below : Grown) (made : MadeNodes)
    → put parent (beneath head below) made ≡ put (length made.nodes) below (put_node head parent made)
put_beneath parent head below made =
    let place = length made.nodes in
    let node = without_end (node_of head parent 0) in
    let there : length (made.nodes ++ node ∷ []) ≡ place + 1 = omega (arith, length-append made.nodes (node ∷ [])) in
    made_same _ _ _ _
    (ap (λ nodes. made.nodes ++ node ∷ without_ends nodes) (append-nil (nodes_below place (place + 1) below.tree))
    ∙ ap (λ n. made.nodes ++ node ∷ without_ends (nodes_below place n below.tree)) (sym there)
    ∙ sym (append_assoc made.nodes (node ∷ []) (without_ends (nodes_below place (length (made.nodes ++ node ∷ [])) below.tree))))
    refl

-- Work

module _ (world : World) (homes : List Home) where
  pub after_both : (path : List (List ℕ)) (front back : List Work) (made : MadeNodes)
      → after world homes path (front ++ back) made
      ≡ after world homes path front (after world homes (path_after homes path front) back made)
  after_both path [] back made = refl
  after_both path (work ∷ front) back made =
      ap (done_by world homes path work) (after_both (path_in homes path work) front back made)

pub path_both : (homes : List Home) (path : List (List ℕ)) (front back : List Work)
    → path_after homes path (front ++ back) ≡ path_after homes (path_after homes path front) back
path_both homes path [] back = refl
path_both homes path (work ∷ front) back = path_both homes (path_in homes path work) front back

-- More maps

pub home_still : (homes more : List Home) (at : ℕ) → at < length homes → home_at (homes ++ more) at ≡ home_at homes at
home_still [] more at inside = absurd (omega arith)
home_still (home ∷ homes) more zero inside = refl
home_still (home ∷ homes) more (suc at) inside = home_still homes more at (omega arith)

-- what a work makes, and what stands above it, is the same with more maps
module _ (world : World) (homes more : List Home) (n : ℕ) where
  path_still : (path : List (List ℕ)) (work : Work) → WorkFits homes n work
      → path_in (homes ++ more) path work ≡ path_in homes path work
  path_still path (works.Walk walk) fits = refl
  path_still path (works.Leave at) fits = ap (λ (home : Home). path ++ home.name ∷ []) (home_still homes more at fits)

  done_still : (path : List (List ℕ)) (work : Work) (made : MadeNodes) → WorkFits homes n work
      → done_by world (homes ++ more) path work made ≡ done_by world homes path work made
  done_still path (works.Walk walk) made fits = rw (home_still homes more walk.map fits.on.map) refl
  done_still path (works.Leave at) made fits = refl

  pub after_still : (path : List (List ℕ)) (all : List Work) (made : MadeNodes) → AllFit homes n all
      → after world (homes ++ more) path all made ≡ after world homes path all made
  after_still path [] made fits = refl
  after_still path (work ∷ all) made fits =
      ap (λ inner. done_by world (homes ++ more) path work (after world (homes ++ more) inner all made))
      (path_still path work fits.0)
      ∙ ap (done_by world (homes ++ more) path work) (after_still (path_in homes path work) all made fits.1)
      ∙ done_still path work _ fits.0

  pub path_after_still : (path : List (List ℕ)) (all : List Work) → AllFit homes n all
      → path_after (homes ++ more) path all ≡ path_after homes path all
  path_after_still path [] fits = refl
  path_after_still path (work ∷ all) fits =
      ap (λ inner. path_after (homes ++ more) inner all) (path_still path work fits.0)
      ∙ path_after_still (path_in homes path work) all fits.1

-- Work that fits

pub fits_both : (homes : List Home) (n : ℕ) (front back : List Work) → AllFit homes n front → AllFit homes n back
    → AllFit homes n (front ++ back)
fits_both homes n [] back fits too = too
fits_both homes n (work ∷ front) back fits too = (fits.0, fits_both homes n front back fits.1 too)

pub fits_front : (homes : List Home) (n : ℕ) (front back : List Work) → AllFit homes n (front ++ back)
    → AllFit homes n front
fits_front homes n [] back fits = tt
fits_front homes n (work ∷ front) back fits = (fits.0, fits_front homes n front back fits.1)

pub fits_last : (homes : List Home) (n : ℕ) (front : List Work) (work : Work) → AllFit homes n (front ++ work ∷ [])
    → WorkFits homes n work
fits_last homes n [] work fits = fits.0
fits_last homes n (other ∷ front) work fits = fits_last homes n front work fits.1

-- it fits with more maps, and when more nodes were made
work_more : (homes more : List Home) (n m : ℕ) (work : Work) → n ≤ m → WorkFits homes n work
    → WorkFits (homes ++ more) m work
work_more homes more n m (works.Walk walk) less fits = record {
  on = record {
    map = omega (arith, length-append homes more, fits.on.map);
    siblings = rw (home_still homes more walk.map fits.on.map) fits.on.siblings;
  };
  level = omega (arith, fits.level);
}
work_more homes more n m (works.Leave at) less fits = omega (arith, length-append homes more, fits)

pub fits_more : (homes more : List Home) (n m : ℕ) (all : List Work) → n ≤ m → AllFit homes n all
    → AllFit (homes ++ more) m all
fits_more homes more n m [] less fits = tt
fits_more homes more n m (work ∷ all) less fits =
    (work_more homes more n m work less fits.0, fits_more homes more n m all less fits.1)
