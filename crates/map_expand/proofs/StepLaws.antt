-- The first node of a walk is gone over, and a walk or a map ends.
use Rattle.std.specs.Prelude.{◌≡◌, ◌<◌, ◌||◌, ℕ, zero, suc, Bool, true, false, List, [], ◌∷◌, ◌++◌, None, Some, length, get_or, bytes_eq, slice_get}
use Rattle.std.specs.List.{list_any}
use Rattle.std.proofs.Common.{refl, sym, ap, ◌∙◌, arith, set, subst}
use Rattle.std.proofs.lemmas.Bool.{false≢true}
use Rattle.std.proofs.lemmas.List.Folds.{list_any-append}
use Rattle.std.proofs.lemmas.Slice.Eq.{bytes_eq-Decides}
use Rattle.dita_doc.specs.declared.doc.Node as doc
use Rattle.dita_doc.specs.declared.fault.Fault.{Fault}
use Rattle.dita_doc.specs.declared.plan.PlanKind.{PlanKind}
use Rattle.dita_doc.specs.declared.plan.PlanNode.{PlanNode}
use Rattle.dita_doc.proofs.Tests.{or_first, or_second, same_text}
use Rattle.map_spec.specs.MapTree.{Grown, beside, with_faults}
use Rattle.map_spec.specs.Written.{Element}
use Rattle.reader_spec.specs.World.{World}
use Rattle.readers.specs.Founded as founded
use Rattle.readers.specs.Told.{Told}
use Rattle.map_expand.specs.AskedFor.{AreAsked}
use Rattle.map_expand.specs.Going.{AreApart, Ready, homes_of, path_at, rest, so_far}
use Rattle.map_expand.specs.Homes.{AreSiblings, Home, IsNodeOf, flags, home_at, name_at}
use Rattle.map_expand.specs.Making.{AllFit, MadeNodes, WalkFits, after, behind, content, grown_of, made_of, node_grown, path_of, put, put_faults}
use Rattle.map_expand.specs.declared.expansion.Expansion.{Expansion}
use Rattle.map_expand.specs.declared.maps.Maps.{Maps}
use Rattle.map_expand.specs.declared.work.Walk.{Walk}
use Rattle.map_expand.specs.declared.work.Work.{Work}
use Rattle.map_expand.specs.declared.work.Work.TheVariants as works
use Rattle.map_expand.proofs.LeftLaws.{steps_left_push}
use Rattle.map_expand.proofs.MakingLaws.{after_both, fits_front, fits_last, path_both, put_beside, put_with_faults}
use Rattle.map_expand.proofs.MakeLaws.{walk_left}
use Rattle.map_expand.proofs.ReadyLaws.{flag_else, flag_put, length_flags, maps_same, one_of_name}
use Rattle.map_expand.proofs.TellingLaws.{telling}

some_at : (nodes : List doc.Node) (at : ℕ) → at < length nodes → (node : doc.Node) × (slice_get nodes at ≡ Some node)
some_at [] at within = absurd (omega arith)
some_at (node ∷ nodes) zero within = (node, refl)
some_at (node ∷ nodes) (suc at) within = some_at nodes at (omega arith)

pub none_some : {A : Type 0} {a : A} → None ≡ Some a → ⊥
none_some same = cc

-- the node at the begin of a walk
pub node_there : (home : Home) (walk : Walk) → AreSiblings home walk.place walk.end → walk.place < walk.end
    → (node : doc.Node) × IsNodeOf home walk node
node_there home walk fits some =
    some_at home.nodes walk.place (omega (arith, fits.within))

module _ (world : World) (homes : List Home) (left now : List Work) (walk : Walk) (end : ℕ)
    (is : now ≡ left ++ works.Walk (behind walk end) ∷ []) where
  path_same : path_of homes now ≡ path_of homes left
  path_same = ap (path_of homes) is ∙ path_both homes [] left (works.Walk (behind walk end) ∷ [])

  pub stepped_nothing : (made : MadeNodes)
      → grown_of world (path_of homes left) (home_at homes walk.map) walk
      ≡ grown_of world (path_of homes left) (home_at homes walk.map) (behind walk end)
      → after world homes [] now made
      ≡ after world homes [] left (put walk.parent (grown_of world (path_of homes left) (home_at homes walk.map) walk) made)
  stepped_nothing made same =
      walk_left world homes left now (behind walk end) made is
      ∙ ap (λ g. after world homes [] left (put walk.parent g made)) (sym same)

  pub stepped_node : (kind : PlanKind) (element : Element) (made : MadeNodes)
      → grown_of world (path_of homes left) (home_at homes walk.map) walk
      ≡ beside (node_grown world (path_of homes left) (home_at homes walk.map) walk kind element end)
      (grown_of world (path_of homes left) (home_at homes walk.map) (behind walk end))
      → after world homes [] now
      (put walk.parent (node_grown world (path_of homes now) (home_at homes walk.map) walk kind element end) made)
      ≡ after world homes [] left (put walk.parent (grown_of world (path_of homes left) (home_at homes walk.map) walk) made)
  stepped_node kind element made both =
      let home = home_at homes walk.map in
      let node : Grown = node_grown world (path_of homes left) home walk kind element end in
      ap (λ p. after world homes [] now (put walk.parent (node_grown world p home walk kind element end) made)) path_same
      ∙ walk_left world homes left now (behind walk end) (put walk.parent node made) is
      ∙ ap (after world homes [] left)
      (sym (put_beside walk.parent node (grown_of world (path_of homes left) home (behind walk end)) made))
      ∙ ap (λ g. after world homes [] left (put walk.parent g made)) (sym both)

  pub stepped_content : (more : List Work) (nodes new : List PlanNode) (faults found others : List Fault)
      → more ≡ now ++ works.Walk (content walk end) ∷ [] → new ≡ nodes → others ≡ faults ++ found
      → grown_of world (path_of homes left) (home_at homes walk.map) walk
      ≡ beside (with_faults found (grown_of world (path_of homes left) (home_at homes walk.map) (content walk end)))
      (grown_of world (path_of homes left) (home_at homes walk.map) (behind walk end))
      → after world homes [] more (made_of new others)
      ≡ after world homes [] left
      (put walk.parent (grown_of world (path_of homes left) (home_at homes walk.map) walk) (made_of nodes faults))
  stepped_content more nodes new faults found others last kept added both =
      let home = home_at homes walk.map in
      let inner : Grown = grown_of world (path_of homes left) home (content walk end) in
      walk_left world homes now more (content walk end) (made_of new others) last
      ∙ ap (λ p. after world homes [] now (put walk.parent (grown_of world p home (content walk end)) (made_of new others))) path_same
      ∙ ap (λ m. after world homes [] now (put walk.parent inner m)) (made_list kept added)
      ∙ ap (after world homes [] now) (sym (put_with_faults walk.parent found inner (made_of nodes faults)))
      ∙ walk_left world homes left now (behind walk end) (put walk.parent (with_faults found inner) (made_of nodes faults)) is
      ∙ ap (after world homes [] left) (sym (put_beside walk.parent (with_faults found inner)
      (grown_of world (path_of homes left) home (behind walk end)) (made_of nodes faults)))
      ∙ ap (λ g. after world homes [] left (put walk.parent g (made_of nodes faults))) (sym both)
    where
      made_list : new ≡ nodes → others ≡ faults ++ found
          → made_of new others ≡ put_faults found (made_of nodes faults)
      made_list kept added = ap (λ n. made_of n others) kept ∙ ap (made_of nodes) added

-- Work is taken

pub walk_taken : (told : List Told) (maps : Maps) (x y : Expansion) (walk : Walk) → Ready told maps x
    → x.nodes ≡ y.nodes → x.left.items ≡ y.left.items ++ works.Walk walk ∷ []
    → Ready told maps y × WalkFits (homes_of maps) (length y.nodes) walk
walk_taken told maps x y walk ready nodes is =
    let homes = homes_of maps in
    let all = subst (AllFit homes (length y.nodes)) is
    (subst (λ n. AllFit homes (length n) x.left.items) nodes ready.work) in
    let same : path_of homes x.left.items ≡ path_of homes y.left.items =
    ap (path_of homes) is ∙ path_both homes [] y.left.items (works.Walk walk ∷ []) in (
      record {
        maps_fit = ready.maps_fit;
        work = fits_front homes (length y.nodes) y.left.items (works.Walk walk ∷ []) all;
        around = λ at within. ready.around at within ∙ ap (list_any (bytes_eq (name_at homes at))) same;
        apart = subst AreApart same ready.apart;
        asked = subst (λ n. AreAsked told (founded.homes n)) nodes ready.asked;
      },
      fits_last homes (length y.nodes) y.left.items (works.Walk walk) all,
    )

-- A map is left

other_way : (a b : List ℕ) → bytes_eq a b ≡ false → bytes_eq b a ≡ false
other_way a b e = by_test (bytes_eq b a) refl
  where
    by_test : (test : Bool) → bytes_eq b a ≡ test → bytes_eq b a ≡ false
    by_test false t = t
    by_test true t = absurd (false≢true (sym e ∙ (bytes_eq-Decides a b).1 (sym ((bytes_eq-Decides b a).0 t))))

-- names of which the last is none of the others
pub apart_front : (names : List (List ℕ)) (name : List ℕ) → AreApart (names ++ name ∷ [])
    → AreApart names × (list_any (bytes_eq name) names ≡ false)
apart_front [] name apart = (tt, refl)
apart_front (first ∷ names) name apart =
    let others = apart_front names name apart.1 in
    let none = sym (list_any-append (bytes_eq first) names (name ∷ [])) ∙ apart.0 in
    let differ : bytes_eq name first ≡ false =
    other_way first name (or_first (bytes_eq first name) false (or_second (list_any (bytes_eq first) names) _ none)) in
    ((or_first (list_any (bytes_eq first) names) _ none, others.0), both_false _ _ differ others.1)
  where
    both_false : (a b : Bool) → a ≡ false → b ≡ false → (a || b) ≡ false
    both_false a b e f = rw (e, f) refl

neither : (b : Bool) → (b || (false || false)) ≡ b
neither true = refl
neither false = refl

pub map_left : (told : List Told) (maps new : Maps) (x y : Expansion) (at : ℕ) → Ready told maps x
    → x.nodes ≡ y.nodes → x.left.items ≡ y.left.items ++ works.Leave at ∷ [] → new.known ≡ maps.known
    → homes_of new ≡ homes_of maps → flags new.maps.items ≡ set (flags maps.maps.items) at false
    → Ready told new y
map_left told maps new x y at ready nodes is known same flagged =
    let homes = homes_of maps in
    let path = path_of homes y.left.items in
    let all = subst (AllFit homes (length y.nodes)) is
    (subst (λ n. AllFit homes (length n) x.left.items) nodes ready.work) in
    let there : at < length homes = fits_last homes (length y.nodes) y.left.items (works.Leave at) all in
    let path_is : path_of homes x.left.items ≡ path ++ name_at homes at ∷ [] =
    ap (path_of homes) is ∙ path_both homes [] y.left.items (works.Leave at ∷ []) in
    let apart = apart_front path (name_at homes at) (subst AreApart path_is ready.apart) in
    let path_new : path_of (homes_of new) y.left.items ≡ path = ap (λ h. path_of h y.left.items) same in
    record {
      maps_fit = maps_same told maps new known same ready.maps_fit;
      work = subst (λ h. AllFit h (length y.nodes) y.left.items) (sym same)
          (fits_front homes (length y.nodes) y.left.items (works.Leave at ∷ []) all);
      around = λ k within.
          let inside : k < length homes = subst (λ h. k < length h) same within in
          ap (λ f. get_or f k false) flagged
          ∙ by_name k inside there path_is apart.1 (bytes_eq (name_at homes k) (name_at homes at)) refl
          ∙ ap (λ h. list_any (bytes_eq (name_at h k)) path) (sym same)
          ∙ ap (list_any (bytes_eq (name_at (homes_of new) k))) (sym path_new);
      apart = subst AreApart (sym path_new) apart.0;
      asked = subst (λ n. AreAsked told (founded.homes n)) nodes ready.asked;
    }
  where
    by_name : (k : ℕ) → k < length (homes_of maps) → at < length (homes_of maps)
        → path_of (homes_of maps) x.left.items ≡ path_of (homes_of maps) y.left.items ++ name_at (homes_of maps) at ∷ []
        → list_any (bytes_eq (name_at (homes_of maps) at)) (path_of (homes_of maps) y.left.items) ≡ false
        → (test : Bool) → bytes_eq (name_at (homes_of maps) k) (name_at (homes_of maps) at) ≡ test
        → get_or (set (flags maps.maps.items) at false) k false
        ≡ list_any (bytes_eq (name_at (homes_of maps) k)) (path_of (homes_of maps) y.left.items)
    by_name k inside there path_is none true e =
        let named = same_text _ _ e in
        let one : k ≡ at = one_of_name told maps k at ready.maps_fit inside there named in
        ap (λ n. get_or (set (flags maps.maps.items) at false) n false) one
        ∙ flag_put (flags maps.maps.items) at false (omega (arith, length_flags maps.maps.items))
        ∙ sym none ∙ ap (λ n. list_any (bytes_eq n) (path_of (homes_of maps) y.left.items)) (sym named)
    by_name k inside there path_is none false e =
        flag_else (flags maps.maps.items) at k false (λ same. false≢true (sym e
        ∙ (bytes_eq-Decides (name_at (homes_of maps) k) (name_at (homes_of maps) at)).1 (ap (name_at (homes_of maps)) same)))
        ∙ ready.around k inside ∙ ap (list_any (bytes_eq (name_at (homes_of maps) k))) path_is
        ∙ list_any-append (bytes_eq (name_at (homes_of maps) k)) (path_of (homes_of maps) y.left.items)
        (name_at (homes_of maps) at ∷ [])
        ∙ ap (λ b. list_any (bytes_eq (name_at (homes_of maps) k)) (path_of (homes_of maps) y.left.items) || (b || false)) e
        ∙ neither (list_any (bytes_eq (name_at (homes_of maps) k)) (path_of (homes_of maps) y.left.items))

pub left_after : (world : World) (homes : List Home) (left now : List Work) (at : ℕ) (made : MadeNodes)
    → now ≡ left ++ works.Leave at ∷ [] → after world homes [] now made ≡ after world homes [] left made
left_after world homes left now at made is =
    ap (λ l. after world homes [] l made) is ∙ after_both world homes [] left (works.Leave at ∷ []) made

-- The loop over what is left

-- what there is in the end is the same when a walk is taken, and its first node is gone over
module _ (world : World) (maps : Maps) (x y : Expansion) (work : Work) (is : x.left.items ≡ y.left.items ++ work ∷ [])
    (same : so_far x ≡ so_far y) where
  pub rest_walk : (walk : Walk) → work ≡ works.Walk walk → rest world maps x (so_far x)
      ≡ rest world maps y (put walk.parent (grown_of world (path_at maps y) (home_at (homes_of maps) walk.map) walk) (so_far y))
  rest_walk walk what =
      walk_left world (homes_of maps) y.left.items x.left.items walk (so_far x)
      (is ∙ ap (λ w. y.left.items ++ w ∷ []) what)
      ∙ ap (λ m. rest world maps y (put walk.parent (grown_of world (path_at maps y) (home_at (homes_of maps) walk.map) walk) m)) same

  pub rest_leave : (new : Maps) (at : ℕ) → work ≡ works.Leave at → homes_of new ≡ homes_of maps
      → rest world new y (so_far y) ≡ rest world maps x (so_far x)
  rest_leave new at what homes =
      ap (λ h. after world h [] y.left.items (so_far y)) homes
      ∙ ap (after world (homes_of maps) [] y.left.items) (sym same)
      ∙ sym (left_after world (homes_of maps) y.left.items x.left.items at (so_far x)
      (is ∙ ap (λ w. y.left.items ++ w ∷ []) what))

-- what closes most claims of a step
pub ruleset stepping = (steps_left_push, telling)
