-- Blocks of stored documents: where a name belongs, and what an edit of one block leaves.
use Rattle.std.proofs.Common.{◌≡◌, ℕ, suc, ◌+◌, ◌<◌, ◌≤◌, Bool, true, false, List, [], ◌∷◌, ◌++◌, Some, None, refl, length, get_or, take, drop, set, sym, ap, ◌∙◌, subst, arith, cond, not, length-append, append_assoc, add-zero}
use Rattle.std.specs.List.{insert, remove, AllZip}
use Rattle.std.specs.Arc.{arc_value}
use Rattle.std.specs.Int.{from_bool}
use Rattle.std.specs.Ordering.{nat_cmp, is_gt}
use Rattle.std.specs.Cmp.Lexicographic.{slice_cmp}
use Rattle.std.specs.declared.cmp.Ordering.TheVariants.{Less, Equal, Greater}
use Rattle.std.proofs.lemmas.Bool.{false≢true}
use Rattle.std.proofs.lemmas.Cmp.{nat_list_cmp_total}
use Rattle.std.proofs.lemmas.Option.{none-some}
use Rattle.std.proofs.lemmas.List.{take-append-drop, length-take-le, get_or_at, set_at, take_at, drop_at, drop_more, append-nil, get_or_default}
use Rattle.std.proofs.lemmas.List.Concat.{flat_map-append}
use Rattle.dita_doc.specs.Desk.{Stored, State, IsBelowAll, IsSortedByName, is_named, stored_under, with_stored, without_name}
use Rattle.dita_doc.specs.Sources.{AreBelow, Shared, IsBlockFor, IsShorterThan, all_stored, begins_above}
use Rattle.dita_doc.proofs.NameOrder.{below_from_above, same_from_equal, below_all_lower, found_behind, found_above, without_behind, without_above, with_order, with_behind, with_above, below_sorted, sorted_back}

-- what is above all of the back is found, stored and taken away in the front alone
found_before : (front back : State) (name : List ℕ) → IsBelowAll name back
    → stored_under (front ++ back) name ≡ stored_under front name
found_before [] back name above = found_above back name above
found_before (stored ∷ front) back name above =
    ap (λ rest. cond (is_named name stored) (Some stored) rest) (found_before front back name above)

with_before : (front back : State) (new : Stored) → IsBelowAll new.name back
    → with_stored new (front ++ back) ≡ with_stored new front ++ back
with_before [] back new above = with_above back new above
with_before (stored ∷ front) back new above =
    let rest = with_before front back new above in
    elim (slice_cmp nat_cmp new.name stored.name) as
    (λ order. with_order new stored (front ++ back) order ≡ with_order new stored front order ++ back)
    [ Less ↦ refl | Equal ↦ refl | Greater ↦ ap (λ all. stored ∷ all) rest ]

without_before : (front back : State) (name : List ℕ) → IsBelowAll name back
    → without_name name (front ++ back) ≡ without_name name front ++ back
without_before [] back name above = without_above back name above
without_before (stored ∷ front) back name above =
    let rest = without_before front back name above in
    elim (is_named name stored) as (λ b.
    cond (not b) (stored ∷ without_name name (front ++ back)) (without_name name (front ++ back))
    ≡ cond (not b) (stored ∷ without_name name front) (without_name name front) ++ back)
    [ true ↦ rest | false ↦ ap (λ all. stored ∷ all) rest ]

-- a document that stands alone leaves nothing
without_alone : (state : State) (name : List ℕ) (stored : Stored) → length state ≤ 1
    → Some stored ≡ stored_under state name → without_name name state ≡ []
without_alone [] name stored few stands = absurd (none-some stored (sym stands))
without_alone (first ∷ second ∷ state) name stored few stands = absurd (omega arith)
without_alone (first ∷ []) name stored few stands =
    let by_test : is_named name first ≡ is_named name first → without_name name (first ∷ []) ≡ [] =
    elim (is_named name first) as (λ b. is_named name first ≡ b → cond (not b) (first ∷ []) [] ≡ []) [
      | true ↦ λ e. refl
      | false ↦ λ e. absurd (none-some stored (sym (stands ∙ ap (λ b. cond b (Some first) None) e)))
    ] in
    by_test refl

-- what the blocks hold, with one of them told apart
pub all_parts : (front back : List Shared) (block : Shared)
    → all_stored (front ++ block ∷ back) ≡ all_stored front ++ (arc_value block ++ all_stored back)
all_parts front back block = flat_map-append (λ (b : Shared). arc_value b) front (block ∷ back)

pub cut_at : (blocks : List Shared) (at : ℕ) (block : Shared) → at < length blocks → block ≡ get_or blocks at block
    → blocks ≡ take at blocks ++ block ∷ drop (at + 1) blocks
cut_at blocks at block within is =
    sym (take-append-drop at blocks)
    ∙ ap (λ rest. take at blocks ++ rest) (drop_more blocks at block within)
    ∙ ap (λ b. take at blocks ++ b ∷ drop (at + 1) blocks) (sym is)

-- the block that a name belongs to decides
module _ (blocks : List Shared) (name : List ℕ) (at : ℕ) (here : IsBlockFor blocks name at) where
  pub block_within : at < length blocks
  block_within = rw here.whole (omega (arith, length-append here.front (here.block ∷ here.back), here.place))

  pub block_read : (block : Shared) → block ≡ get_or blocks at block → block ≡ here.block
  block_read block is = is ∙ ap (λ all. get_or all at block) here.whole
      ∙ get_or_at here.front here.block here.back block at here.place

  parts : all_stored blocks ≡ all_stored here.front ++ (arc_value here.block ++ all_stored here.back)
  parts = ap all_stored here.whole ∙ all_parts here.front here.back here.block

  pub found_there : (block : Shared) → block ≡ get_or blocks at block
      → stored_under (all_stored blocks) name ≡ stored_under (arc_value block) name
  found_there block is =
      ap (λ all. stored_under all name) parts
      ∙ found_behind (all_stored here.front) (arc_value here.block ++ all_stored here.back) name here.below
      ∙ found_before (arc_value here.block) (all_stored here.back) name here.above
      ∙ ap (λ (b : Shared). stored_under (arc_value b) name) (sym (block_read block is))

  -- another block in its place
  pub all_with : (new : Shared)
      → all_stored (set blocks at new) ≡ all_stored here.front ++ (arc_value new ++ all_stored here.back)
  all_with new =
      ap (λ all. all_stored (set all at new)) here.whole
      ∙ ap all_stored (set_at here.front here.block here.back new at here.place)
      ∙ all_parts here.front here.back new

  pub unchanged_there : (block new : Shared) → block ≡ get_or blocks at block → arc_value new ≡ arc_value block
      → all_stored (set blocks at new) ≡ all_stored blocks
  unchanged_there block new is same =
      all_with new
      ∙ ap (λ held. all_stored here.front ++ (held ++ all_stored here.back))
      (same ∙ ap (λ (b : Shared). arc_value b) (block_read block is))
      ∙ sym parts

  pub more_there : (block new : Shared) (more : ℕ) → block ≡ get_or blocks at block
      → length (arc_value new) ≡ length (arc_value block) + more
      → length (all_stored (set blocks at new)) ≡ length (all_stored blocks) + more
  more_there block new more is count =
      let front = all_stored here.front in
      let back = all_stored here.back in
      let held = ap (λ (b : Shared). length (arc_value b)) (block_read block is) in
      rw (all_with new, parts)
      (omega (
        arith,
        length-append front (arc_value new ++ back),
        length-append (arc_value new) back,
        length-append front (arc_value here.block ++ back),
        length-append (arc_value here.block) back,
        held,
      ))

  pub fewer_there : (block new : Shared) (fewer : ℕ) → block ≡ get_or blocks at block
      → length (arc_value new) + fewer ≡ length (arc_value block)
      → length (all_stored (set blocks at new)) + fewer ≡ length (all_stored blocks)
  fewer_there block new fewer is count =
      let front = all_stored here.front in
      let back = all_stored here.back in
      let held = ap (λ (b : Shared). length (arc_value b)) (block_read block is) in
      rw (all_with new, parts)
      (omega (
        arith,
        length-append front (arc_value new ++ back),
        length-append (arc_value new) back,
        length-append front (arc_value here.block ++ back),
        length-append (arc_value here.block) back,
        held,
      ))

  pub without_there : (block new : Shared) → block ≡ get_or blocks at block
      → arc_value new ≡ without_name name (arc_value block)
      → all_stored (set blocks at new) ≡ without_name name (all_stored blocks)
  without_there block new is same =
      let front = all_stored here.front in
      let back = all_stored here.back in
      all_with new
      ∙ ap (λ held. front ++ (held ++ back))
      (same ∙ ap (λ (b : Shared). without_name name (arc_value b)) (block_read block is))
      ∙ ap (λ rest. front ++ rest) (sym (without_before (arc_value here.block) back name here.above))
      ∙ sym (without_behind front (arc_value here.block ++ back) name here.below)
      ∙ ap (without_name name) (sym parts)

  -- a block that holds nothing but the name goes
  all_gone : all_stored (remove blocks at) ≡ all_stored here.front ++ all_stored here.back
  all_gone =
      ap (λ all. all_stored (take at all ++ drop (suc at) all)) here.whole
      ∙ ap (λ all. all_stored (all ++ drop (suc at) (here.front ++ here.block ∷ here.back)))
      (take_at here.front (here.block ∷ here.back) at here.place)
      ∙ ap (λ all. all_stored (here.front ++ drop (suc at) all))
      (sym (append_assoc here.front (here.block ∷ []) here.back))
      ∙ ap (λ all. all_stored (here.front ++ all))
      (drop_at (here.front ++ here.block ∷ []) here.back (suc at)
      (omega (arith, length-append here.front (here.block ∷ []), here.place)))
      ∙ flat_map-append (λ (b : Shared). arc_value b) here.front here.back

  pub without_block : (block other : Shared) (stored : Stored) → block ≡ get_or blocks at block
      → other ≡ get_or blocks at other → length (arc_value other) ≤ 1
      → Some stored ≡ stored_under (arc_value block) name
      → all_stored (remove blocks at) ≡ without_name name (all_stored blocks)
  without_block block other stored is is_other few stands =
      let front = all_stored here.front in
      let back = all_stored here.back in
      let same : block ≡ other = block_read block is ∙ sym (block_read other is_other) in
      let none = ap (λ (b : Shared). without_name name (arc_value b)) (sym (block_read block is))
      ∙ without_alone (arc_value block) name stored
      (subst (λ (b : Shared). length (arc_value b) ≤ 1) (sym same) few) stands in
      all_gone
      ∙ ap (λ held. front ++ (held ++ back)) (sym none)
      ∙ ap (λ rest. front ++ rest) (sym (without_before (arc_value here.block) back name here.above))
      ∙ sym (without_behind front (arc_value here.block ++ back) name here.below)
      ∙ ap (without_name name) (sym parts)

  pub one_less : (block : Shared) → block ≡ get_or blocks at block → length (arc_value block) ≡ 1
      → length (all_stored (remove blocks at)) + 1 ≡ length (all_stored blocks)
  one_less block is one =
      let front = all_stored here.front in
      let back = all_stored here.back in
      let held = ap (λ (b : Shared). length (arc_value b)) (block_read block is) in
      rw (all_gone, parts)
      (omega (
        arith,
        length-append front back,
        length-append front (arc_value here.block ++ back),
        length-append (arc_value here.block) back,
        held,
      ))

pub with_there : (blocks : List Shared) (document : Stored) (at : ℕ) (here : IsBlockFor blocks document.name at)
    (block new : Shared)
    → block ≡ get_or blocks at block → arc_value new ≡ with_stored document (arc_value block)
    → all_stored (set blocks at new) ≡ with_stored document (all_stored blocks)
with_there blocks document at here block new is same =
    let front = all_stored here.front in
    let back = all_stored here.back in
    all_with blocks document.name at here new
    ∙ ap (λ held. front ++ (held ++ back))
    (same ∙ ap (λ (b : Shared). with_stored document (arc_value b)) (block_read blocks document.name at here block is))
    ∙ ap (λ rest. front ++ rest) (sym (with_before (arc_value here.block) back document here.above))
    ∙ sym (with_behind front (arc_value here.block ++ back) document here.below)
    ∙ ap (with_stored document) (sym (parts blocks document.name at here))

-- a block that begins above the name, and all behind it, is above the name
above_block : (block back : State) (name : List ℕ) → begins_above name block ≡ true
    → IsSortedByName (block ++ back) → IsBelowAll name (block ++ back)
above_block [] back name begins sorted = absurd (false≢true begins)
above_block (stored ∷ block) back name begins sorted =
    let by_order : slice_cmp nat_cmp stored.name name ≡ slice_cmp nat_cmp stored.name name
    → IsBelowAll name ((stored ∷ block) ++ back) =
    elim (slice_cmp nat_cmp stored.name name) as
    (λ order. slice_cmp nat_cmp stored.name name ≡ order → IsBelowAll name ((stored ∷ block) ++ back)) [
      | Less ↦ λ e. absurd (false≢true (sym (ap is_gt e) ∙ begins))
      | Equal ↦ λ e. absurd (false≢true (sym (ap is_gt e) ∙ begins))
      | Greater ↦ λ e. let less = below_from_above stored.name name e in
          (less, below_all_lower name stored.name (block ++ back) less sorted.0)
    ] in
    by_order refl

below_higher : (front : State) (low high : List ℕ) → slice_cmp nat_cmp low high ≡ Less → AreBelow front low
    → AreBelow front high
below_higher [] low high less below = tt
below_higher (stored ∷ front) low high less below =
    (nat_list_cmp_total.trans stored.name low high below.0 less, below_higher front low high less below.1)

-- what stands before a block that does not begin above the name is below the name
below_block : (front block back : State) (name : List ℕ) → 0 < length block → begins_above name block ≡ false
    → IsSortedByName (front ++ (block ++ back)) → AreBelow front name
below_block front [] back name some begins sorted = absurd (omega arith)
below_block front (stored ∷ block) back name some begins sorted =
    let below = below_sorted front stored (block ++ back) sorted in
    let by_order : slice_cmp nat_cmp stored.name name ≡ slice_cmp nat_cmp stored.name name → AreBelow front name =
    elim (slice_cmp nat_cmp stored.name name) as
    (λ order. slice_cmp nat_cmp stored.name name ≡ order → AreBelow front name) [
      | Less ↦ λ e. below_higher front stored.name name e below
      | Equal ↦ λ e. subst (AreBelow front) (same_from_equal stored.name name e) below
      | Greater ↦ λ e. absurd (false≢true (sym begins ∙ ap is_gt e))
    ] in
    by_order refl

module _ (blocks : List Shared) (name : List ℕ) (at : ℕ) (block : Shared) (within : at < length blocks)
    (is : block ≡ get_or blocks at block) (sorted : IsSortedByName (all_stored blocks)) where
  sorted_parts : IsSortedByName
      (all_stored (take at blocks) ++ (arc_value block ++ all_stored (drop (at + 1) blocks)))
  sorted_parts = subst IsSortedByName
      (ap all_stored (cut_at blocks at block within is)
      ∙ all_parts (take at blocks) (drop (at + 1) blocks) block) sorted

  pub above_from : begins_above name (arc_value block) ≡ true → IsBelowAll name (all_stored (drop at blocks))
  above_from begins =
      let behind = all_stored (drop (at + 1) blocks) in
      let all : all_stored (drop at blocks) ≡ arc_value block ++ behind =
      ap all_stored (drop_more blocks at block within)
      ∙ ap (λ (b : Shared). arc_value b ++ behind) (sym is) in
      subst (IsBelowAll name) (sym all)
      (above_block (arc_value block) behind name begins
      (sorted_back (all_stored (take at blocks)) (arc_value block ++ behind) sorted_parts))

  pub below_to : 0 < length (arc_value block) → begins_above name (arc_value block) ≡ false
      → AreBelow (all_stored (take at blocks)) name
  below_to some begins =
      below_block (all_stored (take at blocks)) (arc_value block) (all_stored (drop (at + 1) blocks)) name some begins
      sorted_parts

-- where the search ends
pub block_here : (blocks : List Shared) (name : List ℕ) (at : ℕ) (block : Shared) → at < length blocks
    → block ≡ get_or blocks at block → AreBelow (all_stored (take at blocks)) name
    → IsBelowAll name (all_stored (drop (at + 1) blocks)) → IsBlockFor blocks name at
block_here blocks name at block within is below above = record {
  front = take at blocks;
  block = block;
  back = drop (at + 1) blocks;
  whole = cut_at blocks at block within is;
  place = length-take-le at blocks (omega arith);
  below = below;
  above = above;
}

-- the search ends where nothing is between
pub search_end : (blocks : List Shared) (name : List ℕ) (low high : ℕ) → low < high → high ≤ length blocks
    → high ≤ low + 1 → AreBelow (all_stored (take low blocks)) name
    → IsBelowAll name (all_stored (drop high blocks)) → IsBlockFor blocks name low
search_end [] name low high order within near below above = absurd (omega arith)
search_end (first ∷ blocks) name low high order within near below above =
    let all = first ∷ blocks in
    let e : high ≡ low + 1 = omega arith in
    let inside : low < length all = omega arith in
    block_here all name low (get_or all low first) inside
    (get_or_default all low first (get_or all low first) inside) below
    (subst (λ n. IsBelowAll name (all_stored (drop n all))) e above)

-- the first block of all
pub first_block : (block : Shared) (document : Stored) → arc_value block ≡ document ∷ []
    → all_stored ([] ++ block ∷ []) ≡ document ∷ []
first_block block document is = append-nil (arc_value block) ∙ is

-- blocks that hold the same
pub shared_alike : (xs ys : List Shared) → AllZip (λ x y. arc_value y ≡ arc_value x) xs ys
    → all_stored ys ≡ all_stored xs
shared_alike [] [] same = refl
shared_alike [] (y ∷ ys) same = absurd same
shared_alike (x ∷ xs) [] same = absurd same
shared_alike (x ∷ xs) (y ∷ ys) same = ap (λ first. first ++ all_stored ys) same.0
    ∙ ap (λ rest. arc_value x ++ rest) (shared_alike xs ys same.1)

-- a block is cut into two
module _ (blocks : List Shared) (name : List ℕ) (at : ℕ) (here : IsBlockFor blocks name at)
    (block first second : Shared) (is : block ≡ get_or blocks at block)
    (halves : arc_value first ++ arc_value second ≡ arc_value block) where
  abbrev cut_blocks : List Shared
  cut_blocks = set (insert blocks (at + 1) second) at first

  pub cut_is : cut_blocks ≡ here.front ++ first ∷ second ∷ here.back
  cut_is =
      let place : length (here.front ++ here.block ∷ []) ≡ at + 1 =
      omega (arith, length-append here.front (here.block ∷ []), here.place) in
      let all : blocks ≡ (here.front ++ here.block ∷ []) ++ here.back =
      here.whole ∙ sym (append_assoc here.front (here.block ∷ []) here.back) in
      ap (λ all. set (take (at + 1) all ++ second ∷ drop (at + 1) all) at first) all
      ∙ ap (λ all. set (all ++ second ∷ drop (at + 1) ((here.front ++ here.block ∷ []) ++ here.back)) at first)
      (take_at (here.front ++ here.block ∷ []) here.back (at + 1) place)
      ∙ ap (λ all. set ((here.front ++ here.block ∷ []) ++ second ∷ all) at first)
      (drop_at (here.front ++ here.block ∷ []) here.back (at + 1) place)
      ∙ ap (λ all. set all at first) (append_assoc here.front (here.block ∷ []) (second ∷ here.back))
      ∙ set_at here.front here.block (second ∷ here.back) first at here.place

  held : all_stored here.front ++ (arc_value first ++ (arc_value second ++ all_stored here.back)) ≡ all_stored blocks
  held =
      ap (λ rest. all_stored here.front ++ rest)
      (sym (append_assoc (arc_value first) (arc_value second) (all_stored here.back)))
      ∙ ap (λ both. all_stored here.front ++ (both ++ all_stored here.back))
      (halves ∙ ap (λ (b : Shared). arc_value b) (block_read blocks name at here block is))
      ∙ sym (parts blocks name at here)

  pub cut_same : all_stored cut_blocks ≡ all_stored blocks
  cut_same = ap all_stored cut_is ∙ all_parts here.front (second ∷ here.back) first ∙ held

  pub first_half_for : IsSortedByName (all_stored blocks) → begins_above name (arc_value second) ≡ true
      → IsBlockFor cut_blocks name at
  first_half_for sorted begins = record {
    front = here.front;
    block = first;
    back = second ∷ here.back;
    whole = cut_is;
    place = here.place;
    below = here.below;
    above = above_block (arc_value second) (all_stored here.back) name begins
        (sorted_back (arc_value first) (arc_value second ++ all_stored here.back)
        (sorted_back (all_stored here.front) (arc_value first ++ (arc_value second ++ all_stored here.back))
        (subst IsSortedByName (sym held) sorted)));
  }

  pub second_half_for : IsSortedByName (all_stored blocks) → 0 < length (arc_value second)
      → begins_above name (arc_value second) ≡ false → IsBlockFor cut_blocks name (at + 1)
  second_half_for sorted some begins =
      let both : all_stored (here.front ++ first ∷ []) ≡ all_stored here.front ++ arc_value first =
      all_parts here.front [] first
      ∙ ap (λ rest. all_stored here.front ++ rest) (append-nil (arc_value first)) in
      record {
        front = here.front ++ first ∷ [];
        block = second;
        back = here.back;
        whole = cut_is ∙ sym (append_assoc here.front (first ∷ []) (second ∷ here.back));
        place = omega (arith, length-append here.front (first ∷ []), here.place);
        below = subst (λ all. AreBelow all name) (sym both)
            (below_block (all_stored here.front ++ arc_value first) (arc_value second) (all_stored here.back) name
            some begins (subst IsSortedByName
            (sym held ∙ sym (append_assoc (all_stored here.front) (arc_value first)
            (arc_value second ++ all_stored here.back))) sorted));
        above = here.above;
      }

  pub half_for : (begins : Bool) (half : ℕ) → half ≡ from_bool (not begins)
      → begins_above name (arc_value second) ≡ begins → IsSortedByName (all_stored blocks)
      → 0 < length (arc_value second) → IsBlockFor cut_blocks name (at + half)
  half_for true half is begins sorted some = subst (IsBlockFor cut_blocks name)
      (sym (ap (λ n. at + n) is ∙ add-zero at)) (first_half_for sorted begins)
  half_for false half is begins sorted some = subst (λ n. IsBlockFor cut_blocks name (at + n)) (sym is)
      (second_half_for sorted some begins)

  -- either half has room if both have
  pub half_room : (count : ℕ) (begins : Bool) (half : ℕ) → half ≡ from_bool (not begins)
      → length (arc_value first) < count → length (arc_value second) < count
      → IsShorterThan count cut_blocks (at + half)
  half_room count true half is few_first few_second other =
      rw (is, add-zero, cut_is, get_or_at here.front first (second ∷ here.back) other at here.place) few_first
  half_room count false half is few_first few_second other =
      rw (
        is,
        cut_is,
        sym (append_assoc here.front (first ∷ []) (second ∷ here.back)),
        get_or_at (here.front ++ first ∷ []) second here.back other (at + 1)
            (omega (arith, length-append here.front (first ∷ []), here.place)),
      ) few_second

-- a test as a number
pub from_test : (test : Bool) → from_bool test ≡ cond test 1 0
from_test true = refl
from_test false = refl
