-- The walk over nodes in preorder, with the items that are open on a stack, writes the lists of the tree.
use Rattle.std.specs.Prelude.{◌≡◌, ◌+◌, ◌<◌, ◌≤◌, ℕ, Bool, true, false, List, [], ◌∷◌, ◌++◌, codes, nat_lt, if◌then◌else◌}
use Rattle.std.proofs.Common.{refl, sym, ap, ◌∙◌, arith, append_assoc, append-nil}
use Rattle.std.proofs.lemmas.Bool.{le-ltb, lt-ltb}
use Rattle.map_spec.specs.MapTree.{MapTree, MapNode, NoNodes, Head, count}
use Rattle.html_spec.specs.Contents.{list_text}
use Rattle.toc_page.specs.declared.list.OpenItem.{OpenItem}
use Rattle.toc_page.proofs.TreeTexts.{Shape, shapes, tree_text}
use Rattle.toc_page.specs.Opened.{Stack, Page, Within, has_list, with_list, begin_text, item_end, around_place, ends_before, ends_all, opened, before_item}

-- A list of items that may have been begun

abbrev is_some_text : List ℕ → Bool
is_some_text [] = false
is_some_text (b ∷ text) = true

abbrev or_begun : Bool → Bool → Bool
or_begun true other = true
or_begun false other = other

abbrev more_text : Bool → List ℕ → List ℕ
more_text begun [] = []
more_text begun (b ∷ items) = begin_text begun ++ (b ∷ items)

abbrev with_list_if : List ℕ → Stack → Stack
with_list_if [] stack = stack
with_list_if (b ∷ items) stack = with_list stack

-- Stacks that stay as they are up to a place

abbrev StaysTo : ℕ → Stack → Type 0
StaysTo place (Page begun) = Unit {0}
StaysTo place (Within item around) = (place ≤ item.end) × StaysTo place around

stays_less : (less place : ℕ) (stack : Stack) → less ≤ place → StaysTo place stack → StaysTo less stack
stays_less less place (Page begun) fits stays = tt
stays_less less place (Within item around) fits stays =
    let far = stays.0 in (omega (arith, fits, far), stays_less less place around fits stays.1)

stays_with : (place : ℕ) (stack : Stack) → StaysTo place stack → StaysTo place (with_list stack)
stays_with place (Page begun) stays = tt
stays_with place (Within item around) stays = stays

stays_with_if : (items : List ℕ) (place : ℕ) (stack : Stack) → StaysTo place stack
    → StaysTo place (with_list_if items stack)
stays_with_if [] place stack stays = stays
stays_with_if (b ∷ items) place stack stays = stays_with place stack stays

stays_around : (at place : ℕ) (stack : Stack) → at < place → StaysTo place stack → around_place at stack ≡ stack
stays_around at place (Page begun) less stays = refl
stays_around at place (Within item around) less stays =
    let far = stays.0 in
    ap (λ b. if b then Within item around else around_place at around) (lt-ltb at item.end (omega (arith, less, far)))

stays_open : (at place : ℕ) (stack : Stack) → at < place → StaysTo place stack → ends_before at stack ≡ []
stays_open at place (Page begun) less stays = refl
stays_open at place (Within item around) less stays =
    let far = stays.0 in
    ap (λ b. if b then [] else item_end item ++ ends_before at around) (lt-ltb at item.end (omega (arith, less, far)))

has_list_with : (stack : Stack) → has_list (with_list stack) ≡ true
has_list_with (Page begun) = refl
has_list_with (Within item around) = refl

with_twice : (stack : Stack) → with_list (with_list stack) ≡ with_list stack
with_twice (Page begun) = refl
with_twice (Within item around) = refl

-- One list behind the other

more_both : (first second : List ℕ) (stack : Stack)
    → more_text (has_list stack) first ++ more_text (has_list (with_list_if first stack)) second
    ≡ more_text (has_list stack) (first ++ second)
more_both [] second stack = refl
more_both (b ∷ first) [] stack =
    append-nil (begin_text (has_list stack) ++ (b ∷ first))
    ∙ ap (λ l. begin_text (has_list stack) ++ (b ∷ l)) (sym (append-nil first))
more_both (b ∷ first) (c ∷ second) stack =
    ap (λ t. (begin_text (has_list stack) ++ (b ∷ first)) ++ (begin_text t ++ (c ∷ second))) (has_list_with stack)
    ∙ append_assoc (begin_text (has_list stack)) (b ∷ first) (c ∷ second)

with_both : (first second : List ℕ) (stack : Stack)
    → with_list_if second (with_list_if first stack) ≡ with_list_if (first ++ second) stack
with_both [] second stack = refl
with_both (b ∷ first) [] stack = refl
with_both (b ∷ first) (c ∷ second) stack = with_twice stack

begun_more : (items : List ℕ) (stack : Stack) → more_text (has_list (with_list stack)) items ≡ items
begun_more [] stack = refl
begun_more (b ∷ items) stack = ap (λ begun. begin_text begun ++ (b ∷ items)) (has_list_with stack)

begun_with : (items : List ℕ) (stack : Stack) → with_list_if items (with_list stack) ≡ with_list stack
begun_with [] stack = refl
begun_with (b ∷ items) stack = with_twice stack

three_apart : (a b c d : List ℕ) → ((a ++ b) ++ c) ++ d ≡ a ++ (b ++ (c ++ d))
three_apart a b c d = append_assoc (a ++ b) c d ∙ append_assoc a b (c ++ d)

-- The walk

abbrev pub less : ℕ
less = 60

abbrev before_text : Stack → List ℕ
before_text stack = begin_text (has_list stack)

module _ (is_item : ℕ → Bool) (start : ℕ → List ℕ) where
  abbrev pub walked : ℕ → List Shape → Stack → List ℕ
  walked at [] stack = ends_all stack
  walked at (shape ∷ shapes) stack =
      if is_item at then before_item at stack ++ ((less ∷ start at) ++ walked (at + 1) shapes (opened at shape.1 stack))
      else walked (at + 1) shapes stack

  abbrev pub item_or : Bool → ℕ → List ℕ → List ℕ
  item_or is at below = if is then (less ∷ start at) ++ list_text below ++ codes "</li>" else below

  abbrev pub items_text : ℕ → List ℕ → List ℕ
  items_text at below = item_or (is_item at) at below

  abbrev pub tree_items : ℕ → MapTree → List ℕ
  tree_items place tree = tree_text items_text place tree

  -- an item that ended is closed by whatever follows
  closed : (item : OpenItem) (around : Stack) (at : ℕ) (nodes : List Shape) → item.end ≤ at
      → walked at nodes (Within item around) ≡ item_end item ++ walked at nodes around
  closed item around at [] past = refl
  closed item around at (shape ∷ nodes) past =
      by_item (is_item at) (closed item around (at + 1) nodes (omega (arith, past)))
    where
      ended : nat_lt at item.end ≡ false
      ended = le-ltb at item.end past

      same_before : before_item at (Within item around) ≡ item_end item ++ before_item at around
      same_before =
          ap (λ b. (if b then [] else item_end item ++ ends_before at around)
          ++ begin_text (has_list (if b then Within item around else around_place at around))) ended
          ∙ append_assoc (item_end item) (ends_before at around) (begin_text (has_list (around_place at around)))

      same_opened : opened at shape.1 (Within item around) ≡ opened at shape.1 around
      same_opened = ap (λ b. Within (record { end = shape.1; has_list = false })
          (with_list (if b then Within item around else around_place at around))) ended

      by_item : (b : Bool) → walked (at + 1) nodes (Within item around) ≡ item_end item ++ walked (at + 1) nodes around
          → (if b then before_item at (Within item around) ++ ((less ∷ start at) ++ walked (at + 1) nodes (opened at shape.1 (Within item around)))
          else walked (at + 1) nodes (Within item around))
          ≡ item_end item ++ (if b then before_item at around ++ ((less ∷ start at) ++ walked (at + 1) nodes (opened at shape.1 around))
          else walked (at + 1) nodes around)
      by_item true behind =
          (λ i. same_before i ++ ((less ∷ start at) ++ walked (at + 1) nodes (same_opened i)))
          ∙ append_assoc (item_end item) (before_item at around)
          ((less ∷ start at) ++ walked (at + 1) nodes (opened at shape.1 around))
      by_item false behind = behind

  -- what an item writes, and what follows
  item_done : (below : List ℕ) (at end place : ℕ) (more : List Shape) (around : Stack) → end ≤ place
      → (less ∷ start at) ++ (more_text false below
      ++ walked place more (with_list_if below (Within (record { end = end; has_list = false }) around)))
      ≡ item_or true at below ++ walked place more around
  item_done [] at end place more around past =
      ap (λ t. (less ∷ start at) ++ t) (closed (record { end = end; has_list = false }) around place more past)
      ∙ sym (three_apart (less ∷ start at) [] (codes "</li>") (walked place more around))
  item_done (b ∷ below) at end place more around past =
      ap (λ t. (less ∷ start at) ++ (codes "<ul>" ++ (b ∷ below) ++ t))
      (closed (record { end = end; has_list = true }) around place more past)
      ∙ sym (ap (λ t. (less ∷ start at) ++ t)
      (append_assoc (codes "<ul>" ++ (b ∷ below)) (codes "</ul>") (codes "</li>" ++ walked place more around)))
      ∙ sym (three_apart (less ∷ start at) (list_text (b ∷ below)) (codes "</li>") (walked place more around))

  -- The lists of a tree

  abbrev Writes : MapTree → ℕ → ℕ → Type 0
  Writes tree parent place = (more : List Shape) (stack : Stack) → StaysTo (place + count tree) stack
      → walked place (shapes parent place tree ++ more) stack
      ≡ more_text (has_list stack) (tree_items place tree)
      ++ walked (place + count tree) more (with_list_if (tree_items place tree) stack)

  -- the list of a node that is an item, and of what stands behind it
  item_beside : (at : ℕ) (below tail : List ℕ) (stack : Stack) (rest : Stack → List ℕ)
      → before_text stack ++ (item_or true at below
      ++ (more_text (has_list (with_list stack)) tail ++ rest (with_list_if tail (with_list stack))))
      ≡ more_text (has_list stack) (item_or true at below ++ tail)
      ++ rest (with_list_if (item_or true at below ++ tail) stack)
  item_beside at below tail stack rest =
      (λ i. before_text stack ++ (item_or true at below ++ (begun_more tail stack i ++ rest (begun_with tail stack i))))
      ∙ ap (λ t. before_text stack ++ t) (sym (append_assoc (item_or true at below) tail (rest (with_list stack))))
      ∙ sym (append_assoc (before_text stack) (item_or true at below ++ tail) (rest (with_list stack)))

  stays_here : (place : ℕ) (below tail : MapTree) (head : Head) (stack : Stack)
      → StaysTo (place + count (MapNode head below tail)) stack → StaysTo (place + 1 + count below) stack
  stays_here place below tail head stack stays =
      stays_less (place + 1 + count below) (place + count (MapNode head below tail)) stack (omega arith) stays

  stays_beside : (place : ℕ) (below tail : MapTree) (head : Head) (stack : Stack)
      → StaysTo (place + count (MapNode head below tail)) stack → StaysTo (place + 1 + count below + count tail) stack
  stays_beside place below tail head stack stays =
      stays_less (place + 1 + count below + count tail) (place + count (MapNode head below tail)) stack (omega arith) stays

  end_beside : (place one two : ℕ) → place + 1 + one + two ≡ place + (1 + (one + two))
  end_beside place one two = omega arith

  opened_here : (place end : ℕ) (stack : Stack) → place < end → StaysTo end stack → (rest : Stack → List ℕ)
      → before_item place stack ++ ((less ∷ start place) ++ rest (opened place end stack))
      ≡ before_text stack
      ++ ((less ∷ start place) ++ rest (Within (record { end = end; has_list = false }) (with_list stack)))
  opened_here place end stack before stays rest = λ i.
      (stays_open place end stack before stays i
      ++ begin_text (has_list (stays_around place end stack before stays i)))
      ++ ((less ∷ start place)
      ++ rest (Within (record { end = end; has_list = false }) (with_list (stays_around place end stack before stays i))))

  -- an item, with the items below it and behind it
  writes_item : (parent place : ℕ) (head : Head) (below more : MapTree) → is_item place ≡ true
      → Writes below place (place + 1) → Writes more parent (place + 1 + count below)
      → Writes (MapNode head below more) parent place
  writes_item parent place head below tail is inner beside more stack stays =
      let end = place + 1 + count below in
      let first = shapes place (place + 1) below in
      let second = shapes parent end tail in
      let one = tree_items (place + 1) below in
      let two = tree_items end tail in
      let stays_end : StaysTo end stack = stays_here place below tail head stack stays in
      let item : OpenItem = record { end = end; has_list = false } in
      ap (λ b. if b then before_item place stack
      ++ ((less ∷ start place) ++ walked (place + 1) ((first ++ second) ++ more) (opened place end stack))
      else walked (place + 1) ((first ++ second) ++ more) stack) is
      ∙ opened_here place end stack (omega arith) stays_end (walked (place + 1) ((first ++ second) ++ more))
      ∙ ap (λ nodes. before_text stack ++ ((less ∷ start place) ++ walked (place + 1) nodes (Within item (with_list stack))))
      (append_assoc first second more)
      ∙ ap (λ t. before_text stack ++ ((less ∷ start place) ++ t))
      (inner (second ++ more) (Within item (with_list stack)) (omega arith, stays_with end stack stays_end))
      ∙ ap (λ t. before_text stack ++ t)
      (item_done one place end end (second ++ more) (with_list stack) (omega arith))
      ∙ ap (λ t. before_text stack ++ (item_or true place one ++ t))
      (beside more (with_list stack) (stays_with (end + count tail) stack (stays_beside place below tail head stack stays)))
      ∙ item_beside place one two stack (walked (end + count tail) more)
      ∙ ap (λ n. more_text (has_list stack) (item_or true place one ++ two)
      ++ walked n more (with_list_if (item_or true place one ++ two) stack)) (end_beside place (count below) (count tail))
      ∙ ap (λ b. more_text (has_list stack) (item_or b place one ++ two)
      ++ walked (place + (1 + (count below + count tail))) more (with_list_if (item_or b place one ++ two) stack)) (sym is)

  -- another node is replaced by the items below it
  writes_other : (parent place : ℕ) (head : Head) (below more : MapTree) → is_item place ≡ false
      → Writes below place (place + 1) → Writes more parent (place + 1 + count below)
      → Writes (MapNode head below more) parent place
  writes_other parent place head below tail is inner beside more stack stays =
      let end = place + 1 + count below in
      let first = shapes place (place + 1) below in
      let second = shapes parent end tail in
      let one = tree_items (place + 1) below in
      let two = tree_items end tail in
      let begun = has_list stack in
      let within = with_list_if one stack in
      ap (λ b. if b then before_item place stack
      ++ ((less ∷ start place) ++ walked (place + 1) ((first ++ second) ++ more) (opened place end stack))
      else walked (place + 1) ((first ++ second) ++ more) stack) is
      ∙ ap (λ nodes. walked (place + 1) nodes stack) (append_assoc first second more)
      ∙ inner (second ++ more) stack (stays_here place below tail head stack stays)
      ∙ ap (λ t. more_text begun one ++ t)
      (beside more within (stays_with_if one (end + count tail) stack (stays_beside place below tail head stack stays)))
      ∙ sym (append_assoc (more_text begun one) (more_text (has_list within) two)
      (walked (end + count tail) more (with_list_if two within)))
      ∙ (λ i. more_both one two stack i
      ++ walked (end_beside place (count below) (count tail) i) more (with_both one two stack i))
      ∙ ap (λ b. more_text begun (item_or b place one ++ two)
      ++ walked (place + (1 + (count below + count tail))) more (with_list_if (item_or b place one ++ two) stack)) (sym is)

  pub writes : (tree : MapTree) (parent place : ℕ) → Writes tree parent place
  writes NoNodes parent place more stack stays =
      let same : place + 0 ≡ place = omega arith in ap (λ n. walked n more stack) (sym same)
  writes (MapNode head below tail) parent place more stack stays =
      by_item (writes below place (place + 1)) (writes tail parent (place + 1 + count below)) (is_item place) refl
    where
      by_item : Writes below place (place + 1) → Writes tail parent (place + 1 + count below) → (b : Bool)
          → is_item place ≡ b
          → walked place (shapes parent place (MapNode head below tail) ++ more) stack
          ≡ more_text (has_list stack) (tree_items place (MapNode head below tail))
          ++ walked (place + count (MapNode head below tail)) more (with_list_if (tree_items place (MapNode head below tail)) stack)
      by_item inner beside true e = writes_item parent place head below tail e inner beside more stack stays
      by_item inner beside false e = writes_other parent place head below tail e inner beside more stack stays

  -- the list of a whole tree, below its root
  pub walks : (below : MapTree) → walked 1 (shapes 0 1 below) (Page false) ≡ list_text (tree_items 1 below)
  walks below =
      ap (λ nodes. walked 1 nodes (Page false)) (sym (append-nil (shapes 0 1 below)))
      ∙ writes below 0 1 [] (Page false) tt
      ∙ whole (tree_items 1 below)
    where
      whole : (items : List ℕ)
          → more_text false items ++ walked (1 + count below) [] (with_list_if items (Page false)) ≡ list_text items
      whole [] = refl
      whole (b ∷ items) = refl
