-- A range as nodes, and by the places between which it stands.
use Rattle.std.specs.Prelude.{◌≡◌, ◌+◌, ◌-◌, ◌==◌, ◌<◌, ℕ, Bool, true, false, List, Option, Some, None, option_map, if◌then◌else◌}
use Rattle.std.proofs.Common.{refl, sym, ap, ◌∙◌, arith, ne_eqb}
use Rattle.map_spec.specs.Written.{Element, Written, End, Chars, Node, size}
use Rattle.conref_spec.specs.Content.{has_end_id, up_to_end}
use Rattle.conref_targets.specs.Ranges.{IsRangeEnd, IsUpTo}
use Rattle.conref_targets.specs.Parts.{among_first, end_place}

among_none : (count : ℕ) (behind : Written) → count ≡ 0 → among_first count behind ≡ End
among_none count End none = refl
among_none count (Chars text doc rest) none = rw none refl
among_none count (Node element inside rest) none = rw none refl

-- a count that is not 0
test_more : (count : ℕ) → 0 < count → (count == 0) ≡ false
test_more count more = ne_eqb count 0 (λ e. omega arith)

among_chars : (count : ℕ) (text doc : List ℕ) (rest : Written) → 0 < count
    → among_first count (Chars text doc rest) ≡ Chars text doc (among_first (count - 1) rest)
among_chars count text doc rest more =
    ap (λ (test : Bool). if test then End else Chars text doc (among_first (count - 1) rest)) (test_more count more)

among_node : (count : ℕ) (element : Element) (inside rest : Written) → 0 < count
    → among_first count (Node element inside rest) ≡ Node element inside (among_first (count - (1 + size inside)) rest)
among_node count element inside rest more =
    ap (λ (test : Bool). if test then End else Node element inside (among_first (count - (1 + size inside)) rest))
    (test_more count more)

-- no range
pub up_to_none : (from : ℕ) (behind : Written) → IsUpTo from behind End from
up_to_none from behind = record {
  forward = omega arith;
  fits = omega arith;
  range = sym (among_none (from - from) behind (omega arith));
}

chars_more : (from : ℕ) (text doc : List ℕ) (rest : Written) (meant : Option Written) (to : Option ℕ)
    → IsRangeEnd (from + 1) rest meant to → IsRangeEnd from (Chars text doc rest) (option_map (Chars text doc) meant) to
chars_more from text doc rest None None is = tt
chars_more from text doc rest None (Some to) is = absurd is
chars_more from text doc rest (Some meant) None is = absurd is
chars_more from text doc rest (Some meant) (Some to) is = record {
  forward = (let forward = is.forward in omega arith);
  fits = (let fits = is.fits in omega arith);
  range = ap (Chars text doc) (is.range
      ∙ ap (λ n. among_first n rest) (let forward = is.forward in omega arith))
      ∙ sym (among_chars (to - from) text doc rest (let forward = is.forward in omega arith));
}

node_more : (from : ℕ) (element : Element) (inside rest : Written) (meant : Option Written) (to : Option ℕ)
    → IsRangeEnd (from + 1 + size inside) rest meant to
    → IsRangeEnd from (Node element inside rest) (option_map (Node element inside) meant) to
node_more from element inside rest None None is = tt
node_more from element inside rest None (Some to) is = absurd is
node_more from element inside rest (Some meant) None is = absurd is
node_more from element inside rest (Some meant) (Some to) is = record {
  forward = (let forward = is.forward in omega arith);
  fits = (let fits = is.fits in omega arith);
  range = ap (Node element inside) (is.range
      ∙ ap (λ n. among_first n rest) (let forward = is.forward in omega arith))
      ∙ sym (among_node (to - from) element inside rest (let forward = is.forward in omega arith));
}

node_last : (from : ℕ) (element : Element) (inside rest : Written)
    → IsUpTo from (Node element inside rest) (Node element inside End) (from + 1 + size inside)
node_last from element inside rest = record {
  forward = omega arith;
  fits = omega arith;
  range = ap (Node element inside) (sym (among_none (from + 1 + size inside - from - (1 + size inside)) rest (omega arith)))
      ∙ sym (among_node (from + 1 + size inside - from) element inside rest (omega arith));
}

-- up to the first sibling with the id of the end
pub up_to_place : (id : List ℕ) (from : ℕ) (behind : Written)
    → IsRangeEnd from behind (up_to_end id behind) (end_place id from behind)
up_to_place id from End = tt
up_to_place id from (Chars text doc rest) =
    chars_more from text doc rest (up_to_end id rest) (end_place id (from + 1) rest) (up_to_place id (from + 1) rest)
up_to_place id from (Node element inside rest) =
    by_test (has_end_id id element) (up_to_place id (from + 1 + size inside) rest)
  where
    by_test : (test : Bool)
        → IsRangeEnd (from + 1 + size inside) rest (up_to_end id rest) (end_place id (from + 1 + size inside) rest)
        → IsRangeEnd from (Node element inside rest)
        (if test then Some (Node element inside End) else option_map (Node element inside) (up_to_end id rest))
        (if test then Some (from + 1 + size inside) else end_place id (from + 1 + size inside) rest)
    by_test true later = node_last from element inside rest
    by_test false later =
        node_more from element inside rest (up_to_end id rest) (end_place id (from + 1 + size inside) rest) later
