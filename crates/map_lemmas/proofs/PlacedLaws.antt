-- The content of a document stands at its places: what is among it or in it is found there.
use Rattle.std.specs.Prelude.{◌≡◌, ◌+◌, ◌-◌, ◌<◌, ◌==◌, ℕ, Bool, true, false, List, Option, Some, None, nat_lt, if◌then◌else◌, ◌∷◌, ◌++◌, []}
use Rattle.std.proofs.Common.{refl, subst, ◌∙◌, arith}
use Rattle.std.proofs.lemmas.Bool.Decides.{nat_tests}
use Rattle.dita_doc.specs.Tree as tree
use Rattle.dita_doc.specs.Tree.{Content}
use Rattle.map_spec.specs.Places.{Standing, TopicAt, standing_from}
use Rattle.map_spec.specs.Written.{Element, Whole, Written, End, Chars, Node, element_at, first_place, first_sibling, size, written_in}

-- each element was written in this document
abbrev pub AreOf : List ℕ → Written → Type 0
AreOf name End = Unit {0}
AreOf name (Chars text doc rest) = AreOf name rest
AreOf name (Node element inside rest) = (element.doc ≡ name) × AreOf name inside × AreOf name rest

pub written_of : (name : List ℕ) (content : Content) → AreOf name (written_in name content)
written_of name tree.End = tt
written_of name (tree.Chars text origin line rest) = written_of name rest
written_of name (tree.Element title attributes origin line inside rest) =
    (refl, written_of name inside, written_of name rest)

-- content stands in other content from a place on
abbrev pub StandsFrom : Written → ℕ → Written → Type 0
StandsFrom all place nodes = (at : ℕ) (whole : Whole) → element_at nodes at ≡ Some whole
    → element_at all (place + at) ≡ Some whole

pub stands_whole : (all : Written) → StandsFrom all 0 all
stands_whole all at whole is =
    let same : at ≡ 0 + at = omega arith in subst (λ n. element_at all n ≡ Some whole) same is

-- an element stands within its content
choice_within : (test : Bool) (size : ℕ) (more : Option Whole) (whole : Whole) (at : ℕ)
    → (more ≡ Some whole → at < size) → (if test then None else more) ≡ Some whole → at < size
choice_within true size more whole at less is = cc
choice_within false size more whole at less is = less is

choices_within : (first past : Bool) (size : ℕ) (here behind inside : Option Whole) (whole : Whole) (at : ℕ)
    → (first ≡ true → at < size) → (behind ≡ Some whole → at < size) → (inside ≡ Some whole → at < size)
    → (if first then here else if past then behind else inside) ≡ Some whole → at < size
choices_within true past size here behind inside whole at one two three is = one refl
choices_within false true size here behind inside whole at one two three is = two is
choices_within false false size here behind inside whole at one two three is = three is

within : (nodes : Written) (at : ℕ) (whole : Whole) → element_at nodes at ≡ Some whole → at < size nodes
within End at whole is = cc
within (Chars text doc rest) at whole is = choice_within (at == 0) (1 + size rest) _ whole at
    (λ more. omega (arith, within rest (at - 1) whole more)) is
within (Node element inside rest) at whole is =
    choices_within (at == 0) (nat_lt (size inside) at) (1 + (size inside + size rest)) (Some (element, inside)) _ _ whole at
    (λ first. grind (arith, nat_tests))
    (λ behind. omega (arith, within rest (at - (1 + size inside)) whole behind))
    (λ below. omega (arith, within inside (at - 1) whole below)) is

-- what stands behind a text
behind_text : (text doc : List ℕ) (rest : Written) (at : ℕ)
    → element_at (Chars text doc rest) (1 + at) ≡ element_at rest at
behind_text text doc rest at =
    let same : 1 + at - 1 ≡ at = omega arith in
    let other : (1 + at == 0) ≡ false = grind (arith, nat_tests) in
    rw (other, same) refl

-- in an element, and behind it
inside_element : (element : Element) (inside rest : Written) (at : ℕ) → at < size inside
    → element_at (Node element inside rest) (1 + at) ≡ element_at inside at
inside_element element inside rest at less =
    let same : 1 + at - 1 ≡ at = omega arith in
    let other : (1 + at == 0) ≡ false = grind (arith, nat_tests) in
    let before : nat_lt (size inside) (1 + at) ≡ false = grind (arith, nat_tests) in
    rw (other, before, same) refl

behind_element : (element : Element) (inside rest : Written) (at : ℕ)
    → element_at (Node element inside rest) (1 + size inside + at) ≡ element_at rest at
behind_element element inside rest at =
    let same : 1 + size inside + at - (1 + size inside) ≡ at = omega arith in
    let other : (1 + size inside + at == 0) ≡ false = grind (arith, nat_tests) in
    let past : nat_lt (size inside) (1 + size inside + at) ≡ true = grind (arith, nat_tests) in
    rw (other, past, same) refl

module _ (all : Written) (place : ℕ) where
  there : (some other : ℕ) (whole : Whole) → some ≡ other → element_at all some ≡ Some whole
      → element_at all other ≡ Some whole
  there some other whole same is = subst (λ n. element_at all n ≡ Some whole) same is

  pub stands_behind_text : (text doc : List ℕ) (rest : Written) → StandsFrom all place (Chars text doc rest)
      → StandsFrom all (place + 1) rest
  stands_behind_text text doc rest stands = λ at whole is.
      there (place + (1 + at)) (place + 1 + at) whole (omega arith)
      (stands (1 + at) whole (behind_text text doc rest at ∙ is))

  module _ (element : Element) (inside rest : Written) (stands : StandsFrom all place (Node element inside rest)) where
    pub stands_first : element_at all place ≡ Some (element, inside)
    stands_first = there (place + 0) place (element, inside) (omega arith) (stands 0 (element, inside) refl)

    pub stands_inside : StandsFrom all (place + 1) inside
    stands_inside = λ at whole is.
        there (place + (1 + at)) (place + 1 + at) whole (omega arith)
        (stands (1 + at) whole (inside_element element inside rest at (within inside at whole is) ∙ is))

    pub stands_behind : StandsFrom all (place + 1 + size inside) rest
    stands_behind = λ at whole is.
        there (place + (1 + size inside + at)) (place + 1 + size inside + at) whole (omega arith)
        (stands (1 + size inside + at) whole (behind_element element inside rest at ∙ is))

-- a root stands behind the texts before it
pub record IsRootAt (name : List ℕ) (all : Written) (place : ℕ) (root : Whole) : Type 0 where
  pub own : root.0.doc ≡ name
  pub own_inside : AreOf name root.1
  pub is : element_at all place ≡ Some root
  pub inside : StandsFrom all (place + 1) root.1

pub root_at : (name : List ℕ) (all : Written) (place : ℕ) (nodes : Written) (root : Whole)
    → AreOf name nodes → StandsFrom all place nodes → first_sibling nodes ≡ Some root
    → IsRootAt name all (place + first_place nodes) root
root_at name all place End root own stands is = cc
root_at name all place (Chars text doc rest) root own stands is =
    let same : place + 1 + first_place rest ≡ place + (1 + first_place rest) = omega arith in
    subst (λ n. IsRootAt name all n root) same
    (root_at name all (place + 1) rest root own (stands_behind_text all place text doc rest stands) is)
root_at name all place (Node element inside rest) root own stands is =
    let first : (element, inside) ≡ root = cc in
    let same : place ≡ place + 0 = omega arith in
    subst (λ n. IsRootAt name all n root) same (subst (IsRootAt name all place) first (record {
      own = own.0;
      own_inside = own.1;
      is = stands_first all place element inside rest stands;
      inside = stands_inside all place element inside rest stands;
    }))

-- In which document an element stands

-- elements that stand in one document
abbrev pub InDocument : List ℕ → List Standing → Type 0
InDocument name [] = Unit {0}
InDocument name (standing ∷ more) = (standing.whole.0.doc ≡ name) × InDocument name more

pub of_both : (name : List ℕ) (some more : List Standing) → InDocument name some → InDocument name more
    → InDocument name (some ++ more)
of_both name [] more here there = there
of_both name (standing ∷ some) more here there = (here.0, of_both name some more here.1 there)

-- the elements of a document stand in it
pub standing_of : (name : List ℕ) (all : Content) (place : ℕ) (topic : Option TopicAt) (before : Option Element)
    → InDocument name (standing_from place topic before (written_in name all))
standing_of name tree.End place topic before = tt
standing_of name (tree.Chars text origin line rest) place topic before =
    standing_of name rest (place + 1) topic before
standing_of name (tree.Element text attributes origin line inside rest) place topic before = (
  refl,
  of_both name _ _ (standing_of name inside (place + 1) _ None)
      (standing_of name rest (place + 1 + size (written_in name inside)) topic _),
)
