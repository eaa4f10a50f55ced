-- The elements of documents that were told were told.
use Rattle.std.specs.Prelude.{◌≡◌, ◌-◌, ◌+◌, ◌==◌, ◌⊎◌, ℕ, zero, suc, Bool, true, false, List, [], ◌∷◌, ◌++◌, Option, Some, None, Result, Ok, Err, IsTrue, OnOk, map, nat_lt, slice_get, if◌then◌else◌}
use Rattle.std.specs.Arc.{arc_value}
use Rattle.std.specs.List.{flat_map}
use Rattle.std.specs.declared.alloc.Global.{Global}
use Rattle.std.specs.declared.sync.Arc.{Arc}
use Rattle.std.proofs.Common.{refl, sym, ap, subst, inl, inr}
use Rattle.std.proofs.Math.Logic.{⊎_elim}
use Rattle.std.proofs.lemmas.Grind.{flat_map-append}
use Rattle.dita_doc.specs.Tree.{Content, tree_of}
use Rattle.dita_doc.specs.declared.doc.Doc.{Doc}
use Rattle.map_spec.specs.Written as written
use Rattle.map_spec.specs.Written.{Element, Whole, Written, element_at, elements_below, size, written_in}
use Rattle.readers.specs.Founded.{Grows, is_among}
use Rattle.readers.specs.Named.{names_in, names_of_element}
use Rattle.readers.specs.Told.{Told, document, tree_found}
use Rattle.readers.proofs.AmongLaws.{among_back, among_front}
use Rattle.readers.proofs.DocumentLaws.{covers_same, follows_may, may_ask_before}
use Rattle.readers.proofs.FoundedLaws.{given_allowed}
use Rattle.readers.proofs.GrowthLaws.{allowed_before, grows_one}
use Rattle.plan_nodes.specs.Given.{AreTold, IsTold}
use Rattle.plan_nodes.specs.HomeDocs.{document_at, whole_in, whole_of}
use Rattle.plan_nodes.specs.ToldDocs.{AreToldDocs, WasTold, told_of, with_found}
use Rattle.plan_nodes.specs.declared.node_elements.Home.{Home}
use Rattle.plan_nodes.specs.declared.node_elements.NamedDoc.{NamedDoc}

-- Documents, one told after the other

pub was_told : (t : Told) (old new : List Told) → new ≡ t ∷ old → WasTold new t
was_told t old new is = record {
  allowed = λ roots. (given_allowed roots t old new is).each;
  may = λ rule roots. (follows_may rule rule roots t old new (covers_same rule) is).each;
}

pub was_told_later : (old new : List Told) (t : Told) → Grows old new → WasTold old t → WasTold new t
was_told_later old new t grows was = record {
  allowed = λ roots m among. allowed_before roots old new m grows (was.allowed roots m among);
  may = λ rule roots m among. may_ask_before rule roots old new m grows (was.may rule roots m among);
}

pub docs_later : (old new : List Told) (docs : List NamedDoc) → Grows old new → AreToldDocs old docs
    → AreToldDocs new docs
docs_later old new [] grows told = tt
docs_later old new (named ∷ docs) grows told =
    (was_told_later old new (told_of named) grows told.0, docs_later old new docs grows told.1)

docs_push : (told : List Told) (docs : List NamedDoc) (named : NamedDoc) → AreToldDocs told docs
    → WasTold told (told_of named) → AreToldDocs told (docs ++ named ∷ [])
docs_push told [] named are here = (here, tt)
docs_push told (first ∷ docs) named are here = (are.0, docs_push told docs named are.1 here)

-- a document was asked for, and put behind the others if it was found
docs_told : (old new : List Told) (docs all : List NamedDoc) (name : List ℕ) (found : Option (Arc Doc Global))
    → new ≡ document name (tree_found found) ∷ old → all ≡ with_found docs name found → AreToldDocs old docs
    → AreToldDocs new all
docs_told old new docs all name None is put told =
    subst (AreToldDocs new) (sym put) (docs_later old new docs (grows_one (document name None) old new is) told)
docs_told old new docs all name (Some doc) is put told =
    let t : Told = document name (Some (tree_of (arc_value doc).nodes)) in
    subst (AreToldDocs new) (sym put) (docs_push new docs (record { name = name; doc = doc })
    (docs_later old new docs (grows_one t old new is) told) (was_told t old new is))

-- the same if putting it may fail
pub docs_told_if : {X E : Type 0} (result : Result X E) (old new : List Told) (docs all : List NamedDoc)
    (name : List ℕ) (found : Option (Arc Doc Global)) → new ≡ document name (tree_found found) ∷ old
    → OnOk result (all ≡ with_found docs name found) → AreToldDocs old docs → OnOk result (AreToldDocs new all)
docs_told_if (Ok value) old new docs all name found is put told = docs_told old new docs all name found is put told
docs_told_if (Err error) old new docs all name found is put told = tt

-- What an element gives is among what the elements of its document give

pub some_behind : (test : Bool) (more : Option Whole) (whole : Whole) → (if test then None else more) ≡ Some whole
    → more ≡ Some whole
some_behind true more whole is = cc
some_behind false more whole is = is

-- an element stands at the first place, behind what it holds, or in it
pub some_of : (first past : Bool) (here behind inside : Option Whole) (whole : Whole)
    → (if first then here else if past then behind else inside) ≡ Some whole
    → (here ≡ Some whole) ⊎ ((behind ≡ Some whole) ⊎ (inside ≡ Some whole))
some_of true past here behind inside whole is = inl is
some_of false true here behind inside whole is = inr (inl is)
some_of false false here behind inside whole is = inr (inr is)

module _ (F : Written → List (List ℕ)) (f : Element → List (List ℕ))
    (chars : (text other : List ℕ) (rest : Written) → F (written.Chars text other rest) ≡ F rest)
    (child : (element : Element) (inside rest : Written)
    → F (written.Node element inside rest) ≡ f element ++ (F inside ++ F rest))
    (m : List ℕ) where
  among_at : (nodes : Written) (place : ℕ) (whole : Whole) → element_at nodes place ≡ Some whole
      → IsTrue (is_among (f whole.0) m) → IsTrue (is_among (F nodes) m)
  among_at written.End place whole is among = cc
  among_at (written.Chars text other rest) place whole is among =
      subst (λ l. IsTrue (is_among l m)) (sym (chars text other rest))
      (among_at rest (place - 1) whole (some_behind (place == 0) _ whole is) among)
  among_at (written.Node element inside rest) place whole is among =
      subst (λ l. IsTrue (is_among l m)) (sym (child element inside rest)) (⊎_elim
      (λ here. let same : whole.0 ≡ element = cc in
      among_front (f element) _ m (subst (λ e. IsTrue (is_among (f e) m)) same among))
      (⊎_elim
      (λ behind. among_back (f element) _ m (among_back (F inside) _ m
      (among_at rest (place - (1 + size inside)) whole behind among)))
      (λ within. among_back (f element) _ m (among_front (F inside) _ m
      (among_at inside (place - 1) whole within among))))
      (some_of (place == 0) (nat_lt (size inside) place) (Some (element, inside)) _ _ whole is))

abbrev given : (Element → List (List ℕ)) → Written → List (List ℕ)
given gives nodes = flat_map (λ (whole : Whole). gives whole.0) (elements_below nodes)

given_child : (gives : Element → List (List ℕ)) (element : Element) (inside rest : Written)
    → given gives (written.Node element inside rest) ≡ gives element ++ (given gives inside ++ given gives rest)
given_child gives element inside rest =
    ap (λ l. gives element ++ l)
    (flat_map-append (λ (whole : Whole). gives whole.0) (elements_below inside) (elements_below rest))

-- So it was told

-- an element of a document that was told under this name
pub element_told : (told : List Told) (name : List ℕ) (tree : Content) (place : ℕ) (whole : Whole)
    → WasTold told (document name (Some tree)) → element_at (written_in name tree) place ≡ Some whole
    → IsTold told whole.0
element_told told name tree place whole was is =
    let nodes : Written = written_in name tree in
    record {
      allowed = λ roots m among. was.allowed roots m
          (among_at names_in names_of_element (λ text other rest. refl) (λ element inside rest. refl) m
          nodes place whole is among);
      may = λ rule gives roots follows m among. was.may rule roots m (follows.each name tree m
          (among_at (given gives) gives (λ text other rest. refl) (given_child gives) m nodes place whole is among));
    }

told_at : (told : List Told) (docs : List NamedDoc) (at place : ℕ) (whole : Whole) → AreToldDocs told docs
    → whole_in (document_at docs (Some at)) place ≡ Some whole → IsTold told whole.0
told_at told [] at place whole are is = cc
told_at told (named ∷ docs) zero place whole are is =
    element_told told named.name (tree_of (arc_value named.doc).nodes) place whole are.0 is
told_at told (named ∷ docs) (suc at) place whole are is = told_at told docs at place whole are.1 is

home_told : (told : List Told) (docs : List NamedDoc) (home : Option Home) (whole : Whole) → AreToldDocs told docs
    → whole_of docs home ≡ Some whole → IsTold told whole.0
home_told told docs None whole are is = cc
home_told told docs (Some home) whole are is = told_at told docs home.doc home.place whole are is

homes_at : (told : List Told) (docs : List NamedDoc) (homes : List (Option Home)) (at : ℕ) (whole : Whole)
    → AreToldDocs told docs → slice_get (map (whole_of docs) homes) at ≡ Some (Some whole) → IsTold told whole.0
homes_at told docs [] at whole are is = cc
homes_at told docs (home ∷ homes) zero whole are is =
    let same : whole_of docs home ≡ Some whole = cc in home_told told docs home whole are same
homes_at told docs (home ∷ homes) (suc at) whole are is = homes_at told docs homes at whole are is

pub homes_told : (told : List Told) (docs : List NamedDoc) (homes : List (Option Home)) → AreToldDocs told docs
    → AreTold told (map (whole_of docs) homes)
homes_told told docs homes are = record { each = λ at whole is. homes_at told docs homes at whole are is }
