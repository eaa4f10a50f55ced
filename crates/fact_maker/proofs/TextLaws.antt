-- A world in which texts stand in front of a document. What the document is, its titles and its first topic stay as they
-- are; but no element stands at its first places, and it is no DITAVAL.
use Rattle.std.specs.Prelude.{◌≡◌, ◌-◌, ◌==◌, ℕ, zero, suc, Bool, true, false, List, [], Option, Some, None, bytes_eq, option_map, if◌then◌else◌}
use Rattle.std.specs.Option.{option_and_then, option_map_or}
use Rattle.std.proofs.Common.{refl, sym, ap, subst, ◌∙◌, arith}
use Rattle.std.proofs.lemmas.Slice.Eq.{bytes_eq-Decides}
use Rattle.dita_doc.specs.Tree.{Content, Chars}
use Rattle.dita_doc.specs.declared.question.DocKind.TheVariants as kinds
use Rattle.map_spec.specs.Branches.{ditaval_in, if_ditaval}
use Rattle.map_spec.specs.Titles.{first_in, first_of_document, kind_in, kind_of_document, title_in, title_of_document}
use Rattle.map_spec.specs.Written as written
use Rattle.map_spec.specs.Written.{Whole, Written, element_at, element_in, written_in}
use Rattle.ditaval_rules.specs.Rules.{rules_in}
use Rattle.reader_spec.specs.World.{World}

-- so many texts, and then content
abbrev pub behind_texts : ℕ → Content → Content
behind_texts zero tree = tree
behind_texts (suc count) tree = Chars [] 0 0 (behind_texts count tree)

-- so many texts stand in front of this document
abbrev pub with_texts : World → List ℕ → ℕ → World
with_texts world doc count name =
    if bytes_eq name doc then option_map (behind_texts count) (world name) else world name

-- What passes over texts stays the same

module _ {X : Type 0} (read : List ℕ → Written → X) (none : List ℕ → X)
    (passes : (name text doc : List ℕ) (rest : Written) → read name (written.Chars text doc rest) ≡ read name rest) where
  read_behind : (name : List ℕ) (count : ℕ) (tree : Content)
      → read name (written_in name (behind_texts count tree)) ≡ read name (written_in name tree)
  read_behind name zero tree = refl
  read_behind name (suc count) tree =
      passes name [] name (written_in name (behind_texts count tree)) ∙ read_behind name count tree

  read_found : (name : List ℕ) (count : ℕ) (found : Option Content)
      → option_map_or (read name) (option_map (written_in name) (option_map (behind_texts count) found)) (none name)
      ≡ option_map_or (read name) (option_map (written_in name) found) (none name)
  read_found name count None = refl
  read_found name count (Some tree) = read_behind name count tree

  read_if : (name : List ℕ) (count : ℕ) (test : Bool) (found : Option Content)
      → option_map_or (read name)
      (option_map (written_in name) (if test then option_map (behind_texts count) found else found)) (none name)
      ≡ option_map_or (read name) (option_map (written_in name) found) (none name)
  read_if name count true found = read_found name count found
  read_if name count false found = refl

module _ (world : World) (doc : List ℕ) (count : ℕ) where
  pub same_kind : (name : List ℕ) → kind_in (with_texts world doc count) name ≡ kind_in world name
  same_kind name = read_if (λ own nodes. kind_of_document nodes) (λ own. kinds.Absent) (λ own text other rest. refl) name
      count (bytes_eq name doc) (world name)

  pub same_title : (name topic : List ℕ) → title_in (with_texts world doc count) name topic ≡ title_in world name topic
  same_title name topic = read_if (λ own nodes. title_of_document own topic nodes) (λ own. own)
      (λ own text other rest. refl) name count (bytes_eq name doc) (world name)

  pub same_first : (name : List ℕ) → first_in (with_texts world doc count) name ≡ first_in world name
  same_first name = read_if (λ own nodes. first_of_document nodes) (λ own. []) (λ own text other rest. refl) name
      count (bytes_eq name doc) (world name)

-- every other document stays
stays_by : (test : Bool) (count : ℕ) (found : Option Content) → test ≡ false
    → (if test then option_map (behind_texts count) found else found) ≡ found
stays_by true count found is = cc
stays_by false count found is = refl

pub same_other : (world : World) (doc : List ℕ) (count : ℕ) (name : List ℕ) → bytes_eq name doc ≡ false
    → with_texts world doc count name ≡ world name
same_other world doc count name other = stays_by (bytes_eq name doc) count (world name) other

-- No element stands at the first places

none_by : (test : Bool) (found : Option Whole) → found ≡ None → (if test then None else found) ≡ None
none_by true found is = refl
none_by false found is = is

none_at : (name : List ℕ) (place : ℕ) (tree : Content)
    → element_at (written_in name (behind_texts (suc place) tree)) place ≡ None
none_at name zero tree = refl
none_at name (suc place) tree =
    let less : suc place - 1 ≡ place = omega arith in
    let rest = written_in name (behind_texts (suc place) tree) in
    none_by (suc place == 0) (element_at rest (suc place - 1))
    (subst (λ (at : ℕ). element_at rest at ≡ None) (sym less) (none_at name place tree))

itself : (doc : List ℕ) → bytes_eq doc doc ≡ true
itself doc = (bytes_eq-Decides doc doc).1 refl

behind_by : (test : Bool) (count : ℕ) (found : Option Content) → test ≡ true
    → (if test then option_map (behind_texts count) found else found) ≡ option_map (behind_texts count) found
behind_by true count found is = refl
behind_by false count found is = cc

behind_at : (world : World) (doc : List ℕ) (count : ℕ)
    → with_texts world doc count doc ≡ option_map (behind_texts count) (world doc)
behind_at world doc count = behind_by (bytes_eq doc doc) count (world doc) (itself doc)

none_found : (doc : List ℕ) (place : ℕ) (found : Option Content)
    → option_and_then (λ nodes. element_at nodes place)
    (option_map (written_in doc) (option_map (behind_texts (suc place)) found)) ≡ None
none_found doc place None = refl
none_found doc place (Some tree) = none_at doc place tree

pub no_element : (world : World) (doc : List ℕ) (place : ℕ)
    → element_in (with_texts world doc (suc place)) doc place ≡ None
no_element world doc place =
    ap (λ (found : Option Content). option_and_then (λ nodes. element_at nodes place) (option_map (written_in doc) found))
    (behind_at world doc (suc place)) ∙ none_found doc place (world doc)

-- It is no DITAVAL

no_rules : (doc : List ℕ) (found : Option Content)
    → option_and_then (λ tree. if_ditaval (rules_in doc tree)) (option_map (behind_texts (suc zero)) found) ≡ None
no_rules doc None = refl
no_rules doc (Some tree) = refl

pub no_ditaval : (world : World) (doc : List ℕ) → ditaval_in (with_texts world doc (suc zero)) doc ≡ None
no_ditaval world doc =
    ap (λ (found : Option Content). option_and_then (λ tree. if_ditaval (rules_in doc tree)) found)
    (behind_at world doc (suc zero)) ∙ no_rules doc (world doc)
