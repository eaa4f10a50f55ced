-- What a map names may be asked about.
use Rattle.std.specs.Prelude.{◌≡◌, ◌+◌, ◌-◌, ◌<◌, ◌≤◌, ℕ, zero, suc, Bool, true, false, List, [], ◌∷◌, ◌++◌, Option, Some, None, IfSome, IsTrue, codes, length, take, drop, slice_get, unwrap_or}
use Rattle.std.specs.Option.{option_and_then, option_to_list}
use Rattle.std.proofs.Common.{refl, sym, ap, ◌∙◌, arith, subst}
use Rattle.std.proofs.Math.Logic.{⊎_elim}
use Rattle.std.proofs.lemmas.Bool.{cases_lt}
use Rattle.std.proofs.lemmas.List.{length-drop, length-take}
use Rattle.dita_doc.specs.Tree as tree
use Rattle.dita_doc.specs.Tree.{ArePreorder, chars_node, content_of, content_within, is_element, nodes_of}
use Rattle.dita_doc.specs.declared.doc.Node as doc
use Rattle.dita_doc.specs.declared.doc.NodeKind.{NodeKind}
use Rattle.dita_doc.specs.declared.doc.NodeKind.TheVariants as kinds
use Rattle.dita_doc.proofs.TreeLaws.{slice_get-drop, slice_get-take}
use Rattle.doc_elements.specs.Walk.{element_of}
use Rattle.href_text.specs.Reference.{is_external}
use Rattle.map_spec.specs.Elements.{attribute, has_value}
use Rattle.map_spec.specs.Target.{Document, default_scope, is_far, named_of}
use Rattle.map_spec.specs.Written as written
use Rattle.map_spec.specs.Written.{Element, Written, written_in}
use Rattle.readers.specs.Documents.{AsksOnly, nothing}
use Rattle.readers.specs.Founded.{Grows, StaysFounded, is_among, names_given}
use Rattle.readers.specs.Named.{name_joined, names_in, names_of_element}
use Rattle.readers.specs.Told.{Told}
use Rattle.readers.proofs.DocumentLaws.{asks_by, asks_grows, asks_one, asks_same, asks_then, asks_when, follows_may, may_ask_before, none_may, one_may}
use Rattle.readers.proofs.FoundedLaws.{among_first, given_allowed, none_allowed, one_allowed, stays_by, stays_grows, stays_same, stays_then, stays_when}
use Rattle.readers.proofs.GivenLaws.{first_among}
use Rattle.readers.proofs.GrowthLaws.{allowed_before}
use Rattle.map_expand.specs.AskedFor.{asked_for}
use Rattle.map_expand.specs.Homes.{AreSiblings, Home, IsFirst, nodes_between}
use Rattle.readers.proofs.AmongLaws.{among_back, among_front}
use Rattle.plan_nodes.proofs.GivenLaws.{name_by}
use Rattle.map_expand.proofs.AskedForLaws.{asked_before}
use Rattle.map_expand.proofs.SiblingLaws.{begin}
use Rattle.map_expand.specs.declared.work.Walk.{Walk}
use Rattle.map_expand.specs.Telling.{IsTold, MayName, element_targets, map_targets, targets_in, told_of}

-- A document is told

pub is_told : (old new : List Told) (home : Home) → new ≡ told_of home ∷ old → IsTold new home
is_told old new home is = record {
  asked = subst (λ ts. IsTrue (is_among (asked_for ts) home.name)) (sym is) (among_first home.name (asked_for old));
  allowed = λ roots m among. (given_allowed roots (told_of home) old new is).each m among;
  may = λ rule roots covers m among. (follows_may rule map_targets roots (told_of home) old new covers is).each m among;
}

pub told_later : (old new : List Told) (home : Home) → Grows old new → IsTold old home → IsTold new home
told_later old new home grows told = record {
  asked = asked_before old new home.name grows told.asked;
  allowed = λ roots m among. allowed_before roots old new m grows (told.allowed roots m among);
  may = λ rule roots covers m among. may_ask_before rule roots old new m grows (told.may rule roots covers m among);
}

-- the name of a node of a map is that of a document that was asked for
pub asked_first : (told : List Told) (home : Home) (walk : Walk) (name : List ℕ) (node : doc.Node) → IsTold told home
    → IsFirst home walk name node → IsTrue (is_among (asked_for told) name)
asked_first told home walk name node is first =
    subst (λ n. IsTrue (is_among (asked_for told) n)) (sym first.named) is.asked

pub if_some : {X : Type 0} (found : Option X) (P : X → Type 0) → IfSome found P → (x : X) → found ≡ Some x → P x
if_some None P is x same = cc
if_some (Some y) P is x same = let one : y ≡ x = cc in subst P one is

-- An element of a document

-- what its elements give is what each of them gives
module _ (F : Written → List (List ℕ)) (f : Element → List (List ℕ)) (name : List ℕ)
    (chars : (text other : List ℕ) (rest : Written) → F (written.Chars text other rest) ≡ F rest)
    (child : (element : Element) (inside rest : Written) → F (written.Node element inside rest) ≡ f element ++ (F inside ++ F rest))
    (m : List ℕ) where
  abbrev Among : Written → Type 0
  Among nodes = IsTrue (is_among (F nodes) m)

  by_element : (element : Element) (inside rest : Written) → IsTrue (is_among (f element) m)
      → Among (written.Node element inside rest)
  by_element element inside rest among =
      subst (λ l. IsTrue (is_among l m)) (sym (child element inside rest)) (among_front (f element) _ m among)

  by_inside : (element : Element) (inside rest : Written) → Among inside → Among (written.Node element inside rest)
  by_inside element inside rest among = subst (λ l. IsTrue (is_among l m)) (sym (child element inside rest))
      (among_back (f element) _ m (among_front (F inside) (F rest) m among))

  by_rest : (element : Element) (inside rest : Written) → Among rest → Among (written.Node element inside rest)
  by_rest element inside rest among = subst (λ l. IsTrue (is_among l m)) (sym (child element inside rest))
      (among_back (f element) _ m (among_back (F inside) (F rest) m among))

  within : (n : ℕ) (nodes : List doc.Node) (place k : ℕ) (node : doc.Node) → length nodes ≤ n
      → slice_get nodes k ≡ Some node → is_element node.kind ≡ true → IsTrue (is_among (f (element_of name node)) m)
      → Among (written_in name (content_within n nodes place))
  within zero [] place k node fits is element among = cc
  within zero (first ∷ nodes) place k node fits is element among = absurd (omega arith)
  within (suc n) [] place k node fits is element among = cc
  within (suc n) (first ∷ nodes) place zero node fits is element among =
      let same : first ≡ node = cc in
      let kind : is_element first.kind ≡ true = ap (λ (x : doc.Node). is_element x.kind) same ∙ element in
      rw kind (by_element (element_of name first) _ _
      (subst (λ x. IsTrue (is_among (f (element_of name x)) m)) (sym same) among))
  within (suc n) (first ∷ nodes) place (suc k) node fits is element among =
      by_kind (λ others at j less there. within n others at j node less there element among) (is_element first.kind) refl
    where
      by_kind : ((others : List doc.Node) (at j : ℕ) → length others ≤ n → slice_get others j ≡ Some node
          → Among (written_in name (content_within n others at))) → (test : Bool) → is_element first.kind ≡ test
          → Among (written_in name (content_within (suc n) (first ∷ nodes) place))
      by_kind again false e = rw e (subst (λ l. IsTrue (is_among l m)) (sym (chars _ _ _))
          (again nodes (place + 1) k (omega arith) is))
      by_kind again true e = let many = first.end - (place + 1) in rw e (⊎_elim
          (λ before. by_inside _ _ _ (again (take many nodes) (place + 1) k (omega (arith, length-take many nodes))
          (slice_get-take many nodes k before ∙ is)))
          (λ past. by_rest _ _ _ (again (drop many nodes) first.end (k - many) (omega (arith, length-drop many nodes))
          (slice_get-drop many nodes (k - many) k (omega arith) ∙ is)))
          (cases_lt k many))

module _ (home : Home) (at : ℕ) (node : doc.Node) (here : slice_get home.nodes at ≡ Some node)
    (element : is_element node.kind ≡ true) (m : List ℕ) where
  pub among_given : IsTrue (is_among (names_of_element (element_of home.name node)) m)
      → IsTrue (is_among (names_given (told_of home)) m)
  among_given among = within names_in names_of_element home.name (λ text other rest. refl) (λ element inside rest. refl) m
      (length home.nodes) home.nodes 0 at node (omega arith) here element among

  pub among_targets : IsTrue (is_among (element_targets (element_of home.name node)) m)
      → IsTrue (is_among (map_targets (told_of home)) m)
  among_targets among = within targets_in element_targets home.name (λ text other rest. refl) (λ element inside rest. refl) m
      (length home.nodes) home.nodes 0 at node (omega arith) here element among

-- A document that an href names

module _ (element : Element) (href name : List ℕ) (is : attribute (codes "href") element ≡ Some href)
    (named : named_of element href ≡ Document name) where
  gives_name : IsTrue (is_among (names_of_element element) name)
  gives_name =
      let read : name_joined element.doc href ≡ Some name =
      name_by (is_far (unwrap_or (attribute (codes "scope") element) default_scope)) (is_external href) _ _ name
      named in
      let found : option_and_then (name_joined element.doc) (attribute (codes "href") element) ≡ Some name =
      ap (option_and_then (name_joined element.doc)) is ∙ read in
      first_among (codes "href") element.doc element.attributes name refl
      (subst (λ (f : Option (List ℕ)). IsTrue (is_among (option_to_list f) name)) (sym found) (among_first name []))

  targets_name : has_value (codes "format") (codes "ditamap") element ≡ true
      → IsTrue (is_among (element_targets element) name)
  targets_name format = rw (format, is, named) (among_first name [])

pub may_name : (told : List Told) (home : Home) (at : ℕ) (node : doc.Node) (href name : List ℕ) → IsTold told home
    → slice_get home.nodes at ≡ Some node → is_element node.kind ≡ true
    → attribute (codes "href") (element_of home.name node) ≡ Some href
    → has_value (codes "format") (codes "ditamap") (element_of home.name node) ≡ true
    → named_of (element_of home.name node) href ≡ Document name → MayName told name
may_name told home at node href name is here element attribute format named = record {
  allowed = λ roots. is.allowed roots name
      (among_given home at node here element name (gives_name (element_of home.name node) href name attribute named));
  may = λ rule roots covers. is.may rule roots covers name
      (among_targets home at node here element name
      (targets_name (element_of home.name node) href name attribute named format));
}

-- A text has no attributes

pub bare : (node : doc.Node) (more : List doc.Node) (place : ℕ) → ArePreorder (node ∷ more) place
    → node.kind ≡ kinds.Chars → node.attributes ≡ []
bare node more place preorder kind =
    let whole : content_of (node ∷ more) place
    ≡ tree.Chars node.text node.origin node.line (content_within (length more) more (place + 1)) = rw kind refl in
    let same : node ∷ more ≡ chars_node node.text node.origin node.line (place + 1)
    ∷ nodes_of (content_within (length more) more (place + 1)) (place + 1) =
    preorder ∙ ap (λ d. nodes_of d place) whole in
    let first : node ≡ chars_node node.text node.origin node.line (place + 1) = cc in
    ap (λ (n : doc.Node). n.attributes) first

-- so the node of an attribute is an element
pub has_kind : (home : Home) (place end : ℕ) → AreSiblings home place end → place < end → (node : doc.Node)
    → slice_get home.nodes place ≡ Some node → (href : List ℕ)
    → attribute (codes "href") (element_of home.name node) ≡ Some href → is_element node.kind ≡ true
has_kind home place end fits some node here href is = by_kind node.kind refl
  where
    none_some : (a : List ℕ) → None ≡ Some a → ⊥
    none_some a same = cc

    by_kind : (kind : NodeKind) → node.kind ≡ kind → is_element node.kind ≡ true
    by_kind kinds.Element e = ap is_element e
    by_kind kinds.Chars e =
        let more = nodes_between home (place + 1) end in
        let begins = begin home place end fits some node here in
        let none =
        bare node more place (sym begins ∙ fits.tree ∙ ap (λ l. nodes_of (content_of l place) place) begins) e in
        let nothing : attribute (codes "href") (element_of home.name node) ≡ None =
        ap (λ a. attribute (codes "href") (record (element_of home.name node) { attributes = a })) none in
        absurd (none_some href (sym nothing ∙ is))

-- Calls about a name

pub asks_name : (name : List ℕ) (old new : List Told) → AsksOnly nothing (name ∷ []) old new
    → AsksOnly map_targets (name ∷ []) old new
asks_name name old new = asks_one map_targets name (name ∷ []) old new (among_first name [])

pub stays_free : (name : List ℕ) (old new : List Told) → MayName old name → StaysFounded (name ∷ []) old new
    → StaysFounded [] old new
stays_free name old new may stays = stays_when [] old new (stays_grows _ old new stays)
    (λ roots none founded. stays_by _ old new stays roots (one_allowed roots old name (may.allowed roots)) founded)

pub asks_free : (name : List ℕ) (old new : List Told) → MayName old name → AsksOnly map_targets (name ∷ []) old new
    → AsksOnly map_targets [] old new
asks_free name old new may asks = asks_when map_targets [] old new (asks_grows map_targets _ old new asks)
    (λ rule roots covers none asked. asks_by map_targets _ old new asks rule roots covers
    (one_may rule roots old name (may.may rule roots covers)) asked)

pub stays_more : (name : List ℕ) (a b c : List Told) → Grows a b → StaysFounded (name ∷ []) a b → StaysFounded [] b c
    → StaysFounded (name ∷ []) a c
stays_more name a b c grows before next = stays_then (name ∷ []) [] a b c before (λ roots allowed. none_allowed roots b) next

pub asks_more : (name : List ℕ) (a b c : List Told) → Grows a b → AsksOnly map_targets (name ∷ []) a b
    → AsksOnly map_targets [] b c → AsksOnly map_targets (name ∷ []) a c
asks_more name a b c grows before next = asks_then map_targets map_targets (name ∷ []) [] a b c (λ rule covers. covers) before
    (λ rule roots covers may. none_may rule roots b) next

-- what closes most claims
pub ruleset telling = (asks_name, stays_same, asks_same)
