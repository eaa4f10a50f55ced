-- The documents that the elements of a body ask about.
use Rattle.std.specs.Prelude.{◌≡◌, ◌==◌, ◌&&◌, ◌||◌, ℕ, Bool, true, false, not, List, [], ◌∷◌, ◌++◌, Option, Some, None, IsTrue, bytes_eq, codes, length, option_map, if◌then◌else◌}
use Rattle.std.specs.Option.{option_and_then, option_to_list}
use Rattle.std.proofs.Common.{refl, sym, ap, subst}
use Rattle.std.proofs.Math.Logic.{⊎_elim}
use Rattle.std.proofs.lemmas.Bool.{false≢true, or_cases, or_left, or_right}
use Rattle.dita_doc.specs.Tree as tree
use Rattle.dita_doc.specs.declared.content.KeyAnswer.{KeyAnswer}
use Rattle.dita_doc.specs.declared.fault.Fault.{Fault}
use Rattle.dita_doc.specs.declared.plan.PageId.{PageId}
use Rattle.dita_doc.specs.declared.plan.PlanNode.{PlanNode}
use Rattle.dita_doc.specs.declared.plan.Reference.{Reference}
use Rattle.dita_doc.specs.declared.plan.Target.{Target}
use Rattle.dita_doc.specs.declared.plan.Target.TheVariants as targets
use Rattle.map_spec.specs.Elements.{attribute}
use Rattle.map_spec.specs.Target.{target_by}
use Rattle.map_spec.specs.Written.{Element, Written, Node}
use Rattle.html_spec.specs.Anchors.{Here, format_of, in_topic, read_as, read_href, scope_of}
use Rattle.plan_nodes.specs.Given.{IsTold}
use Rattle.plan_nodes.proofs.GivenLaws.{may_target}
use Rattle.readers.specs.Founded.{AreAllowed, Grows, StaysFounded, homes, is_among}
use Rattle.readers.specs.Named.{link_names, linked_in, name_joined, names_of_element}
use Rattle.readers.specs.Told.{Told, document, key}
use Rattle.readers.proofs.AmongLaws.{among_back, among_either, among_front}
use Rattle.readers.proofs.GrowthLaws.{are_allowed_before}
use Rattle.readers.proofs.FoundedLaws.{among_one, given_allowed, stays_after, stays_among, stays_then}
use Rattle.xref_links.specs.Adding.{IsRead}
use Rattle.xref_links.specs.Names.{names_of_target, names_with}

-- The document that an href leads to: an element that has the href alone names no other

abbrev element_with : List ℕ → List ℕ → Element
element_with doc value = record {
  name = [];
  attributes = record { name = codes "href"; value = value } ∷ [];
  doc = doc;
  line = 0;
  href_doc = doc;
}

abbrev tree_with : List ℕ → tree.Content
tree_with value =
    tree.Element [] (record { name = codes "href"; value = value } ∷ []) 0 0 tree.End tree.End

abbrev told_with : List ℕ → List ℕ → List Told
told_with doc value = document doc (Some (tree_with value)) ∷ []

was_told : (doc value : List ℕ) → IsTold (told_with doc value) (element_with doc value)
was_told doc value = record {
  allowed = λ roots m among. or_left _ _ (among_front (names_of_element (element_with doc value)) [] m among);
  may = λ rule gives roots follows m among.
      or_left _ _ (follows.each doc (tree_with value) m (among_front (gives (element_with doc value)) [] m among));
}

alone_by : (doc value : List ℕ) (found : Option (List ℕ)) → name_joined doc value ≡ found
    → names_of_element (element_with doc value) ≡ option_to_list found
alone_by doc value None e = rw e refl
alone_by doc value (Some name) e = rw e refl

joined_among : (doc value name : List ℕ)
    → IsTrue (is_among (names_of_element (element_with doc value) ++ []) name)
    → IsTrue (is_among (option_to_list (name_joined doc value)) name)
joined_among doc value name among =
    subst (λ names. IsTrue (is_among names name)) (alone_by doc value (name_joined doc value) refl)
    (among_either (names_of_element (element_with doc value)) [] name _ (λ here. here)
    (λ none. absurd (false≢true none)) among)

pub href_named : (doc value format scope name : List ℕ) (reference : Reference)
    → target_by value format scope doc ≡ Some (targets.Local name reference)
    → IsTrue (is_among (option_to_list (name_joined doc value)) name)
href_named doc value format scope name reference is =
    let names = names_of_element (element_with doc value) ++ [] in
    let allowed : IsTrue (is_among names name || false) =
    may_target (told_with doc value) (element_with doc value) value format scope name reference
    (was_told doc value) refl is [] in
    joined_among doc value name
    (⊎_elim (λ here. here) (λ none. absurd (false≢true none)) (or_cases (is_among names name) false allowed))

-- The document of what an href leads to

module _ (here : Here) (topic : List ℕ) (element : Element) (m : List ℕ) where
  abbrev Among : List (List ℕ) → Type 0
  Among names = IsTrue (is_among names m)

  by_test : (test : Bool) (name : List ℕ) (reference other : Reference)
      → (Among (name ∷ []) → Among (link_names element))
      → Among (names_of_target (if test then targets.Local here.page.id.doc other else targets.Local name reference))
      → Among (here.page.id.doc ∷ link_names element)
  by_test true name reference other joined among =
      or_left (bytes_eq here.page.id.doc m) _ (⊎_elim (λ own. own) (λ none. absurd (false≢true none))
      (or_cases (bytes_eq here.page.id.doc m) false among))
  by_test false name reference other joined among = or_right (bytes_eq here.page.id.doc m) _ (joined among)

  by_target : (target : Target)
      → ((name : List ℕ) (reference : Reference) → target ≡ targets.Local name reference → Among (name ∷ [])
      → Among (link_names element))
      → Among (names_of_target (in_topic here topic target)) → Among (here.page.id.doc ∷ link_names element)
  by_target targets.Nothing joined among = absurd (false≢true among)
  by_target (targets.Local name reference) joined among = by_test
      ((length reference.file == 0) && bytes_eq reference.topic (codes ".") && not (length reference.element == 0))
      name reference (record reference { topic = topic }) (joined name reference refl) among
  by_target (targets.File name rest) joined among = absurd (false≢true among)
  by_target (targets.Other value) joined among = absurd (false≢true among)

  by_read : (href : List ℕ) (read : Option Target)
      → ((name : List ℕ) (reference : Reference) → read ≡ Some (targets.Local name reference) → Among (name ∷ [])
      → Among (link_names element))
      → Among (names_of_target (read_as element href (option_map (in_topic here topic) read)).target)
      → Among (here.page.id.doc ∷ link_names element)
  by_read href None joined among = absurd (false≢true among)
  by_read href (Some target) joined among =
      by_target target (λ name reference is. joined name reference (ap (λ t. Some t) is)) among

  joined_link : (href name : List ℕ) (reference : Reference) → attribute (codes "href") element ≡ Some href
      → target_by href (format_of element) (scope_of element) element.href_doc ≡ Some (targets.Local name reference)
      → Among (name ∷ []) → Among (link_names element)
  joined_link href name reference written is among =
      subst (λ found. Among (option_to_list (option_and_then (name_joined element.href_doc) found))) (sym written)
      (subst (λ n. IsTrue (is_among (option_to_list (name_joined element.href_doc href)) n)) (among_one name m among)
      (href_named element.href_doc href (format_of element) (scope_of element) name reference is))

  by_href : (href : Option (List ℕ)) → attribute (codes "href") element ≡ href
      → Among (names_of_target (read_href here topic element href).target)
      → Among (here.page.id.doc ∷ link_names element)
  by_href None written among = absurd (false≢true among)
  by_href (Some href) written among = by_read href
      (target_by href (format_of element) (scope_of element) element.href_doc)
      (λ name reference is. joined_link href name reference written is) among

-- a page of this identity
abbrev here_with : PageId → Here
here_with id = record {
  world = λ name. None;
  pages = [];
  page = record { id = id; node = 0; name = [] };
  number = 0;
  key = λ text. record { node = None; target = targets.Nothing; label = []; faults = [] };
}

-- a call about the document that an href leads to
pub read_founded : (id : PageId) (topic : List ℕ) (element : Element) (target : Target) (before after : List Fault)
    (old new : List Told)
    → ((here : Here) → here.page.id ≡ id
    → IsRead (read_href here topic element (attribute (codes "href") element)) target before after)
    → StaysFounded (names_of_target target) old new → StaysFounded (id.doc ∷ link_names element) old new
read_founded id topic element target before after old new read stays =
    let here = here_with id in
    stays_among (names_of_target target) (id.doc ∷ link_names element) old new
    (λ m among. by_href here topic element m (attribute (codes "href") element) refl
    (subst (λ t. IsTrue (is_among (names_of_target t) m)) (read here refl).leads among)) stays

-- What the answer of a key leads to

pub answer_allowed : (nodes : List PlanNode) (scope : ℕ) (text : List ℕ) (answer : KeyAnswer) (old new : List Told)
    (roots : List (List ℕ)) → new ≡ key nodes scope text answer ∷ old
    → AreAllowed roots new (names_of_target answer.target)
answer_allowed nodes scope text answer old new roots is =
    given_allowed roots (key nodes scope text answer) old new is

-- The walk

with_among : (nodes : List PlanNode) (page : List ℕ) (some all : List (List ℕ)) (m : List ℕ)
    → (IsTrue (is_among some m) → IsTrue (is_among all m)) → IsTrue (is_among (names_with nodes page some) m)
    → IsTrue (is_among (names_with nodes page all) m)
with_among nodes page some all m within among =
    among_either (homes nodes) (page ∷ some) m (IsTrue (is_among (names_with nodes page all) m))
    (λ here. among_front (homes nodes) (page ∷ all) m here)
    (λ there. among_back (homes nodes) (page ∷ all) m
    (⊎_elim (λ own. or_left (bytes_eq page m) _ own) (λ more. or_right (bytes_eq page m) _ (within more))
    (or_cases (bytes_eq page m) _ there))) among

-- a call about some of what is left
pub step_founded : (nodes : List PlanNode) (page : List ℕ) (all left some : List (List ℕ)) (a b c : List Told)
    → Grows a b → StaysFounded (names_with nodes page all) a b
    → ((m : List ℕ) → IsTrue (is_among left m) → IsTrue (is_among all m))
    → ((m : List ℕ) → IsTrue (is_among some m) → IsTrue (is_among left m))
    → StaysFounded (names_with nodes page some) b c → StaysFounded (names_with nodes page all) a c
step_founded nodes page all left some a b c grows before within part next =
    stays_after (names_with nodes page all) a b c grows before
    (stays_among (names_with nodes page some) (names_with nodes page all) b c
    (λ m among. with_among nodes page some all m (λ here. within m (part m here)) among) next)

module _ (nodes : Written) (element : Element) (inside rest : Written) (first : nodes ≡ Node element inside rest)
    (m : List ℕ) where
  to_all : IsTrue (is_among (link_names element ++ (linked_in inside ++ linked_in rest)) m)
      → IsTrue (is_among (linked_in nodes) m)
  to_all among = subst (λ (all : Written). IsTrue (is_among (linked_in all) m)) (sym first) among

  pub link_first : IsTrue (is_among (link_names element) m) → IsTrue (is_among (linked_in nodes) m)
  link_first among = to_all (among_front (link_names element) _ m among)

  pub link_inside : IsTrue (is_among (linked_in inside) m) → IsTrue (is_among (linked_in nodes) m)
  link_inside among = to_all (among_back (link_names element) _ m
      (among_front (linked_in inside) (linked_in rest) m among))

  pub link_behind : IsTrue (is_among (linked_in rest) m) → IsTrue (is_among (linked_in nodes) m)
  link_behind among = to_all (among_back (link_names element) _ m
      (among_back (linked_in inside) (linked_in rest) m among))

-- An element: the key, and what it leads to

-- the key of an element is asked for
pub key_founded : (nodes known : List PlanNode) (page : List ℕ) (links : List (List ℕ)) (a b : List Told)
    → known ≡ nodes → StaysFounded (homes known) a b → StaysFounded (names_with nodes page links) a b
key_founded nodes known page links a b same stays =
    stays_among (homes nodes) (names_with nodes page links) a b
    (λ m among. among_front (homes nodes) (page ∷ links) m among)
    (subst (λ ns. StaysFounded (homes ns) a b) same stays)

-- then what the key, or else the href, leads to
pub behind_founded : (nodes known : List PlanNode) (page : List ℕ) (links given : List (List ℕ)) (a b c : List Told)
    → known ≡ nodes → Grows a b → StaysFounded (homes known) a b
    → ((roots : List (List ℕ)) → AreAllowed roots b given) → StaysFounded (given ++ page ∷ links) b c
    → StaysFounded (names_with nodes page links) a c
behind_founded nodes known page links given a b c same grows before allowed next =
    stays_then (names_with nodes page links) (given ++ page ∷ links) a b c
    (key_founded nodes known page links a b same before)
    (λ roots first. record {
      each = λ m among. among_either given (page ∷ links) m _ (λ here. (allowed roots).each m here)
          (λ there. (are_allowed_before roots a b (names_with nodes page links) grows first).each m
          (among_back (homes nodes) (page ∷ links) m there)) among;
    }) next

pub key_part : (given : List (List ℕ)) (page : List ℕ) (links : List (List ℕ)) (a b : List Told)
    → StaysFounded given a b → StaysFounded (given ++ page ∷ links) a b
key_part given page links a b stays =
    stays_among given (given ++ page ∷ links) a b (λ m among. among_front given (page ∷ links) m among) stays

pub href_part : (given : List (List ℕ)) (page : List ℕ) (links : List (List ℕ)) (a b : List Told)
    → StaysFounded (page ∷ links) a b → StaysFounded (given ++ page ∷ links) a b
href_part given page links a b stays =
    stays_among (page ∷ links) (given ++ page ∷ links) a b
    (λ m among. among_back given (page ∷ links) m among) stays
