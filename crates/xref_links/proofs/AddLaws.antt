-- What each element adds.
use Rattle.std.specs.Prelude.{◌≡◌, ◌||◌, ◌++◌, ℕ, Bool, true, false, not, List, [], Option, Some, None, is_some, if◌then◌else◌}
use Rattle.std.specs.Option.{option_map_or, option_to_list}
use Rattle.std.proofs.Common.{refl, sym, ap, subst, ◌∙◌, append-nil, append_assoc}
use Rattle.dita_doc.specs.declared.content.KeyAnswer.{KeyAnswer}
use Rattle.dita_doc.specs.declared.plan.Target.TheVariants as targets
use Rattle.map_spec.specs.Elements.{has_types}
use Rattle.map_spec.specs.Written.{Element}
use Rattle.html_spec.specs.Anchors.{Added, Here, added_by, added_of, defined_key, image_added, image_by, image_of, is_image, is_link, is_xref, key_faults_of, keyref_of, linked_added, linked_by_key, linked_by_read, linked_of, linked_with, nothing_added, read_href, topic_here}
use Rattle.map_spec.specs.Places.{TopicAt}
use Rattle.map_spec.specs.Elements.{attribute}
use Rattle.std.specs.Prelude.{codes}
use Rattle.xref_links.specs.Adding.{HasKey, HasMore, IsGiven, IsKeyed, alone, element_of, stands_in, target_of}
use Rattle.xref_links.specs.Types.{AreTypes}
use Rattle.xref_links.specs.declared.keyed.Keyed.{Keyed}
use Rattle.xref_links.specs.declared.made.AnchorsMade.{AnchorsMade}
use Rattle.xref_links.specs.declared.page.PageRead.{PageRead}
use Rattle.xref_links.specs.declared.page.PlacedElement.{PlacedElement}
use Rattle.xref_links.specs.declared.types.Types.{Types}

-- Nothing

pub nothing_more : (made : AnchorsMade) → HasMore made made (nothing_added [])
nothing_more made = record {
  anchors = sym (append-nil made.anchors);
  links = sym (append-nil made.links);
  faults = sym (append-nil made.faults);
}

pub typed_by : (is typed : Bool) → not is ≡ false → is ≡ typed → true ≡ typed
typed_by true typed e same = same
typed_by false typed e same = cc

module _ (here : Here) (page : PageRead) (standing : PlacedElement) (around : Option TopicAt) where
  abbrev element : Element
  element = element_of page standing

  by_types : (typed : Bool) (added : Added) → has_types element ≡ typed
      → (if typed then record added { faults = key_faults_of here element ++ added.faults } else nothing_added [])
      ≡ (if has_types element then record added { faults = key_faults_of here element ++ added.faults }
      else nothing_added [])
  by_types typed added e = rw e refl

  -- behind the faults of its key
  pub typed_more : (keyed : Option Keyed) (old middle new : AnchorsMade) → true ≡ has_types element
      → HasKey here element keyed old.faults middle.faults → middle.anchors ≡ old.anchors → middle.links ≡ old.links
      → HasMore middle new (added_by here (stands_in page standing around))
      → HasMore old new (added_of here (stands_in page standing around))
  typed_more keyed old middle new e key same_anchors same_links more =
      let added = added_by here (stands_in page standing around) in
      subst (HasMore old new) (by_types true added (sym e)) (record {
        anchors = more.anchors ∙ ap (λ all. all ++ option_to_list added.anchor) same_anchors;
        links = more.links ∙ ap (λ all. all ++ option_to_list added.link) same_links;
        faults = more.faults ∙ ap (λ fs. fs ++ added.faults) key.faults
            ∙ append_assoc old.faults (key_faults_of here element) added.faults;
      })

  -- By its types and its key

  abbrev linked : Added
  linked = linked_added here (stands_in page standing around)
      (linked_of here (topic_here (stands_in page standing around)) element)

  by_kind : (image xref link keyed : Bool) → is_image element ≡ image → is_xref element ≡ xref
      → is_link element ≡ link → is_some (defined_key here element) ≡ keyed
      → (if image then image_added here (stands_in page standing around) (image_of here element)
      else if xref || link || keyed then linked else nothing_added [])
      ≡ added_by here (stands_in page standing around)
  by_kind image xref link keyed i x l k = rw (i, x, l, k) refl

  keyed_target : (defined : Option KeyAnswer) (keyed : Option Keyed) → IsKeyed (keyref_of element) defined keyed
      → target_of keyed ≡ option_map_or (λ (answer : KeyAnswer). answer.target) defined targets.Nothing
  keyed_target None None is = refl
  keyed_target None (Some keyed) is = absurd is
  keyed_target (Some answer) None is = absurd is
  keyed_target (Some answer) (Some keyed) is = is.target

  -- an image
  pub image_more : (types : Types) (keyed : Option Keyed) (old new : AnchorsMade) → AreTypes element types
      → types.is_image ≡ true → IsKeyed (keyref_of element) (defined_key here element) keyed
      → HasMore old new (image_added here (alone page standing) (image_by element (target_of keyed)))
      → HasMore old new (added_by here (stands_in page standing around))
  image_more types keyed old new are is given more =
      subst (HasMore old new) (by_kind true (is_xref element) (is_link element) (is_some (defined_key here element))
      (sym are.image ∙ is) refl refl refl)
      (subst (λ target. HasMore old new (image_added here (alone page standing) (image_by element target)))
      (keyed_target (defined_key here element) keyed given) more)

  or_three : (a b : Bool) → (a || b || true) ≡ true
  or_three true b = refl
  or_three false true = refl
  or_three false false = refl

  -- an element of a defined key
  pub keyed_more : (types : Types) (answer : KeyAnswer) (old new : AnchorsMade) → AreTypes element types
      → types.is_image ≡ false → defined_key here element ≡ Some answer
      → HasMore old new (linked_added here (alone page standing) (linked_by_key here element answer))
      → HasMore old new (added_by here (stands_in page standing around))
  keyed_more types answer old new are image defined more =
      let topic = topic_here (stands_in page standing around) in
      subst (HasMore old new)
      (ap (λ linked. linked_added here (stands_in page standing around) linked)
      (ap (linked_with here topic element) (sym defined))
      ∙ ap (λ b. if b then linked else nothing_added []) (sym (or_three (is_xref element) (is_link element)))
      ∙ by_kind false (is_xref element) (is_link element) true (sym are.image ∙ image) refl refl
      (ap (λ (found : Option KeyAnswer). is_some found) defined)) more

  -- a cross reference or a link that is read by its href
  pub read_more : (types : Types) (old new : AnchorsMade) → AreTypes element types
      → types.is_image ≡ false → (types.is_xref || types.is_link) ≡ true → defined_key here element ≡ None
      → topic_here (stands_in page standing around) ≡ standing.topic.now
      → HasMore old new (linked_added here (alone page standing) (linked_by_read here element
      (read_href here standing.topic.now element (attribute (codes "href") element))))
      → HasMore old new (added_by here (stands_in page standing around))
  read_more types old new are image links none topic more =
      let stands = stands_in page standing around in
      subst (HasMore old new)
      (ap (λ t. linked_added here stands (linked_by_read here element
      (read_href here t element (attribute (codes "href") element)))) (sym topic)
      ∙ ap (λ found. linked_added here stands (linked_with here (topic_here stands) element found)) (sym none)
      ∙ ap (λ b. if b then linked else nothing_added []) (sym (either (is_xref element) (is_link element)
      (sym (ap (λ b. b || types.is_link) are.xref ∙ ap (λ b. is_xref element || b) are.link) ∙ links)))
      ∙ by_kind false (is_xref element) (is_link element) false (sym are.image ∙ image) refl refl
      (ap (λ (found : Option KeyAnswer). is_some found) none)) more
    where
      either : (a b : Bool) → (a || b) ≡ true → (a || b || false) ≡ true
      either true b e = refl
      either false true e = refl
      either false false e = e

  -- any other element
  pub other_more : (types : Types) (made : AnchorsMade) → AreTypes element types
      → types.is_image ≡ false → (types.is_xref || types.is_link) ≡ false → defined_key here element ≡ None
      → HasMore made made (added_by here (stands_in page standing around))
  other_more types made are image links none =
      subst (HasMore made made)
      (ap (λ b. if b then linked else nothing_added []) (sym (neither (is_xref element) (is_link element)
      (sym (ap (λ b. b || types.is_link) are.xref ∙ ap (λ b. is_xref element || b) are.link) ∙ links)))
      ∙ by_kind false (is_xref element) (is_link element) false (sym are.image ∙ image) refl refl
      (ap (λ (found : Option KeyAnswer). is_some found) none)) (nothing_more made)
    where
      neither : (a b : Bool) → (a || b) ≡ false → (a || b || false) ≡ false
      neither true b e = e
      neither false true e = e
      neither false false e = refl

-- Keys

-- what a key gives that is defined
pub record Defined (keyref : Option (List ℕ)) (defined : Option KeyAnswer) (keyed : Keyed) : Type 0 where
  pub answer : KeyAnswer
  pub is : defined ≡ Some answer
  pub given : IsGiven keyref answer keyed

pub key_defined : (keyref : Option (List ℕ)) (defined : Option KeyAnswer) (found : Option Keyed) (keyed : Keyed)
    → found ≡ Some keyed → IsKeyed keyref defined found → Defined keyref defined keyed
key_defined keyref None None keyed e is = cc
key_defined keyref None (Some own) keyed e is = absurd is
key_defined keyref (Some answer) None keyed e is = absurd is
key_defined keyref (Some answer) (Some own) keyed e is =
    let same : own ≡ keyed = cc in
    record { answer = answer; is = refl; given = subst (IsGiven keyref answer) same is }

pub key_undefined : (keyref : Option (List ℕ)) (defined : Option KeyAnswer) (found : Option Keyed)
    → found ≡ None → IsKeyed keyref defined found → defined ≡ None
key_undefined keyref None found e is = refl
key_undefined keyref (Some answer) None e is = absurd is
key_undefined keyref (Some answer) (Some own) e is = cc
