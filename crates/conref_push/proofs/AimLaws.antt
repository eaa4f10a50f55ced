-- The documents at which pushing elements are aimed: they follow from the document in which the elements stand, and its
-- elements give them.
use Rattle.std.specs.Prelude.{◌≡◌, ◌+◌, ◌<◌, ◌⊎◌, ℕ, zero, suc, Bool, true, false, List, [], ◌∷◌, ◌++◌, Option, Some, None, IsTrue, bytes_eq, codes, length, map, option_map, option_to_list, if◌then◌else◌}
use Rattle.std.specs.List.{cons_option, filter_map}
use Rattle.std.specs.Option.{option_and_then}
use Rattle.std.proofs.Common.{inl, inr, refl, sym, ap, subst, ◌∙◌, arith, get_or}
use Rattle.std.proofs.Math.Logic.{⊎_elim}
use Rattle.std.proofs.lemmas.Bool.{false≢true, or_cases}
use Rattle.std.proofs.lemmas.List.Elements.{filter_map-append}
use Rattle.dita_doc.specs.Tree as tree
use Rattle.dita_doc.specs.Tree.{Content}
use Rattle.dita_doc.specs.declared.content.PushKind.{PushKind}
use Rattle.dita_doc.specs.declared.content.PushKind.TheVariants as kinds
use Rattle.dita_doc.proofs.Tests.{same_text}
use Rattle.map_spec.specs.Elements.{attribute, has_value}
use Rattle.map_spec.specs.Written.{Element, Whole, Written, End, Chars, Node, first_sibling, size, written_in}
use Rattle.map_spec.specs.Places.{Standing, TopicAt, standing_from, topic_inside}
use Rattle.map_spec.specs.Pushes.{if_mark, push_kind}
use Rattle.readers.specs.Documents.{AsksOnly, nothing}
use Rattle.readers.specs.Founded.{StaysFounded, is_among}
use Rattle.readers.specs.Named.{name_joined, names_in, names_of_element}
use Rattle.readers.specs.Told.{Told, document}
use Rattle.readers.proofs.DocumentLaws.{asks_among, asks_one, asks_then, covers_nothing, covers_same, follows_may}
use Rattle.readers.proofs.AmongLaws.{among_back, among_front}
use Rattle.readers.proofs.GivenLaws.{first_among as first_named}
use Rattle.readers.proofs.FoundedLaws.{among_first, among_one, given_allowed, stays_among, stays_then}
use Rattle.conref_push.specs.declared.pushing.Pushing as code
use Rattle.conref_push.specs.Aimed.{push_aim, aims_among, aims_in, doc_aimed, doc_named, push_targets}
use Rattle.conref_push.specs.Sight.{Sight, all_seen, label_of, seen_at, sight_at, sight_of, standing_at}
use Rattle.conref_push.proofs.AmongLaws.{among_append}
use Rattle.conref_push.proofs.FileLaws.{named_joined}
use Rattle.conref_push.proofs.SightLaws.{first_or}

-- An element that is seen is aimed at a document among all that are aimed at

aims_first : (seen : Option Sight) (more : List Sight) (others : List (List ℕ))
    → filter_map doc_aimed more ≡ others
    → filter_map doc_aimed (cons_option seen more) ≡ cons_option (option_and_then doc_aimed seen) others
aims_first None more others same = same
aims_first (Some sight) more others same = ap (cons_option (doc_aimed sight)) same

aims_seen : (standings : List Standing) → filter_map doc_aimed (all_seen standings) ≡ aims_among standings
aims_seen [] = refl
aims_seen (one ∷ more) = aims_first (seen_at one) (all_seen more) (aims_among more) (aims_seen more)

at_among : (name m : List ℕ) (items : List code.Pushing) (at : ℕ) (one : code.Pushing) → at < length items
    → one ≡ get_or items at one → IsTrue (is_among (option_to_list (doc_aimed (sight_of name one))) m)
    → IsTrue (is_among (filter_map doc_aimed (map (sight_of name) items)) m)
at_among name m [] at one within is among = absurd (omega arith)
at_among name m (first ∷ items) zero one within is among =
    subst (λ l. IsTrue (is_among l m))
    (sym (first_or (doc_aimed (sight_of name first)) (filter_map doc_aimed (map (sight_of name) items))))
    (among_front (option_to_list (doc_aimed (sight_of name first))) _ m
    (subst (λ p. IsTrue (is_among (option_to_list (doc_aimed (sight_of name p))) m)) is among))
at_among name m (first ∷ items) (suc at) one within is among =
    subst (λ l. IsTrue (is_among l m))
    (sym (first_or (doc_aimed (sight_of name first)) (filter_map doc_aimed (map (sight_of name) items))))
    (among_back (option_to_list (doc_aimed (sight_of name first))) _ m
    (at_among name m items at one (omega arith) is among))

module _ (name : List ℕ) (standings : List Standing) (items : List code.Pushing) (at : ℕ) (one : code.Pushing)
    (seen : map (sight_of name) items ≡ all_seen standings) (within : at < length items)
    (is : one ≡ get_or items at one) where
  aimed_among : (m : List ℕ) → IsTrue (is_among (option_to_list (doc_aimed (sight_of name one))) m)
      → IsTrue (is_among (aims_among standings) m)
  aimed_among m among = subst (λ l. IsTrue (is_among l m)) (ap (filter_map doc_aimed) seen ∙ aims_seen standings)
      (at_among name m items at one within is among)

  pub stays_seen : (old new : List Told) → StaysFounded (option_to_list (doc_aimed (sight_of name one))) old new
      → StaysFounded (aims_among standings) old new
  stays_seen old new = stays_among (option_to_list (doc_aimed (sight_of name one))) (aims_among standings) old new
      aimed_among

  pub asks_seen : (old new : List Told) → AsksOnly nothing (option_to_list (doc_aimed (sight_of name one))) old new
      → AsksOnly nothing (aims_among standings) old new
  asks_seen old new = asks_among nothing nothing (option_to_list (doc_aimed (sight_of name one))) (aims_among standings)
      old new (covers_same nothing) aimed_among

-- Where an element gives a name

-- an element that may be there was written in this document
abbrev IsFrom : List ℕ → Option Element → Type 0
IsFrom name None = Unit {0}
IsFrom name (Some element) = element.doc ≡ name

-- the names that it gives
abbrev gives : Option Element → List (List ℕ)
gives None = []
gives (Some element) = names_of_element element

conref_among : (element : Element) (value m : List ℕ) → attribute (codes "conref") element ≡ Some value
    → name_joined element.doc value ≡ Some m → IsTrue (is_among (names_of_element element) m)
conref_among element value m has joined =
    let here : option_and_then (name_joined element.doc) (attribute (codes "conref") element) ≡ Some m =
    ap (option_and_then (name_joined element.doc)) has ∙ joined in
    first_named (codes "conref") element.doc element.attributes m refl
    (subst (λ (found : Option (List ℕ)). IsTrue (is_among (option_to_list found) m)) (sym here) (among_first m []))

carried_among : (from m : List ℕ) (carrier : Option Element) → IsFrom from carrier
    → option_and_then (doc_named from) (option_and_then (attribute (codes "conref")) carrier) ≡ Some m
    → IsTrue (is_among (gives carrier) m)
carried_among from m None own is = cc
carried_among from m (Some element) own is = by_value (attribute (codes "conref") element) refl is
  where
    by_value : (value : Option (List ℕ)) → attribute (codes "conref") element ≡ value
        → option_and_then (doc_named from) value ≡ Some m → IsTrue (is_among (names_of_element element) m)
    by_value None has named = cc
    by_value (Some value) has named = conref_among element value m has
        (named_joined element.doc value m (subst (λ doc. doc_named doc value ≡ Some m) (sym own) named))

mark_gives : (element : Element) (m : List ℕ) (test : Bool)
    → IsTrue (is_among (gives (if test then Some element else None)) m) → IsTrue (is_among (names_of_element element) m)
mark_gives element m true among = among
mark_gives element m false among = absurd (false≢true among)

mark_from : (name : List ℕ) (element : Element) (test : Bool) → element.doc ≡ name
    → IsFrom name (if test then Some element else None)
mark_from name element true own = own
mark_from name element false own = tt

module _ (name m : List ℕ) where
  abbrev Among : Written → Type 0
  Among nodes = IsTrue (is_among (names_in nodes) m)

  by_element : (element : Element) (inside rest : Written) → IsTrue (is_among (names_of_element element) m)
      → Among (Node element inside rest)
  by_element element inside rest among = among_front (names_of_element element) _ m among

  by_inside : (element : Element) (inside rest : Written) → Among inside → Among (Node element inside rest)
  by_inside element inside rest among =
      among_back (names_of_element element) _ m (among_front (names_in inside) (names_in rest) m among)

  by_rest : (element : Element) (inside rest : Written) → Among rest → Among (Node element inside rest)
  by_rest element inside rest among =
      among_back (names_of_element element) _ m (among_back (names_in inside) (names_in rest) m among)

  first_from : (all : Content) → IsFrom name (option_map label_of (first_sibling (written_in name all)))
  first_from tree.End = tt
  first_from (tree.Chars text origin line rest) = first_from rest
  first_from (tree.Element text attributes origin line inside rest) = refl

  first_among : (nodes : Written) → IsTrue (is_among (gives (option_map label_of (first_sibling nodes))) m)
      → Among nodes
  first_among End among = among
  first_among (Chars text doc rest) among = first_among rest among
  first_among (Node element inside rest) among = by_element element inside rest among

  abbrev mark_of : Option Whole → Option Element
  mark_of found = option_and_then (λ (mark : Whole). if_mark mark.0) found

  behind_from : (found : Option Whole) → IsFrom name (option_map label_of found) → IsFrom name (mark_of found)
  behind_from None own = tt
  behind_from (Some whole) own =
      mark_from name whole.0 (has_value (codes "conaction") (codes "mark") whole.0) own

  behind_gives : (found : Option Whole) → IsTrue (is_among (gives (mark_of found)) m)
      → IsTrue (is_among (gives (option_map label_of found)) m)
  behind_gives None among = among
  behind_gives (Some whole) among =
      mark_gives whole.0 m (has_value (codes "conaction") (codes "mark") whole.0) among

  before_from : (before : Option Element) → IsFrom name before → IsFrom name (option_and_then if_mark before)
  before_from None own = tt
  before_from (Some element) own = mark_from name element (has_value (codes "conaction") (codes "mark") element) own

  before_gives : (before : Option Element) → IsTrue (is_among (gives (option_and_then if_mark before)) m)
      → IsTrue (is_among (gives before) m)
  before_gives None among = among
  before_gives (Some element) among =
      mark_gives element m (has_value (codes "conaction") (codes "mark") element) among

  -- what an element is aimed at is given by itself, by the element before it, or behind it
  carrier_gives : (kind : PushKind) (place : ℕ) (element : Element) (inside : Written) (rest : Content)
      (around : Option TopicAt) (before : Option Element) → element.doc ≡ name → IsFrom name before
      → doc_aimed (sight_at (standing_at place element inside around before (written_in name rest)) kind) ≡ Some m
      → IsTrue (is_among (gives before) m) ⊎ Among (Node element inside (written_in name rest))
  carrier_gives kinds.Replace place element inside rest around before own first is =
      inr (by_element element inside (written_in name rest) (carried_among element.doc m (Some element) refl is))
  carrier_gives kinds.Before place element inside rest around before own first is =
      let found = first_sibling (written_in name rest) in
      let here = subst (λ doc. option_and_then (doc_named doc)
      (option_and_then (attribute (codes "conref")) (mark_of found)) ≡ Some m) own is in
      inr (by_rest element inside (written_in name rest) (first_among (written_in name rest) (behind_gives found
      (carried_among name m (mark_of found) (behind_from found (first_from rest)) here))))
  carrier_gives kinds.After place element inside rest around before own first is =
      let here = subst (λ doc. option_and_then (doc_named doc)
      (option_and_then (attribute (codes "conref")) (option_and_then if_mark before)) ≡ Some m) own is in
      inl (before_gives before (carried_among name m (option_and_then if_mark before) (before_from before first) here))

  aim_first : (aim : Option (List ℕ)) (more : List (List ℕ)) (P : Type 0) → (aim ≡ Some m → P)
      → (IsTrue (is_among more m) → P) → IsTrue (is_among (cons_option aim more) m) → P
  aim_first None more P here there among = there among
  aim_first (Some first) more P here there among = ⊎_elim (λ same. here (ap Some (same_text first m same))) there
      (or_cases (bytes_eq first m) (is_among more m) among)

  kind_gives : (kind : Option PushKind) (place : ℕ) (element : Element) (inside : Written) (rest : Content)
      (around : Option TopicAt) (before : Option Element) → element.doc ≡ name → IsFrom name before
      → option_and_then doc_aimed (option_map
      (sight_at (standing_at place element inside around before (written_in name rest))) kind) ≡ Some m
      → IsTrue (is_among (gives before) m) ⊎ Among (Node element inside (written_in name rest))
  kind_gives None place element inside rest around before own first is = cc
  kind_gives (Some kind) place element inside rest around before own first is =
      carrier_gives kind place element inside rest around before own first is

  aims_given : (all : Content) (place : ℕ) (around : Option TopicAt) (before : Option Element) → IsFrom name before
      → IsTrue (is_among (aims_among (standing_from place around before (written_in name all))) m)
      → IsTrue (is_among (gives before) m) ⊎ Among (written_in name all)
  aims_given tree.End place around before first among = absurd (false≢true among)
  aims_given (tree.Chars text origin line rest) place around before first among =
      aims_given rest (place + 1) around before first among
  aims_given (tree.Element text attributes origin line inner rest) place around before first among =
      let element : Element =
      record { name = text; attributes = attributes; doc = name; line = line; href_doc = name } in
      let inside = written_in name inner in
      let behind = written_in name rest in
      let here = standing_at place element inside around before behind in
      let held = standing_from (place + 1) (topic_inside place element around) None inside in
      let later = standing_from (place + 1 + size inside) around (Some element) behind in
      let Goal : Type 0 = IsTrue (is_among (gives before) m) ⊎ Among (Node element inside behind) in
      aim_first (push_aim here) (aims_among (held ++ later)) Goal
      (λ is. kind_gives (push_kind (attribute (codes "conaction") element)) place element inside rest around before
      refl first is)
      (λ more. ⊎_elim
      (λ within. ⊎_elim (λ none. absurd (false≢true none))
      (λ given. inr (by_inside element inside behind given))
      (aims_given inner (place + 1) (topic_inside place element around) None tt within))
      (λ past. ⊎_elim
      (λ given. inr (by_element element inside behind given))
      (λ given. inr (by_rest element inside behind given))
      (aims_given rest (place + 1 + size inside) around (Some element) refl past))
      (or_cases (is_among (aims_among held) m) (is_among (aims_among later) m)
      (subst IsTrue (ap (λ l. is_among l m) (filter_map-append push_aim held later)
      ∙ among_append (aims_among held) (aims_among later) m) more)))
      among

pub aims_among_names : (name : List ℕ) (all : Content) (m : List ℕ) → IsTrue (is_among (aims_in name (Some all)) m)
    → IsTrue (is_among (names_in (written_in name all)) m)
aims_among_names name all m among = ⊎_elim (λ none. absurd (false≢true none)) (λ given. given)
    (aims_given name m all 0 None None tt among)

-- A document was told, and then its pushing elements were aimed

pub stays_put : (name : List ℕ) (all : Content) (a b c : List Told) → StaysFounded (name ∷ []) a b
    → b ≡ document name (Some all) ∷ a → StaysFounded (aims_in name (Some all)) b c → StaysFounded (name ∷ []) a c
stays_put name all a b c before told next = stays_then (name ∷ []) (aims_in name (Some all)) a b c before
    (λ roots allowed. record {
      each = λ m among. (given_allowed roots (document name (Some all)) a b told).each m
          (aims_among_names name all m among);
    }) next

pub asks_put : (name : List ℕ) (all : Content) (a b c : List Told) → AsksOnly nothing (name ∷ []) a b
    → b ≡ document name (Some all) ∷ a → AsksOnly nothing (aims_in name (Some all)) b c
    → AsksOnly push_targets (name ∷ []) a c
asks_put name all a b c before told next = asks_then push_targets nothing (name ∷ []) (aims_in name (Some all)) a b c
    (λ rule covers. covers_nothing rule)
    (asks_one push_targets name (name ∷ []) a b (among_first name []) before)
    (λ rule roots covers may. follows_may rule push_targets roots (document name (Some all)) a b covers told) next

-- A document of a list

pub asks_item : (names : List (List ℕ)) (one : List ℕ) (old new : List Told) → IsTrue (is_among names one)
    → AsksOnly push_targets (one ∷ []) old new → AsksOnly push_targets names old new
asks_item names one old new among = asks_among push_targets push_targets (one ∷ []) names old new
    (covers_same push_targets) (λ m here. subst (λ n. IsTrue (is_among names n)) (among_one one m here) among)
