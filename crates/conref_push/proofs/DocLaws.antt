-- Documents as they were asked for, and the targets that are found in them.
use Rattle.std.specs.Prelude.{◌≡◌, ℕ, Bool, true, false, List, [], ◌∷◌, Option, Some, None, IsTrue, cond, is_some, option_map, option_to_list, if◌then◌else◌}
use Rattle.std.specs.BTreeMap as tree
use Rattle.std.specs.Cmp.Lexicographic.{slice_cmp}
use Rattle.std.specs.Option.{option_and_then}
use Rattle.std.specs.Ordering.{is_eq, nat_cmp}
use Rattle.std.proofs.Common.{refl, sym, ap, subst, ◌∙◌}
use Rattle.dita_doc.proofs.NameOrder.{equal_itself}
use Rattle.dita_doc.proofs.Orders.{same_at}
use Rattle.dita_doc.specs.declared.plan.Reference.{Reference}
use Rattle.href_text.specs.Joined.{joined}
use Rattle.href_text.specs.Reference.{reference_of}
use Rattle.map_spec.specs.Elements.{is_special}
use Rattle.map_spec.specs.Target.{if_read}
use Rattle.map_spec.specs.Written.{Written, document, written_in}
use Rattle.map_spec.specs.Places.{Standing, target_in}
use Rattle.map_spec.specs.Pushes.{PushTarget, if_special, push_target, target_named, topic_of}
use Rattle.reader_spec.specs.World.{World}
use Rattle.readers.specs.Documents.{AsksOnly, nothing}
use Rattle.readers.specs.Founded.{StaysFounded}
use Rattle.readers.specs.Told.{Told}
use Rattle.topic_find.specs.Walk.{place_of}
use Rattle.conref_push.specs.Aimed.{push_aim_read, doc_aimed, doc_named}
use Rattle.conref_push.specs.Sight.{Sight, standing_seen}
use Rattle.conref_push.specs.Targets.{AreKnown, IsTargetDoc, if_fits, place_meant, place_seen, spot_of, spot_seen, target_tree}
use Rattle.conref_push.specs.declared.target_docs.PushTarget as code
use Rattle.conref_push.specs.declared.target_docs.TargetDoc.{TargetDoc}

-- Tables by names

abbrev pub IsPut : {X : Type 0} → tree.BTreeMap (List ℕ) X → tree.BTreeMap (List ℕ) X → List ℕ → X → Type 0
IsPut {X} old new key value = (q : List ℕ) → tree.get (slice_cmp nat_cmp) new q
    ≡ cond (tree.is_at (slice_cmp nat_cmp key) q) (Some value) (tree.get (slice_cmp nat_cmp) old q)

module _ {X : Type 0} (P : List ℕ → X → Type 0) where
  -- nothing is known yet
  pub known_none : (docs : tree.BTreeMap (List ℕ) X) → docs.entries ≡ [] → AreKnown P docs
  known_none docs none = λ name found is.
      let empty : tree.get (slice_cmp nat_cmp) docs name ≡ None = rw none refl in
      let no : None ≡ Some found = sym empty ∙ is in cc

  -- one more is known
  pub known_put : (old new : tree.BTreeMap (List ℕ) X) (name key : List ℕ) (value : X) → IsPut old new key value
      → key ≡ name → P name value → AreKnown P old → AreKnown P new
  known_put old new name key value put same here known = λ q found is.
      by_test q found (tree.is_at (slice_cmp nat_cmp key) q) refl (sym (put q) ∙ is)
    where
      by_test : (q : List ℕ) (found : X) (test : Bool) → tree.is_at (slice_cmp nat_cmp key) q ≡ test
          → cond test (Some value) (tree.get (slice_cmp nat_cmp) old q) ≡ Some found → P q found
      by_test q found true at is =
          let value_is : value ≡ found = cc in
          let name_is : name ≡ q = sym same ∙ same_at key q at in
          subst (P q) value_is (subst (λ n. P n value) name_is here)
      by_test q found false at is = known q found is

pub put_here : {X : Type 0} (old new : tree.BTreeMap (List ℕ) X) (key : List ℕ) (value : X)
    → IsPut old new key value → IsTrue (is_some (tree.get (slice_cmp nat_cmp) new key))
put_here old new key value put = ap is_some (put key
    ∙ ap (λ test. cond (is_eq test) (Some value) (tree.get (slice_cmp nat_cmp) old key)) (equal_itself key))

-- what was there is still there
pub put_there : {X : Type 0} (old new : tree.BTreeMap (List ℕ) X) (key : List ℕ) (value : X) (q : List ℕ)
    → IsPut old new key value → IsTrue (is_some (tree.get (slice_cmp nat_cmp) old q))
    → IsTrue (is_some (tree.get (slice_cmp nat_cmp) new q))
put_there old new key value q put there = subst (λ found. IsTrue (is_some found)) (sym (put q))
    (by_test (tree.is_at (slice_cmp nat_cmp key) q))
  where
    by_test : (test : Bool)
        → IsTrue (is_some (cond test (Some value) (tree.get (slice_cmp nat_cmp) old q)))
    by_test true = refl
    by_test false = there

-- What stands under a name

pub place_found : (world : World) (sight : Sight) (name : List ℕ) (reference : Reference) (target : TargetDoc)
    (place : Option ℕ) → IsTargetDoc world name (Some target)
    → place ≡ place_meant (written_in name (target_tree target)) sight reference
    → place ≡ place_seen world sight name reference
place_found world sight name reference target place stored is =
    is ∙ sym (ap (λ found. option_and_then (λ nodes. place_meant nodes sight reference)
    (option_map (written_in name) found))
    stored.tree)

pub place_nowhere : (world : World) (sight : Sight) (name : List ℕ) (reference : Reference)
    → IsTargetDoc world name None → None ≡ place_seen world sight name reference
place_nowhere world sight name reference none =
    sym (ap (λ found. option_and_then (λ nodes. place_meant nodes sight reference) (option_map (written_in name) found))
    none)

-- The target

abbrev target_at : List ℕ → Standing → PushTarget
target_at name one = record { doc = name; standing = one }

abbrev pub spot_at : List ℕ → ℕ → code.PushTarget
spot_at name place = record { doc = name; place = place }

module _ (world : World) (sight : Sight) where
  abbrev spot_there : List ℕ × Reference → Option code.PushTarget
  spot_there aim = option_map (λ place. spot_at aim.0 place) (place_seen world sight aim.0 aim.1)

  spot_test : (name : List ℕ) (one : Standing) (test : Bool)
      → option_map spot_of (if test then Some (target_at name one) else None)
      ≡ option_map (λ place. spot_at name place) (option_map place_of (if test then Some one else None))
  spot_test name one true = refl
  spot_test name one false = refl

  spot_found : (name : List ℕ) (found : Option Standing)
      → option_map spot_of (option_and_then (if_special (standing_seen sight)) (option_map (target_at name) found))
      ≡ option_map (λ place. spot_at name place) (option_map place_of (option_and_then (if_fits sight) found))
  spot_found name None = refl
  spot_found name (Some one) = spot_test name one (is_special sight.element one.whole.0)

  spot_under : (name : List ℕ) (reference : Reference) (nodes : Option Written)
      → option_map spot_of (option_and_then (if_special (standing_seen sight)) (option_map (target_at name)
      (option_and_then (λ ns. target_in ns (topic_of (standing_seen sight) reference) reference.element) nodes)))
      ≡ option_map (λ place. spot_at name place) (option_and_then (λ ns. place_meant ns sight reference) nodes)
  spot_under name reference None = refl
  spot_under name reference (Some nodes) =
      spot_found name (target_in nodes (topic_of (standing_seen sight) reference) reference.element)

  abbrev seen_by : Option PushTarget → Option code.PushTarget
  seen_by target = option_map spot_of (option_and_then (if_special (standing_seen sight)) target)

  spot_joined : (reference : Reference) (name : Option (List ℕ))
      → seen_by (option_and_then (target_named world (standing_seen sight) reference) name)
      ≡ option_and_then spot_there (option_map (λ n. (n, reference)) name)
  spot_joined reference None = refl
  spot_joined reference (Some name) = spot_under name reference (document world name)

  spot_read : (reference : Option Reference)
      → seen_by (option_and_then (λ (r : Reference). option_and_then (target_named world (standing_seen sight) r)
      (if_read (joined sight.element.doc r.file))) reference)
      ≡ option_and_then spot_there (option_and_then (λ (r : Reference).
      option_map (λ n. (n, r)) (if_read (joined sight.element.doc r.file))) reference)
  spot_read None = refl
  spot_read (Some reference) = spot_joined reference (if_read (joined sight.element.doc reference.file))

  spot_by : (conref : Option (List ℕ))
      → seen_by (option_and_then (push_target world (standing_seen sight)) conref)
      ≡ option_and_then spot_there (push_aim_read sight.element.doc conref)
  spot_by None = refl
  spot_by (Some value) = spot_read (if_read (reference_of value))

  -- nothing is named
  pub spot_unread : None ≡ push_aim_read sight.element.doc sight.conref → None ≡ spot_seen world sight
  spot_unread none = sym (spot_by sight.conref ∙ ap (option_and_then spot_there) (sym none))

  pub spot_is : (name : List ℕ) (reference : Reference) (place : Option ℕ)
      → Some (name, reference) ≡ push_aim_read sight.element.doc sight.conref
      → place ≡ place_seen world sight name reference
      → option_map (λ p. spot_at name p) place ≡ spot_seen world sight
  spot_is name reference place read is = ap (option_map (λ p. spot_at name p)) is
      ∙ sym (spot_by sight.conref ∙ ap (option_and_then spot_there) (sym read))

-- The document that is named

named_read : (doc : List ℕ) (reference : Option Reference)
    → option_and_then (λ (r : Reference). if_read (joined doc r.file)) reference
    ≡ option_map (λ (aim : List ℕ × Reference). aim.0) (option_and_then (λ (r : Reference).
    option_map (λ n. (n, r)) (if_read (joined doc r.file))) reference)
named_read doc None = refl
named_read doc (Some reference) = by_name (if_read (joined doc reference.file))
  where
    by_name : (name : Option (List ℕ))
        → name ≡ option_map (λ (aim : List ℕ × Reference). aim.0) (option_map (λ n. (n, reference)) name)
    by_name None = refl
    by_name (Some name) = refl

named_by : (doc : List ℕ) (conref : Option (List ℕ)) → option_and_then (doc_named doc) conref
    ≡ option_map (λ (aim : List ℕ × Reference). aim.0) (push_aim_read doc conref)
named_by doc None = refl
named_by doc (Some value) = named_read doc (if_read (reference_of value))

pub aimed_at : (sight : Sight) (name : List ℕ) (reference : Reference)
    → Some (name, reference) ≡ push_aim_read sight.element.doc sight.conref
    → option_to_list (doc_aimed sight) ≡ name ∷ []
aimed_at sight name reference read = ap option_to_list (named_by sight.element.doc sight.conref
    ∙ ap (option_map (λ (aim : List ℕ × Reference). aim.0)) (sym read))

-- calls about the document at which an element is aimed
pub stays_aimed : (sight : Sight) (name : List ℕ) (reference : Reference) (old new : List Told)
    → Some (name, reference) ≡ push_aim_read sight.element.doc sight.conref → StaysFounded (name ∷ []) old new
    → StaysFounded (option_to_list (doc_aimed sight)) old new
stays_aimed sight name reference old new read = subst (λ names. StaysFounded names old new)
    (sym (aimed_at sight name reference read))

pub asks_aimed : (sight : Sight) (name : List ℕ) (reference : Reference) (old new : List Told)
    → Some (name, reference) ≡ push_aim_read sight.element.doc sight.conref → AsksOnly nothing (name ∷ []) old new
    → AsksOnly nothing (option_to_list (doc_aimed sight)) old new
asks_aimed sight name reference old new read = subst (λ names. AsksOnly nothing names old new)
    (sym (aimed_at sight name reference read))
