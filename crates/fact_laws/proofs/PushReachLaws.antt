-- The pushes of some documents are the same in two worlds in which these documents are the same, and also those that
-- their elements name. And each push comes from one of these documents.
use Rattle.std.specs.Prelude.{◌≡◌, ◌+◌, ◌++◌, ℕ, Bool, true, false, List, [], ◌∷◌, Option, Some, None, IsTrue, bytes_eq, codes, filter, map, option_map, option_to_list, if◌then◌else◌}
use Rattle.std.specs.List.{cons_option, filter_map, list_any}
use Rattle.std.specs.Option.{option_and_then, option_map_or}
use Rattle.std.proofs.Common.{refl, sym, ap, ap₂, subst, ◌∙◌}
use Rattle.std.proofs.Math.Logic.{⊎_elim}
use Rattle.std.proofs.lemmas.Bool.{false≢true, or_cases}
use Rattle.std.proofs.lemmas.Slice.Eq.{bytes_eq-Decides}
use Rattle.conref_push.proofs.AimLaws.{aims_among_names}
use Rattle.conref_push.specs.Aimed.{aims_among, doc_aimed, doc_named, push_aim}
use Rattle.conref_push.specs.Sight.{sight_at}
use Rattle.dita_doc.specs.Tree as tree
use Rattle.dita_doc.specs.Tree.{Content}
use Rattle.dita_doc.specs.declared.content.Push.{Push}
use Rattle.dita_doc.specs.declared.content.PushKind.{PushKind}
use Rattle.dita_doc.specs.declared.plan.Reference.{Reference}
use Rattle.href_text.specs.Joined.{joined}
use Rattle.href_text.specs.Reference.{reference_of}
use Rattle.map_spec.specs.Elements.{attribute}
use Rattle.map_spec.specs.Places.{Standing, TopicAt, all_standing, standing_from, target_in, topic_inside}
use Rattle.map_spec.specs.Pushes.{AllPushes, PushInto, PushTarget, Pushing, all_pushes, conref_of, if_special, is_into, is_replaced_by, no_pushes, push_kind, push_of, push_target, pushes_behind, pushes_into, pushing_at, pushing_in, pushing_of, stands_in, target_named, topic_of, twice_fault, with_pushing}
use Rattle.map_spec.specs.Target.{if_read}
use Rattle.map_spec.specs.Written.{Element, document, size, written_in}
use Rattle.reader_spec.specs.World.{World}
use Rattle.readers.proofs.FoundedLaws.{among_behind, among_first, cons_behind, cons_first}
use Rattle.readers.specs.Founded.{is_among}
use Rattle.readers.specs.Named.{names_of_found}

-- the elements of a document that push
abbrev pushing_found : World → List ℕ → Option Content → List Pushing
pushing_found world name found =
    option_map_or (λ nodes. filter_map (pushing_at world) (all_standing nodes)) (option_map (written_in name) found) []

module _ (a b : World) where
  -- What one element pushes to

  module _ (standing : Standing) where
    by_name : (reference : Reference) (name : Option (List ℕ))
        → ((m : List ℕ) → name ≡ Some m → a m ≡ b m)
        → option_and_then (target_named a standing reference) name
        ≡ option_and_then (target_named b standing reference) name
    by_name reference None each = refl
    by_name reference (Some name) each = ap (λ (found : Option Content).
        option_map (λ (one : Standing). record { doc = name; standing = one }) (option_and_then
        (λ nodes. target_in nodes (topic_of standing reference) reference.element)
        (option_map (written_in name) found))) (each name refl)

    by_reference : (read : Option Reference)
        → ((m : List ℕ) → option_and_then (λ (reference : Reference).
        if_read (joined standing.whole.0.doc reference.file)) read ≡ Some m → a m ≡ b m)
        → option_and_then (λ (reference : Reference). option_and_then (target_named a standing reference)
        (if_read (joined standing.whole.0.doc reference.file))) read
        ≡ option_and_then (λ (reference : Reference). option_and_then (target_named b standing reference)
        (if_read (joined standing.whole.0.doc reference.file))) read
    by_reference None each = refl
    by_reference (Some reference) each =
        by_name reference (if_read (joined standing.whole.0.doc reference.file)) each

    by_conref : (conref : Option (List ℕ))
        → ((m : List ℕ) → option_and_then (doc_named standing.whole.0.doc) conref ≡ Some m → a m ≡ b m)
        → option_and_then (push_target a standing) conref ≡ option_and_then (push_target b standing) conref
    by_conref None each = refl
    by_conref (Some value) each = by_reference (if_read (reference_of value)) each

    by_kind : (kind : Option PushKind)
        → ((m : List ℕ) → option_and_then doc_aimed (option_map (sight_at standing) kind) ≡ Some m → a m ≡ b m)
        → option_map (pushing_of a standing) kind ≡ option_map (pushing_of b standing) kind
    by_kind None each = refl
    by_kind (Some kind) each = ap (λ (target : Option PushTarget). Some (record {
      kind = kind;
      standing = standing;
      conref = conref_of standing kind;
      target = option_and_then (if_special standing) target;
    })) (by_conref (conref_of standing kind) each)

    pushing_same : ((m : List ℕ) → push_aim standing ≡ Some m → a m ≡ b m)
        → pushing_at a standing ≡ pushing_at b standing
    pushing_same = by_kind (push_kind (attribute (codes "conaction") standing.whole.0))

  -- All that push in documents

  aim_first : (aim : Option (List ℕ)) (more : List (List ℕ)) (m : List ℕ) → aim ≡ Some m
      → IsTrue (is_among (cons_option aim more) m)
  aim_first aim more m is = cons_first aim more m
      (subst (λ found. IsTrue (is_among (option_to_list found) m)) (sym is) (among_first m []))

  standings_same : (standings : List Standing)
      → ((m : List ℕ) → IsTrue (is_among (aims_among standings) m) → a m ≡ b m)
      → filter_map (pushing_at a) standings ≡ filter_map (pushing_at b) standings
  standings_same [] each = refl
  standings_same (standing ∷ more) each = ap₂ cons_option
      (pushing_same standing (λ m is. each m (aim_first (push_aim standing) (aims_among more) m is)))
      (standings_same more (λ m among. each m (cons_behind (push_aim standing) (aims_among more) m among)))

  found_same : (name : List ℕ) (found : Option Content)
      → ((m : List ℕ) → IsTrue (is_among (names_of_found (option_map (written_in name) found)) m) → a m ≡ b m)
      → pushing_found a name found ≡ pushing_found b name found
  found_same name None each = refl
  found_same name (Some content) each = standings_same (all_standing (written_in name content))
      (λ m among. each m (aims_among_names name content m among))

  pushings_same : (documents : List (List ℕ))
      → ((name : List ℕ) → IsTrue (is_among documents name) → a name ≡ b name)
      → ((name m : List ℕ) → IsTrue (is_among documents name)
      → IsTrue (is_among (names_of_found (document a name)) m) → a m ≡ b m)
      → pushing_in a documents ≡ pushing_in b documents
  pushings_same [] same each = refl
  pushings_same (name ∷ documents) same each =
      let here = among_first name documents in
      ap₂ (λ (one more : List Pushing). one ++ more)
      (found_same name (a name) (λ m. each name m here) ∙ ap (pushing_found b name) (same name here))
      (pushings_same documents (λ n among. same n (among_behind name documents n among))
      (λ n m among. each n m (among_behind name documents n among)))

  pub same_pushes : (documents : List (List ℕ)) (name : List ℕ)
      → ((n : List ℕ) → IsTrue (is_among documents n) → a n ≡ b n)
      → ((n m : List ℕ) → IsTrue (is_among documents n)
      → IsTrue (is_among (names_of_found (document a n)) m) → a m ≡ b m)
      → pushes_into a documents name ≡ pushes_into b documents name
  unfolding all_pushes
  same_pushes documents name same each = ap (λ (all : AllPushes). record {
    pushes = map (λ (into : PushInto). into.push) (filter (is_into name) all.made);
    faults = filter (stands_in name) all.faults;
  }) (ap (pushes_behind no_pushes) (pushings_same documents same each))

-- Where pushes come from

module _ {X : Type 0} (P : X → Type 0) where
  abbrev Each : List X → Type 0
  Each [] = Unit {0}
  Each (x ∷ xs) = P x × Each xs

  each_append : (xs ys : List X) → Each xs → Each ys → Each (xs ++ ys)
  each_append [] ys first second = second
  each_append (x ∷ xs) ys first second = (first.0, each_append xs ys first.1 second)

  each_by : (test : Bool) (x : X) (xs : List X) → P x → Each xs → Each (if test then x ∷ xs else xs)
  each_by true x xs here more = (here, more)
  each_by false x xs here more = more

  each_kept : (keeps : X → Bool) (xs : List X) → Each xs → Each (filter keeps xs)
  each_kept keeps [] each = tt
  each_kept keeps (x ∷ xs) each = each_by (keeps x) x (filter keeps xs) each.0 (each_kept keeps xs each.1)

module _ (P : List ℕ → Type 0) where
  abbrev StandsIn : Standing → Type 0
  StandsIn standing = P standing.whole.0.doc

  abbrev PushesFrom : Pushing → Type 0
  PushesFrom pushing = P pushing.standing.whole.0.doc

  abbrev IsFrom : PushInto → Type 0
  IsFrom into = P into.push.from

  stand_in : (name : List ℕ) (content : Content) (place : ℕ) (topic : Option TopicAt) (before : Option Element) → P name
      → Each StandsIn (standing_from place topic before (written_in name content))
  stand_in name tree.End place topic before here = tt
  stand_in name (tree.Chars text origin line rest) place topic before here =
      stand_in name rest (place + 1) topic before here
  stand_in name (tree.Element text attributes origin line inner rest) place topic before here =
      let element : Element =
      record { name = text; attributes = attributes; doc = name; line = line; href_doc = name } in
      let inside = written_in name inner in
      let behind = written_in name rest in (
        here,
        each_append StandsIn (standing_from (place + 1) (topic_inside place element topic) None inside)
            (standing_from (place + 1 + size inside) topic (Some element) behind)
            (stand_in name inner (place + 1) (topic_inside place element topic) None here)
            (stand_in name rest (place + 1 + size inside) topic (Some element) here),
      )

  module _ (world : World) where
    push_first : (standing : Standing) (kind : Option PushKind) (more : List Pushing) → StandsIn standing
        → Each PushesFrom more → Each PushesFrom (cons_option (option_map (pushing_of world standing) kind) more)
    push_first standing None more here each = each
    push_first standing (Some kind) more here each = (here, each)

    push_all : (standings : List Standing) → Each StandsIn standings
        → Each PushesFrom (filter_map (pushing_at world) standings)
    push_all [] each = tt
    push_all (standing ∷ more) each = push_first standing (push_kind (attribute (codes "conaction") standing.whole.0))
        (filter_map (pushing_at world) more) each.0 (push_all more each.1)

    push_found : (name : List ℕ) (found : Option Content) → P name → Each PushesFrom (pushing_found world name found)
    push_found name None here = tt
    push_found name (Some content) here =
        push_all (all_standing (written_in name content)) (stand_in name content 0 None None here)

    push_in : (documents : List (List ℕ)) → ((name : List ℕ) → IsTrue (is_among documents name) → P name)
        → Each PushesFrom (pushing_in world documents)
    push_in [] each = tt
    push_in (name ∷ documents) each = each_append PushesFrom (pushing_found world name (world name))
        (pushing_in world documents) (push_found name (world name) (each name (among_first name documents)))
        (push_in documents (λ n among. each n (among_behind name documents n among)))

    -- what is kept of them

    one_behind : (twice : Bool) (all : AllPushes) (pushing : Pushing) (into : PushInto) → IsFrom into
        → Each IsFrom all.made
        → Each IsFrom (if twice then record all { faults = all.faults ++ twice_fault pushing ∷ [] }
        else record all { made = all.made ++ into ∷ [] }).made
    one_behind true all pushing into here each = each
    one_behind false all pushing into here each = each_append IsFrom all.made (into ∷ []) each (here, tt)

    behind : (all : AllPushes) (pushing : Pushing) (target : Option PushTarget) → PushesFrom pushing
        → Each IsFrom all.made → Each IsFrom (with_pushing all pushing target).made
    behind all pushing None here each = each
    behind all pushing (Some target) here each =
        one_behind (list_any (is_replaced_by (push_of pushing target)) all.made) all pushing (push_of pushing target)
        here each

    all_behind : (all : AllPushes) (pushings : List Pushing) → Each PushesFrom pushings → Each IsFrom all.made
        → Each IsFrom (pushes_behind all pushings).made
    all_behind all [] from each = each
    all_behind all (pushing ∷ more) from each = all_behind (with_pushing all pushing pushing.target) more from.1
        (behind all pushing pushing.target from.0 each)

    one_from : (made : List PushInto) → Each IsFrom made → (m : List ℕ) → IsTrue (is_among
        (map (λ (push : Push). push.from) (map (λ (into : PushInto). into.push) made)) m) → P m
    one_from [] each m among = absurd (false≢true among)
    one_from (into ∷ made) each m among = ⊎_elim
        (λ here. subst P ((bytes_eq-Decides into.push.from m).0 here) each.0)
        (λ more. one_from made each.1 m more) (or_cases (bytes_eq into.push.from m) _ among)

    pub pushes_from : (documents : List (List ℕ)) → ((name : List ℕ) → IsTrue (is_among documents name) → P name)
        → (name m : List ℕ)
        → IsTrue (is_among (map (λ (push : Push). push.from) (pushes_into world documents name).pushes) m) → P m
    unfolding all_pushes
    pushes_from documents each name = one_from (filter (is_into name) (all_pushes world documents).made)
        (each_kept IsFrom (is_into name) (all_pushes world documents).made
        (all_behind no_pushes (pushing_in world documents) (push_in documents each) tt))
