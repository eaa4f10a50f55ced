-- What is seen of pushing elements: one after the other, and against the definition of what they push.
use Rattle.std.specs.Prelude.{◌≡◌, ◌+◌, ◌||◌, ℕ, Bool, true, false, List, [], ◌∷◌, ◌++◌, Option, Some, None, codes, is_some, map, option_map, option_to_list}
use Rattle.std.specs.List.{cons_option, filter_map, list_any}
use Rattle.std.specs.Option.{option_copied, option_map_or}
use Rattle.std.proofs.Common.{refl, sym, ap, subst, ◌∙◌, append-nil, append_assoc}
use Rattle.std.proofs.lemmas.List.{map-append}
use Rattle.std.proofs.lemmas.List.Concat.{flat_map-append}
use Rattle.std.proofs.lemmas.List.Elements.{filter_map-append}
use Rattle.dita_doc.specs.declared.content.PushKind.{PushKind}
use Rattle.map_spec.specs.Elements.{attribute}
use Rattle.map_spec.specs.Written.{Element, Whole, Written, End, Chars, Node, document, elements_below, size}
use Rattle.map_spec.specs.Places.{Standing, TopicAt, all_standing, standing_from, topic_inside}
use Rattle.map_spec.specs.Pushes.{AllPushes, Pushing, PushTarget, has_conaction, all_pushes, conref_of, no_pushes, push_kind, pushes_behind, pushing_at, pushing_in, pushing_of, with_pushing}
use Rattle.reader_spec.specs.World.{World}
use Rattle.conref_push.specs.Acting.{acts_there, any_acts}
use Rattle.conref_push.specs.Gathered.{sights_in}
use Rattle.conref_push.specs.declared.pushing.Pushing as code
use Rattle.doc_elements.specs.Walk.{element_of}
use Rattle.conref_push.specs.Sight.{Sight, all_seen, id_around, pushing_seen, seen_at, sight_at, sight_of, standing_at, with_all_seen, with_seen}

-- Some of a list

pub first_or : {X : Type 0} (found : Option X) (more : List X) → cons_option found more ≡ option_to_list found ++ more
first_or None more = refl
first_or (Some x) more = refl

-- The walk

module _ (done all : List Sight) (here : ℕ) (around : Option TopicAt) (before : Option Element) (rest : Written) where
  -- what was seen, with what is seen of the rest, is all
  abbrev pub IsOnTheWay : Type 0
  IsOnTheWay = done ++ all_seen (standing_from here around before rest) ≡ all

  pub way_end : rest ≡ End → IsOnTheWay → done ≡ all
  way_end is way = sym (append-nil done)
      ∙ subst (λ nodes. done ++ all_seen (standing_from here around before nodes) ≡ all) is way

  pub way_text : (text doc : List ℕ) (more : Written) → rest ≡ Chars text doc more → IsOnTheWay
      → done ++ all_seen (standing_from (here + 1) around before more) ≡ all
  way_text text doc more is way =
      subst (λ nodes. done ++ all_seen (standing_from here around before nodes) ≡ all) is way

  pub way_element : (element : Element) (inside more : Written) (one new : List Sight) (past : ℕ)
      → rest ≡ Node element inside more
      → one ≡ done ++ option_to_list (seen_at (standing_at here element inside around before more))
      → new ≡ one ++ all_seen (standing_from (here + 1) (topic_inside here element around) None inside)
      → past ≡ here + 1 + size inside → IsOnTheWay
      → new ++ all_seen (standing_from past around (Some element) more) ≡ all
  way_element element inside more one new past is first within at way =
      let standing = standing_at here element inside around before more in
      let held = standing_from (here + 1) (topic_inside here element around) None inside in
      let later = standing_from (here + 1 + size inside) around (Some element) more in
      let inner = all_seen held in
      let outer = all_seen later in
      let parts : all_seen (standing ∷ (held ++ later)) ≡ option_to_list (seen_at standing) ++ (inner ++ outer) =
      first_or (seen_at standing) (all_seen (held ++ later))
      ∙ ap (λ more. option_to_list (seen_at standing) ++ more) (filter_map-append seen_at held later) in
      ap (λ n. new ++ all_seen (standing_from n around (Some element) more)) at
      ∙ ap (λ l. l ++ outer) (within ∙ ap (λ l. l ++ inner) first)
      ∙ append_assoc (done ++ option_to_list (seen_at standing)) inner outer
      ∙ append_assoc done (option_to_list (seen_at standing)) (inner ++ outer)
      ∙ ap (λ l. done ++ l) (sym parts)
      ∙ subst (λ nodes. done ++ all_seen (standing_from here around before nodes) ≡ all) is way

-- what the code keeps of an element that pushes
pub one_more : (name : List ℕ) (old new : List code.Pushing) (pushing : code.Pushing) (standing : Standing)
    (kind : PushKind) → new ≡ old ++ pushing ∷ []
    → Some kind ≡ push_kind (attribute (codes "conaction") standing.whole.0) → pushing.kind ≡ kind
    → pushing.place ≡ standing.place → element_of name pushing.element.now ≡ standing.whole.0
    → pushing.topic.now ≡ id_around standing.topic → option_copied pushing.conref ≡ conref_of standing kind
    → map (sight_of name) new ≡ map (sight_of name) old ++ option_to_list (seen_at standing)
one_more name old new pushing standing kind more pushes kind_is place_is element_is topic_is conref_is =
    let sight : sight_of name pushing ≡ sight_at standing kind =
    rw (kind_is, place_is, element_is, topic_is, conref_is) refl in
    ap (map (sight_of name)) more ∙ map-append (sight_of name) old (pushing ∷ [])
    ∙ ap (λ s. map (sight_of name) old ++ s ∷ []) sight
    ∙ ap (λ k. map (sight_of name) old ++ option_to_list (option_map (sight_at standing) k)) pushes

pub none_more : (name : List ℕ) (old : List code.Pushing) (standing : Standing)
    → None ≡ push_kind (attribute (codes "conaction") standing.whole.0)
    → map (sight_of name) old ≡ map (sight_of name) old ++ option_to_list (seen_at standing)
none_more name old standing none = sym (append-nil (map (sight_of name) old))
    ∙ ap (λ k. map (sight_of name) old ++ option_to_list (option_map (sight_at standing) k)) none

pub from_none : (name : List ℕ) (old new : List code.Pushing) (all : List Sight) → old ≡ []
    → map (sight_of name) new ≡ map (sight_of name) old ++ all → map (sight_of name) new ≡ all
from_none name old new all none is = is ∙ ap (λ l. map (sight_of name) l ++ all) none

-- The pushes

same_pushing : (world : World) (standing : Standing) (kind : PushKind) (all : AllPushes) (target : Option PushTarget)
    → with_pushing all (pushing_seen world (sight_at standing kind)) target
    ≡ with_pushing all (pushing_of world standing kind) target
same_pushing world standing kind all None = refl
same_pushing world standing kind all (Some target) = refl

pushes_first : (world : World) (standing : Standing) (more : List Standing) (kind : Option PushKind) (all : AllPushes)
    → ((made : AllPushes)
    → with_all_seen world made (all_seen more) ≡ pushes_behind made (filter_map (pushing_at world) more))
    → with_all_seen world all (cons_option (option_map (sight_at standing) kind) (all_seen more))
    ≡ pushes_behind all (cons_option (option_map (pushing_of world standing) kind) (filter_map (pushing_at world) more))
pushes_first world standing more None all others = others all
pushes_first world standing more (Some kind) all others =
    ap (λ made. with_all_seen world made (all_seen more))
    (same_pushing world standing kind all (pushing_of world standing kind).target)
    ∙ others (with_pushing all (pushing_of world standing kind) (pushing_of world standing kind).target)

-- what is seen of elements pushes what they push
pub pushes_seen : (world : World) (standings : List Standing) (all : AllPushes)
    → with_all_seen world all (all_seen standings) ≡ pushes_behind all (filter_map (pushing_at world) standings)
pushes_seen world [] all = refl
pushes_seen world (standing ∷ more) all =
    pushes_first world standing more (push_kind (attribute (codes "conaction") standing.whole.0)) all
    (pushes_seen world more)

behind_both : (all : AllPushes) (some more : List Pushing)
    → pushes_behind all (some ++ more) ≡ pushes_behind (pushes_behind all some) more
behind_both all [] more = refl
behind_both all (pushing ∷ some) more = behind_both (with_pushing all pushing pushing.target) some more

pub all_seen_push : (world : World) (all : AllPushes) (some : List Sight) (sight : Sight)
    → with_all_seen world all (some ++ sight ∷ []) ≡ with_seen world (with_all_seen world all some) sight
all_seen_push world all [] sight = refl
all_seen_push world all (first ∷ some) sight = all_seen_push world (with_seen world all first) some sight

abbrev pushing_under : World → List ℕ → List Pushing
pushing_under world name = option_map_or
    (λ nodes. filter_map (pushing_at world) (all_standing nodes)) (document world name) []

pushing_more : (world : World) (documents : List (List ℕ)) (name : List ℕ)
    → pushing_in world (documents ++ name ∷ []) ≡ pushing_in world documents ++ pushing_under world name
pushing_more world documents name = flat_map-append (pushing_under world) documents (name ∷ [])
    ∙ ap (λ more. pushing_in world documents ++ more) (append-nil (pushing_under world name))

-- a document more, which is not stored
pub all_same : (world : World) (documents : List (List ℕ)) (name : List ℕ) → document world name ≡ None
    → all_pushes world (documents ++ name ∷ []) ≡ all_pushes world documents
unfolding all_pushes
all_same world documents name none = ap (pushes_behind no_pushes) (pushing_more world documents name
    ∙ ap (λ (found : Option Written). pushing_in world documents ++ option_map_or
    (λ nodes. filter_map (pushing_at world) (all_standing nodes)) found []) none
    ∙ append-nil (pushing_in world documents))

-- a document more
pub all_more : (world : World) (documents : List (List ℕ)) (name : List ℕ) (nodes : Written)
    → document world name ≡ Some nodes
    → all_pushes world (documents ++ name ∷ []) ≡ with_all_seen world (all_pushes world documents) (sights_in nodes)
unfolding all_pushes
all_more world documents name nodes is = ap (pushes_behind no_pushes) (pushing_more world documents name
    ∙ ap (λ (found : Option Written). pushing_in world documents ++ option_map_or
    (λ nodes. filter_map (pushing_at world) (all_standing nodes)) found []) is)
    ∙ behind_both no_pushes (pushing_in world documents) (filter_map (pushing_at world) (all_standing nodes))
    ∙ sym (pushes_seen world (all_standing nodes) (pushes_behind no_pushes (pushing_in world documents)))

pub all_none : (world : World) → all_pushes world [] ≡ no_pushes
unfolding all_pushes
all_none world = refl

-- Where nothing acts, nothing pushes

kind_of_none : (action : Option (List ℕ)) → is_some action ≡ false → push_kind action ≡ None
kind_of_none None is = refl
kind_of_none (Some value) is = cc

pub or_none : (here : Bool) (there : Bool) → (here || there) ≡ false → (here ≡ false) × (there ≡ false)
or_none false there is = (refl, is)
or_none true there is = cc

pub any_both : (some more : List Whole) → list_any acts_there (some ++ more) ≡ false
    → (list_any acts_there some ≡ false) × (list_any acts_there more ≡ false)
any_both [] more is = (refl, is)
any_both (whole ∷ some) more is =
    let parts = or_none (acts_there whole) (list_any acts_there (some ++ more)) is in
    let others = any_both some more parts.1 in
    (rw (parts.0, others.0) refl, others.1)

quiet : (place : ℕ) (around : Option TopicAt) (before : Option Element) (nodes : Written)
    → any_acts nodes ≡ false → all_seen (standing_from place around before nodes) ≡ []
quiet place around before End none = refl
quiet place around before (Chars text doc rest) none = quiet (place + 1) around before rest none
quiet place around before (Node element inside rest) none =
    let parts = or_none (has_conaction element)
    (list_any acts_there (elements_below inside ++ elements_below rest)) none in
    let both = any_both (elements_below inside) (elements_below rest) parts.1 in
    let standing = standing_at place element inside around before rest in
    let held = standing_from (place + 1) (topic_inside place element around) None inside in
    let later = standing_from (place + 1 + size inside) around (Some element) rest in
    let here : seen_at standing ≡ None = ap (option_map (sight_at standing))
    (kind_of_none (attribute (codes "conaction") element) parts.0) in
    rw (
      here,
      filter_map-append seen_at held later,
      quiet (place + 1) (topic_inside place element around) None inside both.0,
      quiet (place + 1 + size inside) around (Some element) rest both.1,
    ) refl

pub nothing_seen : (nodes : Written) → any_acts nodes ≡ false → sights_in nodes ≡ []
nothing_seen nodes none = quiet 0 None None nodes none
