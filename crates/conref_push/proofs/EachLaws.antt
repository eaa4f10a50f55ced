-- What is so of each element, in a document with its pushes: where copies keep it, it is so of each element there, if it is
-- so of each element of the document and of those that pushes come from.
use Rattle.std.specs.Prelude.{◌≡◌, ◌+◌, ◌-◌, ◌==◌, ◌&&◌, ℕ, Bool, true, false, List, [], ◌∷◌, Option, Some, None, IsTrue, find, map, nat_lt, if◌then◌else◌}
use Rattle.std.specs.Option.{option_and_then, option_map_or}
use Rattle.std.proofs.Common.{refl}
use Rattle.dita_doc.specs.declared.content.Push.{Push}
use Rattle.dita_doc.specs.declared.content.PushKind.{PushKind}
use Rattle.map_spec.specs.Written.{Element, Whole, Written, End, Chars, Node, document, element_at, element_in, side_by_side, size}
use Rattle.map_spec.specs.Pushes.{has_conaction, all_side_by_side, pushed_at, copy_beside, is_after, is_before, is_replace, itself_or, pushed_element, pushed_from, pushes_at, with_id_of, without_acting}
use Rattle.reader_spec.specs.World.{World}
use Rattle.readers.specs.Founded.{is_among}
use Rattle.readers.proofs.FoundedLaws.{among_behind, among_first}
use Rattle.conref_push.specs.Into.{froms}

abbrev pub EachOf : (Element → Type 0) → Written → Type 0
EachOf E End = Unit {0}
EachOf E (Chars text doc rest) = EachOf E rest
EachOf E (Node element inside rest) = E element × (EachOf E inside × EachOf E rest)

abbrev WholeOf : (Element → Type 0) → Option Whole → Type 0
WholeOf E None = Unit {0}
WholeOf E (Some whole) = E whole.0 × EachOf E whole.1

abbrev pub TreeOf : (Element → Type 0) → Option Written → Type 0
TreeOf E None = Unit {0}
TreeOf E (Some nodes) = EachOf E nodes

-- Pushes

abbrev pub EachPush : (Push → Type 0) → List Push → Type 0
EachPush P [] = Unit {0}
EachPush P (push ∷ pushes) = P push × EachPush P pushes

-- it is so in the documents that these pushes come from
abbrev pub InFroms : (Element → Type 0) → World → List Push → Type 0
InFroms E world pushes = EachPush (λ (push : Push). TreeOf E (document world push.from)) pushes

-- what is so of each document that pushes come from is so at each push
pub each_from : (P : List ℕ → Type 0) (pushes : List Push)
    → ((name : List ℕ) → IsTrue (is_among (froms pushes) name) → P name) → EachPush (λ (push : Push). P push.from) pushes
each_from P [] each = tt
each_from P (push ∷ pushes) each = (
  each push.from (among_first push.from (froms pushes)),
  each_from P pushes (λ name among. each name (among_behind push.from (froms pushes) name among)),
)

at_by : (P : Push → Type 0) (push : Push) (some : List Push) (test : Bool) → P push → EachPush P some
    → EachPush P (if test then push ∷ some else some)
at_by P push some true here later = (here, later)
at_by P push some false here later = later

-- and at the pushes of a kind to a place
pub each_at : (P : Push → Type 0) (is_of : PushKind → Bool) (place : ℕ) (pushes : List Push) → EachPush P pushes
    → EachPush P (pushes_at is_of place pushes)
each_at P is_of place [] each = tt
each_at P is_of place (push ∷ pushes) each = at_by P push (pushes_at is_of place pushes)
    (is_of push.kind && (push.at == place)) each.0 (each_at P is_of place pushes each.1)

module _ (E : Element → Type 0) where
  each_beside : (nodes more : Written) → EachOf E nodes → EachOf E more → EachOf E (side_by_side nodes more)
  each_beside End more is also = also
  each_beside (Chars text doc rest) more is also = each_beside rest more is also
  each_beside (Node element inside rest) more is also = (is.0, (is.1.0, each_beside rest more is.1.1 also))

  quiet_by : (element : Element) (inside rest : Written) (told : Bool) → has_conaction element ≡ told → E element
      → EachOf E (without_acting inside) → EachOf E (without_acting rest)
      → EachOf E (without_acting (Node element inside rest))
  quiet_by element inside rest true told here within later = rw told later
  quiet_by element inside rest false told here within later = rw told (here, (within, later))

  each_quiet : (nodes : Written) → EachOf E nodes → EachOf E (without_acting nodes)
  each_quiet End is = tt
  each_quiet (Chars text doc rest) is = each_quiet rest is
  each_quiet (Node element inside rest) is = quiet_by element inside rest (has_conaction element) refl is.0
      (each_quiet inside is.1.0) (each_quiet rest is.1.1)

  -- An element that is found

  found_behind : (found : Option Whole) (first : Bool) → WholeOf E found → WholeOf E (if first then None else found)
  found_behind found true is = tt
  found_behind found false is = is

  found_by : (element : Element) (inside : Written) (past within : Option Whole) (first further : Bool) → E element
      → EachOf E inside → WholeOf E past → WholeOf E within
      → WholeOf E (if first then Some (element, inside) else if further then past else within)
  found_by element inside past within true further here below later deeper = (here, below)
  found_by element inside past within false true here below later deeper = later
  found_by element inside past within false false here below later deeper = deeper

  each_found : (nodes : Written) (place : ℕ) → EachOf E nodes → WholeOf E (element_at nodes place)
  each_found End place is = tt
  each_found (Chars text doc rest) place is = found_behind (element_at rest (place - 1)) (place == 0)
      (each_found rest (place - 1) is)
  each_found (Node element inside rest) place is = found_by element inside
      (element_at rest (place - (1 + size inside))) (element_at inside (place - 1)) (place == 0)
      (nat_lt (size inside) place) is.0 is.1.0 (each_found rest (place - (1 + size inside)) is.1.1)
      (each_found inside (place - 1) is.1.0)

  each_in : (found : Option Written) (place : ℕ) → TreeOf E found
      → WholeOf E (option_and_then (λ nodes. element_at nodes place) found)
  each_in None place is = tt
  each_in (Some nodes) place is = each_found nodes place is

  -- a copy with other attributes
  each_copy : (change : Element → Element) → ((element : Element) → E element → E (change element))
      → (found : Option Whole) → WholeOf E found
      → EachOf E (option_map_or (λ (whole : Whole). Node (change whole.0) (without_acting whole.1) End) found End)
  each_copy change keeps None is = tt
  each_copy change keeps (Some whole) is = (keeps whole.0 is.0, (each_quiet whole.1 is.1, tt))

  -- What copies keep

  module _ (kept : (element : Element) → E element → E (pushed_element element))
      (kept_instead : (replaced element : Element) → E element → E (with_id_of replaced (pushed_element element)))
      (world : World) where
    each_copied : (pushes : List Push) → InFroms E world pushes
        → EachOf E (all_side_by_side (map (copy_beside world) pushes))
    each_copied [] are = tt
    each_copied (push ∷ pushes) are =
        each_beside (copy_beside world push) (all_side_by_side (map (copy_beside world) pushes))
        (each_copy pushed_element kept (element_in world push.from push.place)
        (each_in (document world push.from) push.place are.0))
        (each_copied pushes are.1)

    -- the element itself, or a copy of the first of these pushes
    each_itself : (element : Element) (inside : Written) (pushes : List Push) → E element → EachOf E inside
        → InFroms E world pushes → EachOf E (itself_or world element inside (find (λ push. true) pushes))
    each_itself element inside [] here within are = (here, (within, tt))
    each_itself element inside (push ∷ pushes) here within are =
        each_copy (λ copied. with_id_of element (pushed_element copied)) (kept_instead element)
        (element_in world push.from push.place) (each_in (document world push.from) push.place are.0)

    module _ (pushes : List Push) (are : InFroms E world pushes) where
      each_place : (place : ℕ) (element : Element) (inside : Written) → E element → EachOf E inside
          → EachOf E (pushed_at world pushes place element inside)
      each_place place element inside here within =
          let P = λ (push : Push). TreeOf E (document world push.from) in
          let instead = pushes_at is_replace place pushes in
          let after = all_side_by_side (map (copy_beside world) (pushes_at is_after place pushes)) in
          each_beside (all_side_by_side (map (copy_beside world) (pushes_at is_before place pushes)))
          (side_by_side (itself_or world element inside (find (λ push. true) instead)) after)
          (each_copied (pushes_at is_before place pushes) (each_at P is_before place pushes are))
          (each_beside (itself_or world element inside (find (λ push. true) instead)) after
          (each_itself element inside instead here within (each_at P is_replace place pushes are))
          (each_copied (pushes_at is_after place pushes) (each_at P is_after place pushes are)))

      each_by : (place : ℕ) (element : Element) (inside rest : Written) (told : Bool) → has_conaction element ≡ told
          → E element → EachOf E (pushed_from world pushes (place + 1) inside)
          → EachOf E (pushed_from world pushes (place + 1 + size inside) rest)
          → EachOf E (pushed_from world pushes place (Node element inside rest))
      each_by place element inside rest true told here within later = rw told later
      each_by place element inside rest false told here within later = rw told (each_beside
          (pushed_at world pushes place element (pushed_from world pushes (place + 1) inside))
          (pushed_from world pushes (place + 1 + size inside) rest)
          (each_place place element (pushed_from world pushes (place + 1) inside) here within) later)

      pub each_pushed : (place : ℕ) (nodes : Written) → EachOf E nodes
          → EachOf E (pushed_from world pushes place nodes)
      each_pushed place End is = tt
      each_pushed place (Chars text doc rest) is = each_pushed (place + 1) rest is
      each_pushed place (Node element inside rest) is =
          each_by place element inside rest (has_conaction element) refl is.0 (each_pushed (place + 1) inside is.1.0)
          (each_pushed (place + 1 + size inside) rest is.1.1)
