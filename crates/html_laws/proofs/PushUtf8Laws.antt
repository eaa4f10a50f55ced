-- Documents of UTF-8 with their pushes are UTF-8.
use Rattle.std.specs.Prelude.{◌+◌, ℕ, Bool, true, List, [], ◌∷◌, ◌++◌, Option, Some, None, IfSome, filter, find, map, codes}
use Rattle.std.specs.List.{AllByRecursion, filter_map, list_any}
use Rattle.std.specs.Option.{option_map_or}
use Rattle.std.specs.Str.{IsUtf8}
use Rattle.dita_doc.specs.declared.content.Push.{Push}
use Rattle.dita_doc.specs.declared.content.PushKind.{PushKind}
use Rattle.dita_doc.specs.declared.doc.Attribute.{Attribute}
use Rattle.reader_spec.specs.World.{World}
use Rattle.map_spec.specs.Elements.{attribute}
use Rattle.map_spec.specs.Written.{Element, Whole, Written, End, Chars, Node, document, element_in, side_by_side, size}
use Rattle.map_spec.specs.Places.{Standing, all_standing}
use Rattle.map_spec.specs.Pushes.{AllPushes, PushInto, PushTarget, Pushing, has_conaction, all_pushes, all_side_by_side, pushed_at, copy_beside, copy_instead, id_written, is_after, is_before, is_into, is_replace, is_replaced_by, itself_or, no_pushes, push_kind, push_of, pushed, pushed_element, pushed_from, pushes_at, pushes_behind, pushes_into, pushing_at, pushing_in, pushing_of, with_id_of, with_pushing, without_acting, without_names, pushing_names, twice_fault}
use Rattle.html_laws.specs.Utf8.{HasUtf8Value, IsUtf8Content, IsUtf8Element, IsUtf8World}
use Rattle.html_laws.proofs.ContentUtf8Laws.{IsUtf8Whole, utf8_attribute_of, utf8_beside, utf8_element_in}
use Rattle.html_laws.proofs.EachLaws.{always, chosen, of_both, of_filter_map, of_found, of_kept, of_lists, of_map_or, of_mapped, of_option_map}
use Rattle.html_laws.proofs.PlaceUtf8Laws.{IsUtf8Standing, utf8_all_standing}

-- Where pushes come from

abbrev IsFromUtf8 : Push → Type 0
IsFromUtf8 push = IsUtf8 push.from

abbrev ComesFromUtf8 : PushInto → Type 0
ComesFromUtf8 into = IsUtf8 into.push.from

abbrev StandsInUtf8 : Pushing → Type 0
StandsInUtf8 pushing = IsUtf8 pushing.standing.whole.0.doc

utf8_pushing_at : (world : World) (standing : Standing) → IsUtf8Standing standing
    → IfSome (pushing_at world standing) StandsInUtf8
utf8_pushing_at world standing is =
    let kind = push_kind (attribute (codes "conaction") standing.whole.0) in
    let any : PushKind → Type 0 = λ kind. Unit {0} in
    of_option_map any StandsInUtf8 (pushing_of world standing) kind (λ kind one. is.whole.0.1) (always kind)

utf8_pushing_in : (world : World) (documents : List (List ℕ)) → IsUtf8World world → AllByRecursion IsUtf8 documents
    → AllByRecursion StandsInUtf8 (pushing_in world documents)
utf8_pushing_in world documents all named =
    of_lists IsUtf8 StandsInUtf8 (λ name. option_map_or
    (λ nodes. filter_map (pushing_at world) (all_standing nodes)) (document world name) []) documents
    (λ name is. of_map_or IsUtf8Content (AllByRecursion StandsInUtf8)
    (λ nodes. filter_map (pushing_at world) (all_standing nodes)) (document world name) []
    (λ nodes one. of_filter_map IsUtf8Standing StandsInUtf8 (pushing_at world) (all_standing nodes)
    (λ standing stands. utf8_pushing_at world standing stands) (utf8_all_standing nodes one)) (all name is) tt) named

abbrev AreFromUtf8 : AllPushes → Type 0
AreFromUtf8 all = AllByRecursion ComesFromUtf8 all.made

utf8_with : (all : AllPushes) (pushing : Pushing) (target : Option PushTarget) → AreFromUtf8 all → StandsInUtf8 pushing
    → AreFromUtf8 (with_pushing all pushing target)
utf8_with all pushing None first second = first
utf8_with all pushing (Some target) first second =
    let into = push_of pushing target in
    chosen AreFromUtf8 (list_any (is_replaced_by into) all.made)
    (record all { faults = all.faults ++ twice_fault pushing ∷ [] }) (record all { made = all.made ++ into ∷ [] }) first
    (of_both ComesFromUtf8 all.made (into ∷ []) first (second, tt))

utf8_behind : (all : AllPushes) (pushings : List Pushing) → AreFromUtf8 all → AllByRecursion StandsInUtf8 pushings
    → AreFromUtf8 (pushes_behind all pushings)
utf8_behind all [] first second = first
utf8_behind all (pushing ∷ more) first second =
    utf8_behind (with_pushing all pushing pushing.target) more
    (utf8_with all pushing pushing.target first second.0) second.1

utf8_all_pushes : (world : World) (documents : List (List ℕ)) → IsUtf8World world → AllByRecursion IsUtf8 documents
    → AreFromUtf8 (all_pushes world documents)
unfolding all_pushes
utf8_all_pushes world documents all named =
    utf8_behind no_pushes (pushing_in world documents) tt (utf8_pushing_in world documents all named)

utf8_pushes_into : (world : World) (documents : List (List ℕ)) (name : List ℕ) → IsUtf8World world
    → AllByRecursion IsUtf8 documents → AllByRecursion IsFromUtf8 (pushes_into world documents name).pushes
utf8_pushes_into world documents name all named =
    let made = (all_pushes world documents).made in
    of_mapped ComesFromUtf8 IsFromUtf8 (λ (into : PushInto). into.push) (filter (is_into name) made) (λ into is. is)
    (of_kept ComesFromUtf8 (is_into name) made (utf8_all_pushes world documents all named))

-- Content with pushes

pub utf8_without_names : (names : List (List ℕ)) (attributes : List Attribute) → AllByRecursion HasUtf8Value attributes
    → AllByRecursion HasUtf8Value (without_names names attributes)
utf8_without_names names attributes all = of_kept HasUtf8Value _ attributes all

utf8_without_acting : (nodes : Written) → IsUtf8Content nodes → IsUtf8Content (without_acting nodes)
utf8_without_acting End all = tt
utf8_without_acting (Chars text doc rest) all = (all.0, utf8_without_acting rest all.1)
utf8_without_acting (Node element inside rest) all =
    chosen IsUtf8Content (has_conaction element) (without_acting rest) (Node element (without_acting inside) (without_acting rest))
    (utf8_without_acting rest all.2) (all.0, utf8_without_acting inside all.1, utf8_without_acting rest all.2)

utf8_pushed_element : (element : Element) → IsUtf8Element element → IsUtf8Element (pushed_element element)
utf8_pushed_element element is = (utf8_without_names pushing_names element.attributes is.0, is.1, is.2)

utf8_id_written : (id : Option (List ℕ)) → IfSome id IsUtf8 → AllByRecursion HasUtf8Value (id_written id)
utf8_id_written None is = tt
utf8_id_written (Some id) is = (is, tt)

utf8_with_id : (replaced element : Element) → IsUtf8Element replaced → IsUtf8Element element
    → IsUtf8Element (with_id_of replaced element)
utf8_with_id replaced element first second = (
  of_both HasUtf8Value (id_written (attribute (codes "id") replaced))
      (without_names (codes "id" ∷ []) element.attributes)
      (utf8_id_written (attribute (codes "id") replaced) (utf8_attribute_of (codes "id") replaced first.0))
      (utf8_without_names (codes "id" ∷ []) element.attributes second.0),
  second.1,
  second.2,
)

utf8_all_beside : (all : List Written) → AllByRecursion IsUtf8Content all → IsUtf8Content (all_side_by_side all)
utf8_all_beside [] all = tt
utf8_all_beside (nodes ∷ more) all =
    utf8_beside nodes (all_side_by_side more) all.0 (utf8_all_beside more all.1)

module _ (world : World) (all : IsUtf8World world) where
  utf8_copy_beside : (push : Push) → IsFromUtf8 push → IsUtf8Content (copy_beside world push)
  utf8_copy_beside push named =
      of_map_or IsUtf8Whole IsUtf8Content
      (λ (whole : Whole). Node (pushed_element whole.0) (without_acting whole.1) End)
      (element_in world push.from push.place) End
      (λ whole is. (utf8_pushed_element whole.0 is.0, utf8_without_acting whole.1 is.1, tt))
      (utf8_element_in world push.from push.place all named) tt

  utf8_copy_instead : (replaced : Element) (push : Push) → IsUtf8Element replaced → IsFromUtf8 push
      → IsUtf8Content (copy_instead world replaced push)
  utf8_copy_instead replaced push first named =
      of_map_or IsUtf8Whole IsUtf8Content
      (λ (whole : Whole). Node (with_id_of replaced (pushed_element whole.0)) (without_acting whole.1) End)
      (element_in world push.from push.place) End
      (λ whole is. (
        utf8_with_id replaced (pushed_element whole.0) first (utf8_pushed_element whole.0 is.0),
        utf8_without_acting whole.1 is.1,
        tt,
      ))
      (utf8_element_in world push.from push.place all named) tt

  utf8_itself : (element : Element) (inside : Written) (push : Option Push) → IsUtf8Element element
      → IsUtf8Content inside → IfSome push IsFromUtf8 → IsUtf8Content (itself_or world element inside push)
  utf8_itself element inside None first second named = (first, second, tt)
  utf8_itself element inside (Some push) first second named = utf8_copy_instead element push first named

  utf8_copies : (is_kind : PushKind → Bool) (place : ℕ) (pushes : List Push) → AllByRecursion IsFromUtf8 pushes
      → IsUtf8Content (all_side_by_side (map (copy_beside world) (pushes_at is_kind place pushes)))
  utf8_copies is_kind place pushes named =
      utf8_all_beside (map (copy_beside world) (pushes_at is_kind place pushes))
      (of_mapped IsFromUtf8 IsUtf8Content (copy_beside world) (pushes_at is_kind place pushes)
      (λ push is. utf8_copy_beside push is) (of_kept IsFromUtf8 _ pushes named))

  utf8_at_place : (pushes : List Push) (place : ℕ) (element : Element) (inside : Written)
      → AllByRecursion IsFromUtf8 pushes → IsUtf8Element element → IsUtf8Content inside
      → IsUtf8Content (pushed_at world pushes place element inside)
  utf8_at_place pushes place element inside named first second =
      let before = all_side_by_side (map (copy_beside world) (pushes_at is_before place pushes)) in
      let after = all_side_by_side (map (copy_beside world) (pushes_at is_after place pushes)) in
      let replaces = pushes_at is_replace place pushes in
      let itself = itself_or world element inside (find (λ push. true) replaces) in
      utf8_beside before (side_by_side itself after) (utf8_copies is_before place pushes named)
      (utf8_beside itself after
      (utf8_itself element inside (find (λ push. true) replaces) first second
      (of_found IsFromUtf8 (λ push. true) replaces (of_kept IsFromUtf8 _ pushes named)))
      (utf8_copies is_after place pushes named))

  utf8_pushed_from : (pushes : List Push) (place : ℕ) (nodes : Written) → AllByRecursion IsFromUtf8 pushes
      → IsUtf8Content nodes → IsUtf8Content (pushed_from world pushes place nodes)
  utf8_pushed_from pushes place End named is = tt
  utf8_pushed_from pushes place (Chars text doc rest) named is =
      (is.0, utf8_pushed_from pushes (place + 1) rest named is.1)
  utf8_pushed_from pushes place (Node element inside rest) named is =
      let further = pushed_from world pushes (place + 1 + size inside) rest in
      let further_is = utf8_pushed_from pushes (place + 1 + size inside) rest named is.2 in
      let within = pushed_from world pushes (place + 1) inside in
      let here = pushed_at world pushes place element within in
      chosen IsUtf8Content (has_conaction element) further (side_by_side here further) further_is
      (utf8_beside here further
      (utf8_at_place pushes place element within named is.0 (utf8_pushed_from pushes (place + 1) inside named is.1))
      further_is)

  pub utf8_pushed : (documents : List (List ℕ)) (name : List ℕ) → AllByRecursion IsUtf8 documents → IsUtf8 name
      → IfSome (pushed world documents name) IsUtf8Content
  utf8_pushed documents name named is =
      let pushes = (pushes_into world documents name).pushes in
      of_option_map IsUtf8Content IsUtf8Content (pushed_from world pushes 0) (document world name)
      (λ nodes one. utf8_pushed_from pushes 0 nodes (utf8_pushes_into world documents name all named) one) (all name is)
