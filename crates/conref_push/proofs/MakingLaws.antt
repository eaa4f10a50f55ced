-- How a document with its pushes is put together.
use Rattle.std.specs.Prelude.{◌≡◌, ◌+◌, ◌<◌, ◌≤◌, ◌==◌, ℕ, Bool, true, false, List, [], ◌∷◌, ◌++◌, Option, Some, None, EachIndex, IsTrue, bytes_eq, drop, filter, find, length, map, slice_get, take, if◌then◌else◌}
use Rattle.std.proofs.Common.{refl, sym, ap, subst, ◌∙◌, arith, get_or}
use Rattle.std.proofs.lemmas.List.{drop_more, map-append, take_all}
use Rattle.std.proofs.lemmas.List.Elements.{filter-append}
use Rattle.dita_doc.specs.Tree as tree
use Rattle.dita_doc.specs.Tree.{Content, nodes_of, size_of}
use Rattle.dita_doc.specs.Siblings.{content, doc_of_siblings}
use Rattle.dita_doc.specs.declared.siblings.Siblings.{Siblings}
use Rattle.dita_doc.specs.declared.content.Push.{Push}
use Rattle.dita_doc.specs.declared.content.PushKind.{PushKind}
use Rattle.dita_doc.specs.declared.content.PushKind.TheVariants as kinds
use Rattle.doc_maker.specs.Building.{Building, behind, closed, element, opened}
use Rattle.dita_doc.specs.declared.doc.Node as doc
use Rattle.doc_elements.specs.Walk.{element_of}
use Rattle.doc_maker.proofs.BuildingLaws.{behind_behind, behind_end, beside_beside, beside_end}
use Rattle.map_spec.specs.Written.{Element, Written, End, Node, side_by_side, size}
use Rattle.map_spec.specs.Pushes.{has_conaction, all_side_by_side, pushed_at, copy_beside, is_after, is_before, is_replace, itself_or, pushed_from, pushes_at, without_acting}
use Rattle.plan_nodes.proofs.HomeLaws.{push_of}
use Rattle.reader_spec.specs.World.{World}
use Rattle.readers.specs.Founded.{AreAmong, is_among}
use Rattle.readers.proofs.FoundedLaws.{among_behind, among_first}
use Rattle.std.proofs.Math.Logic.{⊎_elim}
use Rattle.std.proofs.lemmas.Bool.{or_cases, or_left, or_right}
use Rattle.conref_push.specs.Into.{froms}
use Rattle.conref_push.specs.Making.{IsFrom, at_place_or_none, pushed_copy, copies_of, copy_if, is_kind, of_kind, pushes_to, replacement, some}

-- One after the other

-- nothing is left to put
pub way_end : (building all : Building) (rest : Written) → rest ≡ End → behind building rest ≡ all → building ≡ all
way_end building all rest none way = sym (behind_end building) ∙ ap (behind building) (sym none) ∙ way

-- the first of what is left is put
pub way_on : (building new all : Building) (rest here later : Written) → rest ≡ side_by_side here later
    → new ≡ behind building here → behind building rest ≡ all → behind new later ≡ all
way_on building new all rest here later parts put way =
    ap (λ b. behind b later) put ∙ behind_behind building here later ∙ ap (behind building) (sym parts) ∙ way

-- an element that is opened, filled and closed
pub closed_with : (building one two new : Building) (element : Element) (inside : Written)
    → one ≡ opened building element → two ≡ behind one inside → new ≡ closed two
    → new ≡ behind building (Node element inside End)
closed_with building one two new element inside first put close =
    close ∙ ap closed (put ∙ ap (λ b. behind b inside) first)

-- Elements that act are left out

abbrev pub quiet_first : Element → Written → Written
quiet_first element inside = if has_conaction element then End else Node element (without_acting inside) End

quiet_by : (element : Element) (inside rest : Written) (told : Bool) → has_conaction element ≡ told
    → without_acting (Node element inside rest) ≡ side_by_side (quiet_first element inside) (without_acting rest)
quiet_by element inside rest true is = rw is refl
quiet_by element inside rest false is = rw is refl

pub quiet_node : (element : Element) (inside rest : Written)
    → without_acting (Node element inside rest) ≡ side_by_side (quiet_first element inside) (without_acting rest)
quiet_node element inside rest = quiet_by element inside rest (has_conaction element) refl

pub quiet_acting : (building : Building) (element : Element) (inside : Written) → true ≡ has_conaction element
    → building ≡ behind building (quiet_first element inside)
quiet_acting building element inside is =
    sym (behind_end building)
    ∙ ap (λ (b : Bool). behind building (if b then End else Node element (without_acting inside) End)) is

pub quiet_put : (building new : Building) (element : Element) (inside : Written) → false ≡ has_conaction element
    → new ≡ behind building (Node element (without_acting inside) End)
    → new ≡ behind building (quiet_first element inside)
quiet_put building new element inside is put = put
    ∙ ap (λ (b : Bool). behind building (if b then End else Node element (without_acting inside) End)) is

-- What stands at a place

pushed_by : (world : World) (pushes : List Push) (place : ℕ) (element : Element) (inside rest : Written) (told : Bool)
    → has_conaction element ≡ told
    → pushed_from world pushes place (Node element inside rest)
    ≡ side_by_side (at_place_or_none world pushes place element inside)
    (pushed_from world pushes (place + 1 + size inside) rest)
pushed_by world pushes place element inside rest true is = rw is refl
pushed_by world pushes place element inside rest false is = rw is refl

pub pushed_node : (world : World) (pushes : List Push) (place : ℕ) (element : Element) (inside rest : Written)
    → pushed_from world pushes place (Node element inside rest)
    ≡ side_by_side (at_place_or_none world pushes place element inside)
    (pushed_from world pushes (place + 1 + size inside) rest)
pushed_node world pushes place element inside rest =
    pushed_by world pushes place element inside rest (has_conaction element) refl

pub place_acting : (world : World) (pushes : List Push) (place : ℕ) (building : Building) (element : Element)
    (inside : Written) → true ≡ has_conaction element
    → building ≡ behind building (at_place_or_none world pushes place element inside)
place_acting world pushes place building element inside is = sym (behind_end building)
    ∙ ap (λ (b : Bool). behind building (if b then End
    else pushed_at world pushes place element (pushed_from world pushes (place + 1) inside))) is

kind_by : (is_of : PushKind → Bool) (place : ℕ) (push : Push) (rest : List Push) (one two : Bool)
    → is_of push.kind ≡ one → (push.at == place) ≡ two
    → filter (λ (p : Push). is_of p.kind) (pushes_to place rest) ≡ pushes_at is_of place rest
    → filter (λ (p : Push). is_of p.kind) (pushes_to place (push ∷ rest)) ≡ pushes_at is_of place (push ∷ rest)
kind_by is_of place push rest true true one two is = rw (one, two) (rw (one) (ap (λ l. push ∷ l) is))
kind_by is_of place push rest true false one two is = rw (one, two) is
kind_by is_of place push rest false true one two is = rw (one, two) (rw (one) is)
kind_by is_of place push rest false false one two is = rw (one, two) is

kind_at : (is_of : PushKind → Bool) (place : ℕ) (pushes : List Push)
    → filter (λ (p : Push). is_of p.kind) (pushes_to place pushes) ≡ pushes_at is_of place pushes
kind_at is_of place [] = refl
kind_at is_of place (push ∷ rest) = kind_by is_of place push rest (is_of push.kind) (push.at == place) refl refl
    (kind_at is_of place rest)

abbrev around : World → Element → Written → List Push → List Push → List Push → Written
around world element inside before instead after =
    side_by_side (all_side_by_side (map (copy_beside world) before))
    (side_by_side (itself_or world element inside (find (λ push. true) instead))
    (all_side_by_side (map (copy_beside world) after)))

pub place_put : (world : World) (pushes group : List Push) (place : ℕ) (b one two new : Building) (element : Element)
    (inside : Written) → false ≡ has_conaction element → group ≡ pushes_to place pushes
    → one ≡ behind b (copies_of world kinds.Before group)
    → two ≡ behind one (itself_or world element (pushed_from world pushes (place + 1) inside) (replacement group))
    → new ≡ behind two (copies_of world kinds.After group)
    → new ≡ behind b (at_place_or_none world pushes place element inside)
place_put world pushes group place b one two new element inside quiet is first second third =
    let below = pushed_from world pushes (place + 1) inside in
    let x = copies_of world kinds.Before group in
    let y = itself_or world element below (replacement group) in
    let z = copies_of world kinds.After group in
    let put : new ≡ behind b (side_by_side x (side_by_side y z)) =
    third ∙ ap (λ m. behind m z) (second ∙ ap (λ m. behind m y) first) ∙ behind_behind (behind b x) y z
    ∙ behind_behind b x (side_by_side y z) in
    let same : side_by_side x (side_by_side y z) ≡ pushed_at world pushes place element below =
    ap (λ l. around world element below (of_kind kinds.Before l) (of_kind kinds.Replace l) (of_kind kinds.After l)) is
    ∙ ap (λ l. around world element below l (of_kind kinds.Replace (pushes_to place pushes))
    (of_kind kinds.After (pushes_to place pushes))) (kind_at is_before place pushes)
    ∙ ap (λ l. around world element below (pushes_at is_before place pushes) l
    (of_kind kinds.After (pushes_to place pushes))) (kind_at is_replace place pushes)
    ∙ ap (λ l. around world element below (pushes_at is_before place pushes) (pushes_at is_replace place pushes) l)
    (kind_at is_after place pushes) in
    put ∙ ap (behind b) same
    ∙ ap (λ (t : Bool). behind b (if t then End else pushed_at world pushes place element below)) quiet

-- Copies of the pushes of a kind

all_append : (a b : List Written) → all_side_by_side (a ++ b) ≡ side_by_side (all_side_by_side a) (all_side_by_side b)
all_append [] b = refl
all_append (nodes ∷ a) b = ap (side_by_side nodes) (all_append a b)
    ∙ sym (beside_beside nodes (all_side_by_side a) (all_side_by_side b))

copy_by : (world : World) (kind : PushKind) (one : Push) (wanted : Bool) → is_kind kind one.kind ≡ wanted
    → copies_of world kind (one ∷ []) ≡ copy_if world wanted one
copy_by world kind one true is = rw is (beside_end (copy_beside world one))
copy_by world kind one false is = rw is refl

pub copy_more : (world : World) (kind : PushKind) (all : List Push) (at : ℕ) (one : Push) (wanted : Bool)
    (b old new : Building) → at < length all → one ≡ get_or all at one → wanted ≡ is_kind kind one.kind
    → new ≡ behind old (copy_if world wanted one) → old ≡ behind b (copies_of world kind (take at all))
    → new ≡ behind b (copies_of world kind (take (at + 1) all))
copy_more world kind all at one wanted b old new within is told put before =
    let test = λ (push : Push). is_kind kind push.kind in
    let parts : copies_of world kind (take at all ++ one ∷ [])
    ≡ side_by_side (copies_of world kind (take at all)) (copies_of world kind (one ∷ [])) =
    ap (λ l. all_side_by_side (map (copy_beside world) l)) (filter-append test (take at all) (one ∷ []))
    ∙ ap all_side_by_side (map-append (copy_beside world) (filter test (take at all)) (filter test (one ∷ [])))
    ∙ all_append (map (copy_beside world) (filter test (take at all)))
    (map (copy_beside world) (filter test (one ∷ []))) in
    put ∙ ap (λ m. behind m (copy_if world wanted one)) before
    ∙ behind_behind b (copies_of world kind (take at all)) (copy_if world wanted one)
    ∙ ap (λ w. behind b (side_by_side (copies_of world kind (take at all)) w)) (sym (copy_by world kind one wanted (sym told)))
    ∙ ap (behind b) (sym parts)
    ∙ ap (λ l. behind b (copies_of world kind l)) (sym (push_of all at one within is))

pub copy_all : (world : World) (kind : PushKind) (all : List Push) (at : ℕ) (b new : Building) → length all ≤ at
    → new ≡ behind b (copies_of world kind (take at all)) → new ≡ behind b (copies_of world kind all)
copy_all world kind all at b new past is = is ∙ ap (λ l. behind b (copies_of world kind l)) (take_all at all past)

pub from_one : (names : List (List ℕ)) (one : Push) → IsTrue (is_among names one.from) → IsFrom names (some one)
from_one names one there = λ push is. let same : one ≡ push = cc in
    subst (λ (p : Push). IsTrue (is_among names p.from)) same there

-- The first replacement

replace_by : (one : Push) (rest : List Push) (is : Bool) → is_kind kinds.Replace one.kind ≡ is
    → replacement (one ∷ rest) ≡ (if is then Some one else replacement rest)
replace_by one rest true is = rw is refl
replace_by one rest false is = rw is refl

pub replace_more : (all : List Push) (at : ℕ) (one : Push) (told : Bool) → at < length all → one ≡ get_or all at one
    → told ≡ is_kind kinds.Replace one.kind
    → replacement (drop at all) ≡ (if told then Some one else replacement (drop (at + 1) all))
replace_more all at one told within is kind =
    ap replacement (drop_more all at one within ∙ ap (λ n. n ∷ drop (at + 1) all) (sym is))
    ∙ replace_by one (drop (at + 1) all) told (sym kind)

-- what is found among the pushes comes from where they come from
from_by : (is_of : PushKind → Bool) (one : Push) (rest : List Push) (names : List (List ℕ)) (test : Bool)
    → is_of one.kind ≡ test → IsTrue (is_among names one.from)
    → IsFrom names (find (λ push. true) (filter (λ (p : Push). is_of p.kind) rest))
    → IsFrom names (find (λ push. true) (filter (λ (p : Push). is_of p.kind) (one ∷ rest)))
from_by is_of one rest names true is here later = rw is (from_one names one here)
from_by is_of one rest names false is here later = rw is later

pub from_first : (pushes : List Push) (names : List (List ℕ)) → AreAmong (froms pushes) names
    → IsFrom names (replacement pushes)
from_first [] names within = λ push is. cc
from_first (one ∷ rest) names within = from_by is_replace one rest names (is_replace one.kind) refl
    (within.each one.from (among_first one.from (froms rest)))
    (from_first rest names (record { each = λ m among. within.each m (among_behind one.from (froms rest) m among) }))

among_by : (place : ℕ) (one : Push) (rest : List Push) (test : Bool) → (one.at == place) ≡ test
    → AreAmong (froms (pushes_to place rest)) (froms rest)
    → AreAmong (froms (pushes_to place (one ∷ rest))) (froms (one ∷ rest))
among_by place one rest true is within = rw is (record {
  each = λ m among. ⊎_elim (λ here. or_left (bytes_eq one.from m) (is_among (froms rest) m) here)
      (λ there. or_right (bytes_eq one.from m) (is_among (froms rest) m) (within.each m there))
      (or_cases (bytes_eq one.from m) (is_among (froms (pushes_to place rest)) m) among);
})
among_by place one rest false is within =
    rw is (record { each = λ m among. among_behind one.from (froms rest) m (within.each m among) })

pub among_placed : (place : ℕ) (pushes : List Push) → AreAmong (froms (pushes_to place pushes)) (froms pushes)
among_placed place [] = record { each = λ m among. among }
among_placed place (one ∷ rest) = among_by place one rest (one.at == place) refl (among_placed place rest)

-- a copy is the element with other attributes
pub by_replaced : (building : Building) (name : List ℕ) (node : doc.Node) (replaced : Option Element)
    → opened building (element node.text (pushed_copy replaced (element_of name node)).attributes name node.line name)
    ≡ opened building (pushed_copy replaced (element_of name node))
by_replaced building name node None = refl
by_replaced building name node (Some other) = refl

pub among_group : (place : ℕ) (pushes group : List Push) → group ≡ pushes_to place pushes
    → AreAmong (froms group) (froms pushes)
among_group place pushes group is =
    subst (λ l. AreAmong (froms l) (froms pushes)) (sym is) (among_placed place pushes)

pub from_group : (place : ℕ) (pushes group : List Push) (found : Option Push) → group ≡ pushes_to place pushes
    → found ≡ replacement group → IsFrom (froms pushes) found
from_group place pushes group found is first = subst (IsFrom (froms pushes)) (sym first)
    (from_first group (froms pushes) (among_group place pushes group is))

-- Where an element ends

end_of : (nodes all more : List doc.Node) (at place : ℕ) (first node : doc.Node) → nodes ≡ first ∷ more
    → EachIndex nodes (λ k. slice_get nodes k ≡ slice_get all (at + k)) → slice_get all place ≡ Some node
    → place ≡ at → node.end ≡ first.end
end_of nodes all more at place first node is within there same =
    let some : 0 < length nodes = omega (arith, ap length is) in
    let here : at + 0 ≡ place = omega (arith, same) in
    let both : Some first ≡ Some node = sym (ap (λ l. slice_get l 0) is) ∙ within 0 some
    ∙ ap (slice_get all) here ∙ there in
    let one : node ≡ first = cc in
    ap (λ (n : doc.Node). n.end) one

pub end_there : (left : Siblings) (place : ℕ) (node : doc.Node) (inside rest : Content)
    → content left ≡ tree.Element node.text node.attributes node.origin node.line inside rest
    → slice_get (doc_of_siblings left).nodes place ≡ Some node → place ≡ left.place
    → node.end ≡ place + 1 + size_of inside
end_there left place node inside rest is there same =
    end_of left.nodes.now (doc_of_siblings left).nodes _ left.place place _ node
    (left.tree ∙ ap (λ all. nodes_of all left.place) is) left.within there same
    ∙ ap (λ n. n + 1 + size_of inside) (sym same)
