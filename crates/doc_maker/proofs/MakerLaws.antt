-- The maker's fields: what each call makes of them, and what that is as content with a hole.
use Rattle.std.specs.Prelude.{◌≡◌, ◌+◌, ◌-◌, ◌^◌, ◌<◌, ◌≤◌, ◌==◌, ◌||◌, ℕ, zero, suc, true, List, [], ◌∷◌, ◌++◌, Some, length, take, nat_lt, reverse, slice_get, unwrap_or}
use Rattle.std.proofs.Common.{refl, sym, ◌∙◌, ap, ap₂, subst, arith, length-append}
use Rattle.std.proofs.lemmas.Bool.{and_parts, ltb-true}
use Rattle.std.proofs.lemmas.List.{append-nil, length-reverse, length_push, reverse-append, take_at}
use Rattle.std.proofs.lemmas.Option.{slice_get_within}
use Rattle.dita_doc.specs.Tree as tree
use Rattle.dita_doc.specs.Tree.{ArePreorder, are_places, chars_node, content_of, element_node, has_href, nodes_of, tree_of}
use Rattle.dita_doc.specs.declared.doc.Attribute.{Attribute}
use Rattle.dita_doc.specs.declared.doc.Node.{Node}
use Rattle.dita_doc.specs.declared.doc.NodeKind.TheVariants as kinds
use Rattle.dita_doc.proofs.Lists.{get_pushed}
use Rattle.dita_doc.proofs.Tests.{number_itself}
use Rattle.map_spec.specs.Written.{Written, End, Chars}
use Rattle.readers.specs.Named.{name_at, under_names}
use Rattle.doc_maker.specs.Building.{Top, Within, behind, closed, count, depth, own_hrefs}
use Rattle.doc_maker.specs.Made.{AreOpen, IsMade, MadeContent, building, building_of, element_of, ending, href_home, made_of, with_end, written_from}
use Rattle.doc_maker.specs.Origins.{Longer}
use Rattle.doc_maker.proofs.MadeLaws.{length-changed, open_closed, open_element, open_inside, open_leaf, own_ended, own_push, placed_among_more, placed_ended, placed_push, places_among_more, places_push}
use Rattle.doc_maker.proofs.OriginLaws.{named_still}
use Rattle.doc_maker.proofs.SeenLaws.{AreAlike, building_alike, building_closed, building_count, building_depth, building_more, building_opened, named_own, top_preorder, top_written}

abbrev Declared : Type 0
Declared = List (List (List ℕ))

-- Names and hrefs stay

home_below : (count : ℕ) (hrefs : List ℕ) (place : ℕ) → are_places count hrefs ≡ true → place < length hrefs
    → unwrap_or (slice_get hrefs place) 0 < count
home_below count [] place among inside = absurd (omega arith)
home_below count (first ∷ hrefs) zero among inside =
    ltb-true first count (and_parts (nat_lt first count) (are_places count hrefs) among).0
home_below count (first ∷ hrefs) (suc place) among inside =
    home_below count hrefs place (and_parts (nat_lt first count) (are_places count hrefs) among).1 (omega arith)

home_in_front : (hrefs more : List ℕ) (place : ℕ) → place < length hrefs
    → unwrap_or (slice_get (hrefs ++ more) place) 0 ≡ unwrap_or (slice_get hrefs place) 0
home_in_front [] more place inside = absurd (omega arith)
home_in_front (first ∷ hrefs) more zero inside = refl
home_in_front (first ∷ hrefs) more (suc place) inside = home_in_front hrefs more place (omega arith)

alike : (names longer : List (List ℕ)) (hrefs all more : List ℕ) → Longer names longer
    → are_places (length names) hrefs ≡ true → all ≡ hrefs ++ more
    → AreAlike names longer hrefs all (length names) (length hrefs)
alike names longer hrefs all more grown among is = record {
  docs = λ origin below. named_still names longer origin grown below;
  homes = λ place inside. ap (λ hs. href_home longer hs place) is
      ∙ ap (name_at longer) (home_in_front hrefs more place inside)
      ∙ named_still names longer (unwrap_or (slice_get hrefs place) 0) grown
      (home_below (length names) hrefs place among inside);
}

-- the content is the same with more names and hrefs
seen_still : {declared : Declared} (names longer : List (List ℕ)) (nodes : List Node) (hrefs all more opened : List ℕ)
    → Longer names longer → IsMade (made_of names nodes hrefs declared opened) → all ≡ hrefs ++ more
    → building_of longer all nodes (reverse opened) ≡ building_of names hrefs nodes (reverse opened)
seen_still names longer nodes hrefs all more opened grown made is =
    building_alike names longer hrefs all (length names) (length hrefs)
    (alike names longer hrefs all more grown made.hrefs is) nodes (reverse opened) made.tree made.placed
    (omega (arith, made.each))

longer_length : (names longer : List (List ℕ)) → Longer names longer → length names ≤ length longer
longer_length names longer grown = omega (arith, ap length grown.is, length-append names grown.more)

-- there are more names
pub names_made : {declared : Declared}
    (names longer : List (List ℕ)) (nodes : List Node) (hrefs opened : List ℕ) → Longer names longer
    → IsMade (made_of names nodes hrefs declared opened) → IsMade (made_of longer nodes hrefs declared opened)
names_made names longer nodes hrefs opened grown made =
    let grows = longer_length names longer grown in
    record {
      tree = made.tree;
      small = made.small;
      placed = placed_among_more (length names) (length longer) nodes grows made.placed;
      each = made.each;
      hrefs = places_among_more (length names) (length longer) hrefs grows made.hrefs;
      own = made.own;
      named = made.named;
    }

names_seen : {declared : Declared}
    (names longer : List (List ℕ)) (nodes : List Node) (hrefs opened : List ℕ) → Longer names longer
    → IsMade (made_of names nodes hrefs declared opened)
    → building_of longer hrefs nodes (reverse opened) ≡ building_of names hrefs nodes (reverse opened)
names_seen names longer nodes hrefs opened grown made =
    seen_still names longer nodes hrefs hrefs [] opened grown made (sym (append-nil hrefs))

-- and so nothing was put
pub names_still : {declared : Declared}
    (names longer : List (List ℕ)) (nodes : List Node) (hrefs opened : List ℕ) (was : MadeContent)
    → Longer names longer → IsMade (made_of names nodes hrefs declared opened)
    → made_of names nodes hrefs declared opened ≡ was
    → building (made_of longer nodes hrefs declared opened) ≡ building was
names_still names longer nodes hrefs opened was grown made view =
    names_seen names longer nodes hrefs opened grown made ∙ ap building view

name_there : (names : List (List ℕ)) (place : ℕ) (name : List ℕ) → slice_get names place ≡ Some name
    → name_at names place ≡ name
name_there names place name is = ap (λ found. unwrap_or found []) is

-- A text is put

abbrev text_node : List ℕ → List Attribute → ℕ → ℕ → Node
text_node text attributes origin end = record {
  kind = kinds.Chars;
  text = text;
  attributes = attributes;
  origin = origin;
  line = 0;
  end = end;
}

-- it has no attributes
pub chars_put : (nodes now : List Node) (text : List ℕ) (attributes : List Attribute) (origin end : ℕ)
    → attributes ≡ [] → now ≡ nodes ++ text_node text attributes origin end ∷ []
    → now ≡ nodes ++ chars_node text origin 0 end ∷ []
chars_put nodes now text attributes origin end none is =
    is ∙ ap (λ (a : List Attribute). nodes ++ text_node text a origin end ∷ []) none

pub chars_made : {declared : Declared} (names : List (List ℕ)) (nodes now : List Node) (hrefs all opened : List ℕ)
    (lists : Declared) (text doc : List ℕ) (origin end : ℕ) → IsMade (made_of names nodes hrefs declared opened)
    → slice_get names origin ≡ Some doc → end ≡ length nodes + 1 → end < 2 ^ 32
    → now ≡ nodes ++ chars_node text origin 0 end ∷ [] → all ≡ hrefs ++ origin ∷ []
    → lists ≡ declared ++ [] ∷ [] → IsMade (made_of names now all lists opened)
chars_made {declared} names nodes now hrefs all opened lists text doc origin end made there at room is are listed =
    let node = chars_node text origin 0 end in
    let below = slice_get_within names origin doc there in
    rw (is, are, listed) (record {
      tree = open_leaf (tree.Chars text origin 0 tree.End) node nodes (reverse opened)
          (ap (λ e. chars_node text origin 0 e ∷ []) (sym at)) made.tree;
      small = omega (arith, length_push nodes node, at, room);
      placed = placed_push (length names) nodes node made.placed below;
      each = omega (arith, length_push nodes node, length_push hrefs origin, made.each);
      hrefs = places_push (length names) hrefs origin made.hrefs below;
      own = own_push nodes hrefs node origin made.each made.own (number_itself origin);
      named = omega (arith, length_push nodes node, length_push declared [], made.named);
    })

pub chars_seen : {declared : Declared}
    (names longer : List (List ℕ)) (nodes now : List Node) (hrefs all opened : List ℕ)
    (text doc : List ℕ) (origin end : ℕ) → Longer names longer → IsMade (made_of names nodes hrefs declared opened)
    → slice_get longer origin ≡ Some doc → end ≡ length nodes + 1
    → now ≡ nodes ++ chars_node text origin 0 end ∷ [] → all ≡ hrefs ++ origin ∷ []
    → building_of longer all now (reverse opened)
    ≡ behind (building_of names hrefs nodes (reverse opened)) (Chars text doc End)
chars_seen names longer nodes now hrefs all opened text doc origin end grown made there at is are =
    let c = tree.Chars text origin 0 tree.End in
    let behind_them : now ≡ nodes ++ nodes_of c (length nodes) =
    is ∙ ap (λ e. nodes ++ chars_node text origin 0 e ∷ []) at in
    ap (λ ns. building_of longer all ns (reverse opened)) behind_them
    ∙ building_more longer all c nodes (reverse opened) (length nodes) refl made.tree
    ∙ ap₂ behind (seen_still names longer nodes hrefs all (origin ∷ []) opened grown made are)
    (ap (λ n. Chars text n End) (name_there longer origin doc there))

-- An element is opened

places_pushed : (opened places : List ℕ) (place : ℕ) → places ≡ opened ++ place ∷ []
    → reverse places ≡ place ∷ reverse opened
places_pushed opened places place is = ap reverse is ∙ reverse-append opened (place ∷ [])

pub open_made : {declared : Declared} (names : List (List ℕ)) (nodes now : List Node)
    (hrefs all opened places : List ℕ) (lists : Declared) (names_there : List (List ℕ)) (name : List ℕ)
    (attributes : List Attribute) (origin line end place href : ℕ) (doc home : List ℕ)
    → IsMade (made_of names nodes hrefs declared opened) → slice_get names origin ≡ Some doc
    → slice_get names href ≡ Some home
    → end ≡ length nodes + 1 → end < 2 ^ 32 → place ≡ length nodes
    → now ≡ nodes ++ element_node name attributes origin line end ∷ [] → all ≡ hrefs ++ href ∷ []
    → places ≡ opened ++ place ∷ [] → (has_href attributes || origin == href) ≡ true
    → lists ≡ declared ++ names_there ∷ [] → IsMade (made_of names now all lists places)
open_made {declared} names nodes now hrefs all opened places lists names_there name attributes origin line end place
    href doc home made there at_home at room here is are pushed own listed =
    let node = element_node name attributes origin line end in
    rw (is, are, places_pushed opened places place pushed, listed) (record {
      tree = open_element node nodes (reverse opened) place here refl made.tree;
      small = omega (arith, length_push nodes node, at, room);
      placed = placed_push (length names) nodes node made.placed (slice_get_within names origin doc there);
      each = omega (arith, length_push nodes node, length_push hrefs href, made.each);
      hrefs = places_push (length names) hrefs href made.hrefs (slice_get_within names href home at_home);
      own = own_push nodes hrefs node href made.each made.own own;
      named = omega (arith, length_push nodes node, length_push declared names_there, made.named);
    })

pub open_seen : {declared : Declared}
    (names longer : List (List ℕ)) (nodes now : List Node) (hrefs all opened places : List ℕ)
    (name : List ℕ) (attributes : List Attribute) (origin line end place href : ℕ) (doc home : List ℕ)
    → Longer names longer → IsMade (made_of names nodes hrefs declared opened)
    → slice_get longer origin ≡ Some doc → slice_get longer href ≡ Some home → place ≡ length nodes
    → now ≡ nodes ++ element_node name attributes origin line end ∷ [] → all ≡ hrefs ++ href ∷ []
    → places ≡ opened ++ place ∷ [] → building_of longer all now (reverse places)
    ≡ Within (building_of names hrefs nodes (reverse opened))
    (record { name = name; attributes = attributes; doc = doc; line = line; href_doc = home }) End
open_seen names longer nodes now hrefs all opened places name attributes origin line end place href doc home grown made
    there at_home here is are pushed =
    let node = element_node name attributes origin line end in
    let last : slice_get all place ≡ Some href =
    ap (λ hs. slice_get hs place) are ∙ ap (slice_get (hrefs ++ href ∷ [])) (here ∙ sym made.each)
    ∙ get_pushed hrefs href in
    let href_is : href_home longer all place ≡ home =
    ap (λ found. name_at longer (unwrap_or found 0)) last ∙ name_there longer href home at_home in
    let element : element_of longer all place node
    ≡ record { name = name; attributes = attributes; doc = doc; line = line; href_doc = home } =
    ap₂ (λ d h. record { name = name; attributes = attributes; doc = d; line = line; href_doc = h })
    (name_there longer origin doc there) href_is in
    ap₂ (building_of longer all) is (places_pushed opened places place pushed)
    ∙ building_opened longer all node nodes (reverse opened) place here
    ∙ ap₂ (λ b e. Within b e End) (seen_still names longer nodes hrefs all (href ∷ []) opened grown made are) element

-- a place that was put and is taken again leaves the others
pub taken_again : (opened pushed left : List ℕ) (place count : ℕ) → pushed ≡ opened ++ place ∷ []
    → count ≡ length pushed → left ≡ take (count - 1) pushed → left ≡ opened
taken_again opened pushed left place count is of_all rest =
    rest ∙ ap (take (count - 1)) is
    ∙ take_at opened (place ∷ []) (count - 1) (omega (arith, length_push opened place, of_all, ap length is))

-- The innermost element is taken from those that are open, and ends

popped : (opened outer : List ℕ) (place : ℕ) → opened ≡ outer ++ place ∷ [] → reverse opened ≡ place ∷ reverse outer
popped opened outer place is = places_pushed outer opened place is

pub close_made : {declared : Declared}
    (names : List (List ℕ)) (nodes : List Node) (hrefs opened outer : List ℕ) (place : ℕ)
    → IsMade (made_of names nodes hrefs declared opened) → opened ≡ outer ++ place ∷ []
    → IsMade (made_of names (with_end place nodes) hrefs declared outer)
close_made names nodes hrefs opened outer place made is =
    let still = length-changed nodes place (ending (length nodes)) in
    record {
      tree = open_closed nodes place (reverse outer)
          (subst (AreOpen nodes) (popped opened outer place is) made.tree);
      small = omega (arith, still, made.small);
      placed = placed_ended (length names) (length nodes) place nodes made.placed;
      each = made.each ∙ sym still;
      hrefs = made.hrefs;
      own = own_ended (length nodes) place nodes hrefs made.own;
      named = made.named ∙ sym still;
    }

pub close_seen : {declared : Declared}
    (names : List (List ℕ)) (nodes : List Node) (hrefs opened outer : List ℕ) (place : ℕ)
    → IsMade (made_of names nodes hrefs declared opened) → opened ≡ outer ++ place ∷ []
    → building_of names hrefs (with_end place nodes) (reverse outer)
    ≡ closed (building_of names hrefs nodes (reverse opened))
close_seen names nodes hrefs opened outer place made is =
    let places = popped opened outer place is in
    building_closed names hrefs nodes place (reverse outer) (subst (AreOpen nodes) places made.tree)
    ∙ ap (λ ps. closed (building_of names hrefs nodes ps)) (sym places)

-- and stands among the nodes
pub close_inside : {declared : Declared}
    (names : List (List ℕ)) (nodes : List Node) (hrefs opened outer : List ℕ) (place : ℕ)
    → IsMade (made_of names nodes hrefs declared opened) → opened ≡ outer ++ place ∷ [] → place < length nodes
close_inside names nodes hrefs opened outer place made is =
    open_inside nodes place (reverse outer) (subst (AreOpen nodes) (popped opened outer place is) made.tree)

-- where none is open, nothing is done
pub close_none : (names : List (List ℕ)) (nodes : List Node) (hrefs opened outer : List ℕ) → opened ≡ outer ++ []
    → opened ≡ [] → building_of names hrefs nodes (reverse outer)
    ≡ closed (building_of names hrefs nodes (reverse opened))
close_none names nodes hrefs opened outer is none =
    ap (λ ps. building_of names hrefs nodes (reverse ps)) (sym (append-nil outer) ∙ sym is ∙ none)
    ∙ sym (ap (λ ps. closed (building_of names hrefs nodes (reverse ps))) none)

-- Counts

pub count_seen : {declared : Declared} (names : List (List ℕ)) (nodes : List Node) (hrefs opened : List ℕ)
    → IsMade (made_of names nodes hrefs declared opened)
    → length nodes ≡ count (building_of names hrefs nodes (reverse opened))
count_seen names nodes hrefs opened made = sym (building_count names hrefs nodes (reverse opened) made.tree)

pub depth_seen : (names : List (List ℕ)) (nodes : List Node) (hrefs opened : List ℕ)
    → length opened ≡ depth (building_of names hrefs nodes (reverse opened))
depth_seen names nodes hrefs opened =
    sym (building_depth names hrefs nodes (reverse opened) ∙ length-reverse opened)

-- All elements are closed

pub finish_tree : {declared : Declared}
    (names : List (List ℕ)) (nodes : List Node) (hrefs opened : List ℕ) (content : Written)
    → IsMade (made_of names nodes hrefs declared opened) → building_of names hrefs nodes (reverse opened) ≡ Top content
    → ArePreorder nodes 0
finish_tree names nodes hrefs opened content made is =
    top_preorder names hrefs nodes (reverse opened) content made.tree is

pub finish_written : (names : List (List ℕ)) (nodes : List Node) (hrefs opened : List ℕ) (content : Written)
    → building_of names hrefs nodes (reverse opened) ≡ Top content
    → written_from names hrefs 0 (tree_of nodes) ≡ content
finish_written names nodes hrefs opened content is = top_written names hrefs nodes (reverse opened) content is

pub finish_named : (names : List (List ℕ)) (nodes : List Node) (hrefs opened : List ℕ) (content : Written)
    → building_of names hrefs nodes (reverse opened) ≡ Top content
    → under_names names (tree_of nodes) ≡ own_hrefs content
finish_named names nodes hrefs opened content is =
    named_own names hrefs (content_of nodes 0) 0 ∙ ap own_hrefs (finish_written names nodes hrefs opened content is)
