-- The values of nodes one after the other.
use Rattle.std.specs.Prelude.{◌≡◌, ◌+◌, ◌<◌, ◌≤◌, ℕ, zero, suc, Bool, false, List, [], ◌∷◌, ◌++◌, Option, map, length, take, drop, unwrap_or}
use Rattle.std.specs.Borrow.{Bor}
use Rattle.attr_cascade.specs.Nearest.{nearest_at, nearest_of, seen, value_at}
use Rattle.attr_cascade.proofs.NearestLaws.{nearest_there}
use Rattle.std.specs.List.{filter_map}
use Rattle.std.proofs.Common.{refl, sym, ap, ◌∙◌, arith, get_or, append_assoc}
use Rattle.std.proofs.lemmas.List.{append-nil, drop_all, take_all}
use Rattle.std.proofs.lemmas.List.Elements.{filter_map-append}
use Rattle.std.proofs.Math.Seq.{drop-cons}
use Rattle.dita_doc.specs.declared.doc.Attribute.{Attribute}
use Rattle.dita_doc.specs.declared.plan.PlanNode.{PlanNode}
use Rattle.dita_doc.proofs.Lists.{one_found}
use Rattle.map_spec.specs.Cascade.{cascaded_from, cascaded_on, named_tokens, walk}
use Rattle.reader_spec.specs.World.{World}
use Rattle.attr_cascade.specs.Tokens.{AreTables, IsTableOf, tokens_at}
use Rattle.attr_cascade.specs.Values.{put_if, told_at}
use Rattle.plan_nodes.proofs.PlaceLaws.{known_at}
use Rattle.map_spec.specs.Scopes.{places}
use Rattle.plan_nodes.specs.Preorder.{is_in_table_at, tables_around}
use Rattle.attr_cascade.specs.declared.tokens.TokenTable.{TokenTable}

-- one more node
pub nodes_more : (world : World) (nodes : List PlanNode) (at : ℕ) (node copy : PlanNode) (old new all : List PlanNode)
    → at < length nodes → node ≡ get_or nodes at node
    → copy ≡ record node { cascaded = cascaded_on world (walk nodes at) }
    → old ++ cascaded_from world nodes at (drop at nodes) ≡ all → new ≡ old ++ copy ∷ []
    → new ++ cascaded_from world nodes (at + 1) (drop (at + 1) nodes) ≡ all
nodes_more world nodes at node copy old new all within item is told more =
    let here : PlanNode → PlanNode = λ (n : PlanNode). record n { cascaded = cascaded_on world (walk nodes at) } in
    let rest = cascaded_from world nodes (at + 1) (drop (at + 1) nodes) in
    let next : suc at ≡ at + 1 = omega arith in
    let cut : drop at nodes ≡ get_or nodes at node ∷ drop (at + 1) nodes =
    drop-cons nodes at node within ∙ ap (λ n. get_or nodes at node ∷ drop n nodes) next in
    ap (λ some. some ++ rest) more
    ∙ append_assoc old (copy ∷ []) rest
    ∙ ap (λ n. old ++ n ∷ rest) (is ∙ ap here item)
    ∙ sym (ap (λ some. old ++ cascaded_from world nodes at some) cut)
    ∙ told

-- The values with tokens, for the attributes of these names

abbrev pub with_tokens : World → List PlanNode → ℕ → List (List ℕ) → List Attribute
with_tokens world nodes at names = filter_map (λ name. named_tokens name (tokens_at world name nodes at)) names

pub record TableAt (world : World) (nodes : List PlanNode) (names : List (List ℕ)) (at : ℕ) (table : TokenTable)
    : Type 0 where
  pub name : List ℕ
  pub is : IsTableOf world nodes name table
  pub here : take (at + 1) names ≡ take at names ++ name ∷ []

table_front : (world : World) (nodes : List PlanNode) (first : List ℕ) (names : List (List ℕ)) (at : ℕ)
    (table : TokenTable) → TableAt world nodes names at table → TableAt world nodes (first ∷ names) (suc at) table
table_front world nodes first names at table found = record {
  name = found.name;
  is = found.is;
  here = let next : at + 1 + 1 ≡ suc (at + 1) = omega arith in
      let same : suc at + 1 ≡ suc (at + 1) = omega arith in
      rw same (ap (λ some. first ∷ some) found.here);
}

pub table_at : (world : World) (nodes : List PlanNode) (names : List (List ℕ)) (tables : List TokenTable) (at : ℕ)
    (table : TokenTable) → AreTables world nodes names tables → at < length tables → table ≡ get_or tables at table
    → TableAt world nodes names at table
table_at world nodes [] [] at table are within is = absurd (omega arith)
table_at world nodes [] (first ∷ tables) at table are within is = absurd are
table_at world nodes (name ∷ names) [] at table are within is = absurd are
table_at world nodes (name ∷ names) (first ∷ tables) zero table are within is = record {
  name = name;
  is = rw is are.0;
  here = refl;
}
table_at world nodes (name ∷ names) (first ∷ tables) (suc at) table are within is =
    table_front world nodes name names at table (table_at world nodes names tables at table are.1 (omega arith) is)

-- one more of them
pub tokens_put : (world : World) (nodes : List PlanNode) (names some more : List (List ℕ)) (at : ℕ) (name : List ℕ)
    (front old new : List Attribute) → more ≡ some ++ name ∷ [] → old ≡ front ++ with_tokens world nodes at some
    → new ≡ old ++ put_if (named_tokens name (tokens_at world name nodes at))
    → new ≡ front ++ with_tokens world nodes at more
tokens_put world nodes names some more at name front old new here told is =
    let f = λ (n : List ℕ). named_tokens n (tokens_at world n nodes at) in
    is ∙ ap (λ all. all ++ put_if (f name)) told
    ∙ append_assoc front (with_tokens world nodes at some) (put_if (f name))
    ∙ ap (λ last. front ++ (with_tokens world nodes at some ++ last)) (sym (one_found f name (f name) refl))
    ∙ sym (ap (λ all. front ++ all) (ap (filter_map f) here ∙ filter_map-append f some (name ∷ [])))

-- as many names as tables
pub all_names : (world : World) (nodes : List PlanNode) (names : List (List ℕ)) (tables : List TokenTable)
    → AreTables world nodes names tables → take (length tables) names ≡ names
all_names world nodes [] [] are = refl
all_names world nodes [] (first ∷ tables) are = absurd are
all_names world nodes (name ∷ names) [] are = absurd are
all_names world nodes (name ∷ names) (first ∷ tables) are =
    ap (λ some. name ∷ some) (all_names world nodes names tables are.1)

pub tables_push : (world : World) (nodes : List PlanNode) (names : List (List ℕ)) (name : List ℕ)
    (old new : List TokenTable) (table : TokenTable) → AreTables world nodes names old
    → IsTableOf world nodes name table → new ≡ old ++ table ∷ [] → AreTables world nodes (names ++ name ∷ []) new
tables_push world nodes names name old new table are is more = rw more (pushed names old are)
  where
    pushed : (ns : List (List ℕ)) (ts : List TokenTable) → AreTables world nodes ns ts
        → AreTables world nodes (ns ++ name ∷ []) (ts ++ table ∷ [])
    pushed [] [] all = (is, tt)
    pushed [] (t ∷ ts) all = absurd all
    pushed (n ∷ ns) [] all = absurd all
    pushed (n ∷ ns) (t ∷ ts) all = (all.0, pushed ns ts all.1)

near_value : (world : World) (name : List ℕ) (nodes : List PlanNode) (at : ℕ) (slice items : List (Option (Bor (List ℕ))))
    → at < length nodes → seen items ≡ nearest_of world name nodes → slice ≡ items
    → value_at (seen slice) at ≡ nearest_at world name nodes at
near_value world name nodes at slice items within are same =
    ap (λ all. value_at (seen all) at) same ∙ ap (λ all. value_at all at) are ∙ nearest_there world name nodes at within

-- one more of those of which the nearest counts
pub put_next : (world : World) (name : List ℕ) (nodes : List PlanNode) (at : ℕ) (front old new : List Attribute)
    (given default : List ℕ) (slice items : List (Option (Bor (List ℕ)))) → at < length nodes
    → seen items ≡ nearest_of world name nodes → slice ≡ items → given ≡ default → old ≡ front
    → new ≡ old ++ record { name = name; value = unwrap_or (value_at (seen slice) at) given } ∷ []
    → new ≡ front ++ record { name = name; value = unwrap_or (nearest_at world name nodes at) default } ∷ []
put_next world name nodes at front old new given default slice items within are same by before is =
    let made : Option (List ℕ) → List ℕ → Attribute = λ (v : Option (List ℕ)) (d : List ℕ). record { name = name; value = unwrap_or v d } in
    is ∙ ap (λ all. all ++ made (value_at (seen slice) at) given ∷ []) before
    ∙ ap (λ v. front ++ made v given ∷ []) (near_value world name nodes at slice items within are same)
    ∙ ap (λ d. front ++ made (nearest_at world name nodes at) d ∷ []) by

-- whether a node stands in a relationship table, as it was told
pub told_there : (nodes : List PlanNode) (at : ℕ) (slice : List Bool) (told : Bool) → at < length nodes
    → slice ≡ tables_around nodes → told ≡ told_at slice at → told ≡ is_in_table_at nodes at
told_there nodes at slice told within are is =
    is ∙ ap (λ all. told_at all at) are
    ∙ ap (λ some. told_at (map (is_in_table_at nodes) (places some)) at) (sym (take_all (length nodes) nodes (omega arith)))
    ∙ ap (λ found. unwrap_or found false) (known_at (is_in_table_at nodes) nodes at (length nodes) within (omega arith))

-- nothing is left behind the last
pub nodes_end : (world : World) (nodes : List PlanNode) (at : ℕ) (made all : List PlanNode) → length nodes ≤ at
    → made ++ cascaded_from world nodes at (drop at nodes) ≡ all → made ≡ all
nodes_end world nodes at made all past told =
    sym (append-nil made)
    ∙ sym (ap (λ rest. made ++ cascaded_from world nodes at rest) (drop_all at nodes past))
    ∙ told

-- a copy of a node that was given its values
pub with_values : (node copy : PlanNode) (made values : List Attribute) → copy ≡ node → made ≡ values
    → record copy { cascaded = made } ≡ record node { cascaded = values }
with_values node copy made values is same =
    ap (λ (n : PlanNode). record n { cascaded = made }) is ∙ ap (λ (all : List Attribute). record node { cascaded = all }) same
