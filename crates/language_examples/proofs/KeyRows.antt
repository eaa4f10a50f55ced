-- Maps whose keys, scopes and faults are known by hand.
use Prim.Native.String.{String}
use Rattle.std.specs.Fmt.{digits}
use Rattle.std.specs.Prelude.{◌≡◌, List, [], ◌∷◌, Some, None, Ok, map, refl, codes}
use Rattle.dita_doc.specs.Tree.{Content}
use Rattle.dita_doc.specs.declared.fault.FaultCode.TheVariants as codes_of
use Rattle.dita_doc.specs.declared.plan.PlanNode.{PlanNode}
use Rattle.dita_doc.specs.declared.plan.Target.TheVariants as targets
use Rattle.map_spec.specs.Included.{map_included}
use Rattle.map_spec.specs.Keys.{chain_from, id_of_key, key_of}
use Rattle.map_spec.specs.PlanOf.{plan_of}
use Rattle.map_spec.specs.Scopes.{found_from, qualified}
use Rattle.reader_spec.specs.World.{World}
use Rattle.language_examples.proofs.Short.{Document, answer, faults, given, href, key, keyword, label, m, map_doc, map_with, of_map, pages, planned, ref, texts, these, topic, topicref, view}

abbrev t : Document
t = topic "t.dita" "t"

abbrev scope : String → List Content → Content
scope names inside = topicref (given "keyscope" names ∷ []) inside

-- Two scopes with the same topic

abbrev two_scopes : World
two_scopes = these (m (scope "a" (key "k" "A" ∷ key "only" "one" ∷ ref "t.dita" ∷ [])
    ∷ scope "b" (key "only" "two" ∷ ref "t.dita" ∷ []) ∷ key "k" "R" ∷ []) ∷ t ∷ [])

-- each scope has a page of its own
two_pages : pages (planned two_scopes) ≡ Ok (texts ("t.html" ∷ "t_2.html" ∷ []))
unfolding plan_of map_included digits
two_pages = refl

-- the second page has another name than its base gives it, at the line of its reference
two_scopes_faults : faults (planned two_scopes) ≡ Ok (texts ("m.ditamap:47 NameChanged t_2.html" ∷ []))
unfolding plan_of map_included digits
two_scopes_faults = refl

-- what stands around a scope comes before what it defines itself
parent_first : answer 1 "k" two_scopes (planned two_scopes)
    ≡ Ok (record { node = Some 8; target = targets.Nothing; label = codes "R"; faults = [] })
unfolding plan_of map_included found_from qualified chain_from
parent_first = refl

-- a key that is not defined around a scope is the scope's own
own_in_a : label 1 "only" two_scopes (planned two_scopes) ≡ Ok (codes "one")
unfolding plan_of map_included found_from qualified chain_from
own_in_a = refl

-- the same key has another definition in another scope
own_in_b : label 2 "only" two_scopes (planned two_scopes) ≡ Ok (codes "two")
unfolding plan_of map_included found_from qualified chain_from
own_in_b = refl

-- a key of a child scope is not known by its bare name
undefined_in_root : answer 0 "only" two_scopes (planned two_scopes)
    ≡ Ok (record { node = None; target = targets.Nothing; label = []; faults = [] })
unfolding plan_of map_included found_from qualified chain_from
undefined_in_root = refl

-- it is by the scope's name and a dot, also from beside
qualified_in_root : label 0 "a.k" two_scopes (planned two_scopes) ≡ Ok (codes "A")
unfolding plan_of map_included found_from qualified chain_from
qualified_in_root = refl

-- what the scope around finds by such a name is found in a scope beside too
qualified_from_beside : label 1 "b.only" two_scopes (planned two_scopes) ≡ Ok (codes "two")
unfolding plan_of map_included found_from qualified chain_from
qualified_from_beside = refl

-- Qualified keys

abbrev literal : World
literal = these (m (scope "a" (key "x" "scoped" ∷ []) ∷ key "a.x" "literal" ∷ ref "t.dita" ∷ []) ∷ t ∷ [])

-- a scope's own definition comes before that of a child scope
literal_first : label 0 "a.x" literal (planned literal) ≡ Ok (codes "literal")
unfolding plan_of map_included found_from qualified chain_from
literal_first = refl

-- two definitions for one name are no fault
literal_faults : faults (planned literal) ≡ Ok []
unfolding plan_of map_included
literal_faults = refl

abbrev deep : World
deep = these (m (scope "a" (scope "b c" (key "k" "deep" ∷ []) ∷ key "x" "one" ∷ key "a.x" "two" ∷ []) ∷ scope "a"
    (key "y" "three" ∷ []) ∷ scope "a.b" (key "z" "four" ∷ key "k" "five" ∷ []) ∷ []) ∷ [])

-- the names of scopes within scopes stand one behind the other, and each name of a scope serves
deep_by_first_name : label 0 "a.b.k" deep (planned deep) ≡ Ok (codes "deep")
unfolding plan_of map_included found_from qualified chain_from
deep_by_first_name = refl

-- the second name of the same scope
deep_by_second_name : label 0 "a.c.k" deep (planned deep) ≡ Ok (codes "deep")
unfolding plan_of map_included found_from qualified chain_from
deep_by_second_name = refl

-- and from within the scope itself
deep_from_within : label 2 "a.b.k" deep (planned deep) ≡ Ok (codes "deep")
unfolding plan_of map_included found_from qualified chain_from
deep_from_within = refl

-- scopes of one name stay two: where the first has no such key, the next is asked
same_name : label 0 "a.y" deep (planned deep) ≡ Ok (codes "three")
unfolding plan_of map_included found_from qualified chain_from
same_name = refl

-- a name may hold a dot itself
name_with_dot : label 0 "a.b.z" deep (planned deep) ≡ Ok (codes "four")
unfolding plan_of map_included found_from qualified chain_from
name_with_dot = refl

-- the whole search around a scope comes first, with the keys of child scopes, and so this scope's own `x` by its name
around_before_own : label 1 "a.x" deep (planned deep) ≡ Ok (codes "one")
unfolding plan_of map_included found_from qualified chain_from
around_before_own = refl

-- Scopes

-- each node that begins a scope belongs to it
deep_scopes : view (λ plan. map (λ (node : PlanNode). node.scope) plan.nodes) (planned deep)
    ≡ Ok (0 ∷ 1 ∷ 2 ∷ 2 ∷ 1 ∷ 1 ∷ 3 ∷ 3 ∷ 4 ∷ 4 ∷ 4 ∷ [])
unfolding plan_of map_included
deep_scopes = refl

-- the scopes stand in preorder, each with the scope around it, its node and its names
deep_table : view (λ plan. plan.scopes) (planned deep) ≡ Ok (record { parent = 0; node = 0; names = [] }
    ∷ record { parent = 0; node = 1; names = texts ("a" ∷ []) } ∷ record {
      parent = 1;
      node = 2;
      names = texts ("b"
          ∷ "c" ∷ []);
    }
    ∷ record { parent = 0; node = 6; names = texts ("a" ∷ []) }
    ∷ record { parent = 0; node = 8; names = texts ("a.b" ∷ []) } ∷ [])
unfolding plan_of map_included
deep_table = refl

abbrev bad : World
bad = these (map_with "m.ditamap" (given "keyscope" "r/s" ∷ given "keys" "r/s top"
    ∷ []) (topicref (given "keys" "a/b c a/b a{"
    ∷ given "keyscope" "s# s s#" ∷ []) [] ∷ of_map "reltable" (given "keyscope" "[ ]"
    ∷ []) (topicref (given "keys" "q? q" ∷ []) []
    ∷ []) ∷ []) ∷ [])

-- names with certain bytes are dropped, each once for a node; names of the root and keys in tables are passed over
bad_faults : faults (planned bad) ≡ Ok (texts ("m.ditamap:5 BadKeyName a/b" ∷ "m.ditamap:5 BadKeyName a{"
    ∷ "m.ditamap:5 BadScopeName s#" ∷ "m.ditamap:10 BadScopeName [" ∷ "m.ditamap:10 BadScopeName ]" ∷ []))
unfolding plan_of map_included digits
bad_faults = refl

-- a node begins a scope if one good name is left
bad_scopes : view (λ plan. plan.scopes) (planned bad) ≡ Ok (record { parent = 0; node = 0; names = [] }
    ∷ record { parent = 0; node = 1; names = texts ("s" ∷ []) } ∷ [])
unfolding plan_of map_included
bad_scopes = refl

-- a node says all of its names
bad_names_stay : view (λ plan. map (λ (node : PlanNode). node.scope_names) plan.nodes) (planned bad)
    ≡ Ok ([] ∷ texts ("s#" ∷ "s" ∷ []) ∷ texts ("[" ∷ "]" ∷ []) ∷ [] ∷ [])
unfolding plan_of map_included
bad_names_stay = refl

-- keys of the node that begins a scope are keys of that scope
keys_beside_scope : answer 0 "s.c" bad (planned bad) ≡ Ok (record {
  node = Some 1;
  target = targets.Nothing;
  label = codes "s.c";
  faults = record { name = codes "m.ditamap"; line = 5; code = codes_of.KeyNoText; detail = codes "s.c" } ∷ [];
})
unfolding plan_of map_included found_from qualified chain_from
keys_beside_scope = refl

-- the root's element defines no key, nor does a node of a relationship table
no_key_of_the_root : label 0 "top" bad (planned bad) ≡ Ok []
unfolding plan_of map_included found_from qualified chain_from
no_key_of_the_root = refl

-- a node of a relationship table defines none
no_key_in_tables : label 0 "q" bad (planned bad) ≡ Ok []
unfolding plan_of map_included found_from qualified chain_from
no_key_in_tables = refl

-- Order of definitions

abbrev levels : World
levels = these (m (topicref (given "format" "ditamap" ∷ href "s.ditamap" ∷ given "keys" "map" ∷ []) (keyword "M"
    ∷ []) ∷ key "k" "upper"
    ∷ key "k" "later" ∷ []) ∷ map_doc "s.ditamap" (key "k" "lower" ∷ key "low" "L" ∷ []) ∷ [])

-- a definition of a map around comes before one of an included map, and of those of one level the first counts
level_first : label 0 "k" levels (planned levels) ≡ Ok (codes "upper")
unfolding plan_of map_included found_from qualified chain_from
level_first = refl

-- an included map defines keys of the scope in which it is included
included_defines : label 0 "low" levels (planned levels) ≡ Ok (codes "L")
unfolding plan_of map_included found_from qualified chain_from
included_defines = refl

-- the reference that includes a map defines keys too; its target is a file
reference_defines : answer 0 "map" levels (planned levels) ≡ Ok (record {
  node = Some 1;
  target = targets.File (codes "s.ditamap") [];
  label = codes "M";
  faults = [];
})
unfolding plan_of map_included found_from qualified chain_from
reference_defines = refl

-- Key references

-- the key stands before the first `/`, and an id behind it that is not empty
key_alone : key_of (codes "k") ≡ codes "k"
key_alone = refl

-- it ends at the first `/`
key_before_id : key_of (codes "k/a/b") ≡ codes "k"
key_before_id = refl

-- what stands behind that is an id
id_behind_key : id_of_key (codes "k/a") ≡ Some (codes "a")
id_behind_key = refl

-- an empty id is none
no_id_behind_key : id_of_key (codes "k/") ≡ None
no_id_behind_key = refl
