-- Maps whose targets, pages and names are known by hand.
use Prim.Native.String.{String}
use Rattle.std.specs.Fmt.{digits}
use Rattle.std.specs.Prelude.{◌≡◌, ℕ, List, [], ◌∷◌, ◌++◌, Option, Some, None, Ok, Err, map, refl, replicate, codes}
use Rattle.dita_doc.specs.Tree.{Content}
use Rattle.dita_doc.specs.declared.doc.Attribute.{Attribute}
use Rattle.dita_doc.specs.declared.plan.PageId.{PageId}
use Rattle.dita_doc.specs.declared.plan.PagePlan.{PagePlan}
use Rattle.dita_doc.specs.declared.plan.PlanStop.TheVariants as stops
use Rattle.dita_doc.specs.declared.plan.Target.{Target}
use Rattle.dita_doc.specs.declared.plan.Target.TheVariants as targets
use Rattle.map_spec.specs.Included.{map_included}
use Rattle.map_spec.specs.Keys.{chain_from}
use Rattle.map_spec.specs.Pages.{base_of, page_for}
use Rattle.map_spec.specs.PlanOf.{limits, plan_of}
use Rattle.map_spec.specs.Scopes.{found_from, qualified}
use Rattle.reader_spec.specs.World.{World}
use Rattle.language_examples.proofs.Short.{Document, Planned, Seen, ditaval, ditavalmeta, ditavalref, doc, dvr, faults, given, href, m, map_doc, map_with, of_map, pages, plain, planned, ref, submap, table_of, texts, these, topic, topicref, view}

abbrev t : Document
t = topic "t.dita" "t"

abbrev u : Document
u = topic "u.dita" "u"

abbrev documents : Planned → Seen (List (List ℕ))
documents made = view (λ plan. plan.documents) made

-- the places of the nodes by which the pages are
abbrev first_nodes : Planned → Seen (List ℕ)
first_nodes made = view (λ plan. map (λ (page : PagePlan). page.node) plan.pages) made

abbrev resource : Attribute
resource = given "processing-role" "resource-only"

-- Names

abbrev same_base : World
same_base = these (m (ref "a/t.dita" ∷ ref "a/t.xml" ∷ ref "index.dita" ∷ [])
    ∷ topic "a/t.dita" "t" ∷ topic "a/t.xml" "t" ∷ topic "index.dita" "index" ∷ [])

-- a page has the first name that is not taken yet, and that of the contents is taken
same_base_pages : pages (planned same_base) ≡ Ok (texts ("a/t.html" ∷ "a/t_2.html" ∷ "index_2.html" ∷ []))
unfolding plan_of map_included digits
same_base_pages = refl

-- a name that is not the base's own is a fault at the page's reference
same_base_faults : faults (planned same_base) ≡ Ok (texts (
    "m.ditamap:7 NameChanged a/t_2.html" ∷ "m.ditamap:11 NameChanged index_2.html" ∷ []))
unfolding plan_of map_included digits
same_base_faults = refl

abbrev taken : World
taken = these (m (ref "t.dita" ∷ ref "t.xml" ∷ ref "t_2.dita" ∷ ref "t.txt" ∷ []) ∷ t ∷ topic "t.xml" "t"
    ∷ topic "t_2.dita" "t"
    ∷ topic "t.txt" "t" ∷ [])

-- names are given in the order of the pages
taken_pages : pages (planned taken) ≡ Ok (texts ("t.html" ∷ "t_2.html" ∷ "t_2_2.html" ∷ "t_3.html" ∷ []))
unfolding plan_of map_included digits
taken_pages = refl

-- a document may so lose its name to one before it
taken_faults : faults (planned taken) ≡ Ok (texts ("m.ditamap:7 NameChanged t_2.html"
    ∷ "m.ditamap:11 NameChanged t_2_2.html"
    ∷ "m.ditamap:15 NameChanged t_3.html" ∷ []))
unfolding plan_of map_included digits
taken_faults = refl

abbrev base : String → List ℕ
base name = base_of (record { doc = codes name; scope = 0; filters = []; affixes = [] })

-- an extension begins with the last dot of the last segment, unless that is its first byte
one_extension : base "a/b.c.dita" ≡ codes "a/b.c"
one_extension = refl

-- a dot of a folder begins none
no_extension : base "a.b/c" ≡ codes "a.b/c"
no_extension = refl

-- a dot in front begins none
dot_in_front : base "a/.dita" ≡ codes "a/.dita"
dot_in_front = refl

-- an extension may be empty
dot_at_end : base "a." ≡ codes "a"
dot_at_end = refl

-- of two dots in front the second begins one
two_dots : base "..a" ≡ codes "."
two_dots = refl

-- a reference that is copied with what is put before and behind its name
abbrev affixed : String → String → String → List Content → Content
affixed name before behind inside = topicref (href name ∷ []) (ditavalref [] (ditavalmeta (
    dvr "dvrResourcePrefix" before ∷ dvr "dvrResourceSuffix" behind ∷ []) ∷ []) ∷ inside)

abbrev folders : World
folders = these (m (affixed "d/t.dita" "p-" "" (affixed "d/u.dita" "f/" "-s" [] ∷ [])
    ∷ affixed "d/t.dita" "" "/e" [] ∷ [])
    ∷ topic "d/t.dita" "t" ∷ topic "d/u.dita" "u" ∷ [])

-- each affix is put to the last segment of the name as it then stands
affix_with_folder : pages (planned folders) ≡ Ok (texts ("d/p-t.html" ∷ "d/f/p-u-s.html" ∷ "d/t/e.html" ∷ []))
unfolding plan_of map_included
affix_with_folder = refl

abbrev no_name : World
no_name = these (m (ref "t.dita" ∷ affixed "t.dita" "a b" "" [] ∷ affixed "u.dita" "/" "" [] ∷ ref "page1.dita"
    ∷ []) ∷ t ∷ u
    ∷ topic "page1.dita" "p" ∷ [])

-- a base that makes no document name gives way to the page's number, counted from zero
no_name_pages : pages (planned no_name) ≡ Ok (texts ("t.html" ∷ "page1.html" ∷ "page2.html" ∷ "page1_2.html" ∷ []))
unfolding plan_of map_included digits
no_name_pages = refl

-- each such name is a fault, since the base was another
no_name_faults : faults (planned no_name) ≡ Ok (texts ("m.ditamap:7 NameChanged page1.html"
    ∷ "m.ditamap:25 NameChanged page2.html" ∷ "m.ditamap:43 NameChanged page1_2.html" ∷ []))
unfolding plan_of map_included digits
no_name_faults = refl

abbrev long : ℕ → List ℕ
long count = replicate count 97

abbrev long_ref : ℕ → Content
long_ref count = topicref (record { name = codes "href"; value = long count } ∷ []) []

abbrev long_names : World
long_names = these (m (long_ref 235 ∷ long_ref 236 ∷ []) ∷ (long 235, (topic "t" "t").1)
    ∷ (long 236, (topic "t" "t").1) ∷ [])

-- so does one that would make a name of more than 240 bytes
long_names_pages : pages (planned long_names) ≡ Ok ((long 235 ++ codes ".html") ∷ codes "page1.html" ∷ [])
unfolding plan_of map_included digits
long_names_pages = refl

-- Uses

abbrev uses : World
uses = these (m (topicref (href "u.dita" ∷ resource ∷ []) (ref "t.dita" ∷ ref "n.dita" ∷ []) ∷ ref "t.dita#x"
    ∷ ref "t.dita"
    ∷ ref "s.ditamap" ∷ ref "v.ditaval" ∷ ref "d.dita" ∷ table_of (ref "n.dita" ∷ []) ∷ submap "s.ditamap" ∷ []) ∷ t
    ∷ u ∷ map_doc "s.ditamap" []
    ∷ ditaval "v.ditaval" [] ∷ doc "d.dita" (plain "dita" [] []) ∷ [])

-- a document has one page in a context, at its first use that is no mere resource; a fragment does not count
uses_pages : pages (planned uses) ≡ Ok (texts ("t.html" ∷ "d.html" ∷ []))
unfolding plan_of map_included
uses_pages = refl

-- the page stands at the node of that use
uses_nodes : first_nodes (planned uses) ≡ Ok (4 ∷ 8 ∷ [])
unfolding plan_of map_included
uses_nodes = refl

-- the documents are those of all uses outside relationship tables, each once
uses_documents : documents (planned uses)
    ≡ Ok (texts ("u.dita" ∷ "t.dita" ∷ "n.dita" ∷ "s.ditamap" ∷ "v.ditaval" ∷ "d.dita" ∷ []))
unfolding plan_of map_included
uses_documents = refl

-- a document that is not stored or has no topics is a fault of each use, also of a mere resource
uses_faults : faults (planned uses) ≡ Ok (texts ("m.ditamap:11 TopicMissing n.dita"
    ∷ "m.ditamap:24 NotTopic s.ditamap"
    ∷ "m.ditamap:28 NotTopic v.ditaval" ∷ []))
unfolding plan_of map_included digits
uses_faults = refl

abbrev ignored : World
ignored = these (map_with "m.ditamap" (given "chunk" "" ∷ []) (topicref (given "copy-to" "x.dita" ∷ href "t.dita"
    ∷ given "chunk" "c" ∷ [])
    [] ∷ of_map "reltable" (given "copy-to" "y" ∷ []) [] ∷ ditavalref (given "chunk" "z" ∷ []) [] ∷ []) ∷ t ∷ [])

-- what would change a page's name or content is a fault of each node of the plan, of groups not
ignored_faults : faults (planned ignored) ≡ Ok (texts ("m.ditamap:1 Chunk" ∷ "m.ditamap:4 CopyTo x.dita"
    ∷ "m.ditamap:4 Chunk c"
    ∷ "m.ditamap:10 CopyTo y" ∷ []))
unfolding plan_of map_included digits
ignored_faults = refl

-- and has no effect
ignored_pages : pages (planned ignored) ≡ Ok (texts ("t.html" ∷ []))
unfolding plan_of map_included
ignored_pages = refl

-- Targets

abbrev local : String → String → Target
local name topic = targets.Local (codes name) (record { file = codes name; topic = codes topic; element = [] })

abbrev kinds_of_targets : World
kinds_of_targets = these (m (topicref (given "keys" "k" ∷ href "t.dita#t" ∷ []) []
    ∷ topicref (given "keyref" "k/e" ∷ href "../x" ∷ []) [] ∷ topicref (given "format" "html" ∷ []) (ref "a#b#c"
    ∷ ref "" ∷ [])
    ∷ topicref (given "scope" "peer" ∷ []) (ref "" ∷ []) ∷ ref "t.dita#" ∷ ref "x:y" ∷ topicref (given "keyref" "n"
    ∷ href "u.dita" ∷ []) []
    ∷ []) ∷ t ∷ u ∷ [])

-- by a defined key, or else by the href: a file of another format, what is not ours as written, or a topic
targets_of_nodes : view (λ plan. plan.targets) (planned kinds_of_targets) ≡ Ok (targets.Nothing ∷ local "t.dita" "t"
    ∷ local "t.dita" "t"
    ∷ targets.Nothing ∷ targets.File (codes "a") (codes "#b#c") ∷ targets.Nothing ∷ targets.Nothing ∷ targets.Other []
    ∷ targets.Nothing ∷ targets.Other (codes "x:y") ∷ local "u.dita" "" ∷ [])
unfolding plan_of map_included found_from qualified chain_from
targets_of_nodes = refl

-- with a defined key the href is not read
targets_faults : faults (planned kinds_of_targets) ≡ Ok (texts ("m.ditamap:20 BadReference"
    ∷ "m.ditamap:33 BadReference t.dita#" ∷ []))
unfolding plan_of map_included found_from qualified chain_from digits
targets_faults = refl

-- Contexts

abbrev contexts : World
contexts = these (m (ref "u.dita" ∷ ref "t.dita" ∷ topicref (given "keyscope" "s" ∷ []) (ref "t.dita" ∷ [])
    ∷ affixed "t.dita" "p" "" []
    ∷ []) ∷ t ∷ u ∷ [])

abbrev with_affix : ℕ → PageId
with_affix scope =
    record {
      doc = codes "d.dita";
      scope = scope;
      filters = [];
      affixes = record { prefix = codes "p"; suffix = [] }
          ∷ [];
    }

abbrev in_scope : ℕ → PageId
in_scope scope = record { doc = codes "d.dita"; scope = scope; filters = []; affixes = [] }

abbrev page : String → PageId → Seen (Option ℕ)
page name context = view (λ plan. page_for plan.pages (codes name) context) (planned contexts)

-- the page of a document for a context is that of the same context
page_of_scope : page "t.dita" (in_scope 1) ≡ Ok (Some 2)
unfolding plan_of map_included digits
page_of_scope = refl

-- scope, filters and affixes count alike
page_of_affix : page "t.dita" (with_affix 0) ≡ Ok (Some 3)
unfolding plan_of map_included digits
page_of_affix = refl

-- or else the document's first, if it has any
first_page : page "t.dita" (with_affix 1) ≡ Ok (Some 1)
unfolding plan_of map_included digits
first_page = refl

-- a document without a page has none in any context
no_page : page "d.dita" (in_scope 0) ≡ Ok None
unfolding plan_of map_included digits
no_page = refl

-- more pages than the limit says are too many
too_many_pages : plan_of (record limits { pages = 3 }) contexts (codes "m.ditamap") None ≡ Err stops.TooManyPages
unfolding plan_of map_included digits
too_many_pages = refl
