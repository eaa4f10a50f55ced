-- Values of `domains` whose names are known by hand, and pages of topics that declare conditional attributes.
use Prim.Native.String.{String}
use Rattle.std.specs.Fmt.{digits}
use Rattle.std.specs.Prelude.{◌≡◌, List, ℕ, [], ◌∷◌, refl, codes}
use Rattle.dita_doc.specs.Tree.{Content}
use Rattle.ditaval_rules.specs.Domains.{names_declared}
use Rattle.map_spec.specs.Included.{map_included}
use Rattle.map_spec.specs.PlanOf.{plan_of}
use Rattle.map_spec.specs.Pushes.{all_pushes}
use Rattle.html_spec.specs.Blocks.{body_html}
use Rattle.conref_spec.specs.Content.{followed_from, resolved_from}
use Rattle.part_spec.specs.Parts.{page_part}
use Rattle.reader_spec.specs.World.{World}
use Rattle.language_examples.proofs.Short.{Document, ditaval, doc, given, m, of_topic, prop, ref, texts, these}
use Rattle.language_examples.proofs.ShortPages.{alone_with, bare, id, in_t, page_by, shown, title, with_text}

-- Values

abbrev names : String → List (List ℕ)
names value = names_declared (codes value)

one_name : names "a(props jobrole)" ≡ texts ("jobrole" ∷ [])
one_name = refl

-- the last token is the name, whatever stands between
last_token : names "(topic hi-d)\ta( props people  jobrole )" ≡ texts ("jobrole" ∷ [])
last_token = refl

-- two pieces with one end declare the same name, which counts once
shared_end : names "a(props a(props x)" ≡ texts ("x" ∷ [])
shared_end = refl

-- in order, each once
each_once : names "a(props y) a(props x) a(props people y)" ≡ texts ("y" ∷ "x" ∷ [])
each_once = refl

other_sign : names "b(props y)" ≡ []
other_sign = refl

-- `a(` stands at the start or behind a blank
no_blank : names "xa(props y)" ≡ []
no_blank = refl

behind_an_end : names "a(props x)a(props y)" ≡ texts ("x" ∷ [])
behind_an_end = refl

-- one of the attributes that are conditional in every document is not declared
known_name : names "a(props audience)" ≡ []
known_name = refl

no_end : names "a(props y" ≡ []
no_end = refl

no_name : names "a(props)" ≡ []
no_name = refl

other_base : names "a(base y)" ≡ []
other_base = refl

-- Pages

abbrev no_x : Document
no_x = ditaval "v.ditaval" (prop "exclude" "jobrole" "x" ∷ [])

abbrev inside : List Content
inside = with_text "p" (given "jobrole" "x" ∷ []) "1" ∷ with_text "p" (given "other" "x" ∷ []) "2" ∷ []

-- a topic with this value of `domains` at its root
abbrev with_domains : String → List Content → World
with_domains value body = these (m (ref "t.dita" ∷ []) ∷ doc "t.dita" (of_topic "topic"
    (id "t" ∷ given "domains" value ∷ []) (title "H" ∷ bare "body" body ∷ [])) ∷ no_x ∷ [])

-- a declared attribute excludes
declared_excludes : shown (page_by "v.ditaval" 0 (with_domains "(topic hi-d) a(props jobrole)" inside))
    ≡ in_t ("<p>2</p>" ∷ []) []
unfolding plan_of map_included page_part all_pushes resolved_from followed_from body_html digits
declared_excludes = refl

-- one that is not declared does not
not_declared : shown (page_by "v.ditaval" 0 (alone_with (no_x ∷ []) inside)) ≡ in_t ("<p>1</p><p>2</p>" ∷ []) []
unfolding plan_of map_included page_part all_pushes resolved_from followed_from body_html digits
not_declared = refl

-- the nearest value counts, also for the element that has it
nearest : shown (page_by "v.ditaval" 0 (with_domains "a(props jobrole)" (of_topic "div"
    (given "domains" "" ∷ given "jobrole" "x" ∷ []) (with_text "p" (given "jobrole" "x" ∷ []) "1" ∷ [])
    ∷ with_text "p" (given "jobrole" "x" ∷ []) "2" ∷ []))) ≡ in_t ("<div><p>1</p></div>" ∷ []) []
unfolding plan_of map_included page_part all_pushes resolved_from followed_from body_html digits
nearest = refl

-- a value of groups counts as absent, with a fault
grouped : shown (page_by "v.ditaval" 0 (with_domains "a(props jobrole)"
    (with_text "p" (given "jobrole" "g(x)" ∷ []) "1" ∷ []))) ≡ in_t ("<p>1</p>" ∷ [])
    ("t.dita:11 GroupValue jobrole" ∷ [])
unfolding plan_of map_included page_part all_pushes resolved_from followed_from body_html digits
grouped = refl
