-- Elements whose marks are known by hand, and pages that show them.
use Prim.Native.String.{String}
use Rattle.std.specs.Fmt.{digits}
use Rattle.std.specs.Prelude.{◌≡◌, List, [], ◌∷◌, Some, None, codes, refl}
use Rattle.dita_doc.specs.Tree.{Content}
use Rattle.dita_doc.specs.declared.content.Action.{Action}
use Rattle.dita_doc.specs.declared.content.Action.TheVariants as actions
use Rattle.dita_doc.specs.declared.content.Rule.{Rule}
use Rattle.dita_doc.specs.declared.doc.Attribute.{Attribute}
use Rattle.flag_marks.specs.Marks.{marks_of_element}
use Rattle.map_spec.specs.Included.{map_included}
use Rattle.map_spec.specs.PlanOf.{plan_of}
use Rattle.map_spec.specs.Pushes.{all_pushes}
use Rattle.html_spec.specs.Blocks.{body_html}
use Rattle.conref_spec.specs.Content.{followed_from, resolved_from}
use Rattle.part_spec.specs.Parts.{page_part}
use Rattle.reader_spec.specs.World.{World}
use Rattle.language_examples.proofs.Short.{Document, Seen, classed, ditaval, ditavalref, doc, given, href, m, of_topic, plain, prop, ref, texts, these, topicref}
use Rattle.language_examples.proofs.ShortPages.{Shown, alone_with, bare, conref, id, in_t, is_shown, p, page_by, shown, t, title, with_text}

abbrev for_token : Action → String → String → Rule
for_token action att token = record { att = Some (codes att); val = Some (codes token); action = action }

abbrev for_all : Action → String → Rule
for_all action att = record { att = Some (codes att); val = None; action = action }

abbrev flag_x : List Rule
flag_x = for_token actions.Flag "audience" "x" ∷ []

abbrev x_and_y : List Attribute
x_and_y = given "audience" "x y" ∷ []

-- a token that is flagged gives a mark, and one of no rule none
one_mark : marks_of_element (flag_x ∷ []) [] x_and_y ≡ texts ("flag-audience-x" ∷ [])
one_mark = refl

-- two lists with the same rule give the mark once
mark_once : marks_of_element (flag_x ∷ flag_x ∷ []) [] x_and_y ≡ texts ("flag-audience-x" ∷ [])
mark_once = refl

-- a token that is written twice too
token_twice : marks_of_element (flag_x ∷ []) [] (given "audience" "x y x" ∷ []) ≡ texts ("flag-audience-x" ∷ [])
token_twice = refl

-- a value of groups gives none
no_groups : marks_of_element (flag_x ∷ []) [] (given "audience" "(x)" ∷ []) ≡ []
no_groups = refl

-- an attribute that is not one of the six gives marks where it is declared
abbrev flag_jobs : List Rule
flag_jobs = for_all actions.Flag "jobrole" ∷ []

abbrev job : List Attribute
job = given "jobrole" "a" ∷ []

declared_mark : marks_of_element (flag_jobs ∷ []) (codes "jobrole" ∷ []) job ≡ texts ("flag-jobrole-a" ∷ [])
declared_mark = refl

not_declared : marks_of_element (flag_jobs ∷ []) [] job ≡ []
not_declared = refl

abbrev flag_all : List Rule
flag_all = record { att = None; val = None; action = actions.Flag } ∷ []

abbrev flag_z : List Rule
flag_z = for_token actions.Flag "props" "z" ∷ []

-- the lists stand in their order, and by each list the six attributes in theirs and then those that are declared, in
-- whatever order the element has them
in_order : marks_of_element (flag_z ∷ flag_all ∷ []) (codes "jobrole" ∷ [])
    (given "jobrole" "a" ∷ given "props" "b z" ∷ given "id" "p" ∷ given "audience" "x" ∷ [])
    ≡ texts ("flag-props-z" ∷ "flag-audience-x" ∷ "flag-props-b" ∷ "flag-jobrole-a" ∷ [])
in_order = refl

abbrev all_but_x : List Rule
all_but_x = for_all actions.Flag "audience" ∷ for_token actions.Passthrough "audience" "x" ∷ []

-- the rule for a token decides before that for its attribute, and what passes through is not flagged
not_passed_through : marks_of_element (all_but_x ∷ []) [] x_and_y ≡ texts ("flag-audience-y" ∷ [])
not_passed_through = refl

-- Pages

abbrev for_x : Attribute
for_x = given "audience" "x"

abbrev flags_x : Document
flags_x = ditaval "v.ditaval" (prop "flag" "audience" "x" ∷ [])

-- what a topic shows that holds this, by a DITAVAL that flags `x`
abbrev by_x : List Content → Seen Shown
by_x inside = shown (page_by "v.ditaval" 0 (alone_with (flags_x ∷ []) inside))

-- marks are the class of an element, or stand behind the one that it has
marked : by_x (with_text "p" (given "audience" "x y" ∷ []) "1" ∷ with_text "note" (for_x ∷ []) "2" ∷ [])
    ≡ in_t ("<p class=\"flag-audience-x\">1</p><div class=\"note flag-audience-x\">2</div>" ∷ []) []
unfolding plan_of map_included page_part all_pushes resolved_from followed_from body_html digits
marked = refl

-- the class stands behind the id
behind_the_id : by_x (with_text "p" (for_x ∷ id "a" ∷ []) "1" ∷ with_text "note"
    (given "type" "tip" ∷ for_x ∷ id "n" ∷ []) "2" ∷ []) ≡ in_t
    ("<p id=\"t__a\" class=\"flag-audience-x\">1</p>"
    ∷ "<div id=\"t__n\" class=\"note tip flag-audience-x\">2</div>" ∷ []) []
unfolding plan_of map_included page_part all_pushes resolved_from followed_from body_html digits
behind_the_id = refl

abbrev article : World
article = these (m (ref "t.dita" ∷ []) ∷ doc "t.dita" (of_topic "topic" (id "t" ∷ for_x ∷ [])
    (with_text "title" (for_x ∷ []) "H" ∷ of_topic "body" (for_x ∷ []) [] ∷ [])) ∷ flags_x ∷ [])

-- a topic, its title and its body have theirs
topic_marked : shown (page_by "v.ditaval" 0 article) ≡ is_shown
    ("<article id=\"t\" class=\"flag-audience-x\"><h1 class=\"flag-audience-x\">H</h1>"
    ∷ "<div class=\"body flag-audience-x\"></div></article>" ∷ []) []
unfolding plan_of map_included page_part all_pushes resolved_from followed_from body_html digits
topic_marked = refl

-- the class stands in front of all other attributes, and a link within an element has no marks
before_others : by_x (of_topic "xref" (for_x ∷ href "http://x/y" ∷ given "scope" "external" ∷ []) []
    ∷ of_topic "xref" (for_x ∷ []) [] ∷ of_topic "image" (for_x ∷ href "i" ∷ id "i" ∷ []) []
    ∷ bare "table" (bare "row" (with_text "entry" (for_x ∷ given "morerows" "1" ∷ []) "c" ∷ []) ∷ [])
    ∷ of_topic "stentry" (for_x ∷ []) [] ∷ with_text "fn" (for_x ∷ []) "f" ∷ []) ≡ in_t
    ("<a class=\"flag-audience-x\" href=\"http://x/y\">http://x/y</a><span class=\"flag-audience-x\"></span>"
    ∷ "<img id=\"t__i\" class=\"flag-audience-x\" src=\"i\" alt=\"\">"
    ∷ "<table><tr><td class=\"flag-audience-x\" rowspan=\"2\">c</td></tr></table>"
    ∷ "<td class=\"flag-audience-x\"></td>"
    ∷ "<span class=\"fn flag-audience-x\">f</span>" ∷ []) []
unfolding plan_of map_included page_part all_pushes resolved_from followed_from body_html digits
before_others = refl

-- an element without a tag shows no mark: one without a class, one of other types, and one that is passed over
without_a_tag : by_x (plain "p" (for_x ∷ []) (with_text "ph" (for_x ∷ []) "1" ∷ []) ∷ classed "x" (codes "- x/y ")
    (for_x ∷ []) (p "2" ∷ []) ∷ with_text "data" (for_x ∷ []) "3" ∷ []) ≡ in_t
    ("<span class=\"flag-audience-x\">1</span><p>2</p>" ∷ []) ("t.dita:10 NoClass p" ∷ [])
unfolding plan_of map_included page_part all_pushes resolved_from followed_from body_html digits
without_a_tag = refl

-- a value is escaped in a mark as in any attribute
escaped_mark : shown (page_by "v.ditaval" 0 (alone_with
    (ditaval "v.ditaval" (prop "flag" "audience" "<\"&>" ∷ []) ∷ []) (with_text "p" (given "audience" "<\"&>" ∷ []) "1" ∷ []))) ≡ in_t
    ("<p class=\"flag-audience-&lt;&quot;&amp;&gt;\">1</p>" ∷ []) []
unfolding plan_of map_included page_part all_pushes resolved_from followed_from body_html digits
escaped_mark = refl

-- a map whose branch has rules of its own
abbrev branch_with : List Content → List Content → World
branch_with props inside = these (m (topicref (href "t.dita" ∷ []) (ditavalref (href "w.ditaval" ∷ []) [] ∷ []) ∷ [])
    ∷ t inside ∷ flags_x ∷ ditaval "w.ditaval" props ∷ [])

-- the marks of the build's rules come before those of the branch; one that both give stands once
by_two_lists : shown (page_by "v.ditaval" 0 (branch_with (prop "flag" "audience" "y" ∷ prop "flag" "audience" "x" ∷ [])
    (with_text "p" (given "audience" "y x" ∷ []) "1" ∷ with_text "p" (for_x ∷ []) "2" ∷ []))) ≡ in_t
    ("<p class=\"flag-audience-x flag-audience-y\">1</p><p class=\"flag-audience-x\">2</p>" ∷ []) []
unfolding plan_of map_included page_part all_pushes resolved_from followed_from body_html digits
by_two_lists = refl

-- Merged elements

abbrev with_domains : String → String → List Attribute → List Content → Document
with_domains name topic domains inside =
    doc name (of_topic "topic" (id topic ∷ domains) (title "H" ∷ bare "body" inside ∷ []))

abbrev declares : List Attribute
declares = given "domains" "a(props jobrole)" ∷ []

abbrev role : Attribute
role = given "jobrole" "x"

-- `t.dita` takes an element of `s.dita`; each of both declares names or does not
abbrev taken : List Attribute → List Attribute → Seen Shown
taken here there = shown (page_by "v.ditaval" 0 (these (m (ref "t.dita" ∷ [])
    ∷ with_domains "t.dita" "t" here (of_topic "div" (conref "s.dita#s/a" ∷ given "audience" "x" ∷ []) [] ∷ [])
    ∷ with_domains "s.dita" "s" there (of_topic "div" (id "a" ∷ given "audience" "y" ∷ role ∷ [])
    (with_text "p" (role ∷ []) "1" ∷ []) ∷ [])
    ∷ ditaval "v.ditaval" (prop "flag" "audience" "y" ∷ prop "flag" "audience" "x" ∷ prop "flag" "jobrole" "x" ∷ [])
    ∷ [])))

-- a merged element has the marks of its merged attributes, by the names declared where the reference is written; what
-- it holds has them by those where it is written itself
merged_here : taken declares [] ≡ in_t
    ("<div class=\"flag-audience-x flag-jobrole-x\"><p>1</p></div>" ∷ []) []
unfolding plan_of map_included page_part all_pushes resolved_from followed_from body_html digits
merged_here = refl

merged_there : taken [] declares ≡ in_t
    ("<div class=\"flag-audience-x\"><p class=\"flag-jobrole-x\">1</p></div>" ∷ []) []
unfolding plan_of map_included page_part all_pushes resolved_from followed_from body_html digits
merged_there = refl
