-- The bodies that the generator puts can be printed: the DITAVALs, the map and the topics.
use Rattle.std.specs.Prelude.{◌≤◌, ◌<◌, ◌+◌, ◌*◌, ◌%◌, ◌^◌, ◌++◌, ℕ, zero, suc, List, [], ◌∷◌, codes}
use Rattle.std.specs.Fmt.{decimal}
use Rattle.std.specs.List.{flat_map}
use Rattle.std.proofs.Common.{refl, arith}
use Rattle.std.proofs.lemmas.Nat.{mod_below}
use Rattle.dita_doc.specs.Lines.{line}
use Rattle.doc_gen.specs.Project.{book, ditavalref, excluding, key_meta, keydef, numbers_from, paragraph, relcell, reltable, suffix_meta, topic, topic_body, topic_id, topic_name, topicref}
use Rattle.doc_gen.specs.Short.{Given, attribute_text, begun, classed, ended, of_domain, of_map, of_topic, plain, text}
use Rattle.desk_top.proofs.PrintsLaws.{IsBodyOf, IsPlain, body_append, body_more, no_lines, number_plain, one_line, plain_append, written}

-- The short form

texted : (n : ℕ) (words : List ℕ) → IsPlain n words → IsBodyOf (n + 2) (text words)
unfolding text
texted n words is =
    body_more (1 + n + 1) (n + 2) (line (codes "-" ++ words))
    (one_line (1 + n) 45 words (plain_append 1 n (codes "-") words (written 1 (codes "-") refl refl) is)
    (λ e. omega (arith, e))) (omega arith)

begins : (n : ℕ) (name : List ℕ) → IsPlain n name → IsBodyOf (n + 2) (begun name)
unfolding begun
begins n name is =
    body_more (1 + n + 1) (n + 2) (line (codes "(" ++ name))
    (one_line (1 + n) 40 name (plain_append 1 n (codes "(") name (written 1 (codes "(") refl refl) is)
    (λ e. omega (arith, e))) (omega arith)

ends : (n : ℕ) (name : List ℕ) → IsPlain n name → IsBodyOf (n + 2) (ended name)
unfolding ended
ends n name is =
    body_more (1 + n + 1) (n + 2) (line (codes ")" ++ name))
    (one_line (1 + n) 41 name (plain_append 1 n (codes ")") name (written 1 (codes ")") refl refl) is)
    (λ e. omega (arith, e))) (omega arith)

given : (m n : ℕ) (name value : List ℕ) → IsPlain m name → IsPlain n value
    → IsBodyOf (m + n + 3) (attribute_text (name, value))
unfolding attribute_text
given m n name value a b =
    let front = plain_append (1 + m) 1 (codes "A" ++ name) (codes " ")
    (plain_append 1 m (codes "A") name (written 1 (codes "A") refl refl) a) (written 1 (codes " ") refl refl) in
    body_more (1 + m + 1 + n + 1) (m + n + 3) (line (codes "A" ++ name ++ codes " " ++ value))
    (one_line (1 + m + 1 + n) 65 (name ++ codes " " ++ value)
    (plain_append (1 + m + 1) n (codes "A" ++ name ++ codes " ") value front b) (λ e. omega (arith, e)))
    (omega arith)

-- the attributes of an element
abbrev AreGiven : ℕ → List Given → Type 0
AreGiven n attributes = IsBodyOf n (flat_map attribute_text attributes)

none_given : AreGiven 0 []
none_given = no_lines

one_given : (m n k : ℕ) (name value : List ℕ) (attributes : List Given) → IsPlain m name → IsPlain n value
    → AreGiven k attributes → AreGiven (m + n + 3 + k) ((name, value) ∷ attributes)
one_given m n k name value attributes a b rest =
    body_append (m + n + 3) k (attribute_text (name, value)) (flat_map attribute_text attributes)
    (given m n name value a b) rest

element : (k a b : ℕ) (name : List ℕ) (attributes : List Given) (inside : List ℕ) → IsPlain k name
    → AreGiven a attributes → IsBodyOf b inside → IsBodyOf (k + 2 + a + b + (k + 2)) (plain name attributes inside)
element k a b name attributes inside named are is =
    body_append (k + 2 + a + b) (k + 2) (begun name ++ flat_map attribute_text attributes ++ inside) (ended name)
    (body_append (k + 2 + a) b (begun name ++ flat_map attribute_text attributes) inside
    (body_append (k + 2) a (begun name) (flat_map attribute_text attributes) (begins k name named) are) is)
    (ends k name named)

-- an element with a class; its name and its class have at most 20 and 60 bytes
classified : (a b : ℕ) (name class : List ℕ) (attributes : List Given) (inside : List ℕ) → IsPlain 20 name
    → IsPlain 60 class → AreGiven a attributes → IsBodyOf b inside
    → IsBodyOf (112 + a + b) (classed name class attributes inside)
classified a b name class attributes inside named is are within =
    body_more (20 + 2 + (5 + 60 + 3 + a) + b + (20 + 2)) (112 + a + b) (classed name class attributes inside)
    (element 20 (5 + 60 + 3 + a) b name ((codes "class", class) ∷ attributes) inside named
    (one_given 5 60 a (codes "class") class attributes (written 5 (codes "class") refl refl) is are) within)
    (omega arith)

in_map : (a b : ℕ) (name : List ℕ) (attributes : List Given) (inside : List ℕ) → IsPlain 20 name
    → AreGiven a attributes → IsBodyOf b inside → IsBodyOf (112 + a + b) (of_map name attributes inside)
in_map a b name attributes inside named are within =
    let front = plain_append 6 20 (codes "- map/") name (written 6 (codes "- map/") refl refl) named in
    let class = plain_append (6 + 20) 34 (codes "- map/" ++ name) (codes " ") front
    (written 34 (codes " ") refl refl) in
    classified a b name (codes "- map/" ++ name ++ codes " ") attributes inside named class are within

in_topic : (a b : ℕ) (name : List ℕ) (attributes : List Given) (inside : List ℕ) → IsPlain 20 name
    → AreGiven a attributes → IsBodyOf b inside → IsBodyOf (112 + a + b) (of_topic name attributes inside)
in_topic a b name attributes inside named are within =
    let front = plain_append 8 20 (codes "- topic/") name (written 8 (codes "- topic/") refl refl) named in
    let class = plain_append (8 + 20) 32 (codes "- topic/" ++ name) (codes " ") front
    (written 32 (codes " ") refl refl) in
    classified a b name (codes "- topic/" ++ name ++ codes " ") attributes inside named class are within

-- an element of a domain, all of whose names are written out
in_domain : (a b : ℕ) (base domain name : List ℕ) (attributes : List Given) (inside : List ℕ) → IsPlain 20 name
    → IsPlain 60 (codes "+ " ++ base ++ codes " " ++ domain ++ codes "/" ++ name ++ codes " ")
    → AreGiven a attributes → IsBodyOf b inside → IsBodyOf (112 + a + b) (of_domain base domain name attributes inside)
in_domain a b base domain name attributes inside named class are within =
    classified a b name (codes "+ " ++ base ++ codes " " ++ domain ++ codes "/" ++ name ++ codes " ") attributes inside
    named class are within

-- DITAVALs

pub excludes : (attribute value : List ℕ) → IsPlain 20 attribute → IsPlain 20 value
    → IsBodyOf 90 (excluding attribute value)
unfolding excluding
excludes attribute value a v =
    let last : AreGiven 26 ((codes "val", value) ∷ []) =
    one_given 3 20 0 (codes "val") value [] (written 3 (codes "val") refl refl) v none_given in
    let second : AreGiven 52 ((codes "att", attribute) ∷ (codes "val", value) ∷ []) =
    one_given 3 20 26 (codes "att") attribute ((codes "val", value) ∷ []) (written 3 (codes "att") refl refl) a last in
    let all : AreGiven 68
    ((codes "action", codes "exclude") ∷ (codes "att", attribute) ∷ (codes "val", value) ∷ []) =
    one_given 6 7 52 (codes "action") (codes "exclude") ((codes "att", attribute) ∷ (codes "val", value) ∷ [])
    (written 6 (codes "action") refl refl) (written 7 (codes "exclude") refl refl) second in
    let prop : IsBodyOf 80 (plain (codes "prop")
    ((codes "action", codes "exclude") ∷ (codes "att", attribute) ∷ (codes "val", value) ∷ []) []) =
    element 4 68 0 (codes "prop") ((codes "action", codes "exclude") ∷ (codes "att", attribute)
    ∷ (codes "val", value) ∷ []) [] (written 4 (codes "prop") refl refl) all no_lines in
    element 3 0 80 (codes "val") [] (plain (codes "prop")
    ((codes "action", codes "exclude") ∷ (codes "att", attribute) ∷ (codes "val", value) ∷ []) [])
    (written 3 (codes "val") refl refl) none_given prop

-- The map

id_plain : (index : ℕ) → index < 10 ^ 9 → IsPlain 10 (topic_id index)
id_plain index small = plain_append 1 9 (codes "t") (decimal index) (written 1 (codes "t") refl refl)
    (number_plain index small)

pub name_plain : (index : ℕ) → index < 10 ^ 9 → IsPlain 15 (topic_name index)
name_plain index small = plain_append 10 5 (topic_id index) (codes ".dita") (id_plain index small)
    (written 5 (codes ".dita") refl refl)

topicref_body : (index b : ℕ) (inside : List ℕ) → index < 10 ^ 9 → IsBodyOf b inside
    → IsBodyOf (134 + b) (topicref index inside)
unfolding topicref
topicref_body index b inside small is =
    in_map 22 b (codes "topicref") ((codes "href", topic_name index) ∷ []) inside
    (written 20 (codes "topicref") refl refl)
    (one_given 4 15 0 (codes "href") (topic_name index) [] (written 4 (codes "href") refl refl)
    (name_plain index small) none_given) is

key_meta_body : (key : ℕ) → key < 10 ^ 9 → IsBodyOf 239 (key_meta key)
unfolding key_meta
key_meta_body key small =
    in_map 0 127 (codes "topicmeta") [] (of_topic (codes "keyword") [] (text (codes "Key " ++ decimal key)))
    (written 20 (codes "topicmeta") refl refl) none_given
    (in_topic 0 15 (codes "keyword") [] (text (codes "Key " ++ decimal key)) (written 20 (codes "keyword") refl refl)
    none_given (texted 13 (codes "Key " ++ decimal key)
    (plain_append 4 9 (codes "Key ") (decimal key) (written 4 (codes "Key ") refl refl) (number_plain key small))))

keydef_body : (key : ℕ) → key < 10 ^ 9 → IsBodyOf 400 (keydef key)
unfolding keydef
keydef_body key small =
    let role : AreGiven 31 ((codes "processing-role", codes "resource-only") ∷ []) =
    one_given 15 13 0 (codes "processing-role") (codes "resource-only") []
    (written 15 (codes "processing-role") refl refl) (written 13 (codes "resource-only") refl refl) none_given in
    let all : AreGiven 48 ((codes "keys", codes "k" ++ decimal key)
    ∷ (codes "processing-role", codes "resource-only") ∷ []) =
    one_given 4 10 31 (codes "keys") (codes "k" ++ decimal key)
    ((codes "processing-role", codes "resource-only") ∷ []) (written 4 (codes "keys") refl refl)
    (plain_append 1 9 (codes "k") (decimal key) (written 1 (codes "k") refl refl) (number_plain key small)) role in
    body_more 399 400 (of_domain (codes "map/topicref") (codes "mapgroup-d") (codes "keydef")
    ((codes "keys", codes "k" ++ decimal key) ∷ (codes "processing-role", codes "resource-only") ∷ []) (key_meta key))
    (in_domain 48 239 (codes "map/topicref") (codes "mapgroup-d") (codes "keydef")
    ((codes "keys", codes "k" ++ decimal key) ∷ (codes "processing-role", codes "resource-only") ∷ []) (key_meta key)
    (written 20 (codes "keydef") refl refl) (written 60 (codes "+ map/topicref mapgroup-d/keydef ") refl refl) all
    (key_meta_body key small)) (omega arith)

suffix_body : (platform : List ℕ) → IsPlain 3 platform → IsBodyOf 230 (suffix_meta platform)
unfolding suffix_meta
suffix_body platform is =
    in_domain 0 118 (codes "map/topicmeta") (codes "ditavalref-d") (codes "ditavalmeta") []
    (of_domain (codes "topic/data") (codes "ditavalref-d") (codes "dvrResourceSuffix") []
    (text (codes "-" ++ platform))) (written 20 (codes "ditavalmeta") refl refl)
    (written 60 (codes "+ map/topicmeta ditavalref-d/ditavalmeta ") refl refl) none_given
    (in_domain 0 6 (codes "topic/data") (codes "ditavalref-d") (codes "dvrResourceSuffix") []
    (text (codes "-" ++ platform)) (written 20 (codes "dvrResourceSuffix") refl refl)
    (written 60 (codes "+ topic/data ditavalref-d/dvrResourceSuffix ") refl refl) none_given
    (texted 4 (codes "-" ++ platform)
    (plain_append 1 3 (codes "-") platform (written 1 (codes "-") refl refl) is)))

ditavalref_body : (platform : List ℕ) → IsPlain 3 platform → IsBodyOf 360 (ditavalref platform)
unfolding ditavalref
ditavalref_body platform is =
    in_domain 18 230 (codes "map/topicref") (codes "ditavalref-d") (codes "ditavalref")
    ((codes "href", platform ++ codes ".ditaval") ∷ []) (suffix_meta platform)
    (written 20 (codes "ditavalref") refl refl) (written 60 (codes "+ map/topicref ditavalref-d/ditavalref ") refl refl)
    (one_given 4 11 0 (codes "href") (platform ++ codes ".ditaval") [] (written 4 (codes "href") refl refl)
    (plain_append 3 8 platform (codes ".ditaval") is (written 8 (codes ".ditaval") refl refl)) none_given)
    (suffix_body platform is)

relcell_body : (index : ℕ) → index < 10 ^ 9 → IsBodyOf 246 (relcell index)
unfolding relcell
relcell_body index small =
    in_map 0 134 (codes "relcell") [] (topicref index []) (written 20 (codes "relcell") refl refl) none_given
    (topicref_body index 0 [] small no_lines)

reltable_body : IsBodyOf 716 reltable
unfolding reltable
reltable_body =
    in_map 0 604 (codes "reltable") [] (of_map (codes "relrow") [] (relcell 1 ++ relcell 2))
    (written 20 (codes "reltable") refl refl) none_given
    (in_map 0 492 (codes "relrow") [] (relcell 1 ++ relcell 2) (written 20 (codes "relrow") refl refl) none_given
    (body_append 246 246 (relcell 1) (relcell 2) (relcell_body 1 (omega arith)) (relcell_body 2 (omega arith))))

-- each of some numbers, with at most 400 bytes
numbers_body : (f : ℕ → List ℕ) (bound : ℕ) → ((index : ℕ) → index < bound → IsBodyOf 400 (f index))
    → (first count : ℕ) → first + count ≤ bound → IsBodyOf (count * 400) (flat_map f (numbers_from first count))
numbers_body f bound each first zero within = no_lines
numbers_body f bound each first (suc count) within =
    body_more (400 + count * 400) (suc count * 400) (f first ++ flat_map f (numbers_from (first + 1) count))
    (body_append 400 (count * 400) (f first) (flat_map f (numbers_from (first + 1) count))
    (each first (omega (arith, within))) (numbers_body f bound each (first + 1) count (omega (arith, within))))
    (omega arith)

pub book_body : (topics : ℕ) → topics ≤ 4000 → IsBodyOf (3000 + topics * 400) (book topics)
unfolding book
book_body topics few =
    let title : IsBodyOf 118 (of_topic (codes "title") [] (text (codes "Book"))) =
    in_topic 0 6 (codes "title") [] (text (codes "Book")) (written 20 (codes "title") refl refl) none_given
    (texted 4 (codes "Book") (written 4 (codes "Book") refl refl)) in
    let keys : IsBodyOf 1200 (flat_map keydef (numbers_from 1 3)) =
    numbers_body keydef 4 (λ key low. keydef_body key (omega (arith, low))) 1 3 (omega arith) in
    let refs : IsBodyOf (topics * 400) (flat_map (λ index. topicref index []) (numbers_from 1 topics)) =
    numbers_body (λ index. topicref index []) (1 + topics)
    (λ index low. body_more 134 400 (topicref index []) (topicref_body index 0 [] (omega (arith, low, few)) no_lines)
    (omega arith)) 1 topics (omega arith) in
    let both : IsBodyOf 720 (ditavalref (codes "win") ++ ditavalref (codes "lin")) =
    body_append 360 360 (ditavalref (codes "win")) (ditavalref (codes "lin"))
    (ditavalref_body (codes "win") (written 3 (codes "win") refl refl))
    (ditavalref_body (codes "lin") (written 3 (codes "lin") refl refl)) in
    let branch : IsBodyOf 854 (topicref 1 (ditavalref (codes "win") ++ ditavalref (codes "lin"))) =
    topicref_body 1 720 (ditavalref (codes "win") ++ ditavalref (codes "lin")) (omega arith) both in
    let two = body_append 118 1200 _ _ title keys in
    let three = body_append (118 + 1200) (topics * 400) _ _ two refs in
    let four = body_append (118 + 1200 + topics * 400) 854 _ _ three branch in
    let five = body_append (118 + 1200 + topics * 400 + 854) 716 _ _ four reltable_body in
    body_more (112 + 0 + (118 + 1200 + topics * 400 + 854 + 716)) (3000 + topics * 400) _
    (in_map 0 (118 + 1200 + topics * 400 + 854 + 716) (codes "map") [] _ (written 20 (codes "map") refl refl) none_given
    five) (omega arith)

-- Topics

paragraph_body : (a b : ℕ) (attributes : List Given) (inside : List ℕ) → AreGiven a attributes → IsBodyOf b inside
    → IsBodyOf (112 + a + b) (paragraph attributes inside)
unfolding paragraph
paragraph_body a b attributes inside are is =
    in_topic a b (codes "p") attributes inside (written 20 (codes "p") refl refl) are is

-- a paragraph with one attribute and one character, all written out
letter_body : (name value letter : List ℕ) → IsPlain 8 name → IsPlain 8 value → IsPlain 1 letter
    → IsBodyOf 134 (paragraph ((name, value) ∷ []) (text letter))
letter_body name value letter n v l =
    paragraph_body 19 3 ((name, value) ∷ []) (text letter) (one_given 8 8 0 name value [] n v none_given)
    (texted 1 letter l)

topic_body_body : (topics value number : ℕ) → 1 ≤ topics → topics ≤ 4000 → number < 10 ^ 9
    → IsBodyOf 1100 (topic_body topics value number)
unfolding topic_body
topic_body_body topics value number some few small =
    let other : IsPlain 10 (topic_id (1 + value % topics)) =
    id_plain (1 + value % topics) (omega (arith, mod_below value topics some, few)) in
    let first : IsBodyOf 134 (paragraph ((codes "id", codes "s") ∷ []) (text (codes "Text " ++ decimal number))) =
    paragraph_body 6 16 ((codes "id", codes "s") ∷ []) (text (codes "Text " ++ decimal number))
    (one_given 2 1 0 (codes "id") (codes "s") [] (written 2 (codes "id") refl refl) (written 1 (codes "s") refl refl)
    none_given) (texted 14 (codes "Text " ++ decimal number)
    (plain_append 5 9 (codes "Text ") (decimal number) (written 5 (codes "Text ") refl refl)
    (number_plain number small))) in
    let key : IsPlain 10 (codes "k" ++ decimal (1 + value % 3)) =
    plain_append 1 9 (codes "k") (decimal (1 + value % 3)) (written 1 (codes "k") refl refl)
    (number_plain (1 + value % 3) (omega (arith, mod_below value 3 (omega arith)))) in
    let second : IsBodyOf 243 (paragraph []
    (of_topic (codes "ph") ((codes "keyref", codes "k" ++ decimal (1 + value % 3)) ∷ []) [])) =
    paragraph_body 0 131 [] (of_topic (codes "ph") ((codes "keyref", codes "k" ++ decimal (1 + value % 3)) ∷ []) [])
    none_given (in_topic 19 0 (codes "ph") ((codes "keyref", codes "k" ++ decimal (1 + value % 3)) ∷ []) []
    (written 20 (codes "ph") refl refl) (one_given 6 10 0 (codes "keyref") (codes "k" ++ decimal (1 + value % 3)) []
    (written 6 (codes "keyref") refl refl) key none_given) no_lines) in
    let third = letter_body (codes "audience") (codes "internal") (codes "I") (written 8 (codes "audience") refl refl)
    (written 8 (codes "internal") refl refl) (written 1 (codes "I") refl refl) in
    let fourth = letter_body (codes "platform") (codes "win") (codes "W") (written 8 (codes "platform") refl refl)
    (written 8 (codes "win") refl refl) (written 1 (codes "W") refl refl) in
    let fifth = letter_body (codes "platform") (codes "lin") (codes "L") (written 8 (codes "platform") refl refl)
    (written 8 (codes "lin") refl refl) (written 1 (codes "L") refl refl) in
    let id : List ℕ = topic_id (1 + value % topics) in
    let target : IsPlain 28 (id ++ codes ".dita#" ++ id ++ codes "/s") =
    plain_append 26 2 (id ++ codes ".dita#" ++ id) (codes "/s")
    (plain_append 16 10 (id ++ codes ".dita#") id
    (plain_append 10 6 id (codes ".dita#") other (written 6 (codes ".dita#") refl refl)) other)
    (written 2 (codes "/s") refl refl) in
    let sixth : IsBodyOf 149 (paragraph ((codes "conref", id ++ codes ".dita#" ++ id ++ codes "/s") ∷ []) []) =
    paragraph_body 37 0 ((codes "conref", id ++ codes ".dita#" ++ id ++ codes "/s") ∷ []) []
    (one_given 6 28 0 (codes "conref") (id ++ codes ".dita#" ++ id ++ codes "/s") []
    (written 6 (codes "conref") refl refl) target none_given) no_lines in
    let two = body_append 134 243 _ _ first second in
    let three = body_append 377 134 _ _ two third in
    let four = body_append 511 134 _ _ three fourth in
    let five = body_append 645 134 _ _ four fifth in
    let six = body_append 779 149 _ _ five sixth in
    body_more (112 + 0 + 928) 1100 _
    (in_topic 0 928 (codes "body") [] _ (written 20 (codes "body") refl refl) none_given six) (omega arith)

pub topic_is_body : (topics index value number : ℕ) → 1 ≤ topics → topics ≤ 4000 → index < 10 ^ 9 → number < 10 ^ 9
    → IsBodyOf 1400 (topic topics index value number)
unfolding topic
topic_is_body topics index value number some few low small =
    let title : IsBodyOf 129 (of_topic (codes "title") [] (text (codes "Topic " ++ decimal index))) =
    in_topic 0 17 (codes "title") [] (text (codes "Topic " ++ decimal index)) (written 20 (codes "title") refl refl)
    none_given (texted 15 (codes "Topic " ++ decimal index)
    (plain_append 6 9 (codes "Topic ") (decimal index) (written 6 (codes "Topic ") refl refl)
    (number_plain index low))) in
    let inside = body_append 129 1100 _ _ title (topic_body_body topics value number some few small) in
    body_more (112 + 15 + 1229) 1400 _
    (in_topic 15 1229 (codes "topic") ((codes "id", topic_id index) ∷ []) _ (written 20 (codes "topic") refl refl)
    (one_given 2 10 0 (codes "id") (topic_id index) [] (written 2 (codes "id") refl refl) (id_plain index low)
    none_given) inside) (omega arith)
