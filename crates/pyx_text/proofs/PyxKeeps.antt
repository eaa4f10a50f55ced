-- What stays so from line to line where none is faulty, and what the tree of such events says.
use Rattle.std.specs.Prelude.{◌≡◌, ◌⊎◌, ℕ, true, false, List, [], ◌∷◌, drop}
use Rattle.std.proofs.Common.{refl, sym, ◌∙◌, ap, subst, inl, inr}
use Rattle.dita_doc.specs.declared.doc.Attribute.{Attribute}
use Rattle.dita_doc.specs.Tree.{Content, End, Element}
use Rattle.dita_doc.specs.PyxEvent.{Event, Open, Give, Text, Close, add_text, open_names, has_root}
use Rattle.dita_doc.specs.Pyx.{says, give_all, built, text_then, begins_with_text, IsWritten, IsOneElement}

-- an attribute may stand behind these events
abbrev pub IsFresh : List Event → Type 0
IsFresh [] = ⊥
IsFresh (Open name line ∷ before) = Unit {0}
IsFresh (Give name value ∷ before) = Unit {0}
IsFresh (Text text ∷ before) = ⊥
IsFresh (Close name ∷ before) = ⊥

-- the last event is a text
abbrev pub EndsInText : List Event → Type 0
EndsInText [] = ⊥
EndsInText (Open name line ∷ before) = ⊥
EndsInText (Give name value ∷ before) = ⊥
EndsInText (Text text ∷ before) = Unit {0}
EndsInText (Close name ∷ before) = ⊥

-- the last event is no text
abbrev pub EndsInNoText : List Event → Type 0
EndsInNoText [] = Unit {0}
EndsInNoText (Open name line ∷ before) = Unit {0}
EndsInNoText (Give name value ∷ before) = Unit {0}
EndsInNoText (Text text ∷ before) = ⊥
EndsInNoText (Close name ∷ before) = Unit {0}

-- there is a name
abbrev pub IsSome : List (List ℕ) → Type 0
IsSome [] = ⊥
IsSome (name ∷ names) = Unit {0}

-- events within the one root, which is open
abbrev pub IsInside : List Event → Type 0
IsInside [] = ⊥
IsInside (Open name line ∷ before) = EndsInText before × ((before ≡ Text [] ∷ []) ⊎ IsInside before)
IsInside (Give name value ∷ before) = IsFresh before × IsInside before
IsInside (Text text ∷ before) = EndsInNoText before × IsInside before
IsInside (Close name ∷ before) = EndsInText before × (open_names before ≡ name ∷ drop 1 (open_names before))
    × IsSome (drop 1 (open_names before)) × IsInside before

-- within the root an element is open
pub some_open : (events : List Event) → IsInside events → IsSome (open_names events)
some_open [] inside = absurd inside
some_open (Open name line ∷ before) inside = tt
some_open (Give name value ∷ before) inside = some_open before inside.1
some_open (Text text ∷ before) inside = some_open before inside.1
some_open (Close name ∷ before) inside = inside.2

-- and the root is there
pub root_inside : (events : List Event) → IsInside events → has_root events ≡ true
root_inside [] inside = absurd inside
root_inside (Open name line ∷ before) inside = refl
root_inside (Give name value ∷ before) inside = root_inside before inside.1
root_inside (Text text ∷ before) inside = root_inside before inside.1
root_inside (Close name ∷ before) inside = root_inside before inside.3

-- a text keeps events within the root
pub inside_add_text : (text : List ℕ) (events : List Event) → IsInside events → IsInside (add_text text events)
inside_add_text text [] inside = absurd inside
inside_add_text text (Open name line ∷ before) inside = (tt, inside)
inside_add_text text (Give name value ∷ before) inside = (tt, inside)
inside_add_text text (Text first ∷ before) inside = inside
inside_add_text text (Close name ∷ before) inside = (tt, inside)

-- it is the last event then
pub text_added : (text : List ℕ) (events : List Event) → EndsInText (add_text text events)
text_added text [] = tt
text_added text (Open name line ∷ before) = tt
text_added text (Give name value ∷ before) = tt
text_added text (Text first ∷ before) = tt
text_added text (Close name ∷ before) = tt

-- and opens nothing
pub open_names_add_text : (text : List ℕ) (events : List Event) → open_names (add_text text events) ≡ open_names events
open_names_add_text text [] = refl
open_names_add_text text (Open name line ∷ before) = refl
open_names_add_text text (Give name value ∷ before) = refl
open_names_add_text text (Text first ∷ before) = refl
open_names_add_text text (Close name ∷ before) = refl

-- behind the last name nothing, behind another what follows
abbrev pub EndsOr : List (List ℕ) → Content → Type 0 → Type 0
EndsOr [] c further = c ≡ End
EndsOr (name ∷ names) c further = further

-- the contents that follow each open element: one for each, and nothing behind the root
abbrev pub EndsAt : List (List ℕ) → List Content → Type 0
EndsAt [] around = ⊥
EndsAt (name ∷ names) [] = ⊥
EndsAt (name ∷ names) (c ∷ around) = EndsOr names c (EndsAt names around)

-- behind a name that is not the last
ends_further : (names : List (List ℕ)) (c : Content) (further : Type 0) → IsSome names → EndsOr names c further
    → further
ends_further [] c further some ends = absurd some
ends_further (name ∷ names) c further some ends = ends

-- one more content, for an element that was closed
ends_closed : (names : List (List ℕ)) (c : Content) (around : List Content) → EndsAt (drop 1 names) around
    → EndsAt names (c ∷ around)
ends_closed [] c around ends = ends
ends_closed (name ∷ []) c around ends = absurd ends
ends_closed (name ∷ second ∷ names) c around ends = ends

-- the tree is one element
pub one_built : (events : List Event) (attributes : List Attribute) (c : Content) (around : List Content)
    → IsInside events → EndsAt (open_names events) around → IsOneElement (built events attributes (c ∷ around))
one_built [] attributes c around inside ends = absurd inside
one_built (Open name line ∷ before) attributes c [] inside ends = absurd ends
one_built (Open name line ∷ before) attributes c (rest ∷ around) inside ends =
    let element = Element name attributes 0 line c rest in
    let P : List Event → Type 0 = λ events. EndsOr (open_names events) rest (EndsAt (open_names events) around)
    → IsOneElement (built events [] (element ∷ around)) in
    elim inside.1 [
      | inl root ↦ subst P (sym root) (λ h. h) ends
      | inr within ↦ one_built before [] element around within
          (ends_further (open_names before) rest _ (some_open before within) ends)
    ]
one_built (Give name value ∷ before) attributes c around inside ends =
    one_built before (record { name = name; value = value } ∷ attributes) c around inside.1 ends
one_built (Text text ∷ before) attributes c around inside ends =
    one_built before attributes (text_then text c) around inside.1 ends
one_built (Close name ∷ before) attributes c around inside ends =
    one_built before [] End (c ∷ around) inside.3 (ends_closed (open_names before) c around ends)

-- each of some contents is written
abbrev pub AllWritten : List Content → Type 0
AllWritten [] = Unit {0}
AllWritten (c ∷ contents) = IsWritten c × AllWritten contents

-- a text may be put before a content that begins with none
text_written : (text : List ℕ) (c : Content) → begins_with_text c ≡ false → IsWritten c → IsWritten (text_then text c)
text_written [] c apart written = written
text_written (b ∷ text) c apart written = (refl, apart, refl, refl, written)

-- where an attribute may stand, no text is the last event
fresh_no_text : (events : List Event) → IsFresh events → EndsInNoText events
fresh_no_text [] fresh = tt
fresh_no_text (Open name line ∷ before) fresh = tt
fresh_no_text (Give name value ∷ before) fresh = tt
fresh_no_text (Text text ∷ before) fresh = fresh
fresh_no_text (Close name ∷ before) fresh = tt

-- no text of the tree is empty, and no two are neighbours
pub written_built : (events : List Event) (attributes : List Attribute) (c : Content) (around : List Content)
    → IsInside events → IsWritten c → AllWritten around → EndsInNoText events ⊎ (begins_with_text c ≡ false)
    → IsWritten (built events attributes (c ∷ around))
written_built [] attributes c around inside written all apart = absurd inside
written_built (Open name line ∷ before) attributes c [] inside written all apart = tt
written_built (Open name line ∷ before) attributes c (rest ∷ around) inside written all apart =
    let element = Element name attributes 0 line c rest in
    let P : List Event → Type 0 = λ events. IsWritten (built events [] (element ∷ around)) in
    elim inside.1 [
      | inl root ↦ subst P (sym root) (refl, written, all.0)
      | inr within ↦ written_built before [] element around within (refl, written, all.0) all.1 (inr refl)
    ]
written_built (Give name value ∷ before) attributes c around inside written all apart =
    written_built before (record { name = name; value = value } ∷ attributes) c around inside.1 written all
    (inl (fresh_no_text before inside.0))
written_built (Text text ∷ before) attributes c around inside written all apart =
    elim apart [
      | inl none ↦ absurd none
      | inr h ↦ written_built before attributes (text_then text c) around inside.1 (text_written text c h written) all
          (inl inside.0)
    ]
written_built (Close name ∷ before) attributes c around inside written all apart =
    written_built before [] End (c ∷ around) inside.3 tt (written, all) (inr refl)

-- what the events say once all that is open is closed, with these contents behind each
abbrev pub join : List (List ℕ) → List Content → List Event → List Event
join [] around before = before
join (name ∷ names) [] before = before
join (name ∷ names) (c ∷ around) before = join names around (says [] c (Close name ∷ before))

-- what they say with a content at the place
abbrev pub said : List Attribute → Content → List Event → List Event
said attributes c [] = says [] c (give_all attributes [])
said attributes c (Open name line ∷ before) = says [] c (give_all attributes (Open name line ∷ before))
said attributes c (Give name value ∷ before) = says [] c (give_all attributes (Give name value ∷ before))
said attributes c (Text text ∷ before) = says text c before
said attributes c (Close name ∷ before) = says [] c (give_all attributes (Close name ∷ before))

-- an element behind a text
said_element : (before : List Event) (name : List ℕ) (attributes : List Attribute) (line : ℕ) (inside rest : Content)
    → EndsInText before
    → said [] (Element name attributes 0 line inside rest) before
    ≡ says [] rest (Close name ∷ says [] inside (give_all attributes (Open name line ∷ before)))
said_element (Text text ∷ before) name attributes line inside rest ends = refl
said_element before name attributes line inside rest ends = absurd ends

-- an attribute of the element just opened
said_give : (before : List Event) (name value : List ℕ) (attributes : List Attribute) (c : Content) → IsFresh before
    → said (record { name = name; value = value } ∷ attributes) c before ≡ said attributes c (Give name value ∷ before)
said_give [] name value attributes c fresh = refl
said_give (Open given line ∷ before) name value attributes c fresh = refl
said_give (Give given first ∷ before) name value attributes c fresh = refl
said_give (Text text ∷ before) name value attributes c fresh = absurd fresh
said_give (Close given ∷ before) name value attributes c fresh = refl

-- a text that was put before is said first
says_text : (text : List ℕ) (c : Content) (before : List Event) → says [] (text_then text c) before ≡ says text c before
says_text [] c before = refl
says_text (b ∷ text) c before = refl

-- the same where no text has been said
said_text : (before : List Event) (text : List ℕ) (c : Content) → EndsInNoText before
    → said [] (text_then text c) before ≡ says text c before
said_text [] text c none = says_text text c []
said_text (Open name line ∷ before) text c none = says_text text c (Open name line ∷ before)
said_text (Give name value ∷ before) text c none = says_text text c (Give name value ∷ before)
said_text (Text first ∷ before) text c none = absurd none
said_text (Close name ∷ before) text c none = says_text text c (Close name ∷ before)

-- the end says only the text at hand
pub said_end : (before : List Event) → EndsInText before → said [] End before ≡ before
said_end (Text text ∷ before) ends = refl
said_end before ends = absurd ends

-- an element is closed
join_closed : (names : List (List ℕ)) (name : List ℕ) (c : Content) (around : List Content) (before : List Event)
    → names ≡ name ∷ drop 1 names → join names (c ∷ around) before
    ≡ join (drop 1 names) around (says [] c (Close name ∷ before))
join_closed [] name c around before e = absurd cc
join_closed (first ∷ names) name c around before e = let same : first ≡ name = cc
    in ap (λ (n : List ℕ). join names around (says [] c (Close n ∷ before))) same

-- attributes at hand belong to an element just opened
abbrev pub MayGive : List Attribute → List Event → Type 0
MayGive [] before = Unit {0}
MayGive (attribute ∷ attributes) before = IsFresh before

-- the tree says what the events say
pub says_built : (events : List Event) (attributes : List Attribute) (c : Content) (around : List Content)
    → IsInside events → MayGive attributes events → EndsAt (open_names events) around
    → says [] (built events attributes (c ∷ around)) [] ≡ join (open_names events) around (said attributes c events)
says_built [] attributes c around inside may ends = absurd inside
says_built (Open name line ∷ before) attributes c [] inside may ends = absurd ends
says_built (Open name line ∷ before) attributes c (rest ∷ around) inside may ends =
    let element = Element name attributes 0 line c rest in
    let P : List Event → Type 0 = λ events. says [] (built events [] (element ∷ around)) []
    ≡ join (open_names events) around (said [] element events) in
    let step : P before = elim inside.1 [
      | inl root ↦ subst P (sym root) refl
      | inr within ↦ says_built before [] element around within tt
          (ends_further (open_names before) rest _ (some_open before within) ends)
    ] in
    step ∙ ap (join (open_names before) around) (said_element before name attributes line c rest inside.0)
says_built (Give name value ∷ before) attributes c around inside may ends =
    says_built before (record { name = name; value = value } ∷ attributes) c around inside.1 inside.0 ends
    ∙ ap (join (open_names before) around) (said_give before name value attributes c inside.0)
says_built (Text text ∷ before) [] c around inside may ends =
    says_built before [] (text_then text c) around inside.1 tt ends
    ∙ ap (join (open_names before) around) (said_text before text c inside.0)
says_built (Text text ∷ before) (attribute ∷ attributes) c around inside may ends = absurd may
says_built (Close name ∷ before) [] c around inside may ends =
    says_built before [] End (c ∷ around) inside.3 tt (ends_closed (open_names before) c around ends)
    ∙ (join_closed (open_names before) name c around (said [] End before) inside.1
    ∙ ap (λ (events : List Event). join (drop 1 (open_names before)) around (says [] c (Close name ∷ events)))
    (said_end before inside.0))
says_built (Close name ∷ before) (attribute ∷ attributes) c around inside may ends = absurd may
