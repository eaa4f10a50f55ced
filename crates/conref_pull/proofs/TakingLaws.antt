-- What an element takes from targets one after another, the nearest first, is what it takes from the nearest once that one
-- has taken from those behind it.
use Rattle.std.specs.Prelude.{◌≡◌, ◌&&◌, ◌||◌, ◌++◌, ◌-◌, ℕ, Bool, true, false, not, List, [], ◌∷◌, Result, Ok, Err, IfOk, bytes_eq, codes, filter, is_some, if◌then◌else◌}
use Rattle.std.proofs.Common.{refl, sym, ap, subst, ◌∙◌, append_assoc, arith, length}
use Rattle.std.proofs.lemmas.Bool.{true≢false}
use Rattle.std.proofs.lemmas.List.Elements.{filter-append}
use Rattle.std.proofs.lemmas.Slice.Eq.{bytes_eq-Decides}
use Rattle.dita_doc.specs.ClassValue.{value_of}
use Rattle.dita_doc.specs.Tree.{has_href}
use Rattle.dita_doc.specs.declared.doc.Attribute.{Attribute}
use Rattle.dita_doc.specs.declared.stop.NoMemory.{NoMemory}
use Rattle.dita_doc.proofs.Tests.{and_false, and_true}
use Rattle.map_spec.specs.Written.{Element}
use Rattle.conref_spec.specs.Content.{Place, merged_element, specified}
use Rattle.conref_pull.specs.Linked.{AreLinks, IsLink}
use Rattle.conref_pull.specs.Merging.{AreAlike, IsMerged, TakesAll, is_given, is_missing, is_specified, is_taken, own_part, part_of, taking}
use Rattle.conref_pull.specs.Step.{Taken, merged_onto}
use Rattle.conref_pull.specs.declared.chain.TakenTarget.{TakenTarget}
use Rattle.conref_pull.specs.declared.merge.Merged.{Merged}
use Rattle.conref_pull.proofs.MergeLaws.{filter_both, missing_taken}

-- Names among attributes

abbrev pub has : List ℕ → List Attribute → Bool
has name all = is_some (value_of name all)

pub has_append : (name : List ℕ) (front back : List Attribute)
    → has name (front ++ back) ≡ (has name front || has name back)
has_append name [] back = refl
has_append name (one ∷ front) back = by_test (bytes_eq one.name name) refl (has_append name front back)
  where
    by_test : (test : Bool) → bytes_eq one.name name ≡ test
        → has name (front ++ back) ≡ (has name front || has name back)
        → has name ((one ∷ front) ++ back) ≡ (has name (one ∷ front) || has name back)
    by_test true same more = rw same refl
    by_test false same more = rw same more

missing_by : (own : List Attribute) (one : Attribute) (name : List ℕ) → one.name ≡ name → is_taken name ≡ true
    → has name own ≡ false → is_missing own one ≡ true
missing_by own one name is taken none =
    ap (λ (n : List ℕ). is_taken n && not (has n own)) is ∙ rw (taken, none) refl

-- a name that is kept stays
pub has_kept : (keep : Attribute → Bool) (name : List ℕ) → ((one : Attribute) → one.name ≡ name → keep one ≡ true)
    → (all : List Attribute) → has name (filter keep all) ≡ has name all
has_kept keep name keeps [] = refl
has_kept keep name keeps (one ∷ all) =
    by_tests (bytes_eq one.name name) (keep one) refl refl (has_kept keep name keeps all)
  where
    by_tests : (same kept : Bool) → bytes_eq one.name name ≡ same → keep one ≡ kept
        → has name (filter keep all) ≡ has name all
        → has name (filter keep (one ∷ all)) ≡ has name (one ∷ all)
    by_tests true true s k more = rw (k, s) refl
    by_tests true false s k more =
        absurd (true≢false (sym (keeps one ((bytes_eq-Decides one.name name).0 s)) ∙ k))
    by_tests false true s k more = rw (k, s) more
    by_tests false false s k more = rw (k, s) more

-- a name that an element takes, and has not, stays among those that it has not
pub has_left : (own : List Attribute) (name : List ℕ) (all : List Attribute) → is_taken name ≡ true
    → has name own ≡ false → has name (filter (is_missing own) all) ≡ has name all
has_left own name all taken none =
    has_kept (is_missing own) name (λ one is. missing_by own one name is taken none) all

-- Tests

filter_same : (p q : Attribute → Bool) → ((one : Attribute) → p one ≡ q one) → (all : List Attribute)
    → filter p all ≡ filter q all
filter_same p q same [] = refl
filter_same p q same (one ∷ all) =
    rw (same one) (ap (λ (more : List Attribute). if q one then one ∷ more else more) (filter_same p q same all))

-- what neither has is what both together have not
neither : (own all : List Attribute) (other : Attribute)
    → (is_missing all other && is_missing own other) ≡ is_missing (own ++ filter (is_missing own) all) other
neither own all other = by_tests (is_taken other.name) (has other.name own) refl refl
  where
    by_tests : (taken there : Bool) → is_taken other.name ≡ taken → has other.name own ≡ there
        → (is_missing all other && is_missing own other) ≡ is_missing (own ++ filter (is_missing own) all) other
    by_tests false there t h = rw t refl
    by_tests true true t h = rw (t, has_append other.name own (filter (is_missing own) all), h)
        (and_false (not (has other.name all)))
    by_tests true false t h = rw (t, has_append other.name own (filter (is_missing own) all), h, has_left own other.name all t h)
        (and_true (not (has other.name all)))

taken_both : (own all more : List Attribute)
    → own ++ filter (is_missing own) (all ++ filter (is_missing all) more)
    ≡ (own ++ filter (is_missing own) all) ++ filter (is_missing (own ++ filter (is_missing own) all)) more
taken_both own all more =
    ap (λ (rest : List Attribute). own ++ rest) (filter-append (is_missing own) all (filter (is_missing all) more)
    ∙ ap (λ (rest : List Attribute). filter (is_missing own) all ++ rest)
    (filter_both (is_missing all) (is_missing own) more
    ∙ filter_same (λ (one : Attribute). is_missing all one && is_missing own one)
    (is_missing (own ++ filter (is_missing own) all)) (neither own all) more))
    ∙ sym (append_assoc own (filter (is_missing own) all) (filter (is_missing (own ++ filter (is_missing own) all)) more))

-- The document of the href

abbrev chosen : Bool → List ℕ → List ℕ → List ℕ
chosen takes target own = if takes then target else own

href_both : (own all more : List Attribute) (mine near far : List ℕ)
    → chosen (not (has_href own) && has_href (all ++ filter (is_missing all) more))
    (chosen (not (has_href all) && has_href more) far near) mine
    ≡ chosen (not (has_href (own ++ filter (is_missing own) all)) && has_href more) far
    (chosen (not (has_href own) && has_href all) near mine)
href_both own all more mine near far = by_tests (has_href own) (has_href all) refl refl
  where
    twice : (x : Bool) → chosen x (chosen x far near) mine ≡ chosen x far mine
    twice true = refl
    twice false = refl

    by_tests : (o s : Bool) → has_href own ≡ o → has_href all ≡ s
        → chosen (not (has_href own) && has_href (all ++ filter (is_missing all) more))
        (chosen (not (has_href all) && has_href more) far near) mine
        ≡ chosen (not (has_href (own ++ filter (is_missing own) all)) && has_href more) far
        (chosen (not (has_href own) && has_href all) near mine)
    by_tests true s o_is s_is = rw (has_append (codes "href") own (filter (is_missing own) all), o_is) refl
    by_tests false true o_is s_is = rw (
      has_append (codes "href") all (filter (is_missing all) more),
      has_append (codes "href") own (filter (is_missing own) all),
      has_left own (codes "href") all refl o_is,
      o_is,
      s_is,
    ) refl
    by_tests false false o_is s_is = rw (
      has_append (codes "href") all (filter (is_missing all) more),
      has_append (codes "href") own (filter (is_missing own) all),
      has_left own (codes "href") all refl o_is,
      has_left all (codes "href") more refl s_is,
      o_is,
      s_is,
    ) (twice (has_href more))

-- Elements

pub alike_then : (one other third : Element) → AreAlike one other → AreAlike other third → AreAlike one third
alike_then one other third first second =
    record { attributes = first.attributes ∙ second.attributes; href_doc = first.href_doc ∙ second.href_doc }

pub alike_same : (one : Element) → AreAlike one one
alike_same one = record { attributes = refl; href_doc = refl }

alike_back : (one other : Element) → AreAlike one other → AreAlike other one
alike_back one other alike = record { attributes = sym alike.attributes; href_doc = sym alike.href_doc }

pub merged_alike : (merged : Merged) (one other : Element) → IsMerged merged one → AreAlike one other
    → IsMerged merged other
merged_alike merged one other is alike =
    record { attributes = is.attributes ∙ alike.attributes; href_doc = is.href_doc ∙ alike.href_doc }

pub merged_parts : (target more : Element) → (merged_element target more).attributes
    ≡ specified target.attributes ++ filter (is_missing (specified target.attributes)) more.attributes
merged_parts target more = ap (λ (rest : List Attribute). specified target.attributes ++ rest)
    (sym (missing_taken (specified target.attributes) more.attributes))

-- an element takes what it does not leave to its target with it
pub taking_merged : (element target : Element) → AreAlike (taking (own_part element) target) (merged_element element target)
taking_merged element target =
    record { attributes = sym (merged_parts element target); href_doc = refl }

-- the nearer target first
pub taking_both : (own target more : Element)
    → AreAlike (taking own (merged_element target more)) (taking (taking own (own_part target)) more)
taking_both own target more = record {
  attributes = ap (λ (all : List Attribute). own.attributes ++ filter (is_missing own.attributes) all)
      (merged_parts target more)
      ∙ taken_both own.attributes (specified target.attributes) more.attributes;
  href_doc = ap (λ (all : List Attribute). chosen (not (has_href own.attributes) && has_href all)
      (merged_element target more).href_doc own.href_doc) (merged_parts target more)
      ∙ href_both own.attributes (specified target.attributes) more.attributes own.href_doc target.href_doc more.href_doc;
}

-- what a target gives, by the attributes that are missing
pub taken_up : (leaves : Bool) (merged before : Merged) (own target : Element) (more : List Attribute) (takes : Bool)
    (href : List ℕ) → IsMerged before own → more ≡ filter (is_given leaves before.attributes) target.attributes
    → takes ≡ (not (has_href before.attributes) && has_href more)
    → href ≡ (if takes then target.href_doc else before.href_doc)
    → merged.attributes ≡ before.attributes ++ more → merged.href_doc ≡ href
    → IsMerged merged (taking own (part_of leaves target))
taken_up leaves merged before own target more takes href is more_is takes_is href_is attributes doc = by_part leaves more_is
  where
    by_all : (part : Element) → part.href_doc ≡ target.href_doc
        → more ≡ filter (is_missing before.attributes) part.attributes → IsMerged merged (taking own part)
    by_all part same parts = record {
      attributes = attributes ∙ ap (λ (rest : List Attribute). before.attributes ++ rest) parts
          ∙ ap (λ (all : List Attribute). all ++ filter (is_missing all) part.attributes) is.attributes;
      href_doc = doc ∙ href_is
          ∙ ap (λ (test : Bool). chosen test target.href_doc before.href_doc)
          (takes_is ∙ ap (λ (all : List Attribute). not (has_href before.attributes) && has_href all) parts
          ∙ by_href (has_href before.attributes) refl)
          ∙ ap (λ (name : List ℕ). chosen (not (has_href before.attributes) && has_href part.attributes) name before.href_doc)
          (sym same)
          ∙ ap (λ (name : List ℕ). chosen (not (has_href before.attributes) && has_href part.attributes) part.href_doc name)
          is.href_doc
          ∙ ap (λ (all : List Attribute). chosen (not (has_href all) && has_href part.attributes) part.href_doc own.href_doc)
          is.attributes;
    }
      where
        by_href : (test : Bool) → has_href before.attributes ≡ test
            → (not (has_href before.attributes) && has_href (filter (is_missing before.attributes) part.attributes))
            ≡ (not (has_href before.attributes) && has_href part.attributes)
        by_href true e = rw e refl
        by_href false e = rw (e, has_left before.attributes (codes "href") part.attributes refl e) refl

    by_part : (test : Bool) → more ≡ filter (is_given test before.attributes) target.attributes
        → IsMerged merged (taking own (part_of test target))
    by_part true parts = by_all (own_part target) refl
        (parts ∙ sym (filter_both is_specified (is_missing before.attributes) target.attributes))
    by_part false parts = by_all target refl parts

-- Targets one after another, the last of them first

pub merged_last : (far : Element) (front : List Taken) (last : Taken)
    → merged_onto far (front ++ last ∷ []) ≡ merged_element last.element (merged_onto far front)
merged_last far [] last = refl
merged_last far (one ∷ front) last = merged_last (merged_element one.element far) front last

record LastLink (path : List Place) (end : ℕ) (taken : List Taken) (links : List TakenTarget)
    (link : TakenTarget) : Type 0 where
  front : List Taken
  last : Taken
  is : taken ≡ front ++ last ∷ []
  linked : AreLinks path end front links
  here : IsLink link last

last_link : (path : List Place) (end : ℕ) (taken : List Taken) (links : List TakenTarget) (link : TakenTarget)
    → AreLinks path end taken (links ++ link ∷ []) → LastLink path end taken links link
last_link path end [] [] link linked = absurd linked
last_link path end [] (one ∷ links) link linked = absurd linked
last_link path end (one ∷ []) [] link linked =
    record { front = []; last = one; is = refl; linked = tt; here = linked.0 }
last_link path end (one ∷ (other ∷ more)) [] link linked = absurd linked.2
last_link path end (one ∷ taken) (first ∷ links) link linked =
    let behind = last_link path (end - 1) taken links link linked.2 in
    record {
      front = one ∷ behind.front;
      last = behind.last;
      is = ap (λ (all : List Taken). one ∷ all) behind.is;
      linked = (linked.0, linked.1, behind.linked);
      here = behind.here;
    }

-- On the way from the nearest target to the farthest

pub record OnTheWay (merged : Merged) (left : List TakenTarget) (own : Element) (taken : List Taken) : Type 0 where
  pub so_far : Element
  pub is : IsMerged merged so_far
  pub path : List Place
  pub end : ℕ
  pub rest : List Taken
  pub linked : AreLinks path end rest left
  pub alike : (far : Element) → AreAlike (taking so_far (merged_onto far rest)) (taking own (merged_onto far taken))

no_links : (left : List TakenTarget) → length left ≡ 0 → left ≡ []
no_links [] none = refl
no_links (link ∷ left) none = absurd (omega arith)

pub way_end : (merged : Merged) (left : List TakenTarget) (own : Element) (taken : List Taken) → length left ≡ 0
    → OnTheWay merged left own taken → TakesAll merged own taken
way_end merged left own taken none way =
    by_rest way.rest (subst (AreLinks way.path way.end way.rest) (no_links left none) way.linked) way.alike
  where
    by_rest : (rest : List Taken) → AreLinks way.path way.end rest []
        → ((far : Element) → AreAlike (taking way.so_far (merged_onto far rest)) (taking own (merged_onto far taken)))
        → TakesAll merged own taken
    by_rest [] linked alike = record { made = way.so_far; is = way.is; alike = alike }
    by_rest (one ∷ rest) linked alike = absurd linked

pub way_on : (merged next : Merged) (left others : List TakenTarget) (link : TakenTarget) (own : Element)
    (taken : List Taken)
    → left ≡ others ++ link ∷ [] → OnTheWay merged left own taken
    → ((element : Element) (one : Taken) → IsMerged merged element → IsLink link one
    → IsMerged next (taking element (own_part one.element)))
    → OnTheWay next others own taken
way_on merged next left others link own taken is way takes =
    let last = last_link way.path way.end way.rest others link (subst (AreLinks way.path way.end way.rest) is way.linked) in
    record {
      so_far = taking way.so_far (own_part last.last.element);
      is = takes way.so_far last.last way.is last.here;
      path = way.path;
      end = way.end;
      rest = last.front;
      linked = last.linked;
      alike = λ far.
          let near = merged_onto far last.front in
          let whole = taking way.so_far (merged_element last.last.element near) in
          alike_then (taking (taking way.so_far (own_part last.last.element)) near) whole
          (taking own (merged_onto far taken))
          (alike_back whole (taking (taking way.so_far (own_part last.last.element)) near)
          (taking_both way.so_far last.last.element near))
          (subst (λ (all : Element). AreAlike (taking way.so_far all) (taking own (merged_onto far taken)))
          (ap (merged_onto far) last.is ∙ merged_last far last.front last.last) (way.alike far));
    }

-- what an element takes from all targets, the farthest last
pub all_taken : (result : Result Merged NoMemory) (element far : Element) (taken : List Taken) (made : Element)
    → ((target : Element) → AreAlike (taking made target) (taking (own_part element) (merged_onto target taken)))
    → IfOk result (λ merged. IsMerged merged (taking made far))
    → IfOk result (λ merged. IsMerged merged (merged_element element (merged_onto far taken)))
all_taken (Ok merged) element far taken made alike is =
    let whole = merged_onto far taken in
    merged_alike merged (taking made far) (merged_element element whole) is
    (alike_then (taking made far) (taking (own_part element) whole) (merged_element element whole) (alike far)
    (taking_merged element whole))
all_taken (Err error) element far taken made alike is = tt
