-- The elements that pushes replace.
use Rattle.std.specs.Prelude.{◌≡◌, ◌==◌, ◌||◌, ◌&&◌, Bool, true, false, List, [], ◌∷◌, ◌++◌, bytes_eq, cond, not}
use Rattle.std.specs.BTreeSet as set
use Rattle.std.specs.Cmp.{tied_then, unsigned_tied}
use Rattle.std.specs.Cmp.Lexicographic.{slice_cmp, texts_ties}
use Rattle.std.specs.Bool.{OnFalse}
use Rattle.std.specs.List.{list_any}
use Rattle.std.specs.Ordering.{is_eq, nat_cmp}
use Rattle.std.proofs.Common.{refl, sym, ap, ◌∙◌}
use Rattle.std.proofs.lemmas.List.Folds.{list_any-append}
use Rattle.dita_doc.specs.declared.content.PushKind.{PushKind}
use Rattle.dita_doc.specs.declared.fault.Fault.{Fault}
use Rattle.dita_doc.proofs.Tests.{and_assoc, cond_or, number_swaps, or_last, text_swaps}
use Rattle.map_spec.specs.Pushes.{AllPushes, PushInto, is_replace, is_replaced_by}
use Rattle.conref_push.specs.Gathered.{AreReplaced, replaces, with_fault}
use Rattle.conref_push.specs.Targets.{IsNoted, target_cmp}
use Rattle.conref_push.specs.declared.target_docs.PushTarget as code
use Rattle.conref_push.specs.declared.target_docs.Targets.{Targets}

-- two targets are the same element
pub same_target : (one other : code.PushTarget)
    → is_eq (target_cmp one other) ≡ (bytes_eq other.doc one.doc && (other.place == one.place))
same_target one other = sym (tied_then (slice_cmp nat_cmp one.doc other.doc) (nat_cmp one.place other.place))
    ∙ ap (λ b. b && is_eq (nat_cmp one.place other.place))
    (sym (texts_ties one.doc other.doc) ∙ text_swaps one.doc other.doc)
    ∙ ap (λ b. bytes_eq other.doc one.doc && b)
    (unsigned_tied one.place other.place ∙ number_swaps one.place other.place)

never : (into : PushInto) (made : List PushInto) → is_replace into.push.kind ≡ false
    → list_any (is_replaced_by into) made ≡ false
never into [] none = refl
never into (first ∷ made) none = rw (none, never into made none) refl

each_same : {X : Type 0} (test other : X → Bool) (xs : List X) → ((x : X) → test x ≡ other x)
    → list_any test xs ≡ list_any other xs
each_same test other [] same = refl
each_same test other (x ∷ xs) same = rw (same x, each_same test other xs same) refl

-- what replaces the element that a push replaces
pub replaced_by : (into : PushInto) (target : code.PushTarget) (made : List PushInto) → into.doc ≡ target.doc
    → into.push.at ≡ target.place
    → list_any (is_replaced_by into) made ≡ (is_replace into.push.kind && list_any (replaces target) made)
replaced_by into target made doc at = by_test (is_replace into.push.kind) refl
  where
    by_test : (test : Bool) → is_replace into.push.kind ≡ test
        → list_any (is_replaced_by into) made ≡ (test && list_any (replaces target) made)
    by_test true is = each_same (is_replaced_by into) (replaces target) made (λ other. rw (is, doc, at) refl)
    by_test false is = never into made is

-- a push more was noted
pub noted_push : (all : AllPushes) (old new : Targets) (kind : PushKind) (target : code.PushTarget) (into : PushInto)
    → AreReplaced all old → IsNoted kind target false old.replaced new.replaced → into.push.kind ≡ kind
    → into.doc ≡ target.doc → into.push.at ≡ target.place
    → AreReplaced (record all { made = all.made ++ into ∷ [] }) new
noted_push all old new kind target into replaced noted is doc at = λ other.
    let own : ((is_replace kind && bytes_eq other.doc target.doc) && (other.place == target.place))
    ≡ replaces other into =
    rw (is, doc, at) refl in
    let mine : (is_replace kind && is_eq (target_cmp target other)) ≡ replaces other into =
    ap (λ b. is_replace kind && b) (same_target target other)
    ∙ and_assoc (is_replace kind) (bytes_eq other.doc target.doc) (other.place == target.place) ∙ own in
    noted.each other
    ∙ ap (λ b. b || set.contains target_cmp old.replaced other) mine
    ∙ ap (λ b. replaces other into || b) (replaced other)
    ∙ or_last (replaces other into) (list_any (replaces other) all.made)
    ∙ sym (list_any-append (replaces other) all.made (into ∷ []))

-- one that is dropped was noted
pub noted_twice : (all : AllPushes) (old new : Targets) (kind : PushKind) (target : code.PushTarget) (fault : Fault)
    → AreReplaced all old → IsNoted kind target true old.replaced new.replaced
    → AreReplaced (with_fault all fault) new
noted_twice all old new kind target fault replaced noted = λ other. noted.each other ∙ replaced other

-- the set was asked whether it has the element, and has it then
pub noted_by : (kind : PushKind) (old new : set.BTreeSet code.PushTarget) (key target : code.PushTarget) (added : Bool)
    → true ≡ is_replace kind → key ≡ target
    → ((q : code.PushTarget) → set.contains target_cmp new q
    ≡ cond (is_eq (target_cmp key q)) true (set.contains target_cmp old q))
    → (added ≡ false → new.keys ≡ old.keys)
    → IsNoted kind target (not added) old new
noted_by kind old new key target true replaces_it same updates kept = record {
  each = λ other. updates other
      ∙ ap (λ k. cond (is_eq (target_cmp k other)) true (set.contains target_cmp old other)) same
      ∙ cond_or (is_eq (target_cmp target other)) (set.contains target_cmp old other)
      ∙ ap (λ b. (b && is_eq (target_cmp target other)) || set.contains target_cmp old other) replaces_it;
}
noted_by kind old new key target false replaces_it same updates kept = record {
  each = λ other. rw (kept refl) refl;
}

not_not : (b : Bool) → not (not b) ≡ b
not_not true = refl
not_not false = refl

pub told_by : (kind : PushKind) (old : set.BTreeSet code.PushTarget) (key target : code.PushTarget) (added : Bool)
    → true ≡ is_replace kind → key ≡ target → added ≡ not (set.contains target_cmp old key)
    → not added ≡ (is_replace kind && set.contains target_cmp old target)
told_by kind old key target added replaces_it same told = ap not told
    ∙ not_not (set.contains target_cmp old key)
    ∙ ap (set.contains target_cmp old) same
    ∙ ap (λ b. b && set.contains target_cmp old target) replaces_it

pub if_kept : (added : Bool) (P : Type 0) → OnFalse added P → added ≡ false → P
if_kept true P kept is = cc
if_kept false P kept is = kept

pub not_noted : (kind : PushKind) (target : code.PushTarget) (old : set.BTreeSet code.PushTarget)
    → false ≡ is_replace kind → IsNoted kind target false old old
not_noted kind target old other_kind = record {
  each = λ other. ap (λ b. (b && is_eq (target_cmp target other)) || set.contains target_cmp old other) other_kind;
}

pub not_told : (kind : PushKind) (target : code.PushTarget) (old : set.BTreeSet code.PushTarget)
    → false ≡ is_replace kind → false ≡ (is_replace kind && set.contains target_cmp old target)
not_told kind target old other_kind = ap (λ b. b && set.contains target_cmp old target) other_kind
