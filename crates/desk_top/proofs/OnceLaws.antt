-- What a session builds stands at places of its own, each behind the one before; so no place is built twice.
use Rattle.std.proofs.Common.{◌≡◌, ◌≢◌, ◌<◌, ◌≤◌, ◌+◌, ◌++◌, ℕ, suc, List, [], ◌∷◌, Option, Some, All, AllPairs, length, map, refl, sym, ap, ◌∙◌, subst, arith}
use Rattle.std.specs.List.{slice_get}
use Rattle.std.proofs.lemmas.List.{map-append}
use Rattle.std.proofs.lemmas.List.Elements.{All-append, All-nil, All-push, All-tail, All-weaker}
use Rattle.std.proofs.lemmas.List.Kept.{AllPairs-cons}
use Rattle.std.proofs.lemmas.Option.{same_Some, slice_get_within}
use Rattle.dita_doc.specs.Desk.{Reply}
use Rattle.dita_doc.specs.History.{Entry}
use Rattle.dita_doc.specs.Request.{Request}
use Rattle.dita_outside.specs.Pages.{Pages}
use Rattle.run_spec.specs.Language.{dita}
use Rattle.desk_lock.specs.Calls.{Appends}
use Rattle.desk_lock.specs.Lists.{StartsWith}
use Rattle.desk_lock.specs.Meaning.{Meaning}
use Rattle.desk_lock.specs.Past.{IsMade}
use Rattle.desk_lock.specs.declared.view.View.{View}
use Rattle.desk_work.specs.Build.{BuildOrder, EndsBuilt}
use Rattle.desk_work.specs.declared.built.Built.{Built}
use Rattle.desk_work.proofs.Lists.{starts_then}
use Rattle.desk_top.specs.Asked.{IsBefore}
use Rattle.desk_top.specs.Served.{HasBuilt, built_by, places_of, together}
use Rattle.desk_top.specs.declared.callers.BuiltAt.{BuiltAt}
use Rattle.desk_top.specs.declared.callers.Caller.{Caller}
use Rattle.desk_top.proofs.AskedLaws.{at_start, pairs_none, pairs_push}

-- A session

made_later : (log first : List Entry) (session : ℕ) (places : List ℕ) → StartsWith log first
    → All (λ place. IsMade first place session) places → All (λ place. IsMade log place session) places
made_later log first session places starts all =
    All-weaker (λ place. IsMade first place session) (λ place. IsMade log place session)
    (λ place made. (made.0, at_start log first place made.0 starts made.1, made.2)) places all

pub built_none : (w : View) → HasBuilt w []
built_none w = record { own = All-nil (λ place. IsMade w.seen place w.session); rise = pairs_none IsBefore }

pub built_later : (v w : View) (built : List ℕ) → w.session ≡ v.session → StartsWith w.seen v.seen → HasBuilt v built
    → HasBuilt w built
built_later v w built session starts has = record {
  own = subst (λ of. All (λ place. IsMade w.seen place of) built) (sym session)
      (made_later w.seen v.seen v.session built starts has.own);
  rise = has.rise;
}

pub built_asked : (v w : View) (built : List ℕ) (number place : ℕ) (asked : Request) (answer : Reply)
    → Appends v number asked answer place w → HasBuilt v built → HasBuilt w built
built_asked v w built number place asked answer appends has =
    built_later v w built (ap (λ (u : View). u.session) appends.knows) appends.later has

-- one more, which stands behind all that was seen
built_push : (v w : View) (built : List ℕ) (place : ℕ) → w.session ≡ v.session → StartsWith w.seen v.seen
    → length v.seen ≤ place → IsMade w.seen place v.session → HasBuilt v built → HasBuilt w (built ++ place ∷ [])
built_push v w built place session starts behind made has =
    let all = built_later v w built session starts has in
    record {
      own = All-push (λ other. IsMade w.seen other w.session) built place all.own
          (subst (λ of. IsMade w.seen place of) (sym session) made);
      rise = pairs_push IsBefore built place has.rise (All-weaker (λ other. IsMade v.seen other v.session)
          (λ other. other < place)
          (λ other is. let within = slice_get_within v.seen other is.0 is.1 in omega (arith, within, behind)) built has.own);
    }

pub built_more : (means : Meaning) (v w : View) (order : BuildOrder) (one : Built) (old new : Option Pages)
    (built more : List BuiltAt) → EndsBuilt means dita v order one w old new
    → more ≡ built ++ record { place = one.place; outcome = one.outcome } ∷ [] → HasBuilt v (places_of built)
    → HasBuilt w (places_of more)
built_more means v w order one old new built more ends pushed has =
    let appends = ends.stood.begun.appends in
    let worked = ends.stood.progress.worked in
    let between = ends.stood.between in
    let this : BuiltAt = record { place = one.place; outcome = one.outcome } in
    let places : places_of more ≡ places_of built ++ one.place ∷ [] =
    ap places_of pushed ∙ map-append (λ (other : BuiltAt). other.place) built (this ∷ []) in
    subst (HasBuilt w) (sym places)
    (built_push v w (places_of built) one.place (worked.session ∙ ap (λ (u : View). u.session) appends.knows)
    (starts_then w.seen between.seen v.seen worked.seen appends.later) appends.behind
    (_, at_start w.seen between.seen one.place _ worked.seen appends.entry, refl) has)

-- All sessions

pairs_append : {X : Type 0} (R : X → X → Type 0) (xs ys : List X) → AllPairs R xs → AllPairs R ys
    → All (λ x. All (R x) ys) xs → AllPairs R (xs ++ ys)
pairs_append R [] ys first second between = second
pairs_append R (x ∷ xs) ys first second between = AllPairs-cons R x (xs ++ ys)
    (All-append (R x) xs ys (λ k d within. first 0 (suc k) d (omega arith) (omega (arith, within)))
    (between 0 x (omega arith)))
    (pairs_append R xs ys (λ i j d before within. first (suc i) (suc j) d (omega (arith, before)) (omega (arith, within)))
    second (All-tail (λ z. All (R z) ys) x xs between))

abbrev Differ : ℕ → ℕ → Type 0
Differ place other = place ≢ other

-- a place of one of these sessions or of a later one
abbrev IsOfLater : List Entry → ℕ → ℕ → Type 0
IsOfLater log from place = (session : ℕ) × (from ≤ session) × IsMade log place session

-- a caller of this session has built here
record BuiltHere (log : List Entry) (number : ℕ) (caller : Caller) : Type 0 where
  own : All (λ place. IsMade log place number) (places_of (built_by caller).items)
  rise : AllPairs IsBefore (places_of (built_by caller).items)

abbrev BuildHere : List Entry → ℕ → List Caller → Type 0
BuildHere log from callers = (k : ℕ) (caller : Caller) → slice_get callers k ≡ Some caller
    → BuiltHere log (k + from) caller

build_behind : (log : List Entry) (from : ℕ) (caller : Caller) (callers : List Caller)
    → BuildHere log from (caller ∷ callers) → BuildHere log (from + 1) callers
build_behind log from caller callers all k other e =
    subst (λ number. BuiltHere log number other) (omega arith) (all (suc k) other e)

build_first : (log : List Entry) (from : ℕ) (caller : Caller) (callers : List Caller)
    → BuildHere log from (caller ∷ callers) → BuiltHere log from caller
build_first log from caller callers all =
    let same : 0 + from ≡ from = omega arith in subst (λ number. BuiltHere log number caller) same (all 0 caller refl)

abbrev places_together : List Caller → List ℕ
places_together callers = places_of (together (map built_by callers))

places_first : (caller : Caller) (callers : List Caller)
    → places_together (caller ∷ callers) ≡ places_of (built_by caller).items ++ places_together callers
places_first caller callers =
    map-append (λ (one : BuiltAt). one.place) (built_by caller).items (together (map built_by callers))

all_later : (log : List Entry) (from : ℕ) (callers : List Caller) → BuildHere log from callers
    → All (IsOfLater log from) (places_together callers)
all_later log from [] all = All-nil (IsOfLater log from)
all_later log from (caller ∷ callers) all =
    subst (All (IsOfLater log from)) (sym (places_first caller callers))
    (All-append (IsOfLater log from) (places_of (built_by caller).items) (places_together callers)
    (All-weaker (λ place. IsMade log place from) (IsOfLater log from) (λ place made. (from, omega arith, made))
    (places_of (built_by caller).items) (build_first log from caller callers all).own)
    (All-weaker (IsOfLater log (from + 1)) (IsOfLater log from)
    (λ place later. (later.0, omega (arith, later.1), later.2)) (places_together callers)
    (all_later log (from + 1) callers (build_behind log from caller callers all))))

two_sessions : (log : List Entry) (from place other : ℕ) → IsMade log place from → IsOfLater log (from + 1) other
    → Differ place other
two_sessions log from place other made later same =
    let there = subst (λ p. slice_get log p ≡ Some made.0) same made.1 in
    let behind : IsMade log other later.0 = later.2 in
    let one = same_Some made.0 behind.0 (sym there ∙ behind.1) in
    let sessions = ap (λ (entry : Entry). entry.session) one in
    omega (arith, sessions, made.2, later.1, behind.2)

build_once : (log : List Entry) (from : ℕ) (callers : List Caller) → BuildHere log from callers
    → AllPairs Differ (places_together callers)
build_once log from [] all = pairs_none Differ
build_once log from (caller ∷ callers) all =
    let here = build_first log from caller callers all in
    let rest = build_behind log from caller callers all in
    subst (AllPairs Differ) (sym (places_first caller callers))
    (pairs_append Differ (places_of (built_by caller).items) (places_together callers)
    (λ i j d before within same. let less = here.rise i j d before within in omega (arith, less, same))
    (build_once log (from + 1) callers rest)
    (All-weaker (λ place. IsMade log place from) (λ place. All (Differ place) (places_together callers))
    (λ place made. All-weaker (IsOfLater log (from + 1)) (Differ place)
    (λ other later. two_sessions log from place other made later) (places_together callers)
    (all_later log (from + 1) callers rest))
    (places_of (built_by caller).items) here.own))

-- sessions in order, each with what it built, so far as it knows
pub once_together : (log : List Entry) (callers : List Caller) → ((k : ℕ) (caller : Caller)
    → slice_get callers k ≡ Some caller → ((w : View) × StartsWith log w.seen × (w.session ≡ k + 1)
    × HasBuilt w (places_of (built_by caller).items)))
    → AllPairs (λ (place other : ℕ). place ≢ other) (places_of (together (map built_by callers)))
once_together log callers each = build_once log 1 callers (λ k caller e. here k caller (each k caller e))
  where
    here : (k : ℕ) (caller : Caller) → ((w : View) × StartsWith log w.seen × (w.session ≡ k + 1)
        × HasBuilt w (places_of (built_by caller).items)) → BuiltHere log (k + 1) caller
    here k caller has = record {
      own = subst (λ session. All (λ place. IsMade log place session) (places_of (built_by caller).items)) has.2
          (made_later log has.0.seen has.0.session (places_of (built_by caller).items) has.1 has.3.own);
      rise = has.3.rise;
    }
