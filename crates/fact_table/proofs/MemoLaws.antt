-- Judgements that are noted while rows are judged.
use Rattle.std.proofs.Common.{◌≡◌, ◌⊎◌, Bool, ℕ, zero, suc, List, [], ◌∷◌, Some, refl, sym, ap, ◌∙◌, subst, inl, inr, map, option_map, slice_get, slice_set, length, get_or, ◌<◌}
use Rattle.std.proofs.lemmas.Option.{get_or_from_slice_get, none-some, same_Some, slice_get-get_or, slice_get-map, slice_get_read}
use Rattle.dita_doc.specs.Desk.{State}
use Rattle.dita_doc.specs.declared.fact.FactKey.{FactKey}
use Rattle.facts.specs.Judged.{BuildKey, Tells}
use Rattle.facts.specs.Latest.{FactAgrees}
use Rattle.facts.specs.Memo.{AreRight, IsNew, IsRight, MayNote, PlanAgrees}
use Rattle.facts.specs.Rows.{RowData, Stands, plan_in, plan_serial}
use Rattle.facts.specs.declared.fact.Fact.{Fact}
use Rattle.facts.specs.declared.fact.PlanFact.{PlanFact}
use Rattle.facts.specs.declared.judged.Judged.{Judged}
use Rattle.fact_table.specs.Noted.{AddsAtMost, AllHaveRows, AreRaised, IsKnown, IsNoted, IsRaised, MayClaim, MayGrow, judged_of, judged_seen}
use Rattle.fact_table.specs.declared.memo.Noted.{Noted}

-- an element of a list that is made of another stands for one of the other
pub record IsMade {X Y : Type 0} (f : X → Y) (xs : List X) (y : Y) : Type 0 where
  pub from : X
  pub stands : Stands xs from
  pub is : f from ≡ y

made_at : {X Y : Type 0} (f : X → Y) (xs : List X) (k : ℕ) (y : Y) → slice_get (map f xs) k ≡ Some y → IsMade f xs y
made_at f [] k y at = absurd (none-some y at)
made_at f (x ∷ xs) zero y at = record { from = x; stands = (0, refl); is = same_Some (f x) y at }
made_at f (x ∷ xs) (suc k) y at =
    let rest = made_at f xs k y at in
    record { from = rest.from; stands = (suc rest.stands.0, rest.stands.1); is = rest.is }

pub made_from : {X Y : Type 0} (f : X → Y) (xs : List X) (y : Y) → Stands (map f xs) y → IsMade f xs y
made_from f xs y stands = made_at f xs stands.0 y stands.1

pub made_of : {X Y : Type 0} (f : X → Y) (xs : List X) (x : X) → Stands xs x → Stands (map f xs) (f x)
made_of f xs x stands = (stands.0, slice_get-map f xs stands.0 ∙ ap (option_map f) stands.1)

module _ (agrees : PlanAgrees) (sources : State) (stamp : ℕ) (rows : List RowData) where
  -- nothing was noted yet
  pub notes_nothing : (all : List Judged) → MayNote agrees sources stamp rows all all
  notes_nothing all = record { each = λ judged stands. inl stands }

  -- one more row is judged
  pub notes_more : (first old new : List Noted) (row : RowData) → Stands rows row
      → MayNote agrees sources stamp rows (judged_seen first) (judged_seen old)
      → MayGrow agrees sources stamp row old new
      → MayNote agrees sources stamp rows (judged_seen first) (judged_seen new)
  notes_more first old new row stands noted grows = record {
    each = λ judged there.
        let made = made_from judged_of new judged there in
        elim (grows.each made.from made.stands) [
          | inl was ↦
              let before : Stands (judged_seen old) (judged_of made.from) = made_of judged_of old made.from was in
              noted.each judged (subst (λ (one : Judged). Stands (judged_seen old) one) made.is before)
          | inr is ↦ inr (subst (λ (one : Judged). IsNew agrees sources stamp rows one) made.is
              (record { row = row; stands = stands; of = is.of; right = is.right }))
        ];
  }

  -- each judgement stays one of a row of its rank
  pub rows_more : (old new : List Noted) (row : RowData) → Stands rows row → AllHaveRows rows old
      → MayGrow agrees sources stamp row old new → AllHaveRows rows new
  rows_more old new row stands have grows noted there = elim (grows.each noted there) [
    | inl was ↦ have noted was
    | inr is ↦ record { row = row; stands = stands; rank = sym is.rank; plan = sym is.of.plan }
  ]

-- rows may be judged as before once one more was
pub may_claim_more : (plan_agrees : PlanAgrees) (own_agrees : FactAgrees) (sound : Fact → Type 0) (rows : List RowData)
    (key : FactKey) (stamp : ℕ) (sources : State) (build : BuildKey) (old new : List Noted) (row : RowData)
    → Stands rows row → MayClaim plan_agrees own_agrees sound rows (judged_seen old) key stamp sources build
    → MayGrow plan_agrees sources stamp row old new
    → MayClaim plan_agrees own_agrees sound rows (judged_seen new) key stamp sources build
may_claim_more plan_agrees own_agrees sound rows key stamp sources build old new row stands may grows = record {
  each = λ other there of.
      let before = may.each other there of in
      record {
        is_sound = before.is_sound;
        of = before.of;
        plan = before.plan;
        own = before.own;
        right = record {
          each = λ judged known for.
              let made = made_from judged_of new judged known in
              elim (grows.each made.from made.stands) [
                | inl was ↦
                    let kept : Stands (judged_seen old) (judged_of made.from) = made_of judged_of old made.from was in
                    before.right.each judged
                    (subst (λ (one : Judged). Stands (judged_seen old) one) made.is kept) for
                | inr is ↦
                    let serial : plan_serial row ≡ plan_serial other =
                    sym is.of.plan ∙ ap (λ (one : Judged). one.plan) made.is ∙ for.plan in
                    let right : IsRight plan_agrees sources row judged =
                    subst (λ (one : Judged). IsRight plan_agrees sources row one) made.is is.right in
                    subst (λ (plan : PlanFact). Tells judged.agreed (plan_agrees plan sources))
                    (may.one_plan row other stands there serial) right
              ];
        };
      };
  one_plan = may.one_plan;
}

-- what is known of a row's plan for a stamp is right
pub known_right : (agrees : PlanAgrees) (sources : State) (stamp : ℕ) (row : RowData) (memo : List Noted) (agreed : Bool)
    → AreRight agrees sources stamp row (judged_seen memo) → IsKnown memo (plan_serial row) stamp agreed
    → Tells agreed (agrees (plan_in row) sources)
known_right agrees sources stamp row memo agreed right known =
    subst (λ (answer : Bool). Tells answer (agrees (plan_in row) sources)) known.answer
    (right.each known.noted.judged (made_of judged_of memo known.noted known.stands)
    (record { plan = known.plan_is; at = known.at }))

-- one judgement is added at most
pub grows_by : (agrees : PlanAgrees) (sources : State) (stamp : ℕ) (row : RowData) (added : Noted) (old new : List Noted)
    → IsNoted agrees sources stamp row added → AddsAtMost added old new → MayGrow agrees sources stamp row old new
grows_by agrees sources stamp row added old new is adds = record {
  each = λ noted stands.
      elim (adds.each noted stands) [
        | inl old ↦ inl old
        | inr same ↦ inr (subst (λ (one : Noted). IsNoted agrees sources stamp row one) (sym same) is)
      ];
}

-- nothing is added
pub grows_not : (agrees : PlanAgrees) (sources : State) (stamp : ℕ) (row : RowData) (old new : List Noted) → new ≡ old
    → MayGrow agrees sources stamp row old new
grows_not agrees sources stamp row old new same = record {
  each = λ noted stands.
      inl (subst (λ (all : List Noted). Stands all noted) same stands);
}

-- Judgements of a plan whose newest row is another

-- none was raised yet
pub raises_none : (plan rank : ℕ) (memo : List Noted) → AreRaised plan rank memo memo
raises_none plan rank memo = record {
  each = λ noted stands. record { before = noted; stands = stands; same = refl; rank_is = inl refl };
}

set_stands : {X : Type 0} (xs : List X) (i : ℕ) (v : X) (k : ℕ) (x : X) → slice_get (slice_set xs i v) k ≡ Some x
    → (x ≡ v) ⊎ Stands xs x
set_stands [] i v k x at = absurd (none-some x at)
set_stands (y ∷ xs) zero v zero x at = inl (sym (same_Some v x at))
set_stands (y ∷ xs) zero v (suc k) x at = inr (suc k, at)
set_stands (y ∷ xs) (suc i) v zero x at = inr (0, at)
set_stands (y ∷ xs) (suc i) v (suc k) x at = elim (set_stands xs i v k x at) [
  | inl same ↦ inl same
  | inr there ↦ inr (suc there.0, there.1)
]

-- one more is raised
pub raises_one : (plan rank : ℕ) (first memo : List Noted) (i : ℕ) (noted : Noted) → i < length memo
    → noted ≡ get_or memo i noted → noted.judged.plan ≡ plan → AreRaised plan rank first memo
    → AreRaised plan rank first (slice_set memo i (record { judged = noted.judged; rank = rank }))
raises_one plan rank first memo i noted within is of before = record {
  each = λ one stands.
      elim (set_stands memo i (record { judged = noted.judged; rank = rank }) stands.0 one stands.1) [
        | inl same ↦ subst (IsRaised plan rank first) (sym same) raised
        | inr there ↦ before.each one there
      ];
} where
  was : IsRaised plan rank first noted
  was = before.each noted (i, slice_get_read memo (length memo) i noted refl within is)

  raised : IsRaised plan rank first (record { judged = noted.judged; rank = rank })
  raised = record {
    before = was.before;
    stands = was.stands;
    same = was.same;
    rank_is = inr (refl, of);
  }

pub raises_at : (plan rank : ℕ) (first memo new : List Noted) (i : ℕ) (other : Noted) → i < length memo
    → (get_or memo i other).judged.plan ≡ plan
    → new ≡ slice_set memo i (record { judged = (get_or memo i other).judged; rank = rank })
    → AreRaised plan rank first memo → AreRaised plan rank first new
raises_at plan rank first memo new i other within of is before =
    let read : slice_get memo i ≡ Some (get_or memo i other) = slice_get-get_or memo i other within in
    subst (AreRaised plan rank first) (sym is)
    (raises_one plan rank first memo i (get_or memo i other) within
    (sym (get_or_from_slice_get memo i (get_or memo i other) (get_or memo i other) read)) of before)

-- the next one is of another plan
pub raises_still : (plan rank : ℕ) (first memo new : List Noted) (i : ℕ) (other : Noted) → i < length memo
    → new ≡ slice_set memo i (get_or memo i other) → AreRaised plan rank first memo → AreRaised plan rank first new
raises_still plan rank first memo new i other within is before =
    subst (AreRaised plan rank first) (sym is) (record {
      each = λ one stands.
          elim (set_stands memo i (get_or memo i other) stands.0 one stands.1) [
            | inl same ↦ subst (IsRaised plan rank first) (sym same)
                (before.each (get_or memo i other) (i, slice_get-get_or memo i other within))
            | inr there ↦ before.each one there
          ];
    })
