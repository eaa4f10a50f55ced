-- Requests are put on the piles of their sessions one after the other, each caller gets the pile of its session, and once
-- all callers are taken in there is one history of the script.
use Rattle.std.proofs.Common.{◌≡◌, ◌≢◌, ◌<◌, ◌+◌, ◌++◌, ℕ, zero, suc, List, [], ◌∷◌, Option, Some, None, All, AllPairs, length, map, option_map, cond, refl, sym, ap, ◌∙◌, subst, arith, get_or, get_or-set_other, get_or-set_same, set, append_assoc, append-nil, eq-eqb, ne_eqb}
use Rattle.std.specs.List.{slice_get}
use Rattle.std.specs.declared.vec.IntoIter.{IntoIter}
use Rattle.std.specs.declared.vec.Vec.{Vec}
use Rattle.std.specs.Iterator.{Yields}
use Rattle.std.specs.Prelude.{vec_len}
use Rattle.std.specs.Vec.Iter.{into_iter_items, into_iter_len, into_iter_steps}
use Rattle.std.proofs.lemmas.Iterator.Adapters.{YieldsList-from_vec}
use Rattle.std.proofs.lemmas.Iterator.Consumers.{YieldsList-end}
use Rattle.std.proofs.lemmas.List.{get_or-map, get_or_default, get_or_append_left, get_or_push, length-map, length_push, map-append, map-id}
use Rattle.std.proofs.lemmas.List.Elements.{All-map}
use Rattle.std.proofs.lemmas.Option.{get_or_from_slice_get, none-some, same_Some, slice_get-map, slice_get_within}
use mathlib.Core.Logic.{dite}
use native.Mathlib.Decide.{ℕ_discrete}
use Rattle.dita_doc.specs.declared.request.Request as given
use Rattle.script_text.specs.Facts.{IsInSession}
use Rattle.script_text.specs.Read.{step_seen, steps_seen}
use Rattle.script_text.specs.Script.{Step}
use Rattle.desk_core.specs.Book.{BookData}
use Rattle.desk_lock.specs.Closes.{Closes}
use Rattle.desk_lock.specs.Knows.{all_parts}
use Rattle.desk_lock.specs.Lists.{StartsWith}
use Rattle.desk_lock.specs.Meaning.{Meaning}
use Rattle.desk_lock.specs.declared.desk.Desk.{Desk}
use Rattle.desk_lock.specs.declared.view.View.{View}
use Rattle.desk_work.proofs.Lists.{starts_then}
use Rattle.desk_top.specs.Asked.{Asked, AsksAll, HasAsked, HasNone, TakesIn, all_asked, asked_by, asked_seen}
use Rattle.desk_top.specs.OneHistory.{IsOneHistory}
use Rattle.desk_top.specs.Served.{AreInOrder, ArePiles, HasBuilt, HasEnded, HaveAskedAll, IsPut, IsWell, Pile, built_by, places_of, together, view_of}
use Rattle.desk_top.specs.declared.callers.Caller.{Caller}
use Rattle.desk_top.proofs.AskedLaws.{IsAmong}
use Rattle.desk_top.proofs.PlaceLaws.{all_at}
use Rattle.desk_top.proofs.HistoryLaws.{one_history}
use Rattle.desk_top.proofs.OnceLaws.{once_together}

-- Piles

pub pile_put : (piles : List Pile) (home : ℕ) (one new : Pile) (asked : ℕ × given.Request) → home < length piles
    → new.items ≡ (get_or piles home one).items ++ asked ∷ [] → IsPut piles home asked (set piles home new)
pile_put piles home one new asked within pushed = record {
  here = λ pile. ap (λ (other : Pile). other.items) (get_or-set_same piles home new pile within) ∙ pushed
      ∙ ap (λ (other : Pile). other.items ++ asked ∷ []) (get_or_default piles home one pile within);
  others = λ place pile differ. get_or-set_other piles home place new pile differ;
}

-- so far the piles have the requests of the first steps, and to come are those of the rest
abbrev pub AreFirstPiles : List Step → ℕ → List Step → List Pile → Type 0
AreFirstPiles steps number rest piles = (place : ℕ) (pile : Pile) → place < length piles
    → all_asked (get_or piles place pile).items ++ asked_by (place + 1) (number + 1) rest ≡ asked_by (place + 1) 1 steps

pub first_all : (steps : List Step) (number : ℕ) (piles : List Pile) → AreFirstPiles steps number [] piles
    → ArePiles steps piles
first_all steps number piles first place pile within =
    sym (append-nil (all_asked (get_or piles place pile).items)) ∙ first place pile within

pub first_more : (steps rest : List Step) (number home session : ℕ) (request : given.Request) (piles more : List Pile)
    → home + 1 ≡ session → length more ≡ length piles → IsPut piles home (number + 1, request) more
    → AreFirstPiles steps number (step_seen (session, request) ∷ rest) piles → AreFirstPiles steps (number + 1) rest more
first_more steps rest number home session request piles more of long put first place pile within =
    dite (ℕ_discrete place home)
    (λ same.
    let session_is : place + 1 ≡ session = omega (arith, same, of) in
    let here : (get_or more place pile).items ≡ (get_or piles place pile).items ++ (number + 1, request) ∷ [] =
    subst (λ k. (get_or more k pile).items ≡ (get_or piles k pile).items ++ (number + 1, request) ∷ []) (sym same)
    (put.here pile) in
    let chosen : asked_by (place + 1) (number + 1) (step_seen (session, request) ∷ rest) ≡ one ∷ behind =
    ap (λ b. cond b (one ∷ behind) behind) (eq-eqb (place + 1) session session_is) in
    ap (λ list. all_asked list ++ behind) here
    ∙ ap (λ list. list ++ behind) (map-append asked_seen (get_or piles place pile).items ((number + 1, request) ∷ []))
    ∙ append_assoc (all_asked (get_or piles place pile).items) (one ∷ []) behind
    ∙ ap (λ list. all_asked (get_or piles place pile).items ++ list) (sym chosen)
    ∙ first place pile (omega (arith, within, long)))
    (λ differ.
    let passed : asked_by (place + 1) (number + 1) (step_seen (session, request) ∷ rest) ≡ behind =
    ap (λ b. cond b (one ∷ behind) behind)
    (ne_eqb (place + 1) session (λ session_is. differ (omega (arith, session_is, of)))) in
    ap (λ (other : Pile). all_asked other.items ++ behind) (put.others place pile differ)
    ∙ ap (λ list. all_asked (get_or piles place pile).items ++ list) (sym passed)
    ∙ first place pile (omega (arith, within, long)))
  where
    one : Asked
    one = asked_seen (number + 1, request)

    behind : List Asked
    behind = asked_by (place + 1) ((number + 1) + 1) rest

-- a loop over a vector that has ended took all its items
pub vec_whole : {X A : Type 0} (v : Vec X A) (s t u : IntoIter X A) (xs : List X) (r : Option X)
    → into_iter_items s ≡ v.items → into_iter_len s ≡ vec_len v → Yields into_iter_steps s xs t → r ≡ None
    → into_iter_steps t r u → xs ≡ v.items
vec_whole {X} {A} v s t u xs r items long yields is steps = sym (map-id xs)
    ∙ (YieldsList-end (YieldsList-from_vec {A = X} {Z = A} {s = s} v.items items (omega (arith, long, v.ok.0))) xs t
    yields r u is steps).0

-- Callers

pub order_push : (callers : List Caller) (caller : Caller) → AreInOrder callers
    → (view_of caller).session ≡ length callers + 1 → AreInOrder (callers ++ caller ∷ [])
order_push [] caller order next zero d within = next
order_push [] caller order next (suc place) d within = absurd (omega (arith, within))
order_push (first ∷ callers) caller order next place d within = dite (ℕ_discrete place (length (first ∷ callers)))
    (λ last. ap (λ (other : Caller). (view_of other).session)
    (get_or_push (first ∷ callers) caller d place (sym last)) ∙ next ∙ ap (λ k. k + 1) (sym last))
    (λ before. ap (λ (other : Caller). (view_of other).session)
    (get_or_append_left (first ∷ callers) (caller ∷ []) d place (shorter before)) ∙ order place d (shorter before))
  where
    shorter : place ≢ length (first ∷ callers) → place < length (first ∷ callers)
    shorter before = omega (arith, before, within, length_push (first ∷ callers) caller)

-- The history

mapped_at : {X Y : Type 0} (f : X → Y) (xs : List X) (k : ℕ) (y : Y) → slice_get (map f xs) k ≡ Some y
    → (x : X) × (slice_get xs k ≡ Some x) × (f x ≡ y)
mapped_at f [] k y e = absurd (none-some y e)
mapped_at f (x ∷ xs) zero y e = (x, refl, same_Some (f x) y e)
mapped_at f (x ∷ xs) (suc k) y e = mapped_at f xs k y e

abbrev pub pile_of : Caller → Pile
pile_of caller = caller.asked

-- what a caller that found memory has asked
pub asks_at : (before after : List Caller) (k : ℕ) (caller : Caller) → HaveAskedAll before after → length after ≡ length before
    → All IsWell after → slice_get after k ≡ Some caller → (k < length before)
    × AsksAll (view_of (get_or before k caller)) (all_asked (get_or before k caller).asked.items) (view_of caller)
asks_at before after k caller asked as_many well e =
    let inside = slice_get_within after k caller e in
    let within : k < length before = omega (arith, inside, as_many) in (
      within,
      subst (λ (other : Caller). AsksAll (view_of (get_or before k caller))
          (all_asked (get_or before k caller).asked.items) (view_of other)) (get_or_from_slice_get after k caller caller e)
          (asked k caller within (well k caller inside)),
    )

pub history_of : (means : Meaning) (v w : View) (book : BookData) (steps : List (ℕ × given.Request)) (piles : List Pile)
    (before after : List Caller) → Closes means w book → w.parts ≡ all_parts → HasNone v
    → TakesIn v (map view_of after) w → All IsInSession steps → length piles ≡ 16 → ArePiles (steps_seen steps) piles
    → map pile_of before ≡ piles → AreInOrder before → HaveAskedAll before after → length after ≡ length before
    → All IsWell after → IsOneHistory (steps_seen steps) book.store.history
history_of means v w book steps piles before after closes parts none takes sessions sixteen are gave order asked as_many well =
    one_history means v w (map view_of after) book (steps_seen steps) closes parts none takes among has
  where
    many : length before ≡ 16
    many = sym (length-map before pile_of) ∙ ap length gave ∙ sixteen

    among : All (IsAmong (length (map view_of after))) (steps_seen steps)
    among = All-map (IsAmong (length (map view_of after))) step_seen steps
        (subst (λ count. All (λ (step : ℕ × given.Request). IsAmong count (step_seen step)) steps)
        (sym (length-map after view_of ∙ as_many ∙ many)) sessions)

    has : (k : ℕ) (u : View) → slice_get (map view_of after) k ≡ Some u
        → (u.session ≡ k + 1) × HasAsked u (asked_by (k + 1) 1 (steps_seen steps))
    has k u e =
        let one = mapped_at view_of after k u e in
        let x = one.0 in
        let asks = asks_at before after k x asked as_many well one.1 in
        let pile : (get_or before k x).asked ≡ get_or piles k x.asked =
        sym (get_or-map pile_of before k x x.asked asks.0) ∙ ap (λ list. get_or list k x.asked) gave in
        let theirs : all_asked (get_or before k x).asked.items ≡ asked_by (k + 1) 1 (steps_seen steps) =
        ap (λ (other : Pile). all_asked other.items) pile
        ∙ are k x.asked (omega (arith, asks.0, many, sixteen)) in
        subst (λ (w : View). (w.session ≡ k + 1) × HasAsked w (asked_by (k + 1) 1 (steps_seen steps))) one.2
        (asks.1.session ∙ order k x asks.0, subst (HasAsked (view_of x)) theirs asks.1.has)

pub once_of : (means : Meaning) (desk : Desk BookData) (v w : View) (book : BookData) (before after : List Caller)
    → Closes means w book → TakesIn v (map view_of after) w → AreInOrder before → HaveAskedAll before after
    → length after ≡ length before → All IsWell after → All (HasEnded desk) after
    → AllPairs (λ (place other : ℕ). place ≢ other) (places_of (together (map built_by after)))
once_of means desk v w book before after closes takes order asked as_many well ended =
    once_together book.store.history after each
  where
    each : (k : ℕ) (caller : Caller) → slice_get after k ≡ Some caller → ((u : View) × StartsWith book.store.history u.seen
        × (u.session ≡ k + 1) × HasBuilt u (places_of (built_by caller).items))
    each k caller e =
        let asks = asks_at before after k caller asked as_many well e in
        let has = all_at (HasEnded desk) after k caller ended e in
        let is_well = all_at IsWell after k caller well e in
        let there = slice_get-map view_of after k ∙ ap (option_map view_of) e in
        let later = all_at (λ (u : View). StartsWith w.seen u.seen) (map view_of after) k (view_of caller) takes.too there in (
          view_of caller,
          starts_then book.store.history w.seen (view_of caller).seen closes.begins later,
          asks.1.session ∙ order k caller asks.0,
          (has.answered is_well).built,
        )
