-- What a session asked stays where it stands, and one more stands behind it. Whoever has taken in all sessions, each of
-- which asked its own requests in order, has one history of the script.
use Rattle.std.proofs.Common.{◌≡◌, ◌<◌, ◌≤◌, ◌+◌, ◌++◌, ◌==◌, ℕ, zero, suc, cond, List, [], ◌∷◌, Option, Some, None, All, AllPairs, length, refl, sym, ap, ◌∙◌, subst, arith, sum_by, count_by, get_or, flat_map, inl, inr, ◌⊎◌, ⊎_elim, append_assoc, append-nil}
use Rattle.std.specs.List.{AllZip, slice_get}
use Rattle.std.proofs.lemmas.List.Elements.{All-cons, All-nil, All-push, All-weaker}
use Rattle.std.proofs.lemmas.List.Sums.{sum_by-append, sum_by-cons}
use Rattle.std.proofs.lemmas.Option.{none-some, same_Some, slice_get-get_or, slice_get_within}
use mathlib.Core.Logic.{dite}
use native.Mathlib.Decide.{ℕ_discrete}
use Rattle.dita_doc.specs.History.{Entry, IsLegal}
use Rattle.facts.specs.Rows.{Stands}
use Rattle.run_spec.specs.HistoryTold.{step_of}
use Rattle.script_text.specs.Script.{Step}
use Rattle.desk_core.specs.Book.{BookData}
use Rattle.desk_lock.specs.Calls.{Joins}
use Rattle.desk_lock.specs.Closes.{Closes}
use Rattle.desk_lock.specs.Knows.{all_parts, known, with_session}
use Rattle.desk_lock.specs.Lists.{IsReordered, StartsWith, counted}
use Rattle.desk_lock.specs.Meaning.{Meaning}
use Rattle.desk_lock.specs.Past.{placed}
use Rattle.desk_lock.specs.declared.view.View.{View}
use Rattle.desk_lock.proofs.Weights.{heavy_stands, tick, tick_is, tick_other}
use Rattle.desk_work.proofs.Lists.{stands_either, starts_then}
use Rattle.desk_top.specs.Asked.{Asked, AsksAll, AsksOne, HasAsked, HasNone, IsAskedAt, IsBefore, TakesIn, asked_by, brought}
use Rattle.desk_top.specs.OneHistory.{IsBehind, IsOneHistory, step_in}
use Rattle.desk_top.proofs.AskedLaws.{IsAmong, IsEarlier, all_from, asked_named, asked_rise, asked_weigh, at_start, counted_one, pairs_none, pairs_push, sum_one, zip_at, zip_onward, zip_push}
use Rattle.desk_top.proofs.PlaceLaws.{all_at, pair_at}

-- Sessions

asked_later : (log first : List Entry) (session : ℕ) (one : Asked) (place : ℕ) → StartsWith log first
    → IsAskedAt first session one place → IsAskedAt log session one place
asked_later log first session one place starts at = record {
  answer = at.answer;
  stands = at_start log first place (record {
    session = session;
    number = one.number;
    request = one.request;
    reply = at.answer;
  }) starts at.stands;
}

zip_later : (log first : List Entry) (session : ℕ) (asked : List Asked) (places : List ℕ) → StartsWith log first
    → AllZip (IsAskedAt first session) asked places → AllZip (IsAskedAt log session) asked places
zip_later log first session asked places starts zip = zip_onward (IsAskedAt first session) (IsAskedAt log session)
    (λ one place at. asked_later log first session one place starts at) asked places zip

-- all of the places are in the history
places_within : (log : List Entry) (session : ℕ) (asked : List Asked) (places : List ℕ)
    → AllZip (IsAskedAt log session) asked places → All (λ place. place < length log) places
places_within log session [] [] zip = All-nil (λ place. place < length log)
places_within log session [] (place ∷ places) zip = absurd zip
places_within log session (one ∷ asked) [] zip = absurd zip
places_within log session (one ∷ asked) (place ∷ places) zip = All-cons (λ other. other < length log) place places
    (slice_get_within log place _ zip.0.stands) (places_within log session asked places zip.1)

pub asked_none : (w : View) → HasNone w → HasAsked w []
asked_none w none = record {
  alone = none.theirs;
  at = subst (AllZip (IsAskedAt w.seen w.session) []) (sym none.mine) tt;
  rise = subst (AllPairs IsBefore) (sym none.mine) (pairs_none IsBefore);
}

pub asked_more : (v w : View) (asked : List Asked) (one : Asked) → HasAsked v asked → AsksOne v one w
    → HasAsked w (asked ++ one ∷ [])
asked_more v w asked one has asks = record {
  alone = asks.theirs ∙ has.alone;
  at = subst (λ session. AllZip (IsAskedAt w.seen session) (asked ++ one ∷ []) w.mine) (sym asks.session)
      (subst (AllZip (IsAskedAt w.seen v.session) (asked ++ one ∷ [])) (sym asks.mine)
      (zip_push (IsAskedAt w.seen v.session) asked v.mine one asks.place
      (zip_later w.seen v.seen v.session asked v.mine asks.later has.at) asks.at));
  rise = subst (AllPairs IsBefore) (sym asks.mine) (pairs_push IsBefore v.mine asks.place has.rise
      (All-weaker (λ place. place < length v.seen) (λ place. place < asks.place)
      (λ place within. omega (arith, within, asks.behind)) v.mine
      (places_within v.seen v.session asked v.mine has.at)));
}

pub asks_none : (v : View) → HasAsked v [] → AsksAll v [] v
asks_none v has = record { session = refl; has = has }

pub asks_more : (v w new : View) (asked : List Asked) (one : Asked) → AsksAll v asked w → AsksOne w one new
    → AsksAll v (asked ++ one ∷ []) new
asks_more v w new asked one asks next =
    record { session = next.session ∙ asks.session; has = asked_more w new asked one asks.has next }

-- Whoever takes sessions in

pub takes_none : (v : View) → TakesIn v [] v
takes_none v = record {
  later = ([], sym (append-nil v.seen));
  too = All-nil (λ (u : View). StartsWith v.seen u.seen);
  mine = refl;
  theirs = sym (append-nil v.theirs);
}

pub takes_more : (v w new : View) (others : List View) (other : View) → TakesIn v others w → Joins w other new
    → TakesIn v (others ++ other ∷ []) new
takes_more v w new others other takes joins = record {
  later = starts_then new.seen w.seen v.seen joins.later takes.later;
  too = All-push (λ (u : View). StartsWith new.seen u.seen) others other
      (All-weaker (λ (u : View). StartsWith w.seen u.seen) (λ (u : View). StartsWith new.seen u.seen)
      (λ u starts. starts_then new.seen w.seen u.seen joins.later starts) others takes.too) joins.too;
  mine = ap (λ (u : View). u.mine) joins.knows ∙ takes.mine;
  theirs = ap (λ (u : View). u.theirs) joins.knows
      ∙ append_assoc w.theirs other.theirs (with_session other.session other.mine)
      ∙ ap (λ list. list ++ brought other) takes.theirs
      ∙ append_assoc v.theirs (flat_map brought others) (brought other)
      ∙ ap (λ list. v.theirs ++ list) (sym (push others other));
}
  where
    push : (us : List View) (u : View) → flat_map brought (us ++ u ∷ []) ≡ flat_map brought us ++ brought u
    push [] u = append-nil (brought u)
    push (first ∷ us) u =
        ap (λ list. brought first ++ list) (push us u) ∙ sym (append_assoc (brought first) (flat_map brought us) (brought u))

-- The whole history

-- a session of this number has asked all that it had to ask
pub record AskedAll (log : List Entry) (steps : List Step) (number : ℕ) (u : View) : Type 0 where
  pub of : u.session ≡ number
  pub alone : u.theirs ≡ []
  pub at : AllZip (IsAskedAt log number) (asked_by number 1 steps) u.mine
  pub rise : AllPairs IsBefore u.mine

-- sessions of these numbers have
abbrev pub AskAll : List Entry → List Step → ℕ → List View → Type 0
AskAll log steps from views = (k : ℕ) (u : View) → slice_get views k ≡ Some u → AskedAll log steps (k + from) u

ask_behind : (log : List Entry) (steps : List Step) (from : ℕ) (u : View) (views : List View)
    → AskAll log steps from (u ∷ views) → AskAll log steps (from + 1) views
ask_behind log steps from u views all k other e =
    subst (λ number. AskedAll log steps number other) (omega arith) (all (suc k) other e)

-- the weight of the number of the entry at a place
module _ (w : ℕ → ℕ) where
  abbrev weight_in : Option Entry → ℕ
  weight_in None = 0
  weight_in (Some entry) = w entry.number

  abbrev weight_at : List Entry → ℕ × ℕ → ℕ
  weight_at log place = weight_in (slice_get log place.0)

  placed_weigh : (get : ℕ → Option Entry) (base : ℕ) (log : List Entry)
      → ((k : ℕ) → get (base + k) ≡ slice_get log k)
      → sum_by (λ (place : ℕ × ℕ). weight_in (get place.0)) (placed base log)
      ≡ sum_by (λ (entry : Entry). w entry.number) log
  placed_weigh get base [] same = refl
  placed_weigh get base (entry ∷ log) same =
      let c = sum_by-cons (λ (place : ℕ × ℕ). weight_in (get place.0)) (base, entry.session) (placed (base + 1) log) in
      let d = sum_by-cons (λ (one : Entry). w one.number) entry log in
      let at : base + 0 ≡ base = omega arith in
      let here : weight_in (get base) ≡ w entry.number =
      ap weight_in (subst (λ n. get n ≡ Some entry) at (same 0)) in
      let r = placed_weigh get (base + 1) log
      (λ k. let next : base + suc k ≡ (base + 1) + k = omega arith in
      subst (λ n. get n ≡ slice_get log k) next (same (suc k))) in
      omega (arith, c, d, here, r)

  places_weigh : (log : List Entry) (session tag : ℕ) (asked : List Asked) (places : List ℕ)
      → AllZip (IsAskedAt log session) asked places
      → sum_by (weight_at log) (with_session tag places) ≡ sum_by (λ (one : Asked). w one.number) asked
  places_weigh log session tag [] [] zip = refl
  places_weigh log session tag [] (place ∷ places) zip = absurd zip
  places_weigh log session tag (one ∷ asked) [] zip = absurd zip
  places_weigh log session tag (one ∷ asked) (place ∷ places) zip =
      let c = sum_by-cons (weight_at log) (place, tag) (with_session tag places) in
      let d = sum_by-cons (λ (other : Asked). w other.number) one asked in
      let here : weight_in (slice_get log place) ≡ w one.number = ap weight_in zip.0.stands in
      let r = places_weigh log session tag asked places zip.1 in omega (arith, c, d, here, r)

  views_weigh : (log : List Entry) (steps : List Step) (from : ℕ) (views : List View) → AskAll log steps from views
      → sum_by (weight_at log) (flat_map brought views)
      ≡ sum_by (λ number. sum_by (λ (one : Asked). w one.number) (asked_by number 1 steps)) (counted from (length views))
  views_weigh log steps from [] all = refl
  views_weigh log steps from (u ∷ views) all =
      let asked : ℕ → ℕ = λ number. sum_by (λ (one : Asked). w one.number) (asked_by number 1 steps) in
      let first_of : 0 + from ≡ from = omega arith in
      let here : AskedAll log steps from u = subst (λ number. AskedAll log steps number u) first_of (all 0 u refl) in
      let a = sum_by-append (weight_at log) (brought u) (flat_map brought views) in
      let alone : brought u ≡ with_session u.session u.mine =
      ap (λ list. list ++ with_session u.session u.mine) here.alone in
      let first = ap (sum_by (weight_at log)) alone
      ∙ places_weigh log from u.session (asked_by from 1 steps) u.mine here.at in
      let c = sum_by-cons asked from (counted (from + 1) (length views)) in
      let r = views_weigh log steps (from + 1) views (ask_behind log steps from u views all) in
      omega (arith, a, first, c, r)

-- where the request of an entry was asked
record IsFound (log : List Entry) (steps : List Step) (from : ℕ) (views : List View) (place : ℕ) : Type 0 where
  k : ℕ
  u : View
  view : slice_get views k ≡ Some u
  asker : AskedAll log steps (k + from) u
  nth : ℕ
  mine : slice_get u.mine nth ≡ Some place
  one : Asked
  asked : slice_get (asked_by (k + from) 1 steps) nth ≡ Some one
  at : IsAskedAt log (k + from) one place

flat_from : {X Y : Type 0} (f : X → List Y) (xs : List X) (y : Y) → Stands (flat_map f xs) y
    → (k : ℕ) × (x : X) × (slice_get xs k ≡ Some x) × Stands (f x) y
flat_from f [] y stands = absurd (none-some y stands.1)
flat_from f (x ∷ xs) y stands = ⊎_elim
    (λ here. (0, x, refl, here))
    (λ there. let r = flat_from f xs y there in (suc r.0, r.1, r.2, r.3))
    (stands_either (f x) (flat_map f xs) stands.0 y stands.1)

tagged : (tag : ℕ) (places : List ℕ) (one : ℕ × ℕ) → Stands (with_session tag places) one → Stands places one.0
tagged tag [] one stands = absurd (none-some one stands.1)
tagged tag (place ∷ places) one (zero, e) = (0, ap Some (ap (λ (other : ℕ × ℕ). other.0) (same_Some (place, tag) one e)))
tagged tag (place ∷ places) one (suc k, e) = let r = tagged tag places one (k, e) in (suc r.0, r.1)

length_counted : (from count : ℕ) → length (counted from count) ≡ count
length_counted from zero = refl
length_counted from (suc count) = ap suc (length_counted (from + 1) count)

pub heavy_place : (base place : ℕ) (log : List Entry) → place < length log
    → 0 < sum_by (λ (one : ℕ × ℕ). tick (base + place) one.0) (placed base log)
heavy_place base place [] within = absurd (omega arith)
heavy_place base zero (entry ∷ log) within =
    let c = sum_by-cons (λ (one : ℕ × ℕ). tick (base + zero) one.0) (base, entry.session) (placed (base + 1) log) in
    let t = tick_is (base + zero) base (omega arith) in omega arith
heavy_place base (suc place) (entry ∷ log) within =
    let c = sum_by-cons (λ (one : ℕ × ℕ). tick (base + suc place) one.0) (base, entry.session) (placed (base + 1) log) in
    let same : (base + 1) + place ≡ base + suc place = omega arith in
    let r = subst (λ n. 0 < sum_by (λ (one : ℕ × ℕ). tick n one.0) (placed (base + 1) log)) same
    (heavy_place (base + 1) place log (omega arith)) in omega arith

earlier_or_not : (i j : ℕ) → (i < j) ⊎ (j ≤ i)
earlier_or_not zero zero = inr (omega arith)
earlier_or_not zero (suc j) = inl (omega arith)
earlier_or_not (suc i) zero = inr (omega arith)
earlier_or_not (suc i) (suc j) = ⊎_elim (λ less. inl (omega (arith, less))) (λ more. inr (omega (arith, more))) (earlier_or_not i j)

module _ (log : List Entry) (steps : List Step) (views : List View) (all : AskAll log steps 1 views)
    (weigh : IsReordered (flat_map brought views) (placed 0 log)) where
  found_at : (place k : ℕ) (u : View) (one : ℕ × ℕ) → slice_get views k ≡ Some u → Stands (brought u) one
      → one.0 ≡ place → IsFound log steps 1 views place
  found_at place k u one view stands same =
      let asker = all k u view in
      let alone : brought u ≡ with_session u.session u.mine =
      ap (λ list. list ++ with_session u.session u.mine) asker.alone in
      let mine = tagged u.session u.mine one (subst (λ list. Stands list one) alone stands) in
      let here = subst (λ other. slice_get u.mine mine.0 ≡ Some other) same mine.1 in
      let zip = zip_at (IsAskedAt log (k + 1)) (asked_by (k + 1) 1 steps) u.mine mine.0 place asker.at here in
      record {
        k = k;
        u = u;
        view = view;
        asker = asker;
        nth = mine.0;
        mine = here;
        one = zip.0;
        asked = zip.1;
        at = zip.2;
      }

  find : (place : ℕ) → place < length log → IsFound log steps 1 views place
  find place within =
      let by : ℕ × ℕ → ℕ = λ one. tick (0 + place) one.0 in
      let heavy = heavy_place 0 place log within in
      let weighs = weigh by in
      let there = heavy_stands by (flat_map brought views) (omega (arith, heavy, weighs)) in
      let from = flat_from brought views there.1 (there.0, there.2) in
      found_at place from.0 from.1 there.1 from.2 from.3 (dite (ℕ_discrete there.1.0 (0 + place))
      (λ same. omega (arith, same))
      (λ differ. let none = tick_other (0 + place) there.1.0 differ in absurd (omega (arith, none, there.3))))

  named_at : (place : ℕ) (entry : Entry) → slice_get log place ≡ Some entry
      → step_of steps entry.number ≡ Some (step_in entry)
  named_at place entry e =
      let found = find place (slice_get_within log place entry e) in
      let here : Entry = record {
        session = found.k + 1;
        number = found.one.number;
        request = found.one.request;
        reply = found.at.answer;
      } in
      let same : entry ≡ here = same_Some entry here (sym e ∙ found.at.stands) in
      let named = asked_named (found.k + 1) 1 steps found.nth found.one found.asked in
      let number : found.one.number ≡ suc named.0 = omega (arith, named.1) in
      subst (λ (other : Entry). step_of steps other.number ≡ Some (step_in other)) (sym same)
      (ap (step_of steps) number ∙ named.2)

  numbers_weigh : (w : ℕ → ℕ) → All (IsAmong (length views)) steps
      → sum_by (λ (entry : Entry). w entry.number) log ≡ sum_by w (counted 1 (length steps))
  numbers_weigh w among =
      sym (placed_weigh w (slice_get log) 0 log (λ k. ap (slice_get log) (omega arith))) ∙ sym (weigh (weight_at w log))
      ∙ views_weigh w log steps 1 views all ∙ asked_weigh w (length views) 1 steps among

  once_at : All (IsAmong (length views)) steps → (number : ℕ) (step : Step) → step_of steps number ≡ Some step
      → count_by (λ (entry : Entry). entry.number == number) log ≡ 1
  once_at among zero step e = absurd (none-some step e)
  once_at among (suc before) step e =
      let within = slice_get_within steps before step e in
      numbers_weigh (λ n. cond (n == suc before) 1 0) among
      ∙ counted_one 1 (suc before) 1 (length steps) (omega arith) (omega (arith, within))

  order_at : (i j : ℕ) (first second : Entry) → slice_get log i ≡ Some first → slice_get log j ≡ Some second → i < j
      → IsBehind first second
  order_at i j first second e g before same =
      let f = find i (slice_get_within log i first e) in
      let h = find j (slice_get_within log j second g) in
      let mine = same_Some first _ (sym e ∙ f.at.stands) in
      let other = same_Some second _ (sym g ∙ h.at.stands) in
      let of = ap (λ (entry : Entry). entry.session) mine in
      let too = ap (λ (entry : Entry). entry.session) other in
      let one_session : f.k ≡ h.k = omega (arith, of, too, same) in
      let one_view : h.u ≡ f.u =
      same_Some h.u f.u (sym h.view ∙ ap (slice_get views) (sym one_session) ∙ f.view) in
      let there = subst (λ (u : View). slice_get u.mine h.nth ≡ Some j) one_view h.mine in
      let asked = subst (λ k. slice_get (asked_by (k + 1) 1 steps) h.nth ≡ Some h.one) (sym one_session) h.asked in
      let rises : f.nth < h.nth = ⊎_elim (λ less. less) (λ more. dite (ℕ_discrete f.nth h.nth)
      (λ equal. let one_place = same_Some i j (sym f.mine ∙ ap (slice_get f.u.mine) equal ∙ there) in
      absurd (omega (arith, one_place, before)))
      (λ differ. let wrong = pair_at IsBefore f.u.mine h.nth f.nth j i f.asker.rise
      (omega (arith, more, differ)) there f.mine in absurd (omega (arith, wrong, before))))
      (earlier_or_not f.nth h.nth) in
      let less = pair_at IsEarlier (asked_by (f.k + 1) 1 steps) f.nth h.nth f.one h.one
      (asked_rise (f.k + 1) 1 steps) rises f.asked asked in
      let number = ap (λ (entry : Entry). entry.number) mine in
      let later = ap (λ (entry : Entry). entry.number) other in
      omega (arith, less, number, later)

  one_of_all : IsLegal log → All (IsAmong (length views)) steps → IsOneHistory steps log
  one_of_all legal among = record {
    legal = legal;
    count = sym (sum_one log) ∙ numbers_weigh (λ n. 1) among ∙ sum_one (counted 1 (length steps))
        ∙ length_counted 1 (length steps);
    named = all_from (λ (entry : Entry). step_of steps entry.number ≡ Some (step_in entry)) log
        (λ entry stands. named_at stands.0 entry stands.1);
    once = once_at among;
    order = λ i j d before within. order_at i j (get_or log i d) (get_or log j d)
        (slice_get-get_or log i d (omega (arith, before, within))) (slice_get-get_or log j d within) before;
  }

pub one_history : (means : Meaning) (v w : View) (views : List View) (book : BookData) (steps : List Step)
    → Closes means w book → w.parts ≡ all_parts → HasNone v → TakesIn v views w → All (IsAmong (length views)) steps
    → ((k : ℕ) (u : View) → slice_get views k ≡ Some u → (u.session ≡ k + 1) × HasAsked u (asked_by (k + 1) 1 steps))
    → IsOneHistory steps book.store.history
one_history means v w views book steps closes parts none takes among has =
    one_of_all book.store.history steps views asked weigh closes.legal among
  where
    asked : AskAll book.store.history steps 1 views
    asked k u e =
        let here = has k u e in
        let later = starts_then book.store.history w.seen u.seen closes.begins
        (all_at (λ (other : View). StartsWith w.seen other.seen) views k u takes.too e) in
        record {
          of = here.0;
          alone = here.1.alone;
          at = subst (λ session. AllZip (IsAskedAt book.store.history session) (asked_by (k + 1) 1 steps) u.mine) here.0
              (zip_later book.store.history u.seen u.session (asked_by (k + 1) 1 steps) u.mine later here.1.at);
          rise = here.1.rise;
        }

    all_known : known w ≡ flat_map brought views
    all_known = ap (λ places. with_session w.session places ++ w.theirs) (takes.mine ∙ none.mine)
        ∙ takes.theirs ∙ ap (λ list. list ++ flat_map brought views) none.theirs

    weigh : IsReordered (flat_map brought views) (placed 0 book.store.history)
    weigh h = ap (sum_by h) (sym all_known) ∙ (closes.all parts).places h
