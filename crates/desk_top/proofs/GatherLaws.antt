-- What all sessions made, put together, is all that whoever took them in has: each row that was published, once.
use Rattle.std.proofs.Common.{◌≡◌, ◌⊎◌, ◌<◌, ◌≤◌, ◌+◌, ℕ, zero, suc, List, [], ◌∷◌, ◌++◌, Some, append-nil, append_assoc, flat_map, refl, sym, ap, ◌∙◌, subst, inl, inr, ⊎_elim, arith}
use Rattle.std.specs.List.{AllZip, slice_get}
use Rattle.std.proofs.lemmas.List.Concat.{flat_map-append}
use Rattle.std.proofs.lemmas.Option.{none-some, same_Some}
use Rattle.dita_doc.specs.History.{Entry}
use Rattle.facts.specs.Rows.{RowData, Stands}
use Rattle.desk_language.specs.Language.{Language}
use Rattle.desk_lock.specs.Calls.{Joins}
use Rattle.desk_lock.specs.Lists.{Each, StartsWith}
use Rattle.desk_lock.specs.Meaning.{Meaning}
use Rattle.desk_lock.specs.declared.view.View.{View}
use Rattle.desk_work.proofs.Lists.{each_append, each_at, each_onward, stands_either, stands_left, stands_right}
use Rattle.desk_top.specs.Made.{BuildMade, IsMadeAs}
use Rattle.desk_top.specs.SessionMade.{HasMade, IsOf, TakesRows, all_made, rows_made}
use Rattle.desk_top.specs.declared.callers.BuiltAt.{BuiltAt}
use Rattle.desk_top.proofs.AgainLaws.{less_or_same}
use Rattle.desk_top.proofs.SessionMadeLaws.{all_later}

-- Whoever takes sessions in

abbrev published_by : View → List RowData
published_by u = u.published

pub rows_none : (v : View) → TakesRows v [] v
rows_none v = record {
  limits = refl;
  published = sym (append-nil v.published);
  own = λ row stands. stands;
  rows = λ at u here. absurd (none-some u here);
}

pub rows_more : (v w new : View) (others : List View) (other : View) → TakesRows v others w → Joins w other new
    → TakesRows v (others ++ other ∷ []) new
rows_more v w new others other takes joins =
    let rows = ap (λ (u : View). u.rows) joins.knows in
    record {
      limits = ap (λ (u : View). u.limits) joins.knows ∙ takes.limits;
      published = ap (λ (u : View). u.published) joins.knows
          ∙ ap (λ list. list ++ other.published) takes.published
          ∙ append_assoc v.published (flat_map published_by others) other.published
          ∙ ap (λ list. v.published ++ list) (sym (flat_map-append published_by others (other ∷ [])
          ∙ ap (λ list. flat_map published_by others ++ list) (append-nil other.published)));
      own = λ row stands. subst (λ (list : List RowData). Stands list row) (sym rows)
          (stands_left w.rows other.rows row (takes.own row stands));
      rows = λ at u here row stands. subst (λ (list : List RowData). Stands list row) (sym rows)
          (⊎_elim (λ first. stands_left w.rows other.rows row (takes.rows first.0 u first.1 row stands))
          (λ last. stands_right w.rows other.rows row (here_is u last.0 last.1 row stands))
          (stands_either others (other ∷ []) at u here));
    }
  where
    here_is : (u : View) (k : ℕ) → slice_get (other ∷ []) k ≡ Some u → (row : RowData) → Stands u.rows row
        → Stands other.rows row
    here_is u zero at row stands = subst (λ (x : View). Stands x.rows row) (sym (same_Some other u at)) stands
    here_is u (suc k) at row stands = absurd (none-some u at)

-- Sessions together

zip_append : {X Y : Type 0} (R : X → Y → Type 0) (xs more : List X) (ys others : List Y) → AllZip R xs ys
    → AllZip R more others → AllZip R (xs ++ more) (ys ++ others)
zip_append R [] more [] others first second = second
zip_append R [] more (y ∷ ys) others first second = absurd first
zip_append R (x ∷ xs) more [] others first second = absurd first
zip_append R (x ∷ xs) more (y ∷ ys) others first second = (first.0, zip_append R xs more ys others first.1 second)

module _ (means : Meaning) (language : Language) (log : List Entry) {C : Type 0} (view : C → View)
    (gave : C → List BuiltAt) where
  -- a session of this number
  pub record IsSessionAt (number : ℕ) (c : C) : Type 0 where
    pub later : StartsWith log (view c).seen
    pub of : (view c).session ≡ number
    pub made : HasMade means language (view c) (gave c)

  -- sessions of these numbers and those that follow
  abbrev pub AreSessionsFrom : ℕ → List C → Type 0
  AreSessionsFrom from callers = (k : ℕ) (c : C) → slice_get callers k ≡ Some c → IsSessionAt (k + from) c

  -- who knows a row
  pub record IsKnownBy (callers : List C) (row : RowData) : Type 0 where
    pub at : ℕ
    pub who : C
    pub stands : slice_get callers at ≡ Some who
    pub knows : Stands (view who).rows row

  pub record AreGathered (from : ℕ) (callers : List C) : Type 0 where
    pub all : List BuildMade
    pub of : AllZip (IsOf language) (flat_map gave callers) all
    pub each : Each (IsMadeAs means language log) all
    pub behind : Each (λ (one : BuildMade). from ≤ one.session) all
    pub follow : (one other : BuildMade) → Stands all one → Stands all other → other.session ≡ one.session
        → one.place < other.place → Each (Stands other.known) one.cited
    pub published : flat_map (λ c. (view c).published) callers ≡ all_made all
    pub cited : (one : BuildMade) → Stands all one → (row : RowData) → Stands one.cited row → IsKnownBy callers row

  module _ (from : ℕ) (c : C) (callers : List C) (first : IsSessionAt from c) (rest : AreGathered (from + 1) callers) where
    abbrev mine : List BuildMade
    mine = first.made.builds

    own_at : (one : BuildMade) → Stands mine one → one.session ≡ from
    own_at one stands =
        each_at (λ (b : BuildMade). b.session ≡ (view c).session) mine stands.0 one first.made.own stands.1 ∙ first.of

    behind_at : (one : BuildMade) → Stands rest.all one → from + 1 ≤ one.session
    behind_at one stands =
        each_at (λ (b : BuildMade). from + 1 ≤ b.session) rest.all stands.0 one rest.behind stands.1

    follow_mine : (one other : BuildMade) → Stands mine one → Stands mine other → one.place < other.place
        → Each (Stands other.known) one.cited
    follow_mine one other here there less = ⊎_elim
        (λ before. (first.made.follow here.0 there.0 one other before here.1 there.1).known)
        (λ more. ⊎_elim
        (λ same. (let is : one ≡ other = same_Some one other (sym here.1 ∙ ap (slice_get mine) same ∙ there.1) in
        let places = ap (λ (b : BuildMade). b.place) is in absurd (omega (arith, places, less))))
        (λ after. (let wrong = (first.made.follow there.0 here.0 other one after there.1 here.1).place in
        absurd (omega (arith, wrong, less)))) more)
        (less_or_same here.0 there.0)

    follow_by : (one other : BuildMade) → other.session ≡ one.session → one.place < other.place
        → Stands mine one ⊎ Stands rest.all one → Stands mine other ⊎ Stands rest.all other
        → Each (Stands other.known) one.cited
    follow_by one other same less (inl here) (inl there) = follow_mine one other here there less
    follow_by one other same less (inl here) (inr there) =
        absurd (omega (arith, own_at one here, behind_at other there, same))
    follow_by one other same less (inr here) (inl there) =
        absurd (omega (arith, behind_at one here, own_at other there, same))
    follow_by one other same less (inr here) (inr there) = rest.follow one other here there same less

    cited_by : (one : BuildMade) → (row : RowData) → Stands one.cited row → Stands mine one ⊎ Stands rest.all one
        → IsKnownBy (c ∷ callers) row
    cited_by one row stands (inl here) = record {
      at = 0;
      who = c;
      stands = refl;
      knows = each_at (Stands (view c).rows) one.cited stands.0 row
          (each_at (λ (b : BuildMade). Each (Stands (view c).rows) b.cited) mine here.0 one first.made.cited here.1)
          stands.1;
    }
    cited_by one row stands (inr there) =
        let known = rest.cited one there row stands in
        record { at = suc known.at; who = known.who; stands = known.stands; knows = known.knows }

    gather_one : AreGathered from (c ∷ callers)
    gather_one = record {
      all = mine ++ rest.all;
      of = zip_append (IsOf language) (gave c) (flat_map gave callers) mine rest.all first.made.of rest.of;
      each = each_append (IsMadeAs means language log) mine rest.all
          (all_later means language log (view c).seen mine first.later first.made.each) rest.each;
      behind = each_append (λ (b : BuildMade). from ≤ b.session) mine rest.all
          (each_onward (λ (b : BuildMade). b.session ≡ (view c).session) (λ (b : BuildMade). from ≤ b.session) mine
          (λ b same. omega (arith, same, first.of)) first.made.own)
          (each_onward (λ (b : BuildMade). from + 1 ≤ b.session) (λ (b : BuildMade). from ≤ b.session) rest.all
          (λ b more. omega (arith, more)) rest.behind);
      follow = λ one other here there same less. follow_by one other same less
          (stands_either mine rest.all here.0 one here.1) (stands_either mine rest.all there.0 other there.1);
      published = (λ i. first.made.published i ++ rest.published i) ∙ sym (flat_map-append rows_made mine rest.all);
      cited = λ one stands row cites. cited_by one row cites (stands_either mine rest.all stands.0 one stands.1);
    }

  sessions_behind : (from : ℕ) (c : C) (callers : List C) → AreSessionsFrom from (c ∷ callers)
      → AreSessionsFrom (from + 1) callers
  sessions_behind from c callers are k other at =
      subst (λ number. IsSessionAt number other) (omega arith) (are (suc k) other at)

  pub gather : (from : ℕ) (callers : List C) → AreSessionsFrom from callers → AreGathered from callers
  gather from [] are = record {
    all = [];
    of = tt;
    each = tt;
    behind = tt;
    follow = λ one other here. absurd (none-some one here.1);
    published = refl;
    cited = λ one stands. absurd (none-some one stands.1);
  }
  gather from (c ∷ callers) are =
      let same : 0 + from ≡ from = omega arith in
      gather_one from c callers (subst (λ number. IsSessionAt number c) same (are 0 c refl))
      (gather (from + 1) callers (sessions_behind from c callers are))
