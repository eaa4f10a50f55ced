-- Opening the gate after no event, after an entry and after a claim keeps the rule.
use Rattle.std.proofs.Common.{◌≡◌, ℕ, zero, suc, ◌<◌, ◌≤◌, ◌⊎◌, List, [], ◌∷◌, ◌++◌, Option, Some, None, refl, sym, ap, ◌∙◌, inl, inr, ⊎_elim, arith, length, set, get_or-set_same, length-append, length-set, append_assoc}
use Rattle.std.specs.List.{slice_get}
use Rattle.std.proofs.lemmas.List.{append-nil}
use Rattle.std.proofs.lemmas.Option.{none-some, same_Some}
use mathlib.Core.Logic.{dite}
use mathlib.Core.Option.{some, some-injective}
use native.Mathlib.Decide.{ℕ_discrete}
use lib.ListN.{get_elem?}
use Rattle.atomic_table.specs.Table.{State}
use Rattle.atomic_table.proofs.Lists.{at_set, set_here}
use Rattle.dita_doc.specs.History.{Entry}
use Rattle.facts.specs.Rows.{Claim, RowData}
use Rattle.desk_core.specs.Book.{BookData}
use Rattle.desk_lock.specs.Knows.{given, has_met, looked}
use Rattle.desk_lock.specs.Lists.{Each, StartsWith}
use Rattle.desk_lock.specs.Past.{IsDrawn, IsPrinted, Past}
use Rattle.desk_lock.specs.Rule.{IsOfPast, IsShut, RuleKept}
use Rattle.desk_lock.specs.declared.view.View.{View}
use Rattle.desk_lock.proofs.GateLaws.{kept_of}
use Rattle.desk_lock.proofs.RuledLaws.{Ruled, ruled_set}

-- Lists

pub each_with : {X : Type 0} (P : X → Type 0) (xs : List X) (x : X) → Each P xs → P x → Each P (xs ++ x ∷ [])
each_with P [] x each last = (last, tt)
each_with P (y ∷ ys) x each last = (each.0, each_with P ys x each.1 last)

pub each_map : {X : Type 0} (P Q : X → Type 0) (xs : List X) → ((x : X) → P x → Q x) → Each P xs → Each Q xs
each_map P Q [] onward each = tt
each_map P Q (x ∷ xs) onward each = (onward x each.0, each_map P Q xs onward each.1)

pub get_either : {X : Type 0} (xs : List X) (last : X) (k : ℕ) (x : X) → slice_get (xs ++ last ∷ []) k ≡ Some x
    → (slice_get xs k ≡ Some x) ⊎ ((k ≡ length xs) × (last ≡ x))
get_either [] last zero x e = inr (refl, same_Some last x e)
get_either [] last (suc k) x e = absurd (none-some x e)
get_either (y ∷ ys) last zero x e = inl e
get_either (y ∷ ys) last (suc k) x e =
    ⊎_elim (λ there. inl there) (λ here. inr (ap suc here.0, here.1)) (get_either ys last k x e)

pub starts_longer : {X : Type 0} (xs first more : List X) → StartsWith xs first → StartsWith (xs ++ more) first
starts_longer xs first more starts =
    (starts.0 ++ more, ap (λ list. list ++ more) starts.1 ∙ append_assoc first starts.0 more)

pub starts_length : {X : Type 0} (xs first : List X) → StartsWith xs first → length first ≤ length xs
starts_length xs first starts =
    let l : length xs ≡ length (first ++ starts.0) = ap (λ list. length list) starts.1 in
    let a = length-append first starts.0 in omega arith

-- Opening the gate

module _ {B : Type 0} (shown : B → BookData) where
  -- who holds the gate opens it with a book, of which the rule but for the gate holds
  pub opens_gate : (s : State (Option B) View) (h : RuleKept shown s) (by : ℕ) (v : View) (taken : BookData)
      → get_elem? s.views by ≡ some v → v.held ≡ Some taken → (inside : B) (w : View) (then : Past) → w.held ≡ None
      → length s.homes ≡ 1 → (h.book ≡ taken → Ruled then (shown inside) (set s.views by w))
      → RuleKept shown (record {
        words = set s.words 0 0;
        homes = set s.homes 0 (some (Some inside));
        views = set s.views by w;
      })
  opens_gate s h by v taken at held inside w then free wide ruled = ⊎_elim
      (λ open_gate. absurd (none-some taken (sym (open_gate.free by v at) ∙ held)))
      (λ shut_gate. dite (ℕ_discrete by shut_gate.holder)
      (λ same. opened s h by v taken at held inside w then free wide ruled shut_gate same)
      (λ differ. absurd (none-some taken (sym (shut_gate.others by v differ at) ∙ held))))
      h.gate
    where
      opened : (s : State (Option B) View) (h : RuleKept shown s) (by : ℕ) (v : View) (taken : BookData)
          → get_elem? s.views by ≡ some v → v.held ≡ Some taken → (inside : B) (w : View) (then : Past) → w.held ≡ None
          → length s.homes ≡ 1 → (h.book ≡ taken → Ruled then (shown inside) (set s.views by w))
          → (shut_gate : IsShut shown s h.book) → by ≡ shut_gate.holder
          → RuleKept shown (record {
            words = set s.words 0 0;
            homes = set s.homes 0 (some (Some inside));
            views = set s.views by w;
          })
      opened s h by v taken at held inside w then free wide ruled shut_gate same =
          let is : shut_gate.holding ≡ v = some-injective shut_gate.holding v
          (sym shut_gate.there ∙ ap (λ (n : ℕ). get_elem? s.views n) (sym same) ∙ at) in
          let book : h.book ≡ taken = same_Some h.book taken
          (sym shut_gate.holds ∙ ap (λ (u : View). u.held) is ∙ held) in
          let one = h.one in
          kept_of shown _ then (shown inside) (length-set s.words 0 0 ∙ h.one)
          (inl (record {
            word = get_or-set_same s.words 0 0 0 (omega arith);
            inside = inside;
            home = set_here s.homes 0 (some (Some inside)) (omega arith);
            is_book = refl;
            free = λ other u e. ⊎_elim
                (λ here. sym (ap (λ (x : View). x.held) here.1) ∙ free)
                (λ there. shut_gate.others other u (λ again. there.0 (again ∙ sym same)) there.1)
                (at_set s.views by other w u e);
          }))
          (ruled book)

-- A party that has seen the whole history

module _ (past : Past) (v : View) (fits : IsOfPast past v) where
  pub stamps_seen : (log : List Entry) → StartsWith log v.seen
      → Each (λ (claim : Claim). claim.stamp ≤ length log) v.drawn
  stamps_seen log starts = each_map (λ (claim : Claim). claim.stamp ≤ length v.seen)
      (λ (claim : Claim). claim.stamp ≤ length log) v.drawn
      (λ claim below. let l = starts_length log v.seen starts in omega arith) fits.stamps

  fits_looked : IsOfPast past (looked v past.log)
  fits_looked = record {
    seen = ([], sym (append-nil past.log));
    also = fits.also;
    limits = fits.limits;
    mine = fits.mine;
    theirs = fits.theirs;
    drawn = fits.drawn;
    stamps = stamps_seen past.log fits.seen;
    published = fits.published;
    rows = fits.rows;
    met = fits.met;
    own = fits.own;
  }

  fits_given : (row : RowData) → IsPrinted past.prints row → IsOfPast past (given v past.log row)
  fits_given row print = record {
    seen = ([], sym (append-nil past.log));
    also = fits.also;
    limits = fits.limits;
    mine = fits.mine;
    theirs = fits.theirs;
    drawn = fits.drawn;
    stamps = stamps_seen past.log fits.seen;
    published = fits.published;
    rows = each_with (IsPrinted past.prints) v.rows row fits.rows print;
    met = fits.met;
    own = fits.own;
  }

  fits_met : (claim : Claim) → IsDrawn past.draws claim → IsOfPast past (has_met v past.log claim)
  fits_met claim drawn = record {
    seen = ([], sym (append-nil past.log));
    also = fits.also;
    limits = fits.limits;
    mine = fits.mine;
    theirs = fits.theirs;
    drawn = fits.drawn;
    stamps = stamps_seen past.log fits.seen;
    published = fits.published;
    rows = fits.rows;
    met = each_with (IsDrawn past.draws) v.met claim fits.met drawn;
    own = fits.own;
  }

-- After no event, after a claim for which a row was kept, and after a claim that another runs, the book is as it was

module _ (past : Past) (book : BookData) (views : List View) (by : ℕ) (v : View) (at : get_elem? views by ≡ some v)
    (some_part : 0 < v.parts) (ruled : Ruled past book views) where
  pub ruled_looked : Ruled past book (set views by (looked v past.log))
  ruled_looked = ruled_set past past book book views by v (looked v past.log) at ruled ruled.counted ruled.stock
      (record {
        places = λ weight. refl;
        draws = λ weight. refl;
        prints = λ weight. refl;
        running = λ weight. refl;
        parts = refl;
      })
      (fits_looked past v (ruled.fits by v at)) (λ u f. f) (inl refl) some_part

  pub ruled_given : (row : RowData) → IsPrinted past.prints row → Ruled past book (set views by (given v past.log row))
  ruled_given row print = ruled_set past past book book views by v (given v past.log row) at ruled ruled.counted
      ruled.stock
      (record {
        places = λ weight. refl;
        draws = λ weight. refl;
        prints = λ weight. refl;
        running = λ weight. refl;
        parts = refl;
      })
      (fits_given past v (ruled.fits by v at) row print) (λ u f. f) (inl refl) some_part

  pub ruled_met : (claim : Claim) → IsDrawn past.draws claim → Ruled past book (set views by (has_met v past.log claim))
  ruled_met claim drawn = ruled_set past past book book views by v (has_met v past.log claim) at ruled ruled.counted
      ruled.stock
      (record {
        places = λ weight. refl;
        draws = λ weight. refl;
        prints = λ weight. refl;
        running = λ weight. refl;
        parts = refl;
      })
      (fits_met past v (ruled.fits by v at) claim drawn) (λ u f. f) (inl refl) some_part
