-- Each opening of the gate keeps the rule and tells what its play says, if the book that is given up is the one that was
-- taken, or that after one event.
use Rattle.std.proofs.Common.{◌≡◌, ℕ, suc, ◌+◌, ◌-◌, ◌<◌, ◌≤◌, ◌⊎◌, List, [], ◌∷◌, ◌++◌, Option, Some, None, refl, sym, ap, ◌∙◌, subst, inl, inr, ⊎_elim, arith, length, drop, set}
use Rattle.std.proofs.lemmas.List.{length-drop}
use mathlib.Core.Option.{some}
use lib.ListN.{get_elem?}
use Rattle.atomic_table.specs.Table.{Allows, Me, gives}
use Rattle.dita_doc.specs.History.{Entry}
use Rattle.facts.specs.Rows.{Claim, RowData, Running, Stands, claim_of, plan_in}
use Rattle.facts.specs.Table as table_spec
use Rattle.desk_core.specs.Book.{BookData}
use Rattle.desk_lock.specs.Knows.{drew, ends, given, has_met, holding, let_go, looked, made, printed}
use Rattle.desk_lock.specs.Lists.{IsNoneOf}
use Rattle.desk_lock.specs.Past.{HasPlanAmong, IsDrawn, IsPrinted, Past, row_claim}
use Rattle.desk_lock.specs.Rule.{RuleKept}
use Rattle.desk_lock.specs.Steps.{Commits, Had, IsGranted, LetsGo, Met, Prints, Sees}
use Rattle.desk_lock.specs.declared.view.View.{View}
use Rattle.desk_lock.proofs.EndLaws.{ruled_let_go}
use Rattle.desk_lock.proofs.EventLaws.{opens_gate, ruled_given, ruled_looked, ruled_met}
use Rattle.desk_lock.proofs.GateLaws.{ruled_of}
use Rattle.desk_lock.proofs.GrowthLaws.{granted, logged, ruled_drew, ruled_made}
use Rattle.desk_lock.proofs.LearnsLaws.{kept_print}
use Rattle.desk_lock.proofs.PublishLaws.{ruled_printed, with_print}
use Rattle.desk_lock.proofs.RuledLaws.{Ruled}
use Rattle.desk_lock.proofs.Weights.{each_stands}

-- The books after one event

abbrev pub after_entry : BookData → Entry → BookData
after_entry book entry =
    record book { store = record book.store { history = book.store.history ++ entry ∷ [] } }

abbrev pub after_claim : BookData → Running → BookData
after_claim book one = record book {
  table = record book.table { running = book.table.running ++ one ∷ []; drawn = book.table.drawn + 1 };
}

abbrev pub after_release : BookData → ℕ → BookData
after_release book serial =
    record book { table = record book.table { running = table_spec.others serial book.table.running } }

abbrev pub after_row : BookData → ℕ → RowData → BookData
after_row book serial row = record book {
  table = record book.table {
    rows = table_spec.left book.table.limit (book.table.rows ++ row ∷ []);
    running = table_spec.others serial book.table.running;
    dropped = book.table.dropped + (length (book.table.rows ++ row ∷ [])
        - length (table_spec.left book.table.limit (book.table.rows ++ row ∷ [])));
  };
}

module _ {B : Type 0} (shown : B → BookData) (by : ℕ) (v : View) (taken : BookData) (inside : B)
    (some_part : 0 < v.parts) where
  abbrev holder : View
  holder = holding v taken

  abbrev me : Me (Option B) View
  me = (holder, (0, Some inside) ∷ [])

  abbrev log : List Entry
  log = (shown inside).store.history

  opens : (grown : Past → Past) (w : View) → w.held ≡ None → (Then : Me (Option B) View → Type 0) → Then (w, [])
      → ((past : Past) (book : BookData) (views : List View) → get_elem? views by ≡ some holder → Ruled past book views
      → book ≡ taken → Ruled (grown past) (shown inside) (set views by w))
      → (slots : ℕ) → slots ≡ 1 → Allows (RuleKept shown) slots by me 0 (λ _. 0) (λ _. Then)
  opens grown w free Then told ruled slots one s h wide at bound = (
    w,
    gives,
    tt,
    opens_gate shown s h by holder taken at refl inside w (grown h.past) free (wide ∙ one)
        (ruled h.past h.book s.views at (ruled_of shown s h)),
    told,
  )

  -- after no event, or after a claim that changed nothing of the book
  unchanged : (past : Past) (book : BookData) (views : List View) (W : List Entry → View) → shown inside ≡ taken
      → book ≡ taken → Ruled past book views → Ruled past book (set views by (W past.log))
      → Ruled past (shown inside) (set views by (W log))
  unchanged past book views W same is ruled there =
      subst (λ (b : BookData). Ruled past b (set views by (W b.store.history))) (is ∙ sym same)
      (subst (λ (l : List Entry). Ruled past book (set views by (W l))) (sym ruled.stock.history) there)

  pub sees : shown inside ≡ taken → (slots : ℕ) → slots ≡ 1
      → Allows (RuleKept shown) slots by me 0 (λ _. 0) (λ _. Sees shown me 0)
  sees same = opens (λ past. past) (looked holder log) refl (Sees shown me 0) refl
      (λ past book views at ruled is. unchanged past book views (looked holder) same is ruled
      (ruled_looked past book views by holder at some_part ruled))

  pub has : (row : RowData) → Stands taken.table.rows row → shown inside ≡ taken → (slots : ℕ) → slots ≡ 1
      → Allows (RuleKept shown) slots by me 0 (λ _. 0) (λ _. Had shown row me 0)
  has row stands same = opens (λ past. past) (given holder log row) refl (Had shown row me 0) refl
      (λ past book views at ruled is.
      let kept = kept_print past book views ruled.counted ruled.stock ruled.counts ruled.fits row
      (subst (λ (b : BookData). Stands b.table.rows row) (sym is) stands) in
      unchanged past book views (λ l. given holder l row) same is ruled
      (ruled_given past book views by holder at some_part ruled row
      (kept.0, kept.1, ruled.counted.ranks kept.0 row kept.1)))

  pub meets : (claim : Claim) (one : Running) → Stands taken.table.running one → claim_of one ≡ claim
      → shown inside ≡ taken → (slots : ℕ) → slots ≡ 1
      → Allows (RuleKept shown) slots by me 0 (λ _. 0) (λ _. Met shown claim me 0)
  meets claim one stands claims same = opens (λ past. past) (has_met holder log claim) refl (Met shown claim me 0) refl
      (λ past book views at ruled is.
      let here = subst (λ (b : BookData). Stands b.table.running one) (sym is) stands in
      let drawn = each_stands (λ (r : Running). IsDrawn past.draws (claim_of r)) book.table.running
      ruled.stock.running here.0 one here.1 in
      unchanged past book views (λ l. has_met holder l claim) same is ruled
      (ruled_met past book views by holder at some_part ruled claim
      (subst (λ (c : Claim). IsDrawn past.draws c) claims drawn)))

  -- after an entry
  pub commits : (entry : Entry) → entry.session ≡ v.session → shown inside ≡ after_entry taken entry → (slots : ℕ)
      → slots ≡ 1 → Allows (RuleKept shown) slots by me 0 (λ _. 0) (λ _. Commits shown me 0)
  commits entry session after = opens (λ past. logged past entry) (made holder log (length taken.store.history)) refl
      (Commits shown me 0) refl
      (λ past book views at ruled is.
      subst (λ (x : BookData). Ruled (logged past entry) x
      (set views by (made holder x.store.history (length taken.store.history)))) (sym after)
      (subst (λ (b : BookData). Ruled (logged past entry) (after_entry b entry)
      (set views by (made holder (b.store.history ++ entry ∷ []) (length b.store.history)))) is
      (subst (λ (l : List Entry). Ruled (logged past entry) (after_entry book entry)
      (set views by (made holder (l ++ entry ∷ []) (length l)))) (sym ruled.stock.history)
      (ruled_made past entry book views by holder (length past.log) at some_part refl session ruled))))

  -- after a claim that is granted
  pub grants : (claim : Claim) (one : Running) → claim_of one ≡ claim → claim.serial ≡ suc taken.table.drawn
      → claim.stamp ≤ length taken.store.history → shown inside ≡ after_claim taken one → (slots : ℕ) → slots ≡ 1
      → Allows (RuleKept shown) slots by me 0 (λ _. 0) (λ _. IsGranted shown claim me 0)
  grants claim one claims serial stamp after = opens (λ past. granted past claim) (drew holder log claim) refl
      (IsGranted shown claim me 0) refl
      (λ past book views at ruled is.
      let drawn : book.table.drawn ≡ taken.table.drawn = ap (λ (b : BookData). b.table.drawn) is in
      let long : length book.store.history ≡ length taken.store.history =
      ap (λ (b : BookData). length b.store.history) is in
      let whole : length book.store.history ≡ length past.log =
      ap (λ (l : List Entry). length l) ruled.stock.history in
      let count = ruled.stock.drawn in
      subst (λ (x : BookData). Ruled (granted past claim) x (set views by (drew holder x.store.history claim)))
      (sym after)
      (subst (λ (b : BookData). Ruled (granted past claim) (after_claim b one)
      (set views by (drew holder b.store.history claim))) is
      (subst (λ (l : List Entry). Ruled (granted past claim) (after_claim book one)
      (set views by (drew holder l claim))) (sym ruled.stock.history)
      (ruled_drew past claim book one views by holder at some_part claims (omega arith) (omega arith) ruled))))

  -- after a claim is released
  pub lets_go : (claim : Claim) → Stands v.drawn claim → IsNoneOf (ends v) claim.serial
      → shown inside ≡ after_release taken claim.serial → (slots : ℕ) → slots ≡ 1
      → Allows (RuleKept shown) slots by me 0 (λ _. 0) (λ _. LetsGo shown claim.serial me 0)
  lets_go claim stands none after = opens (λ past. past) (let_go holder log claim.serial) refl
      (LetsGo shown claim.serial me 0) refl
      (λ past book views at ruled is.
      subst (λ (x : BookData). Ruled past x (set views by (let_go holder x.store.history claim.serial))) (sym after)
      (subst (λ (b : BookData). Ruled past (after_release b claim.serial)
      (set views by (let_go holder b.store.history claim.serial))) is
      (subst (λ (l : List Entry). Ruled past (after_release book claim.serial)
      (set views by (let_go holder l claim.serial))) (sym ruled.stock.history)
      (ruled_let_go past book views by holder at some_part ruled claim stands none))))

  -- the row of the plan that a party knows
  abbrev pub KnowsPlan : RowData → Type 0
  KnowsPlan row = (row.fact.planned ≡ 0) ⊎ ((planned : RowData) × Stands v.rows planned
      × (planned.serial ≡ row.fact.planned) × (plan_in planned ≡ plan_in row))

  -- after a row is published
  pub prints : (claim : Claim) (row : RowData) → Stands v.drawn claim → IsNoneOf (ends v) claim.serial
      → row_claim row ≡ claim → row.rank ≡ suc (table_spec.made taken.table) → row.mark ≡ taken.table.drawn
      → KnowsPlan row → shown inside ≡ after_row taken claim.serial row → (slots : ℕ) → slots ≡ 1
      → Allows (RuleKept shown) slots by me 0 (λ _. 0) (λ _. Prints shown row me 0)
  prints claim row stands none claims rank mark plan after = opens (λ past. with_print past row) (printed holder log row)
      refl (Prints shown row me 0) refl
      (λ past book views at ruled is.
      let drawn : book.table.drawn ≡ taken.table.drawn = ap (λ (b : BookData). b.table.drawn) is in
      let count : table_spec.made book.table ≡ table_spec.made taken.table =
      ap (λ (b : BookData). table_spec.made b.table) is in
      let rows : length book.table.rows ≡ length (drop book.table.dropped past.prints) =
      ap (λ (list : List RowData). length list) ruled.stock.rows in
      let dropped = length-drop book.table.dropped past.prints in let within = ruled.stock.dropped in
      let planned : HasPlanAmong past.prints row = ⊎_elim (λ own. inl own)
      (λ known. let p = each_stands (IsPrinted past.prints) v.rows (ruled.fits by holder at).rows known.1.0
      known.0 known.1.1 in inr (known.0, (p.0, p.1), known.2, known.3)) plan in
      subst (λ (x : BookData). Ruled (with_print past row) x (set views by (printed holder x.store.history row)))
      (sym after)
      (subst (λ (b : BookData). Ruled (with_print past row) (after_row b claim.serial row)
      (set views by (printed holder b.store.history row))) is
      (subst (λ (l : List Entry). Ruled (with_print past row) (after_row book claim.serial row)
      (set views by (printed holder l row))) (sym ruled.stock.history)
      (ruled_printed past book views by holder at some_part ruled claim stands none row claims (omega arith)
      (omega arith) planned))))
