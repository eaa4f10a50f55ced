-- The rows that a finished build names are of its pages and of its contents page.
use Rattle.std.proofs.Common.{◌≡◌, ℕ, zero, suc, ◌+◌, List, [], ◌∷◌, Option, Some, None, IfSome, IsSome, refl, sym, ap, subst, map, drop}
use Rattle.std.specs.List.{All}
use Rattle.std.proofs.lemmas.List.Elements.{All-cons, All-nil}
use Rattle.dita_doc.specs.Desk.{State}
use Rattle.dita_doc.specs.declared.fact.FactKey.{FactKey}
use Rattle.dita_outside.specs.Pages.{Pages}
use Rattle.facts.specs.Rows.{RowData, row_data}
use Rattle.row_text.specs.RowWritten.{HasPage, part_shown}
use Rattle.desk_language.specs.Language.{Language, pages_from, parts_with}
use Rattle.desk_lock.specs.Lists.{Each}
use Rattle.desk_lock.specs.Meaning.{IsRightRow, Meaning}
use Rattle.desk_lock.specs.declared.view.View.{View}
use Rattle.desk_work.specs.Build.{BuildOrder, EndsBuilt, NamesCited}
use Rattle.desk_work.specs.Work.{Basis, Cites, Job}
use Rattle.desk_work.specs.declared.built.Built.{Built}
use Rattle.desk_work.specs.declared.built.Outcome.{Outcome}
use Rattle.desk_work.specs.declared.built.Outcome.TheVariants.{Done, Stopped, TooLarge}
use Rattle.desk_work.specs.declared.built.PageRow.{PageRow}
use Rattle.desk_top.specs.Served.{HasPages}

-- a part with lines: a page or the contents page
abbrev IsShownPart : FactKey → Type 0
IsShownPart key = IsSome (part_shown key.part)

-- a right row of such a part has its page
abbrev pub HavePagesIfRight : Meaning → Type 0
HavePagesIfRight means = (row : RowData) (key : FactKey) (state : State) → IsRightRow means row key state → IsShownPart key
    → HasPage row.fact

abbrev HasPageIn : Option RowData → Type 0
HasPageIn row = IfSome row (λ (one : RowData). HasPage one.fact)

from_pages : (root : List ℕ) (val : Option (List ℕ)) (index more : ℕ) → Each IsShownPart (pages_from root val index more)
from_pages root val index zero = (refl, tt)
from_pages root val index (suc more) = (refl, from_pages root val (index + 1) more)

behind_plan : (root : List ℕ) (val : Option (List ℕ)) (count : Option ℕ) → Each IsShownPart (drop 1 (parts_with root val count))
behind_plan root val None = tt
behind_plan root val (Some pages) = from_pages root val 0 pages

module _ (basis : Basis) (v w : View) (rows : List RowData) (have : HavePagesIfRight basis.means) where
  abbrev IsCited : Job → Type 0
  IsCited job = IfSome job.row (Cites basis v w job.key rows)

  one_page : (row : Option RowData) (key : FactKey) → IfSome row (Cites basis v w key rows) → IsShownPart key → HasPageIn row
  one_page None key cites part = tt
  one_page (Some row) key cites part = have row key basis.snapshot.state cites.right part

  all_pages : (jobs : List Job) → Each IsCited jobs → Each IsShownPart (map (λ (job : Job). job.key) jobs)
      → Each HasPageIn (map (λ (job : Job). job.row) jobs)
  all_pages [] cited shown = tt
  all_pages (job ∷ jobs) cited shown = (one_page job.row job.key cited.0 shown.0, all_pages jobs cited.1 shown.1)

  pages_behind : (jobs : List Job) (root : List ℕ) (val : Option (List ℕ)) (count : Option ℕ) → Each IsCited jobs
      → map (λ (job : Job). job.key) jobs ≡ parts_with root val count
      → Each HasPageIn (map (λ (job : Job). job.row) (drop 1 jobs))
  pages_behind [] root val count cited all = tt
  pages_behind (job ∷ jobs) root val count cited all = all_pages jobs cited.1
      (subst (Each IsShownPart) (sym (ap (drop 1) all)) (behind_plan root val count))

abbrev HasItsPage : PageRow → Type 0
HasItsPage page = HasPage (row_data page.row).fact

pages_have : (pages : List PageRow) → Each HasPageIn (map (λ (page : PageRow). Some (row_data page.row)) pages)
    → All HasItsPage pages
pages_have [] each = All-nil HasItsPage
pages_have (page ∷ pages) each = All-cons HasItsPage page pages each.0 (pages_have pages each.1)

by_outcome : (outcome : Outcome) (jobs : List Job) → NamesCited outcome jobs
    → Each HasPageIn (map (λ (job : Job). job.row) (drop 1 jobs)) → HasPages outcome
by_outcome (Done pages faults) jobs cited each = pages_have pages (subst (Each HasPageIn) (sym cited) each)
by_outcome (Stopped stop) jobs cited each = tt
by_outcome (TooLarge total) jobs cited each = tt

pub pages_of_build : (means : Meaning) (language : Language) (v : View) (order : BuildOrder) (built : Built) (w : View)
    (old new : Option Pages) → HavePagesIfRight means → EndsBuilt means language v order built w old new
    → HasPages built.outcome
pages_of_build means language v order built w old new have ends =
    let stood = ends.stood in
    let progress = stood.progress in
    by_outcome built.outcome ends.jobs ends.cited
    (pages_behind _ stood.between w progress.rows have ends.jobs order.root order.val
    (language.page_count ends.state order.root order.val) progress.done ends.whole.all)
