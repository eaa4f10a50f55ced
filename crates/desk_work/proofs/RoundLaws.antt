-- Parts that are given out: what a team did with them, in order.
use Rattle.std.proofs.Common.{◌≡◌, ℕ, zero, suc, ◌+◌, ◌-◌, ◌<◌, List, [], ◌∷◌, ◌++◌, Option, Some, Result, Ok, Err, OnErr, refl, sym, ap, ◌∙◌, subst, append_assoc, arith, length, map}
use Rattle.std.proofs.lemmas.List.{append-nil}
use Rattle.dita_doc.specs.declared.fact.FactKey.{FactKey}
use Rattle.dita_doc.specs.declared.fact.Part.TheVariants as parts
use Rattle.facts.specs.Rows.{RowData}
use Rattle.desk_lock.specs.Lists.{Each}
use Rattle.desk_lock.specs.declared.view.View.{View}
use Rattle.desk_language.specs.Language.{pages_from}
use Rattle.desk_work.specs.Attempts.{IsDone, keys_of}
use Rattle.desk_work.specs.Dealing.{AreDealt, SameItems, all_of, pile_keys}
use Rattle.desk_work.specs.Rounds.{GetsRows, GoesOnBy, TriesParts}
use Rattle.desk_work.specs.Sites.{ArePartsOf, IsPartOf}
use Rattle.desk_work.specs.Teams.{GoesOnWith, TeamDoes, TeamFails, TeamsOn}
use Rattle.desk_work.specs.Work.{Basis, Job, Progress}
use Rattle.desk_work.proofs.Lists.{each_at, each_from, starts_equal}
use Rattle.desk_work.proofs.ProgressLaws.{progress_same}
use Rattle.desk_work.proofs.UndealLaws.{dealt_each, same_behind, undealt}
use Rattle.desk_work.proofs.WorkLaws.{key_each}

pub on_err : {A E P : Type 0} (result : Result A E) → P → OnErr result P
on_err (Ok answer) holds = tt
on_err (Err stop) holds = holds

-- the parts on the piles are those of the root's build
pub piles_of : (root : FactKey) (plan : Option RowData) (homes : List ℕ) (keys : List FactKey) (piles : List (List Job))
    → AreDealt homes keys (pile_keys piles) → Each (IsPartOf root plan) keys → Each (ArePartsOf root plan) piles
piles_of root plan homes keys piles dealt parts =
    jobs_of piles (dealt_each (IsPartOf root plan) homes keys (pile_keys piles) dealt parts)
  where
    jobs_of : (ps : List (List Job)) → Each (λ (pile : List FactKey). Each (IsPartOf root plan) pile) (pile_keys ps)
        → Each (ArePartsOf root plan) ps
    jobs_of [] each = tt
    jobs_of (pile ∷ ps) each = (key_each (IsPartOf root plan) pile each.0, jobs_of ps each.1)

-- the piles that come back were dealt as those that were given out
pub dealt_still : (homes : List ℕ) (keys : List FactKey) (piles more : List (List Job)) → pile_keys more ≡ pile_keys piles
    → AreDealt homes keys (pile_keys piles) → AreDealt homes keys (pile_keys more)
dealt_still homes keys piles more same dealt =
    subst (λ (ps : List (List FactKey)). AreDealt homes keys ps) (sym same) dealt

module _ (basis : Basis) (before : View) where
  -- nothing was given out
  pub tries_none : (keys : List FactKey) → TriesParts basis before keys before
  tries_none keys = record {
    jobs = [];
    keys_are = (keys, refl);
    goes_on = λ v first progress. subst (λ (list : List Job). Progress basis v before list) (sym (append-nil first))
        progress;
  }

  -- parts in another order
  on_same : (after : View) (piles : List (List Job)) (jobs : List Job) → SameItems (all_of piles) jobs
      → GoesOnWith basis before after piles → GoesOnBy basis before jobs after
  on_same after piles jobs same goes_on v first progress = progress_same basis v after (first ++ all_of piles)
      (first ++ jobs) (same_behind first (all_of piles) jobs same) (goes_on v first progress)

  teams_tried : (after : View) (homes : List ℕ) (keys : List FactKey) (piles more : List (List Job))
      → AreDealt homes keys (pile_keys piles) → TeamsOn basis before piles after more → TriesParts basis before keys after
  teams_tried after homes keys piles more dealt teams =
      let ordered = undealt homes keys more (dealt_still homes keys piles more teams.same dealt) in
      record {
        jobs = ordered.jobs;
        keys_are = starts_equal keys (keys_of ordered.jobs) (sym ordered.keys_are);
        goes_on = on_same after more ordered.jobs ordered.same teams.goes_on;
      }

  pub team_failed : (after : View) (homes : List ℕ) (keys : List FactKey) (piles : List (List Job))
      → AreDealt homes keys (pile_keys piles) → TeamFails basis before piles after → TriesParts basis before keys after
  team_failed after homes keys piles dealt fails = teams_tried after homes keys piles fails.more dealt fails.teams

  pub team_tried : (after : View) (homes : List ℕ) (keys : List FactKey) (piles more : List (List Job))
      → AreDealt homes keys (pile_keys piles) → TeamDoes basis before piles after more → TriesParts basis before keys after
  team_tried after homes keys piles more dealt does = teams_tried after homes keys piles more dealt does.teams

  pub team_got : (after : View) (keys : List FactKey) (piles more : List (List Job)) (jobs : List Job)
      (rows : List RowData) → TeamDoes basis before piles after more → keys_of jobs ≡ keys → SameItems (all_of more) jobs
      → map (λ (job : Job). job.row) jobs ≡ map (λ (row : RowData). Some row) rows
      → GetsRows basis before keys after rows
  team_got after keys piles more jobs rows does keys_are same rows_are = record {
    jobs = jobs;
    keys_are = keys_are;
    rows_are = rows_are;
    goes_on = on_same after more jobs same does.teams.goes_on;
  }

-- each part is done in another order too
pub done_same : (xs ys : List Job) → SameItems xs ys → Each IsDone xs → Each IsDone ys
done_same xs ys same done = each_from IsDone ys (λ k job at.
    let there = same.back job (k, at) in each_at IsDone xs there.0 job done there.1)

-- one page more
pub page_more : (root page : FactKey) (front all : List FactKey) (index total : ℕ) → index < total
    → page ≡ record root { part = parts.Page index }
    → front ++ pages_from root.map root.val index (total - index) ≡ all
    → (front ++ page ∷ []) ++ pages_from root.map root.val (index + 1) (total - (index + 1)) ≡ all
page_more root page front all index total within is before =
    let rest = pages_from root.map root.val (index + 1) (total - (index + 1)) in
    let count : suc (total - (index + 1)) ≡ total - index = omega arith in
    append_assoc front (page ∷ []) rest ∙ ap (λ (key : FactKey). front ++ (key ∷ rest)) is
    ∙ ap (λ n. front ++ pages_from root.map root.val index n) count ∙ before

-- the same parts
pub tries_same : (basis : Basis) (before after : View) (keys others : List FactKey) → keys ≡ others
    → TriesParts basis before keys after → TriesParts basis before others after
tries_same basis before after keys others same tries =
    subst (λ (list : List FactKey). TriesParts basis before list after) same tries

-- so many pages, and the contents page
pub length_pages : (root : List ℕ) (val : Option (List ℕ)) (index more : ℕ)
    → length (pages_from root val index more) ≡ more + 1
length_pages root val index zero = refl
length_pages root val index (suc more) = let r = length_pages root val (index + 1) more in omega arith
