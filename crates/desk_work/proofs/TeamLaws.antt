-- Workers beside each other: what each did from its start on, and what the pass did once their hands are joined.
use Rattle.std.proofs.Common.{◌≡◌, ℕ, ◌+◌, ◌-◌, List, [], ◌∷◌, ◌++◌, sym, ap, ◌∙◌, subst, append_assoc, arith}
use Rattle.std.proofs.lemmas.List.{append-nil}
use Rattle.desk_core.specs.Book.{SnapshotData}
use Rattle.facts.specs.Rows.{RowData}
use Rattle.std.specs.Prelude.{IfSome, Option}
use Rattle.desk_lock.specs.Calls.{Joins}
use Rattle.desk_lock.specs.Knows.{arrived, hand_parts, parted}
use Rattle.desk_lock.specs.Tokens.{hand_view}
use Rattle.desk_lock.specs.declared.desk.Desk.{Desk}
use Rattle.desk_lock.specs.declared.desk.Hand.{Hand}
use Rattle.desk_lock.specs.declared.view.View.{View}
use Rattle.desk_work.specs.Attempts.{WorksOn}
use Rattle.desk_work.specs.Dealing.{AreNew, all_of}
use Rattle.desk_work.specs.Sites.{IsAtWork}
use Rattle.desk_work.specs.Teams.{GoesOnWith, HasWorked, IsHired}
use Rattle.desk_work.specs.Work.{Basis, Cites, Job, Progress}
use Rattle.desk_work.proofs.Lists.{each_onward, if_some_onward}
use Rattle.desk_work.proofs.ProgressLaws.{progress_join, progress_start}

-- parts that are given away one after the other are given away together
pub parted_then : (v : View) (n m : ℕ) → parted (parted v n) m ≡ parted v (n + m)
parted_then v n m = ap (λ parts. record v { parts = parts }) (parts_then v.parts n m)
  where
    parts_then : (all n m : ℕ) → all - n - m ≡ all - (n + m)
    parts_then all n m = omega arith

pub all_push : (piles : List (List Job)) (pile : List Job) → all_of (piles ++ pile ∷ []) ≡ all_of piles ++ pile
all_push [] pile = append-nil pile
all_push (one ∷ piles) pile =
    ap (λ (rest : List Job). one ++ rest) (all_push piles pile) ∙ sym (append_assoc one (all_of piles) pile)

module _ (basis : Basis) where
  -- what workers did is the same whatever parts the pass has
  pub progress_parted : (v u : View) (parts : ℕ) (jobs : List Job) → Progress basis v u jobs
      → Progress basis v (parted u parts) jobs
  progress_parted v u parts jobs before = record {
    rows = before.rows;
    worked = record {
      seen = before.worked.seen;
      session = before.worked.session;
      limits = before.worked.limits;
      mine = before.worked.mine;
      theirs = before.worked.theirs;
      published = before.worked.published;
      drawn = before.worked.drawn;
      released = before.worked.released;
      known = before.worked.known;
      met = before.worked.met;
      stand = before.worked.stand;
      ended = before.worked.ended;
      fits = before.worked.fits;
      above = before.worked.above;
    };
    done = each_onward (λ (job : Job). IfSome job.row (Cites basis v u job.key before.rows))
        (λ (job : Job). IfSome job.row (Cites basis v (parted u parts) job.key before.rows)) jobs
        (λ job. if_some_onward job.row (Cites basis v u job.key before.rows)
        (Cites basis v (parted u parts) job.key before.rows)
        (λ row cites. record { right = cites.right; stands = cites.stands; source = cites.source })) before.done;
    once = before.once;
    among = before.among;
  }

  module _ {B : Type 0} (desk : Desk B) where
    -- a hand that was just made has worked at its parts
    pub hired_works : (from : View) (snapshot : SnapshotData) (plan : Option RowData) (old new : Hand B)
        (jobs more : List Job) → IsHired desk from old → AreNew jobs
        → WorksOn basis (hand_view old) jobs (hand_view new) more → IsAtWork desk snapshot plan new
        → HasWorked basis desk from more new
    hired_works from snapshot plan old new jobs more hired fresh works at = record {
      of = at.of;
      one = at.one;
      progress = works.goes_on (arrived from from.session hand_parts)
          (subst (λ (x : View). Progress basis (arrived from from.session hand_parts) x jobs) (sym hired.new)
          (progress_start basis (arrived from from.session hand_parts) jobs fresh));
    }

    -- one hand more is joined
    pub team_joins : (from u w : View) (hand : Hand B) (piles : List (List Job)) (jobs : List Job)
        → GoesOnWith basis from u piles → HasWorked basis desk from jobs hand → Joins u (hand_view hand) w
        → GoesOnWith basis from w (piles ++ jobs ∷ [])
    team_joins from u w hand piles jobs goes_on worked joins v first before =
        subst (λ (list : List Job). Progress basis v w list)
        (append_assoc first (all_of piles) jobs
        ∙ ap (λ (rest : List Job). first ++ rest) (sym (all_push piles jobs)))
        (progress_join basis v u from (hand_view hand) w from.session hand_parts (first ++ all_of piles) jobs
        (goes_on v first before) before.worked.known worked.progress joins)
