-- The sessions of a run (own): each is served by a pass of its own, which the first pass of the desk gave before anything
-- was seen. What the sessions of all connections were, and who took in what they knew.
use Rattle.std.specs.Prelude.{◌≡◌, ◌≢◌, ◌+◌, ◌++◌, ℕ, List, [], ◌∷◌, flat_map, map}
use Rattle.dita_outside.specs.Links.{LinkTold, Links}
use Rattle.facts.specs.Rows.{Stands}
use Rattle.version_store.specs.Kept.{entry_limit_of_desk, text_limit_of_desk}
use Rattle.desk_core.specs.declared.limits.Limits.{Limits}
use Rattle.desk_lock.specs.Knows.{fresh, session_parts, with_session}
use Rattle.desk_lock.specs.Lists.{Each, StartsWith}
use Rattle.desk_lock.specs.declared.view.View.{View}
use Rattle.desk_session.specs.Answers.{CleanBuild}
use Rattle.desk_session.specs.Pass.{ServesPass}
use Rattle.desk_session.specs.declared.end.SessionEnd.{SessionEnd}
use Rattle.desk_session.specs.declared.end.SessionEnd.TheVariants.{NoMemory}

-- the history may have as many entries, and as much text, as that of any desk
pub record AreStandard (limits : Limits) : Type 0 where
  pub entries : limits.entries ≡ entry_limit_of_desk
  pub text : limits.text_bytes ≡ text_limit_of_desk

-- what the pass of the session of this number knows before it is served
abbrev pub session_view : Limits → ℕ → View
session_view limits session = record (fresh limits session_parts) { session = session }

-- a session that has ended: what its pass knows, what its link told when it came and when it went, and its end
pub record Served : Type 0 where
  pub view : View
  pub came : LinkTold
  pub went : LinkTold
  pub ended : SessionEnd

abbrev pub views : List Served → List View
views served = map (λ (one : Served). one.view) served

abbrev pub links_come : List Served → Links
links_come served = map (λ (one : Served). one.came) served

abbrev pub links_gone : List Served → Links
links_gone served = map (λ (one : Served). one.went) served

-- sessions of this number and of those that follow
abbrev pub AreServed : CleanBuild → Limits → ℕ → List Served → Type 0
AreServed clean limits session [] = Unit {0}
AreServed clean limits session (one ∷ more) =
    ServesPass clean (session_view limits session) one.view one.came one.went one.ended
    × AreServed clean limits (session + 1) more

-- it did not end out of memory
abbrev pub IsWell : Served → Type 0
IsWell one = one.ended ≢ NoMemory

-- the entries of a party, and of those that it took in
abbrev pub brought : View → List (ℕ × ℕ)
brought u = u.theirs ++ with_session u.session u.mine

-- it took in all that these knew
pub record TakesIn (v : View) (others : List View) (w : View) : Type 0 where
  pub limits : w.limits ≡ v.limits
  pub mine : w.mine ≡ v.mine
  pub theirs : w.theirs ≡ v.theirs ++ flat_map brought others
  pub seen : Each (λ (u : View). StartsWith w.seen u.seen) others
  pub rows : Each (λ (u : View). Each (Stands w.rows) u.rows) others
