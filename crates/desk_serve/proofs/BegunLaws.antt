-- Sessions that were begun, one after the other: each by a pass that the first pass of the desk gives.
use Rattle.std.proofs.Common.{◌≡◌, ◌<◌, ◌≤◌, ◌+◌, ◌*◌, ◌-◌, ◌++◌, ℕ, List, [], ◌∷◌, length, length-append, map, refl, sym, ap, ◌∙◌, subst, arith}
use Rattle.std.specs.Prelude.{vec_capacity, vec_len}
use Rattle.std.proofs.lemmas.List.{map-append, nil_from_length}
use Rattle.dita_outside.specs.Links.{DoorTold, HasMore, LinkTold}
use Rattle.desk_core.specs.Book.{BookData}
use Rattle.desk_core.specs.declared.limits.Limits.{Limits}
use Rattle.desk_lock.specs.Calls.{Splits}
use Rattle.desk_lock.specs.Knows.{all_parts, arrived, fresh, parted, session_parts}
use Rattle.desk_lock.specs.Tokens.{IsPassOf, pass_view}
use Rattle.desk_lock.specs.declared.desk.Desk.{Desk}
use Rattle.desk_lock.specs.declared.desk.Pass.{Pass}
use Rattle.desk_lock.specs.declared.view.View.{View}
use Rattle.desk_session.specs.Answers.{CleanBuild}
use Rattle.desk_serve.specs.Accepting.{AreBegun, HasAccepted, IsBegunAs, IsFirst, MayAccept, links_of}
use Rattle.desk_serve.specs.Running.{IsBegun, begun_of}
use Rattle.desk_serve.specs.Sessions.{AreStandard, session_view}
use Rattle.desk_serve.specs.declared.accept.Accepted.{Accepted}
use Rattle.desk_serve.specs.declared.session.Running.{Running}
use Rattle.desk_serve.proofs.DoorLaws.{more_none, more_then}

-- The first pass

module _ (v w new : View) (session : ℕ) (first : IsFirst v) (splits : Splits v session session_parts w new) where
  gave : w ≡ fresh v.limits (v.parts - session_parts)
  gave = splits.gave ∙ ap (λ (u : View). parted u session_parts) first.fresh

  pub same_limits : w.limits ≡ v.limits
  same_limits = ap (λ (u : View). u.limits) gave

  pub fewer_parts : w.parts ≡ v.parts - session_parts
  fewer_parts = ap (λ (u : View). u.parts) gave

  pub still_first : IsFirst w
  still_first = record {
    standard = subst AreStandard (sym same_limits) first.standard;
    fresh = subst (λ (u : View). u ≡ fresh u.limits u.parts) (sym gave) refl;
  }

  pub its_view : new ≡ session_view v.limits session
  its_view = splits.got ∙ ap (λ (u : View). arrived u session session_parts) first.fresh

  pub its_parts : new.parts ≡ session_parts
  its_parts = ap (λ (u : View). u.parts) its_view

-- Sessions

module _ {P M L : Type 0} (clean : CleanBuild) (told : L → LinkTold) (desk : Desk BookData) where
  begun_push : (limits : Limits) (from : ℕ) (running : List (Running P M L)) (one : Running P M L)
      → AreBegun clean told desk limits from running → IsBegunAs clean told desk limits (length running + from) one
      → AreBegun clean told desk limits from (running ++ one ∷ [])
  begun_push limits from [] one are is =
      let here : 0 + from ≡ from = omega arith in (subst (λ n. IsBegunAs clean told desk limits n one) here is, tt)
  begun_push limits from (first ∷ running) one are is =
      let next : length (first ∷ running) + from ≡ length running + (from + 1) = omega arith in
      (are.0, begun_push limits (from + 1) running one are.1 (subst (λ n. IsBegunAs clean told desk limits n one) next is))

  pub accepted_none : (connections : ℕ) (now : DoorTold) (accepted : Accepted P M L) → MayAccept connections desk accepted
      → HasAccepted clean told desk now now accepted
  accepted_none connections now accepted may = record {
    of = may.of;
    first = may.first;
    parts = omega (arith, may.all, ap length none);
    begun = subst (AreBegun clean told desk (pass_view accepted.pass).limits 1) (sym none) tt;
    came = subst (λ list. HasMore now.accepted now.accepted (links_of told list)) (sym none) (more_none now.accepted);
    none = more_none now.returned;
  }
    where
      none : accepted.running.items ≡ []
      none = nil_from_length accepted.running.items (omega (arith, may.none, accepted.running.ok.0))

  pub accepted_more : (old now next : DoorTold) (accepted after : Accepted P M L) (pass : Pass BookData) (link : L)
      (session : ℕ) (one : Running P M L) → HasAccepted clean told desk old now accepted
      → session ≡ length accepted.running.items + 1 → session_parts < (pass_view accepted.pass).parts
      → HasMore now.accepted next.accepted (told link ∷ []) → HasMore now.returned next.returned []
      → Splits (pass_view accepted.pass) session session_parts (pass_view after.pass) (pass_view pass)
      → IsBegun clean told desk pass link one → IsPassOf desk after.pass
      → after.running.items ≡ accepted.running.items ++ one ∷ []
      → HasAccepted clean told desk old next after
  accepted_more old now next accepted after pass link session one has number parts came none splits begun of more = record {
    of = of;
    first = still_first v w new session has.first splits;
    parts = omega (
      arith,
      parts,
      has.parts,
      fewer_parts v w new session has.first splits,
      ap length more,
      length-append accepted.running.items (one ∷ []),
    );
    begun = subst (AreBegun clean told desk w.limits 1) (sym more)
        (subst (λ limits. AreBegun clean told desk limits 1 (accepted.running.items ++ one ∷ []))
        (sym (same_limits v w new session has.first splits))
        (begun_push v.limits 1 accepted.running.items one has.begun (record {
          at = begun.at;
          view = ap pass_view begun.by ∙ its_view v w new session has.first splits
              ∙ ap (session_view v.limits) number;
          kept = begun.kept;
        })));
    came = subst (HasMore old.accepted next.accepted) links
        (more_then old.accepted now.accepted next.accepted (links_of told accepted.running.items) (told link ∷ []) has.came came);
    none = more_then old.returned now.returned next.returned [] [] has.none none;
  }
    where
      v : View
      v = pass_view accepted.pass

      w : View
      w = pass_view after.pass

      new : View
      new = pass_view pass

      links : links_of told accepted.running.items ++ told link ∷ [] ≡ links_of told after.running.items
      links = ap (λ one_link. links_of told accepted.running.items ++ told one_link ∷ []) (sym begun.over)
          ∙ sym (map-append (λ (other : Running P M L). told (begun_of other).link.value) accepted.running.items (one ∷ []))
          ∙ ap (links_of told) (sym more)
