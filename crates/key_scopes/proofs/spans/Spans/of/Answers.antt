use Rattle.std.proofs.Common.{◌≡◌, ◌+◌, ◌-◌, ◌<◌, ◌∙◌, ap, ℕ, List, [], ◌∷◌, ◌++◌, arith, get_or, length, length-append, subst, sym}
use Rattle.std.specs.Option.{option_map_or}
use Rattle.std.proofs.lemmas.Option.{slice_get-get_or}
use Rattle.dita_doc.specs.declared.plan.Scope.{Scope}
use Rattle.key_scopes.specs.Above.{AreEndsFrom, end_at, parent_in, raised_to}
use Rattle.key_scopes.proofs.AboveLaws.{each_more, ends_first, ends_more}
use Rattle.key_scopes.proofs.spans.Spans.of.Goals as goal

longer : (ends : List ℕ) (end : ℕ) {at : ℕ} → length ends ≡ at → length (ends ++ end ∷ []) ≡ at + 1
longer ends end long = omega (arith, long, length-append ends (end ∷ []))

pub loop-at-preserved : goal.loop-at-preserved
loop-at-preserved c =
    let ends = c.loop-at.ends.items in
    record {
      long = ap length c.in_ok-push.ensures.items ∙ longer ends _ c.loop-at.invariant.long;
      each = λ place low. ap (λ all. end_at all place) c.in_ok-push.ensures.items
          ∙ each_more ends c.loop-at.at _ c.loop-at.invariant.long c.loop-at.invariant.each
          c.in_ok-place_of.ensures.place place low;
    }

pub loop-at-2-init : goal.loop-at-2-init
loop-at-2-init c = λ root before.
    let count = length c.args.scopes.now in
    let end : c.loop-at.at ≡ count = omega arith in
    ends_first (parent_in c.args.scopes.now) count c.loop-at.ends.items (c.loop-at.invariant.long ∙ end)
    (λ place low. c.loop-at.invariant.each place (omega (arith, end, low)))

pub loop-at-2-preserved : goal.loop-at-2-preserved
loop-at-2-preserved c = λ root before.
    let scopes = c.args.scopes.now in
    let at = c.loop-at-2.at - 1 in
    let within : at < length scopes = omega (arith, c.loop-at-2.auto.at) in
    let same : c.loop-at-2.at ≡ at + 1 = omega arith in
    let parent : (get_or scopes at c.index-scopes-at.result).parent ≡ parent_in scopes at =
    ap (λ found. option_map_or (λ (scope : Scope). scope.parent) found 0)
    (sym (slice_get-get_or scopes at c.index-scopes-at.result within)) in
    ends_more (parent_in scopes) (length scopes) at c.loop-at-2.ends.items c.raise_around.new.ends.items root before
    within
    (subst (λ n. AreEndsFrom (parent_in scopes) (length scopes) n c.loop-at-2.ends.items) same
    (c.loop-at-2.invariant root before))
    (c.raise_around.ensures
    ∙ ap (λ p. raised_to p (end_at c.loop-at-2.ends.items at) c.loop-at-2.ends.items) parent)

pub returns : goal.returns
returns c = λ root before.
    let done : c.loop-at-2.at ≡ 0 = omega arith in
    subst (λ n. AreEndsFrom (parent_in c.args.scopes.now) (length c.args.scopes.now) n c.loop-at-2.ends.items) done
    (c.loop-at-2.invariant root before)
