use Rattle.std.proofs.Common.{◌≡◌, ◌≢◌, ◌∙◌, ◌++◌, ℕ, ap, arith, drop, length, map, sym, subst, take}
use Rattle.std.specs.List.{All, AllPairs}
use Rattle.map_makers.specs.PlanTells.{meaning}
use Rattle.run_spec.specs.Language.{dita}
use Rattle.desk_core.specs.declared.limits.Limits.{Limits}
use Rattle.desk_lock.specs.Tokens.{pass_view}
use Rattle.desk_lock.specs.declared.view.View.{View}
use Rattle.desk_work.proofs.TeamLists.{written_back}
use Rattle.desk_top.specs.Asked.{TakesIn}
use Rattle.desk_top.specs.BatchMade.{BatchMade}
use Rattle.desk_top.specs.Served.{HaveAskedAll, IsServed, IsWell, built_by, places_of, together, view_of}
use Rattle.desk_top.specs.SessionMade.{TakesRows}
use Rattle.desk_top.proofs.BatchOfLaws.{batch_of, made_each}
use Rattle.desk_top.proofs.PileLaws.{history_of, once_of}
use Rattle.desk_top.proofs.ServedLaws.{served_whole}
use Rattle.desk_top.proofs.callers.answer_beside.Given.{Over}
use Rattle.desk_top.proofs.callers.answer_beside.Goals as goal

-- the callers that are taken in are those that were served
back_is : (g : Over) (c : goal.In_ok-built g)
    → take c.in_ok-callers.callers.len (c.serve_all.new.callers
    ++ drop (length c.serve_all.new.callers) c.in_ok-callers.callers.items) ≡ c.serve_all.new.callers
back_is g c = written_back c.in_ok-callers.callers.items c.serve_all.new.callers c.in_ok-callers.callers.len
    (omega (arith, c.serve_all.ensures.count, c.as_mut_slice.ensures.len))

takes : (g : Over) (c : goal.In_ok-built g) → TakesIn (pass_view c.callers_of.new.pass)
    (map view_of c.serve_all.new.callers) (pass_view c.end_all-failed.new.pass)
takes g c = subst (λ list. TakesIn (pass_view c.callers_of.new.pass) (map view_of list) (pass_view c.end_all-failed.new.pass))
    (back_is g c) c.end_all-failed.ensures.takes

rows : (g : Over) (c : goal.In_ok-built g) → TakesRows (pass_view c.callers_of.new.pass)
    (map view_of c.serve_all.new.callers) (pass_view c.end_all-failed.new.pass)
rows g c = subst (λ list. TakesRows (pass_view c.callers_of.new.pass) (map view_of list) (pass_view c.end_all-failed.new.pass))
    (back_is g c) c.end_all-failed.ensures.rows

well : (g : Over) (c : goal.In_ok-built g) → All IsWell c.serve_all.new.callers
well g c = subst (All IsWell) (back_is g c) (c.end_all-failed.ensures.well c.if-failed.false)

asked : (g : Over) (c : goal.In_ok-built g) → HaveAskedAll c.in_ok-callers.callers.items c.serve_all.new.callers
asked g c = subst (λ list. HaveAskedAll list c.serve_all.new.callers) c.as_mut_slice.ensures.value c.serve_all.ensures.asked

as_many : (g : Over) (c : goal.In_ok-built g) → length c.serve_all.new.callers ≡ length c.in_ok-callers.callers.items
as_many g c = c.serve_all.ensures.count ∙ ap length c.as_mut_slice.ensures.value

once : (g : Over) (c : goal.In_ok-built g)
    → AllPairs (λ (place other : ℕ). place ≢ other) (places_of (together (map built_by c.serve_all.new.callers)))
once g c = once_of _ _ _ _ _ c.in_ok-callers.callers.items c.serve_all.new.callers c.close-book.ensures.closes (takes g c)
    c.in_ok-callers.ensures.order (asked g c) (as_many g c) (well g c) c.serve_all.ensures.ended

pub returns-clause-served : goal.returns-clause-served
returns-clause-served g c =
    let left = c.end_all-failed.ensures.left ∙ ap (map built_by) (back_is g c) in
    subst (IsServed c.close-book.result.store.history) (sym c.in_ok-built.ensures)
    (served_whole _ _ _ _ c.close-book.ensures.closes
    (c.end_all-failed.ensures.parts ∙ c.in_ok-callers.ensures.parts)
    (c.end_all-failed.ensures.given c.if-failed.false) c.end_all-failed.ensures.pages
    (subst (λ list. AllPairs (λ (place other : ℕ). place ≢ other) (places_of (together list))) (sym left) (once g c)))

pub returns-clause-one : goal.returns-clause-one
returns-clause-one g c = history_of _ _ _ _ c.args.steps c.in_ok-piles.piles.items c.in_ok-callers.callers.items
    c.serve_all.new.callers c.close-book.ensures.closes (c.end_all-failed.ensures.parts ∙ c.in_ok-callers.ensures.parts)
    c.in_ok-callers.ensures.none (takes g c) c.requires.sessions
    (omega (arith, c.in_ok-piles.ensures.count, c.in_ok-piles.piles.ok.0)) c.in_ok-piles.ensures.piles
    c.in_ok-callers.ensures.asked c.in_ok-callers.ensures.order (asked g c) (as_many g c) (well g c)

pub returns-clause-made : goal.returns-clause-made
returns-clause-made g c =
    let left = c.end_all-failed.ensures.left ∙ ap (map built_by) (back_is g c) in
    subst (BatchMade meaning dita c.close-book.result) (sym (c.in_ok-built.ensures ∙ ap together left))
    (batch_of meaning _ _ _ c.in_ok-callers.callers.items c.serve_all.new.callers c.close-book.ensures.closes
    (c.end_all-failed.ensures.parts ∙ c.in_ok-callers.ensures.parts) c.in_ok-callers.ensures.none.published (takes g c)
    (rows g c) c.in_ok-callers.ensures.order (asked g c) (as_many g c) (well g c)
    (made_each _ c.serve_all.new.callers (well g c) c.serve_all.ensures.ended) (once g c))

pub returns-clause-limit : goal.returns-clause-limit
returns-clause-limit g c =
    ap (λ (limits : Limits). limits.table_bytes) (c.close-book.ensures.closes.limits ∙ c.end_all-failed.ensures.rows.limits
    ∙ c.in_ok-callers.ensures.limits ∙ ap (λ (u : View). u.limits) c.in_ok-desk.ensures.starts)
    ∙ c.standard.ensures.table
