-- What the callers of a batch made, once all of them are taken in.
use Rattle.std.proofs.Common.{◌≡◌, ◌≢◌, ◌+◌, ℕ, List, [], Some, All, AllPairs, length, map, option_map, sym, ap, ◌∙◌, subst}
use Rattle.std.specs.List.{slice_get}
use Rattle.std.specs.declared.alloc.Global.{Global}
use Rattle.std.specs.declared.vec.Vec.{Vec}
use Rattle.std.proofs.lemmas.Option.{slice_get-map}
use Rattle.desk_core.specs.Book.{BookData}
use Rattle.map_makers.specs.PlanTells.{meaning}
use Rattle.run_spec.specs.Language.{dita}
use Rattle.desk_lock.specs.Closes.{Closes}
use Rattle.desk_lock.specs.Knows.{all_parts}
use Rattle.desk_lock.specs.Lists.{StartsWith}
use Rattle.desk_lock.specs.Meaning.{Meaning}
use Rattle.desk_lock.specs.declared.desk.Desk.{Desk}
use Rattle.desk_lock.specs.declared.view.View.{View}
use Rattle.desk_work.proofs.Lists.{starts_then}
use Rattle.desk_top.specs.Asked.{TakesIn}
use Rattle.desk_top.specs.BatchMade.{BatchMade}
use Rattle.desk_top.specs.Served.{AreInOrder, HasEnded, HaveAskedAll, IsWell, built_by, places_of, together, view_of}
use Rattle.desk_top.specs.SessionMade.{HasMade, TakesRows}
use Rattle.desk_top.specs.declared.callers.BuiltAt.{BuiltAt}
use Rattle.desk_top.specs.declared.callers.Caller.{Caller}
use Rattle.desk_top.proofs.BatchMadeLaws.{batch_made, flat_mapped}
use Rattle.desk_top.proofs.GatherLaws.{IsSessionAt}
use Rattle.desk_top.proofs.PileLaws.{asks_at}
use Rattle.desk_top.proofs.PlaceLaws.{all_at}

abbrev given_by : Caller → List BuiltAt
given_by caller = (built_by caller).items

-- a caller that found memory knows what it made
pub made_each : (desk : Desk BookData) (after : List Caller) → All IsWell after → All (HasEnded desk) after → (k : ℕ)
    (caller : Caller) → slice_get after k ≡ Some caller → HasMade meaning dita (view_of caller) (given_by caller)
made_each desk after well ended k caller e =
    ((all_at (HasEnded desk) after k caller ended e).answered (all_at IsWell after k caller well e)).made

-- callers in order, each of which knows what it made
pub batch_of : (means : Meaning) (v w : View) (book : BookData) (before after : List Caller) → Closes means w book
    → w.parts ≡ all_parts → v.published ≡ [] → TakesIn v (map view_of after) w → TakesRows v (map view_of after) w
    → AreInOrder before → HaveAskedAll before after → length after ≡ length before → All IsWell after
    → ((k : ℕ) (caller : Caller) → slice_get after k ≡ Some caller → HasMade means dita (view_of caller) (given_by caller))
    → AllPairs (λ (place other : ℕ). place ≢ other) (places_of (together (map built_by after)))
    → BatchMade means dita book (together (map built_by after))
batch_of means v w book before after closes parts fresh takes rows order asked as_many well has once =
    let same = flat_mapped (λ (built : Vec BuiltAt Global). built.items) built_by after in
    subst (BatchMade means dita book) (sym same)
    (batch_made means dita view_of given_by v w book after closes parts fresh rows session
    (subst (λ (built : List BuiltAt). AllPairs (λ (place other : ℕ). place ≢ other) (places_of built)) same once))
  where
    session : (k : ℕ) (caller : Caller) → slice_get after k ≡ Some caller
        → IsSessionAt means dita book.store.history view_of given_by (k + 1) caller
    session k caller e =
        let asks = asks_at before after k caller asked as_many well e in
        let there = slice_get-map view_of after k ∙ ap (option_map view_of) e in
        let later = all_at (λ (u : View). StartsWith w.seen u.seen) (map view_of after) k (view_of caller) takes.too there in
        record {
          later = starts_then book.store.history w.seen (view_of caller).seen closes.begins later;
          of = asks.1.session ∙ order k caller asks.0;
          made = has k caller e;
        }
