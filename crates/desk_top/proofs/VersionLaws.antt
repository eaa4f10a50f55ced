-- In one history a name that has the same version at two places has the same document there, for its version names the
-- entry that put it. So what is sound of a map agrees at both places alike, if it does in worlds that are alike under the
-- names that it reaches.
use Rattle.std.proofs.Common.{◌≡◌, ℕ, List, Option, Some, None, option_map, refl, sym, ap, ◌∙◌, subst, arith}
use Rattle.std.specs.Arc.{arc_value}
use Rattle.std.specs.List.{slice_get}
use Rattle.std.proofs.lemmas.Option.{same_Some}
use Rattle.dita_doc.specs.Desk.{Stored, nodes_in, stored_under, version_at, version_of}
use Rattle.dita_doc.specs.History.{Entry, sources}
use Rattle.dita_doc.specs.Pyx.{document_of}
use Rattle.dita_doc.specs.Request.{Build, Edit, Get, Group, Names, Put, PutIf, Remove, Request, Single}
use Rattle.dita_doc.proofs.NameOrder.{named_as_found}
use Rattle.fact_judge.specs.Agreed.{OwnAnswers, PlanAnswers, own_agrees, plan_agrees}
use Rattle.facts.specs.declared.fact.Fact.{Fact}
use Rattle.reader_spec.specs.World.{World, stored_tree, world_of}
use Rattle.run_spec.specs.Language.{dita}
use Rattle.run_spec.specs.Reached.{IsReached}
use Rattle.desk_lock.specs.Meaning.{meant_by}
use Rattle.version_store.specs.Entries.{EditPuts, Puts}
use Rattle.version_store.proofs.HistoryLaws.{from_sources, slice_get-take}
use Rattle.desk_top.specs.Again.{IsUnchanged, KeepsRight}

-- what an edit or a request puts under a name
same_put : (edit : Edit) (name bytes other : List ℕ) → EditPuts edit name bytes → EditPuts edit name other
    → bytes ≡ other
same_put (Put named body) name bytes other one two = sym one.1 ∙ two.1
same_put (PutIf version named body) name bytes other one two = sym one.1 ∙ two.1
same_put (Remove named) name bytes other one two = absurd one

same_bytes : (request : Request) (name bytes other : List ℕ) → Puts request name bytes → Puts request name other
    → bytes ≡ other
same_bytes (Single edit) name bytes other one two = same_put edit name bytes other one two
same_bytes (Get named) name bytes other one two = absurd one
same_bytes Names name bytes other one two = absurd one
same_bytes (Build root val) name bytes other one two = absurd one
same_bytes (Group edits) name bytes other one two =
    let same : two.edit ≡ one.edit = same_Some two.edit one.edit (sym two.last ∙ one.last) in
    same_put one.edit name bytes other one.puts (subst (λ (edit : Edit). EditPuts edit name other) same two.puts)

module _ (log : List Entry) (m n : ℕ) (name : List ℕ) where
  same_one : (one other : Stored) → stored_under (sources log m) name ≡ Some one
      → stored_under (sources log n) name ≡ Some other → other.version ≡ one.version → other ≡ one
  same_one one other here there version =
      let first = from_sources log m name one here in
      let second = from_sources log n name other there in
      let first_name : one.name ≡ name = named_as_found (sources log m) name one here in
      let second_name : other.name ≡ name = named_as_found (sources log n) name other there in
      let names : other.name ≡ one.name = second_name ∙ sym first_name in
      let place : second.place ≡ first.place = omega (arith, first.version, second.version, version) in
      let entry : second.entry ≡ first.entry = same_Some second.entry first.entry
      (sym (slice_get-take log n second.place second.entry second.stands) ∙ ap (slice_get log) place
      ∙ slice_get-take log m first.place first.entry first.stands) in
      let bytes : other.bytes ≡ one.bytes = same_bytes first.entry.request one.name other.bytes one.bytes
      (subst (λ (e : Entry). Puts e.request one.name other.bytes) entry
      (subst (λ under. Puts second.entry.request under other.bytes) names second.puts)) first.puts in
      let nodes : other.nodes ≡ one.nodes =
      second.nodes ∙ ap (λ body. nodes_in (document_of body)) bytes ∙ sym first.nodes in
      λ i. record { name = names i; nodes = nodes i; bytes = bytes i; version = version i }

  by_found : (first second : Option Stored) → stored_under (sources log m) name ≡ first
      → stored_under (sources log n) name ≡ second → version_of second ≡ version_of first → second ≡ first
  by_found None None here there version = refl
  by_found None (Some other) here there version =
      let from = from_sources log n name other there in absurd (omega (arith, from.version, version))
  by_found (Some one) None here there version =
      let from = from_sources log m name one here in absurd (omega (arith, from.version, version))
  by_found (Some one) (Some other) here there version = ap Some (same_one one other here there version)

  -- the same version is the same document
  pub same_stored : version_at (sources log n) name ≡ version_at (sources log m) name
      → stored_under (sources log m) name ≡ stored_under (sources log n) name
  same_stored version = sym (by_found (stored_under (sources log m) name) (stored_under (sources log n) name) refl refl version)

-- what is sound agrees alike in worlds that are alike under the names that it reaches
pub record AgreesAlike (is_sound : Fact → Type 0) : Type 0 where
  pub forth : (fact : Fact) → is_sound fact → (world other : World)
      → ((name : List ℕ) → IsReached world fact.key.map fact.key.val name → world name ≡ other name)
      → PlanAnswers (arc_value fact.plan) world → OwnAnswers fact world
      → PlanAnswers (arc_value fact.plan) other × OwnAnswers fact other
  pub back : (fact : Fact) → is_sound fact → (world other : World)
      → ((name : List ℕ) → IsReached world fact.key.map fact.key.val name → world name ≡ other name)
      → PlanAnswers (arc_value fact.plan) other → OwnAnswers fact other
      → PlanAnswers (arc_value fact.plan) world × OwnAnswers fact world

module _ (is_sound : Fact → Type 0) (alike : AgreesAlike is_sound) (log : List Entry) where
  same_worlds : (place later : ℕ) (root : List ℕ) (val : Option (List ℕ)) (fact : Fact)
      → IsUnchanged dita (sources log place) (sources log later) root val → fact.key.map ≡ root → fact.key.val ≡ val
      → (name : List ℕ) → IsReached (world_of (sources log place)) fact.key.map fact.key.val name
      → world_of (sources log place) name ≡ world_of (sources log later) name
  same_worlds place later root val fact unchanged root_is val_is name reached =
      ap (option_map stored_tree) (same_stored log place later name (unchanged name
      (subst (λ (v : Option (List ℕ)). IsReached (world_of (sources log place)) root v name) val_is
      (subst (λ (r : List ℕ). IsReached (world_of (sources log place)) r fact.key.val name) root_is reached))))

  pub keeps_right : KeepsRight (meant_by plan_agrees own_agrees is_sound) dita log
  keeps_right = record {
    forth = λ place later root val unchanged fact sound root_is val_is agrees. (
        let there = alike.forth fact sound (world_of (sources log place)) (world_of (sources log later))
        (same_worlds place later root val fact unchanged root_is val_is) agrees.plan agrees.own in
        record { plan = there.0; own = there.1 });
    back = λ place later root val unchanged fact sound root_is val_is agrees. (
        let here = alike.back fact sound (world_of (sources log place)) (world_of (sources log later))
        (same_worlds place later root val fact unchanged root_is val_is) agrees.plan agrees.own in
        record { plan = here.0; own = here.1 });
  }
