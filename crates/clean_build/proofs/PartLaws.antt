-- The parts of a build as they are put one after another, and the build that they make up.
use Rattle.std.specs.Prelude.{◌≡◌, ◌<◌, ◌+◌, ◌≤◌, ℕ, zero, suc, List, [], ◌∷◌, ◌++◌, Option, Some, Result, Ok, Err, length, map, option_map, slice_get, take}
use Rattle.std.specs.List.{AllByRecursion, flat_map}
use Rattle.std.proofs.Common.{refl, sym, ap, subst, ◌∙◌, append-nil, arith, get_or}
use Rattle.std.proofs.Math.Logic.{⊎_elim}
use Rattle.std.proofs.lemmas.List.{flat_map_more, length-map, take_all, take_more}
use Rattle.std.proofs.lemmas.Option.{get_or_from_slice_get, slice_get-map, slice_get_read, slice_get_within}
use Rattle.build_spec.specs.Built.{Stopped}
use Rattle.clean_build.specs.Clean.{clean_seen}
use Rattle.build_plan.specs.PageNames.{IsPageName}
use Rattle.clean_build.specs.declared.built.Clean.{Clean}
use Rattle.dita_doc.specs.Gives.{GivesSeen}
use Rattle.dita_doc.specs.declared.fact.Html.{Html}
use Rattle.dita_doc.specs.declared.fault.Fault.{Fault}
use Rattle.dita_doc.specs.declared.plan.PagePlan.{PagePlan}
use Rattle.dita_doc.specs.declared.plan.Plan.{Plan}
use Rattle.dita_doc.specs.declared.plan.PlanStop.{PlanStop}
use Rattle.dita_doc.specs.declared.stop.Stop.{Stop}
use Rattle.dita_doc.specs.declared.stop.Stop.TheVariants as stops
use Rattle.fault_report.specs.Report.{IsAmong}
use Rattle.build_plan.proofs.FitLaws.{plan_short}
use Rattle.map_spec.specs.Pages.{contents_name}
use Rattle.map_spec.specs.PlanOf.{limits, plan_of}
use Rattle.map_spec.specs.Scopes.{places_from}
use Rattle.link_spec.specs.Links.{row_faults}
use Rattle.part_spec.specs.Parts.{build_by, clean_build, contents_part, faults_of, names_of_pages, page_part, page_parts, parts_of, rooms, total_limit}
use Rattle.reader_spec.specs.World.{World}
use Rattle.clean_build.specs.Gathering.{AreAsGood, HasGathered, HasPages, HasPagesOf, HasPartsOf, IsBuilt, faults_before, faults_of_each}
use Rattle.clean_build.specs.Made.{page_behind}
use Rattle.clean_build.specs.declared.gathered.Gathered.{Gathered}
use Rattle.clean_build.proofs.BehindLaws.{AreWith, IsWith, page_with}
use Rattle.clean_build.proofs.GatheredLaws.{among_first, among_parts, among_second}
use Rattle.clean_build.proofs.PageLaws.{page_there}
use Rattle.clean_build.proofs.TopicLaws.{AreOfTopics, topics_root}

-- One element more of a list

pub take_next : {X : Type 0} (xs : List X) (at : ℕ) (x : X) → slice_get xs at ≡ Some x
    → take (at + 1) xs ≡ take at xs ++ x ∷ []
take_next xs at x is = take_more xs at x (slice_get_within xs at x is)
    ∙ ap (λ y. take at xs ++ y ∷ []) (get_or_from_slice_get xs at x x is)

map_there : {X Y : Type 0} (f : X → Y) (xs : List X) (at : ℕ) (x : X) → slice_get xs at ≡ Some x
    → slice_get (map f xs) at ≡ Some (f x)
map_there f xs at x is = slice_get-map f xs at ∙ ap (option_map f) is

pub placed : {X : Type 0} (from at : ℕ) (xs : List X) (x : X) → slice_get xs at ≡ Some x
    → slice_get (places_from from xs) at ≡ Some (from + at)
placed from zero [] x is = cc
placed from (suc at) [] x is = cc
placed from zero (first ∷ xs) x is = let same : from ≡ from + 0 = omega arith in ap (λ n. Some n) same
placed from (suc at) (first ∷ xs) x is =
    let same : from + 1 + at ≡ from + suc at = omega arith in
    placed (from + 1) at xs x is ∙ ap (λ n. Some n) same

pub count_placed : {X : Type 0} (from : ℕ) (xs : List X) → length (places_from from xs) ≡ length xs
count_placed from [] = refl
count_placed from (first ∷ xs) = ap (λ n. suc n) (count_placed (from + 1) xs)

-- the page at a place that a list as long has
pub page_at : (pages shown : List PagePlan) (index : ℕ) (page : PagePlan) → shown ≡ pages → index < length shown
    → page ≡ get_or shown index page → slice_get pages index ≡ Some page
page_at pages shown index page are within is =
    ap (λ (all : List PagePlan). slice_get all index) (sym are)
    ∙ slice_get_read shown (length shown) index page refl within is

-- Faults

-- faults behind those of a part change nothing where they stand already
good_with : (all own behind part new : List Fault) → ((fault : Fault) → IsAmong fault behind → IsAmong fault all)
    → AreWith own behind part → AreAsGood new (all ++ own) → AreAsGood new (all ++ part)
good_with all own behind part new already are good = record {
  there = λ fault among. ⊎_elim (λ a. among_first fault all part a)
      (λ b. among_second fault all part (are.own_there fault b)) (among_parts fault all own (good.there fault among));
  back = λ fault among. good.back fault (⊎_elim (λ a. among_first fault all own a)
      (λ b. ⊎_elim (λ x. among_second fault all own x) (λ y. among_first fault all own (already fault y))
      (are.back fault b)) (among_parts fault all part among));
}

-- faults of every page stand before any page
each_before : (pages : List PagePlan) (index : ℕ) (page : PagePlan) (faults : List Fault) (fault : Fault)
    → slice_get pages index ≡ Some page → IsAmong fault faults → IsAmong fault (faults_of_each pages faults)
each_before [] zero page faults fault there among = cc
each_before [] (suc index) page faults fault there among = cc
each_before (first ∷ pages) index page faults fault there among = among

abbrev faults_in : List Html → List Fault
faults_in parts = flat_map (λ (part : Html). part.faults) parts

module _ (world : World) (plan : Plan) (val : Option (List ℕ)) where
  abbrev names : List (List ℕ)
  names = map (λ (page : PagePlan). page.name) plan.pages

  abbrev parts : List Html
  parts = page_parts rooms world plan val

  abbrev part_at : ℕ → Html
  part_at index = page_part rooms world plan val index

  -- nothing is put yet
  pub none_put : (gathered : Gathered) → HasGathered [] [] (faults_before plan) gathered
      → HasPagesOf world plan val 0 gathered
  none_put gathered has = record {
    put = has.put;
    good = subst (AreAsGood gathered.faults) (sym (append-nil (faults_before plan))) has.good;
  }

  module _ (topics : AreOfTopics world plan.pages) where
    -- a page without the faults of rows is the page of the definition but for these
    pub without_rows : (index : ℕ) (page : PagePlan) → slice_get plan.pages index ≡ Some page
        → IsWith (page_behind rooms world plan val index page []) (row_faults plan) (part_at index)
    without_rows index page there =
        let root = topics_root world page.id.doc (topics index page there) in
        subst (λ (part : Html). IsWith (page_behind rooms world plan val index page []) (row_faults plan) part)
        (page_there world plan val index page there)
        (page_with world plan val index page (row_faults plan) root.root root.there)

    -- one page more is put
    pub next_put : (index : ℕ) (page : PagePlan) (name : List ℕ) (html : Html) (new : Gathered)
        → slice_get plan.pages index ≡ Some page → name ≡ page.name
        → html ≡ page_behind rooms world plan val index page []
        → HasPages (take index names ++ name ∷ []) (take index parts ++ part_at index ∷ []) new
        → AreAsGood new.faults (faults_before plan ++ faults_in (take index parts) ++ html.faults)
        → HasPagesOf world plan val (index + 1) new
    next_put index page name html new there named is pages good =
        let own = subst (λ (h : Html). IsWith h (row_faults plan) (part_at index)) (sym is)
        (without_rows index page there) in
        let before = faults_before plan in
        let done = faults_in (take index parts) in
        let place = placed 0 index plan.pages page there in
        let zeroth : 0 + index ≡ index = omega arith in
        let part = take_next parts index (part_at index)
        (map_there part_at (places_from 0 plan.pages) index index (place ∙ ap (λ n. Some n) zeroth)) in
        let all = take_next names index page.name
        (map_there (λ (p : PagePlan). p.name) plan.pages index page there) in record {
          put = subst (λ ns. HasPages ns (take (index + 1) parts) new)
              (ap (λ n. take index names ++ n ∷ []) named ∙ sym all)
              (subst (λ ps. HasPages (take index names ++ name ∷ []) ps new) (sym part) pages);
          good = subst (AreAsGood new.faults)
              (flat_map_more (λ (p : Html). p.faults) before (take index parts) (part_at index)
              ∙ ap (λ ps. before ++ faults_in ps) (sym part))
              (good_with (before ++ done) html.faults (row_faults plan) (part_at index).faults new.faults
              (λ fault among. among_first fault before done (among_second fault plan.faults
              (faults_of_each plan.pages (row_faults plan))
              (each_before plan.pages index page (row_faults plan) fault there among)))
              own.faults good);
        }

    rows_last : (pages : List PagePlan) (fault : Fault) → plan.pages ≡ pages
        → IsAmong fault (faults_of_each pages (row_faults plan))
        → IsAmong fault (faults_in (map part_at (places_from 0 pages) ++ contents_part world plan ∷ []))
    rows_last [] fault are among = absurd among
    rows_last (page ∷ pages) fault are among =
        let own = without_rows 0 page (ap (λ (ps : List PagePlan). slice_get ps 0) are) in
        among_first fault (part_at 0).faults _ (own.faults.behind_there fault among)

    -- with all parts, what was put before any page is among them
    pub good_build : AreAsGood (faults_before plan ++ faults_in (parts_of rooms world plan val))
        (faults_of plan (parts_of rooms world plan val))
    good_build =
        let all = faults_in (parts_of rooms world plan val) in
        let rows = faults_of_each plan.pages (row_faults plan) in record {
          there = λ fault among. ⊎_elim
              (λ a. ⊎_elim (λ x. among_first fault plan.faults all x)
              (λ y. among_second fault plan.faults all (rows_last plan.pages fault refl y))
              (among_parts fault plan.faults rows a))
              (λ b. among_second fault plan.faults all b) (among_parts fault (faults_before plan) all among);
          back = λ fault among. ⊎_elim
              (λ a. among_first fault (faults_before plan) all (among_first fault plan.faults rows a))
              (λ b. among_second fault (faults_before plan) all b) (among_parts fault plan.faults all among);
        }

  -- all pages are put
  pub all_put : (count : ℕ) (gathered : Gathered) → length plan.pages ≤ count → HasPagesOf world plan val count gathered
      → HasGathered names parts (faults_before plan ++ faults_in parts) gathered
  all_put count gathered enough has =
      let every = take_all count names (omega (arith, length-map plan.pages (λ (p : PagePlan). p.name))) in
      let each = take_all count parts
      (omega (arith, length-map (places_from 0 plan.pages) part_at, count_placed 0 plan.pages)) in
      subst (λ ps. HasGathered names ps (faults_before plan ++ faults_in ps) gathered) each
      (subst (λ ns. HasGathered ns (take count parts) (faults_before plan ++ faults_in (take count parts)) gathered)
      every has)

  -- and the contents page
  pub contents_put : (name : List ℕ) (html : Html) (new : Gathered) → name ≡ contents_name
      → html ≡ contents_part world plan
      → HasPages (names ++ name ∷ []) (parts ++ contents_part world plan ∷ []) new
      → AreAsGood new.faults (faults_before plan ++ faults_in parts ++ html.faults) → HasPartsOf world plan val new
  contents_put name html new named is pages good = record {
    put = subst (λ n. HasPages (names ++ n ∷ []) (parts ++ contents_part world plan ∷ []) new) named pages;
    good = subst (AreAsGood new.faults) (flat_map_more (λ (p : Html). p.faults) (faults_before plan) parts
        (contents_part world plan))
        (subst (λ (h : Html). AreAsGood new.faults (faults_before plan ++ faults_in parts ++ h.faults)) is good);
  }

-- The build

pub built_of_plan : (world : World) (name : List ℕ) (val : Option (List ℕ)) (plan : Plan) (gave : Clean)
    → plan_of limits world name val ≡ Ok plan → IsBuilt plan (parts_of rooms world plan val) gave
    → clean_seen gave ≡ clean_build world name val
unfolding clean_build
built_of_plan world name val plan gave is built =
    built.built ∙ ap (build_by rooms total_limit world val) (sym is)

-- the names of a plan's pages, and of the contents page, are names of pages
pages_named : (world : World) (name : List ℕ) (val : Option (List ℕ)) (plan : Plan)
    → plan_of limits world name val ≡ Ok plan → (pages : List PagePlan) (before : ℕ)
    → ((at : ℕ) (page : PagePlan) → slice_get pages at ≡ Some page → slice_get plan.pages (before + at) ≡ Some page)
    → AllByRecursion IsPageName (map (λ (page : PagePlan). page.name) pages ++ contents_name ∷ [])
pages_named world name val plan is [] before there = (record { named = refl; within = omega arith }, tt)
pages_named world name val plan is (page ∷ pages) before there = (
  plan_short world name val plan (before + 0) page is (there 0 page refl),
  pages_named world name val plan is pages (before + 1) (λ at other found.
      let same : before + 1 + at ≡ before + suc at = omega arith in
      ap (slice_get plan.pages) same ∙ there (suc at) other found),
)

pub plan_named : (world : World) (name : List ℕ) (val : Option (List ℕ)) (plan : Plan)
    → plan_of limits world name val ≡ Ok plan → AllByRecursion IsPageName (names_of_pages plan)
plan_named world name val plan is = pages_named world name val plan is plan.pages 0 (λ at page found.
    let same : 0 + at ≡ at = omega arith in ap (slice_get plan.pages) same ∙ found)

-- there is no build without a plan
pub stopped : (world : World) (name : List ℕ) (val : Option (List ℕ)) (stop : PlanStop)
    → plan_of limits world name val ≡ Err stop → Stopped stop ≡ clean_build world name val
unfolding clean_build
stopped world name val stop is = ap (build_by rooms total_limit world val) (sym is)

pub stop_given : {A : Type 0} (see : A → Plan) (found : Stop PlanStop) (stop : PlanStop) (made : Result Plan PlanStop)
    → found ≡ stops.Fault stop → GivesSeen see (Err found) made → made ≡ Err stop
stop_given see found stop made is given = subst (λ (s : Stop PlanStop). GivesSeen see (Err s) made) is given
