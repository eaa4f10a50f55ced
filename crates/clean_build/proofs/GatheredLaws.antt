-- Pages and faults of a build, and one more of them.
use Rattle.std.specs.Prelude.{◌≡◌, ◌+◌, ◌⊎◌, ℕ, true, false, List, [], ◌∷◌, ◌++◌, length, map, nat_le}
use Rattle.std.specs.Arc.{arc_value}
use Rattle.std.specs.List.{AllByRecursion}
use Rattle.std.proofs.Common.{refl, sym, ap, subst, ◌∙◌, arith, inl, inr}
use Rattle.std.proofs.Math.Logic.{⊎_elim}
use Rattle.std.proofs.lemmas.Bool.{le-leb, leb-true}
use Rattle.std.proofs.lemmas.List.{length-append, map-append}
use Rattle.std.proofs.lemmas.List.Sums.{sum_by_push}
use Rattle.build_spec.specs.Built.{Page, Done, TooLarge}
use Rattle.clean_build.specs.Clean.{HasPageName, MadePage, page_seen}
use Rattle.build_plan.specs.PageNames.{IsPageName}
use Rattle.dita_doc.specs.declared.fact.Html.{Html}
use Rattle.dita_doc.specs.declared.fault.Fault.{Fault}
use Rattle.dita_doc.specs.declared.plan.Plan.{Plan}
use Rattle.fault_report.specs.Report.{IsAmong, IsReport, report_of}
use Rattle.fault_report.proofs.ReportLaws.{report_is}
use Rattle.part_spec.specs.Parts.{build_of, faults_of, names_of_pages, pages_with, total_limit, total_of}
use Rattle.clean_build.specs.Gathering.{AreAsGood, HasPages}
use Rattle.clean_build.specs.declared.gathered.Gathered.{Gathered}

-- Faults

pub among_parts : (fault : Fault) (some more : List Fault) → IsAmong fault (some ++ more)
    → IsAmong fault some ⊎ IsAmong fault more
among_parts fault [] more is = inr is
among_parts fault (first ∷ some) more is = ⊎_elim (λ same. inl (inl same))
    (λ behind. ⊎_elim (λ a. inl (inr a)) (λ b. inr b) (among_parts fault some more behind)) is

pub among_first : (fault : Fault) (some more : List Fault) → IsAmong fault some → IsAmong fault (some ++ more)
among_first fault [] more is = absurd is
among_first fault (first ∷ some) more is =
    ⊎_elim (λ same. inl same) (λ behind. inr (among_first fault some more behind)) is

pub among_second : (fault : Fault) (some more : List Fault) → IsAmong fault more → IsAmong fault (some ++ more)
among_second fault [] more is = is
among_second fault (first ∷ some) more is = inr (among_second fault some more is)

pub good_more : (old all more new : List Fault) → AreAsGood old all → new ≡ old ++ more → AreAsGood new (all ++ more)
good_more old all more new good is = subst (λ faults. AreAsGood faults (all ++ more)) (sym is) (record {
  there = λ fault among. ⊎_elim (λ a. among_first fault all more (good.there fault a))
      (λ b. among_second fault all more b) (among_parts fault old more among);
  back = λ fault among. ⊎_elim (λ a. among_first fault old more (good.back fault a))
      (λ b. among_second fault old more b) (among_parts fault all more among);
})

pub good_report : (faults report all : List Fault) → IsReport faults report → AreAsGood faults all
    → AreAsGood report all
good_report faults report all is good = record {
  there = λ fault among. good.there fault (is.only fault among);
  back = λ fault among. is.all fault (good.back fault among);
}

pub good_after : (some others all : List Fault) → AreAsGood some others → AreAsGood others all → AreAsGood some all
good_after some others all first second = record {
  there = λ fault among. second.there fault (first.there fault among);
  back = λ fault among. first.back fault (second.back fault among);
}

-- the report of some faults is that of others
pub same_report : (faults report all : List Fault) → IsReport faults report → AreAsGood faults all
    → report ≡ report_of all
same_report faults report all is good = report_is all report (record {
  rising = is.rising;
  all = λ fault among. is.all fault (good.back fault among);
  only = λ fault among. good.there fault (is.only fault among);
})

-- Pages

pub total_more : (parts : List Html) (part : Html) → total_of (parts ++ part ∷ []) ≡ total_of parts + length part.bytes
total_more parts part = sum_by_push (λ (p : Html). length p.bytes) parts part

pub even_more : (names : List (List ℕ)) (name : List ℕ) (parts : List Html) (part : Html)
    → length names ≡ length parts → length (names ++ name ∷ []) ≡ length (parts ++ part ∷ [])
even_more names name parts part even = length-append names (name ∷ []) ∙ ap (λ n. n + 1) even
    ∙ sym (length-append parts (part ∷ []))

-- few bytes stay few without the last
pub few_before : (parts : List Html) (part : Html) (limit : ℕ) → nat_le (total_of (parts ++ part ∷ [])) limit ≡ true
    → nat_le (total_of parts) limit ≡ true
few_before parts part limit few =
    let all = leb-true _ _ few in
    let sum = total_more parts part in
    le-leb (total_of parts) limit (omega (arith, all, sum))

pub pages_more : (names : List (List ℕ)) (name : List ℕ) (parts : List Html) (part : Html) → length names ≡ length parts
    → pages_with (names ++ name ∷ []) (parts ++ part ∷ []) ≡ pages_with names parts ++ (name, part.bytes) ∷ []
pages_more [] name [] part even = refl
pages_more [] name (first ∷ parts) part even = absurd (omega arith)
pages_more (own ∷ names) name [] part even = absurd (omega arith)
pages_more (own ∷ names) name (first ∷ parts) part even =
    ap (λ pages. (own, first.bytes) ∷ pages) (pages_more names name parts part (omega arith))

-- a page was put behind the others, if all are not too large together
pub pages_put : (names : List (List ℕ)) (name : List ℕ) (parts : List Html) (part : Html) (old new : Gathered)
    (bytes : List ℕ) → HasPages names parts old → part.bytes ≡ bytes → new.total ≡ old.total + length bytes
    → (nat_le new.total total_limit ≡ true → map page_seen new.pages ≡ map page_seen old.pages ++ (name, bytes) ∷ [])
    → HasPages (names ++ name ∷ []) (parts ++ part ∷ []) new
pages_put names name parts part old new bytes has same more kept =
    let total : new.total ≡ total_of (parts ++ part ∷ []) =
    more ∙ (λ i. has.total i + length (sym same i)) ∙ sym (total_more parts part) in record {
      even = even_more names name parts part has.even;
      total = total;
      pages = λ few.
          kept (ap (λ n. nat_le n total_limit) total ∙ few)
          ∙ ap (λ pages. pages ++ (name, bytes) ∷ []) (has.pages (few_before parts part total_limit few))
          ∙ ap (λ b. pages_with names parts ++ (name, b) ∷ []) (sym same)
          ∙ sym (pages_more names name parts part has.even);
    }

-- what is seen of one page more
pub seen_more : (old new : List MadePage) (page : MadePage) (name : List ℕ) (html : Html) → new ≡ old ++ page ∷ []
    → page.0 ≡ name → arc_value page.1 ≡ html
    → map page_seen new ≡ map page_seen old ++ (name, html.bytes) ∷ []
seen_more old new page name html is same value =
    ap (map page_seen) is ∙ map-append page_seen old (page ∷ [])
    ∙ (λ i. map page_seen old ++ (same i, (value i).bytes) ∷ [])

-- nothing but faults was put
pub same_pages : (names : List (List ℕ)) (parts : List Html) (old new : Gathered) → HasPages names parts old
    → new.pages ≡ old.pages → new.total ≡ old.total → HasPages names parts new
same_pages names parts old new has pages total = record {
  even = has.even;
  total = total ∙ has.total;
  pages = λ few. ap (map page_seen) pages ∙ has.pages few;
}

-- pages have the names that are seen of them
pub names_seen : (names : List (List ℕ)) (parts : List Html) (pages : List MadePage)
    → map page_seen pages ≡ pages_with names parts → AllByRecursion IsPageName names
    → AllByRecursion HasPageName pages
names_seen names parts [] is all = tt
names_seen [] parts (page ∷ pages) is all = cc
names_seen (name ∷ names) [] (page ∷ pages) is all = cc
names_seen (name ∷ names) (part ∷ parts) (page ∷ pages) is all =
    let same : page_seen page ≡ (name, part.bytes) = cc in
    let first : page.0 ≡ name = ap (λ (seen : Page). seen.0) same in
    let rest : map page_seen pages ≡ pages_with names parts = cc in
    (subst IsPageName (sym first) all.0, names_seen names parts pages rest all.1)

-- What is built of them

pub built_large : (plan : Plan) (parts : List Html) (total : ℕ) → nat_le (total_of parts) total_limit ≡ false
    → total ≡ total_of parts → TooLarge total ≡ build_of total_limit plan parts
built_large plan parts total many same = rw many (ap (λ n. TooLarge n) same)

pub built_done : (plan : Plan) (parts : List Html) (pages : List Page) (report : List Fault)
    → nat_le (total_of parts) total_limit ≡ true → pages ≡ pages_with (names_of_pages plan) parts
    → report ≡ report_of (faults_of plan parts) → Done pages report ≡ build_of total_limit plan parts
built_done plan parts pages report few same is = rw few (λ i. Done (same i) (is i))
