-- A page with faults behind its own: its bytes are the same without them, and its faults are its own and these.
use Rattle.std.specs.Prelude.{◌≡◌, ◌++◌, ◌⊎◌, ℕ, Bool, true, false, List, [], ◌∷◌, Option, Some, length, nat_le, if◌then◌else◌}
use Rattle.std.specs.Option.{option_map_or}
use Rattle.std.proofs.Common.{refl, sym, subst, append-nil, inl, inr}
use Rattle.std.proofs.Math.Logic.{⊎_elim}
use Rattle.dita_doc.specs.declared.content.PageLink.{PageLink}
use Rattle.dita_doc.specs.declared.fact.Html.{Html}
use Rattle.dita_doc.specs.declared.fault.Fault.{Fault}
use Rattle.dita_doc.specs.declared.plan.PagePlan.{PagePlan}
use Rattle.dita_doc.specs.declared.plan.Plan.{Plan}
use Rattle.fault_report.specs.Report.{IsAmong}
use Rattle.map_spec.specs.Included.{root_in}
use Rattle.map_spec.specs.Titles.{title_in}
use Rattle.map_spec.specs.Written.{Whole}
use Rattle.html_spec.specs.Anchors.{anchor_faults, anchors, element_links}
use Rattle.html_spec.specs.Blocks.{body_html}
use Rattle.html_spec.specs.PageHtml.{page_text, page_within, too_large}
use Rattle.part_spec.specs.Parts.{content_of_root, here_of, all_page_links, marks_in, no_html, page_rules, rooms}
use Rattle.reader_spec.specs.World.{World}
use Rattle.clean_build.specs.Made.{page_behind, page_of_root}
use Rattle.clean_build.proofs.GatheredLaws.{among_first, among_parts, among_second}

-- the faults of a page are its own and those behind them
pub record AreWith (own behind all : List Fault) : Type 0 where
  pub own_there : (fault : Fault) → IsAmong fault own → IsAmong fault all
  pub behind_there : (fault : Fault) → IsAmong fault behind → IsAmong fault all
  pub back : (fault : Fault) → IsAmong fault all → IsAmong fault own ⊎ IsAmong fault behind

pub record IsWith (own : Html) (behind : List Fault) (all : Html) : Type 0 where
  pub bytes : all.bytes ≡ own.bytes
  pub faults : AreWith own.faults behind all.faults

-- behind these faults, and no more
with_none : (own behind : List Fault) → AreWith (own ++ []) behind (own ++ behind)
with_none own behind = subst (λ faults. AreWith faults behind (own ++ behind)) (sym (append-nil own)) (record {
  own_there = λ fault among. among_first fault own behind among;
  behind_there = λ fault among. among_second fault own behind among;
  back = λ fault among. among_parts fault own behind among;
})

-- and one fault more
with_one : (own behind all more : List Fault) → AreWith own behind all → AreWith (own ++ more) behind (all ++ more)
with_one own behind all more are = record {
  own_there = λ fault among. ⊎_elim (λ a. among_first fault all more (are.own_there fault a))
      (λ b. among_second fault all more b) (among_parts fault own more among);
  behind_there = λ fault among. among_first fault all more (are.behind_there fault among);
  back = λ fault among. ⊎_elim (λ a. ⊎_elim (λ x. inl (among_first fault own more x)) (λ y. inr y) (are.back fault a))
      (λ b. inl (among_second fault own more b)) (among_parts fault all more among);
}

-- a page by whether it fits
abbrev shown_if : Bool → (name : List ℕ) → (line : ℕ) → (title : List ℕ) → Html → List PageLink → Html
shown_if fits name line title body related =
    if fits then record { bytes = page_text title body.bytes related; faults = body.faults }
    else record { bytes = page_text title [] []; faults = body.faults ++ too_large name line ∷ [] }

within_with : (limit : ℕ) (name : List ℕ) (line : ℕ) (title : List ℕ) (own all : Html) (behind : List Fault)
    (related : List PageLink) → IsWith own behind all
    → IsWith (page_within limit name line title own related) behind (page_within limit name line title all related)
within_with limit name line title own all behind related is =
    subst (λ bytes. IsWith (page_within limit name line title own related) behind
    (page_within limit name line title (record { bytes = bytes; faults = all.faults }) related)) (sym is.bytes)
    (by_test (nat_le (length (page_text title own.bytes related)) limit))
  where
    by_test : (fits : Bool) → IsWith (shown_if fits name line title own related) behind
        (shown_if fits name line title (record { bytes = own.bytes; faults = all.faults }) related)
    by_test true = record { bytes = refl; faults = is.faults }
    by_test false = record {
      bytes = refl;
      faults = with_one own.faults behind all.faults (too_large name line ∷ []) is.faults;
    }

module _ (world : World) (plan : Plan) (val : Option (List ℕ)) (index : ℕ) (page : PagePlan) (behind : List Fault) where
  root_with : (root : Whole) → IsWith (page_of_root rooms world plan val index page [] root) behind
      (page_of_root rooms world plan val index page behind root)
  root_with root =
      let here = here_of world plan page index in
      let made = content_of_root rooms world plan val page root in
      let body = body_html (anchors here made.nodes) (marks_in (page_rules world val page) made) made.nodes in
      let faults = made.faults ++ anchor_faults here made.nodes ++ body.faults in
      within_with rooms.bytes root.0.doc root.0.line (title_in world page.id.doc [])
      (record { bytes = body.bytes; faults = faults ++ [] }) (record { bytes = body.bytes; faults = faults ++ behind })
      behind (all_page_links world plan index (element_links here made.nodes))
      (record { bytes = refl; faults = with_none faults behind })

  -- a page of a document with a root
  pub page_with : (root : Whole) → root_in world page.id.doc ≡ Some root
      → IsWith (page_behind rooms world plan val index page []) behind
      (page_behind rooms world plan val index page behind)
  page_with root there = subst (λ (found : Option Whole). IsWith
      (option_map_or (page_of_root rooms world plan val index page []) found no_html) behind
      (option_map_or (page_of_root rooms world plan val index page behind) found no_html)) (sym there) (root_with root)
