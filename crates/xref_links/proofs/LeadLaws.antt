-- Where documents lead.
use Rattle.std.specs.Arc.{arc_value}
use Rattle.std.specs.Prelude.{◌≡◌, ◌+◌, ◌≤◌, ◌==◌, ◌++◌, ℕ, zero, suc, Bool, true, false, List, [], ◌∷◌, Option, Some, None, Result, IfOk, bytes_eq, option_map, slice_get, if◌then◌else◌}
use Rattle.std.specs.Option.{option_or}
use Rattle.std.proofs.Common.{refl, sym, ap, subst, ◌∙◌, arith}
use Rattle.std.proofs.lemmas.Bool.{and_parts}
use Rattle.std.proofs.lemmas.Bool.Decides.{nat_tests}
use Rattle.std.proofs.lemmas.List.{append-nil}
use Rattle.std.proofs.lemmas.Slice.Eq.{bytes_eq-Decides}
use Rattle.dita_doc.specs.declared.fault.Fault.{Fault}
use Rattle.dita_doc.specs.declared.fault.FaultCode.TheVariants as faults
use Rattle.dita_doc.specs.declared.plan.PagePlan.{PagePlan}
use Rattle.dita_doc.specs.declared.plan.PageId.{PageId}
use Rattle.dita_doc.specs.declared.plan.Reference.{Reference}
use Rattle.dita_doc.specs.declared.plan.Target.{Target}
use Rattle.dita_doc.specs.declared.plan.Target.TheVariants as targets
use Rattle.dita_doc.specs.declared.stop.NoMemory.{NoMemory}
use Rattle.dita_doc.proofs.LackLaws.{no_equal}
use Rattle.href_text.specs.Joined.{relative_path}
use Rattle.map_spec.specs.Elements.{fault_at}
use Rattle.map_spec.specs.Pages.{is_page_for, is_page_of, local_name, page_for, place_of}
use Rattle.map_spec.specs.Written.{Element}
use Rattle.html_spec.specs.Anchors as anchors
use Rattle.html_spec.specs.Anchors.{Here, fragment, lead_by_key, lead_of_target, lead_of_document, lead_of_page, topic_or_first}
use Rattle.readers.specs.Founded.{StaysFounded}
use Rattle.readers.specs.Setting.{Stand}
use Rattle.readers.specs.Told.{Told}
use Rattle.xref_links.specs.Adding.{IsHere, IsLead, href_outside}
use Rattle.xref_links.specs.Names.{names_of_target}
use Rattle.xref_links.specs.declared.lead.Lead.{Lead}
use Rattle.xref_links.specs.declared.page.PageRead.{PageRead}

-- The page that is found for a document is one of the document

past_by : (passes : Bool) (at place : ℕ) (rest : Option ℕ) → (rest ≡ Some place → at + 1 ≤ place)
    → (if passes then Some at else rest) ≡ Some place → at ≤ place
past_by true at place rest past is = let same : at ≡ place = cc in omega arith
past_by false at place rest past is = let more = past is in omega arith

place_past : {X : Type 0} (test : X → Bool) (at place : ℕ) (xs : List X) → place_of test at xs ≡ Some place → at ≤ place
place_past test at place [] is = cc
place_past test at place (x ∷ xs) is =
    past_by (test x) at place (place_of test (at + 1) xs) (λ e. place_past test (at + 1) place xs e) is

here_by : (passes : Bool) (at : ℕ) (rest : Option ℕ) → (rest ≡ Some (at + 0) → at + 1 ≤ at + 0)
    → (if passes then Some at else rest) ≡ Some (at + 0) → passes ≡ true
here_by true at rest past is = refl
here_by false at rest past is = let more = past is in absurd (omega arith)

later_by : (passes : Bool) (at k : ℕ) (rest : Option ℕ) (P : Type 0) → (rest ≡ Some (at + suc k) → P)
    → (if passes then Some at else rest) ≡ Some (at + suc k) → P
later_by true at k rest P later is = let same : at ≡ at + suc k = cc in absurd (omega arith)
later_by false at k rest P later is = later is

place_passes : {X : Type 0} (test : X → Bool) (at k : ℕ) (xs : List X) (x : X) → place_of test at xs ≡ Some (at + k)
    → slice_get xs k ≡ Some x → test x ≡ true
place_passes test at k [] x is there = cc
place_passes test at zero (first ∷ xs) x is there =
    let same : first ≡ x = cc in
    ap test (sym same)
    ∙ here_by (test first) at (place_of test (at + 1) xs) (λ e. place_past test (at + 1) (at + 0) xs e) is
place_passes test at (suc k) (first ∷ xs) x is there =
    let next : at + suc k ≡ at + 1 + k = omega arith in
    later_by (test first) at k (place_of test (at + 1) xs) (test x ≡ true)
    (λ e. place_passes test (at + 1) k xs x (e ∙ ap (λ n. Some n) next) there) is

page_by : (pages : List PagePlan) (name : List ℕ) (context : PageId) (number : ℕ) (page : PagePlan)
    (first second : Option ℕ) → place_of (is_page_for name context) 0 pages ≡ first
    → place_of (is_page_of name) 0 pages ≡ second → option_or first second ≡ Some number
    → slice_get pages number ≡ Some page → bytes_eq page.id.doc name ≡ true
page_by pages name context number page (Some place) second one other is there =
    let same : place ≡ 0 + number = (let e : place ≡ number = cc in omega arith) in
    (and_parts _ _ (place_passes (is_page_for name context) 0 number pages page (one ∙ ap (λ n. Some n) same) there)).0
page_by pages name context number page None (Some place) one other is there =
    let same : place ≡ 0 + number = (let e : place ≡ number = cc in omega arith) in
    place_passes (is_page_of name) 0 number pages page (other ∙ ap (λ n. Some n) same) there
page_by pages name context number page None None one other is there = cc

page_found : (pages : List PagePlan) (name : List ℕ) (context : PageId) (number : ℕ) (page : PagePlan)
    → page_for pages name context ≡ Some number → slice_get pages number ≡ Some page
    → page.id.doc ≡ name
page_found pages name context number page is there =
    (bytes_eq-Decides page.id.doc name).0 (page_by pages name context number page _ _ refl refl is there)

-- A document leads to the page itself exactly if it is the page's own

module _ (here : Here) (stand : Stand) (page : PageRead) (element : Element) (name topic id : List ℕ)
    (is : IsHere stand page here) where
  pub lead_known : (answer : Option ℕ)
      → page_for stand.setting.pages name (arc_value page.context.now).page ≡ answer
      → lead_of_document here element name topic id ≡ lead_of_page here element name topic id answer
  lead_known answer known =
      ap (λ own. lead_of_page here element name topic id (page_for here.pages name own)) is.id
      ∙ ap (λ pages. lead_of_page here element name topic id
      (page_for pages name (arc_value page.context.now).page)) (sym is.pages)
      ∙ ap (lead_of_page here element name topic id) known

  module _ (number : ℕ) (found : page_for here.pages name (arc_value page.context.now).page ≡ Some number) where
    own_number : name ≡ (arc_value page.context.now).page.doc → number ≡ here.number
    own_number same =
        let first : page_for here.pages name (arc_value page.context.now).page ≡ Some here.number =
        ap (λ n. page_for here.pages n (arc_value page.context.now).page) same ∙ is.first in
        cc

    own_name : number ≡ here.number → name ≡ (arc_value page.context.now).page.doc
    own_name same =
        sym (page_found here.pages name (arc_value page.context.now).page here.number here.page
        (found ∙ ap (λ n. Some n) same)
        is.there) ∙ ap (λ (own : PageId). own.doc) is.id

    by_name : (own : Bool) → bytes_eq name (arc_value page.context.now).page.doc ≡ own → own ≡ (number == here.number)
    by_name true e =
        let same = own_number ((bytes_eq-Decides name (arc_value page.context.now).page.doc).0 e) in
        grind (arith, nat_tests)
    by_name false e = sym (no_equal number here.number (λ same.
        let yes = (bytes_eq-Decides name (arc_value page.context.now).page.doc).1 (own_name same) in cc))

    pub lead_paged : (other : PagePlan) (href : List ℕ) (own : Bool) (faults : List Fault)
        → slice_get page.plan.now.pages number ≡ Some other
        → href ≡ relative_path (arc_value page.context.now).name other.name ++ fragment topic id
        → own ≡ bytes_eq name (arc_value page.context.now).page.doc
        → IsLead here (lead_of_page here element name topic id (Some number))
        (record { href = Some href; is_own = own }) faults faults
    lead_paged other href own faults there leads owns = record {
      href = sym (ap (option_map (λ (p : PagePlan). relative_path here.page.name p.name ++ fragment topic id))
          (ap (λ pages. slice_get pages number) (sym is.plan) ∙ there)
          ∙ ap (λ name. Some (relative_path name other.name ++ fragment topic id)) is.name
          ∙ ap (λ h. Some h) (sym leads));
      own = owns ∙ by_name (bytes_eq name (arc_value page.context.now).page.doc) refl;
      faults = sym (append-nil faults);
    }

    -- each number is that of a page
    pub lead_unpaged : (lead : Lead) (faults : List Fault) → slice_get page.plan.now.pages number ≡ None
        → lead.href ≡ None → lead.is_own ≡ false
        → IsLead here (lead_of_page here element name topic id (Some number)) lead faults faults
    lead_unpaged lead faults none leads owns =
        let absent : slice_get here.pages number ≡ None = ap (λ pages. slice_get pages number) (sym is.plan) ∙ none in
        record {
          href = leads ∙ sym (ap (option_map (λ (p : PagePlan).
              relative_path here.page.name p.name ++ fragment topic id)) absent);
          own = owns ∙ sym (no_equal number here.number (λ same.
              let there : slice_get here.pages number ≡ Some here.page =
              ap (slice_get here.pages) same ∙ is.there in cc));
          faults = sym (append-nil faults);
        }

-- what is no document of ours
pub lead_outside : (here : Here) (element : Element) (name : List ℕ) (target : Target) (href : Option (List ℕ))
    (faults : List Fault) → here.page.name ≡ name → local_name target ≡ None → href ≡ href_outside name target
    → IsLead here (lead_of_target here element target) (record { href = href; is_own = false }) faults faults
lead_outside here element name targets.Nothing href faults named none leads =
    record { href = leads; own = refl; faults = sym (append-nil faults) }
lead_outside here element name (targets.Local document reference) href faults named none leads = cc
lead_outside here element name (targets.File file rest) href faults named none leads = record {
  href = leads ∙ ap (λ n. Some (relative_path n file ++ rest)) (sym named);
  own = refl;
  faults = sym (append-nil faults);
}
lead_outside here element name (targets.Other value) href faults named none leads =
    record { href = leads; own = refl; faults = sym (append-nil faults) }

-- What leads there

pub no_local : (target : Target) → ((name : List ℕ) (reference : Reference) → target ≡ targets.Local name reference → ⊥)
    → local_name target ≡ None
no_local targets.Nothing other = refl
no_local (targets.Local name reference) other = absurd (other name reference refl)
no_local (targets.File name rest) other = refl
no_local (targets.Other value) other = refl

pub by_no_id : (here : Here) (element : Element) (id : Option (List ℕ)) (target : Target) → id ≡ None
    → lead_of_target here element target ≡ lead_by_key here element id target
by_no_id here element None targets.Nothing none = refl
by_no_id here element None (targets.Local name reference) none = refl
by_no_id here element None (targets.File name rest) none = refl
by_no_id here element None (targets.Other value) none = refl
by_no_id here element (Some id) target none = cc

pub by_id_elsewhere : (here : Here) (element : Element) (id : Option (List ℕ)) (target : Target)
    → ((name : List ℕ) (reference : Reference) → target ≡ targets.Local name reference → ⊥)
    → lead_of_target here element target ≡ lead_by_key here element id target
by_id_elsewhere here element None targets.Nothing other = refl
by_id_elsewhere here element None (targets.File name rest) other = refl
by_id_elsewhere here element None (targets.Other value) other = refl
by_id_elsewhere here element (Some id) targets.Nothing other = refl
by_id_elsewhere here element (Some id) (targets.File name rest) other = refl
by_id_elsewhere here element (Some id) (targets.Other value) other = refl
by_id_elsewhere here element id (targets.Local name reference) other = absurd (other name reference refl)

pub by_id : (here : Here) (element : Element) (found : Option (List ℕ)) (id name : List ℕ) (reference : Reference)
    (target : Target) → found ≡ Some id → target ≡ targets.Local name reference
    → lead_of_document here element name (topic_or_first here name reference.topic) id
    ≡ lead_by_key here element found target
by_id here element found id name reference target some local = rw (some, local) refl

pub lead_as : (here : Here) (one other : anchors.Lead) (result : Result Lead NoMemory) (old new : List Fault)
    → one ≡ other → IfOk result (λ lead. IsLead here one lead old new)
    → IfOk result (λ lead. IsLead here other lead old new)
lead_as here one other result old new same is =
    subst (λ (l : anchors.Lead). IfOk result (λ lead. IsLead here l lead old new)) same is

-- a call about the document of a target
pub local_founded : (target : Target) (name : List ℕ) (reference : Reference) (a b : List Told)
    → target ≡ targets.Local name reference → StaysFounded (name ∷ []) a b → StaysFounded (names_of_target target) a b
local_founded target name reference a b local stays =
    subst (λ t. StaysFounded (names_of_target t) a b) (sym local) stays

-- a document without a page
pub lead_missing : (here : Here) (element : Element) (name topic id : List ℕ) (lead : Lead) (old new : List Fault)
    → lead.href ≡ None → lead.is_own ≡ false → new ≡ old ++ fault_at element faults.LinkNoPage name ∷ []
    → IsLead here (lead_of_page here element name topic id None) lead old new
lead_missing here element name topic id lead old new leads owns put =
    record { href = leads; own = owns; faults = put }
