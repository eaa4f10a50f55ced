-- Names among those that the parts of a build are about, and what stays founded by calls about some of them.
use Rattle.std.specs.Prelude.{◌≡◌, ◌++◌, ℕ, zero, suc, List, [], ◌∷◌, Some, IsTrue, bytes_eq, map, slice_get}
use Rattle.std.specs.List.{filter_map, flat_map}
use Rattle.std.specs.Option.{option_copied, option_to_list}
use Rattle.std.proofs.Common.{subst, sym}
use Rattle.std.proofs.Math.Logic.{⊎_elim}
use Rattle.std.proofs.lemmas.Bool.{or_cases, or_left, or_right}
use Rattle.dita_doc.specs.declared.plan.PagePlan.{PagePlan}
use Rattle.dita_doc.specs.declared.plan.Plan.{Plan}
use Rattle.map_spec.specs.Pages.{local_name}
use Rattle.readers.specs.Founded.{Grows, StaysFounded, homes, is_among}
use Rattle.readers.specs.Setting.{Stand}
use Rattle.readers.specs.Told.{Told}
use Rattle.readers.proofs.AmongLaws.{among_back, among_either, among_front}
use Rattle.readers.proofs.FoundedLaws.{among_first, stays_after, stays_among, stays_one}
use Rattle.readers.proofs.GrowthLaws.{grows_trans}
use Rattle.toc_page.specs.Made.{contents_names}
use Rattle.clean_build.specs.Names.{names_of_build, names_of_content, names_of_page, names_of_plan}
use Rattle.clean_build.specs.declared.build_input.BuildInput.{BuildInput}

-- Pages

docs_among : (pages : List PagePlan) (m : List ℕ) → IsTrue (is_among (map (λ (page : PagePlan). page.id.doc) pages) m)
    → IsTrue (is_among (flat_map names_of_page pages) m)
docs_among [] m among = among
docs_among (page ∷ pages) m among = ⊎_elim
    (λ here. or_left (bytes_eq page.id.doc m) _ here)
    (λ behind. or_right (bytes_eq page.id.doc m) _
    (among_back page.id.filters (flat_map names_of_page pages) m (docs_among pages m behind)))
    (or_cases (bytes_eq page.id.doc m) _ among)

page_among : (pages : List PagePlan) (at : ℕ) (page : PagePlan) → slice_get pages at ≡ Some page → (m : List ℕ)
    → IsTrue (is_among (names_of_page page) m) → IsTrue (is_among (flat_map names_of_page pages) m)
page_among [] at page there m among = cc
page_among (first ∷ pages) zero page there m among =
    let same : first ≡ page = cc in
    among_front (names_of_page first) (flat_map names_of_page pages) m
    (subst (λ (p : PagePlan). IsTrue (is_among (names_of_page p) m)) (sym same) among)
page_among (first ∷ pages) (suc at) page there m among =
    among_back (names_of_page first) (flat_map names_of_page pages) m (page_among pages at page there m among)

-- Names of a plan

-- what stands behind the same names
among_after : (front some more : List (List ℕ)) (m : List ℕ) → (IsTrue (is_among some m) → IsTrue (is_among more m))
    → IsTrue (is_among (front ++ some) m) → IsTrue (is_among (front ++ more) m)
among_after front some more m within = among_either front some m (IsTrue (is_among (front ++ more) m))
    (among_front front more m) (λ behind. among_back front more m (within behind))

-- those that its links are about
abbrev pub names_of_links : Plan → List (List ℕ)
names_of_links plan = homes plan.nodes
    ++ (filter_map local_name plan.targets ++ map (λ (page : PagePlan). page.id.doc) plan.pages)

module _ (plan : Plan) (m : List ℕ) where
  abbrev used : List (List ℕ)
  used = plan.documents ++ flat_map names_of_page plan.pages

  abbrev led : List (List ℕ)
  led = filter_map local_name plan.targets

  of_links : IsTrue (is_among (names_of_links plan) m) → IsTrue (is_among (names_of_plan plan) m)
  of_links = among_after (homes plan.nodes) _ (led ++ used) m (among_after led _ used m
      (λ docs. among_back plan.documents (flat_map names_of_page plan.pages) m (docs_among plan.pages m docs)))

  of_contents : IsTrue (is_among (contents_names plan) m) → IsTrue (is_among (names_of_plan plan) m)
  of_contents = among_after (homes plan.nodes) _ (led ++ used) m (among_after led _ used m
      (among_front plan.documents (flat_map names_of_page plan.pages) m))

  of_page : (at : ℕ) (page : PagePlan) → slice_get plan.pages at ≡ Some page → IsTrue (is_among (names_of_page page) m)
      → IsTrue (is_among (names_of_plan plan) m)
  of_page at page there among =
      among_back (homes plan.nodes) (led ++ used) m (among_back led used m
      (among_back plan.documents (flat_map names_of_page plan.pages) m (page_among plan.pages at page there m among)))

-- Calls about names that are given otherwise

pub stays_listed : (asked names : List (List ℕ)) (old new : List Told) → asked ≡ names → StaysFounded asked old new
    → StaysFounded names old new
stays_listed asked names old new same stays = subst (λ all. StaysFounded all old new) same stays

pub stays_with : (after before : Stand) (about : List (List ℕ)) (old new : List Told) → after ≡ before
    → StaysFounded (homes after.setting.nodes ++ about) old new
    → StaysFounded (homes before.setting.nodes ++ about) old new
stays_with after before about old new same stays =
    subst (λ (s : Stand). StaysFounded (homes s.setting.nodes ++ about) old new) same stays

-- Calls, each about some of the names of a work, beside those of the nodes that its reader was made for

module _ (front : List (List ℕ)) (old new : List Told) where
  module _ (ground : BuildInput) where
    abbrev plan : Plan
    plan = ground.plan.now

    abbrev val : List (List ℕ)
    val = option_to_list (option_copied ground.val)

    among_plan : (m : List ℕ) → IsTrue (is_among (names_of_plan plan) m)
        → IsTrue (is_among (front ++ names_of_build ground) m)
    among_plan m among = among_back front (names_of_build ground) m (among_back val (names_of_plan plan) m among)

    pub stays_links : StaysFounded (names_of_links plan) old new → StaysFounded (front ++ names_of_build ground) old new
    stays_links = stays_among _ (front ++ names_of_build ground) old new
        (λ m among. among_plan m (of_links plan m among))

    pub stays_contents : StaysFounded (contents_names plan) old new
        → StaysFounded (front ++ names_of_build ground) old new
    stays_contents = stays_among _ (front ++ names_of_build ground) old new
        (λ m among. among_plan m (of_contents plan m among))

    -- also of a page of the plan
    pub stays_page : (page : PagePlan) (at : ℕ) → slice_get plan.pages at ≡ Some page
        → StaysFounded (front ++ (names_of_page page ++ names_of_build ground)) old new
        → StaysFounded (front ++ names_of_build ground) old new
    stays_page page at there = stays_among (front ++ (names_of_page page ++ names_of_build ground))
        (front ++ names_of_build ground) old new
        (λ m. among_after front (names_of_page page ++ names_of_build ground) (names_of_build ground) m
        (among_either (names_of_page page) (names_of_build ground) m (IsTrue (is_among (names_of_build ground) m))
        (λ here. among_back val (names_of_plan plan) m (of_page plan m at page there here)) (λ more. more)))

    -- and of the titles of its pages
    pub stays_titles : StaysFounded (map (λ (page : PagePlan). page.id.doc) plan.pages) old new
        → StaysFounded (front ++ names_of_build ground) old new
    stays_titles = stays_among _ (front ++ names_of_build ground) old new (λ m among. among_plan m
        (among_back (homes plan.nodes) (led plan m ++ used plan m) m (among_back (led plan m) (used plan m) m
        (among_back plan.documents (flat_map names_of_page plan.pages) m (docs_among plan.pages m among)))))

  module _ (ground : BuildInput) (page : PagePlan) where
    abbrev own : List (List ℕ)
    own = names_of_page page

    abbrev build : List (List ℕ)
    build = option_to_list (option_copied ground.val)

    abbrev all : List (List ℕ)
    all = own ++ names_of_build ground

    pub stays_doc : StaysFounded (page.id.doc ∷ []) old new → StaysFounded (front ++ all) old new
    stays_doc = stays_one page.id.doc (front ++ all) old new (among_back front all page.id.doc
        (among_front own (names_of_build ground) page.id.doc (among_first page.id.doc page.id.filters)))

    pub stays_shown : StaysFounded (names_of_links ground.plan.now) old new → StaysFounded (front ++ all) old new
    stays_shown = stays_among _ (front ++ all) old new (λ m among. among_back front all m
        (among_back own (names_of_build ground) m (among_back build (names_of_plan ground.plan.now) m
        (of_links ground.plan.now m among))))

    content_among : (m : List ℕ) → IsTrue (is_among (names_of_content ground page) m) → IsTrue (is_among all m)
    content_among m among = ⊎_elim
        (λ here. or_left (bytes_eq page.id.doc m) _ here)
        (λ behind. among_either build page.id.filters m (IsTrue (is_among all m))
        (λ given. among_back own (names_of_build ground) m (among_front build (names_of_plan ground.plan.now) m given))
        (λ filters. or_right (bytes_eq page.id.doc m) _
        (among_front page.id.filters (names_of_build ground) m filters)) behind)
        (or_cases (bytes_eq page.id.doc m) _ among)

    pub stays_content : StaysFounded (front ++ names_of_content ground page) old new
        → StaysFounded (front ++ all) old new
    stays_content = stays_among (front ++ names_of_content ground page) (front ++ all) old new
        (λ m. among_after front _ all m (content_among m))

-- What is asked about for a page: its content, then its links by nodes, then its title

module _ (front : List (List ℕ)) (ground : BuildInput) (page : PagePlan) (a b c : List Told) (grows : Grows a b)
    (content : StaysFounded (front ++ names_of_content ground page) a b)
    (links : StaysFounded (names_of_links ground.plan.now) b c) where
  pub stays_linked : StaysFounded (front ++ (names_of_page page ++ names_of_build ground)) a c
  stays_linked = stays_after (front ++ (names_of_page page ++ names_of_build ground)) a b c grows
      (stays_content front a b ground page content) (stays_shown front b c ground page links)

  pub stays_titled : (d : List Told) → Grows b c → StaysFounded (page.id.doc ∷ []) c d
      → StaysFounded (front ++ (names_of_page page ++ names_of_build ground)) a d
  stays_titled d further title = stays_after (front ++ (names_of_page page ++ names_of_build ground)) a c d
      (grows_trans a b c grows further) stays_linked (stays_doc front c d ground page title)
