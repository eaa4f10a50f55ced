-- Which documents the parts of a build are about (own).
use Rattle.std.specs.Prelude.{ℕ, List, ◌∷◌, ◌++◌}
use Rattle.std.specs.List.{filter_map, flat_map}
use Rattle.std.specs.Option.{option_copied, option_to_list}
use Rattle.conref_targets.specs.Rules.{ditavals}
use Rattle.dita_doc.specs.declared.plan.PagePlan.{PagePlan}
use Rattle.dita_doc.specs.declared.plan.Plan.{Plan}
use Rattle.map_spec.specs.Pages.{local_name}
use Rattle.readers.specs.Founded.{homes}
use Rattle.clean_build.specs.declared.build_input.BuildInput.{BuildInput}
use Rattle.clean_build.specs.declared.works.ContentsWork.{ContentsWork}
use Rattle.clean_build.specs.declared.works.LinksWork.{LinksWork}
use Rattle.clean_build.specs.declared.works.PageWork.{PageWork}

-- the document of a page, and the DITAVALs of its filters
abbrev pub names_of_page : PagePlan → List (List ℕ)
names_of_page page = page.id.doc ∷ page.id.filters

-- those in which the nodes of a plan stand, those that they lead to, those that are used, and those of its pages
abbrev pub names_of_plan : Plan → List (List ℕ)
names_of_plan plan = homes plan.nodes ++ (filter_map local_name plan.targets
    ++ (plan.documents ++ flat_map names_of_page plan.pages))

-- and the DITAVAL of the build
abbrev pub names_of_build : BuildInput → List (List ℕ)
names_of_build given = option_to_list (option_copied given.val) ++ names_of_plan given.plan.now

-- the document of a page and the DITAVALs by which its content is filtered
abbrev pub names_of_content : BuildInput → PagePlan → List (List ℕ)
names_of_content given page = page.id.doc ∷ ditavals (option_copied given.val) page.id.filters

-- What each work is about

abbrev pub about_links : LinksWork → List (List ℕ)
about_links work = names_of_build work.ground

abbrev pub about_contents : ContentsWork → List (List ℕ)
about_contents work = names_of_build work.ground

abbrev pub about_page : PageWork → List (List ℕ)
about_page work = names_of_page work.page.now ++ names_of_build work.ground

-- What each work asks for as a whole

abbrev pub documents_of_links : LinksWork → List (List ℕ)
documents_of_links work = homes work.ground.plan.now.nodes

abbrev pub documents_of_contents : ContentsWork → List (List ℕ)
documents_of_contents work = homes work.ground.plan.now.nodes

abbrev pub documents_of_page : PageWork → List (List ℕ)
documents_of_page work = names_of_content work.ground work.page.now
