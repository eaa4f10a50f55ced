-- The pages of a build that were put so far.
use Rattle.std.proofs.Common.{◌≡◌, ℕ, List, [], ◌∷◌, ◌++◌, Option, Result, Ok, Err, take, drop, map, refl, ap, sym, ◌∙◌, subst, append-nil}
use Rattle.std.proofs.lemmas.List.{take-append-drop, map-append}
use Rattle.build_spec.specs.Built.{Page}
use Rattle.dita_outside.specs.Pages.{Pages, PutsPage, PutsPages, TakesPages, TakesPagesFront}
use Rattle.clean_build.specs.Clean.{MadePage, page_seen}
use Rattle.run_spec.specs.Answers.{delivered}
use Rattle.desk_top.specs.Builds.{pages_put}
use Rattle.desk_top.proofs.TakesLaws.{takes_then, takes_front}

pub pages_put-append : (number : ℕ) (front back : List MadePage)
    → pages_put number (front ++ back) ≡ pages_put number front ++ pages_put number back
pages_put-append number front back = ap (map (delivered number)) (map-append page_seen front back)
    ∙ map-append (delivered number) (map page_seen front) (map page_seen back)

-- the first pages, where one that was to come was not taken
pub put_front : (number i : ℕ) (pages : List MadePage) (a b c : Option Pages)
    → TakesPages a b (pages_put number (take i pages)) → TakesPages b c []
    → TakesPagesFront a c (pages_put number pages)
put_front number i pages a b c before none =
    let same : TakesPages a c (pages_put number (take i pages)) =
    subst (TakesPages a c) (append-nil (pages_put number (take i pages)))
    (takes_then a b c (pages_put number (take i pages)) [] before none) in
    let whole : pages_put number (take i pages) ++ pages_put number (drop i pages) ≡ pages_put number pages =
    sym (pages_put-append number (take i pages) (drop i pages)) ∙ ap (pages_put number) (take-append-drop i pages)
    in
    subst (TakesPagesFront a c) whole (takes_front a c (pages_put number (take i pages))
    (pages_put number (drop i pages)) same)

-- one page alone
pub one_put : {E : Type 0} (a b : Option Pages) (result : Result (Unit {0}) E) (page : Page) → PutsPage a b result page
    → PutsPages a b result (page ∷ [])
one_put a b (Ok done) page put = put
one_put a b (Err stop) page put = ([], page ∷ [], refl, put)
