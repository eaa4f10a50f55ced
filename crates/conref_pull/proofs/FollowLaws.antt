-- References that are followed: one step, and then the rest.
use Rattle.std.specs.Prelude.{◌≡◌, ◌+◌, ◌-◌, ◌++◌, ◌<◌, ◌≤◌, ℕ, zero, suc, Bool, true, false, List, [], ◌∷◌, Option, Some, None, length, map, take, if◌then◌else◌}
use Rattle.std.specs.Borrow.{Bor}
use Rattle.std.specs.declared.alloc.Global.{Global}
use Rattle.std.specs.declared.vec.Vec.{Vec}
use Rattle.std.proofs.Common.{refl, sym, ap, subst, ◌∙◌, arith, append-nil, append_assoc, length-append}
use Rattle.std.proofs.lemmas.List.{length-map, length-take-le, take-append-le, take-take, take_all}
use Rattle.dita_doc.specs.declared.content.Rule.{Rule}
use Rattle.dita_doc.specs.declared.fault.Fault.{Fault}
use Rattle.dita_doc.specs.declared.plan.Context.{Context}
use Rattle.map_spec.specs.Written as written
use Rattle.map_spec.specs.Written.{Element, Written}
use Rattle.conref_spec.specs.Content.{Found, Place, ResolveInput, Sought, followed_from, found_by, has_reference, sought_by, taken}
use Rattle.reader_spec.specs.World.{World}
use Rattle.readers.specs.Setting.{Stand}
use Rattle.conref_targets.specs.Origin.{whole_of, whole_shown}
use Rattle.conref_targets.specs.ResolveInput.{setting_of}
use Rattle.conref_targets.specs.Tables.{AreTables}
use Rattle.conref_targets.specs.declared.origin.Whole.{Whole}
use Rattle.conref_targets.specs.declared.tables.PlaceTables.{PlaceTables}
use Rattle.conref_pull.specs.Linked.{IsFollowed, IsLink, IsLinked, IsPathAfter, IsStep}
use Rattle.conref_pull.specs.State.{IsSamePage, path_within, place_shown}
use Rattle.conref_pull.specs.Step.{FollowStep, Taken, after_step, followed_to_all, step_of, step_to, step_with}
use Rattle.conref_pull.specs.declared.chain.TakenTarget.{TakenTarget}
use Rattle.conref_pull.specs.declared.place.Place as kept
use Rattle.conref_pull.specs.declared.resolver.Resolver.{Resolver}
use Rattle.conref_pull.proofs.StepLaws.{follows, links_one_more, one_more}
use Rattle.conref_pull.proofs.TakeLaws.{state_then}

-- the target that was taken, with what it holds
whole_pair : (found : Whole) (one : Taken) → whole_shown (Some found) ≡ Some (one.element, one.inside)
    → whole_of found ≡ (one.element, one.inside)
whole_pair found one is = cc

-- What a step takes

-- the path goes on with one target
pub record Longer (path : List Place) (one : Taken) : Type 0 where
  pub place : Place
  pub is : one.path ≡ path ++ place ∷ []

abbrev AreLonger : List Place → Option Taken → Type 0
AreLonger path None = Unit {0}
AreLonger path (Some one) = Longer path one

longer_with : (path : List Place) (element : Element) (target : Found) (before : List Fault) (refused : Option Fault)
    → AreLonger path (step_with path element target before refused).taken
longer_with path element target before None =
    record { place = record { doc = target.doc; at = target.standing.place }; is = refl }
longer_with path element target before (Some fault) = tt

module _ (setting : ResolveInput) (topic : List ℕ) (at : ℕ) (path : List Place) (element : Element) where
  longer_to : (sought : Sought) (found : Option Found) → AreLonger path (step_to setting at path element sought found).taken
  longer_to sought None = tt
  longer_to sought (Some target) = longer_with path element target _ _

  longer_if : (test : Bool) (sought : Sought) (found : Option Found)
      → AreLonger path (if test then step_to setting at path element sought found
      else (let none : FollowStep = record { taken = None; faults = [] } in none)).taken
  longer_if true sought found = longer_to sought found
  longer_if false sought found = tt

  longer_of : AreLonger path (step_of setting topic at path element).taken
  longer_of = longer_if (has_reference (sought_by element)) (sought_by element)
      (found_by setting topic element (sought_by element))

-- a link was taken
pub record Went (setting : ResolveInput) (topic : List ℕ) (at : ℕ) (path : List Place) (element : Element)
    (link : TakenTarget)
    (new : Resolver) : Type 0 where
  pub one : Taken
  pub is : (step_of setting topic at path element).taken ≡ Some one
  pub linked : IsLink link one
  pub longer : Longer path one
  pub further : map place_shown new.path.items ≡ one.path

module _ (setting : ResolveInput) (topic : List ℕ) (at : ℕ) (path : List Place) (element : Element) (old new : Resolver)
    (places : PlaceTables) where
  pub went : (link : TakenTarget)
      → IsStep setting.pushed (step_of setting topic at path element) old new places (Some link)
      → Went setting topic at path element link new
  went link step = by_taken (step_of setting topic at path element).taken refl step.link step.path
      (longer_of setting topic at path element)
    where
      by_taken : (found : Option Taken) → (step_of setting topic at path element).taken ≡ found
          → IsLinked found (Some link) → IsPathAfter found old new → AreLonger path found
          → Went setting topic at path element link new
      by_taken None e linked further longer = absurd linked
      by_taken (Some one) e linked further longer =
          record { one = one; is = e; linked = linked; longer = longer; further = further }

  -- none was
  stayed : IsStep setting.pushed (step_of setting topic at path element) old new places None
      → ((step_of setting topic at path element).taken ≡ None) × (new.path ≡ old.path)
  stayed step = by_taken (step_of setting topic at path element).taken refl step.link step.path
    where
      by_taken : (found : Option Taken) → (step_of setting topic at path element).taken ≡ found
          → IsLinked found None → IsPathAfter found old new
          → ((step_of setting topic at path element).taken ≡ None) × (new.path ≡ old.path)
      by_taken None e linked further = (e, further)
      by_taken (Some one) e linked further = absurd linked

pub count_shown : (resolver : Resolver) (links : ℕ) → links ≤ length resolver.path.items
    → length (path_within resolver links) ≡ links
count_shown resolver links room = length-take-le links (map place_shown resolver.path.items) (rw length-map room)

module _ (setting : ResolveInput) (topic : List ℕ) (at links : ℕ) (element : Element) (inside : Written)
    (old mid : Resolver) (first : PlaceTables) (room : links ≤ length old.path.items) where
  -- nothing more was taken
  pub follow_ended : (steps : ℕ) (before : List TakenTarget) (found : Option TakenTarget) → 0 < steps → found ≡ None
      → IsStep setting.pushed (step_of setting topic at (path_within old links) element) old mid first found
      → IsFollowed setting.pushed element inside
      (followed_from steps setting topic at (path_within old links) element inside) before before links links old mid first
  follow_ended zero before found some none step = absurd (omega arith)
  follow_ended (suc steps) before found some none step =
      let stay = stayed setting topic at (path_within old links) element old mid first
      (subst (λ (l : Option TakenTarget). IsStep setting.pushed
      (step_of setting topic at (path_within old links) element)
      old mid first l) none step) in
      let faults : List Fault = (step_of setting topic at (path_within old links) element).faults in
      record {
        taken = [];
        more = [];
        faults = faults;
        items = sym (append-nil before);
        linked = tt;
        count = omega arith;
        is = follows steps setting topic at (path_within old links) element inside
            ∙ ap (after_step (followed_from steps setting topic at) (path_within old links) element inside faults) stay.0;
        state = step.state;
        kept = ap (λ (p : Vec kept.Place Global). take links (map place_shown p.items)) stay.1;
        room = subst (λ (p : Vec kept.Place Global). links ≤ length p.items) (sym stay.1) room;
        tables = step.tables;
      }

  module _ (link : TakenTarget)
      (step : IsStep setting.pushed (step_of setting topic at (path_within old links) element) old mid first (Some link))
    where
      abbrev gone : Went setting topic at (path_within old links) element link mid
      gone = went setting topic at (path_within old links) element old mid first link step

      longer_count : length gone.one.path ≡ links + 1
      longer_count =
          let e = ap length gone.longer.is ∙ length-append (path_within old links) (gone.longer.place ∷ []) in
          let n = count_shown old links room in omega arith

      -- there is room for one more
      pub step_room : links + 1 ≤ length mid.path.items
      step_room = let e = sym (length-map mid.path.items place_shown) ∙ ap length gone.further in
          let n = longer_count in omega arith

      path_mid : path_within mid (links + 1) ≡ gone.one.path
      path_mid = ap (take (links + 1)) gone.further ∙ take_all (links + 1) gone.one.path (omega (arith, longer_count))

      path_kept : take links gone.one.path ≡ path_within old links
      path_kept =
          ap (take links) gone.longer.is
          ∙ take-append-le links (path_within old links) (gone.longer.place ∷ []) (omega (arith, count_shown old links room))
          ∙ take_all links (path_within old links) (omega (arith, count_shown old links room))

      -- more was taken behind the target
      module _ (new : Resolver) (last : PlaceTables) (steps end : ℕ) (before after all : List TakenTarget)
          (target : written.Whole) (same : target ≡ (gone.one.element, gone.one.inside))
          (rest : IsFollowed setting.pushed target.0 target.1
          (followed_from steps setting topic at (path_within mid (links + 1)) target.0 target.1) before after (links + 1)
          end mid new last)
          (items : all ≡ after ++ link ∷ []) where
        more_is : followed_from steps setting topic at gone.one.path gone.one.element gone.one.inside
            ≡ followed_to_all gone.one.element gone.one.inside gone.one.path rest.faults rest.taken
        more_is = subst (λ (w : written.Whole). followed_from steps setting topic at gone.one.path w.0 w.1
            ≡ followed_to_all w.0 w.1 gone.one.path rest.faults rest.taken) same
            (subst (λ (p : List Place). followed_from steps setting topic at p target.0 target.1
            ≡ followed_to_all target.0 target.1 p rest.faults rest.taken) path_mid rest.is)

        path_new : path_within new (links + 1) ≡ gone.one.path
        path_new = rest.kept ∙ path_mid

        abbrev step_faults : List Fault
        step_faults = (step_of setting topic at (path_within old links) element).faults

        all_is : followed_from (suc steps) setting topic at (path_within old links) element inside
            ≡ followed_to_all element inside (path_within old links) (step_faults ++ rest.faults)
            (rest.taken ++ gone.one ∷ [])
        all_is = follows steps setting topic at (path_within old links) element inside
            ∙ ap (after_step (followed_from steps setting topic at) (path_within old links) element inside step_faults)
            gone.is
            ∙ ap (taken element gone.one.around gone.one.element gone.one.range gone.one.path step_faults) more_is
            ∙ one_more element inside (path_within old links) step_faults rest.faults gone.one rest.taken

        last_path : gone.one.path ≡ take (end - length rest.taken) (path_within new end)
        last_path = sym path_new
            ∙ sym (take-take (links + 1) end (map place_shown new.path.items) (omega (arith, rest.count)))
            ∙ ap (λ n. take n (path_within new end)) (omega (arith, rest.count))

        kept_is : path_within new links ≡ path_within old links
        kept_is = sym (take-take links (links + 1) (map place_shown new.path.items) (omega arith))
            ∙ ap (take links) path_new ∙ path_kept

        pub follow_more : IsFollowed setting.pushed element inside
            (followed_from (suc steps) setting topic at (path_within old links) element inside) before all links end old
            new last
        follow_more = record {
          taken = rest.taken ++ gone.one ∷ [];
          more = rest.more ++ link ∷ [];
          faults = step_faults ++ rest.faults;
          items = items ∙ ap (λ (ls : List TakenTarget). ls ++ link ∷ []) rest.items
              ∙ append_assoc before rest.more (link ∷ []);
          linked = links_one_more (path_within new end) end rest.taken rest.more gone.one link rest.linked gone.linked
              last_path;
          count = (let n = length-append rest.taken (gone.one ∷ []) in let m = rest.count in omega arith);
          is = all_is;
          state = state_then old mid new step_faults rest.faults mid.path step.state rest.state;
          kept = kept_is;
          room = rest.room;
          tables = rest.tables;
        }

      module _ (target : Whole)
          (there : (one : Taken) → IsLink link one → whole_shown (Some target) ≡ Some (one.element, one.inside)) where
        pub follow_on : (new : Resolver) (last : PlaceTables) (steps end : ℕ) (before after all : List TakenTarget)
            → 0 < steps
            → ((n : ℕ) → steps ≡ suc n → IsFollowed setting.pushed (whole_of target).0 (whole_of target).1
            (followed_from n setting topic at (path_within mid (links + 1)) (whole_of target).0 (whole_of target).1)
            before after (links + 1) end mid new last)
            → all ≡ after ++ link ∷ []
            → IsFollowed setting.pushed element inside
            (followed_from steps setting topic at (path_within old links) element inside) before all links end old new last
        follow_on new last zero end before after all some rest items = absurd (omega arith)
        follow_on new last (suc steps) end before after all some rest items =
            follow_more new last steps end before after all (whole_of target)
            (whole_pair target gone.one (there gone.one gone.linked)) (rest steps refl) items

      -- a link that was taken has its target
      pub follow_lost : ((one : Taken) → IsLink link one → whole_shown None ≡ Some (one.element, one.inside))
          → (steps : ℕ) (before : List TakenTarget) → IsFollowed setting.pushed element inside
          (followed_from steps setting topic at (path_within old links) element inside) before before links links old mid
          first
      follow_lost whole steps before = let e = whole gone.one gone.linked in cc

-- What a reader that stands on the same has told

pub page_same_setting : (world : World) (stand other : Stand) (old new : Resolver) → other ≡ stand → IsSamePage old new
    → setting_of world other.setting new.context.now.page new.rules
    ≡ setting_of world stand.setting old.context.now.page old.rules
page_same_setting world stand other old new same page =
    ap (λ (s : Stand). setting_of world s.setting new.context.now.page new.rules) same
    ∙ ap (λ (context : Bor Context). setting_of world stand.setting context.now.page new.rules) page.context
    ∙ ap (λ (rules : List (List Rule)). setting_of world stand.setting old.context.now.page rules) page.rules

pub followed_there : (setting other : ResolveInput) (topic : List ℕ) (at steps links end : ℕ) (path : List Place)
    (element : Element) (inside : Written) (before after : List TakenTarget) (mid new : Resolver)
    (first last : PlaceTables)
    → other ≡ setting
    → (AreTables other.pushed first → IsFollowed other.pushed element inside
    (followed_from steps other topic at path element inside) before after links end mid new last)
    → AreTables setting.pushed first → IsFollowed setting.pushed element inside
    (followed_from steps setting topic at path element inside) before after links end mid new last
followed_there setting other topic at steps links end path element inside before after mid new first last same =
    subst (λ (s : ResolveInput). AreTables s.pushed first → IsFollowed s.pushed element inside
    (followed_from steps s topic at path element inside) before after links end mid new last) same
