-- The first node of each page that may be linked to, node by node, and families behind others.
use Rattle.std.specs.Prelude.{◌≡◌, ◌+◌, ◌<◌, ◌≤◌, ◌==◌, ◌&&◌, ◌||◌, ℕ, zero, suc, Bool, true, false, not, List, [], ◌∷◌, ◌++◌, drop, filter, length, if◌then◌else◌}
use Rattle.std.specs.BTreeMap.{is_at}
use Rattle.std.specs.BTreeSet.{BTreeSet}
use Rattle.std.specs.List.{flat_map, list_any}
use Rattle.std.specs.Ordering.{nat_cmp}
use Rattle.std.specs.declared.alloc.Global.{Global}
use Rattle.std.specs.declared.vec.Vec.{Vec}
use Rattle.std.proofs.Common.{refl, sym, ap, subst, ◌∙◌, append-nil, append_assoc, arith, get_or}
use Rattle.std.proofs.lemmas.Bool.{eqb-true}
use Rattle.std.proofs.lemmas.Grind.{flat_map-append}
use Rattle.std.proofs.lemmas.List.{drop_more, length_push}
use Rattle.std.proofs.lemmas.List.Folds.{list_any-append}
use Rattle.dita_doc.proofs.Lists.{filter_every}
use Rattle.dita_doc.proofs.Tests.{and_false}
use Rattle.link_groups.specs.declared.link_nodes.LinkNode.{LinkNode}
use Rattle.link_groups.proofs.OnceLaws.{filter_twice}
use Rattle.family_links.specs.Families.{AreBelow, AreFamilies, AreFound, first_targets, has_page, if_linking, is_linking, siblings_of, targets_at, with_target}
use Rattle.family_links.specs.Lists.{listed}
use Rattle.family_links.specs.declared.families.Families.{Families}

abbrev is_new : List LinkNode → LinkNode → Bool
is_new found node = not (has_page found node.page)

-- what is found so far, with what comes behind it
abbrev pub with_rest : List LinkNode → List LinkNode → List LinkNode
with_rest found rest = found ++ filter (is_new found) (first_targets rest)

abbrev other_page : LinkNode → LinkNode → Bool
other_page node other = not (other.page == node.page)

pub none_yet : (nodes : List LinkNode) → with_rest [] nodes ≡ first_targets nodes
none_yet nodes = filter_every (is_new []) (λ node. refl) (first_targets nodes)

pub no_more : (found : List LinkNode) → with_rest found [] ≡ found
no_more found = append-nil found

-- One node more

module _ (found : List LinkNode) (node : LinkNode) (rest : List LinkNode) where
  abbrev all_else : List LinkNode
  all_else = filter (other_page node) (first_targets rest)

  again : (old b : Bool) → (b ≡ true → old ≡ false) → old ≡ (old && not b)
  again old true gone = gone refl ∙ sym (and_false old)
  again true false gone = refl
  again false false gone = refl

  apart : (a b : Bool) → not (a || (b || false)) ≡ (not a && not b)
  apart true b = refl
  apart false true = refl
  apart false false = refl

  -- where the page was found, nothing else of it is new
  found_before : has_page found node.page ≡ true
      → filter (is_new found) all_else ≡ filter (is_new found) (first_targets rest)
  found_before there = filter_twice (is_new found) (other_page node) (is_new found)
      (λ other. again (is_new found other) (other.page == node.page)
      (λ same. ap (λ page. not (has_page found page)) (eqb-true other.page node.page same) ∙ ap not there))
      (first_targets rest)

  found_now : filter (is_new found) all_else ≡ filter (is_new (found ++ node ∷ [])) (first_targets rest)
  found_now = filter_twice (is_new found) (other_page node) (is_new (found ++ node ∷ []))
      (λ other. ap not (list_any-append (λ (n : LinkNode). other.page == n.page) found (node ∷ []))
      ∙ apart (has_page found other.page) (other.page == node.page)) (first_targets rest)

  by_page : (has : Bool) → has_page found node.page ≡ has
      → found ++ (if not has then node ∷ filter (is_new found) all_else else filter (is_new found) all_else)
      ≡ with_rest (if true && not has then found ++ node ∷ [] else found) rest
  by_page true e = ap (λ l. found ++ l) (found_before e)
  by_page false e =
      ap (λ l. found ++ node ∷ l) found_now
      ∙ sym (append_assoc found (node ∷ []) (filter (is_new (found ++ node ∷ [])) (first_targets rest)))

  by_target : (target : Bool)
      → found ++ filter (is_new found) (if target then node ∷ all_else else first_targets rest)
      ≡ with_rest (if target && not (has_page found node.page) then found ++ node ∷ [] else found) rest
  by_target true = by_page (has_page found node.page) refl
  by_target false = refl

  pub target_more : with_rest found (node ∷ rest) ≡ with_rest (with_target found node) rest
  target_more = by_target node.is_target

-- one of a list more
pub target_step : (nodes found new : List LinkNode) (d : LinkNode) (i : ℕ) → i < length nodes
    → new ≡ with_target found (get_or nodes i d)
    → with_rest found (drop i nodes) ≡ first_targets nodes → with_rest new (drop (i + 1) nodes) ≡ first_targets nodes
target_step nodes found new d i within is so_far =
    ap (λ l. with_rest l (drop (i + 1) nodes)) is
    ∙ sym (target_more found (get_or nodes i d) (drop (i + 1) nodes))
    ∙ ap (with_rest found) (sym (drop_more nodes i d within))
    ∙ so_far

pub none_found : (found : List LinkNode) (linked : BTreeSet ℕ) → found ≡ [] → linked.keys ≡ [] → AreFound found linked
none_found found linked none empty = record {
  each = λ page. ap (list_any (is_at (nat_cmp page))) empty ∙ sym (ap (λ l. has_page l page) none);
}

-- Families of which the targets are kept

pub none_beyond : (targets : List (Vec LinkNode Global)) (place : ℕ) (nodes : List LinkNode)
    → length targets ≤ place → nodes ≡ nodes ++ targets_at targets place
none_beyond [] place nodes beyond = sym (append-nil nodes)
none_beyond (first ∷ targets) zero nodes beyond = absurd (omega (arith, beyond))
none_beyond (first ∷ targets) (suc place) nodes beyond = none_beyond targets place nodes (omega (arith, beyond))

targets_before : (targets : List (Vec LinkNode Global)) (more : Vec LinkNode Global) (place : ℕ)
    → place < length targets → targets_at (targets ++ more ∷ []) place ≡ targets_at targets place
targets_before [] more place within = absurd (omega (arith, within))
targets_before (first ∷ targets) more zero within = refl
targets_before (first ∷ targets) more (suc place) within = targets_before targets more place (omega (arith, within))

targets_last : (targets : List (Vec LinkNode Global)) (more : Vec LinkNode Global)
    → targets_at (targets ++ more ∷ []) (length targets) ≡ more.items
targets_last [] more = refl
targets_last (first ∷ targets) more = targets_last targets more

all_before : (targets : List (Vec LinkNode Global)) (more : Vec LinkNode Global) (places : List ℕ)
    → AreBelow (length targets) places
    → flat_map (targets_at (targets ++ more ∷ [])) places ≡ flat_map (targets_at targets) places
all_before targets more [] below = refl
all_before targets more (place ∷ places) below =
    (λ i. targets_before targets more place below.0 i ++ all_before targets more places below.1 i)

below_more : (count : ℕ) (places : List ℕ) (b : Bool) → AreBelow count places
    → AreBelow (count + 1) (places ++ (if b then count ∷ [] else []))
below_more count [] true below = (omega arith, tt)
below_more count [] false below = tt
below_more count (place ∷ places) b below = (omega (arith, below.0), below_more count places b below.1)

pub family_added : (groups : List (List LinkNode)) (nodes : List LinkNode) (old new : Families) (place : ℕ)
    (targets : Vec LinkNode Global) → AreFamilies groups old → place ≡ length old.targets.items
    → ((page : ℕ) → listed page new.of_pages.entries
    ≡ listed page old.of_pages.entries ++ if_linking page nodes place)
    → targets.items ≡ first_targets nodes → new.targets.items ≡ old.targets.items ++ targets ∷ []
    → AreFamilies (groups ++ nodes ∷ []) new
family_added groups nodes old new place targets before count put first pushed = record {
  within = λ page. subst (AreBelow (length new.targets.items)) (sym (here page))
      (subst (λ n. AreBelow n (listed page old.of_pages.entries ++ (if is_linking page nodes then last ∷ [] else [])))
      (sym long) (below_more last (listed page old.of_pages.entries) (is_linking page nodes) (before.within page)));
  are = λ page.
      ap (λ l. flat_map (targets_at l) (listed page new.of_pages.entries)) pushed
      ∙ ap (flat_map (targets_at kept)) (here page)
      ∙ flat_map-append (targets_at kept) (listed page old.of_pages.entries)
      (if is_linking page nodes then last ∷ [] else [])
      ∙ (λ i. (all_before old.targets.items targets (listed page old.of_pages.entries) (before.within page)
      ∙ before.are page) i ++ added (is_linking page nodes) i)
      ∙ sym (flat_map-append (siblings_of page) groups (nodes ∷ [])
      ∙ ap (λ l. flat_map (siblings_of page) groups ++ l) (append-nil (siblings_of page nodes)));
}
  where
    last : ℕ
    last = length old.targets.items

    kept : List (Vec LinkNode Global)
    kept = old.targets.items ++ targets ∷ []

    long : length new.targets.items ≡ last + 1
    long = ap length pushed ∙ length_push old.targets.items targets

    here : (page : ℕ) → listed page new.of_pages.entries
        ≡ listed page old.of_pages.entries ++ (if is_linking page nodes then last ∷ [] else [])
    here page = put page ∙ ap (λ n. listed page old.of_pages.entries ++ if_linking page nodes n) count

    added : (b : Bool) → flat_map (targets_at kept) (if b then last ∷ [] else [])
        ≡ (if b then first_targets nodes else [])
    added true = append-nil (targets_at kept last) ∙ targets_last old.targets.items targets ∙ first
    added false = refl
