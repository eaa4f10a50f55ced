-- Branches that were read, one by one: what their chains exclude, and what they put on a node.
use Rattle.std.specs.Prelude.{◌≡◌, ◌++◌, ◌&&◌, ◌||◌, ◌==◌, ℕ, zero, suc, Bool, true, false, not, List, [], ◌∷◌, Option, Some, None, length, map, option_map, slice_get, if◌then◌else◌}
use Rattle.std.specs.List.{list_all, list_any}
use Rattle.std.specs.Option.{option_and_then, option_map_or, option_to_list}
use Rattle.std.proofs.Common.{refl, sym, ap, ◌∙◌, append-nil, append_assoc}
use Rattle.std.proofs.lemmas.Bool.{and_right}
use Rattle.std.proofs.lemmas.Option.{slice_get-map}
use Rattle.dita_doc.specs.ClassValue.{words_of}
use Rattle.dita_doc.specs.declared.content.Rule.{Rule}
use Rattle.dita_doc.specs.declared.doc.Attribute.{Attribute}
use Rattle.dita_doc.specs.declared.plan.Affix.{Affix}
use Rattle.dita_doc.specs.declared.plan.PlanNode.{PlanNode}
use Rattle.ditaval_rules.specs.Verdict as verdict
use Rattle.ditaval_rules.specs.declared.rules.RulesRead.{RulesRead}
use Rattle.map_spec.specs.Branches as branches
use Rattle.map_spec.specs.Branches.{affix_written, is_no_text, marked}
use Rattle.map_spec.specs.Judged.{declared_of, is_excluded, whole_of}
use Rattle.map_spec.specs.MapTree.{Head, node_of}
use Rattle.map_spec.specs.Written.{Whole}
use Rattle.plan_nodes.specs.Home as home
use Rattle.reader_spec.specs.World.{World}
use Rattle.branch_copies.specs.BranchRead.{name_of, place_of}
use Rattle.branch_copies.specs.Ditavals.{ditaval_at}
use Rattle.node_filter.specs.Domains.{names_at}
use Rattle.branch_copies.specs.Leaves.{chosen}
use Rattle.branch_copies.specs.Marks.{affixes_of, copied_node, filters_of, if_affix}
use Rattle.branch_copies.specs.Read.{AreRead, IsRead}
use Rattle.branch_copies.specs.Originals.{IsSource, branch_excludes, excludes_at, table_at}
use Rattle.branch_copies.specs.Through.{excluded_by, marked_by}
use Rattle.branch_copies.specs.declared.branch.Branch.{Branch}
use Rattle.branch_copies.specs.declared.node.Originals.{Originals}
use Rattle.branch_copies.proofs.StandLaws.{whole_here}

-- the branch at a place was read as it is defined, or there is none
abbrev pub AtBoth : List RulesRead → List PlanNode → Option Branch → Option branches.Branch → Type 0
AtBoth read nodes None None = Unit {0}
AtBoth read nodes None (Some defined) = ⊥
AtBoth read nodes (Some branch) None = ⊥
AtBoth read nodes (Some branch) (Some defined) = IsRead read nodes branch defined

pub read_at : (read : List RulesRead) (nodes : List PlanNode) (all : List Branch) (defined : List branches.Branch)
    (at : ℕ)
    → AreRead read nodes all defined → AtBoth read nodes (slice_get all at) (slice_get defined at)
read_at read nodes [] [] at are = tt
read_at read nodes [] (one ∷ defined) at are = absurd are
read_at read nodes (branch ∷ all) [] at are = absurd are
read_at read nodes (branch ∷ all) (one ∷ defined) zero are = are.0
read_at read nodes (branch ∷ all) (one ∷ defined) (suc at) are = read_at read nodes all defined at are.1

pub read_length : (read : List RulesRead) (nodes : List PlanNode) (all : List Branch) (defined : List branches.Branch)
    → AreRead read nodes all defined → length defined ≡ length all
read_length read nodes [] [] are = refl
read_length read nodes [] (one ∷ defined) are = absurd are
read_length read nodes (branch ∷ all) [] are = absurd are
read_length read nodes (branch ∷ all) (one ∷ defined) are = ap suc (read_length read nodes all defined are.1)

-- Filters and affixes

abbrev filters_by : List branches.Branch → List (List ℕ)
filters_by [] = []
filters_by (branch ∷ chain) = option_to_list branch.filter.name ++ filters_by chain

abbrev affixes_by : List branches.Branch → List Affix
affixes_by [] = []
affixes_by (branch ∷ chain) = affix_written branch.resource ++ affixes_by chain

filters_both : (one two : List branches.Branch) → filters_by (one ++ two) ≡ filters_by one ++ filters_by two
filters_both [] two = refl
filters_both (branch ∷ one) two =
    ap (λ more. option_to_list branch.filter.name ++ more) (filters_both one two)
    ∙ sym (append_assoc (option_to_list branch.filter.name) (filters_by one) (filters_by two))

affixes_both : (one two : List branches.Branch) → affixes_by (one ++ two) ≡ affixes_by one ++ affixes_by two
affixes_both [] two = refl
affixes_both (branch ∷ one) two =
    ap (λ more. affix_written branch.resource ++ more) (affixes_both one two)
    ∙ sym (append_assoc (affix_written branch.resource) (affixes_by one) (affixes_by two))

affix_listed : (none : Bool) (affix : Affix)
    → option_to_list (if none then None else Some affix) ≡ (if none then [] else affix ∷ [])
affix_listed true affix = refl
affix_listed false affix = refl

module _ (read : List RulesRead) (nodes : List PlanNode) where
  filter_of : (one : Option Branch) (two : Option branches.Branch) → AtBoth read nodes one two
      → option_to_list (option_and_then (λ (branch : Branch). name_of branch.filter) one)
      ≡ filters_by (option_to_list two)
  filter_of None None both = refl
  filter_of None (Some defined) both = absurd both
  filter_of (Some branch) None both = absurd both
  filter_of (Some branch) (Some defined) both =
      ap option_to_list both.name ∙ sym (append-nil (option_to_list defined.filter.name))

  affix_of : (one : Option Branch) (two : Option branches.Branch) → AtBoth read nodes one two
      → option_to_list (option_and_then (λ (branch : Branch). if_affix branch.resource) one)
      ≡ affixes_by (option_to_list two)
  affix_of None None both = refl
  affix_of None (Some defined) both = absurd both
  affix_of (Some branch) None both = absurd both
  affix_of (Some branch) (Some defined) both =
      affix_listed (is_no_text branch.resource.prefix && is_no_text branch.resource.suffix) branch.resource
      ∙ ap affix_written both.resource ∙ sym (append-nil (affix_written defined.resource))

  module _ (all : List Branch) (defined : List branches.Branch) where
    filters_chosen : (chain : List ℕ) → AreRead read nodes all defined
        → filters_of all chain ≡ filters_by (chosen defined chain)
    filters_chosen [] are = refl
    filters_chosen (at ∷ chain) are =
        ap (λ first. first ++ filters_of all chain)
        (filter_of (slice_get all at) (slice_get defined at) (read_at read nodes all defined at are))
        ∙ ap (λ more. filters_by (option_to_list (slice_get defined at)) ++ more) (filters_chosen chain are)
        ∙ sym (filters_both (option_to_list (slice_get defined at)) (chosen defined chain))

    affixes_chosen : (chain : List ℕ) → AreRead read nodes all defined
        → affixes_of all chain ≡ affixes_by (chosen defined chain)
    affixes_chosen [] are = refl
    affixes_chosen (at ∷ chain) are =
        ap (λ first. first ++ affixes_of all chain)
        (affix_of (slice_get all at) (slice_get defined at) (read_at read nodes all defined at are))
        ∙ ap (λ more. affixes_by (option_to_list (slice_get defined at)) ++ more) (affixes_chosen chain are)
        ∙ sym (affixes_both (option_to_list (slice_get defined at)) (chosen defined chain))

abbrev with_marks : Head → List (List ℕ) → List Affix → Head
with_marks head filters affixes = record head { filters = filters; affixes = affixes }

marks_are : (chain : List branches.Branch) (head : Head)
    → with_marks head (head.filters ++ filters_by chain) (head.affixes ++ affixes_by chain) ≡ marked_by chain head
marks_are [] head =
    ap (λ filters. with_marks head filters (head.affixes ++ [])) (append-nil head.filters)
    ∙ ap (with_marks head head.filters) (append-nil head.affixes)
marks_are (branch ∷ chain) head =
    let filters = option_to_list branch.filter.name in
    let affixes = affix_written branch.resource in
    ap (λ all. with_marks head all (head.affixes ++ (affixes ++ affixes_by chain)))
    (sym (append_assoc head.filters filters (filters_by chain)))
    ∙ ap (with_marks head ((head.filters ++ filters) ++ filters_by chain))
    (sym (append_assoc head.affixes affixes (affixes_by chain)))
    ∙ marks_are chain (marked branch head)

-- a copied node has the marks of the branches around it
pub copied_is : (read : List RulesRead) (nodes : List PlanNode) (all : List Branch) (defined : List branches.Branch)
    (chain : List ℕ) (head : Head) (above end parent : ℕ) (names : List (List ℕ)) → AreRead read nodes all defined
    → copied_node all chain (node_of head above end) names parent
    ≡ node_of (marked_by (chosen defined chain) (record head { scope_names = names })) parent 0
copied_is read nodes all defined chain head above end parent names are =
    let named : Head = record head { scope_names = names } in
    ap (λ filters. node_of (with_marks named (head.filters ++ filters) (head.affixes ++ affixes_of all chain)) parent 0)
    (filters_chosen read nodes all defined chain are)
    ∙ ap (λ affixes. node_of (with_marks named (head.filters ++ filters_by (chosen defined chain))
    (head.affixes ++ affixes))
    parent 0) (affixes_chosen read nodes all defined chain are)
    ∙ ap (λ h. node_of h parent 0) (marks_are (chosen defined chain) named)

-- What is excluded

-- no rules exclude nothing
no_token : (tokens : List (List ℕ)) → (not (length tokens == 0) && list_all (λ token. false) tokens) ≡ false
no_token [] = refl
no_token (token ∷ tokens) = and_right (not (length (token ∷ tokens) == 0)) false refl

none_by : (conditional grouped : Bool) (tokens : List (List ℕ))
    → (conditional && not grouped && not (length tokens == 0) && list_all (λ token. false) tokens) ≡ false
none_by true true tokens = refl
none_by true false tokens = no_token tokens
none_by false grouped tokens = refl

none_excludes : (declared : List (List ℕ)) (attribute : Attribute) → verdict.excludes [] declared attribute ≡ false
none_excludes declared attribute = none_by (verdict.is_conditional_among declared attribute.name)
    (verdict.is_grouped attribute.value) (words_of attribute.value)

none_excluded : (declared : List (List ℕ)) (attributes : List Attribute)
    → verdict.excluded [] declared attributes ≡ false
none_excluded declared [] = refl
none_excluded declared (attribute ∷ attributes) =
    ap (λ b. b || list_any (verdict.excludes [] declared) attributes) (none_excludes declared attribute)
    ∙ none_excluded declared attributes

excludes_read : (declared : List (List ℕ)) (whole : Option Whole) (found : Option RulesRead)
    → branch_excludes (Some declared) whole (option_map (λ (read : RulesRead). read.rules) found)
    ≡ option_map_or (λ (here : Whole).
    verdict.excluded (option_map_or (λ (read : RulesRead). read.rules) found []) declared here.0.attributes) whole false
excludes_read declared None found = refl
excludes_read declared (Some whole) None = sym (none_excluded declared whole.0.attributes)
excludes_read declared (Some whole) (Some read) = refl

rules_found : (read : List RulesRead) (place : Option ℕ)
    → option_and_then (λ (at : ℕ). slice_get (map (λ (one : RulesRead). one.rules) read) at) place
    ≡ option_map (λ (one : RulesRead). one.rules) (ditaval_at read place)
rules_found read None = refl
rules_found read (Some at) = slice_get-map (λ (one : RulesRead). one.rules) read at

excludes_none : (declared : List (List ℕ)) (whole : Option Whole) → branch_excludes (Some declared) whole None ≡ false
excludes_none declared None = refl
excludes_none declared (Some whole) = refl

or_false : (b : Bool) → b ≡ (b || false)
or_false true = refl
or_false false = refl

module _ (world : World) (head : Head) where
  excludes_one : (read : List RulesRead) (nodes : List PlanNode) (tables : List (List Rule)) (whole : Option Whole)
      (one : Option Branch) (two : Option branches.Branch) → whole ≡ whole_of world head
      → tables ≡ map (λ (r : RulesRead). r.rules) read → AtBoth read nodes one two
      → branch_excludes (Some (declared_of world head)) whole (option_and_then (λ (place : ℕ). slice_get tables place)
      (option_and_then (λ (branch : Branch). place_of branch.filter) one))
      ≡ excluded_by world (option_to_list two) head
  excludes_one read nodes tables whole None None here are both = excludes_none (declared_of world head) whole
  excludes_one read nodes tables whole None (Some defined) here are both = absurd both
  excludes_one read nodes tables whole (Some branch) None here are both = absurd both
  excludes_one read nodes tables whole (Some branch) (Some defined) here are both =
      let names = declared_of world head in
      ap (λ all. branch_excludes (Some names) whole
      (option_and_then (λ (place : ℕ). slice_get all place) (place_of branch.filter))) are
      ∙ ap (branch_excludes (Some names) whole) (rules_found read (place_of branch.filter))
      ∙ excludes_read names whole (ditaval_at read (place_of branch.filter))
      ∙ ap (λ rules. option_map_or (λ (w : Whole). verdict.excluded rules names w.0.attributes) whole false) both.rules
      ∙ ap (λ w. option_map_or (λ (w : Whole). verdict.excluded defined.filter.rules names w.0.attributes) w false) here
      ∙ or_false (is_excluded world defined.filter.rules head)

  excluded_both : (one two : List branches.Branch)
      → excluded_by world (one ++ two) head ≡ (excluded_by world one head || excluded_by world two head)
  excluded_both [] two = refl
  excluded_both (branch ∷ one) two =
      ap (λ b. is_excluded world branch.filter.rules head || b) (excluded_both one two)
      ∙ or_assoc (is_excluded world branch.filter.rules head) (excluded_by world one head) (excluded_by world two head)
    where
      or_assoc : (a b c : Bool) → (a || (b || c)) ≡ ((a || b) || c)
      or_assoc true b c = refl
      or_assoc false b c = refl

-- whether the branch at a place excludes the node at another
pub excludes_is : (world : World) (source : Originals) (defined : List branches.Branch) (above at end branch : ℕ)
    (head : Head)
    → IsSource world source defined → slice_get source.nodes.now at ≡ Some (node_of head above end)
    → excludes_at source at branch ≡ excluded_by world (option_to_list (slice_get defined branch)) head
excludes_is world source defined above at end branch head is here =
    ap (λ names. branch_excludes names (home.whole_at source.homes.now at)
    (table_at source.branches.now source.tables.items branch))
    (ap (λ all. slice_get all at) is.declared ∙ slice_get-map (names_at world) source.nodes.now at
    ∙ ap (option_map (names_at world)) here)
    ∙ excludes_one world head is.ditavals source.nodes.now source.tables.items (home.whole_at source.homes.now at)
    (slice_get source.branches.now branch) (slice_get defined branch)
    (whole_here world source.nodes.now source.homes.now above at end head is.homes here) is.tables
    (read_at is.ditavals source.nodes.now source.branches.now defined branch is.read)

-- whether one of a chain does
pub chain_excludes : (world : World) (source : Originals) (defined : List branches.Branch) (above at end : ℕ)
    (head : Head)
    (chain : List ℕ) → IsSource world source defined → slice_get source.nodes.now at ≡ Some (node_of head above end)
    → list_any (excludes_at source at) chain ≡ excluded_by world (chosen defined chain) head
chain_excludes world source defined above at end head [] is here = refl
chain_excludes world source defined above at end head (branch ∷ chain) is here =
    ap (λ b. b || list_any (excludes_at source at) chain)
    (excludes_is world source defined above at end branch head is here)
    ∙ ap (λ b. excluded_by world (option_to_list (slice_get defined branch)) head || b)
    (chain_excludes world source defined above at end head chain is here)
    ∙ sym (excluded_both world head (option_to_list (slice_get defined branch)) (chosen defined chain))
