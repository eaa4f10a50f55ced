-- A page that is resolved from its beginning, and what is handed out in the end.
use Rattle.std.specs.Prelude.{◌≡◌, ◌+◌, ◌-◌, ◌++◌, ◌<◌, ◌≤◌, ℕ, Bool, true, false, List, [], Option, None, Result, Ok, Err, nat_le, unwrap_or, if◌then◌else◌}
use Rattle.std.proofs.Common.{refl, sym, ap, subst, ◌∙◌, arith}
use Rattle.std.proofs.lemmas.Bool.Decides.{nat_tests}
use Rattle.dita_doc.specs.declared.content.Resolved.{Resolved}
use Rattle.dita_doc.specs.declared.content.Rule.{Rule}
use Rattle.dita_doc.specs.declared.fault.Fault.{Fault}
use Rattle.dita_doc.specs.declared.plan.Context.{Context}
use Rattle.dita_doc.specs.declared.stop.Stop.{Stop}
use Rattle.dita_doc.specs.declared.stop.Stop.TheVariants as stops
use Rattle.doc_maker.specs.Building.{Building, behind, depth, nothing, whole}
use Rattle.doc_maker.proofs.BuildingLaws.{whole_of_behind}
use Rattle.map_spec.specs.Written.{Written, End}
use Rattle.conref_spec.specs.Content as content
use Rattle.conref_spec.specs.Content.{ContentAround, Made, ResolveInput, count_limit, resolve_depth_limit, nothing_made, page_root, resolved_in, resolved_page, within}
use Rattle.reader_spec.specs.World.{World}
use Rattle.readers.specs.Setting.{Stand}
use Rattle.conref_targets.specs.Around.{alone_at, around_at, nothing_around}
use Rattle.conref_targets.specs.ResolveInput.{setting_of}
use Rattle.conref_targets.specs.Tables.{AreTables, Documents}
use Rattle.conref_targets.specs.declared.tables.PlaceTables.{PlaceTables}
use Rattle.conref_pull.specs.Putting.{built, declared_put}
use Rattle.conref_pull.specs.Resolved.{HasMemory, IsDone, IsResolved, too_much}
use Rattle.conref_pull.specs.Walking.{Here, IsReady, Walks, among_made}
use Rattle.conref_pull.specs.declared.resolver.Resolver.{Resolver}
use Rattle.conref_pull.specs.declared.resolver.TooMany.{TooMany}
use Rattle.conref_pull.proofs.ElementLaws.{resolved_more}
use Rattle.conref_pull.proofs.ResolvedLaws.{end_resolved}

-- What was handed out

pub within_room : (fault : List Fault) (made : Made) → made.count ≤ count_limit → made ≡ within count_limit fault made
within_room fault made room =
    let test : nat_le made.count count_limit ≡ true = grind (arith, nat_tests) in
    ap (λ (b : Bool). if b then made else too_much fault) (sym test)

pub within_not : (fault : List Fault) (made : Made) → count_limit < made.count
    → too_much fault ≡ within count_limit fault made
within_not fault made full =
    let test : nat_le made.count count_limit ≡ false = grind (arith, nat_tests) in
    ap (λ (b : Bool). if b then made else too_much fault) (sym test)

pub full_resolved : (fault : List Fault) (made : Made) (resolved : Resolved) → count_limit < made.count
    → IsResolved resolved (too_much fault) → IsResolved resolved (within count_limit fault made)
full_resolved fault made resolved full is =
    subst (λ (m : Made). IsResolved resolved m) (within_not fault made full) is

-- From the beginning

pub record Begins (resolver : Resolver) : Type 0 where
  pub nodes : built resolver ≡ nothing
  pub declared : declared_put resolver ≡ []
  pub count : resolver.count ≡ 0
  pub faults : resolver.faults ≡ []
  pub path : resolver.path.items ≡ []

pub done_of : (result : Result (Unit {0}) (Stop TooMany)) (documents : Documents) (links : ℕ) (made : Made)
    (old new : Resolver) (places : PlaceTables) → Begins old → Walks result documents links made old new places
    → IsDone result made new
done_of (Ok done) documents links made old new places begins walked =
    let count : new.count ≡ made.count = (let all = walked.put.count in let none = begins.count in omega (arith, all, none)) in
    record {
      nodes = ap whole (walked.put.nodes ∙ ap (λ (b : Building). behind b made.nodes) begins.nodes)
          ∙ whole_of_behind made.nodes;
      declared = walked.put.declared ∙ ap (λ (names : List (List (List ℕ))). names ++ made.declared) begins.declared;
      count = count;
      room = (let room = walked.put.room in omega (arith, room, count));
      faults = walked.put.faults ∙ ap (λ (fs : List Fault). fs ++ made.faults) begins.faults;
    }
done_of (Err (stops.Fault fault)) documents links made old new places begins walked =
    let none = begins.count in let much = walked.much in omega (arith, none, much)
done_of (Err stops.NoMemory) documents links made old new places begins walked = tt

abbrev pub here_begins : ResolveInput → ℕ → Here
here_begins setting depth = record { setting = setting; depth = depth; path = []; steps = 32 }

pub ready_begins : (world : World) (stand : Stand) (setting : ResolveInput) (around : ℕ) (resolver : Resolver)
    (places : PlaceTables) → Begins resolver
    → setting ≡ setting_of world stand.setting resolver.context.now.page resolver.rules
    → resolver.deepest ≡ resolve_depth_limit - around → AreTables setting.pushed places
    → IsReady world stand 0 (here_begins setting (around + 1)) resolver places
ready_begins world stand setting around resolver places begins is deepest tables =
    let none = begins.count in
    let height : depth (built resolver) ≡ 0 = ap depth begins.nodes in
    record {
      setting = is;
      path = refl;
      within = omega arith;
      limit = omega arith;
      steps = omega arith;
      depth = record { around = around; deepest = deepest; is = omega (arith, height) };
      room = omega (arith, none);
      tables = tables;
    }

-- the whole document of a page
pub all_made : (setting : ResolveInput) (around : ContentAround) (depth : ℕ) (nodes : Written)
    → among_made (here_begins setting depth) false around nodes ≡ resolved_in setting around depth nodes
all_made setting around depth nodes = sym (resolved_more 32 setting false around depth [] nodes)

-- without a document there is none
pub none_made : (setting : ResolveInput) (fault : List Fault) → setting.pushed setting.page ≡ None
    → nothing_made ≡ resolved_page count_limit fault setting
none_made setting fault none =
    within_room fault nothing_made (omega arith)
    ∙ ap (within count_limit fault) (sym (end_resolved 33 setting false content.nothing_around 1 []))
    ∙ ap (λ (found : Option Written). within count_limit fault (resolved_in setting content.nothing_around 1 (unwrap_or found End))) (sym none)

-- the setting in which a page begins
pub setting_begins : (world : World) (stand later : Stand) (context : Context) (resolver : Resolver)
    (rules : List (List Rule)) → stand ≡ later → resolver.context.now ≡ context → resolver.rules ≡ rules
    → setting_of world stand.setting context.page rules
    ≡ setting_of world later.setting resolver.context.now.page resolver.rules
setting_begins world stand later context resolver rules same page ruled =
    ap (λ (s : Stand). setting_of world s.setting context.page rules) same
    ∙ ap (λ (c : Context). setting_of world later.setting c.page rules) (sym page)
    ∙ ap (λ (r : List (List Rule)). setting_of world later.setting resolver.context.now.page r) (sym ruled)

-- the tables are right, also if there was too much
pub tables_kept : (result : Result (Unit {0}) (Stop TooMany)) (documents : Documents) (links : ℕ) (made : Made)
    (old new : Resolver) (places : PlaceTables) → HasMemory result → Walks result documents links made old new places
    → AreTables documents places
tables_kept (Ok done) documents links made old new places memory walked = walked.tables
tables_kept (Err (stops.Fault fault)) documents links made old new places memory walked = walked.tables
tables_kept (Err stops.NoMemory) documents links made old new places memory walked = absurd memory

pub no_node_made : (setting : ResolveInput) (fault : List Fault) (place : ℕ) → setting.pushed setting.page ≡ None
    → nothing_made ≡ within count_limit fault (resolved_in setting
    (around_at nothing_around (page_root setting) place).around
    ((around_at nothing_around (page_root setting) place).depth + 1) (alone_at (page_root setting) place))
no_node_made setting fault place none =
    within_room fault nothing_made (omega arith)
    ∙ ap (within count_limit fault) (sym (end_resolved 33 setting false content.nothing_around 1 []))
    ∙ ap (λ (found : Option Written). within count_limit fault (resolved_in setting
    (around_at nothing_around (unwrap_or found End) place).around
    ((around_at nothing_around (unwrap_or found End) place).depth + 1) (alone_at (unwrap_or found End) place))) (sym none)
