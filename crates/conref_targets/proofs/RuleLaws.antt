-- The rules that are kept, one DITAVAL after the other.
use Rattle.std.specs.Prelude.{◌≡◌, ◌+◌, ◌<◌, ℕ, Bool, true, false, List, [], ◌∷◌, ◌++◌, Option, Some, None, Result, Ok, Err, OnOk, cond, get_or, is_some, length, take}
use Rattle.std.specs.BTreeMap.{is_at}
use Rattle.std.specs.Option.{option_and_then, option_to_list}
use Rattle.std.proofs.Common.{refl, sym, ap, subst, ◌∙◌}
use Rattle.std.proofs.lemmas.List.{take_more}
use Rattle.std.proofs.lemmas.List.Concat.{flat_map-append}
use Rattle.dita_doc.specs.TextOrder.{text_cmp}
use Rattle.dita_doc.specs.declared.content.Rule.{Rule}
use Rattle.dita_doc.specs.declared.stop.NoMemory.{NoMemory}
use Rattle.reader_spec.specs.World.{World}
use Rattle.conref_targets.specs.Rules.{AreRules, HasAll, HasRead, HaveSame, Keeps, all_kept, kept_under, page_rules, rules_under}
use Rattle.conref_targets.specs.declared.rules.RuleLists.{RuleLists}
use Rattle.conref_targets.proofs.KnownLaws.{put_found}

pub keeps_same : (lists : RuleLists) → Keeps lists lists
keeps_same lists = record { each = λ name has. has }

pub keeps_trans : (a b c : RuleLists) → Keeps a b → Keeps b c → Keeps a c
keeps_trans a b c first second = record { each = λ name has. second.each name (first.each name has) }

-- what was there is there
pub all_keep : (old new : RuleLists) (names : List (List ℕ)) → Keeps old new → HasAll old names → HasAll new names
all_keep old new [] keeps has = tt
all_keep old new (name ∷ names) keeps has = (keeps.each name has.0, all_keep old new names keeps has.1)

pub has_one_more : (lists : RuleLists) (names : List (List ℕ)) (name : List ℕ) → HasAll lists names
    → is_some (kept_under lists name) ≡ true → HasAll lists (names ++ name ∷ [])
has_one_more lists [] name has one = (one, tt)
has_one_more lists (first ∷ names) name has one = (has.0, has_one_more lists names name has.1 one)

-- one more was read
pub read_one_more : (old new : RuleLists) (names : List (List ℕ)) (name : List ℕ) → HasAll old names
    → HasRead new old name → HasAll new (names ++ name ∷ [])
read_one_more old new names name has read =
    has_one_more new names name (all_keep old new names read.keeps has) read.has

-- the rules that are kept are those of the DITAVALs
rules_as_kept : (world : World) (lists : RuleLists) (name : List ℕ) (found : Option (Option (List Rule)))
    → AreRules world lists → kept_under lists name ≡ found → is_some found ≡ true
    → option_to_list (option_and_then (λ (rules : Option (List Rule)). rules) found)
    ≡ option_to_list (rules_under world name)
rules_as_kept world lists name None are is there = cc
rules_as_kept world lists name (Some rules) are is there = ap option_to_list (are.each name rules (sym is))

pub rules_of_page : (world : World) (lists : RuleLists) (names : List (List ℕ)) → AreRules world lists
    → HasAll lists names → all_kept lists names ≡ page_rules world names
rules_of_page world lists [] are has = refl
rules_of_page world lists (name ∷ names) are has =
    ap (λ (first : List (List Rule)). first ++ all_kept lists names)
    (rules_as_kept world lists name (kept_under lists name) are refl has.0)
    ∙ ap (λ (more : List (List Rule)). option_to_list (rules_under world name) ++ more)
    (rules_of_page world lists names are has.1)

pub both_have : (lists : RuleLists) (names more : List (List ℕ)) → HasAll lists names → HasAll lists more
    → HasAll lists (names ++ more)
both_have lists [] more first second = second
both_have lists (name ∷ names) more first second = (first.0, both_have lists names more first.1 second)

module _ (here world : World) where
  -- what stands under a name is all that its rules are read from
  pub one_same : (name : List ℕ) → world name ≡ here name → HaveSame here world (name ∷ [])
  one_same name same = rw same refl

  pub both_same : (names more : List (List ℕ)) → HaveSame here world names → HaveSame here world more
      → HaveSame here world (names ++ more)
  both_same names more first second =
      flat_map-append (λ name. option_to_list (rules_under world name)) names more
      ∙ ap (λ (rules : List (List Rule)). rules ++ page_rules world more) first
      ∙ ap (λ (rules : List (List Rule)). page_rules here names ++ rules) second
      ∙ sym (flat_map-append (λ name. option_to_list (rules_under here name)) names more)

  pub next_same : (names : List (List ℕ)) (at : ℕ) (name : List ℕ) → at < length names → name ≡ get_or names at name
      → HaveSame here world (take at names) → HaveSame here world (name ∷ []) → HaveSame here world (take (at + 1) names)
  next_same names at name within is before one =
      subst (HaveSame here world) (sym (take_more names at name within))
      (subst (λ n. HaveSame here world (take at names ++ n ∷ [])) is (both_same (take at names) (name ∷ []) before one))

-- the next of some names was read
pub read_next : (old new : RuleLists) (names : List (List ℕ)) (at : ℕ) (name : List ℕ) → at < length names
    → name ≡ get_or names at name → HasAll old (take at names) → HasRead new old name
    → HasAll new (take (at + 1) names)
read_next old new names at name within is has read =
    subst (HasAll new) (sym (take_more names at name within))
    (subst (λ n. HasAll new (take at names ++ n ∷ [])) is (read_one_more old new (take at names) name has read))

module _ (old new : RuleLists) (key name : List ℕ) (rules : Option (List Rule)) (same : key ≡ name)
    (puts : (q : List ℕ) → kept_under new q ≡ cond (is_at (text_cmp key) q) (Some rules) (kept_under old q)) where
  -- the rules of a DITAVAL are put under its name
  pub rules_put : (world : World) → rules ≡ rules_under world name → AreRules world old → AreRules world new
  rules_put world is are = record {
    each = put_found (λ n found. found ≡ rules_under world n) old.lists new.lists key rules puts are.each
        (is ∙ ap (rules_under world) (sym same));
  }

  put_some : (test : Bool) (before : Option (Option (List Rule))) → is_some before ≡ true
      → is_some (cond test (Some rules) before) ≡ true
  put_some true before has = refl
  put_some false before has = has

  -- and then they are there, as all that was
  pub rules_there : kept_under new key ≡ Some rules → HasRead new old name
  rules_there put = record {
    keeps = record { each = λ n has. rw (puts n) (put_some (is_at (text_cmp key) n) (kept_under old n) has) };
    has = subst (λ n. is_some (kept_under new n) ≡ true) same (rw put refl);
  }

-- what is kept for some names and then for more is what both have in the other world, too
pub all_read : (here world : World) (old new : RuleLists) (names more : List (List ℕ)) (result : Result (Unit {0}) NoMemory)
    → HasAll old names → OnOk result (Keeps old new) → OnOk result (HasAll new more) → OnOk result (AreRules here new)
    → HaveSame here world names → OnOk result (HaveSame here world more)
    → OnOk result (all_kept new (names ++ more) ≡ page_rules world (names ++ more))
all_read here world old new names more (Ok done) has keeps later are first second =
    rules_of_page here new (names ++ more) are (both_have new names more (all_keep old new names keeps has) later)
    ∙ sym (both_same here world names more first second)
all_read here world old new names more (Err stop) has keeps later are first second = tt
