-- What is kept of documents, when one more is put.
use Rattle.std.specs.Prelude.{◌≡◌, ◌+◌, ◌-◌, ◌==◌, ℕ, Bool, true, false, List, [], Option, Some, Result, Ok, Err, OnOk, cond, nat_lt, if◌then◌else◌}
use Rattle.std.specs.BTreeMap as tree
use Rattle.std.specs.BTreeMap.{is_at}
use Rattle.std.proofs.Common.{refl, sym, ap, subst, ◌∙◌}
use Rattle.std.specs.declared.alloc.Global.{Global}
use Rattle.std.specs.declared.vec.Vec.{Vec}
use Rattle.dita_doc.specs.TextOrder.{text_cmp}
use Rattle.dita_doc.specs.declared.doc.Doc.{Doc}
use Rattle.dita_doc.specs.Tree.{Content, End, Chars, Element, size_of, tree_of}
use Rattle.ditaval_rules.specs.Declarations.{AreDeclarations, Declaring}
use Rattle.ditaval_rules.specs.Domains.{declared_around as by_tree, declared_by}
use Rattle.map_spec.specs.Written.{Written}
use Rattle.conref_spec.specs.Content.{declared_around_written}
use Rattle.readers.specs.Named.{under_names, named_tree}
use Rattle.readers.proofs.GivenLaws.{size_named}
use Rattle.topic_find.specs.Table.{IsTableFor}
use Rattle.topic_find.specs.declared.table.TargetTable.{TargetTable}
use Rattle.conref_targets.specs.Parts.{ends_of}
use Rattle.conref_targets.specs.Tables.{AreDeclared, AreTables, Documents}
use Rattle.conref_targets.specs.declared.tables.PlaceTables.{PlaceTables}
use Rattle.conref_targets.proofs.KnownLaws.{put_found}

pub on_ok_always : {T E : Type 0} (result : Result T E) (P : Type 0) → P → OnOk result P
on_ok_always (Ok value) P holds = holds
on_ok_always (Err stop) P holds = tt

-- where a document's elements stand
pub target_put : (documents : Documents) (old new : PlaceTables) (key name : List ℕ) (table : TargetTable) (doc : Doc)
    → key ≡ name
    → ((q : List ℕ) → tree.get text_cmp new.targets q
    ≡ cond (is_at (text_cmp key) q) (Some table) (tree.get text_cmp old.targets q))
    → new.ends ≡ old.ends → new.declared ≡ old.declared → documents name ≡ Some (named_tree doc)
    → IsTableFor table (named_tree doc)
    → AreTables documents old → AreTables documents new
target_put documents old new key name table doc same puts ends declared stored is are = record {
  targets = λ n found nodes at here.
      put_found (λ (other : List ℕ) (one : TargetTable). (all : Written) → documents other ≡ Some all → IsTableFor one all)
      old.targets new.targets key table puts (λ other one there all stands. are.targets other one all there stands)
      (λ all stands. (let equal : named_tree doc ≡ all = same_document (sym stored ∙ ap documents (sym same) ∙ stands) in
      subst (IsTableFor table) equal is)) n found at nodes here;
  ends = λ n found nodes at here. are.ends n found nodes (at ∙ ap (λ kept. tree.get text_cmp kept n) ends) here;
  declared = λ n found nodes at here.
      are.declared n found nodes (at ∙ ap (λ kept. tree.get text_cmp kept n) declared) here;
}
  where
    same_document : {one other : Written} → ◌≡◌ {A = Option Written} (Some one) (Some other) → one ≡ other
    same_document e = cc

-- where siblings end
pub ends_put : (documents : Documents) (old new : PlaceTables) (key name : List ℕ) (ends : Vec ℕ Global) (doc : Doc)
    → key ≡ name
    → ((q : List ℕ) → tree.get text_cmp new.ends q
    ≡ cond (is_at (text_cmp key) q) (Some ends) (tree.get text_cmp old.ends q))
    → new.targets ≡ old.targets → new.declared ≡ old.declared → documents name ≡ Some (named_tree doc)
    → ends.items ≡ ends_of (named_tree doc)
    → AreTables documents old → AreTables documents new
ends_put documents old new key name ends doc same puts targets declared stored is are = record {
  targets = λ n found nodes at here.
      are.targets n found nodes (at ∙ ap (λ kept. tree.get text_cmp kept n) targets) here;
  ends = λ n found nodes at here.
      put_found (λ (other : List ℕ) (one : Vec ℕ Global). (all : Written) → documents other ≡ Some all
      → one.items ≡ ends_of all)
      old.ends new.ends key ends puts (λ other one there all stands. are.ends other one all there stands)
      (λ all stands. (let equal : named_tree doc ≡ all = same_document (sym stored ∙ ap documents (sym same) ∙ stands) in
      is ∙ ap ends_of equal)) n found at nodes here;
  declared = λ n found nodes at here.
      are.declared n found nodes (at ∙ ap (λ kept. tree.get text_cmp kept n) declared) here;
}
  where
    same_document : {one other : Written} → ◌≡◌ {A = Option Written} (Some one) (Some other) → one ≡ other
    same_document e = cc

-- the names that are declared around a node of a tree are those of its nodes
by_place : (around : List (List ℕ)) (here : Bool) {one other : List (List ℕ)} → one ≡ other
    → (if here then around else one) ≡ (if here then around else other)
by_place around here same = ap (λ (names : List (List ℕ)). if here then around else names) same

by_past : (past_it : Bool) {first last one other : List (List ℕ)} → first ≡ last → one ≡ other
    → (if past_it then first else one) ≡ (if past_it then last else other)
by_past true far near = far
by_past false far near = near

around_named : (around names : List (List ℕ)) (content : Content) (place : ℕ)
    → by_tree around content place ≡ declared_around_written around (under_names names content) place
around_named around names End place = refl
around_named around names (Chars text origin line rest) place =
    by_place around (place == 0) (around_named around names rest (place - 1))
around_named around names (Element name attributes origin line inside rest) place =
    by_place around (place == 0) (by_past (nat_lt (size_of inside) place)
    (around_named around names rest (place - (1 + size_of inside)))
    (around_named (declared_by around attributes) names inside (place - 1)))
    ∙ ap (λ n. if place == 0 then around
    else if nat_lt n place then declared_around_written around (under_names names rest) (place - (1 + n))
    else declared_around_written (declared_by around attributes) (under_names names inside) (place - 1)) (sym (size_named names inside))

pub names_there : {declared : List Declaring} {nodes : Written} {found : List (List ℕ)} (place : ℕ)
    → (are : AreDeclared declared nodes)
    → ((tree : Content) → AreDeclarations tree declared → found ≡ by_tree [] tree place)
    → found ≡ declared_around_written [] nodes place
names_there place are is = is are.tree are.are ∙ around_named [] are.names are.tree place
    ∙ ap (λ (all : Written). declared_around_written [] all place) are.is

pub declared_of : (doc : Doc) (declared : List Declaring) → AreDeclarations (tree_of doc.nodes) declared
    → AreDeclared declared (named_tree doc)
declared_of doc declared are = record { names = doc.origins; tree = tree_of doc.nodes; is = refl; are = are }

-- the names that are declared in a document
pub declared_put : (documents : Documents) (old new : PlaceTables) (key name : List ℕ) (declared : List Declaring)
    (doc : Doc) → key ≡ name
    → ((q : List ℕ) → tree.get text_cmp new.declared q
    ≡ cond (is_at (text_cmp key) q) (Some declared) (tree.get text_cmp old.declared q))
    → new.targets ≡ old.targets → new.ends ≡ old.ends → documents name ≡ Some (named_tree doc)
    → AreDeclared declared (named_tree doc) → AreTables documents old → AreTables documents new
declared_put documents old new key name declared doc same puts targets ends stored is are = record {
  targets = λ n found nodes at here.
      are.targets n found nodes (at ∙ ap (λ kept. tree.get text_cmp kept n) targets) here;
  ends = λ n found nodes at here. are.ends n found nodes (at ∙ ap (λ kept. tree.get text_cmp kept n) ends) here;
  declared = λ n found nodes at here.
      put_found (λ (other : List ℕ) (one : List Declaring). (all : Written) → documents other ≡ Some all
      → AreDeclared one all)
      old.declared new.declared key declared puts (λ other one there all stands. are.declared other one all there stands)
      (λ all stands. (let equal : named_tree doc ≡ all = same_document (sym stored ∙ ap documents (sym same) ∙ stands) in
      subst (AreDeclared declared) equal is)) n found at nodes here;
}
  where
    same_document : {one other : Written} → ◌≡◌ {A = Option Written} (Some one) (Some other) → one ≡ other
    same_document e = cc
