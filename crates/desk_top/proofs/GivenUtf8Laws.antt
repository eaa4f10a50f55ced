-- Each row that a build cites has its page, and this is UTF-8: the documents of a history were read of PYX, and so what
-- is made of them is UTF-8.
use Rattle.std.proofs.Common.{◌≡◌, ℕ, true, List, Option, Some, None, Result, Ok, Err, IfSome, IsOk, All, Contains, ap, ◌∙◌, map, option_map, refl, subst, sym, true≢false}
use Rattle.std.specs.Str.{is_utf8}
use Rattle.std.proofs.lemmas.List.Elements.{All-contains}
use Rattle.std.proofs.lemmas.Str.{IsUtf8-from_is_utf8, is_utf8-from_IsUtf8}
use Rattle.dita_doc.specs.Desk.{Stored, nodes_in, stored_under}
use Rattle.dita_doc.specs.History.{Entry, sources}
use Rattle.dita_doc.specs.Pyx.{document_of}
use Rattle.dita_doc.specs.ReadTree.{IsReadTree}
use Rattle.dita_doc.specs.Request.{Request, Build, IsUtf8Request}
use Rattle.dita_doc.specs.Tree.{Content, tree_of}
use Rattle.dita_doc.specs.declared.doc.Node.{Node}
use Rattle.dita_doc.specs.declared.fault.PyxFault.{PyxFault}
use Rattle.pyx_text.proofs.PyxLaws.{stands_for_document}
use Rattle.pyx_text.proofs.ReadTrees.{kept_tree}
use Rattle.reader_spec.specs.World.{stored_tree, world_of}
use Rattle.version_store.proofs.HistoryLaws.{from_sources}
use Rattle.html_laws.specs.Utf8.{IsUtf8World}
use Rattle.html_laws.proofs.BuiltUtf8Laws.{HasUtf8Bytes, build_utf8}
use Rattle.html_laws.proofs.ContentUtf8Laws.{world_utf8}
use Rattle.facts.specs.Rows.{row_data}
use Rattle.facts.specs.declared.row.Row.{Row}
use Rattle.run_spec.specs.Language.{dita}
use Rattle.desk_work.specs.Build.{html_in, outcome_seen, page_seen}
use Rattle.desk_work.specs.declared.built.Outcome.{Outcome}
use Rattle.desk_work.specs.declared.built.Outcome.TheVariants.{Done, Stopped, TooLarge}
use Rattle.desk_work.specs.declared.built.PageRow.{PageRow}
use Rattle.desk_top.specs.Cited.{row_in, rows_in}
use Rattle.desk_top.specs.Served.{HasPages}
use Rattle.desk_top.specs.Told.{HasUtf8Page}
use Rattle.desk_top.proofs.CiteLaws.{HasItsPage, bytes_same}
use Rattle.desk_top.proofs.ElementLaws.{mapped, mapped_from, none_of}

-- The documents of a history

read_by : (bytes : List ℕ) (nodes : List Node) (read : Result Content PyxFault) → document_of bytes ≡ read → IsOk read
    → nodes ≡ nodes_in read → IsReadTree (tree_of nodes)
read_by bytes nodes (Ok tree) of is same = kept_tree nodes bytes (tree, stands_for_document bytes tree of, same)
read_by bytes nodes (Err fault) of is same = absurd (true≢false (sym is))

stored_read : (log : List Entry) (many : ℕ) (name : List ℕ) (found : Option Stored)
    → stored_under (sources log many) name ≡ found → IfSome (option_map stored_tree found) IsReadTree
stored_read log many name None is = tt
stored_read log many name (Some stored) is =
    let from = from_sources log many name stored is in
    read_by stored.bytes stored.nodes (document_of stored.bytes) refl from.read from.nodes

pub sources_utf8 : (log : List Entry) (many : ℕ) → IsUtf8World (world_of (sources log many))
sources_utf8 log many = world_utf8 (world_of (sources log many))
    (λ name. stored_read log many name (stored_under (sources log many) name) refl)

map_of : (root : List ℕ) (val : Option (List ℕ)) → IsUtf8Request (Build root val) → is_utf8 root ≡ true
map_of root None utf8 = utf8
map_of root (Some val) utf8 = utf8.0

pub map_utf8 : (request : Request) (root : List ℕ) (val : Option (List ℕ)) → request ≡ Build root val
    → IsUtf8Request request → is_utf8 root ≡ true
map_utf8 request root val asks utf8 = map_of root val (subst IsUtf8Request asks utf8)

-- The pages of a build

page_utf8 : (pages : List PageRow) (page : PageRow) → All HasItsPage pages → All HasUtf8Bytes (map page_seen pages)
    → Contains pages page → HasUtf8Page page.row
page_utf8 pages page have utf8 among = record {
  page = All-contains HasItsPage pages page have among;
  utf8 = ap is_utf8 (bytes_same (row_data page.row).fact.html)
      ∙ is_utf8-from_IsUtf8 (html_in (row_data page.row).fact.html)
      (All-contains HasUtf8Bytes (map page_seen pages) (page_seen page) utf8 (mapped page_seen pages page among));
}

pub rows_utf8 : (log : List Entry) (place : ℕ) (root : List ℕ) (val : Option (List ℕ)) (outcome : Outcome) (row : Row)
    → is_utf8 root ≡ true → outcome_seen outcome ≡ dita.clean (sources log place) root val → HasPages outcome
    → Contains (rows_in outcome) row → HasUtf8Page row
rows_utf8 log place root val (Done pages faults) row utf8 given have is =
    let all = build_utf8 (world_of (sources log place)) root val (map page_seen pages) faults (sources_utf8 log place)
    (IsUtf8-from_is_utf8 root utf8) (sym given) in
    let found = mapped_from row_in pages row is in
    subst HasUtf8Page found.is (page_utf8 pages found.one have all found.among)
rows_utf8 log place root val (Stopped stop) row utf8 given have is = absurd (none_of row is)
rows_utf8 log place root val (TooLarge total) row utf8 given have is = absurd (none_of row is)
