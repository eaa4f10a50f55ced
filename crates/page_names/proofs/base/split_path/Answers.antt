use Rattle.std.proofs.Common.{◌≡◌, ◌++◌, ◌∷◌, ◌∙◌, sym, arith}
use Rattle.dita_doc.proofs.Utf8Laws.{boundary_behind}
use Rattle.page_names.proofs.BaseLaws.{folders_cut, last_cut, no_folders, one_segment, text_cut, text_lacks}
use Rattle.page_names.proofs.base.split_path.Goals as goal
use Rattle.page_names.proofs.base.split_path.Goals.{In-Some}

-- the path is cut where its bytes are
whole : (c : In-Some) → c.args.path.now ≡ c.in-Some.folders.now ++ 47 ∷ c.in-Some.field-0-1.now
whole c = sym c.as_bytes.ensures.value ∙ c.in-Some.ensures.whole

pub range-requires-clause-end_boundary : goal.range-requires-clause-end_boundary
range-requires-clause-end_boundary c =
    boundary_behind 47 c.args.path.now c.in-Some.folders.now c.in-Some.field-0-1.now (omega arith)
    (whole (goal.at.range-requires-clause-end_boundary c).In-Some) c.utf8.path

pub range_from-requires : goal.range_from-requires
range_from-requires c some =
    boundary_behind 47 c.args.path.now c.in-Some.folders.now c.in-Some.field-0-1.now (omega arith)
    (whole (goal.at.range_from-requires c).In-Some) c.utf8.path

pub returns-in-None-clause-folders : goal.returns-in-None-clause-folders
returns-in-None-clause-folders c =
    no_folders c.args.path.now (text_lacks 47 _ c.args.path.now c.as_bytes.ensures.value c.in-None.ensures)

pub returns-in-None-clause-last : goal.returns-in-None-clause-last
returns-in-None-clause-last c =
    one_segment c.args.path.now (text_lacks 47 _ c.args.path.now c.as_bytes.ensures.value c.in-None.ensures)

pub returns-in-Some-clause-folders : goal.returns-in-Some-clause-folders
returns-in-Some-clause-folders c =
    folders_cut c.args.path.now c.in-Some.folders.now c.in-Some.field-0-1.now c.range.result.now
    (text_cut 47 _ c.args.path.now _ _ c.as_bytes.ensures.value c.in-Some.ensures) c.range.ensures.value

pub returns-in-Some-clause-last : goal.returns-in-Some-clause-last
returns-in-Some-clause-last c =
    last_cut c.args.path.now c.in-Some.folders.now c.in-Some.field-0-1.now c.range_from.result.now
    (text_cut 47 _ c.args.path.now _ _ c.as_bytes.ensures.value c.in-Some.ensures) c.range_from.ensures.value
