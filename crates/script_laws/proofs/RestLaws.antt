-- What may stand behind the lines that began a put or a group: the rest of it, which makes it the request of a step.
use Rattle.std.specs.Prelude.{◌≡◌, ◌++◌, ℕ, List, [], ◌∷◌, codes}
use Rattle.std.specs.List.{flat_map}
use Rattle.std.proofs.Common.{refl, sym, ap, ◌∙◌, append-nil, append_assoc}
use Rattle.std.proofs.lemmas.List.Elements.{All-nil, All-cons}
use Rattle.dita_doc.specs.Bytes.{line_feed}
use Rattle.dita_doc.specs.Lines.{line}
use Rattle.dita_doc.specs.Request.{Edit, Request, Single, Group}
use Rattle.script_text.specs.Script.{Step, Opening, OpenPut, PutOf, PutIfOf, with_body, Begun, InPut, InGroup, InGroupPut, whole_edit, with_line}
use Rattle.script_text.proofs.ScriptTurns.{step_of}
use Rattle.script_laws.specs.Blocks.{IsBodyLine, IsBody, IsBehindEdit, Item, AreItems, edits_of}

-- the edit of a put with this, behind what was read of its body
abbrev pub edit_with : OpenPut → List ℕ → Edit
edit_with put more = with_body put.opening (put.body ++ more)

-- the group of these edits and of those among the items
abbrev pub group_with : List Edit → List Item → Request
group_with edits items = Group (edits ++ flat_map edits_of items)

-- the text is the rest of what has begun, and this is the step
abbrev pub IsRest : Begun → Step → List ℕ → Type 0
IsRest (InPut session put) step text =
    (more : List ℕ) × (step ≡ step_of session (Single (edit_with put more))) × IsBody more text
IsRest (InGroup session edits) step text =
    (items : List Item) × (step ≡ step_of session (group_with edits items)) × AreItems items text
IsRest (InGroupPut session edits put) step text =
    (more : List ℕ) × (items : List Item) × (front back : List ℕ)
    × (step ≡ step_of session (group_with (edits ++ edit_with put more ∷ []) items))
    × IsBody more front × AreItems items back × (text ≡ front ++ back)

-- Bodies

-- a body is what stands behind a put
pub behind_put : (opening : Opening) (body text : List ℕ) → IsBody body text
    → IsBehindEdit (with_body opening body) text
behind_put (PutOf name) body text is = is
behind_put (PutIfOf version name) body text is = is

-- no more of a body, and the line that ends it
pub body_ended : (text : List ℕ) → text ≡ codes "." → IsBody [] (line text)
body_ended text is = record { lines = []; each = All-nil IsBodyLine; is = refl; ended = ap line is }

-- one line more of a body
pub body_more : (text more rest : List ℕ) → IsBodyLine text → IsBody more rest
    → IsBody (line text ++ more) (line text ++ rest)
body_more text more rest is body = record {
  lines = text ∷ body.lines;
  each = All-cons IsBodyLine text body.lines is body.each;
  is = ap (λ (all : List ℕ). line text ++ all) body.is;
  ended = ap (λ (all : List ℕ). line text ++ all) body.ended ∙ sym (append_assoc (line text) more (line (codes ".")));
}

-- the edit, if its body is whole
pub edit_whole : (put : OpenPut) → edit_with put [] ≡ whole_edit put
edit_whole put = ap (λ (body : List ℕ). with_body put.opening body) (append-nil put.body)

-- and with one line more that has been read
pub edit_more : (put : OpenPut) (text more : List ℕ)
    → edit_with (with_line put text) more ≡ edit_with put (line text ++ more)
edit_more put text more =
    let same : (put.body ++ text ++ line_feed ∷ []) ++ more ≡ put.body ++ (line text ++ more) =
    simp append_assoc refl in
    ap (λ (body : List ℕ). with_body put.opening body) same

-- Groups

-- the first edit among the items, as one that has been read
pub group_more : (edits : List Edit) (edit : Edit) (more : List Edit)
    → (edits ++ edit ∷ []) ++ more ≡ edits ++ edit ∷ more
group_more edits edit more = append_assoc edits (edit ∷ []) more
