-- Parts of elements of HTML, as the code writes them.
use Rattle.std.specs.Prelude.{◌-◌, ◌^◌, ℕ, Bool, List, [], ◌∷◌, ◌++◌, Option, Some, None, codes, min}
use Rattle.dita_doc.specs.HtmlEscapes.{escaped_value}
use Rattle.html_blocks.specs.declared.context.TitlePlace.{TitlePlace}
use Rattle.html_blocks.specs.declared.context.TitlePlace.TheVariants as arounds
use Rattle.html_spec.specs.Blocks as blocks
use Rattle.html_spec.specs.Blocks.{attribute_text, cell_tag, reference_tag, title_tag}

-- an id behind that of its topic, if that stands before it; an empty id is none
abbrev pub id_behind : Option (List ℕ) → List ℕ → Option (List ℕ)
id_behind topic [] = None
id_behind None (b ∷ id) = Some (b ∷ id)
id_behind (Some topic) (b ∷ id) = Some (topic ++ codes "__" ++ b ∷ id)

abbrev pub topic_before : Option (List ℕ) → List ℕ
topic_before None = []
topic_before (Some topic) = escaped_value topic ++ codes "__"

-- the beginning of a start tag: the name and the id
abbrev pub name_begun : List ℕ → Option (List ℕ) → List ℕ → List ℕ
name_begun name topic id = codes "<" ++ name ++ attribute_text (codes "id") (id_behind topic id)

-- Names

abbrev pub around_shown : TitlePlace → blocks.TitlePlace
around_shown arounds.Topic = blocks.InTopic
around_shown arounds.Section = blocks.InSection
around_shown arounds.Figure = blocks.InFigure
around_shown arounds.Table = blocks.InTable

-- a depth that has 32 bits at most
abbrev pub counted : ℕ → ℕ
counted depth = min depth (2 ^ 32 - 1)

-- the name of the element of HTML around the content, none if this is not shown
abbrev pub tag_name : blocks.Form → Option (List ℕ) → blocks.TitlePlace → ℕ → (head simple_head : Bool)
    → Option (List ℕ)
tag_name (blocks.Tag name class) href around depth head simple_head = Some name
tag_name blocks.Topic href around depth head simple_head = Some (codes "article")
tag_name blocks.Title href around depth head simple_head = Some (title_tag around depth)
tag_name blocks.Note href around depth head simple_head = Some (codes "div")
tag_name blocks.Reference href around depth head simple_head = Some (reference_tag href)
tag_name blocks.Image href around depth head simple_head = None
tag_name blocks.Cell href around depth head simple_head = Some (cell_tag head)
tag_name blocks.SimpleCell href around depth head simple_head = Some (cell_tag simple_head)
tag_name blocks.Left href around depth head simple_head = None
tag_name blocks.Foreign href around depth head simple_head = None
