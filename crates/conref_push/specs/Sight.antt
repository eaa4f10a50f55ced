-- What is seen of a pushing element where it stands (own): what it pushes, its place, the element, the id of the
-- nearest topic around it, and the reference to its target.
use Rattle.std.specs.Prelude.{ℕ, List, [], ◌∷◌, Option, Some, None, codes, option_map}
use Rattle.std.specs.List.{filter_map}
use Rattle.std.specs.Borrow.{Bor}
use Rattle.std.specs.Option.{option_and_then, option_copied, option_map_or}
use Rattle.conref_push.specs.declared.pushing.Pushing as code
use Rattle.dita_doc.specs.declared.content.PushKind.{PushKind}
use Rattle.dita_doc.specs.declared.doc.Node as doc
use Rattle.doc_elements.specs.Walk.{element_of}
use Rattle.map_spec.specs.Elements.{attribute}
use Rattle.map_spec.specs.Written.{Element, Whole, Written, End}
use Rattle.map_spec.specs.Places.{Standing, TopicAt}
use Rattle.map_spec.specs.Pushes.{AllPushes, Pushing, conref_of, if_special, push_kind, push_target, with_pushing}
use Rattle.reader_spec.specs.World.{World}

pub record Sight : Type 0 where
  pub kind : PushKind
  pub place : ℕ
  pub element : Element
  pub topic : List ℕ
  pub conref : Option (List ℕ)

abbrev pub id_around : Option TopicAt → List ℕ
id_around topic = option_map_or (λ (around : TopicAt). around.id) topic []

abbrev pub sight_at : Standing → PushKind → Sight
sight_at standing kind = record {
  kind = kind;
  place = standing.place;
  element = standing.whole.0;
  topic = id_around standing.topic;
  conref = conref_of standing kind;
}

-- an element where it stands
abbrev pub standing_at : ℕ → Element → Written → Option TopicAt → Option Element → Written → Standing
standing_at place element inside topic before behind = record {
  place = place;
  whole = (element, inside);
  topic = topic;
  before = before;
  behind = behind;
}

-- the element before, if there is one, of a document under this name
abbrev pub element_before : List ℕ → Option (Bor doc.Node) → Option Element
element_before name before = option_map (λ (node : Bor doc.Node). element_of name node.now) before

abbrev pub label_of : Whole → Element
label_of whole = whole.0

-- what is seen of an element, if it pushes
abbrev pub seen_at : Standing → Option Sight
seen_at standing = option_map (sight_at standing) (push_kind (attribute (codes "conaction") standing.whole.0))

abbrev pub all_seen : List Standing → List Sight
all_seen standings = filter_map seen_at standings

-- the same as the code keeps it, of a document under this name
abbrev pub sight_of : List ℕ → code.Pushing → Sight
sight_of name pushing = record {
  kind = pushing.kind;
  place = pushing.place;
  element = element_of name pushing.element.now;
  topic = pushing.topic.now;
  conref = option_copied pushing.conref;
}

-- an element that stands so, as far as its push goes
abbrev pub standing_seen : Sight → Standing
standing_seen sight = record {
  place = sight.place;
  whole = (sight.element, End);
  topic = Some (record { place = 0; id = sight.topic });
  before = None;
  behind = End;
}

abbrev pub pushing_seen : World → Sight → Pushing
pushing_seen world sight = record {
  kind = sight.kind;
  standing = standing_seen sight;
  conref = sight.conref;
  target = option_and_then (if_special (standing_seen sight))
      (option_and_then (push_target world (standing_seen sight)) sight.conref);
}

-- the pushes with those of what is seen put behind them
abbrev pub with_seen : World → AllPushes → Sight → AllPushes
with_seen world all sight = with_pushing all (pushing_seen world sight) (pushing_seen world sight).target

abbrev pub with_all_seen : World → AllPushes → List Sight → AllPushes
with_all_seen world all [] = all
with_all_seen world all (sight ∷ more) = with_all_seen world (with_seen world all sight) more
