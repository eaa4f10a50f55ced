-- A range that is resolved node by node, and the ranges behind targets.
use Rattle.std.specs.Prelude.{◌≡◌, ◌+◌, ◌-◌, ◌==◌, ◌<◌, ◌≤◌, ℕ, zero, suc, Bool, true, false, List, [], ◌∷◌, Some, None, Err, drop, get_or, length, map, slice_get, take, if◌then◌else◌}
use Rattle.std.specs.Arc.{arc_value}
use Rattle.std.proofs.Common.{refl, sym, ap, subst, ◌∙◌, arith}
use Rattle.std.proofs.lemmas.Bool.Decides.{nat_tests}
use Rattle.std.proofs.lemmas.List.{at_drop_more, take-take}
use Rattle.dita_doc.specs.Tree.{Content, End, Chars, Element, chars_node, element_node, size_of, tree_of}
use Rattle.dita_doc.specs.declared.doc.Doc.{Doc}
use Rattle.dita_doc.specs.declared.doc.Node.{Node}
use Rattle.dita_doc.specs.declared.stop.Stop.{Stop}
use Rattle.map_spec.specs.Written as written
use Rattle.map_spec.specs.Written.{size}
use Rattle.conref_spec.specs.Content.{ContentAround, Made, Place, count_limit, declared_there, made_beside, nothing_made, resolved_from, text_made}
use Rattle.reader_spec.specs.World.{World}
use Rattle.readers.specs.Named.{name_at, under_names}
use Rattle.readers.specs.Setting.{Stand}
use Rattle.readers.proofs.GivenLaws.{size_named}
use Rattle.conref_targets.specs.Parts.{AreSiblingsAt, among_first, has_first, past, past_text, first_alone}
use Rattle.conref_targets.specs.Tables.{AreTables}
use Rattle.conref_targets.specs.declared.tables.PlaceTables.{PlaceTables}
use Rattle.conref_targets.proofs.PartLaws.{element_node_there, text_there}
use Rattle.conref_pull.specs.Linked.{AreLinks, IsLink}
use Rattle.conref_pull.specs.State.{path_within, place_shown}
use Rattle.conref_pull.specs.Step.{Taken}
use Rattle.conref_pull.specs.Walking.{Here, IsReady, IsWalked, Walks, among_made, ranges_put, whole_made}
use Rattle.conref_pull.specs.declared.chain.TakenTarget.{TakenTarget}
use Rattle.conref_pull.specs.declared.resolver.Resolver.{Resolver}
use Rattle.conref_pull.specs.declared.resolver.TooMany.{TooMany}
use Rattle.conref_pull.proofs.ElementLaws.{resolved_more}
use Rattle.conref_pull.proofs.PutLaws.{beside_nothing}
use Rattle.conref_pull.proofs.ResolvedLaws.{ranges_first}
use Rattle.conref_pull.proofs.WalkLaws.{SoFar, path_shorter, so_far_as, so_far_begin, so_far_end, so_far_more, so_far_stop, walked_within, walks_within}

-- The siblings that are left of a range stand at a place

module _ (doc : Doc) (here : Here) (links : ℕ) (is_range : Bool) (around : ContentAround) (to : ℕ) where
  abbrev made_of : Content → ℕ → Made
  made_of rest place = among_made here is_range around (among_first (to - place) (under_names doc.origins rest))

  pub record Left (all : Made) (old new : Resolver) (places : PlaceTables) (place counter : ℕ) : Type 0 where
    pub rest : Content
    pub there : AreSiblingsAt (tree_of doc.nodes) place rest
    pub fits : to ≤ place + size_of rest
    pub far : counter ≤ place
    pub so_far :
        SoFar here.setting.pushed links
        (among_made here is_range around (among_first (to - place) (under_names doc.origins rest))) all old new places

  none_by : (rest : Content) (place : ℕ) → to ≤ place → made_of rest place ≡ nothing_made
  none_by End place none = refl
  none_by (Chars text origin line rest) place none = let e : to - place ≡ 0 = omega arith in rw e refl
  none_by (Element name attributes origin line inside rest) place none =
      let e : to - place ≡ 0 = omega arith in rw e refl

  -- nothing is left
  pub left_none : (all : Made) (old new : Resolver) (places : PlaceTables) (place counter : ℕ)
      → Left all old new places place counter → to ≤ place
      → IsWalked here.setting.pushed links all old new places
  left_none all old new places place counter left none = so_far_end here.setting.pushed links all old new places
      (so_far_as here.setting.pushed links (made_of left.rest place) nothing_made all old new places
      (none_by left.rest place none) left.so_far)

  missing_by : (place : ℕ) (rest : Content) → AreSiblingsAt (tree_of doc.nodes) place rest → to ≤ place + size_of rest
      → place < to → slice_get doc.nodes place ≡ None → ⊥
  missing_by place End there fits within none = omega arith
  missing_by place (Chars text origin line rest) there fits within none =
      let some = text_there doc.nodes doc.tree place text origin line rest there in cc
  missing_by place (Element name attributes origin line inside rest) there fits within none =
      let some = element_node_there doc.nodes doc.tree place name attributes origin line inside rest there in cc

  -- each of them has a node
  pub left_missing : (all : Made) (old new : Resolver) (places : PlaceTables) (place counter : ℕ)
      → Left all old new places place counter → place < to → slice_get doc.nodes place ≡ None → ⊥
  left_missing all old new places place counter left within none =
      missing_by place left.rest left.there left.fits within none

  some_by : (place : ℕ) (rest : Content) → to ≤ place + size_of rest → place < to → has_first rest ≡ true
  some_by place End fits within = absurd (omega arith)
  some_by place (Chars text origin line rest) fits within = refl
  some_by place (Element name attributes origin line inside rest) fits within = refl

  pub left_some : (all : Made) (old new : Resolver) (places : PlaceTables) (place counter : ℕ)
      (left : Left all old new places place counter) → place < to → has_first left.rest ≡ true
  left_some all old new places place counter left within = some_by place left.rest left.fits within

  -- what the first of them makes
  abbrev pub first_made : Content → Made
  first_made rest = among_made here is_range around (first_alone (under_names doc.origins rest))

  -- those behind it
  record Next (rest : Content) (place end : ℕ) : Type 0 where
    others : Content
    there : AreSiblingsAt (tree_of doc.nodes) end others
    fits : to ≤ end + size_of others
    forward : place < end
    split :
        among_made here is_range around (among_first (to - place) (under_names doc.origins rest)) ≡
        made_beside (among_made here is_range around (first_alone (under_names doc.origins rest)))
        (among_made here is_range around (among_first (to - end) (under_names doc.origins others)))

  some_left : (place : ℕ) → place < to → (to - place == 0) ≡ false
  some_left place within = grind (arith, nat_tests)

  next_by : (place : ℕ) (node : Node) (rest : Content) → AreSiblingsAt (tree_of doc.nodes) place rest
      → to ≤ place + size_of rest → place < to → slice_get doc.nodes place ≡ Some node → Next rest place node.end
  next_by place node End there fits within is = absurd (omega arith)
  next_by place node (Chars text origin line rest) there fits within is =
      let some = text_there doc.nodes doc.tree place text origin line rest there in
      let same : node ≡ chars_node text origin line (place + 1) = cc in
      let end : place + 1 ≡ node.end = sym (ap (λ (n : Node). n.end) same) in
      let less : to - place - 1 ≡ to - (place + 1) = omega arith in
      let one = text_made text (name_at doc.origins origin) in
      subst (Next (Chars text origin line rest) place) end
      (record {
        others = rest;
        there = past_text there;
        fits = omega arith;
        forward = omega arith;
        split = ap (λ (test : Bool). among_made here is_range around (if test then written.End
            else written.Chars text (name_at doc.origins origin)
            (among_first (to - place - 1) (under_names doc.origins rest))))
            (some_left place within)
            ∙ ap (λ n. made_beside one
            (among_made here is_range around (among_first n (under_names doc.origins rest)))) less
            ∙ ap (λ (m : Made). made_beside m (made_of rest (place + 1))) (sym (beside_nothing one));
      })
  next_by place node (Element name attributes origin line inside rest) there fits within is =
      let some = element_node_there doc.nodes doc.tree place name attributes origin line inside rest there in
      let same : node ≡ element_node name attributes origin line (place + 1 + size_of inside) = cc in
      let end : place + 1 + size_of inside ≡ node.end = sym (ap (λ (n : Node). n.end) same) in
      let doc_is : List ℕ = name_at doc.origins origin in
      let element : written.Element =
      record { name = name; attributes = attributes; doc = doc_is; line = line; href_doc = doc_is } in
      let held = under_names doc.origins inside in
      let less : to - place - (1 + size held) ≡ to - (place + 1 + size_of inside) =
      ap (λ n. to - place - (1 + n)) (size_named doc.origins inside) ∙ omega arith in
      let one : Made = whole_made here is_range around element held in
      subst (Next (Element name attributes origin line inside rest) place) end
      (record {
        others = rest;
        there = past there;
        fits = omega arith;
        forward = omega arith;
        split = ap (λ (test : Bool). among_made here is_range around (if test then written.End
            else written.Node element held (among_first (to - place - (1 + size held)) (under_names doc.origins rest))))
            (some_left place within)
            ∙ ap (λ n. made_beside one
            (among_made here is_range around (among_first n (under_names doc.origins rest)))) less
            ∙ ap (λ (m : Made). made_beside m (made_of rest (place + 1 + size_of inside))) (sym (beside_nothing one));
      })

  pub left_step : (all : Made) (old mid new : Resolver) (places after : PlaceTables) (place counter : ℕ) (node : Node)
      (left : Left all old mid places place counter) → place < to → slice_get doc.nodes place ≡ Some node
      → IsWalked here.setting.pushed links (first_made left.rest) mid new after
      → Left all old new after node.end (counter + 1)
  left_step all old mid new places after place counter node left within is walked =
      let next = next_by place node left.rest left.there left.fits within is in
      record {
        rest = next.others;
        there = next.there;
        fits = next.fits;
        far = (let far = left.far in let forward = next.forward in omega (arith, far, forward));
        so_far = so_far_more here.setting.pushed links (first_made left.rest) (made_of next.others node.end) all old mid
            new places after (so_far_as here.setting.pushed links (made_of left.rest place)
            (made_beside (first_made left.rest) (made_of next.others node.end)) all old mid places next.split
            left.so_far) walked;
      }

  pub left_stop : (stop : Stop TooMany) (all : Made) (old mid new : Resolver) (places after : PlaceTables)
      (place counter : ℕ) (node : Node) (left : Left all old mid places place counter) → place < to
      → slice_get doc.nodes place ≡ Some node
      → Walks (Err stop) here.setting.pushed links (first_made left.rest) mid new after
      → Walks (Err stop) here.setting.pushed links all old new after
  left_stop stop all old mid new places after place counter node left within is walked =
      let next = next_by place node left.rest left.there left.fits within is in
      so_far_stop stop here.setting.pushed links (first_made left.rest) (made_of next.others node.end) all old mid new
      places after (so_far_as here.setting.pushed links (made_of left.rest place)
      (made_beside (first_made left.rest) (made_of next.others node.end)) all old mid places next.split left.so_far)
      walked

-- a range begins behind its target
pub range_begins : (doc : Doc) (link : TakenTarget) (one : Taken) (here : Here) (links : ℕ) (is_range : Bool)
    (around : ContentAround)
    (old : Resolver) (places : PlaceTables) → doc ≡ arc_value link.doc → IsLink link one → old.count ≤ count_limit
    → links ≤ length old.path.items → AreTables here.setting.pushed places
    → Left doc here links is_range around link.to (among_made here is_range around one.range) old old places link.from
    link.from
range_begins doc link one here links is_range around old places same is room within tables =
    subst (λ (d : Doc). Left d here links is_range around link.to
    (among_made here is_range around one.range) old old places
    link.from link.from) (sym same)
    (record {
      rest = is.rest;
      there = subst (λ n. AreSiblingsAt (tree_of (arc_value link.doc).nodes) n is.rest) (sym is.from) (past is.part);
      fits = is.fits;
      far = omega arith;
      so_far = so_far_as here.setting.pushed links (among_made here is_range around one.range)
          (among_made here is_range around (among_first (link.to - link.from)
          (under_names (arc_value link.doc).origins is.rest)))
          (among_made here is_range around one.range) old old places (ap (among_made here is_range around) is.range)
          (so_far_begin here.setting.pushed links (among_made here is_range around one.range) old places room within
          tables);
    })

-- The ranges behind the targets, the farthest first

module _ (here : Here) (links : ℕ) (around : ContentAround) (path : List Place) where
  -- those of these targets are left, within so many
  pub record Behind (items : List TakenTarget) (all : Made) (old new : Resolver) (places : PlaceTables)
      (count index : ℕ) : Type 0
    where
      pub taken : List Taken
      pub linked : AreLinks path count taken (drop index items)
      pub count_is : count ≡ links + length taken
      pub kept : path_within new count ≡ take count path
      pub within : count ≤ length new.path.items
      pub limit : count ≤ 32
      pub so_far : SoFar here.setting.pushed links (ranges_put here around taken) all old new places

  -- none is left
  none_of : (taken : List Taken) (count : ℕ) → count ≡ links + length taken → count ≤ links
      → ranges_put here around taken ≡ nothing_made
  none_of [] count is none = refl
  none_of (one ∷ taken) count is none = absurd (omega arith)

  pub behind_none : (items : List TakenTarget) (all : Made) (old new : Resolver) (places : PlaceTables)
      (count index : ℕ)
      → Behind items all old new places count index → count ≤ links
      → IsWalked here.setting.pushed links all old new places
  behind_none items all old new places count index left none = so_far_end here.setting.pushed links all old new places
      (so_far_as here.setting.pushed links (ranges_put here around left.taken) nothing_made all old new places
      (none_of left.taken count left.count_is none) left.so_far)

  no_links : (taken : List Taken) (count : ℕ) (items : List TakenTarget) → AreLinks path count taken items → items ≡ []
      → ranges_put here around taken ≡ nothing_made
  no_links [] count items linked none = refl
  no_links (one ∷ taken) count [] linked none = absurd linked
  no_links (one ∷ taken) count (link ∷ items) linked none = cc

  pub behind_all : (items : List TakenTarget) (all : Made) (old new : Resolver) (places : PlaceTables) (count index : ℕ)
      → Behind items all old new places count index → drop index items ≡ []
      → IsWalked here.setting.pushed links all old new places
  behind_all items all old new places count index left none = so_far_end here.setting.pushed links all old new places
      (so_far_as here.setting.pushed links (ranges_put here around left.taken) nothing_made all old new places
      (no_links left.taken count (drop index items) left.linked none) left.so_far)

  -- the next of them
  pub record Nearest (link : TakenTarget) (count : ℕ) (taken : List Taken) (more : List TakenTarget) : Type 0 where
    pub one : Taken
    pub others : List Taken
    pub all : taken ≡ one ∷ others
    pub is : IsLink link one
    pub at : one.path ≡ take count path
    pub linked : AreLinks path (count - 1) others more

  nearest_by : (taken : List Taken) (count : ℕ) (link : TakenTarget) (more : List TakenTarget)
      → AreLinks path count taken (link ∷ more) → Nearest link count taken more
  nearest_by [] count link more linked = absurd linked
  nearest_by (one ∷ taken) count link more linked =
      record { one = one; others = taken; all = refl; is = linked.0; at = linked.1; linked = linked.2 }

  pub nearest : (items : List TakenTarget) (all : Made) (old new : Resolver) (places : PlaceTables) (count index : ℕ)
      (link : TakenTarget) (left : Behind items all old new places count index) → drop index items ≡ link ∷ drop
      (index + 1) items
      → Nearest link count left.taken (drop (index + 1) items)
  nearest items all old new places count index link left is = nearest_by left.taken count link (drop (index + 1) items)
      (subst (λ (some : List TakenTarget). AreLinks path count left.taken some) is left.linked)

  -- within one step less
  abbrev pub there : ℕ → ℕ → Here
  there steps count = record here { path = take count path; steps = steps }

  first_range : (steps count : ℕ) (one : Taken) (others taken : List Taken) → here.steps ≡ suc steps
      → one.path ≡ take count path → taken ≡ one ∷ others
      → ranges_put here around taken
      ≡ made_beside (among_made (there steps count) true (declared_there one.around around) one.range)
      (ranges_put here around others)
  first_range steps count one others taken more at is =
      ap (ranges_put here around) is ∙ ranges_first here.steps here.setting around here.depth one others
      ∙ ap (λ (m : Made). made_beside m (ranges_put here around others))
      (ap (λ n. resolved_from n here.setting true (declared_there one.around around) here.depth one.path one.range) more
      ∙ resolved_more steps here.setting true (declared_there one.around around) here.depth one.path one.range
      ∙ ap (λ (p : List Place). among_made (record here { path = p; steps = steps }) true
      (declared_there one.around around) one.range) at)

  pub behind_step : (items : List TakenTarget) (all : Made) (old mid new : Resolver) (places after : PlaceTables)
      (count index steps : ℕ) (link : TakenTarget) (left : Behind items all old mid places count index)
      (near : Nearest link count left.taken (drop (index + 1) items)) → here.steps ≡ suc steps → links < count
      → IsWalked here.setting.pushed count (among_made (there steps count) true
      (declared_there near.one.around around) near.one.range) mid new after
      → Behind items all old new after (count - 1) (index + 1)
  behind_step items all old mid new places after count index steps link left near more some walked =
      let size : length left.taken ≡ suc (length near.others) = ap length near.all in
      let is = left.count_is in
      let less : IsWalked here.setting.pushed links (among_made (there steps count) true
      (declared_there near.one.around around) near.one.range) mid new after =
      walked_within here.setting.pushed links count (among_made (there steps count) true
      (declared_there near.one.around around) near.one.range) mid new after
      (omega arith) walked in
      record {
        taken = near.others;
        linked = near.linked;
        count_is = omega (arith, size, is);
        kept = path_shorter (count - 1) count mid new (omega arith) walked.path
            ∙ sym (take-take (count - 1) count (map place_shown mid.path.items) (omega arith))
            ∙ ap (take (count - 1)) left.kept ∙ take-take (count - 1) count path (omega arith);
        within = (let far = walked.within in omega (arith, far));
        limit = (let limit = left.limit in omega (arith, limit));
        so_far = so_far_more here.setting.pushed links (among_made (there steps count) true
            (declared_there near.one.around around) near.one.range)
            (ranges_put here around near.others) all old mid new places after
            (so_far_as here.setting.pushed links (ranges_put here around left.taken)
            (made_beside (among_made (there steps count) true (declared_there near.one.around around) near.one.range)
            (ranges_put here around near.others)) all
            old mid places (first_range steps count near.one near.others left.taken more near.at near.all) left.so_far)
            less;
      }

  pub behind_stop : (stop : Stop TooMany) (items : List TakenTarget) (all : Made) (old mid new : Resolver)
      (places after : PlaceTables) (count index steps : ℕ) (link : TakenTarget)
      (left : Behind items all old mid places count index)
      (near : Nearest link count left.taken (drop (index + 1) items)) → here.steps ≡ suc steps → links < count
      → Walks (Err stop) here.setting.pushed count (among_made (there steps count) true
      (declared_there near.one.around around) near.one.range) mid new after
      → Walks (Err stop) here.setting.pushed links all old new after
  behind_stop stop items all old mid new places after count index steps link left near more some walked =
      so_far_stop stop here.setting.pushed links (among_made (there steps count) true
      (declared_there near.one.around around) near.one.range)
      (ranges_put here around near.others) all old mid new places after
      (so_far_as here.setting.pushed links (ranges_put here around left.taken)
      (made_beside (among_made (there steps count) true (declared_there near.one.around around) near.one.range)
      (ranges_put here around near.others)) all
      old mid places (first_range steps count near.one near.others left.taken more near.at near.all) left.so_far)
      (walks_within (Err stop) here.setting.pushed links count
      (among_made (there steps count) true (declared_there near.one.around around) near.one.range) mid new after
      (omega arith) walked)

  -- the page is ready for the range behind one of them
  pub behind_ready : (world : World) (stand : Stand) (items : List TakenTarget) (all : Made) (old mid : Resolver)
      (places : PlaceTables) (count index steps : ℕ) → Behind items all old mid places count index
      → IsReady world stand links here mid places → here.steps ≡ suc steps → links < count
      → IsReady world stand count (there steps count) mid places
  behind_ready world stand items all old mid places count index steps left ready more some = record {
    setting = ready.setting;
    path = sym left.kept;
    within = left.within;
    limit = left.limit;
    steps = (let enough = ready.steps in omega (arith, enough, more));
    depth = ready.depth;
    room = ready.room;
    tables = ready.tables;
  }

-- one step is left where one more target was taken
pub steps_left : (steps links count : ℕ) → 32 ≤ steps + links → links < count → count ≤ 32 → (less : ℕ) ×
    (steps ≡ suc less)
steps_left zero links count enough some limit = absurd (omega arith)
steps_left (suc less) links count enough some limit = (less, refl)

pub behind_begins : (here : Here) (links end : ℕ) (around : ContentAround) (path : List Place)
    (items : List TakenTarget)
    (taken : List Taken) (old : Resolver) (places : PlaceTables) → AreLinks path end taken items
    → end ≡ links + length taken → path ≡ path_within old end → end ≤ length old.path.items → end ≤ 32
    → old.count ≤ count_limit → AreTables here.setting.pushed places
    → Behind here links around path items (ranges_put here around taken) old old places end 0
behind_begins here links end around path items taken old places linked count is within limit room tables = record {
  taken = taken;
  linked = linked;
  count_is = count;
  kept = sym (take-take end end (map place_shown old.path.items) (omega arith)) ∙ ap (take end) (sym is);
  within = within;
  limit = limit;
  so_far = so_far_begin here.setting.pushed links (ranges_put here around taken) old places room (omega arith) tables;
}

-- the next of some links
pub next_link : (items : List TakenTarget) (index : ℕ) (link : TakenTarget) → index < length items
    → link ≡ get_or items index link
    → drop index items ≡ link ∷ drop (index + 1) items
next_link items index link within is = at_drop_more (λ (some : List TakenTarget). some) items index link within
    ∙ ap (λ (one : TakenTarget). one ∷ drop (index + 1) items) (sym is)
