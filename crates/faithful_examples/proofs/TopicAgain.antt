-- A map with one topic that is built three times, with the language that is published. Before the second build a document
-- is stored that nothing reads: it cites the rows of the first, and nothing is made again. Before the third the topic
-- has another title: its page and the contents page are made again, and its plan is not. So five rows are made.
use Rattle.std.specs.Fmt.{digits}
use Rattle.std.specs.Prelude.{◌≡◌, ◌≢◌, ◌==◌, ◌+◌, ◌⊎◌, ℕ, zero, suc, Bool, true, false, List, [], ◌∷◌, None, Some, Contains, codes, count_by, if◌then◌else◌, length, map, slice_get, sum}
use Rattle.std.specs.List.{flat_map}
use Rattle.std.specs.Str.{is_utf8, chars}
use Rattle.std.proofs.Common.{refl, ap, sym, subst, ◌∙◌, inl, inr, ⊎_elim, arith}
use Rattle.std.proofs.lemmas.Option.{none-some, same_Some}
use lib.Utf8.{encode}
use Rattle.build_spec.specs.Built.{BuildOutcome, Done}
use Rattle.conref_spec.specs.Content.{followed_from, resolved_from}
use Rattle.desk_language.specs.Language.{bytes_of_parts}
use Rattle.dita_doc.specs.Desk.{State, IsStored, next, reply, version_at}
use Rattle.dita_doc.specs.Lines.{line}
use Rattle.dita_doc.specs.Pyx.{document_of}
use Rattle.dita_doc.specs.Request.{Put, Request, Single, Build}
use Rattle.dita_doc.specs.Tree.{Element, End, nodes_of}
use Rattle.html_spec.specs.Blocks.{body_html}
use Rattle.html_spec.specs.Contents.{contents, items_from}
use Rattle.map_spec.specs.Included.{map_included}
use Rattle.map_spec.specs.PlanOf.{plan_of}
use Rattle.map_spec.specs.Pushes.{all_pushes}
use Rattle.part_spec.specs.Parts.{clean_build, page_part}
use Rattle.reader_spec.specs.World.{world_of}
use Rattle.script_text.specs.Script.{Step}
use Rattle.transcript_text.specs.Transcript.{BuiltPages, EntryShown, InRow, IsContents, IsPage, OfBuild, PageShown, RowShown, Totals, Transcript, reply_shown}
use Rattle.run_spec.specs.Cites.{ShowsBuilt}
use Rattle.run_spec.specs.Faithful.{CitesAgain, CitesEachRow, CountsRight, IsInOrder, IsOfSession, Repeats, ShowsBuild, ShowsBuilds, ShowsReply, ShowsReplies, TakesEachOnce, serials_cited}
use Rattle.run_spec.specs.HistoryTold.{BuildTold, Moment, builds_told, moments_of}
use Rattle.run_spec.specs.Language.{dita}
use Rattle.run_spec.specs.Reached.{Given, IsReached, Started, names_given}
use Rattle.faithful_examples.proofs.OneTopic.{build, contents_page, in_m, in_t, its_build, map_body, map_tree, shown_row, stored, topic, topic_body, topic_tree}
use Rattle.faithful_examples.proofs.TopicBuilt.{asks, both_stored, map_reply, parts_there, put_m, put_t, second_reply, stores}
use Rattle.faithful_examples.proofs.Reading.{replied_by, stored_by}
use Rattle.faithful_examples.proofs.TopicRead.{renamed_body, renamed_reads, renamed_tree}
use Rattle.faithful_examples.proofs.Shown.{lines, all_of, pairs_of, each_number}

abbrev in_z : List ℕ
in_z = codes "z.dita"

abbrev unread_body : List ℕ
unread_body = lines ("(p" ∷ ")p" ∷ [])

abbrev put_z : Request
put_z = Single (Put in_z unread_body)

abbrev put_other : Request
put_other = Single (Put in_t renamed_body)

abbrev builds_m : Request
builds_m = Build in_m None

abbrev pub steps : List Step
steps = asks put_m ∷ asks put_t ∷ asks builds_m ∷ asks put_z ∷ asks builds_m ∷ asks put_other ∷ asks builds_m ∷ []

-- What is stored

abbrev with_unread : State
with_unread = record { name = in_m; nodes = nodes_of map_tree 0; bytes = map_body; version = 1 }
    ∷ record { name = in_t; nodes = nodes_of topic_tree 0; bytes = topic_body; version = 2 }
    ∷ record { name = in_z; nodes = nodes_of (Element (codes "p") [] 0 1 End End) 0; bytes = unread_body; version = 4 }
    ∷ []

abbrev with_other : State
with_other = record { name = in_m; nodes = nodes_of map_tree 0; bytes = map_body; version = 1 }
    ∷ record { name = in_t; nodes = nodes_of renamed_tree 0; bytes = renamed_body; version = 6 }
    ∷ record { name = in_z; nodes = nodes_of (Element (codes "p") [] 0 1 End End) 0; bytes = unread_body; version = 4 }
    ∷ []

-- as the walk has it before each build
abbrev at_first : State
at_first = next (next [] 0 put_m) 1 put_t

abbrev at_second : State
at_second = next at_first 3 put_z

abbrev at_third : State
at_third = next at_second 5 put_other

unread_stored : next stored 3 put_z ≡ with_unread
unfolding document_of is_utf8 chars encode
unread_stored = refl

other_stored : next with_unread 5 put_other ≡ with_other
other_stored = stored_by with_unread 5 in_t renamed_body renamed_tree renamed_reads refl

second_is : at_second ≡ with_unread
second_is = ap (λ state. next state 3 put_z) both_stored ∙ unread_stored

third_is : at_third ≡ with_other
third_is = ap (λ state. next state 5 put_other) second_is ∙ other_stored

unread_reply : reply stored 3 put_z ≡ IsStored 4
unfolding document_of is_utf8 chars encode
unread_reply = refl

fourth_reply : reply at_first 3 put_z ≡ IsStored 4
fourth_reply = ap (λ state. reply state 3 put_z) both_stored ∙ unread_reply

other_reply : reply with_unread 5 put_other ≡ IsStored 6
other_reply = replied_by with_unread 5 in_t renamed_body renamed_tree renamed_reads refl

sixth_reply : reply at_second 5 put_other ≡ IsStored 6
sixth_reply = ap (λ state. reply state 5 put_other) second_is ∙ other_reply

-- What the builds give

abbrev pub other_topic : List (List ℕ)
other_topic = map codes ("<!DOCTYPE html>" ∷ "<html><head><meta charset=\"utf-8\"><title>Hallo</title></head>" ∷ "<body>"
    ∷ "<article id=\"t\"><h1>Hallo</h1><div class=\"body\"><p>A &amp; B</p></div></article>" ∷ "</body></html>" ∷ [])

abbrev pub other_contents : List (List ℕ)
other_contents = map codes ("<!DOCTYPE html>" ∷ "<html><head><meta charset=\"utf-8\"><title>Contents</title></head>"
    ∷ "<body>" ∷ "<nav class=\"toc\"><h1>Contents</h1><ul><li><a href=\"t.html\">Hallo</a></li></ul></nav>"
    ∷ "</body></html>" ∷ [])

abbrev other_build : BuildOutcome
other_build = Done ((codes "t.html", flat_map line other_topic) ∷ (codes "index.html", flat_map line other_contents) ∷ []) []

same_build : dita.clean with_unread in_m None ≡ build
unfolding clean_build plan_of map_included page_part all_pushes resolved_from followed_from body_html digits contents
    items_from
same_build = refl

changed_build : dita.clean with_other in_m None ≡ other_build
unfolding clean_build plan_of map_included page_part all_pushes resolved_from followed_from body_html digits contents
    items_from
changed_build = refl

-- three parts, over three names
changed_parts : bytes_of_parts dita with_other in_m None ≡ 928 ∷ 341 ∷ 348 ∷ []
unfolding plan_of map_included page_part all_pushes resolved_from followed_from body_html digits contents items_from
changed_parts = refl

third_parts : bytes_of_parts dita at_third in_m None ≡ 928 ∷ 341 ∷ 348 ∷ []
third_parts = ap (λ state. bytes_of_parts dita state in_m None) third_is ∙ changed_parts

-- The transcript

abbrev pub rows : List RowShown
rows = shown_row 2 (IsPage 0) topic ∷ shown_row 3 IsContents contents_page ∷ shown_row 4 (IsPage 0) other_topic
    ∷ shown_row 5 IsContents other_contents ∷ []

abbrev pub pages : ℕ → ℕ → List PageShown
pages first second = record { name = codes "t.html"; mark = InRow first }
    ∷ record { name = codes "index.html"; mark = InRow second } ∷ []

abbrev pub builds : ℕ → ℕ → ℕ → EntryShown
builds place first second = record {
  place = place;
  session = 1;
  number = place + 1;
  shown = OfBuild (BuiltPages (pages first second) []);
}

-- the second build cites these
abbrev pub entries_with : ℕ → ℕ → List EntryShown
entries_with first second = stores 0 1 ∷ stores 1 2 ∷ builds 2 2 3 ∷ stores 3 4 ∷ builds 4 first second ∷ stores 5 6
    ∷ builds 6 4 5 ∷ []

abbrev pub entries : List EntryShown
entries = entries_with 2 3

abbrev pub end : Totals
end = record { entries = 7; made = 5; dropped = 0 }

abbrev transcript : Transcript
transcript = record { entries = entries; rows = rows; totals = end }

-- It is faithful

pub its_requests : TakesEachOnce steps entries
its_requests = record {
  sessions = all_of (IsOfSession steps) entries (refl, (refl, (refl, (refl, (refl, (refl, (refl, tt)))))));
  once = each_number (λ number. count_by (λ (entry : EntryShown). entry.number == number) entries ≡ 1) steps
      (refl, (refl, (refl, (refl, (refl, (refl, (refl, tt)))))));
  order = pairs_of IsInOrder entries (
    (
      λ same. omega arith,
      (
        λ same. omega arith,
        (λ same. omega arith, (λ same. omega arith, (λ same. omega arith, (λ same. omega arith, tt)))),
      ),
    ),
    (
      (
        λ same. omega arith,
        (λ same. omega arith, (λ same. omega arith, (λ same. omega arith, (λ same. omega arith, tt)))),
      ),
      (
        (λ same. omega arith, (λ same. omega arith, (λ same. omega arith, (λ same. omega arith, tt)))),
        (
          (λ same. omega arith, (λ same. omega arith, (λ same. omega arith, tt))),
          (
            (λ same. omega arith, (λ same. omega arith, tt)),
            ((λ same. omega arith, tt), (tt, tt)),
          ),
        ),
      ),
    ),
  );
}

pub its_replies : ShowsReplies steps entries
its_replies = all_of ShowsReply (moments_of steps entries) (
  (None, ap (λ answer. reply_shown answer None) map_reply),
  (
    (None, ap (λ answer. reply_shown answer None) second_reply),
    (
      (Some (BuiltPages (pages 2 3) []), refl),
      (
        (None, ap (λ answer. reply_shown answer None) fourth_reply),
        (
          (Some (BuiltPages (pages 2 3) []), refl),
          (
            (None, ap (λ answer. reply_shown answer None) sixth_reply),
            ((Some (BuiltPages (pages 4 5) []), refl), tt),
          ),
        ),
      ),
    ),
  ),
)

shows_first : ShowsBuilt rows in_m None build (OfBuild (BuiltPages (pages 2 3) []))
shows_first = (
  pages 2 3,
  refl,
  (
    record { named = refl; serial = 2; cited = refl; lines = topic; bytes = refl; stands = (0, omega arith, refl) },
    (
      record {
        named = refl;
        serial = 3;
        cited = refl;
        lines = contents_page;
        bytes = refl;
        stands = (1, omega arith, refl);
      },
      refl,
    ),
  ),
)

shows_third : ShowsBuilt rows in_m None other_build (OfBuild (BuiltPages (pages 4 5) []))
shows_third = (
  pages 4 5,
  refl,
  (
    record { named = refl; serial = 4; cited = refl; lines = other_topic; bytes = refl; stands = (2, omega arith, refl) },
    (
      record {
        named = refl;
        serial = 5;
        cited = refl;
        lines = other_contents;
        bytes = refl;
        stands = (3, omega arith, refl);
      },
      refl,
    ),
  ),
)

pub its_builds : ShowsBuilds dita steps transcript
its_builds = all_of (λ (moment : Moment). ShowsBuild dita rows moment moment.step.request) (moments_of steps entries) (
  tt,
  (
    tt,
    (
      subst (λ built. ShowsBuilt rows in_m None built (builds 2 2 3).shown)
          (sym (ap (λ state. dita.clean state in_m None) both_stored ∙ its_build)) shows_first,
      (
        tt,
        (
          subst (λ built. ShowsBuilt rows in_m None built (builds 4 2 3).shown)
              (sym (ap (λ state. dita.clean state in_m None) second_is ∙ same_build)) shows_first,
          (
            tt,
            (
              subst (λ built. ShowsBuilt rows in_m None built (builds 6 4 5).shown)
                  (sym (ap (λ state. dita.clean state in_m None) third_is ∙ changed_build)) shows_third,
              tt,
            ),
          ),
        ),
      ),
    ),
  ),
)

pub its_rows : CitesEachRow transcript
its_rows = record {
  different = pairs_of (λ (first other : RowShown). first.serial ≢ other.serial) rows (
    (λ same. omega (arith, same), (λ same. omega (arith, same), (λ same. omega (arith, same), tt))),
    (
      (λ same. omega (arith, same), (λ same. omega (arith, same), tt)),
      ((λ same. omega (arith, same), tt), (tt, tt)),
    ),
  );
  cited = all_of (λ (one : RowShown). Contains (serials_cited entries) one.serial) rows (
    (0, omega arith, refl),
    ((1, omega arith, refl), ((4, omega arith, refl), ((5, omega arith, refl), tt))),
  );
}

-- The builds

abbrev build_told : State → ℕ → ℕ → BuildTold
build_told state first second =
    record { session = 1; root = in_m; val = None; state = state; cited = first ∷ second ∷ [] }

abbrev told : ℕ → ℕ → List BuildTold
told first second = builds_told steps (entries_with first second)

are_told : (first second : ℕ) → told first second
    ≡ build_told at_first 2 3 ∷ build_told at_second first second ∷ build_told at_third 4 5 ∷ []
are_told first second = refl

-- the map reaches its topic, and nothing else
map_names : names_given (world_of with_unread) in_m ≡ in_t ∷ []
map_names = refl

topic_reached : IsReached (world_of at_second) in_m None in_t
topic_reached = subst (λ state. IsReached (world_of state) in_m None in_t) (sym second_is)
    (Given in_m in_t (Started in_m (0, omega arith, refl))
    (subst (λ names. Contains names in_t) (sym map_names) (0, omega arith, refl)))

version_second : version_at at_second in_t ≡ 2
version_second = ap (λ state. version_at state in_t) second_is

version_third : version_at at_third in_t ≡ 6
version_third = ap (λ state. version_at state in_t) third_is

-- the third build repeats none: between it and the first stands the second, and since the second its topic has changed
third_repeats : (at first second : ℕ) → Repeats dita (told first second) at 2 → ⊥
third_repeats zero first second repeats =
    let one = same_Some (build_told at_first 2 3) repeats.first repeats.is_first in
    repeats.next 1 (build_told at_second first second) (omega arith) (omega arith) refl
    (record { root = ap (λ (b : BuildTold). b.root) one; val = ap (λ (b : BuildTold). b.val) one })
third_repeats (suc zero) first second repeats =
    let one = same_Some (build_told at_second first second) repeats.first repeats.is_first in
    let two = same_Some (build_told at_third 4 5) repeats.second repeats.is_second in
    let same = repeats.unchanged in_t
    (subst (λ (b : BuildTold). dita.Reaches b.state b.root b.val in_t) one topic_reached) in
    let before : version_at repeats.first.state in_t ≡ 2 =
    sym (ap (λ (b : BuildTold). version_at b.state in_t) one) ∙ version_second in
    let now : version_at repeats.second.state in_t ≡ 6 =
    sym (ap (λ (b : BuildTold). version_at b.state in_t) two) ∙ version_third in
    omega (arith, same, before, now)
third_repeats (suc (suc at)) first second repeats = omega (arith, repeats.before)

first_repeats : (at first second : ℕ) → Repeats dita (told first second) at 0 → ⊥
first_repeats at first second repeats = omega (arith, repeats.before)

cites_first : (one : BuildTold) → build_told at_first 2 3 ≡ one → one.cited ≡ 2 ∷ 3 ∷ []
cites_first one is = sym (ap (λ (b : BuildTold). b.cited) is)

cites_second : (one : BuildTold) (first second : ℕ) → build_told at_second first second ≡ one
    → one.cited ≡ first ∷ second ∷ []
cites_second one first second is = sym (ap (λ (b : BuildTold). b.cited) is)

pub its_again : CitesAgain dita end (told 2 3)
its_again none at zero repeats = absurd (first_repeats at 2 3 repeats)
its_again none zero (suc zero) repeats =
    cites_second repeats.second 2 3 (same_Some (build_told at_second 2 3) repeats.second repeats.is_second)
    ∙ sym (cites_first repeats.first (same_Some (build_told at_first 2 3) repeats.first repeats.is_first))
its_again none (suc at) (suc zero) repeats = absurd (omega (arith, repeats.before))
its_again none at (suc (suc zero)) repeats = absurd (third_repeats at 2 3 repeats)
its_again none at (suc (suc (suc later))) repeats = absurd (none-some repeats.second repeats.is_second)

-- the first and the third are left out of no count
abbrev parts_if : Bool → State → ℕ
parts_if chosen state = if chosen then 0 else length (bytes_of_parts dita state in_m None)

three_if : (chosen : Bool) (state : State) (bytes : List ℕ) → bytes_of_parts dita state in_m None ≡ bytes
    → length bytes ≡ 3 → (chosen ≡ true → ⊥) → parts_if chosen state ≡ 3
three_if true state bytes are three none = absurd (none refl)
three_if false state bytes are three none = ap (λ (xs : List ℕ). length xs) are ∙ three

pub its_counts : CountsRight dita steps transcript (told 2 3)
its_counts = record {
  entries = refl;
  fewer = omega arith;
  fits = λ small. refl;
  rows = omega arith;
  most = λ chosen chooses.
      let first : parts_if (chosen 0) at_first ≡ 3 =
      three_if (chosen 0) at_first (896 ∷ 309 ∷ 316 ∷ []) parts_there refl (λ e.
      let repeats = (chooses 0 e).1 in first_repeats repeats.0 2 3 repeats.1) in
      let third : parts_if (chosen 2) at_third ≡ 3 =
      three_if (chosen 2) at_third (928 ∷ 341 ∷ 348 ∷ []) third_parts refl (λ e.
      let repeats = (chooses 2 e).1 in third_repeats repeats.0 2 3 repeats.1) in
      omega (arith, first, third);
}

-- What is refused: that the second build cites rows of its own

one_of : (name other : List ℕ) → Contains (name ∷ []) other → name ≡ other
one_of name other (zero, low, e) = e
one_of name other (suc place, low, e) = absurd (omega (arith, low))

none_of : (other : List ℕ) → Contains [] other → ⊥
none_of other (place, low, e) = omega (arith, low)

map_gives : names_given (world_of stored) in_m ≡ in_t ∷ []
map_gives = refl

topic_gives : names_given (world_of stored) in_t ≡ []
topic_gives = refl

reached_are : (name : List ℕ) → IsReached (world_of stored) in_m None name → (in_m ≡ name) ⊎ (in_t ≡ name)
reached_are name (Started other started) = inl (one_of in_m other started)
reached_are name (Given from other reached gives) = ⊎_elim
    (λ is_map. inr (one_of in_t other (subst (λ names. Contains names other)
    (ap (names_given (world_of stored)) (sym is_map) ∙ map_gives) gives)))
    (λ is_topic. absurd (none_of other (subst (λ names. Contains names other)
    (ap (names_given (world_of stored)) (sym is_topic) ∙ topic_gives) gives)))
    (reached_are from reached)

same_version : (name : List ℕ) → IsReached (world_of at_first) in_m None name
    → version_at at_second name ≡ version_at at_first name
same_version name reached =
    let there = reached_are name (subst (λ state. IsReached (world_of state) in_m None name) both_stored reached) in
    ap (λ state. version_at state name) second_is
    ∙ ⊎_elim
    (λ is_map. subst (λ one. version_at with_unread one ≡ version_at stored one) is_map refl)
    (λ is_topic. subst (λ one. version_at with_unread one ≡ version_at stored one) is_topic refl) there
    ∙ ap (λ state. version_at state name) (sym both_stored)

of_session_one : (first second place : ℕ) (other : BuildTold) → slice_get (told first second) place ≡ Some other
    → other.session ≡ 1
of_session_one first second zero other is = sym (ap (λ (b : BuildTold). b.session) (same_Some _ other is))
of_session_one first second (suc zero) other is = sym (ap (λ (b : BuildTold). b.session) (same_Some _ other is))
of_session_one first second (suc (suc zero)) other is = sym (ap (λ (b : BuildTold). b.session) (same_Some _ other is))
of_session_one first second (suc (suc (suc place))) other is = absurd (none-some other is)

abbrev second_repeats : (first second : ℕ) → Repeats dita (told first second) 0 1
second_repeats first second = record {
  first = build_told at_first 2 3;
  second = build_told at_second first second;
  is_first = refl;
  is_second = refl;
  before = omega arith;
  key = record { root = refl; val = refl };
  session = refl;
  alone = λ place other is key. of_session_one first second place other is;
  next = λ between other above below is key. omega (arith, above, below);
  unchanged = same_version;
}

pub rows_of_its_own : CitesAgain dita end (told 6 7) → ⊥
rows_of_its_own same = omega (arith, ap sum (same refl 0 1 (second_repeats 6 7)))
