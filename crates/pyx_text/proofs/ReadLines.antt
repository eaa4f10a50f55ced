-- What the lines of a text that is read without a fault keep: names and texts of UTF-8 without CR, the depth, distinct
-- attributes.
use Rattle.std.specs.Prelude.{◌≡◌, ◌+◌, ◌<◌, ◌==◌, ◌&&◌, ◌||◌, ℕ, zero, suc, Bool, true, false, List, [], ◌∷◌, ◌++◌, Some, None, Ok, length, nat_le, if◌then◌else◌}
use Rattle.std.specs.List.{before_first, after_first, position_or_len}
use Rattle.std.specs.Str.{is_utf8, IsUtf8}
use Rattle.std.proofs.Common.{refl, subst, arith}
use Rattle.std.proofs.lemmas.Bool.{or_from, eqb-true}
use Rattle.std.proofs.lemmas.Bool.Decides.{nat_tests}
use Rattle.std.proofs.lemmas.Str.{IsUtf8-from_is_utf8, is_utf8-from_IsUtf8, IsUtf8-append, IsUtf8-nil}
use Rattle.dita_doc.specs.declared.fault.PyxCode.TheVariants as codes
use Rattle.dita_doc.specs.Cut.{Lacks}
use Rattle.dita_doc.specs.PyxLine.{Line, Opens, Gives, Says, Closes, Passes, Breaks, is_line_name, with_name, line_by_byte, line_by_bytes, line_of}
use Rattle.dita_doc.specs.PyxEscapes.{unescaped}
use Rattle.dita_doc.specs.Bytes.{is_space}
use Rattle.dita_doc.specs.PyxEvent.{Event, Open, Give, Text, Close, add_text, open_names, has_root, given_names, is_outside, read_depth_limit, fault_of, fault_of_open, fault_of_give, after}
use Rattle.dita_doc.specs.Pyx.{is_empty_line, is_none_open, lines_from, reads}
use Rattle.dita_doc.specs.ReadTree.{IsReadName, IsReadText}
use Rattle.pyx_text.proofs.PyxKeeps.{open_names_add_text}
use Rattle.pyx_text.proofs.PyxSteps.{goes_on_ok, ends_by}
use Rattle.dita_doc.proofs.Utf8Laws.{utf8_behind, utf8_at_space}
use Rattle.dita_doc.proofs.EscapeUtf8Laws.{utf8_unescaped}
use Rattle.dita_doc.proofs.LackLaws.{lacks_append, lacks_take, lacks_drop}
use Rattle.dita_doc.proofs.EscapeLackLaws.{lacks_unescaped}

-- a line of names and texts as a tree keeps them
abbrev pub IsSoundLine : Line → Type 0
IsSoundLine (Opens name) = IsReadName name
IsSoundLine (Gives name value) = IsReadName name × IsReadText value
IsSoundLine (Says text) = IsReadText text
IsSoundLine (Closes name) = Unit {0}
IsSoundLine Passes = Unit {0}
IsSoundLine (Breaks code) = Unit {0}

sound_if : (test : Bool) (x y : Line) → (test ≡ true → IsSoundLine x) → IsSoundLine y
    → IsSoundLine (if test then x else y)
sound_if true x y first second = first refl
sound_if false x y first second = second

-- the escapes of a text
read_text : (bytes : List ℕ) → IsUtf8 bytes → Lacks 13 bytes → IsReadText (unescaped bytes)
read_text bytes utf8 r = record {
  utf8 = is_utf8-from_IsUtf8 (unescaped bytes) (utf8_unescaped bytes utf8);
  no_return = lacks_unescaped bytes r;
}

read_name : (name : List ℕ) → IsUtf8 name → Lacks 10 name → Lacks 13 name → is_line_name name ≡ true → IsReadName name
read_name name utf8 f r e = record { spelled = e; utf8 = is_utf8-from_IsUtf8 name utf8; no_feed = f; no_return = r }

-- a first byte of a kind is ASCII
low_byte : (b at : ℕ) → (b == at) ≡ true → at < 128 → b < 128
low_byte b at e less = let same = eqb-true b at e in omega arith

low_text : (b : ℕ) → ((b == 45) || (b == 91)) ≡ true → b < 128
low_text b e = grind (arith, nat_tests)

-- an attribute
sound_gives : (rest : List ℕ) → IsUtf8 rest → Lacks 10 rest → Lacks 13 rest
    → IsSoundLine (with_name (before_first is_space rest)
    (Gives (before_first is_space rest) (unescaped (after_first is_space rest))))
sound_gives rest utf8 f r =
    let cut = utf8_at_space rest utf8 in
    let at = position_or_len is_space rest in
    sound_if (is_line_name (before_first is_space rest)) _ _
    (λ e. (
      read_name (before_first is_space rest) cut.0 (lacks_take 10 at rest f) (lacks_take 13 at rest r) e,
      read_text (after_first is_space rest) cut.1 (lacks_drop 13 (at + 1) rest r),
    ))
    tt

sound_by_byte : (b : ℕ) (rest : List ℕ) → IsUtf8 (b ∷ rest) → Lacks 10 rest → Lacks 13 rest
    → IsSoundLine (line_by_byte b rest)
sound_by_byte b rest utf8 f r =
    sound_if (b == 40) _ _ (λ e. sound_if (is_line_name rest) (Opens rest) _
    (read_name rest (utf8_behind b rest (low_byte b 40 e (omega arith)) utf8) f r) tt)
    (sound_if (b == 41) _ _ (λ e. sound_if (is_line_name rest) (Closes rest) _ (λ h. tt) tt)
    (sound_if (b == 65) _ _ (λ e. sound_gives rest (utf8_behind b rest (low_byte b 65 e (omega arith)) utf8) f r)
    (sound_if ((b == 45) || (b == 91)) _ _ (λ e. read_text rest (utf8_behind b rest (low_text b e) utf8) r)
    (sound_if ((b == 63) || (b == 67) || (b == 68) || (b == 78) || (b == 85)) _ _ (λ e. tt)
    (sound_if (b == 38) _ _ (λ e. tt) tt)))))

sound_bytes : (bytes : List ℕ) → IsUtf8 bytes → Lacks 10 bytes → Lacks 13 bytes → IsSoundLine (line_by_bytes bytes)
sound_bytes [] utf8 f r = tt
sound_bytes (b ∷ rest) utf8 f r = sound_by_byte b rest utf8 (lacks_drop 10 1 (b ∷ rest) f)
    (lacks_drop 13 1 (b ∷ rest) r)

sound_line : (bytes : List ℕ) → Lacks 10 bytes → Lacks 13 bytes → IsSoundLine (line_of bytes)
sound_line bytes f r = sound_if (is_utf8 bytes) (line_by_bytes bytes) (Breaks codes.NotUtf8)
    (λ e. sound_bytes bytes (IsUtf8-from_is_utf8 bytes e) f r) tt

-- all lines of a text
abbrev pub AreSoundLines : List Line → Type 0
AreSoundLines [] = Unit {0}
AreSoundLines (line ∷ lines) = IsSoundLine line × AreSoundLines lines

all_if : (test : Bool) (x y : List Line) → (test ≡ true → AreSoundLines x) → (test ≡ false → AreSoundLines y)
    → AreSoundLines (if test then x else y)
all_if true x y first second = first refl
all_if false x y first second = second refl

sound_last : (line : List ℕ) → Lacks 10 line → Lacks 13 line
    → AreSoundLines (if is_empty_line line then [] else line_of line ∷ [])
sound_last line f r = all_if (is_empty_line line) [] (line_of line ∷ []) (λ e. tt) (λ e. (sound_line line f r, tt))

pub sound_lines : (left : ℕ) (line bytes : List ℕ) → Lacks 10 line → Lacks 13 line
    → AreSoundLines (lines_from left line bytes)
sound_lines zero line [] f r = sound_last line f r
sound_lines (suc left) line [] f r = sound_last line f r
sound_lines zero line (b ∷ bytes) f r = all_if ((b == 13) && is_empty_line line) (lines_from zero line bytes)
    (Breaks codes.TooLong ∷ []) (λ e. sound_lines zero line bytes f r) (λ e. (tt, tt))
sound_lines (suc left) line (b ∷ bytes) f r =
    all_if (b == 10) (line_of line ∷ lines_from left [] bytes) _
    (λ e. (sound_line line f r, sound_lines left [] bytes refl refl))
    (λ feed. all_if (b == 13) (lines_from left line bytes) (lines_from left (line ++ b ∷ []) bytes)
    (λ e. sound_lines left line bytes f r)
    (λ cr. sound_lines left (line ++ b ∷ []) bytes (lacks_append 10 line (b ∷ []) f (or_from _ _ feed refl))
    (lacks_append 13 line (b ∷ []) r (or_from _ _ cr refl))))

-- events of such lines
abbrev pub AreSound : List Event → Type 0
AreSound [] = Unit {0}
AreSound (Open name line ∷ before) = IsReadName name × (length (open_names before) < 256) × AreSound before
AreSound (Give name value ∷ before) = IsReadName name × IsReadText value
    × (fault_of_give name (given_names before) ≡ None) × AreSound before
AreSound (Text text ∷ before) = IsReadText text × AreSound before
AreSound (Close name ∷ before) = AreSound before

pub no_text : IsReadText []
no_text = record { utf8 = is_utf8-from_IsUtf8 [] IsUtf8-nil; no_return = refl }

joined_text : (first text : List ℕ) → IsReadText first → IsReadText text → IsReadText (first ++ text)
joined_text first text a b = record {
  utf8 = is_utf8-from_IsUtf8 (first ++ text)
      (IsUtf8-append first text (IsUtf8-from_is_utf8 first a.utf8) (IsUtf8-from_is_utf8 text b.utf8));
  no_return =
      lacks_append 13 first text a.no_return b.no_return;
}

pub sound_add_text : (text : List ℕ) (events : List Event) → IsReadText text → AreSound events
    → AreSound (add_text text events)
sound_add_text text [] t sound = (t, tt)
sound_add_text text (Open name line ∷ before) t sound = (t, sound)
sound_add_text text (Give name value ∷ before) t sound = (t, sound)
sound_add_text text (Text first ∷ before) t sound = (joined_text first text sound.0 t, sound.1)
sound_add_text text (Close name ∷ before) t sound = (t, sound)

-- a line that is not faulty keeps them so
shallow : (rooted : Bool) (names : List (List ℕ)) → fault_of_open rooted names ≡ None → length names < 256
shallow rooted [] e = omega arith
shallow rooted (name ∷ names) e = shallow_by (name ∷ names)
    (nat_le read_depth_limit (length (name ∷ names))) refl e where
      shallow_by : (names : List (List ℕ)) (deep : Bool) → nat_le read_depth_limit (length names) ≡ deep
          → (if deep then Some codes.TooDeep else None) ≡ None → length names < 256
      shallow_by names true e sound = absurd cc
      shallow_by names false e sound = grind (arith, nat_tests)

sound_text : (outside : Bool) (text : List ℕ) (before : List Event) → IsReadText text → AreSound before
    → AreSound (if outside then before else add_text text before)
sound_text true text before t sound = sound
sound_text false text before t sound = sound_add_text text before t sound

sound_after : (number : ℕ) (before : List Event) (line : Line) → IsSoundLine line → fault_of before line ≡ None
    → AreSound before → AreSound (after number before line)
sound_after number before (Opens name) l e sound =
    let deep : length (open_names (add_text [] before)) < 256 =
    rw (open_names_add_text [] before) (shallow (has_root before) (open_names before) e) in
    (l, deep, sound_add_text [] before no_text sound)
sound_after number before (Gives name value) l e sound = (l.0, l.1, e, sound)
sound_after number before (Says text) l e sound = sound_text (is_outside before) text before l sound
sound_after number before (Closes name) l e sound = sound_add_text [] before no_text sound
sound_after number before Passes l e sound = sound
sound_after number before (Breaks code) l e sound = sound

-- no fault at the end
ends_ok : (number : ℕ) (before events : List Event) (closed rooted : Bool)
    → ends_by closed rooted number before ≡ Ok events → before ≡ events
ends_ok number before events true true e = cc
ends_ok number before events true false e = absurd cc
ends_ok number before events false rooted e = absurd cc

pub sound_reads : (lines : List Line) (number : ℕ) (before events : List Event) → AreSoundLines lines → AreSound before
    → reads number before lines ≡ Ok events → AreSound events
sound_reads [] number before events all sound e =
    subst AreSound (ends_ok number before events (is_none_open (open_names before)) (has_root before) e) sound
sound_reads (line ∷ lines) number before events all sound e =
    let good = goes_on_ok (fault_of before line) (number + 1)
    (reads (number + 1) (after (number + 1) before line) lines) events e in
    sound_reads lines (number + 1) (after (number + 1) before line) events all.1
    (sound_after (number + 1) before line all.0 good.0 sound) good.1
