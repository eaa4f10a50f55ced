-- What the words of a reply say of the lines below its entry, and which lines fit there.
use Rattle.std.specs.Prelude.{◌≡◌, ◌+◌, ◌<◌, ◌^◌, ◌&&◌, ◌++◌, ℕ, Bool, false, [], ◌∷◌, Option, Some, None, codes, length, nat_lt, bytes_eq, is_some, option_map, if◌then◌else◌, MatchBool}
use Rattle.std.specs.List.{list_any}
use Rattle.std.specs.Fmt.{decimal}
use Rattle.dita_doc.specs.declared.fault.FaultCode.{FaultCode}
use Rattle.dita_doc.specs.Faults.{pyx_code_text, fault_code_text}
use Rattle.dita_doc.specs.Lines.{IsLineText}
use Rattle.fault_report.specs.FaultLine.{with_detail}
use Rattle.transcript_text.specs.Transcript.{IsNameShown, IsNameLine, name_line, PageShown, IsPageShown, page_line, FaultShown, IsFaultShown, fault_line}
use Rattle.dita_doc.specs.Bytes.{Bytes}
use Rattle.transcript_text.specs.Words.{TextLines, Words, number_of}
use Rattle.transcript_text.specs.declared.below.Below.{Below}
use Rattle.transcript_text.specs.declared.below.Below.TheVariants.{Texts, Names, Built}
use Rattle.transcript_text.specs.declared.below.TheConstants.{PYX_CODES, FAULT_CODES}

abbrev pub none_below : Below
none_below = Texts 0

-- how many lines there are
abbrev pub count_of : Below → ℕ
count_of (Texts count) = count
count_of (Names count) = count
count_of (Built pages faults) = pages + faults

-- whether a word is the name of a code
abbrev pub is_pyx_code : Bytes → Bool
is_pyx_code word = list_any (λ code. bytes_eq (pyx_code_text code) word) PYX_CODES

abbrev pub is_fault_code : Bytes → Bool
is_fault_code word = list_any (λ code. bytes_eq (fault_code_text code) word) FAULT_CODES

-- whether words are those of a refusal

abbrev pub is_refusal_two : Bytes → Bytes → Bool
is_refusal_two word second =
    if bytes_eq word (codes "conflict") then is_some (number_of 64 second)
    else bytes_eq word (codes "toomanynames") && bytes_eq second (codes "10000")

abbrev pub is_refusal_three : Bytes → Bytes → Bytes → Bool
is_refusal_three word second third =
    bytes_eq word (codes "refused") && (is_pyx_code second && is_some (number_of 32 third))

abbrev pub is_refusal : Words → Bool
is_refusal [] = false
is_refusal (word ∷ []) = bytes_eq word (codes "absent")
is_refusal (word ∷ second ∷ []) = is_refusal_two word second
is_refusal (word ∷ second ∷ third ∷ []) = is_refusal_three word second third
is_refusal (word ∷ second ∷ third ∷ fourth ∷ words) = false

-- other replies of one word
abbrev pub lone_words : Words
lone_words =
    codes "nomap" ∷ codes "notmap" ∷ codes "noditaval" ∷ codes "toomanynodes" ∷ codes "toomanypages" ∷ []

-- other replies of a word and a number below 2^64, without lines
abbrev pub numbered_words : Words
numbered_words = codes "stored" ∷ codes "removed" ∷ codes "toolarge" ∷ []

abbrev pub is_among : Words → Bytes → Bool
is_among words word = list_any (bytes_eq word) words

abbrev pub none_if : Bool → Option Below
none_if test = if test then Some none_below else None

abbrev pub both : Option ℕ → Option ℕ → Option Below
both (Some pages) (Some faults) = Some (Built pages faults)
both (Some pages) None = None
both None faults = None

abbrev pub below_one : Bytes → Option Below
below_one word = none_if (is_among lone_words word)

abbrev pub below_two : Bytes → Bytes → Option Below
below_two word second =
    if is_among numbered_words word then none_if (is_some (number_of 64 second))
    else if bytes_eq word (codes "grouped") then none_if (is_some (number_of 32 second))
    else if bytes_eq word (codes "text") then option_map Texts (number_of 64 second)
    else if bytes_eq word (codes "names") then option_map Names (number_of 64 second)
    else None

abbrev pub below_three : Bytes → Bytes → Bytes → Option Below
below_three word second third =
    if bytes_eq word (codes "built") then both (number_of 64 second) (number_of 64 third) else None

-- other replies of two words or three
abbrev pub below_some : Bytes → Bytes → Words → Option Below
below_some word second [] = below_two word second
below_some word second (third ∷ []) = below_three word second third
below_some word second (third ∷ fourth ∷ words) = None

-- behind the word for a group that was stopped: the number of an edit, and its refusal
abbrev pub below_stopped : Bytes → Words → Option Below
below_stopped number refusal = none_if (is_refusal refusal && is_some (number_of 32 number))

-- what the words of a reply say if they are no refusal
abbrev pub below_other : Words → Option Below
below_other [] = None
below_other (word ∷ []) = below_one word
below_other (word ∷ second ∷ words) =
    if bytes_eq word (codes "stopped") then below_stopped second words else below_some word second words

-- what the words of a reply say; if they are no reply, nothing
abbrev pub below_of : Words → Option Below
below_of words = if is_refusal words then Some none_below else below_other words

-- the lines below an entry

abbrev pub IsNameText : Bytes → Type 0
IsNameText text = (named : Bytes × ℕ) × IsNameLine named × (text ≡ name_line named)

abbrev pub IsPageText : Bytes → Type 0
IsPageText text = (page : PageShown) × IsPageShown page × (text ≡ page_line page)

abbrev pub IsFaultText : Bytes → Type 0
IsFaultText text = (fault : FaultShown) × IsFaultShown fault × (text ≡ fault_line fault)

-- a text may stand on the line of this index, without its `|`
abbrev pub FitsAt : Below → ℕ → Bytes → Type 0
FitsAt (Texts count) at text = IsLineText text
FitsAt (Names count) at text = IsNameText text
FitsAt (Built pages faults) at text = MatchBool (nat_lt at pages) (IsPageText text) (IsFaultText text)

-- texts may stand on the lines from this index on
abbrev pub FitFrom : Below → ℕ → TextLines → Type 0
FitFrom below at [] = Unit {0}
FitFrom below at (text ∷ texts) = FitsAt below at text × FitFrom below (at + 1) texts

-- parts of these lines

-- one word, which is a number
abbrev pub IsLastNumber : Words → Type 0
IsLastNumber words = (n : ℕ) × (n < 2 ^ 64) × (words ≡ decimal n ∷ [])

-- a name, a colon and a line
abbrev pub IsPlaceText : Bytes → Type 0
IsPlaceText text =
    (name : Bytes) × (number : ℕ) × IsNameShown name × (number < 2 ^ 32) × (text ≡ name ++ codes ":" ++ decimal number)

-- a code, and a detail behind a space or none
abbrev pub IsCodeText : Bytes → Type 0
IsCodeText text =
    (code : FaultCode) × (detail : Bytes) × IsLineText detail × (text ≡ fault_code_text code ++ with_detail detail)

-- a detail that is not empty
abbrev pub IsDetail : Bytes → Type 0
IsDetail detail = (0 < length detail) × IsLineText detail
