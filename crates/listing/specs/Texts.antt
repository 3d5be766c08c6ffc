-- What is printed, from lists of texts, a line for each case (text/specs/Lists.antt); docs/MANUAL.md has them.
use Rattle.std.specs.Prelude.{List, [], ◌∷◌, ℕ, codes, ◌++◌}
use Rattle.text.specs.Scan.{index_of}
use Rattle.text.specs.Lists.{line_of}
use Rattle.model.specs.declared.Answer.{Answer}
use Rattle.model.specs.declared.Answer.TheVariants.{Good, Parked, Check, Run, Full, H1, H2, H3, H4, H5}
use Rattle.listing.specs.declared.reading.Fault.{Fault}
use Rattle.listing.specs.declared.reading.Fault.TheVariants.{UnknownWord, MissingWord, SurplusWord, NotANumber, NumberTooLarge}
use Rattle.listing.specs.declared.reading.Fault.TheVariants.{NotHex, IdentifierLength, KeyLength, PastTheEnd, LineTooLong}

-- ---- what can be wrong with a line

unfoldable pub faults : List ℕ
faults =
    codes "unknown word\nmissing word\nsurplus word\nnot a number\nnumber too large\nnot hex\n"
    ++ codes "identifier of the wrong length\nkey of the wrong length\npast the table's end\nline too long"

abbrev pub fault_line : Fault → ℕ
fault_line UnknownWord = 0
fault_line MissingWord = 1
fault_line SurplusWord = 2
fault_line NotANumber = 3
fault_line NumberTooLarge = 4
fault_line NotHex = 5
fault_line IdentifierLength = 6
fault_line KeyLength = 7
fault_line PastTheEnd = 8
fault_line LineTooLong = 9

-- ---- the answers that have no values

unfoldable pub plain_answers : List ℕ
plain_answers = codes "A2 00\nA4 28\nH1\nH2\nH3\nH4\nH5"

-- of one that has values there is no line
abbrev pub plain_line : Answer → ℕ
plain_line Run = 0
plain_line Full = 1
plain_line H1 = 2
plain_line H2 = 3
plain_line H3 = 4
plain_line H4 = 5
plain_line H5 = 6
plain_line (Good count) = 7
plain_line (Parked slot) = 7
plain_line (Check sense) = 7

-- ---- why a command is refused, by its number

unfoldable pub reason_numbers : List ℕ
reason_numbers = 1 ∷ 0x1b ∷ 2 ∷ 3 ∷ 4 ∷ 6 ∷ 7 ∷ 8 ∷ 9 ∷ 10 ∷ 11 ∷ 12 ∷ 13 ∷ 14 ∷ 15 ∷ 16 ∷ 17 ∷ 18 ∷ 19 ∷ []

unfoldable pub reasons : List ℕ
reasons =
    codes "the unit is above 7, or its record sound and unused\n"
    ++ codes "the unit's record is unsound: damaged; or it shares keys, and its keeper's record is unsound, unused or itself a sharer's\n"
    ++ codes "the command is empty or its code unknown\n"
    ++ codes "its length is neither the CDB's nor 78 bytes more\n"
    ++ codes "A2h, B5h: protocol byte 1 not 07h, page in bytes 2-3 unlisted, or bit 7 of byte 4 set\n"
    ++ codes "no capability, and the unit is CAPKEY or the command wants a master key\n"
    ++ codes "capability: format not 1h\n"
    ++ codes "capability: method not CAPKEY where CAPKEY rules, else above 1\n"
    ++ codes "capability: algorithm not 1, where CAPKEY rules\n"
    ++ codes "capability: expiration not zero and below the clock\n"
    ++ codes "capability: a needed permission bit of byte 32 is missing\n"
    ++ codes "capability: policy tag not zero and not the unit's\n"
    ++ codes "capability: type not 1h, length not 16, or identifier not the unit's\n"
    ++ codes "no such key: the version has no valid key, a master command names another version than 0, "
    ++ codes "or Change comes with no seed exchange pending\n"
    ++ codes "the integrity check value differs\n"
    ++ codes "B5h: bytes 6-9 are not the page's total\n"
    ++ codes "IN page 0012h with no seed exchange pending in the unit's key set\n"
    ++ codes "B5h: the data are not as long as bytes 6-9 say\n"
    ++ codes "B5h: page code, page length, a field or a named zero of the data is wrong"

-- of a number that is no reason there are none
abbrev pub reason_words : ℕ → List ℕ
reason_words reason = line_of (index_of reason reason_numbers) reasons
