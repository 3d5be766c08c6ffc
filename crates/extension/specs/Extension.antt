-- The extension list of the port card (document 02, K1): behind the CDB stand one to four descriptors, each a type byte, a length byte and
-- that many body bytes. The list is read as one descriptor followed by a shorter list, and must end at the last byte.
use Rattle.std.specs.Prelude.{Bool, true, false, List, [], ◌++◌, ℕ, zero, suc, ◌+◌, eqb, ltb, length, get_or, take, drop}
use Rattle.choice.specs.Choice.{pick}
use Rattle.wire.specs.Bytes.{part}
use Rattle.model.specs.Codes.{within, cdb_len}

-- ---- the first descriptor of a list

-- its type, the number of its body bytes, and these
abbrev pub type_of : List ℕ → ℕ
type_of l = get_or l 0 0

abbrev pub body_length : List ℕ → ℕ
body_length l = get_or l 1 0

abbrev pub body_of : List ℕ → List ℕ
body_of l = part 2 (body_length l) l

-- the shorter list behind it
abbrev pub behind : List ℕ → List ℕ
behind l = drop (body_length l + 2) l

-- is it cut off by the end? A type byte alone is, too
abbrev pub is_cut : List ℕ → Bool
is_cut l = ltb (length l) (body_length l + 2)

-- ---- what a list carries: nothing so far, the body of its 40h, or it is wrong

pub data Carried : Type 0 where
  nothing : Carried
  body : List ℕ → Carried
  wrong : Carried

abbrev pub is_body : Carried → Bool
is_body nothing = false
is_body (body b) = true
is_body wrong = false

-- a 40h: the first carries its body, of 78 bytes; a repeated one is wrong
abbrev pub carrying : Carried → List ℕ → Carried
carrying nothing b = pick (eqb (length b) 78) (body b) wrong
carrying (body c) b = wrong
carrying wrong b = wrong

-- one descriptor more: 40h carries, 41h to 4Fh are passed over, any other type is wrong
unfoldable pub one_more : Carried → ℕ → List ℕ → Carried
one_more c type b = pick (eqb type 0x40) (carrying c b) (pick (within 0x41 0x4F type) c wrong)

-- is nothing left?
abbrev pub is_empty : List ℕ → Bool
is_empty l = eqb (length l) 0

-- the list l of at most n descriptors, behind those that carried c: at its end what was carried; else one descriptor, if it is not cut
-- off, followed by a shorter list
unfoldable pub list_from : ℕ → Carried → List ℕ → Carried
list_from zero c l = pick (is_empty l) c wrong
list_from (suc n) c l =
    pick (is_empty l) c
    (pick (is_cut l) wrong
    (list_from n (one_more c (type_of l) (body_of l)) (behind l)))

-- ---- the command, reduced to document 01's wrapped form

abbrev pub cdb_of : List ℕ → List ℕ
cdb_of c = take (cdb_len (get_or c 0 0)) c

-- what the bytes behind the CDB carry; a CDB shorter than its code's length is wrong
unfoldable pub carried_by : List ℕ → Carried
carried_by c = pick (ltb (length c) (cdb_len (get_or c 0 0))) wrong (list_from 4 nothing (drop (cdb_len (get_or c 0 0)) c))

-- can it be reduced? Where not, reason 20 applies
unfoldable pub reduces : List ℕ → Bool
reduces c = is_body (carried_by c)

-- the CDB and the 78 bytes; no bytes where it can't be reduced
abbrev pub wrapped_with : List ℕ → Carried → List ℕ
wrapped_with cdb nothing = []
wrapped_with cdb (body b) = cdb ++ b
wrapped_with cdb wrong = []

unfoldable pub reduced : List ℕ → List ℕ
reduced c = wrapped_with (cdb_of c) (carried_by c)
