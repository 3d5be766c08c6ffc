-- Every answer that a call gives fits its places, whatever the input: so the number that the C face returns, taken apart, is document
-- 01's number and values of the answer, for each of the five calls.
use Prim.{Unit, tt}
use Rattle.std.specs.Prelude.{◌≡◌, refl, ℕ, ◌*◌, ◌<◌, eqb, leb, length}
use mathlib.Core.List.{List, [], ◌∷◌, ◌++◌}
use native.Mathlib.Omega.{arith}
use Rattle.choice.specs.Choice.{both}
use Rattle.choice.specs.ChoiceLaws.{pick_holds}
use Rattle.wire.specs.Bytes.{patch}
use Rattle.model.specs.Among.{is_in}
use Rattle.model.specs.Paper.{paper_of}
use Rattle.model.specs.Protocol.{protocol_out}
use Rattle.model.specs.Refusal.{sense_key, additional_code, refusal}
use Rattle.model.specs.declared.Answer.{Answer}
use Rattle.model.specs.declared.Answer.TheVariants.{Good, Parked, Run, Full, H1, H2, H3, H5}
use Rattle.units.specs.Fields.{used_record, built}
use Rattle.slots.specs.Slot.{slot_at, right_token, lowest_free, freed, all_freed}
use Rattle.slots.proofs.SearchLaws.{lowest}
use Rattle.std.specs.Prelude.{Option, Some, None}
use Rattle.judge.specs.Command.{code_of, page_of, length_field}
use Rattle.judge.specs.Seen.{Seen, seen}
use Rattle.judge.specs.Judgement.{Test, first, unit_tests, code_tests, length_tests, protocol_tests, skips_guard, bare_tests, form_tests, fact_tests, found_tests, value_tests, credential_tests, guard_tests, page_tests, earlier_tests, later_tests, open_tests, open_reason}
use Rattle.pages.proofs.InLaws.{reply_small}
use Rattle.calls.specs.Outcome.{TableOutcome, leaves, Lent, Outcome, rightly_lent}
use Rattle.calls.specs.Build.{right_keeper, build_out}
use Rattle.calls.specs.Slots.{holds, abort_out, reset_out}
use Rattle.calls.specs.Whole.{Asked, list_tests, close_reason, Local, is_replied, reply_to, passed, judged, whole}
use Rattle.calls.specs.Open.{parks, parked_in, judged_out, open_out}
use Rattle.calls.specs.Close.{held_by, close_out}
use Rattle.nectarnook.specs.Packed.{packed_paper}
use Rattle.nectarnook.specs.Unpacked.{FitsItsBytes, paper_in}
use Rattle.nectarnook.proofs.UnpackedLaws.{paper_back}

-- ---- reasons are bytes

abbrev Byte : ℕ → Type 0
Byte r = r < 256

abbrev Bytes : List Test → Type 0
Bytes [] = Unit
Bytes (t ∷ ts) = Byte t.reason × Bytes ts

bytes_append : (xs ys : List Test) → Bytes xs → Bytes ys → Bytes (xs ++ ys)
bytes_append [] ys h k = k
bytes_append (x ∷ xs) ys h k = (h.0, bytes_append xs ys h.1 k)

first_byte : (ts : List Test) → Bytes ts → first ts < 256
first_byte [] h = omega arith
first_byte (t ∷ ts) h = pick_holds Byte t.applies _ _ h.0 (first_byte ts h.1)

module _ (s : Seen) (c token : List ℕ) (clock : ℕ) where
  earlier_bytes : Bytes (earlier_tests s c)
  unfolding earlier_tests unit_tests code_tests length_tests
  earlier_bytes = omega arith

  guard_bytes : Bytes (guard_tests s.own s.keys c token clock)
  unfolding guard_tests credential_tests bare_tests form_tests fact_tests found_tests value_tests
  guard_bytes = pick_holds Bytes (skips_guard s.own c) [] _ tt (omega arith)

  later_bytes : Bytes (later_tests s.own s.keys c token clock)
  unfolding later_tests protocol_tests page_tests
  later_bytes = (omega arith, bytes_append (guard_tests s.own s.keys c token clock) _ guard_bytes (omega arith))

  open_bytes : Bytes (open_tests s c token clock)
  unfolding open_tests
  open_bytes = bytes_append (earlier_tests s c) _ earlier_bytes later_bytes

  open_byte : open_reason s c token clock < 256
  unfolding open_reason
  open_byte = first_byte (open_tests s c token clock) open_bytes

  close_byte : (d : List ℕ) → close_reason s c token d clock < 256
  unfolding close_reason list_tests
  close_byte d =
      first_byte (open_tests s c token clock ++ list_tests c d) (bytes_append (open_tests s c token clock) (list_tests c d) open_bytes (omega arith))

key_byte_lem : (r : ℕ) → Byte (sense_key r)
unfolding sense_key
key_byte_lem r = pick_holds Byte (eqb r 0x1b) 0x4 0x5 (omega arith) (omega arith)

code_byte_lem : (r : ℕ) → Byte (additional_code r)
unfolding additional_code
code_byte_lem r =
    let last : Byte 0x24 = omega arith in
    let p19 = pick_holds Byte (eqb r 19) 0x26 _ (omega arith) last in
    let p16 = pick_holds Byte (is_in (16 ∷ 18 ∷ []) r) 0x1A _ (omega arith) p19 in
    let p2 = pick_holds Byte (eqb r 2) 0x20 _ (omega arith) p16 in
    let p1b = pick_holds Byte (eqb r 0x1b) 0x44 _ (omega arith) p2 in
    pick_holds Byte (eqb r 1) 0x25 _ (omega arith) p1b

-- ---- what an answer gives back

record Back (o : TableOutcome) : Type 0 where
  pub same : paper_in (packed_paper o.answer) ≡ o.answer

record BackAll (o : Outcome) : Type 0 where
  pub same : paper_in (packed_paper o.answer) ≡ o.answer

refusal_back : (r : ℕ) → Byte r → paper_in (packed_paper (paper_of (refusal r))) ≡ paper_of (refusal r)
unfolding refusal
refusal_back r h = paper_back (refusal r) (omega arith, (key_byte_lem r, (code_byte_lem r, (omega arith, (h, tt)))))

-- a whole command, judged with a reason that is a byte
judged_back : (s : Seen) (c d : List ℕ) (r : ℕ) → Byte r
    → paper_in (packed_paper (paper_of (judged s c d r).answer)) ≡ paper_of (judged s c d r).answer
unfolding judged passed
judged_back s c d r h =
    let P : Local → Type 0 = λ x. paper_in (packed_paper (paper_of x.answer)) ≡ paper_of x.answer in
    let k = reply_small (page_of c) (length_field c) s.own s.keys in
    pick_holds P (eqb r 0) _ _
    (pick_holds P (eqb (code_of c) protocol_out) _ _ (paper_back (Good 0) (omega arith, (omega arith, tt)))
    (pick_holds P (is_replied c) _ _ (paper_back (Good (length (reply_to s c))) (omega arith, (omega arith, tt))) (paper_back Run (omega arith, tt))))
    (refusal_back r h)

-- ---- open and close

module _ (l : Lent) (k : Asked) (clock : ℕ) where
  slot_back : (f : Option ℕ) → lowest_free l.tabled.slots ≡ f → Back (parked_in l.tabled.slots k f)
  slot_back (Some s) e = let w = (lowest l.tabled.slots s e).0 in record { same = paper_back (Parked (record { 0 = s })) (omega arith, tt) }
  slot_back None e = record { same = paper_back Full (omega arith, tt) }

  pub open_back : paper_in (packed_paper (open_out l k clock).answer) ≡ (open_out l k clock).answer
  unfolding open_out judged_out
  open_back =
      let s = seen l.tabled.units k.unit in
      (pick_holds BackAll (rightly_lent l) _ _
      (pick_holds BackAll (right_token (length k.token)) _ _
      (pick_holds BackAll (parks l.tabled.units k clock) _ _ (record { same = (slot_back (lowest_free l.tabled.slots) refl).same })
      (record { same = judged_back s k.command [] (open_reason s k.command k.token clock) (open_byte s k.command k.token clock) }))
      (record { same = paper_back H2 tt })) (record { same = paper_back H1 tt })).same

pub close_back : (l : Lent) (s : ℕ) (d : List ℕ) (clock : ℕ)
    → paper_in (packed_paper (close_out l s d clock).answer) ≡ (close_out l s d clock).answer
unfolding close_out whole
close_back l s d clock =
    let k = held_by (slot_at s l.tabled.slots) in
    let v = seen l.tabled.units k.unit in
    (pick_holds BackAll (rightly_lent l) _ _
    (pick_holds BackAll (holds l.tabled.slots s) _ _
    (record { same = judged_back v k.command d (close_reason v k.command k.token d clock) (close_byte v k.command k.token clock d) })
    (record { same = paper_back H3 tt })) (record { same = paper_back H1 tt })).same

-- ---- build, abort, reset

back : (a : Answer) (t : List ℕ) → FitsItsBytes a → Back (leaves a t)
back a t h = record { same = paper_back a h }

pub build_back : (units : List ℕ) (u m t : ℕ) (id auth gen : List ℕ) (k : ℕ)
    → paper_in (packed_paper (build_out units u m t id auth gen k).answer) ≡ (build_out units u m t id auth gen k).answer
unfolding build_out
build_back units u m t id auth gen k =
    (pick_holds Back (eqb (length units) 4096) _ _
    (pick_holds Back (both (leb u 7) (both (leb m 1) (right_keeper units u k))) _ _
    (back (Good 0) (patch units (u * 512) (used_record (built u m t id auth gen k))) (omega arith, (omega arith, tt)))
    (back H5 units tt))
    (back H1 units tt)).same

pub abort_back : (slots : List ℕ) (s : ℕ) → paper_in (packed_paper (abort_out slots s).answer) ≡ (abort_out slots s).answer
unfolding abort_out
abort_back slots s =
    (pick_holds Back (eqb (length slots) 8192) _ _
    (pick_holds Back (holds slots s) _ _ (back (Good 0) (freed s slots) (omega arith, (omega arith, tt))) (back H3 slots tt))
    (back H1 slots tt)).same

pub reset_back : (slots : List ℕ) → paper_in (packed_paper (reset_out slots).answer) ≡ (reset_out slots).answer
unfolding reset_out
reset_back slots =
    (pick_holds Back (eqb (length slots) 8192) _ _ (back (Good 0) (all_freed slots) (omega arith, (omega arith, tt))) (back H1 slots tt)).same
