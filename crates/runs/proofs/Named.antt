-- Facts by name about open and close, each of which shuts out a program that document 01 will not have ("What to prove, and programs that
-- don't pass").
use Rattle.std.specs.Prelude.{◌≡◌, refl, true, false, not, List, [], ◌∷◌, ℕ, zero, suc, ◌*◌, ◌≤◌, min, eqb, length, take}
use Rattle.std.proofs.Common.{sym, ap, ◌∙◌, subst, arith, take_at, ne_eqb, le-ltb}
use Rattle.choice.specs.Choice.{either}
use Rattle.hmac.specs.Hmac.{hmac, by_sha1}
use Rattle.wire.specs.Bytes.{patch}
use Rattle.wire.proofs.PatchLaws.{patch_none, record_here}
use Rattle.model.specs.Protocol.{set_key}
use Rattle.model.specs.Rows.{rows, listed, by_page, need_of, is_unknown, is_open_row}
use Rattle.model.proofs.RowLaws.{page_ignored, listed_by_need}
use Rattle.model.specs.Codes.{data_out, legal_len}
use Rattle.model.proofs.CodeLaws.{legal_some}
use Rattle.model.specs.Refusal.{refusal}
use Rattle.model.specs.Answers.{is_a, is_good, count_in}
use Rattle.model.specs.declared.Need.TheVariants.{Open}
use Rattle.model.specs.declared.Answer.{Answer}
use Rattle.model.specs.declared.Answer.TheVariants.{Run}
use Rattle.units.specs.declared.UnitState.TheVariants.{Used}
use Rattle.units.specs.Unit.{unit_state, unit_at, keeper_of, key_set_of, method, is_valid, working_key, gen_key_of}
use Rattle.units.proofs.UnitLaws.{keeper_small, key_set_length}
use Rattle.slots.specs.Slot.{slot_at, slot_unit, slot_command, right_token, freed}
use Rattle.judge.specs.Command.{code_of, page_of, length_field, is_bare, need_for}
use Rattle.judge.specs.Seen.{Seen, seen}
use Rattle.judge.specs.Judgement.{unit_tests, code_tests, length_tests, protocol_tests, rules_for, skips_guard, guard_tests, page_tests}
use Rattle.judge.specs.Judgement.{earlier_tests, later_tests, open_tests, open_reason}
use Rattle.judge.proofs.JudgementLaws.{unknown_code, unlisted_page, capkey_rules}
use Rattle.judge.proofs.CheckedLaws.{guarded_wrapped}
use Rattle.pages.specs.In.{in_page, reply_of}
use Rattle.pages.proofs.InLaws.{page_size, reply_length}
use Rattle.pages.specs.Out.{new_version, seed}
use Rattle.pages.proofs.OutLaws.{right_version}
use Rattle.pages.specs.Effects.{working_key_set, new_keys}
use Rattle.pages.proofs.EffectLaws.{key_length, key_valid, key_working, key_differs}
use Rattle.calls.specs.Outcome.{Lent, gives, with_slots, rightly_lent}
use Rattle.calls.proofs.OutcomeLaws.{lengths_are}
use Rattle.calls.specs.Slots.{holds}
use Rattle.calls.specs.Whole.{Asked, is_replied, reply_to, made_by, passed, judged, laid, Whole, whole_reason}
use Rattle.calls.proofs.WholeLaws.{not_replied, held_code, close_early, close_none}
use Rattle.calls.specs.Open.{reason_at_open, judged_out, open_out}
use Rattle.calls.proofs.OpenLaws.{open_judged, judged_refuses}
use Rattle.calls.specs.Close.{held_by, close_out}
use Rattle.calls.proofs.CloseLaws.{holds_open, whole_refused, close_held}
use Rattle.runs.proofs.WholeLaws.{whole_cases, Obeys, obeys, laid_keeper}
use Rattle.runs.proofs.FinalLaws.{open_final, close_final, good_open, good_close, answered_code}

-- ---- refusing always: an open INQUIRY gets A2 on every used, sound unit, and every byte is kept

inquiry_need : (page : ℕ) → need_of 0x12 page ≡ Open
unfolding need_of rows
inquiry_need page = page_ignored 0x12 page 0 refl

inquiry_none : (s : Seen) (c token : List ℕ) (clock : ℕ) → s.unit ≤ 7 → s.state ≡ Used → code_of c ≡ 0x12 → legal_len 0x12 (length c) ≡ true
    → open_reason s c token clock ≡ 0
unfolding open_reason open_tests earlier_tests later_tests unit_tests code_tests length_tests protocol_tests guard_tests skips_guard page_tests
    need_for listed rows
inquiry_none s c token clock h e q k =
    let some = legal_some 0x12 (length c) k in
    rw (le-ltb 7 s.unit h, e, q, ne_eqb (length c) 0 (λ z. omega arith), k, inquiry_need (page_of c))

module _ (l : Lent) (k : Asked) (clock : ℕ) (right : rightly_lent l ≡ true) (sized : right_token (length k.token) ≡ true)
    (small : k.unit ≤ 7) (used : unit_state l.tabled.units k.unit ≡ Used) where
  pub inquiry_runs : code_of k.command ≡ 0x12 → legal_len 0x12 (length k.command) ≡ true → open_out l k clock ≡ gives Run l
  unfolding open_out judged_out judged passed is_replied data_out
  inquiry_runs e q =
      rw (right, sized, inquiry_none (seen l.tabled.units k.unit) k.command k.token clock small used e q, e) (rw patch_none)

  -- ---- GOOD always: what no row has is answered A3, and every byte is kept

  refused : (r : ℕ) → reason_at_open l.tabled.units k clock ≡ r → (r ≡ 0 → ⊥) → open_out l k clock ≡ gives (refusal r) l
  refused r e n =
      sym (open_judged l k clock true (sym right) refl true (sym sized) refl _ (judged_refuses l k clock r (sym e) n (refusal r) refl))

  -- with reason 2 where the command is empty or its code is unknown
  pub unknown_answer : either (eqb (length k.command) 0) (not (listed (code_of k.command))) ≡ true
      → open_out l k clock ≡ gives (refusal 2) l
  unknown_answer e =
      refused 2 (unknown_code (seen l.tabled.units k.unit) k.command k.token clock small used e) (λ z. omega arith)

  -- with reason 4 where its code goes by page, its length is legal and its page is unlisted
  pub unlisted_page_answer : by_page (code_of k.command) ≡ true → legal_len (code_of k.command) (length k.command) ≡ true
      → is_unknown (need_for k.command) ≡ true → open_out l k clock ≡ gives (refusal 4) l
  unlisted_page_answer b q n =
      let c = k.command in
      let some = legal_some (code_of c) (length c) q in
      let known : true ≡ listed (code_of c) = rw b at (listed_by_need (code_of c) (page_of c)) in
      let code : either (eqb (length c) 0) (not (listed (code_of c))) ≡ false = rw (ne_eqb (length c) 0 (λ z. omega arith), ← known) in
      refused 4 (unlisted_page (seen l.tabled.units k.unit) c k.token clock small used code q b n) (λ z. omega arith)

-- ---- an invented reply count: A0 to an open says the smaller of page size and allocation length, and that many bytes of the page stand at
-- the reply's front

pub record Counted (s : Seen) (c reply : List ℕ) (n : ℕ) : Type 0 where
  pub count : n ≡ min (length_field c) (length (in_page (page_of c) s.own s.keys))
  pub front : take n reply ≡ take n (in_page (page_of c) s.own s.keys)
  pub as_many : length (take n reply) ≡ n

-- as many as were taken
cut : (n : ℕ) (xs : List ℕ) → take (length (take n xs)) xs ≡ take n xs
cut zero xs = refl
cut (suc n) [] = refl
cut (suc n) (x ∷ xs) = ap (λ (ys : List ℕ). x ∷ ys) (cut n xs)

reply_cut : (page n : ℕ) (own keys : List ℕ) → take (length (reply_of page n own keys)) (in_page page own keys) ≡ reply_of page n own keys
unfolding reply_of
reply_cut page n own keys = cut n (in_page page own keys)

reply_front : (s : Seen) (c reply : List ℕ) → Counted s c (patch reply 0 (reply_to s c)) (length (reply_to s c))
unfolding patch
reply_front s c reply =
    let front = take_at (reply_to s c) _ (length (reply_to s c)) refl in
    record {
      count =
          reply_length (page_of c) (length_field c) s.own s.keys ∙ ap (min (length_field c)) (sym (page_size (page_of c) s.own s.keys));
      front = front ∙ sym (reply_cut (page_of c) (length_field c) s.own s.keys);
      as_many = ap length front;
    }

pub reply_counted : (l : Lent) (k : Asked) (clock : ℕ) (a : Answer) (m : Lent) → gives a m ≡ open_out l k clock → is_a 0 a ≡ true
    → Counted (seen l.tabled.units k.unit) k.command m.reply (count_in a)
unfolding refusal
reply_counted l k clock a m e good =
    let units = l.tabled.units in
    let s = seen units k.unit in
    let o = open_final a m (rw good) l k clock e in
    let w = o.whole_answered in
    rw (w.answer, w.left)
    (whole_cases units k [] clock
    (λ (x : Whole). is_a 0 x.answer ≡ true → Counted s k.command (patch l.reply 0 x.written) (count_in x.answer))
    (λ n q. let o : ◌≡◌ {A = ℕ} 0 1 = cc in absurd (omega arith))
    (λ z t q. absurd (answered_code units k clock o.unparked z t))
    (λ z f r q. reply_front s k.command l.reply)
    (λ z f r q. let o : ◌≡◌ {A = ℕ} 0 1 = cc in absurd (omega arith))
    (rw w.answer at good))

-- ---- judging at open and waving the close through: a close refuses for whatever an open of the same command would at the close's clock

pub close_judges : (l : Lent) (s : ℕ) (d : List ℕ) (clock : ℕ) → rightly_lent l ≡ true → holds l.tabled.slots s ≡ true
    → (reason_at_open l.tabled.units (held_by (slot_at s l.tabled.slots)) clock ≡ 0 → ⊥)
    → close_out l s d clock
    ≡ gives (refusal (reason_at_open l.tabled.units (held_by (slot_at s l.tabled.slots)) clock))
    (with_slots (freed s l.tabled.slots) l)
close_judges l s d clock right held n =
    let units = l.tabled.units in
    let k = held_by (slot_at s l.tabled.slots) in
    let r = reason_at_open units k clock in
    let early = close_early (seen units k.unit) k.command k.token d clock r refl n in
    let whole_is = whole_refused units k d clock r early n (refusal r) refl in
    sym (close_held l s d clock true (sym right) refl true (sym held) refl (refusal r) units whole_is)

-- and for whatever reason the whole command has then, 18 and 19 too
pub close_refuses : (l : Lent) (s : ℕ) (d : List ℕ) (clock : ℕ) → rightly_lent l ≡ true → holds l.tabled.slots s ≡ true
    → (whole_reason l.tabled.units (held_by (slot_at s l.tabled.slots)) d clock ≡ 0 → ⊥)
    → close_out l s d clock
    ≡ gives (refusal (whole_reason l.tabled.units (held_by (slot_at s l.tabled.slots)) d clock))
    (with_slots (freed s l.tabled.slots) l)
close_refuses l s d clock right held n =
    let units = l.tabled.units in
    let k = held_by (slot_at s l.tabled.slots) in
    let r = whole_reason units k d clock in
    let whole_is = whole_refused units k d clock r refl n (refusal r) refl in
    sym (close_held l s d clock true (sym right) refl true (sym held) refl (refusal r) units whole_is)

-- ---- where CAPKEY rules, no command but an open row is GOOD without a capability

pub capkey_open : (l : Lent) (k : Asked) (clock : ℕ) (a : Answer) (m : Lent) → gives a m ≡ open_out l k clock → is_good a ≡ true
    → rules_for (unit_at k.unit l.tabled.units) k.command ≡ true → is_open_row (need_for k.command) ≡ false
    → is_bare k.command ≡ false
capkey_open l k clock a m e good rules guarded =
    guarded_wrapped (seen l.tabled.units k.unit) k.command k.token clock (good_open a m good l k clock e) rules guarded

pub capkey_close : (l : Lent) (s : ℕ) (d : List ℕ) (clock : ℕ) (a : Answer) (m : Lent) → gives a m ≡ close_out l s d clock
    → is_good a ≡ true
    → (let k : Asked = held_by (slot_at s l.tabled.slots) in
    rules_for (unit_at k.unit l.tabled.units) k.command ≡ true → is_open_row (need_for k.command) ≡ false
    → is_bare k.command ≡ false)
capkey_close l s d clock a m e good rules guarded =
    let k = held_by (slot_at s l.tabled.slots) in
    let x = seen l.tabled.units k.unit in
    let none = (close_none x k.command k.token d clock (good_close a m good l s d clock e)).0 in
    guarded_wrapped x k.command k.token clock none rules guarded

-- so on a CAPKEY unit
pub capkey_unit_open : (l : Lent) (k : Asked) (clock : ℕ) (a : Answer) (m : Lent) → gives a m ≡ open_out l k clock → is_good a ≡ true
    → method (unit_at k.unit l.tabled.units) ≡ 1 → is_open_row (need_for k.command) ≡ false → is_bare k.command ≡ false
capkey_unit_open l k clock a m e good q =
    capkey_open l k clock a m e good (capkey_rules (unit_at k.unit l.tabled.units) k.command q)

pub capkey_unit_close : (l : Lent) (s : ℕ) (d : List ℕ) (clock : ℕ) (a : Answer) (m : Lent) → gives a m ≡ close_out l s d clock
    → is_good a ≡ true
    → (let k : Asked = held_by (slot_at s l.tabled.slots) in
    method (unit_at k.unit l.tabled.units) ≡ 1 → is_open_row (need_for k.command) ≡ false → is_bare k.command ≡ false)
capkey_unit_close l s d clock a m e good q =
    let k = held_by (slot_at s l.tabled.slots) in
    capkey_close l s d clock a m e good (capkey_rules (unit_at k.unit l.tabled.units) k.command q)

-- ---- doing nothing: after a GOOD Set Key, in the unit's key set, the version's key is valid and is the HMAC of the seed under the old
-- generation key; where its bit was clear, the record differs

pub record KeyMade (before after d : List ℕ) : Type 0 where
  pub valid : is_valid (new_version d) after ≡ true
  pub key : working_key (new_version d) after ≡ hmac by_sha1 (gen_key_of before) (seed d)
  pub differs : is_valid (new_version d) before ≡ false → after ≡ before → ⊥

key_laid : (units : List ℕ) (u page : ℕ) (d : List ℕ) → page ≡ set_key
    → laid units u (made_by (seen units u) page d)
    ≡ patch units (keeper_of units u * 512) (working_key_set (new_version d) (seed d) (key_set_of units u))
unfolding made_by new_keys
key_laid units u page d e = rw e

key_made : (units : List ℕ) (u page : ℕ) (d : List ℕ) → Obeys units u page d → page ≡ set_key
    → KeyMade (key_set_of units u) (key_set_of (laid units u (made_by (seen units u) page d)) u) d
unfolding key_set_of
key_made units u page d o e =
    let hv = right_version page d e o.right in
    let units-full = o.full in
    let small = keeper_small units u o.used o.small in
    let full = key_set_length units u o.used o.full o.small in
    let new = working_key_set (new_version d) (seed d) (key_set_of units u) in
    -- the record laid at the keeper's place is the key set
    let here : key_set_of (laid units u (made_by (seen units u) page d)) u ≡ new =
    ap (λ (p : ℕ). unit_at p (laid units u (made_by (seen units u) page d))) (laid_keeper units u page d o u)
    ∙ ap (unit_at (keeper_of units u)) (key_laid units u page d e)
    ∙ record_here units (keeper_of units u) new (key_length (new_version d) (seed d) (key_set_of units u) hv full) (omega arith) in
    subst (λ (rec : List ℕ). KeyMade (key_set_of units u) rec d) (sym here)
    (record {
      valid = key_valid (new_version d) (seed d) (key_set_of units u) hv full;
      key = key_working (new_version d) (seed d) (key_set_of units u) hv full;
      differs = key_differs (new_version d) (seed d) (key_set_of units u) hv full;
    })

pub set_key_made : (l : Lent) (s : ℕ) (d : List ℕ) (clock : ℕ) (a : Answer) (m : Lent) → gives a m ≡ close_out l s d clock → is_a 0 a ≡ true
    → page_of (slot_command (slot_at s l.tabled.slots)) ≡ set_key
    → (let u : ℕ = slot_unit (slot_at s l.tabled.slots) in KeyMade (key_set_of l.tabled.units u) (key_set_of m.tabled.units u) d)
unfolding refusal
set_key_made l s d clock a m e good page =
    let units = l.tabled.units in
    let rec = slot_at s l.tabled.slots in
    let k = held_by rec in
    let o = close_final a m (rw good) l s d clock e in
    let w = o.whole_answered in
    rw w.left
    (whole_cases units k d clock
    (λ (x : Whole). is_a 0 x.answer ≡ true → KeyMade (key_set_of units k.unit) (key_set_of x.units k.unit) d)
    (λ n q. let o : ◌≡◌ {A = ℕ} 0 1 = cc in absurd (omega arith))
    (λ z t q. key_made units k.unit (page_of k.command) d (obeys units k d clock (lengths_are _ _ _ o.right).0 z t) page)
    (λ z f r q. let n = not_replied k.command (held_code rec (holds_open l.tabled.slots s o.held).1) in
    let o : ◌≡◌ {A = ℕ} 0 1 = cc in absurd (omega arith))
    (λ z f r q. let o : ◌≡◌ {A = ℕ} 0 1 = cc in absurd (omega arith))
    (rw w.answer at good))
