-- Several units under one key set (02, K4), by name: in a run who keeps keys never moves; a key that is set at one unit is there for all
-- that share the set, and a Change at any of them ends the working keys of all.
use Rattle.std.specs.Prelude.{◌≡◌, refl, Bool, true, false, List, [], ◌∷◌, ◌++◌, ℕ, ◌<◌, length}
use Rattle.std.proofs.Common.{sym, ap, ◌∙◌, arith, eq-eqb, le-leb}
use Rattle.std.proofs.Math.Option.{Option, none, some}
use Rattle.choice.specs.Choice.{either, pick}
use Rattle.model.specs.Protocol.{set_key, change_master}
use Rattle.model.specs.Rows.{is_master, is_open_row}
use Rattle.model.specs.Paper.{No, A, H, paper_of}
use Rattle.model.specs.Answers.{is_number_a, is_number_h, is_a, is_final, is_refused, is_malformed}
use Rattle.model.specs.declared.Answer.{Answer}
use Rattle.units.specs.Unit.{unit_at, keeper_field, keeper_of, key_set_of, method, is_valid, working_key}
use Rattle.units.proofs.UnitLaws.{same_keeper}
use Rattle.slots.specs.Slot.{slot_at, slot_unit, slot_command}
use Rattle.judge.specs.Command.{page_of, need_for, descriptor_of}
use Rattle.judge.specs.Descriptor.{key_version}
use Rattle.judge.proofs.JudgementLaws.{capkey_rules}
use Rattle.calls.specs.Outcome.{Tables, Lent, gives}
use Rattle.calls.proofs.OutcomeLaws.{lengths_are}
use Rattle.calls.specs.Whole.{Asked, whole}
use Rattle.calls.specs.Close.{held_by, close_out}
use Rattle.runs.specs.Run.{closes, Event, Meets, Ran, SoundTables}
use Rattle.runs.specs.Ledger.{ledger_of, starts, Done, dones, Singly}
use Rattle.runs.proofs.WholeLaws.{whole_length, whole_final, whole_field, whole_keeper}
use Rattle.runs.proofs.FinalLaws.{close_final}
use Rattle.runs.proofs.Named.{KeyMade, set_key_made}
use Rattle.runs.proofs.Sequence.{sequence}
use Rattle.runs.specs.Expected.{close_expected}
use Rattle.runs.proofs.EachStep.{each_step}
use Rattle.runs.specs.History.{start_keys, is_key_command, history, NoneSets}
use Rattle.runs.proofs.GoodChecked.{history_said}
use Rattle.runs.proofs.AfterChange.{changed_none, ended_by_change}

-- ---- who keeps keys is fixed

singly_field : (xs : List Done) (us ns : List ℕ) → length us ≡ 4096 → Singly us xs ns → (u : ℕ)
    → keeper_field (unit_at u ns) ≡ keeper_field (unit_at u us)
singly_field [] us ns full p u = ap (λ (x : List ℕ). keeper_field (unit_at u x)) (sym p)
singly_field (x ∷ xs) us ns full p u =
    singly_field xs (whole us x.what x.sent x.clock).units ns (whole_length us x.what x.sent x.clock full) p.2 u
    ∙ whole_field us x.what x.sent x.clock full u

module _ (t : Tables) (es : List Event) (m : Tables) (sound : SoundTables t) (ran : Ran t es m) where
  -- after any run from sound tables every unit's field is what it was, and so is its keeper
  pub field_fixed : (u : ℕ) → keeper_field (unit_at u m.units) ≡ keeper_field (unit_at u t.units)
  field_fixed u = singly_field (dones (starts t.slots) es) t.units m.units sound.units_length (sequence t es m sound ran).singly u

  pub keeper_fixed : (u : ℕ) → keeper_of m.units u ≡ keeper_of t.units u
  keeper_fixed u = same_keeper m.units t.units u (field_fixed u)

  -- ---- a GOOD Change at a unit of u's set, its keeper or any sharer, and no GOOD Set Key of version v at any of them since: the version
  -- is not valid at u

  pub change_ends : (u v : ℕ) → v < 16 → (xs : List Done) (y : Done) (ys : List Done) → dones (starts t.slots) es ≡ xs ++ (y ∷ ys)
      → is_key_command t.units u y ≡ true → page_of y.what.command ≡ change_master → NoneSets t.units u v ys
      → is_valid v (key_set_of m.units u) ≡ false
  change_ends u v h xs y ys split good page unset =
      let start = start_keys (key_set_of t.units u) in
      let said = (history_said t es m sound ran u).working v h in
      let gone =
      ap (λ (zs : List Done). (history t.units u start zs).working v) split ∙ changed_none t.units u v start xs y ys good page unset in
      none_invalid (is_valid v (key_set_of m.units u)) (working_key v (key_set_of m.units u)) (sym gone ∙ said)
    where
      none_invalid : (b : Bool) (key : List ℕ) → ◌≡◌ {A = Option (List ℕ)} none (pick b (some key) none) → b ≡ false
      none_invalid true key e = let z : ◌≡◌ {A = ℕ} 0 1 = cc in absurd (omega arith)
      none_invalid false key e = cc

-- ---- a GOOD Set Key at one unit is one at every unit of its set: the version is valid there, and its key the HMAC of the seed

same_set : (us : List ℕ) (u w : ℕ) → keeper_of us u ≡ keeper_of us w → key_set_of us u ≡ key_set_of us w
unfolding key_set_of
same_set us u w e = ap (λ (p : ℕ). unit_at p us) e

pub set_key_shared : (l : Lent) (s : ℕ) (d : List ℕ) (clock : ℕ) (a : Answer) (m : Lent) → gives a m ≡ close_out l s d clock → is_a 0 a ≡ true
    → page_of (slot_command (slot_at s l.tabled.slots)) ≡ set_key
    → (u : ℕ) → keeper_of l.tabled.units u ≡ keeper_of l.tabled.units (slot_unit (slot_at s l.tabled.slots))
    → KeyMade (key_set_of l.tabled.units u) (key_set_of m.tabled.units u) d
set_key_shared l s d clock a m e good page u near =
    let units = l.tabled.units in
    let k = held_by (slot_at s l.tabled.slots) in
    let o = close_final a m (rw good) l s d clock e in
    let full = (lengths_are _ _ _ o.right).0 in
    let left : m.tabled.units ≡ (whole units k d clock).units = ap (λ (x : Lent). x.tabled.units) o.whole_answered.left in
    let fixed : (v : ℕ) → keeper_of m.tabled.units v ≡ keeper_of units v =
    λ v. ap (λ (x : List ℕ). keeper_of x v) left ∙ whole_keeper units k d clock full v in
    rw (same_set units u k.unit near, same_set m.tabled.units u k.unit (fixed u ∙ near ∙ sym (fixed k.unit)))
    (set_key_made l s d clock a m e good page)

-- ---- a write that waits in slot s, at a unit that is CAPKEY at its close: after a GOOD Change at any unit of its set, another's too, and
-- no GOOD Set Key of its version there since, its close is refused

-- A0, A2 and A3 are not answers for form
final_formed : (no : No) → either (either (is_number_a 0 no) (is_number_a 2 no)) (is_number_a 3 no) ≡ true → is_number_h no ≡ false
final_formed (A n) e = refl
final_formed (H n) e = sym e

-- a close of a slot in which a command waits, with a reply of 512 bytes, is not refused for its form
waits_formed : (t : Tables) (es : List Event) (m : Tables) → SoundTables t → Ran t es m → (s : ℕ) (d : List ℕ) (clock : ℕ) (reply : List ℕ)
    (a : Answer) (r : List ℕ) (n : Tables) → Meets m (closes s d clock reply) a r n → s < 16 → length reply ≡ 512 → (x : Asked)
    → ledger_of (starts t.slots) es s ≡ some x → is_malformed a ≡ false
unfolding close_expected
waits_formed t es m sound ran s d clock reply a r n meets small long x waits =
    let stepped = (each_step t es m sound ran (closes s d clock reply) a r n meets).answer in
    let answered : (whole m.units x d clock).answer ≡ a = sym (rw (eq-eqb (length reply) 512 long, le-leb s 15 (omega arith), waits) at stepped) in
    final_formed (paper_of a).no (ap is_final (sym answered) ∙ whole_final m.units x d clock)

pub parked_ended : (t : Tables) (es : List Event) (m : Tables) (sound : SoundTables t) (ran : Ran t es m) (s : ℕ) (d : List ℕ) (clock : ℕ)
    (reply : List ℕ) (a : Answer) (r : List ℕ) (n : Tables)
    (meets : Meets m (closes s d clock reply) a r n) (small : s < 16) (long : length reply ≡ 512) (x : Asked)
    (waits : ledger_of (starts t.slots) es s ≡ some x) (xs : List Done) (y : Done) (ys : List Done)
    → method (unit_at x.unit m.units) ≡ 1 → is_open_row (need_for x.command) ≡ false → is_master (need_for x.command) ≡ false
    → dones (starts t.slots) es ≡ xs ++ (y ∷ ys)
    → is_key_command t.units x.unit y ≡ true → page_of y.what.command ≡ change_master
    → NoneSets t.units x.unit (key_version (descriptor_of x.command)) ys
    → is_refused a ≡ true
parked_ended t es m sound ran s d clock reply a r n meets small long x waits xs y ys capkey guarded working split good page unset =
    let formed = waits_formed t es m sound ran s d clock reply a r n meets small long x waits in
    ended_by_change t es m sound ran (closes s d clock reply) a r n meets refl formed x waits xs y ys
    (capkey_rules (unit_at x.unit m.units) x.command capkey) guarded working split good page unset
