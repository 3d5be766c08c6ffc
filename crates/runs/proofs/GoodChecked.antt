-- Demand 3, GOOD means checked: each guarded GOOD on a CAPKEY unit passed every capability check against the records just before that step,
-- under the key that the starting keys and the GOOD key commands since say was valid. The same for master rows on units of either method.
use Rattle.std.specs.Prelude.{◌≡◌, refl, Bool, true, false, List, ℕ, ◌<◌}
use Rattle.std.proofs.Common.{sym, ap, ◌∙◌, arith}
use Rattle.std.proofs.Math.Option.{Option, none, some}
use Rattle.choice.specs.Choice.{pick}
use Rattle.model.specs.Rows.{is_master, is_open_row}
use Rattle.model.specs.Answers.{is_good, is_final}
use Rattle.model.specs.declared.Need.{Need}
use Rattle.model.specs.declared.Need.TheVariants.{Unknown, Open, Bits, Master}
use Rattle.model.specs.declared.Answer.{Answer}
use Rattle.units.specs.Unit.{unit_at, key_set_of, is_valid, working_key, auth_key_of, next_auth_key, method}
use Rattle.judge.specs.Command.{need_for, is_change, descriptor_of}
use Rattle.judge.specs.Descriptor.{key_version}
use Rattle.judge.specs.Keys.{key_found, key_used}
use Rattle.judge.specs.Seen.{seen}
use Rattle.judge.specs.Judgement.{rules_for, open_reason}
use Rattle.judge.proofs.JudgementLaws.{capkey_rules, master_rules}
use Rattle.judge.proofs.CheckedLaws.{guarded_key, guarded_checked}
use Rattle.calls.specs.Outcome.{Tables}
use Rattle.calls.specs.Whole.{Asked, whole}
use Rattle.calls.proofs.WholeLaws.{close_none}
use Rattle.runs.proofs.FinalLaws.{whole_good}
use Rattle.runs.specs.Run.{Call, opens, closes, aborts, resets, Event, Meets, Ran, SoundTables, is_command}
use Rattle.runs.specs.Ledger.{Ledger, ledger_of, starts, command_of, sent_by, clock_of, dones, final_in}
use Rattle.runs.proofs.StepLaws.{Stepped, call_step}
use Rattle.runs.proofs.Sequence.{sequence, run_fits}
use Rattle.runs.specs.History.{KeySet, Says, start_keys, keys_before, key_said, CheckedBy}
use Rattle.runs.proofs.HistoryLaws.{says_start, says_run}

-- ---- the key of a record is the key of its history

pub version_small : (d : List ℕ) → key_version d < 16
unfolding key_version
version_small d = omega arith

found_some : (b : Bool) (x : List ℕ) → b ≡ true → pick b (some x) none ≡ some x
found_some true x e = refl
found_some false x e = let z : ◌≡◌ {A = ℕ} 0 1 = cc in absurd (omega arith)

key_said_lem : (keys : List ℕ) (k : KeySet) → Says k keys → (master change : Bool) (v : ℕ) → v < 16
    → key_found keys master change v ≡ true → key_said k master change v ≡ some (key_used keys master change v)
unfolding key_found key_used key_said
key_said_lem keys k says true true v h e = rw (says.pending, says.next_auth) (found_some _ (next_auth_key keys) e)
key_said_lem keys k says true false v h e = rw says.auth (found_some _ (auth_key_of keys) e)
key_said_lem keys k says false change v h e = says.working v h ∙ found_some (is_valid v keys) (working_key v keys) e

-- ---- a whole command that is GOOD was refused for nothing

pub good_passes : (units : List ℕ) (k : Asked) (d : List ℕ) (clock : ℕ) → is_good (whole units k d clock).answer ≡ true
    → open_reason (seen units k.unit) k.command k.token clock ≡ 0
good_passes units k d clock good = (close_none (seen units k.unit) k.command k.token d clock (whole_good units k d clock good)).0

-- a command that nothing refuses, against the table just before it, with a key set that says what the record of the unit's keys says
passed_checked : (units : List ℕ) (k : Asked) (clock : ℕ) (keys : KeySet) → Says keys (key_set_of units k.unit)
    → open_reason (seen units k.unit) k.command k.token clock ≡ 0 → rules_for (unit_at k.unit units) k.command ≡ true
    → is_open_row (need_for k.command) ≡ false → CheckedBy (unit_at k.unit units) keys k clock
passed_checked units k clock keys says passes rules guarded =
    let s = seen units k.unit in
    let c = k.command in
    record {
      key = key_used s.keys (is_master (need_for c)) (is_change c) (key_version (descriptor_of c));
      valid =
          key_said_lem s.keys keys says (is_master (need_for c)) (is_change c) (key_version (descriptor_of c)) (version_small (descriptor_of c))
          (guarded_key s c k.token clock passes rules guarded);
      checks = guarded_checked s c k.token clock passes rules guarded;
    }

master_guarded : (n : Need) → is_master n ≡ true → is_open_row n ≡ false
master_guarded Unknown e = refl
master_guarded Open e = sym e
master_guarded (Bits p) e = refl
master_guarded (Master p) e = refl

-- ---- a step that answers a command gives it its whole command's answer

good_final : (a : Answer) → is_good a ≡ true → is_final a ≡ true
good_final a e = rw e

-- the command of an open or a close that is answered finally: the step is about exactly one
pub record FinalAnswer (t : Tables) (ledger : Ledger) (k : Call) (a : Answer) : Type 0 where
  pub what : Asked
  pub about : command_of ledger k ≡ some what
  pub as_whole : (whole t.units what (sent_by k) (clock_of k)).answer ≡ a

one_done : (k : Call) (a : Answer) → is_command k ≡ true → is_final a ≡ true → final_in k a ≡ 1
one_done (opens k clock reply) a e f = rw f
one_done (closes s d clock reply) a e f = rw f
one_done (aborts s) a e f = let z : ◌≡◌ {A = ℕ} 0 1 = cc in absurd (omega arith)
one_done resets a e f = let z : ◌≡◌ {A = ℕ} 0 1 = cc in absurd (omega arith)

step_answers : (t : Tables) (ledger : Ledger) (k : Call) (a : Answer) (r : List ℕ) (n : Tables) → Stepped t ledger k a r n
    → is_command k ≡ true
    → is_final a ≡ true → FinalAnswer t ledger k a
step_answers t ledger k a r n s e f = by_command (command_of ledger k) refl
  where
    by_command : (o : Option Asked) → command_of ledger k ≡ o → FinalAnswer t ledger k a
    by_command none q =
        let z : ◌≡◌ {A = ℕ} 0 1 = rw (f, q) at s.counted ∙ one_done k a e f in
        absurd (omega arith)
    by_command (some x) q = record { what = x; about = q; as_whole = (rw (f, q) at s.singly).0 }

-- ---- after any run from sound tables the record of each unit's key set says what the history of that key set says

pub history_said : (t : Tables) (es : List Event) (m : Tables) → SoundTables t → Ran t es m → (u : ℕ)
    → Says (keys_before t es u) (key_set_of m.units u)
history_said t es m sound ran u =
    says_run t.units (dones (starts t.slots) es) t.units m.units sound.units_length (λ v. refl) u (start_keys (key_set_of t.units u))
    (says_start (key_set_of t.units u)) (sequence t es m sound ran).singly

-- ---- and of any open or close that is answered GOOD then

module _ (t : Tables) (es : List Event) (m : Tables) (sound : SoundTables t) (ran : Ran t es m) (k : Call) (a : Answer) (r : List ℕ)
    (n : Tables)
    (meets : Meets m k a r n) where
  abbrev ledger : Ledger
  ledger = ledger_of (starts t.slots) es

  pub final_answers : is_command k ≡ true → is_final a ≡ true → FinalAnswer m (ledger_of (starts t.slots) es) k a
  final_answers e f = step_answers m ledger k a r n (call_step m ledger (run_fits t es m sound ran) k a r n meets) e f

  -- wherever CAPKEY rules, a guarded command that nothing refuses passed every check
  pub ruled_checked : (x : Asked) → open_reason (seen m.units x.unit) x.command x.token (clock_of k) ≡ 0
      → rules_for (unit_at x.unit m.units) x.command ≡ true → is_open_row (need_for x.command) ≡ false
      → CheckedBy (unit_at x.unit m.units) (keys_before t es x.unit) x (clock_of k)
  ruled_checked x passes rules guarded =
      passed_checked m.units x (clock_of k) (keys_before t es x.unit) (history_said t es m sound ran x.unit) passes rules guarded

  -- the command of an open or close that is answered GOOD is refused for nothing
  good_none_refuses : (e : is_command k ≡ true) (good : is_good a ≡ true)
      → (let x = (final_answers e (good_final a good)).what in open_reason (seen m.units x.unit) x.command x.token (clock_of k) ≡ 0)
  good_none_refuses e good =
      let w = final_answers e (good_final a good) in
      good_passes m.units w.what (sent_by k) (clock_of k) (ap is_good w.as_whole ∙ good)

  -- each open or close answered GOOD is about one command, and where it is guarded, on a unit that was CAPKEY just before the step, it
  -- passed every check
  pub good_checked : is_command k ≡ true → is_good a ≡ true
      → (x : Asked) × (command_of (ledger_of (starts t.slots) es) k ≡ some x)
      × (method (unit_at x.unit m.units) ≡ 1 → is_open_row (need_for x.command) ≡ false
      → CheckedBy (unit_at x.unit m.units) (keys_before t es x.unit) x (clock_of k))
  good_checked e good =
      let w = final_answers e (good_final a good) in (
        w.what,
        w.about,
        λ capkey guarded.
            ruled_checked w.what (good_none_refuses e good) (capkey_rules (unit_at w.what.unit m.units) w.what.command capkey) guarded,
      )

  -- and so did each master row, on a unit of either method: under the authentication master key, Change under the next one
  pub master_checked : is_command k ≡ true → is_good a ≡ true
      → (x : Asked) × (command_of (ledger_of (starts t.slots) es) k ≡ some x)
      × (is_master (need_for x.command) ≡ true → CheckedBy (unit_at x.unit m.units) (keys_before t es x.unit) x (clock_of k))
  master_checked e good =
      let w = final_answers e (good_final a good) in (
        w.what,
        w.about,
        λ master.
            ruled_checked w.what (good_none_refuses e good) (master_rules (unit_at w.what.unit m.units) w.what.command master)
            (master_guarded (need_for w.what.command) master),
      )
