-- Demand 3, the sequence: from sound records and slots that only these calls change, every sequence of opens, closes, aborts and resets
-- gives each command the final answer, and leaves the records, of whole commands run singly, each at the step that answered it and with
-- that step's clock.
use Rattle.std.specs.Prelude.{◌≡◌, refl, false, List, [], ◌∷◌, ◌++◌, ℕ, ◌+◌, length}
use Rattle.std.proofs.Common.{sym, ap, ap₂, ◌∙◌, subst, arith, length-append}
use Rattle.std.proofs.Math.Option.{Option, none, some}
use Prim.{Unit, tt}
use Rattle.slots.specs.Slot.{slot_at, slot_state_of}
use Rattle.slots.specs.declared.SlotState.{SlotState}
use Rattle.slots.specs.declared.SlotState.TheVariants.{Free, Open, Unsound}
use Rattle.judge.specs.Judgement.{is_unsound}
use Rattle.calls.specs.Outcome.{Tables}
use Rattle.calls.specs.Whole.{Asked, whole}
use Rattle.runs.proofs.WholeLaws.{whole_length, whole_state}
use Rattle.runs.specs.Run.{Event, Ran, SoundUnits, is_damaged, SoundTables}
use Rattle.runs.specs.Ledger.{Ledger, after, ledger_of, view_by, view, to_view, of_view, starts, Agrees, Done, done_in, dones, Singly, finals, KeepsReply, Fits}
use Rattle.runs.proofs.StepLaws.{call_step}

-- ---- what a run shows

-- each open and close of a run writes no more of its reply than its count says
abbrev pub AllKeep : List Event → Type 0
AllKeep [] = Unit
AllKeep (e ∷ es) = KeepsReply e.call e.answer e.reply × AllKeep es

pub record Sequence (t : Tables) (es : List Event) (n : Tables) : Type 0 where
  -- the answers, the written reply bytes and the unit table are those of the whole commands run singly, in the order of the steps that
  -- answered them, each with that step's clock, and the unit, command and token that the ledger has
  pub singly : Singly t.units (dones (starts t.slots) es) n.units
  -- each A0, A2 or A3 to an open or close is exactly one command, and none is dropped
  pub none_dropped : length (dones (starts t.slots) es) ≡ finals es
  -- the slots agree with the ledger that the history gives
  pub agrees : Agrees n.slots (ledger_of (starts t.slots) es)
  -- records and slots stay sound
  pub sound : SoundTables n
  pub replies_kept : AllKeep es

-- ---- laws

sound_agrees : (s : SlotState) (rec : List ℕ) → is_damaged s ≡ false → view_by s rec ≡ to_view (of_view (view_by s rec))
sound_agrees Free rec e = refl
sound_agrees Open rec e = refl
sound_agrees Unsound rec e = let z : ◌≡◌ {A = ℕ} 0 1 = cc in absurd (omega arith)

start_fits : (t : Tables) → SoundTables t → Fits t (starts t.slots)
unfolding view
start_fits t s =
    record {
      units_length = s.units_length;
      slots_length = s.slots_length;
      agrees = λ i h. sound_agrees (slot_state_of (slot_at i t.slots)) (slot_at i t.slots) (s.slots_sound i h);
    }

view_sound : (s : SlotState) (rec : List ℕ) (o : Option Asked) → view_by s rec ≡ to_view o → is_damaged s ≡ false
view_sound Free rec o e = refl
view_sound Open rec o e = refl
view_sound Unsound rec none e = let z : ◌≡◌ {A = ℕ} 0 1 = cc in absurd (omega arith)
view_sound Unsound rec (some k) e = let z : ◌≡◌ {A = ℕ} 0 1 = cc in absurd (omega arith)

singly_append : (us ms ns : List ℕ) (xs ys : List Done) → Singly us xs ms → Singly ms ys ns → Singly us (xs ++ ys) ns
singly_append us ms ns [] ys p q = subst (λ (x : List ℕ). Singly x ys ns) (sym p) q
singly_append us ms ns (x ∷ xs) ys p q =
    (p.0, p.1, singly_append (whole us x.what x.sent x.clock).units ms ns xs ys p.2 q)

-- whole commands leave sound records
singly_sound : (xs : List Done) (us ns : List ℕ) → length us ≡ 4096 → SoundUnits us → Singly us xs ns → SoundUnits ns
singly_sound [] us ns full sound p = subst SoundUnits p sound
singly_sound (x ∷ xs) us ns full sound p =
    singly_sound xs (whole us x.what x.sent x.clock).units ns (whole_length us x.what x.sent x.clock full)
    (λ u h. ap is_unsound (whole_state us x.what x.sent x.clock full u) ∙ sound u h) p.2

-- ---- a run, from any tables that fit a ledger

record Runs (t : Tables) (ledger : Ledger) (es : List Event) (n : Tables) : Type 0 where
  pub fits : Fits n (ledger_of ledger es)
  pub singly : Singly t.units (dones ledger es) n.units
  pub counted : length (dones ledger es) ≡ finals es
  pub keeps : AllKeep es

runs : (es : List Event) (t : Tables) (ledger : Ledger) (n : Tables) → Fits t ledger → Ran t es n → Runs t ledger es n
runs [] t ledger n fit ran =
    record { fits = subst (λ (x : Tables). Fits x ledger) ran fit; singly = ap (λ (x : Tables). x.units) ran; counted = refl; keeps = tt }
runs (e ∷ es) t ledger n fit (m, meets, ran) =
    let s = call_step t ledger fit e.call e.answer e.reply m meets in
    let r = runs es m (after ledger e.call e.answer) n s.fits ran in
    let here = done_in ledger e.call e.answer e.reply in
    let rest = dones (after ledger e.call e.answer) es in
    record {
      fits = r.fits;
      singly = singly_append t.units m.units n.units here rest s.singly r.singly;
      counted = length-append here rest ∙ ap₂ (λ (x y : ℕ). x + y) s.counted r.counted;
      keeps = (s.reply_kept, r.keeps);
    }

-- ---- demand 3: every run from sound tables

pub run_fits : (t : Tables) (es : List Event) (n : Tables) → SoundTables t → Ran t es n → Fits n (ledger_of (starts t.slots) es)
run_fits t es n sound ran = (runs es t (starts t.slots) n (start_fits t sound) ran).fits

pub sequence : (t : Tables) (es : List Event) (n : Tables) → SoundTables t → Ran t es n → Sequence t es n
unfolding view
sequence t es n sound ran =
    let r = runs es t (starts t.slots) n (start_fits t sound) ran in
    let f = r.fits in
    record {
      singly = r.singly;
      none_dropped = r.counted;
      agrees = f.agrees;
      sound =
          record {
            units_length = f.units_length;
            slots_length = f.slots_length;
            units_sound =
                singly_sound (dones (starts t.slots) es) t.units n.units sound.units_length sound.units_sound r.singly;
            slots_sound =
                λ i h. view_sound (slot_state_of (slot_at i n.slots)) (slot_at i n.slots) (ledger_of (starts t.slots) es i) (f.agrees i h);
          };
      replies_kept = r.keeps;
    }

-- and so after every step of it: the tables that the first part of a run leaves are those of a run
pub after_each_step : (t : Tables) (es fs : List Event) (n : Tables) → SoundTables t → Ran t (es ++ fs) n
    → (m : Tables) × Sequence t es m × Ran m fs n
after_each_step t es fs n sound ran = let p = split es t ran in (p.0, sequence t es p.0 sound p.1, p.2)
  where
    split : (xs : List Event) (s : Tables) → Ran s (xs ++ fs) n → (m : Tables) × Ran s xs m × Ran m fs n
    split [] s r = (s, refl, r)
    split (x ∷ xs) s (k, meets, r) = let p = split xs k r in (p.0, (k, meets, p.1), p.2)
