-- Each command that a run from sound tables does has a token of 16 to 64 bytes (document 01, H2).
use Rattle.std.specs.Prelude.{◌≡◌, refl, Bool, true, false, List, [], ◌∷◌, ◌++◌, ℕ, length, take}
use Rattle.std.proofs.Math.Option.{Option, none, some}
use Prim.{Unit, tt}
use Rattle.choice.specs.Choice.{pick}
use Rattle.model.specs.Answers.{is_final, count_in}
use Rattle.model.specs.declared.Answer.{Answer}
use Rattle.slots.specs.Slot.{slot_at, right_token}
use Rattle.slots.proofs.TableLaws.{slot_length}
use Rattle.calls.specs.Outcome.{Tables, lent}
use Rattle.calls.specs.Whole.{Asked}
use Rattle.calls.specs.Close.{held_by}
use Rattle.calls.proofs.CloseLaws.{holds_open}
use Rattle.runs.specs.Run.{Call, opens, closes, aborts, resets, Event, Meets, Ran, SoundTables}
use Rattle.runs.specs.Ledger.{Ledger, after, starts, Done, command_of, sent_by, clock_of, done_by, done_in, dones, Fits}
use Rattle.runs.proofs.StepLaws.{ledger_holds, held_token, call_step}
use Rattle.runs.proofs.Sequence.{run_fits}
use Rattle.runs.proofs.FinalLaws.{open_final, close_final}

abbrev pub AllTokens : List Done → Type 0
AllTokens [] = Unit
AllTokens (x ∷ xs) = (right_token (length x.what.token) ≡ true) × AllTokens xs

tokens_append : (xs ys : List Done) → AllTokens xs → AllTokens ys → AllTokens (xs ++ ys)
tokens_append [] ys p q = q
tokens_append (x ∷ xs) ys p q = (p.0, tokens_append xs ys p.1 q)

-- ---- one call

module _ (t : Tables) (ledger : Ledger) (fit : Fits t ledger) (a : Answer) (r : List ℕ) (n : Tables) where
  -- the command that a final answer is about
  command_token : (k : Call) → Meets t k a r n → is_final a ≡ true → (x : Asked) → command_of ledger k ≡ some x
      → right_token (length x.token) ≡ true
  command_token (opens k clock reply) m f x e =
      let same : k ≡ x = cc in
      rw same at (open_final a (lent n r) f (lent t reply) k clock m).sized
  command_token (closes s d clock reply) m f x e =
      let c = close_final a (lent n r) f (lent t reply) s d clock m in
      let o = holds_open t.slots s c.held in
      let here = ledger_holds t.slots ledger fit.agrees s c.held in
      let same : x ≡ held_by (slot_at s t.slots) = cc in
      rw same (held_token (slot_at s t.slots) (slot_length s t.slots fit.slots_length o.0) o.1)
  command_token (aborts s) m f x e = cc
  command_token resets m f x e = cc

  step_tokens : (k : Call) → Meets t k a r n → AllTokens (done_in ledger k a r)
  step_tokens k m = by_final (is_final a) (command_of ledger k) (command_token k m)
    where
      by_final : (b : Bool) (o : Option Asked) → (b ≡ true → (x : Asked) → o ≡ some x → right_token (length x.token) ≡ true)
          → AllTokens (pick b (done_by o (sent_by k) (clock_of k) a (take (count_in a) r)) [])
      by_final true none h = tt
      by_final true (some x) h = (h refl x refl, tt)
      by_final false o h = tt

-- ---- any run

run_tokens : (es : List Event) (t : Tables) (ledger : Ledger) (n : Tables) → Fits t ledger → Ran t es n → AllTokens (dones ledger es)
run_tokens [] t ledger n fit ran = tt
run_tokens (e ∷ es) t ledger n fit (m, meets, ran) =
    tokens_append (done_in ledger e.call e.answer e.reply) (dones (after ledger e.call e.answer) es)
    (step_tokens t ledger fit e.answer e.reply m e.call meets)
    (run_tokens es m (after ledger e.call e.answer) n (call_step t ledger fit e.call e.answer e.reply m meets).fits ran)

pub tokens_right : (t : Tables) (es : List Event) (n : Tables) → SoundTables t → Ran t es n → AllTokens (dones (starts t.slots) es)
tokens_right t es n sound ran = run_tokens es t (starts t.slots) n (run_fits t [] t sound refl) ran
