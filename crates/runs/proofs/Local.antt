-- A whole command is local, then stored: its answer, the bytes that it writes and the record that it makes anew are a function of what it
-- sees of the unit table, and storing is one patch of the table, which changes no byte of a record but the unit's or its keeper's
-- (WholeLaws: `whole_others`).
use Rattle.std.specs.Prelude.{◌≡◌, refl, ◌⊎◌, Bool, true, false, List, ℕ, ◌*◌, eqb, length}
use Rattle.std.proofs.Common.{sym, inl, inr, eqb-true}
use Rattle.std.proofs.Math.Path.{ap}
use Rattle.std.proofs.lemmas.Bool.{eqb-false}
use Rattle.wire.specs.Bytes.{patch}
use Rattle.units.specs.Unit.{unit_at, keeper_field, unit_state, keeper_of, key_set_of}
use Rattle.units.proofs.UnitLaws.{same_keeper, same_keeps}
use Rattle.judge.specs.Command.{page_of}
use Rattle.judge.specs.Seen.{Seen, seen}
use Rattle.calls.specs.Whole.{Asked, close_reason, Local, made_by, judged, laid, Whole, whole_reason, whole}
use Rattle.runs.proofs.WholeLaws.{whole_cases, Obeys, obeys, written}

-- ---- local

module _ (us vs : List ℕ) (k : Asked) (d : List ℕ) (clock : ℕ) (same : seen us k.unit ≡ seen vs k.unit) where
  -- answer, written bytes and made record together
  pub local_judged : judged (seen us k.unit) k.command d (whole_reason us k d clock)
      ≡ judged (seen vs k.unit) k.command d (whole_reason vs k d clock)
  local_judged = ap (λ (s : Seen). judged s k.command d (close_reason s k.command k.token d clock)) same

  pub local_answer : (whole us k d clock).answer ≡ (whole vs k d clock).answer
  unfolding whole
  local_answer = ap (λ (x : Local). x.answer) local_judged

  pub local_written : (whole us k d clock).written ≡ (whole vs k d clock).written
  unfolding whole
  local_written = ap (λ (x : Local). x.written) local_judged

-- a command sees no more than its unit's record and its keeper's
pub own_seen : (us vs : List ℕ) (u : ℕ) → unit_at u us ≡ unit_at u vs → unit_at (keeper_of us u) us ≡ unit_at (keeper_of us u) vs
    → seen us u ≡ seen vs u
unfolding unit_state key_set_of
own_seen us vs u own keeper =
    let k : keeper_of us u ≡ keeper_of vs u = same_keeper us vs u (ap keeper_field own) in
    rw (← k, same_keeps us vs (keeper_of us u) keeper, own, keeper)

-- ---- stored

-- one record of 512 bytes, put in the place of the unit or of its keeper
pub record StoredAt (us : List ℕ) (u : ℕ) (new : List ℕ) : Type 0 where
  pub place : ℕ
  pub bytes : List ℕ
  pub near : (place ≡ u) ⊎ (place ≡ keeper_of us u)
  pub long : length bytes ≡ 512
  pub put : new ≡ patch us (place * 512) bytes

stored_at : (us : List ℕ) (u page : ℕ) (d : List ℕ) (o : Obeys us u page d) → StoredAt us u (laid us u (made_by (seen us u) page d))
stored_at us u page d o =
    let w = written us u page d o in
    let near = by_place (eqb w.place u) (eqb w.place (keeper_of us u)) refl refl in
    record { place = w.place; bytes = w.bytes; near = near; long = w.long; put = w.put }
  where
    place : ℕ
    place = (written us u page d o).place

    by_place : (b c : Bool) → eqb place u ≡ b → eqb place (keeper_of us u) ≡ c → (place ≡ u) ⊎ (place ≡ keeper_of us u)
    by_place true c e f = inl (eqb-true place u e)
    by_place false true e f = inr (eqb-true place (keeper_of us u) f)
    by_place false false e f =
        absurd ((written us u page d o).near place (λ q. eqb-false place u e (sym q)) (λ q. eqb-false place (keeper_of us u) f (sym q)) refl)

pub stored_once : (us : List ℕ) (k : Asked) (d : List ℕ) (clock : ℕ) → length us ≡ 4096
    → ((whole us k d clock).units ≡ us) ⊎ StoredAt us k.unit (whole us k d clock).units
stored_once us k d clock full =
    whole_cases us k d clock (λ (w : Whole). (w.units ≡ us) ⊎ StoredAt us k.unit w.units) (λ n. inl refl)
    (λ z t. inr (stored_at us k.unit (page_of k.command) d (obeys us k d clock full z t))) (λ z f r. inl refl) (λ z f r. inl refl)

-- ---- so a command reads no record but its unit's and its keeper's: where those two are the same, so are its keeper, its answer, the bytes
-- that it writes and the record that it makes anew

pub reads_two : (us vs : List ℕ) (k : Asked) (d : List ℕ) (clock : ℕ) → unit_at k.unit us ≡ unit_at k.unit vs
    → unit_at (keeper_of us k.unit) us ≡ unit_at (keeper_of us k.unit) vs
    → (keeper_of us k.unit ≡ keeper_of vs k.unit)
    × (judged (seen us k.unit) k.command d (whole_reason us k d clock)
    ≡ judged (seen vs k.unit) k.command d (whole_reason vs k d clock))
reads_two us vs k d clock own keeper =
    (same_keeper us vs k.unit (ap keeper_field own), local_judged us vs k d clock (own_seen us vs k.unit own keeper))
