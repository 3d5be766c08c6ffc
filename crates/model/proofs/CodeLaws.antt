-- Laws of command lengths and of the data-out codes.
use Rattle.std.specs.Prelude.{ℕ, ◌+◌, ◌≤◌, ◌<◌, ◌≡◌, refl, Bool, true, false, eqb, leb}
use Rattle.std.proofs.Common.{arith, lit≤, eqb-true, le-leb}
use Rattle.std.proofs.lemmas.Bool.{lt-leb}
use Rattle.choice.specs.Choice.{both, either, pick}
use Rattle.choice.specs.ChoiceLaws.{pick_holds}
use Rattle.model.proofs.AmongLaws.{all_at}
use Rattle.model.specs.Rows.{rows, listed}
use Rattle.model.specs.Codes.{within, cdb_len, legal_len, data_out_codes, data_out}

pub in_range : (first last n : ℕ) → first ≤ n → n ≤ last → within first last n ≡ true
in_range first last n h k = rw (le-leb first n h, le-leb n last k)

pub below_range : (first last n : ℕ) → n < first → within first last n ≡ false
below_range first last n h = rw (lt-leb first n h)

pub above_range : (first last n : ℕ) → last < n → within first last n ≡ false
above_range first last n h = off (leb first n) (leb n last) (lt-leb n last h)
  where
    off : (a b : Bool) → b ≡ false → both a b ≡ false
    off true b e = e
    off false b e = refl

cdb_holds : (P : ℕ → Type 0) → P 6 → P 10 → P 16 → P 12 → P 0 → (code : ℕ) → P (cdb_len code)
unfolding cdb_len
cdb_holds P p6 p10 p16 p12 p0 code =
    pick_holds P (within 0x00 0x1F code) _ _ p6
    (pick_holds P (within 0x20 0x5F code) _ _ p10
    (pick_holds P (within 0x80 0x9F code) _ _ p16
    (pick_holds P (within 0xA0 0xBF code) _ _ p12 p0)))

pub cdb_small : (code : ℕ) → cdb_len code ≤ 16
cdb_small = cdb_holds (λ (n : ℕ). n ≤ 16) (lit≤ tt) (lit≤ tt) (lit≤ tt) (lit≤ tt) (lit≤ tt)

pub cdb_some : (code : ℕ) → eqb (cdb_len code) 0 ≡ false → 6 ≤ cdb_len code
cdb_some =
    cdb_holds (λ (n : ℕ). eqb n 0 ≡ false → 6 ≤ n)
    (λ e. lit≤ tt) (λ e. lit≤ tt) (λ e. lit≤ tt) (λ e. lit≤ tt)
    (λ e. let z : ◌≡◌ {A = ℕ} 0 1 = cc in omega arith)

-- a legal length is that of the CDB, or 78 more, of a code that has one
pub record Legal (code n : ℕ) : Type 0 where
  pub some : 6 ≤ cdb_len code
  pub small : cdb_len code ≤ 16
  pub least : cdb_len code ≤ n
  pub most : n ≤ cdb_len code + 78

pub legal_is : (code n : ℕ) → legal_len code n ≡ true → Legal code n
unfolding legal_len
legal_is code n h = has (eqb (cdb_len code) 0) refl h
  where
    sized :
        (a b : Bool) → eqb n (cdb_len code) ≡ a → eqb n (cdb_len code + 78) ≡ b → either a b ≡ true →
        (cdb_len code ≤ n) × (n ≤ cdb_len code + 78)
    sized true b ea eb k = let e = eqb-true n (cdb_len code) ea in (omega arith, omega arith)
    sized false true ea eb k = let e = eqb-true n (cdb_len code + 78) eb in (omega arith, omega arith)
    sized false false ea eb k = let z : ◌≡◌ {A = ℕ} 0 1 = cc in (omega arith, omega arith)

    has :
        (a : Bool) → eqb (cdb_len code) 0 ≡ a →
        pick a false (either (eqb n (cdb_len code)) (eqb n (cdb_len code + 78))) ≡ true → Legal code n
    has true e k = let z : ◌≡◌ {A = ℕ} 0 1 = cc in absurd (omega arith)
    has false e k =
        let w = sized (eqb n (cdb_len code)) (eqb n (cdb_len code + 78)) refl refl k in
        record { some = cdb_some code e; small = cdb_small code; least = w.0; most = w.1 }

pub legal_small : (code n : ℕ) → legal_len code n ≡ true → n ≤ 94
legal_small code n h = let l = legal_is code n h in omega arith

pub legal_some : (code n : ℕ) → legal_len code n ≡ true → 6 ≤ n
legal_some code n h = let l = legal_is code n h in omega arith

pub data_out_listed : (code : ℕ) → data_out code ≡ true → listed code ≡ true
unfolding data_out listed rows
data_out_listed code h = all_at listed data_out_codes refl code h
