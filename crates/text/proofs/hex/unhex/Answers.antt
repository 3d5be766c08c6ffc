-- A dash, pairs of digits, or no hex.
use Rattle.std.proofs.Common.{ℕ, ◌/◌, ◌∙◌, List, ◌++◌, true, false, is_ok, length, sym, ap, refl, arith, rules, append-nil, Bool}
use Rattle.std.proofs.lemmas.Bool.{false≢true}
use Rattle.std.specs.Prelude.{Result, Ok, Err}
use Rattle.text.specs.declared.hex.HexError.{HexError}
use Rattle.text.specs.declared.hex.HexError.TheVariants.{NotHex, NoRoom}
use Rattle.text.proofs.HexLaws.{dash_hex, pairs_hex, no_hex, pairs_digits, bytes_length}
use Rattle.text.proofs.hex.unhex.Goals as goal

-- the refusal of what is no hex is another than that of what is too long
abbrev no_room : {A : Type 0} → Result A HexError → Bool
no_room (Ok x) = false
no_room (Err NotHex) = false
no_room (Err NoRoom) = true

pub returns-then-is_dash-clause-not_hex : goal.returns-then-is_dash-clause-not_hex
returns-then-is_dash-clause-not_hex g c =
    let h = dash_hex c.args.s.now (sym c.is_dash.ensures ∙ c.if-is_dash.true) in
    (λ e. absurd (false≢true (sym (ap is_ok e))), λ f. absurd (false≢true (sym f ∙ h.0)))

pub returns-then-is_dash-clause-room : goal.returns-then-is_dash-clause-room
returns-then-is_dash-clause-room g c =
    let h = dash_hex c.args.s.now (sym c.is_dash.ensures ∙ c.if-is_dash.true) in
    let long = ap length h.1 in
    (λ e. (h.0, omega (arith, long, c.remaining_capacity-room.ensures)), λ p. refl)

pub returns-then-is_dash-clause-ok : goal.returns-then-is_dash-clause-ok
returns-then-is_dash-clause-ok g c =
    let h = dash_hex c.args.s.now (sym c.is_dash.ensures ∙ c.if-is_dash.true) in
    sym (ap (λ (t : List ℕ). c.args.out.now.items ++ t) h.1 ∙ append-nil c.args.out.now.items)

pub returns-then-not-are_pairs-clause-not_hex : goal.returns-then-not-are_pairs-clause-not_hex
returns-then-not-are_pairs-clause-not_hex g c =
    let h = no_hex c.args.s.now (sym c.is_dash.ensures ∙ c.if-is_dash.false) (sym c.are_pairs.ensures ∙ c.if-not-are_pairs.true) in
    (λ e. h, λ f. refl)

pub returns-then-not-are_pairs-clause-room : goal.returns-then-not-are_pairs-clause-room
returns-then-not-are_pairs-clause-room g c =
    let h = no_hex c.args.s.now (sym c.is_dash.ensures ∙ c.if-is_dash.false) (sym c.are_pairs.ensures ∙ c.if-not-are_pairs.true) in
    (λ e. absurd (false≢true e), λ p. absurd (false≢true (sym h ∙ p.0)))

pub returns-then-room-s-clause-not_hex : goal.returns-then-room-s-clause-not_hex
returns-then-room-s-clause-not_hex g c =
    let h = pairs_hex c.args.s.now (sym c.is_dash.ensures ∙ c.if-is_dash.false) (sym c.are_pairs.ensures ∙ c.if-not-are_pairs.false) in
    (λ e. absurd (false≢true (sym (ap no_room e))), λ f. absurd (false≢true (sym f ∙ h.0)))

pub returns-then-room-s-clause-room : goal.returns-then-room-s-clause-room
returns-then-room-s-clause-room g c =
    let s = c.args.s.now in
    let h = pairs_hex s (sym c.is_dash.ensures ∙ c.if-is_dash.false) (sym c.are_pairs.ensures ∙ c.if-not-are_pairs.false) in
    let long = ap length h.1 ∙ bytes_length (length s / 2) s in
    (λ e. absurd (false≢true e), λ p. absurd (omega (arith, long, p.1, c.remaining_capacity-room.ensures)))

pub push_pairs-requires : goal.push_pairs-requires
push_pairs-requires g c =
    (search rules, (pairs_digits c.args.s.now (sym c.are_pairs.ensures ∙ c.if-not-are_pairs.false), omega (arith, c.remaining_capacity-room.ensures)))

pub returns-clause-not_hex : goal.returns-clause-not_hex
returns-clause-not_hex g c =
    let h = pairs_hex c.args.s.now (sym c.is_dash.ensures ∙ c.if-is_dash.false) (sym c.are_pairs.ensures ∙ c.if-not-are_pairs.false) in
    (λ e. absurd (false≢true (sym (ap is_ok e))), λ f. absurd (false≢true (sym f ∙ h.0)))

pub returns-clause-room : goal.returns-clause-room
returns-clause-room g c =
    let s = c.args.s.now in
    let h = pairs_hex s (sym c.is_dash.ensures ∙ c.if-is_dash.false) (sym c.are_pairs.ensures ∙ c.if-not-are_pairs.false) in
    let long = ap length h.1 ∙ bytes_length (length s / 2) s in
    (λ e. (h.0, omega (arith, long, c.remaining_capacity-room.ensures)), λ p. refl)

pub returns-clause-ok : goal.returns-clause-ok
returns-clause-ok g c =
    let h = pairs_hex c.args.s.now (sym c.is_dash.ensures ∙ c.if-is_dash.false) (sym c.are_pairs.ensures ∙ c.if-not-are_pairs.false) in
    c.push_pairs.ensures ∙ ap (λ (t : List ℕ). c.args.out.now.items ++ t) (sym h.1)
