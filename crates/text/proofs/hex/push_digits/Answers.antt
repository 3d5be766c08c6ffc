-- Both digits are ASCII, so each takes a byte.
use Rattle.std.proofs.Common.{ℕ, ◌≡◌, ◌<◌, ◌∙◌, List, [], ◌∷◌, ◌++◌, ap₂, get_or, length, ap, arith, rules, length-append}
use Rattle.std.proofs.lemmas.Str.{length-encode, len_utf8_ascii}
use lib.Utf8.{encode}
use Rattle.text.specs.Hex.{two_digits}
use Rattle.text.proofs.HexLaws.{high_ascii, low_ascii, two_behind}
use Rattle.text.proofs.hex.push_digits.Goals as goal

encoded : (c : ℕ) → c < 128 → length (encode c) ≡ 1
encoded c h = length-encode c ∙ len_utf8_ascii c h

pub push-requires : goal.push-requires
push-requires g c =
    let e : c.from.result ≡ get_or (two_digits 0x61 c.args.b) 0 0 = c.from.ensures ∙ ap (λ (l : List ℕ). get_or l 0 0) c.two_digits.ensures in
    let a : c.from.result < 128 = rw e (high_ascii c.args.b (omega arith)) in
    (search rules, omega (arith, encoded c.from.result a, c.requires))

pub push-requires-2 : goal.push-requires-2
push-requires-2 g c =
    let e : c.from.result ≡ get_or (two_digits 0x61 c.args.b) 0 0 = c.from.ensures ∙ ap (λ (l : List ℕ). get_or l 0 0) c.two_digits.ensures in
    let a : c.from.result < 128 = rw e (high_ascii c.args.b (omega arith)) in
    let f : c.from-2.result ≡ get_or (two_digits 0x61 c.args.b) 1 0 = c.from-2.ensures ∙ ap (λ (l : List ℕ). get_or l 1 0) c.two_digits.ensures in
    let b : c.from-2.result < 128 = rw f (low_ascii c.args.b) in
    let long = ap length (c.push.ensures.ascii a) ∙ length-append c.args.out.now.bytes _ in
    (search rules, omega (arith, encoded c.from-2.result b, long, c.requires))

pub returns : goal.returns
returns g c =
    let e : c.from.result ≡ get_or (two_digits 0x61 c.args.b) 0 0 = c.from.ensures ∙ ap (λ (l : List ℕ). get_or l 0 0) c.two_digits.ensures in
    let a : c.from.result < 128 = rw e (high_ascii c.args.b (omega arith)) in
    let f : c.from-2.result ≡ get_or (two_digits 0x61 c.args.b) 1 0 = c.from-2.ensures ∙ ap (λ (l : List ℕ). get_or l 1 0) c.two_digits.ensures in
    let b : c.from-2.result < 128 = rw f (low_ascii c.args.b) in
    c.push-2.ensures.ascii b ∙ ap₂ (λ (l : List ℕ) (x : ℕ). l ++ x ∷ []) (c.push.ensures.ascii a ∙ ap (λ (x : ℕ). c.args.out.now.bytes ++ x ∷ []) e) f
    ∙ two_behind c.args.out.now.bytes c.args.b
