-- Both digits say a value below 16; what is put so far are the bytes of the pairs so far.
use Rattle.std.proofs.Common.{ℕ, ◌≡◌, ◌+◌, ◌*◌, ◌/◌, ◌∙◌, List, [], ◌∷◌, ◌++◌, length, ap, ap₂, arith, rules, length-append}
use Rattle.text.specs.Hex.{bytes_in}
use Rattle.text.proofs.HexLaws.{digit_below, bytes_start, bytes_more, bytes_length}
use Rattle.text.proofs.hex.push_pairs.Goals as goal

pub loop-i-init : goal.loop-i-init
loop-i-init g c = bytes_start c.args.out.now.items c.args.s.now

pub overflow_mul-value : goal.overflow_mul-value
overflow_mul-value g c =
    let s = c.args.s.now in
    let d = digit_below 16 (length s) s (2 * c.loop-i.i) c.requires.digits (omega arith) in
    omega (arith, d, c.value.ensures)

pub overflow_add-value : goal.overflow_add-value
overflow_add-value g c =
    let s = c.args.s.now in
    let d = digit_below 16 (length s) s (2 * c.loop-i.i) c.requires.digits (omega arith) in
    let f = digit_below 16 (length s) s (2 * c.loop-i.i + 1) c.requires.digits (omega arith) in
    omega (arith, d, f, c.value.ensures, c.value-in-loop-i.ensures)

pub push-requires : goal.push-requires
push-requires g c =
    let l = c.loop-i in
    let long = ap length l.invariant ∙ length-append c.args.out.now.items (bytes_in l.i c.args.s.now) in
    (search rules, omega (arith, long, bytes_length l.i c.args.s.now, c.requires.room))

pub loop-i-preserved : goal.loop-i-preserved
loop-i-preserved g c =
    let l = c.loop-i in
    let byte = ap₂ (λ (x y : ℕ). x * 16 + y) c.value.ensures c.value-in-loop-i.ensures in
    c.push.ensures.items ∙ ap₂ (λ (t : List ℕ) (x : ℕ). t ++ x ∷ []) l.invariant byte ∙ bytes_more c.args.out.now.items l.i c.args.s.now

pub returns : goal.returns
returns g c =
    let s = c.args.s.now in
    let e : c.loop-i.i ≡ length s / 2 = omega arith in
    c.loop-i.invariant ∙ ap (λ (k : ℕ). c.args.out.now.items ++ bytes_in k s) e
