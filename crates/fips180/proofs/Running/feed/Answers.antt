-- Three ways: from a block's end, into the buffer's room, and both where the part fills the buffer first.
use Rattle.std.proofs.Common.{◌∙◌, ◌+◌, ◌-◌, ◌^◌, ◌%◌, ℕ, List, refl, sym, subst, rules, arith, length, take}
use Rattle.wire.proofs.PatchLaws.{patch_paste}
use Rattle.md.proofs.FeedLaws.{part_end}
use Rattle.fips180.specs.Running.{Continued}
use Rattle.fips180.proofs.RunningLaws.{take_aligned, take_short, take_long}
use Rattle.fips180.proofs.Running.feed.Goals as goal

pub returns-then-fill-eq0 : goal.returns-then-fill-eq0
returns-then-fill-eq0 c =
    take_aligned c.args.self.now c.from_boundary.new.self c.args.part.now _ refl c.if-fill-eq0.true c.from_boundary.ensures

pub returns-then-part-room : goal.returns-then-part-room
returns-then-part-room c =
    let s = c.args.self.now in
    take_short s (record { buffer = c.put.new.d; total = (s.total + length c.args.part.now) % 2 ^ 64; state = s.state }) c.args.part.now _ refl
    (search rules) (omega arith) refl (c.put.ensures ∙ sym (patch_paste s.buffer (s.total % 64) c.args.part.now _ refl)) refl

pub returns : goal.returns
returns c =
    let s = c.args.self.now in
    let p = c.args.part.now in
    let fill : ℕ = s.total % 64 in
    let room : ℕ = 64 - fill in
    let n : ℕ = (s.total + length p) % 2 ^ 64 in
    take_long s c.from_boundary-2.new.self p n refl fill room c.put-2.new.d c.whole_blocks-self.result (search rules) (search rules)
    refl refl (omega arith) (c.put-2.ensures ∙ sym (patch_paste s.buffer fill (take room p) _ refl)) c.whole_blocks-self.ensures
    (subst (λ (q : List ℕ). Continued c.whole_blocks-self.result q n c.from_boundary-2.new.self) (part_end p room) c.from_boundary-2.ensures)
