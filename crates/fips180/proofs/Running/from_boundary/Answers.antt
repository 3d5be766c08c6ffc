-- Whole blocks are taken from where they lie, and the rest is copied to the buffer's start.
use Rattle.std.proofs.Common.{◌∙◌, ◌*◌, ◌/◌, refl, sym, rules, length}
use Rattle.wire.proofs.PatchLaws.{patch_paste}
use Rattle.md.proofs.FeedLaws.{part_end}
use Rattle.fips180.proofs.RunningLaws.{continued}
use Rattle.fips180.proofs.Running.from_boundary.Goals as goal

pub returns : goal.returns
returns c =
    let s = c.args.self.now in
    let p = c.args.part.now in
    continued s.state p s.buffer _ s.total _ (search rules) (part_end p (length p / 64 * 64)) c.whole_blocks-self.ensures
    (c.put.ensures ∙ sym (patch_paste s.buffer 0 _ _ refl)) refl
