-- The twelve bytes, laid one part behind another.
use Rattle.wire.specs.Bytes.{patch, bytes_of}
use Rattle.pages.specs.In.{attributes_page}
use Rattle.pages.proofs.replies.attributes_page.Goals as goal

pub returns : goal.returns
unfolding attributes_page patch bytes_of
returns c =
    simp (
      c.put-4.ensures,
      c.put-3.ensures,
      c.put-2.ensures,
      c.put.ensures,
      c.bytes_of.ensures,
      c.bytes_of-2.ensures,
      c.bytes_of-3.ensures,
      c.method_of.ensures,
      c.tag_of.ensures,
      c.mask_of-mask.ensures,
    )
