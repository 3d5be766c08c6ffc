-- Each arm cuts its own page; a page of no arm has no byte.
use Rattle.std.proofs.lemmas.Grind.{common_steps}
use Rattle.std.proofs.Common.{arith}
use Rattle.wire.specs.Bytes.{bytes_of}
use Rattle.wire.proofs.PatchLaws.{patch_none}
use Rattle.pages.specs.In.{supported_in, supported_out, capabilities, in_page, reply_of}
use Rattle.pages.proofs.replies.reply.Goals as goal

pub returns-in-0 : goal.returns-in-0
unfolding reply_of in_page supported_in bytes_of
returns-in-0 c = rw c.in-0.is c.cut_into.ensures

pub returns-in-1 : goal.returns-in-1
unfolding reply_of in_page supported_out bytes_of
returns-in-1 c = rw c.in-1.is c.cut_into-in-1.ensures

pub returns-in-16 : goal.returns-in-16
unfolding reply_of in_page capabilities
returns-in-16 c = rw c.in-16.is c.cut_into-in-16.ensures

pub returns-in-17 : goal.returns-in-17
unfolding reply_of in_page
returns-in-17 c = rw (c.in-17.is, ← c.attributes_page.ensures) c.cut_into-in-17.ensures

pub returns-in-19 : goal.returns-in-19
unfolding reply_of in_page
returns-in-19 c = rw (c.in-19.is, ← c.controlled_page.ensures) c.cut_into-in-19.ensures

pub returns-in_default : goal.returns-in_default
unfolding reply_of in_page
returns-in_default c = grind (arith, common_steps, patch_none)
