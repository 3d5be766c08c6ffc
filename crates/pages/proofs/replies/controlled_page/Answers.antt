-- The head, and the rows behind it, are as long as the page.
use Rattle.std.proofs.Common.{refl, replicate}
use Rattle.pages.proofs.InLaws.{controlled_laid}
use Rattle.pages.proofs.replies.controlled_page.Goals as goal

pub returns : goal.returns
returns c = controlled_laid (replicate 190 0) _ _ _ refl c.controlled_rows.ensures c.put.ensures c.put-2.ensures
