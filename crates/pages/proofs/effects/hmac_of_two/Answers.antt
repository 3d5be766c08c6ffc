-- Started, fed twice and finished.
use mathlib.Core.List.{[]}
use Rattle.pages.proofs.effects.hmac_of_two.Goals as goal

pub returns : goal.returns
returns c =
    c.finish.ensures _ _ (c.feed-2.ensures _ _ (c.feed.ensures _ [] c.new-mac.ensures))
