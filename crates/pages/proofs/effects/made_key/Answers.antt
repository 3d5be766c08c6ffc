-- The generation master key, read, and the HMAC under it.
use Rattle.pages.proofs.effects.made_key.Goals as goal

pub returns : goal.returns
returns c = simp (c.hmac_of.ensures, c.gen_key_of-generation.ensures)
