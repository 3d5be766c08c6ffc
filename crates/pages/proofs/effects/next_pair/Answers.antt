-- Two HMACs under one key; the bit that differs is the identifier's, and so the last byte's of S.
use Rattle.pages.specs.Effects.{next_gen}
use Rattle.pages.proofs.StepLaws.{next_auth_lem}
use Rattle.pages.proofs.effects.next_pair.Goals as goal

pub returns : goal.returns
unfolding next_gen
returns c =
    let key = c.gen_key_of-key.ensures in
    let auth = next_auth_lem c.args.value.now c.args.keys.now c.told-keys in (
      simp (c.hmac_of_two-auth.ensures, key, c.flipped_identifier-flipped.ensures, auth),
      simp (c.hmac_of_two-generation.ensures, key, c.identifier_of.ensures),
    )
