-- Laws of packing: a call's outcome, packed.
use Rattle.std.specs.Prelude.{◌≡◌, List, ℕ}
use Rattle.std.proofs.Common.{ap, ◌∙◌}
use Rattle.model.specs.declared.Answer.{Answer}
use Rattle.calls.specs.Outcome.{TableOutcome, leaves, Lent, Outcome, gives}
use Rattle.nectarnook.specs.Packed.{packed, returned, packed_out, returned_one, packed_one}

-- ---- a call made and its answer packed

pub out_packed : (r : ℕ) (a : Answer) (l : Lent) (o : Outcome) → r ≡ packed a → gives a l ≡ o → returned r l ≡ packed_out o
out_packed r a l o h e = ap (λ (x : ℕ). returned x l) h ∙ ap packed_out e

pub one_packed : (r : ℕ) (a : Answer) (t : List ℕ) (o : TableOutcome) → r ≡ packed a → leaves a t ≡ o → returned_one r t ≡ packed_one o
one_packed r a t o h e = ap (λ (x : ℕ). returned_one x t) h ∙ ap packed_one e
