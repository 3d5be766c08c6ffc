-- One that is cut off, or that is wrong, leaves a wrong list; of a whole one the shorter list is left.
use mathlib.Core.Path.{refl, sym, ◌∙◌}
use Prim.Native.Nat.{◌+◌, ◌≤◌}
use native.Mathlib.Omega.{arith}
use lib.ListN.{length, drop}
use Rattle.std.proofs.lemmas.Result.{MatchResult-from_err}
use Rattle.extension.specs.Extension.{wrong}
use Rattle.extension.proofs.ListLaws.{list_wrong, cut_there, more_there}
use Rattle.extension.proofs.descriptor_at.Goals as goal

pub returns-then-c-at : goal.returns-then-c-at
returns-then-c-at c m =
    let l = c.args.c.now in
    sym (list_wrong m (drop (length l) l)) ∙ cut_there _ _ _ c.at-n.ensures (length l) _ c.requires refl (omega arith) m

pub returns-in_err-carried : goal.returns-in_err-carried
returns-in_err-carried c =
    let fits : c.args.at + 2 + c.at-n.result ≤ length c.args.c.now = omega arith in
    MatchResult-from_err _ _ _ c.from_residual.ensures.0
    (λ e m. sym (list_wrong m _) ∙ more_there _ _ _ c.at-n.ensures wrong _ fits (c.in_err-carried.ensures _ fits) m)

pub returns : goal.returns
returns c =
    let fits : c.args.at + 2 + c.at-n.result ≤ length c.args.c.now = omega arith in
    (omega arith, fits, more_there _ _ _ c.at-n.ensures _ _ fits (c.in_ok-carried.ensures _ fits))
