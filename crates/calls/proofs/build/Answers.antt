-- The record is written at its place.
use Rattle.std.proofs.Common.{◌∙◌}
use Rattle.seal.specs.SealLaws.{record_put}
use Rattle.calls.proofs.BuildLaws.{build_done}
use Rattle.calls.proofs.build.Goals as goal

pub returns : goal.returns
returns c =
    let w = c.in-Some.ensures.cases in
    let b = c.in-Some-buildable.ensures in
    build_done c.args.units.now _ _ _ _ _ _ _ w.long (rw w.same at b.there) _
    (
    record_put c.in-Some.units.now _ _ _ _ c.split_at_mut-rest.ensures.front c.split_at_mut-rest.ensures.back c.write_built.ensures.whole
    ∙ rw (w.same, c.no.ensures.same, b.same, c.write_built.ensures.built)
    )
