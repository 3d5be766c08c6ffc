-- One record is made anew, at its place or at its keeper's.
use Rattle.std.proofs.Math.Path.{sym, ap}
use Rattle.std.proofs.Common.{◌∙◌}
use Rattle.seal.specs.SealLaws.{record_put}
use Rattle.units.specs.Unit.{key_set_of}
use Rattle.judge.specs.Seen.{seen}
use Rattle.calls.specs.Whole.{laid}
use Rattle.calls.proofs.CloseLaws.{made_attributes, made_keys}
use Rattle.calls.proofs.closing.obey.Goals as goal

pub returns-then-page-eq-SET_ATTRIBUTES : goal.returns-then-page-eq-SET_ATTRIBUTES
returns-then-page-eq-SET_ATTRIBUTES c =
    let a = c.args in
    let w = c.set_attributes.ensures in
    let s = seen a.units.now a.unit in
    let k = c.split_at_mut-rest.ensures in
    let f = rw c.unwrap.ensures at c.first_chunk_mut.ensures.cases in
    record_put a.units.now _ _ _ _ k.front k.back w.whole
    ∙ rw (w.set, f.same, k.back, c.no.ensures.same) (ap (laid a.units.now a.unit) (sym (made_attributes s a.page a.list.now c.if-page-eq-SET_ATTRIBUTES.true)))

pub returns-else-page-eq-SET_ATTRIBUTES : goal.returns-else-page-eq-SET_ATTRIBUTES
unfolding key_set_of
returns-else-page-eq-SET_ATTRIBUTES c =
    let a = c.args in
    let w = c.set_keys.ensures in
    let s = seen a.units.now a.unit in
    let k = c.split_at_mut-rest-else-page-eq-SET_ATTRIBUTES.ensures in
    let f = rw c.unwrap-else-page-eq-SET_ATTRIBUTES.ensures at c.first_chunk_mut-else-page-eq-SET_ATTRIBUTES.ensures.cases in
    let at = c.no-else-page-eq-SET_ATTRIBUTES.ensures.same ∙ c.keeper_of-keeper.ensures in
    record_put a.units.now _ _ _ _ k.front k.back w.whole
    ∙ rw (w.set, f.same, k.back, at) (ap (laid a.units.now a.unit) (sym (made_keys s a.page a.list.now c.if-page-eq-SET_ATTRIBUTES.false)))
