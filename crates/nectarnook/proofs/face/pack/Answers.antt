-- Each arm is given which answer it is.
use Rattle.nectarnook.specs.Packed.{packed_by}
use Rattle.nectarnook.proofs.face.pack.Goals as goal

pub returns-in-Good : goal.returns-in-Good
unfolding packed_by
returns-in-Good c = rw c.in-Good.is c.plain.ensures

pub returns-in-Parked : goal.returns-in-Parked
unfolding packed_by
returns-in-Parked c = rw c.in-Parked.is c.plain-in-Parked.ensures

pub returns-in-Run : goal.returns-in-Run
unfolding packed_by
returns-in-Run c = rw c.in-Run.is c.plain-in-Run.ensures

pub returns-in-Check : goal.returns-in-Check
unfolding packed_by
returns-in-Check c = rw c.in-Check.is c.laid.ensures

pub returns-in-Full : goal.returns-in-Full
unfolding packed_by
returns-in-Full c = rw c.in-Full.is c.plain-in-Full.ensures

pub returns-in-H1 : goal.returns-in-H1
unfolding packed_by
returns-in-H1 c = rw c.in-H1.is c.plain-in-H1.ensures

pub returns-in-H2 : goal.returns-in-H2
unfolding packed_by
returns-in-H2 c = rw c.in-H2.is c.plain-in-H2.ensures

pub returns-in-H3 : goal.returns-in-H3
unfolding packed_by
returns-in-H3 c = rw c.in-H3.is c.plain-in-H3.ensures

pub returns-in-H4 : goal.returns-in-H4
unfolding packed_by
returns-in-H4 c = rw c.in-H4.is c.plain-in-H4.ensures

pub returns-in-H5 : goal.returns-in-H5
unfolding packed_by
returns-in-H5 c = rw c.in-H5.is c.plain-in-H5.ensures
