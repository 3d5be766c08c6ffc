-- Laws of the reasons' numbers.
use Rattle.std.proofs.Math.Path.{◌≡◌}
use Rattle.model.specs.Reason.{number_of}
use Rattle.model.specs.declared.reason.Reason.{Reason}
use Rattle.model.specs.declared.reason.Reason.TheVariants.{NoUnit, UnsoundUnit, UnknownCode, WrongLength, WrongProtocol, NoCapability, WrongFormat, WrongMethod, WrongAlgorithm, Expired, LacksPermission, WrongTag, WrongDescriptor, NoKey, WrongValue, WrongTotal, NoExchange, WrongListLength, WrongList}

-- no reason has the number 0, which says that there is none
pub reason_named : (r : Reason) → number_of r ≡ 0 → ⊥
reason_named NoUnit e = cc
reason_named UnsoundUnit e = cc
reason_named UnknownCode e = cc
reason_named WrongLength e = cc
reason_named WrongProtocol e = cc
reason_named NoCapability e = cc
reason_named WrongFormat e = cc
reason_named WrongMethod e = cc
reason_named WrongAlgorithm e = cc
reason_named Expired e = cc
reason_named LacksPermission e = cc
reason_named WrongTag e = cc
reason_named WrongDescriptor e = cc
reason_named NoKey e = cc
reason_named WrongValue e = cc
reason_named WrongTotal e = cc
reason_named NoExchange e = cc
reason_named WrongListLength e = cc
reason_named WrongList e = cc
