-- The reasons by name, and document 01's number of each ("Order of judgement"); 1b is 1Bh. docs/RULES.md, 5.1.
use Rattle.std.specs.Prelude.{ℕ, Result, Ok, Err}
use Rattle.model.specs.declared.reason.Reason.{Reason}
use Rattle.model.specs.declared.reason.Reason.TheVariants.{NoUnit, UnsoundUnit, UnknownCode, WrongLength, WrongProtocol, NoCapability, WrongFormat}
use Rattle.model.specs.declared.reason.Reason.TheVariants.{WrongMethod, WrongAlgorithm, Expired, LacksPermission, WrongTag, WrongDescriptor, NoKey}
use Rattle.model.specs.declared.reason.Reason.TheVariants.{WrongValue, WrongTotal, NoExchange, WrongListLength, WrongList}

abbrev pub number_of : Reason → ℕ
number_of NoUnit = 1
number_of UnsoundUnit = 0x1b
number_of UnknownCode = 2
number_of WrongLength = 3
number_of WrongProtocol = 4
number_of NoCapability = 6
number_of WrongFormat = 7
number_of WrongMethod = 8
number_of WrongAlgorithm = 9
number_of Expired = 10
number_of LacksPermission = 11
number_of WrongTag = 12
number_of WrongDescriptor = 13
number_of NoKey = 14
number_of WrongValue = 15
number_of WrongTotal = 16
number_of NoExchange = 17
number_of WrongListLength = 18
number_of WrongList = 19

-- the number of the reason that a check refuses for, 0 where it passes
abbrev pub reason_of : {A : Type 0} → Result A Reason → ℕ
reason_of (Ok x) = 0
reason_of (Err r) = number_of r
