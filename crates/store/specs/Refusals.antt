-- The numbers of the refusals, and the addresses that some carry.
use Rattle.std.specs.Prelude.{ℕ, Some, None, Option}
use Rattle.store.specs.declared.refusals.Refusal.{Refusal}
use Rattle.store.specs.declared.refusals.Refusal.TheVariants.{Down, Size, TooMuchLost, IllFormed, DoubleClaim, NoRootIndex, NoSuchObject, WrongKind, Range, Busy, NoSuchTransaction, Full, Unreadable, WorkListFull, TagZero}

abbrev pub number_of : Refusal → ℕ
number_of Down = 1
number_of Size = 2
number_of (TooMuchLost a) = 3
number_of (IllFormed a) = 4
number_of (DoubleClaim a) = 5
number_of NoRootIndex = 6
number_of NoSuchObject = 7
number_of WrongKind = 8
number_of Range = 9
number_of Busy = 10
number_of NoSuchTransaction = 11
number_of Full = 12
number_of (Unreadable a) = 13
number_of WorkListFull = 14
number_of TagZero = 15

abbrev pub address_of : Refusal → Option ℕ
address_of Down = None
address_of Size = None
address_of (TooMuchLost a) = Some a
address_of (IllFormed a) = Some a
address_of (DoubleClaim a) = Some a
address_of NoRootIndex = None
address_of NoSuchObject = None
address_of WrongKind = None
address_of Range = None
address_of Busy = None
address_of NoSuchTransaction = None
address_of Full = None
address_of (Unreadable a) = Some a
address_of WorkListFull = None
address_of TagZero = None
