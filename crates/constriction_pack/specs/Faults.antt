-- What stops packing and unpacking.
use Rattle.std.specs.Prelude.{ℕ}
use Rattle.constriction_io.specs.declared.reading.ReadError.{ReadError}
use Rattle.constriction_io.specs.declared.reading.ReadError.TheVariants.{Reader}
use Rattle.constriction_pack.specs.declared.fault.PackError.{PackError}
use Rattle.constriction_pack.specs.declared.fault.PackError.TheVariants.{Read, Write, OutOfMemory}
use Rattle.constriction_pack.specs.declared.fault.PackError.TheVariants.{NotPacked, Cut, Damaged}
use Rattle.constriction_pack.specs.declared.fault.PackError.TheVariants.{TooLong}

-- the input is refused
abbrev pub IsRefusal : PackError → Type 0
IsRefusal Read = ⊥
IsRefusal Write = ⊥
IsRefusal OutOfMemory = ⊥
IsRefusal NotPacked = Unit {0}
IsRefusal Cut = Unit {0}
IsRefusal Damaged = Unit {0}
IsRefusal TooLong = Unit {0}

-- the exit status of a program that a fault stops
abbrev pub error_status : PackError → ℕ
error_status Read = 1
error_status Write = 1
error_status OutOfMemory = 3
error_status NotPacked = 2
error_status Cut = 2
error_status Damaged = 2
error_status TooLong = 2

-- the fault that a read stops by
abbrev pub error_of_read : ReadError → PackError
error_of_read (Reader error) = Read
error_of_read other = OutOfMemory
