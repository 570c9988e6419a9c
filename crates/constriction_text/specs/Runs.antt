-- What a run reads and writes.
use Rattle.std.specs.Prelude.{ℕ, ◌≡◌, ◌≤◌, List, ◌∷◌, ◌++◌, length, Option}
use Rattle.std.specs.Io.KnownBytes.{Appends, Consumes, IsAtEnd}
use Rattle.constriction_io.specs.declared.reading.ReadError.{ReadError}
use Rattle.constriction_io.specs.declared.reading.ReadError.TheVariants.{Reader}
use Rattle.constriction_text.specs.declared.fault.RunFault.{RunFault}
use Rattle.constriction_text.specs.declared.fault.RunFault.TheVariants.{Read, Write, TooLong, OutOfMemory}
use Rattle.constriction_text.specs.Text.{AreAnswers, lines_of}

-- the greatest number of bytes of an input
abbrev pub limit : ℕ
limit = 1048576

-- the exit status of a program that a fault stops
abbrev pub fault_status : RunFault → ℕ
fault_status Read = 1
fault_status Write = 1
fault_status TooLong = 2
fault_status OutOfMemory = 3

-- the fault of a run that a read stops
abbrev pub fault_of_read : ReadError → RunFault
fault_of_read (Reader error) = Read
fault_of_read other = OutOfMemory

-- some bytes were read, and P holds of them
abbrev pub HasRead : Option (List ℕ) → Option (List ℕ) → (List ℕ → Type 0) → Type 0
HasRead old new P = (input : List ℕ) × Consumes old new input × P input

-- all that the reader had was read, no more than the limit, and P holds of it
abbrev pub HasReadAll : Option (List ℕ) → Option (List ℕ) → (List ℕ → Type 0) → Type 0
HasReadAll old new P = HasRead old new (λ input. IsAtEnd new × (length input ≤ limit) × P input)

-- a beginning of a text was written, and nothing else
abbrev pub WritesBeginning : Option (List ℕ) → Option (List ℕ) → List ℕ → Type 0
WritesBeginning old new text = (written rest : List ℕ) × (written ++ rest ≡ text) × Appends old new written

-- the answers to the lines of an input before one of them were written, each whole, and nothing else
abbrev pub WritesAnswersBefore : Option (List ℕ) → Option (List ℕ) → List ℕ → Type 0
WritesAnswersBefore old new input =
    (before after : List (List ℕ)) × (line text : List ℕ) × (before ++ line ∷ after ≡ lines_of input)
    × AreAnswers before text × Appends old new text
