-- The text of a backend's error.
use Rattle.std.specs.Prelude.{ℕ, List, Option, Some, codes}
use Rattle.std.specs.Fmt.{◌++?◌}
use Rattle.constriction_words.specs.declared.read_write_error.ReadWriteError.{ReadWriteError}
use Rattle.constriction_words.specs.declared.read_write_error.ReadWriteError.TheVariants.{Read, Write}

-- the text of a backend's error: whether a read or a write failed, and then the text of its error
abbrev pub read_write_error_text : {R W : Type 0} → (R → Option (List ℕ)) → (W → Option (List ℕ))
    → ReadWriteError R W → Option (List ℕ)
read_write_error_text read_text write_text (Read err) = Some (codes "Error while reading words: ") ++? read_text err
read_write_error_text read_text write_text (Write err) = Some (codes "Error while writing words: ") ++? write_text err
