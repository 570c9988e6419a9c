pub use Rattle.constriction_numbers.specs.lemmas.Word
