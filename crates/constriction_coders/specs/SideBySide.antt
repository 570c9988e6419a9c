-- Two messages that are decoded side by side.
use Rattle.constriction_coders.specs.declared.side_by_side.DecodeTwoError.{DecodeTwoError}
use Rattle.constriction_coders.specs.declared.side_by_side.DecodeTwoError.TheVariants.{First, Second}

-- one of two coders stopped at an error, and the other one was left where it had come to
abbrev pub OneStops : {FirstError SecondError : Type 0} (FirstStops : FirstError → Type 0) (FirstIsLeft : Type 0)
    (SecondStops : SecondError → Type 0) (SecondIsLeft : Type 0) → DecodeTwoError FirstError SecondError → Type 0
OneStops FirstStops FirstIsLeft SecondStops SecondIsLeft (First error) = FirstStops error × SecondIsLeft
OneStops FirstStops FirstIsLeft SecondStops SecondIsLeft (Second error) = SecondStops error × FirstIsLeft
