-- The kind of form that a chain of conversions leaves, and its rows.
use Rattle.std.specs.Prelude.{◌≡◌, Bool, true, false, List, [], ◌∷◌}
use Rattle.constriction_model.specs.Model.{StandForRows}
use Rattle.constriction_model.specs.Rows.{Row}
use Rattle.constriction_client.specs.declared.chain.ChainStep.{ChainStep}
use Rattle.constriction_client.specs.declared.chain.ChainStep.TheVariants.{ToLookup, IntoSearch, Rebuild}
use Rattle.constriction_client.specs.declared.decoder_form.SearchOrLookup.{SearchOrLookup}
use Rattle.constriction_client.specs.declared.decoder_form.SearchOrLookup.TheVariants.{Search, Lookup}

-- whether a form is a lookup form
abbrev pub is_lookup : {Searching Tabled : Type 0} → SearchOrLookup Searching Tabled → Bool
is_lookup (Search _) = false
is_lookup (Lookup _) = true

-- whether a form is a lookup form after a step; `before` says whether it was one before
abbrev pub is_lookup_after : Bool → ChainStep → Bool
is_lookup_after before ToLookup = true
is_lookup_after before Rebuild = before
is_lookup_after before _ = false

-- a step leaves these rows of others, with clones of their symbols if it makes the form anew
abbrev pub StepLeaves : {Symbol : Type 0} → (Symbol → Symbol → Type 0) → ChainStep → List (Row Symbol) → List (Row Symbol) → Type 0
StepLeaves IsClone IntoSearch rows made = made ≡ rows
StepLeaves IsClone _ rows made = StandForRows IsClone made rows

-- steps in a row leave these rows of others
abbrev pub ChainLeaves : {Symbol : Type 0} → (Symbol → Symbol → Type 0) → List ChainStep → List (Row Symbol) → List (Row Symbol) → Type 0
ChainLeaves IsClone [] rows made = made ≡ rows
ChainLeaves {Symbol} IsClone (step ∷ steps) rows made =
    (between : List (Row Symbol)) × StepLeaves IsClone step rows between × ChainLeaves IsClone steps between made
