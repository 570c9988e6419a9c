-- Mapping one side of a coder's error, and the text of the error.
use Rattle.std.specs.Prelude.{◌≡◌, ℕ, List, Option, Some, codes}
use Rattle.std.specs.Fmt.{◌++?◌}
use Rattle.constriction_words.specs.declared.coder_error.CoderError.{CoderError}
use Rattle.constriction_words.specs.declared.coder_error.CoderError.TheVariants.{Frontend, Backend}

-- a frontend error becomes one that R relates it to, and a backend error stays
abbrev pub MapsFrontend : {F G B : Type 0} → (F → G → Type 0) → CoderError F B → CoderError G B → Type 0
MapsFrontend {G = G} R (Frontend err) new = (mapped : G) × R err mapped × (new ≡ Frontend mapped)
MapsFrontend R (Backend err) new = new ≡ Backend err

-- a backend error becomes one that R relates it to, and a frontend error stays
abbrev pub MapsBackend : {F B C : Type 0} → (B → C → Type 0) → CoderError F B → CoderError F C → Type 0
MapsBackend R (Frontend err) new = new ≡ Frontend err
MapsBackend {C = C} R (Backend err) new = (mapped : C) × R err mapped × (new ≡ Backend mapped)

-- the text of a coder's error: which side failed, and then the text of its error
abbrev pub coder_error_text : {F B : Type 0} → (F → Option (List ℕ)) → (B → Option (List ℕ))
    → CoderError F B → Option (List ℕ)
coder_error_text frontend_text backend_text (Frontend err) = Some (codes "Invalid compressed data: ") ++? frontend_text err
coder_error_text frontend_text backend_text (Backend err) = Some (codes "Error while reading compressed data: ") ++? backend_text err
