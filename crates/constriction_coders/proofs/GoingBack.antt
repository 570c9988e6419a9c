-- What was decoded is encoded by the entry of its row.
use Rattle.std.proofs.Common.{ℕ, ◌%◌, ◌^◌, Bool, List, [], ◌∷◌, Option, sym, ◌∙◌}
use Rattle.constriction_model.specs.Coding.{InTurn}
use Rattle.constriction_model.specs.Laws.{IsOneToOne}
use Rattle.constriction_model.specs.Model.{ClonesAreEqual}
use Rattle.constriction_model.specs.Rows.{Row}
use Rattle.constriction_coders.specs.Laws.{EncodedOnce, DecodedGoesBack}
use Rattle.constriction_coders.specs.Steps.{Content, IsDecoded, IsEncoded}

module _ {Symbol : Type 0} (Stands : Symbol → Symbol → Type 0) (eq : Symbol → Symbol → Bool) (entry : Symbol → Option (ℕ × ℕ))
    (rows : List (Row Symbol)) (precision : ℕ) (one : IsOneToOne eq entry precision rows) (clones : ClonesAreEqual eq Stands) where
  -- what is decoded was encoded
  pub is-encoded : (symbol : Symbol) (full rest : Content) → IsDecoded Stands rows precision symbol full rest
      → IsEncoded (entry symbol) precision full rest
  is-encoded symbol full rest d = record {
    left = d.row.left;
    weight = d.row.weight;
    known = sym (one.same d.row.symbol symbol (clones d.row.symbol symbol d.stands))
        ∙ (one.there (full.state % 2 ^ precision) d.row d.found).0;
    top = d.top;
  }

  are-encoded : (symbols : List Symbol) (full rest : Content) → InTurn (IsDecoded Stands rows precision) symbols full rest
      → InTurn (λ s. IsEncoded (entry s) precision) symbols full rest
  are-encoded [] full rest d = d
  are-encoded (s ∷ ss) full rest d = (d.0, is-encoded s full d.0 d.1, are-encoded ss d.0 rest d.2)

  -- so encoding what was decoded goes back
  pub goes-back : EncodedOnce entry precision → DecodedGoesBack entry precision Stands rows
  goes-back once = record {
    known = λ symbol full rest d none. let known = (is-encoded symbol full rest d).known in cc;
    back = λ symbol full rest again held holds d e. once.symbol symbol again full rest holds held e (is-encoded symbol full rest d);
    words = λ symbols words opened compressed decoded.
        record { full = opened; led = are-encoded symbols opened _ decoded; compressed = compressed };
  }
