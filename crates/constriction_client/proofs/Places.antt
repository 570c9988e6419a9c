-- Words that were written to a cursor, and are read again.
use Rattle.std.proofs.Common.{◌≡◌, ℕ, ◌≤◌, List, [], ◌∷◌, ◌++◌, Option, Result, length, take, drop, ap, sym, ◌∙◌, subst, arith, append_assoc, append-nil, take-append-drop}
use Rattle.std.proofs.lemmas.List.{length-take-le}
use Rattle.std.proofs.Math.Seq.{take-append_seam, drop-append_seam}
use Rattle.constriction_words.specs.declared.coder_error.CoderError.TheVariants.{Frontend, Backend}
use Rattle.constriction_buffers.specs.declared.buf.SafeBuf.{Ghosts}
use Rattle.constriction_backends.specs.declared.cursor.Cursor.{Cursor}
use Rattle.constriction_backends.specs.Cursor.{state_of, OverwritesAll, WritesTo}
use Rattle.constriction_backends.specs.CursorState.{QueueReads}
use Rattle.constriction_backends.specs.Sink.{Writes}
use Rattle.constriction_backends.specs.Source.{Reads}
use Rattle.constriction_client.specs.declared.quantiles.QuantileFault.{QuantileFault}
use Rattle.constriction_client.specs.private.Coming.{ComeNext, GoesBack}
use Rattle.constriction_client.specs.Placing.{PlacesItems}
use Rattle.constriction_client.specs.Quantiles.{IsQuantileOf, IsFaultOf, WritesItems, StopsAmong, StopsAtItem}

-- equal lists with the same beginning have the same rest
same-back : {X : Type 0} (a b c : List X) → a ++ b ≡ a ++ c → b ≡ c
same-back [] b c e = e
same-back (x ∷ a) b c e = let rest : a ++ b ≡ a ++ c = cc in same-back a b c rest

-- ---- what is written

module _ {Word Buf Error : Type 0} {g : Ghosts Buf Word} (with_words : Buf → List Word → Buf) where
  abbrev pub gives_write : Cursor Word Buf g → Word → Result (Unit {0}) Error → Cursor Word Buf g → Type 0
  gives_write = λ s w r t. WritesTo s with_words w r t

  module _ {Symbol : Type 0} (entry : Symbol → Option (ℕ × ℕ)) (whole : Word → ℕ) (tells : Cursor Word Buf g → List Word → Type 0)
      (law : (c : Cursor Word Buf g) (words : List Word) (t : Cursor Word Buf g) → Writes gives_write c words t
      → OverwritesAll with_words c words t)
      (c : Cursor Word Buf g) where
    -- items that were written to a cursor lie from its old position on
    pub items-placed : (items : List (Symbol × Word)) (t : Cursor Word Buf g)
        → WritesItems entry whole gives_write tells items c t → PlacesItems entry whole with_words c items t
    items-placed items t wrote =
        record { words = wrote.words; quantiles = wrote.quantiles; overwrote = law c wrote.words t wrote.written }

    -- an item without a quantile ends the writing, and those before it lie there
    pub fault-placed : (items : List (Symbol × Word)) (t : Cursor Word Buf g) (fault : QuantileFault)
        → StopsAtItem entry whole gives_write tells items c (Frontend fault) t
        → StopsAmong items (λ before item. PlacesItems entry whole with_words c before t × IsFaultOf entry whole item fault)
    fault-placed items t fault at = record {
      before = at.before;
      item = at.item;
      after = at.after;
      split = at.split;
      is_such = (
        subst (λ (x : Cursor Word Buf g). PlacesItems entry whole with_words c at.before x) (sym at.is_such.2.1)
            (items-placed at.before at.is_such.0 at.is_such.1),
        at.is_such.2.0,
      );
    }

    -- an item that finds no place ends the writing, and those before it lie there
    pub full-placed : (items : List (Symbol × Word)) (t : Cursor Word Buf g) (error : Error)
        → StopsAtItem entry whole gives_write tells items c (Backend error) t
        → StopsAmong items (λ before item. PlacesItems entry whole with_words c before t × (q : ℕ) × IsQuantileOf entry whole item q)
        × ((state_of t).after ≡ [])
    full-placed items t error at =
        let refused = at.is_such.2 in
        let stays : t ≡ at.is_such.0 = refused.2.1 in (
          record {
            before = at.before;
            item = at.item;
            after = at.after;
            split = at.split;
            is_such = (
              subst (λ (x : Cursor Word Buf g). PlacesItems entry whole with_words c at.before x) (sym stays)
                  (items-placed at.before at.is_such.0 at.is_such.1),
              whole refused.0,
              refused.1,
            );
          },
          ap (λ (x : Cursor Word Buf g). (state_of x).after) stays ∙ refused.2.0.0,
        )

-- ---- going back, and what is read

-- a read in the order of a queue
abbrev pub gives_read : {Word Buf : Type 0} {g : Ghosts Buf Word} (Error : Type 0) → Cursor Word Buf g
    → Result (Option Word) Error → Cursor Word Buf g → Type 0
gives_read Error s r t = QueueReads (state_of s) r (state_of t) × (t.buf ≡ s.buf)

module _ {Word Buf : Type 0} {g : Ghosts Buf Word} (Error : Type 0) where
  -- the words that are read stood after the position, and stand before it then
  pub reads-on : (s : Cursor Word Buf g) (words : List Word) (t : Cursor Word Buf g) → Reads (gives_read Error) s words t
      → ((state_of t).before ≡ (state_of s).before ++ words) × ((state_of s).after ≡ words ++ (state_of t).after) × (t.buf ≡ s.buf)
  reads-on s [] t e = (
    sym (ap (λ (x : Cursor Word Buf g). (state_of x).before) e) ∙ sym (append-nil (state_of s).before),
    ap (λ (x : Cursor Word Buf g). (state_of x).after) e,
    sym (ap (λ (x : Cursor Word Buf g). x.buf) e),
  )
  reads-on s (w ∷ ws) t (j, read, others) =
      let later = reads-on j ws t others in (
        later.0 ∙ ap (λ xs. xs ++ ws) read.0.1 ∙ append_assoc (state_of s).before (w ∷ []) ws,
        read.0.0 ∙ ap (λ xs. w ∷ xs) later.1,
        later.2 ∙ read.1,
      )

module _ {Symbol Word Buf : Type 0} {g : Ghosts Buf Word} (entry : Symbol → Option (ℕ × ℕ)) (whole : Word → ℕ)
    (with_words : Buf → List Word → Buf) (c : Cursor Word Buf g) (items : List (Symbol × Word)) where
  module _ (j t : Cursor Word Buf g) (placed : PlacesItems entry whole with_words c items j) where
    -- the position of c is still in range
    pub in-range : ((b : Buf) (ws : List Word) → length (g.words_of (with_words b ws)) ≡ length (g.words_of b))
        → c.pos ≤ length (g.words_of j.buf)
    in-range keeps_length =
        let long : length (g.words_of j.buf) ≡ length (g.words_of c.buf) =
        ap (λ b. length (g.words_of b)) placed.overwrote.2 ∙ keeps_length c.buf (g.words_of j.buf) in
        let stood : c.pos ≤ length (g.words_of c.buf) = c.in_range in
        omega arith

    -- a cursor that is back at its position has the old words before it, and then the placed words
    pub back-at : t.buf ≡ j.buf → t.pos ≡ c.pos
        → ((state_of t).before ≡ (state_of c).before)
        × ((state_of t).after ≡ placed.words ++ drop (length placed.words) (state_of c).after)
    back-at buf pos =
        let words : List Word = placed.words in
        let rest : List Word = words ++ drop (length words) (state_of c).after in
        let joined : g.words_of t.buf ≡ (state_of c).before ++ rest =
        ap g.words_of buf ∙ sym (take-append-drop j.pos (g.words_of j.buf))
        ∙ ap (λ ws. ws ++ (state_of j).after) placed.overwrote.0
        ∙ ap (λ ws. ((state_of c).before ++ words) ++ ws) placed.overwrote.1
        ∙ append_assoc (state_of c).before words (drop (length words) (state_of c).after) in
        let long : t.pos ≡ length (state_of c).before = pos ∙ sym (length-take-le c.pos (g.words_of c.buf) c.in_range) in (
          ap (λ n. take n (g.words_of t.buf)) long ∙ ap (take (length (state_of c).before)) joined
              ∙ take-append_seam (state_of c).before rest,
          ap (λ n. drop n (g.words_of t.buf)) long ∙ ap (drop (length (state_of c).before)) joined
              ∙ drop-append_seam (state_of c).before rest,
        )

  -- the words that were placed were read from there: the cursor stands after them again
  pub placed-again : (Error : Type 0) (j s t : Cursor Word Buf g) (placed : PlacesItems entry whole with_words c items j)
      → s.buf ≡ j.buf → s.pos ≡ c.pos → Reads (gives_read Error) s placed.words t → PlacesItems entry whole with_words c items t
  placed-again Error j s t placed buf pos read =
      let words : List Word = placed.words in
      let at = back-at j s placed buf pos in
      let on = reads-on Error s words t read in
      let same : t.buf ≡ j.buf = on.2 ∙ buf in
      record {
        words = words;
        quantiles = placed.quantiles;
        overwrote = (
          on.0 ∙ ap (λ xs. xs ++ words) at.0,
          same-back words (state_of t).after (drop (length words) (state_of c).after) (sym on.1 ∙ at.1),
          same ∙ placed.overwrote.2 ∙ ap (λ b. with_words c.buf (g.words_of b)) (sym same),
        );
      }

  -- if a cursor wrote words and was sought back, these are the next ones to come
  pub come-next : (t : Cursor Word Buf g) (back : GoesBack entry whole with_words c items t)
      → ComeNext (λ (s : Cursor Word Buf g) (words : List Word). words ≡ (state_of s).after) t back.placed.words
  come-next t back = record {
    rest = drop (length back.placed.words) (state_of c).after;
    known = sym (back-at back.reached t back.placed back.buf back.pos).1;
  }
