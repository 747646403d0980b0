-- A step on the published word keeps what holds between any two steps.
use Rattle.std.proofs.Common.{◌≡◌, ◌≢◌, ◌⊎◌, inl, inr, ⊎_elim, ℕ, true, List, [], ◌∷◌, ◌++◌, set, get_or}
use Rattle.std.proofs.Common.{refl, sym, ap, ◌∙◌, subst, arith, length-set}
use Rattle.std.proofs.lemmas.List.{get_or-set_same}
use mathlib.Core.Option.{some}
use lib.ListN.{get_elem?}
use Rattle.atomic_table.specs.Table.{State, Allows, Splits, Joins, keeps}
use Rattle.atomic_table.proofs.Lists.{at_set, at_snoc, set_else}
use Rattle.ob_seq.specs.Rows.{Settings}
use Rattle.ob_history.specs.History.{IsBeginning, IsLegal, glance_after}
use Rattle.ob_history.specs.declared.record.Record.{Record}
use Rattle.ob_history.proofs.Lists.{begins_itself, begins_further, none_begin}
use Rattle.ob_shared.specs.Published.{Knows, Learns, Reads, Fits, Ruled, publishing, reading}
use Rattle.ob_shared.specs.Calls.{packed_glance}
use Rattle.ob_shared.specs.declared.rule.View.{View}

abbrev St : Type 0
St = State (Unit {0}) View

-- all seats fit a history
abbrev AllFit : ℕ → List Record → List View → Type 0
AllFit publisher log views =
    (seat : ℕ) (view : View) → get_elem? views seat ≡ some view → Fits publisher log seat view

-- one seat knows anew, and all others still fit: the history is the same, or it is the seat that publishes
fits_set : (views : List View) (id : ℕ) (new : View) (log more : List Record) (publisher : ℕ) → IsBeginning log more
    → (log ≡ more) ⊎ (id ≡ publisher) → AllFit publisher log views → Fits publisher more id new
    → AllFit publisher more (set views id new)
fits_set views id new log more publisher longer same fits fresh seat view at =
    ⊎_elim
    (λ here. subst (λ (v : View). Fits publisher more seat v) here.1
    (subst (λ (s : ℕ). Fits publisher more s new) (sym here.0) fresh))
    (λ apart. still apart.0 (fits seat view apart.1)) (at_set views id seat new view at)
  where
    still : seat ≢ id → Fits publisher log seat view → Fits publisher more seat view
    still apart old = record {
      one = old.one;
      whole = λ publishes. ⊎_elim (λ is. old.whole publishes ∙ is)
          (λ mine. absurd (apart (old.one publishes ∙ sym mine))) same;
      part = begins_further view.seen log more old.part longer;
      told = begins_further view.told log more old.told longer;
    }

-- a seat that reads fits, whatever its number, if it has seen a beginning
reading_fits : (publisher : ℕ) (log seen : List Record) (reads : List ℕ) (seat : ℕ) → IsBeginning seen log
    → Fits publisher log seat (reading seen reads)
reading_fits publisher log seen reads seat part = record {
  one = λ publishes. absurd (cc publishes);
  whole = λ publishes. absurd (cc publishes);
  part = part;
  told = none_begin log;
}

module _ (settings : Settings) (slots id : ℕ) (me : Knows) where
  -- the seat that publishes may store the number after more records
  pub may_publish : (records : List Record) (number : ℕ) → me.0.publishes ≡ true → IsBeginning me.0.seen records
      → IsLegal settings records → number ≡ packed_glance (glance_after settings records)
      → Allows (Ruled settings) slots id me 8 (λ _. number) (λ _ new. new ≡ (publishing records [], me.1))
  may_publish records number publishes longer legal is = λ s ruled homes at small.
      let mine = ruled.fits id me.0 at in
      let words = ruled.words in
      let from_log : IsBeginning ruled.log records =
      subst (λ (log : List Record). IsBeginning log records) (mine.whole publishes) longer in
      let fresh : Fits ruled.publisher records id (publishing records []) = record {
        one = λ _. mine.one publishes;
        whole = λ _. refl;
        part = begins_itself records;
        told = none_begin records;
      } in (
        publishing records [],
        keeps,
        tt,
        record {
          log = records;
          publisher = ruled.publisher;
          legal = legal;
          words = length-set s.words 8 number ∙ words;
          shown = get_or-set_same s.words 8 number 0 (omega arith) ∙ is;
          fits = fits_set s.views id (publishing records []) ruled.log records ruled.publisher from_log
              (inr (mine.one publishes)) ruled.fits fresh;
        },
        refl,
      )

  -- and it may leave the number that it published last, if that is the one after more records
  pub may_keep : (records : List Record) → me.0.publishes ≡ true → IsBeginning me.0.seen records
      → IsLegal settings records
      → packed_glance (glance_after settings me.0.seen) ≡ packed_glance (glance_after settings records)
      → Allows (Ruled settings) slots id me 8 (λ n. n) (λ _ new. new ≡ (publishing records [], me.1))
  may_keep records publishes longer legal same = λ s ruled homes at small.
      let mine = ruled.fits id me.0 at in
      let shown : get_or s.words 8 0 ≡ packed_glance (glance_after settings me.0.seen) =
      ruled.shown ∙ ap (λ (log : List Record). packed_glance (glance_after settings log)) (sym (mine.whole publishes)) in
      may_publish records (get_or s.words 8 0) publishes longer legal (shown ∙ same) s ruled homes at small

  -- a load leaves the word, and lets the seat know what fits
  after_load : (s : St) (ruled : Ruled settings s) (new : View) → Fits ruled.publisher ruled.log id new
      → Ruled settings (record {
        words = set s.words 8 (get_or s.words 8 0);
        homes = s.homes;
        views = set s.views id new;
      })
  after_load s ruled new fresh =
      let words = ruled.words in
      record {
        log = ruled.log;
        publisher = ruled.publisher;
        legal = ruled.legal;
        words = length-set s.words 8 (get_or s.words 8 0) ∙ words;
        shown = get_or-set_same s.words 8 (get_or s.words 8 0) 0 (omega arith) ∙ ruled.shown;
        fits = fits_set s.views id new ruled.log ruled.log ruled.publisher (begins_itself ruled.log) (inl refl) ruled.fits
            fresh;
      }

  -- a seat may read
  pub may_read : Allows (Ruled settings) slots id me 8 (λ n. n) (Reads settings me)
  may_read = λ s ruled homes at small.
      let found = get_or s.words 8 0 in
      let new = reading ruled.log (me.0.reads ++ found ∷ []) in (
        new,
        keeps,
        tt,
        after_load s ruled new
            (reading_fits ruled.publisher ruled.log ruled.log (me.0.reads ++ found ∷ []) id (begins_itself ruled.log)),
        record {
          after = refl;
          shows = ruled.shown;
          longer = (ruled.fits id me.0 at).part;
          legal = ruled.legal;
        },
      )

  -- the seat that publishes may learn of what it took in
  pub may_learn : me.0.publishes ≡ true → Allows (Ruled settings) slots id me 8 (λ n. n) (λ _. Learns me)
  may_learn publishes = λ s ruled homes at small.
      let mine = ruled.fits id me.0 at in (
        me.0,
        keeps,
        tt,
        after_load s ruled me.0 mine,
        record {
          same = refl;
          told = subst (λ (log : List Record). IsBeginning me.0.told log) (sym (mine.whole publishes)) mine.told;
        },
      )

-- what holds between two steps still does with other views that fit
with_views : (settings : Settings) (s : St) (ruled : Ruled settings s) (views : List View)
    → AllFit ruled.publisher ruled.log views
    → Ruled settings (record { words = s.words; homes = s.homes; views = views })
with_views settings s ruled views fits = record {
  log = ruled.log;
  publisher = ruled.publisher;
  legal = ruled.legal;
  words = ruled.words;
  shown = ruled.shown;
  fits = fits;
}

-- a seat may be cut, and the new one reads
pub may_cut : (settings : Settings) (id : ℕ) (view : View) → Splits (Ruled settings) id view view (reading view.seen [])
may_cut settings id view s ruled at =
    let mine = ruled.fits id view at in
    let kept = fits_set s.views id view ruled.log ruled.log ruled.publisher (begins_itself ruled.log) (inl refl) ruled.fits
    mine in
    with_views settings s ruled (set s.views id view ++ reading view.seen [] ∷ []) (λ seat one there. ⊎_elim (kept seat one)
    (λ is. subst (λ (v : View). Fits ruled.publisher ruled.log seat v) is
    (reading_fits ruled.publisher ruled.log view.seen [] seat mine.part))
    (at_snoc (set s.views id view) (reading view.seen []) one seat there))

-- the seat that publishes may take in another one, and is told what it had seen
pub may_take : (settings : Settings) (id : ℕ) (view : View) (other : ℕ) (theirs : View)
    → Joins (Ruled settings) id view other theirs (record view { told = theirs.seen }) (reading [] [])
may_take settings id view other theirs s ruled at apart then_at =
    let both = record view { told = theirs.seen } in
    let mine = ruled.fits id view at in
    let their_at = sym (set_else s.views id other both apart) ∙ then_at in
    let their = ruled.fits other theirs their_at in
    let fresh : Fits ruled.publisher ruled.log id both = record {
      one = mine.one;
      whole = mine.whole;
      part = mine.part;
      told = their.part;
    } in
    let kept = fits_set s.views id both ruled.log ruled.log ruled.publisher (begins_itself ruled.log) (inl refl) ruled.fits
    fresh in
    with_views settings s ruled (set (set s.views id both) other (reading [] []))
    (fits_set (set s.views id both) other (reading [] []) ruled.log ruled.log ruled.publisher
    (begins_itself ruled.log) (inl refl) kept
    (reading_fits ruled.publisher ruled.log [] [] other (none_begin ruled.log)))
