-- One seat knows anew, and what holds of all others.
use Rattle.std.proofs.Common.{◌≡◌, ◌≢◌, ⊎_elim, ℕ, true, false, List, set, get_or}
use Rattle.std.proofs.Common.{sym, ap, ◌∙◌, subst, arith, length-set}
use Rattle.std.proofs.lemmas.List.{get_or-set_other, set-get_or}
use mathlib.Core.Logic.{dite}
use mathlib.Core.Option.{some, some-injective}
use native.Mathlib.Decide.{ℕ_discrete}
use lib.ListN.{get_elem?}
use Rattle.atomic_table.specs.Table.{State}
use Rattle.atomic_table.proofs.Lists.{at_set, set_again, set_else, set_here}
use Rattle.ob_shared_connection.specs.Ruled.{bell_word, AllFit, AreCounted, Fits, IsNobodys, IsShown, IsTaken, Past}
use Rattle.ob_shared_connection.specs.Ruled.{Ruled, calls_with, handles_of}
use Rattle.ob_shared_connection.specs.Values.{IsBeginning, leaves_flushed}
use Rattle.ob_shared_connection.specs.Steps.{Knows}
use Rattle.ob_shared_connection.specs.declared.bell.Waiter.{Waiter}
use Rattle.ob_shared_connection.specs.declared.call.Call.{Call}
use Rattle.ob_shared_connection.specs.declared.carried.Carried.{Carried}
use Rattle.ob_shared_connection.specs.declared.view.View.{View}
use Rattle.ob_shared_connection.proofs.Lists.{at_below, is_false, sum_set}

abbrev pub St : Type 0
St = State Carried View

abbrev pub Removes : Call → Type 0
Removes call = leaves_flushed call.command ≡ true

-- a seat fits as well whatever else it knows of its handle, its share, the bells, and what it was told of
pub fits_still : (past : Past) (seat : ℕ) (old new : View)
    → new ≡ record old {
      named = new.named;
      caller = new.caller;
      told = new.told;
      others = new.others;
      handed = new.handed;
      share = new.share;
      bells = new.bells;
    }
    → (new.named ≡ true → new.caller ≡ seat) → IsBeginning new.told past.shown → Fits past seat old → Fits past seat new
fits_still past seat old new same numbered told fits =
    subst (λ (view : View). Fits past seat view) (sym same) (record {
      opened = fits.opened;
      budgeted = fits.budgeted;
      part = fits.part;
      told = told;
      numbered = numbered;
      own = fits.own;
      one = fits.one;
      whole = fits.whole;
      current = fits.current;
      seen_shown = fits.seen_shown;
      sender_is = fits.sender_is;
      untouched = fits.untouched;
    })

-- one seat knows anew, and all others still fit
pub fits_set : (past next : Past) (views : List View) (id : ℕ) (new : View)
    → ((seat : ℕ) (view : View) → seat ≢ id → get_elem? views seat ≡ some view → Fits past seat view
    → Fits next seat view)
    → AllFit past views → Fits next id new → AllFit next (set views id new)
fits_set past next views id new others fits fresh seat view at =
    ⊎_elim
    (λ here. subst (λ (v : View). Fits next seat v) here.1
    (subst (λ (s : ℕ). Fits next s new) (sym here.0) fresh))
    (λ apart. others seat view apart.0 apart.1 (fits seat view apart.1)) (at_set views id seat new view at)

-- one seat knows anew, and nothing else changed
pub fits_alone : (past : Past) (views : List View) (id : ℕ) (new : View) → AllFit past views → Fits past id new
    → AllFit past (set views id new)
fits_alone past views id new fits fresh =
    fits_set past past views id new (λ seat view apart there still. still) fits fresh

-- nobody has the lock, and a seat that knows anew has not either
pub nobody_still : (views : List View) (id : ℕ) (new : View) → IsNobodys views → new.holds ≡ false
    → IsNobodys (set views id new)
nobody_still views id new nobody free seat view at =
    ⊎_elim (λ here. subst (λ (v : View). v.holds ≡ false) here.1 free) (λ apart. nobody seat view apart.1)
    (at_set views id seat new view at)

-- nobody has the lock but one seat, and that lets it go
pub nobody_else : (past : Past) (views : List View) (id : ℕ) (new : View) → AllFit past views → id ≡ past.holder
    → new.holds ≡ false → IsNobodys (set views id new)
nobody_else past views id new fits holder_is free seat view at =
    ⊎_elim (λ here. subst (λ (v : View). v.holds ≡ false) here.1 free)
    (λ apart. is_false view.holds (λ holds. apart.0 ((fits seat view apart.1).one holds ∙ sym holder_is)))
    (at_set views id seat new view at)

-- one seat knows anew, and stands for as many handles and calls
pub counts_set : (log : List Call) (number : ℕ) (views : List View) (id : ℕ) (old new : View)
    → get_elem? views id ≡ some old → handles_of new ≡ handles_of old → calls_with new ≡ calls_with old
    → AreCounted log number views → AreCounted log number (set views id new)
counts_set log number views id old new at same_handles same_calls counts =
    let handles = sum_set handles_of views id old new at in
    let calls = sum_set calls_with views id old new at in record {
      none_yet = λ seat past. counts.none_yet seat (omega (arith, length-set views id new));
      given = counts.given ∙ omega arith;
      counted = counts.counted ∙ omega arith;
    }

-- one seat knows anew, and whoever has the lock has it still
pub taken_set : (views : List View) (id : ℕ) (old new : View) → get_elem? views id ≡ some old
    → (old.holds ≡ true → new.holds ≡ true) → (old.holds ≡ true → old.named ≡ true → new.named ≡ true) → IsTaken views
    → IsTaken (set views id new)
taken_set views id old new at holds named taken =
    dite (ℕ_discrete taken.seat id)
    (λ same. (let here : taken.view ≡ old = some-injective taken.view old
    (sym taken.at ∙ ap (λ (seat : ℕ). get_elem? views seat) same ∙ at) in record {
      seat = id;
      view = new;
      at = set_here views id new (at_below views id old at);
      holds = holds (ap (λ (v : View). v.holds) (sym here) ∙ taken.holds);
      named = named (ap (λ (v : View). v.holds) (sym here) ∙ taken.holds)
          (ap (λ (v : View). v.named) (sym here) ∙ taken.named);
    }))
    (λ apart. record {
      seat = taken.seat;
      view = taken.view;
      at = set_else views id taken.seat new apart ∙ taken.at;
      holds = taken.holds;
      named = taken.named;
    })

-- a word that is not written keeps what is said of it
pub other_word : (P : ℕ → Type 0) (words : List ℕ) (written read next : ℕ) → read ≢ written → P (get_or words read 0)
    → P (get_or (set words written next) read 0)
other_word P words written read next apart holds =
    subst P (sym (get_or-set_other words written read next 0 apart)) holds

module _ (slots id : ℕ) (me : Knows) where
  -- a word that is written, so that nothing is known anew, and the lock stays as it was
  pub same_views : (word next : ℕ) → (s : St) (ruled : Ruled s) → get_elem? s.views id ≡ some me.0
      → (get_or (set s.words word next) 0 0 ≡ 0 → get_or s.words 0 0 ≡ 0)
      → (get_or s.words 0 0 ≡ 0 → get_or (set s.words word next) 0 0 ≡ 0)
      → get_or (set s.words word next) 1 0 ≡ get_or s.words 1 0
      → get_or (set s.words word next) 2 0 ≡ get_or s.words 2 0
      → ((waiter : Waiter) → get_or (set s.words word next) (bell_word waiter) 0 ≡ get_or s.words (bell_word waiter) 0)
      → (get_or (set s.words word next) 5 0 ≡ 1 → get_or s.words 5 0 ≡ 1)
      → Ruled (record { words = set s.words word next; homes = s.homes; views = set s.views id me.0 })
  same_views word next s ruled at locked still counts shown bells role =
      let words = ruled.words in
      subst (λ (views : List View). Ruled (record { words = set s.words word next; homes = s.homes; views = views }))
      (sym (set_again s.views id me.0 at))
      (record {
        past = ruled.past;
        words = length-set s.words word next ∙ words;
        free = λ again. ruled.free (locked again);
        taken = λ is. ruled.taken (λ free. is (still free));
        shares = ruled.shares;
        bells = λ waiter. record {
          rung = λ free due. bells waiter ∙ (ruled.bells waiter).rung (locked free) due;
          known = λ seat view there has quiet. bells waiter ∙ (ruled.bells waiter).known seat view there has quiet;
        };
        fits = ruled.fits;
        counts = subst (λ (number : ℕ). AreCounted ruled.past.log number s.views) (sym counts) ruled.counts;
        shown = subst (λ (number : ℕ). IsShown ruled.past number) (sym shown) ruled.shown;
        role = λ vacant. ruled.role (role vacant);
      })

  -- a word that is read, so that nothing is known anew
  pub nothing_known : (word : ℕ) → (s : St) → Ruled s → get_elem? s.views id ≡ some me.0
      → Ruled (record { words = set s.words word (get_or s.words word 0); homes = s.homes; views = set s.views id me.0 })
  nothing_known word s ruled at =
      let same = set-get_or s.words word 0 in
      let still : (read : ℕ) → get_or (set s.words word (get_or s.words word 0)) read 0 ≡ get_or s.words read 0 = λ read.
      ap (λ (words : List ℕ). get_or words read 0) same in
      same_views word (get_or s.words word 0) s ruled at (λ free. sym (still 0) ∙ free) (λ free. still 0 ∙ free)
      (still 1) (still 2) (λ waiter. still (bell_word waiter)) (λ vacant. sym (still 5) ∙ vacant)
