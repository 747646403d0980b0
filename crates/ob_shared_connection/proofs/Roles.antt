-- The role of the one that sends is taken and given up.
use Rattle.std.proofs.Common.{◌≡◌, ◌≢◌, ℕ, Bool, true, false, List, [], set, get_or}
use Rattle.std.proofs.Common.{refl, sym, ◌∙◌, arith, length-set}
use Rattle.std.proofs.lemmas.List.{append-nil, get_or-set_same, get_or-set_other}
use Rattle.std.proofs.lemmas.List.Elements.{All-nil}
use mathlib.Core.Logic.{dite}
use mathlib.Core.Option.{Option, none, some, some-injective, some-ne-none}
use native.Mathlib.Decide.{ℕ_discrete}
use lib.ListN.{get_elem?}
use Rattle.atomic_table.specs.Table.{Allows, keeps}
use Rattle.ob_shared_connection.specs.Ruled.{bell_word, given_out, glance_word, handles_word, lock_word, role_word, vacant}
use Rattle.ob_shared_connection.specs.Ruled.{AreCounted, Fits, IsShown, Past, Ruled, resigned_view, sending_view}
use Rattle.ob_shared_connection.specs.Steps.{Appoints, HasLock, Knows}
use Rattle.ob_shared_connection.specs.declared.bell.Waiter.{Waiter}
use Rattle.ob_shared_connection.specs.declared.view.View.{View}
use Rattle.ob_shared_connection.proofs.Bells.{known_set, role_apart}
use Rattle.ob_shared_connection.proofs.Shares.{shares_kept}
use Rattle.ob_shared_connection.proofs.Views.{St, Removes, counts_set, fits_set, nobody_still, other_word, same_views, taken_set}

-- a word of the role is written: the bells are as they were
role_bell : (words : List ℕ) (next : ℕ) (waiter : Waiter)
    → get_or (set words role_word next) (bell_word waiter) 0 ≡ get_or words (bell_word waiter) 0
role_bell words next waiter = get_or-set_other words role_word (bell_word waiter) next 0 (role_apart waiter)

-- what a seat knows fits, whoever else sends
others_fit : (past : Past) (sender : Option ℕ) (seat : ℕ) (view : View) → (view.sends ≡ true → sender ≡ some seat)
    → Fits past seat view → Fits (record past { sender = sender }) seat view
others_fit past sender seat view sends fits = record {
  opened = fits.opened;
  budgeted = fits.budgeted;
  part = fits.part;
  told = fits.told;
  numbered = fits.numbered;
  own = fits.own;
  one = fits.one;
  whole = fits.whole;
  current = fits.current;
  seen_shown = fits.seen_shown;
  sender_is = sends;
  untouched = fits.untouched;
}

module _ (slots id : ℕ) (me : Knows) where
  -- the role is in other hands, or in none, and all else is as it was
  passes : (next : ℕ) (sender : Option ℕ) (sends : Bool) → (s : St) (ruled : Ruled s) → get_elem? s.views id ≡ some me.0
      → ((seat : ℕ) (view : View) → seat ≢ id → get_elem? s.views seat ≡ some view → view.sends ≡ true
      → sender ≡ some seat)
      → Fits (record ruled.past { sender = sender }) id (record me.0 { sends = sends }) → (next ≡ vacant → sender ≡ none)
      → Ruled (record {
        words = set s.words role_word next;
        homes = s.homes;
        views = set s.views id (record me.0 { sends = sends });
      })
  passes next sender sends s ruled at others fresh unsent =
      let past = ruled.past in
      let then_past = record past { sender = sender } in
      let new = record me.0 { sends = sends } in
      let words = ruled.words in
      let unlocked : get_or (set s.words role_word next) lock_word 0 ≡ get_or s.words lock_word 0 =
      get_or-set_other s.words role_word lock_word next 0 (λ e. omega arith) in
      record {
        past = then_past;
        words = length-set s.words role_word next ∙ words;
        free = λ free. (let before = ruled.free (sym unlocked ∙ free) in
            record {
              home = record {
                carried = before.home.carried;
                here = before.home.here;
                left = before.home.left;
                covered = before.home.covered;
                all_shown = before.home.all_shown;
              };
              nobody = nobody_still s.views id new before.nobody (before.nobody id me.0 at);
            });
        taken = λ is. taken_set s.views id me.0 new at (λ holds. holds) (λ _ named. named)
            (ruled.taken (λ free. is (unlocked ∙ free)));
        shares = shares_kept s.views id me.0 new at refl refl refl ruled.shares;
        bells = λ waiter. record {
          rung = λ free due. role_bell s.words next waiter ∙ (ruled.bells waiter).rung (sym unlocked ∙ free) due;
          known = λ seat view there has quiet. role_bell s.words next waiter
              ∙ known_set waiter (get_or s.words (bell_word waiter) 0) s.views id me.0 new at (λ holds. holds) refl
              (ruled.bells waiter).known seat view there has quiet;
        };
        fits = fits_set past then_past s.views id new
            (λ seat view apart there fits. others_fit past sender seat view (others seat view apart there) fits)
            ruled.fits fresh;
        counts = other_word (λ number. AreCounted past.log number (set s.views id new)) s.words role_word handles_word next
            (λ e. omega arith)
            (counts_set past.log (get_or s.words handles_word 0) s.views id me.0 new at refl refl ruled.counts);
        shown = other_word (λ number. IsShown then_past number) s.words role_word glance_word next (λ e. omega arith) (record {
          begins = ruled.shown.begins;
          legal = ruled.shown.legal;
          published = ruled.shown.published;
          small = ruled.shown.small;
        });
        role = λ is. unsent (sym (get_or-set_same s.words role_word next 0 (omega arith)) ∙ is);
      }

  -- a seat that has the lock has seen all calls, so that it may send if nobody does
  appoints : HasLock me → (s : St) (ruled : Ruled s) → get_elem? s.views id ≡ some me.0
      → get_or s.words role_word 0 ≡ vacant
      → Ruled (record { words = set s.words role_word given_out; homes = s.homes; views = set s.views id (sending_view me.0) })
  appoints lock s ruled at found =
      let past = ruled.past in
      let mine = ruled.fits id me.0 at in
      let whole = mine.whole lock.holds in
      passes given_out (some id) true s ruled at
      (λ seat view apart there sends. absurd (some-ne-none seat
      (sym ((ruled.fits seat view there).sender_is sends) ∙ ruled.role found)))
      (record {
        opened = mine.opened;
        budgeted = mine.budgeted;
        part = record { rest = []; whole = append-nil me.0.seen ∙ whole };
        told = mine.told;
        numbered = mine.numbered;
        own = mine.own;
        one = mine.one;
        whole = mine.whole;
        current = mine.current;
        seen_shown = mine.seen_shown;
        sender_is = λ _. refl;
        untouched = λ _. All-nil Removes;
      })
      (λ never. absurd (omega (arith, never)))

  pub may_appoint : HasLock me → Allows Ruled slots id me role_word (λ _. given_out) (Appoints me)
  may_appoint lock s ruled homes at small =
      dite (ℕ_discrete (get_or s.words role_word 0) vacant)
      (λ found. (
        sending_view me.0,
        keeps,
        tt,
        appoints lock s ruled at found,
        record { sends = λ _. refl; kept = λ other. absurd (other found) },
      ))
      (λ other. (
        me.0,
        keeps,
        tt,
        (let words = ruled.words in
            same_views slots id me role_word given_out s ruled at
            (λ free. sym (get_or-set_other s.words role_word lock_word given_out 0 (λ e. omega arith)) ∙ free)
            (λ free. get_or-set_other s.words role_word lock_word given_out 0 (λ e. omega arith) ∙ free)
            (get_or-set_other s.words role_word handles_word given_out 0 (λ e. omega arith))
            (get_or-set_other s.words role_word glance_word given_out 0 (λ e. omega arith))
            (role_bell s.words given_out)
            (λ is. absurd (omega (arith, sym (get_or-set_same s.words role_word given_out 0 (omega arith)) ∙ is)))),
        record { sends = λ found. absurd (other found); kept = λ _. refl },
      ))

  -- the seat that sends may give the role up
  pub may_resign : me.0.sends ≡ true
      → Allows Ruled slots id me role_word (λ _. vacant) (λ _ new. new ≡ (resigned_view me.0, me.1))
  may_resign sends s ruled homes at small =
      let mine = ruled.fits id me.0 at in (
        resigned_view me.0,
        keeps,
        tt,
        passes vacant none false s ruled at
            (λ seat view apart there other. absurd (apart (some-injective seat id
            (sym ((ruled.fits seat view there).sender_is other) ∙ mine.sender_is sends))))
            (record {
              opened = mine.opened;
              budgeted = mine.budgeted;
              part = mine.part;
              told = mine.told;
              numbered = mine.numbered;
              own = mine.own;
              one = mine.one;
              whole = mine.whole;
              current = mine.current;
              seen_shown = mine.seen_shown;
              sender_is = λ never. absurd (cc never);
              untouched = λ never. absurd (cc never);
            })
            (λ _. refl),
        refl,
      )
