-- The lock is taken and let go.
use Rattle.std.proofs.Common.{◌≡◌, ◌≢◌, ⊎_elim, ℕ, true, false, List, [], ◌∷◌, ◌++◌, set, get_or}
use Rattle.std.proofs.Common.{refl, sym, ap, ◌∙◌, subst, arith, length-set, eqb}
use Rattle.std.proofs.lemmas.List.{append-nil, get_or-set_same, get_or-set_other}
use Rattle.std.proofs.lemmas.List.Elements.{All-nil}
use mathlib.Core.Logic.{dite}
use mathlib.Core.Option.{Option, some}
use native.Mathlib.Decide.{ℕ_discrete}
use prog.Atomic.{either}
use lib.ListN.{get_elem?}
use Rattle.atomic_table.specs.Table.{State, Act, Allows, Splits, Joins, Valid, keeps, takes, gives, stepped, carried_after, opening}
use Rattle.atomic_table.specs.Table as table
use Rattle.atomic_table.proofs.Lists.{at_set, exchanged, set_here}
use Rattle.ob_seq.specs.Rows.{Settings}
use Rattle.ob_shared_connection.specs.Ruled.{bell_word, is_silent, AreCounted, Fits, IsShown, IsVacant, Ruled}
use Rattle.ob_shared_connection.specs.Ruled.{free_view, held_view, settings_of}
use Rattle.ob_shared_connection.specs.Values.{IsCovered, Within, cover_of, IsBeginning, commands_by, commands_of}
use Rattle.ob_shared_connection.specs.Values.{IsLeftBy, is_due, moment_after}
use Rattle.ob_shared_connection.specs.Steps.{IsRung, MayLeave, Knows, Tries, carried_in}
use Rattle.ob_shared_connection.specs.declared.bell.Waiter.{Waiter}
use Rattle.ob_shared_connection.specs.declared.call.Call.{Call}
use Rattle.ob_shared_connection.specs.declared.carried.Carried.{Carried}
use Rattle.ob_shared_connection.specs.declared.view.View.{View}
use Rattle.ob_shared_connection.proofs.Bells.{known_set, none_silent, other_bell}
use Rattle.ob_shared_connection.proofs.Shares.{shares_kept}
use Rattle.ob_shared_connection.proofs.Lists.{at_below, one_set}
use Rattle.ob_shared_connection.proofs.Views.{St, Removes, fits_set, fits_alone, nobody_else, counts_set, other_word, same_views}

module _ (slots id : ℕ) (me : Knows) where
  -- a try that found the lock free
  takes_lock : (next : ℕ) → next ≢ 0 → me.0.named ≡ true → (s : St) → Ruled s → get_elem? s.views id ≡ some me.0
      → get_or s.words 0 0 ≡ 0
      → (w : View) × (a : Act Carried) × Valid s.homes me.1 a × Ruled (stepped s 0 next id me.1 w a)
      × Tries me (get_or s.words 0 0) (w, carried_after me.1 a)
  takes_lock next taken named s ruled at free =
      let past = ruled.past in
      let home = (ruled.free free).home in
      let nobody = (ruled.free free).nobody in
      let mine = ruled.fits id me.0 at in
      let between = mine.part.rest in
      let whole = mine.part.whole in
      let words = ruled.words in
      let new = held_view (me.0.seen ++ between) me.0 in
      let then_past = record past { holder = id } in
      let fresh : Fits then_past id new = record {
        opened = mine.opened;
        budgeted = mine.budgeted;
        part = record { rest = []; whole = append-nil (me.0.seen ++ between) ∙ whole };
        told = mine.told;
        numbered = mine.numbered;
        own = mine.own;
        one = λ _. refl;
        whole = λ _. whole;
        current = λ _ _. home.all_shown;
        seen_shown = λ never. absurd (cc never);
        sender_is = mine.sender_is;
        untouched = λ _. All-nil Removes;
      } in
      let still : (seat : ℕ) (view : View) → seat ≢ id → get_elem? s.views seat ≡ some view → Fits past seat view
      → Fits then_past seat view = λ seat view apart there old. (let has_not = nobody seat view there in record {
        opened = old.opened;
        budgeted = old.budgeted;
        part = old.part;
        told = old.told;
        numbered = old.numbered;
        own = old.own;
        one = λ holds. absurd (cc (holds, has_not));
        whole = λ holds. absurd (cc (holds, has_not));
        current = λ holds. absurd (cc (holds, has_not));
        seen_shown = old.seen_shown;
        sender_is = old.sender_is;
        untouched = old.untouched;
      }) in (
        new,
        takes 0 home.carried,
        ap (λ (homes : List (Option Carried)). get_elem? homes 0) home.here,
        record {
          past = then_past;
          words = length-set s.words 0 next ∙ words;
          free = λ again. absurd (taken (sym (get_or-set_same s.words 0 next 0 (omega arith)) ∙ again));
          taken = λ _. record {
            seat = id;
            view = new;
            at = set_here s.views id new (at_below s.views id me.0 at);
            holds = refl;
            named = named;
          };
          shares = shares_kept s.views id me.0 new at refl refl refl ruled.shares;
          bells = λ waiter. record {
            rung = λ again. absurd (taken (sym (get_or-set_same s.words 0 next 0 (omega arith)) ∙ again));
            known = λ seat view there has quiet. ⊎_elim
                (λ here. absurd (none_silent waiter (ap (λ (v : View). is_silent waiter v.bells) here.1 ∙ quiet)))
                (λ apart. absurd (cc (has, nobody seat view apart.1))) (at_set s.views id seat new view there);
          };
          fits = fits_set past then_past s.views id new still ruled.fits fresh;
          counts = other_word (λ number. AreCounted past.log number (set s.views id new)) s.words 0 1 next
              (λ e. omega arith)
              (counts_set past.log (get_or s.words 1 0) s.views id me.0 new at refl refl ruled.counts);
          shown = other_word (λ number. IsShown then_past number) s.words 0 2 next (λ e. omega arith) (record {
            begins = ruled.shown.begins;
            legal = ruled.shown.legal;
            published = ruled.shown.published;
            small = ruled.shown.small;
          });
          role = other_word (λ number. IsVacant then_past number) s.words 0 5 next (λ e. omega arith) ruled.role;
        },
        record {
          taken = λ _. record {
            between = between;
            view = refl;
            slot = refl;
            own = λ named there. mine.own there ∙ ap (λ (seat : ℕ). commands_by seat past.log) (sym (mine.numbered named))
                ∙ ap (λ (log : List Call). commands_by me.0.caller log) (sym whole);
            untouched = mine.untouched;
            left = λ there. subst (λ (log : List Call). IsLeftBy (settings_of me.0) log home.carried.connection) (sym whole)
                (subst (λ (settings : Settings). IsLeftBy settings past.log home.carried.connection) (sym (mine.opened there))
                home.left);
            covered = λ there. subst (λ (budget : Within). IsCovered budget home.carried.connection (cover_of home.carried))
                (sym (mine.budgeted there)) home.covered;
          };
          missed = λ some_one. absurd (some_one free);
        },
      )

  -- a try that found it taken
  finds_taken : (next : ℕ) → next ≢ 0 → (s : St) → Ruled s → get_elem? s.views id ≡ some me.0
      → get_or s.words 0 0 ≢ 0
      → (w : View) × (a : Act Carried) × Valid s.homes me.1 a × Ruled (stepped s 0 next id me.1 w a)
      × Tries me (get_or s.words 0 0) (w, carried_after me.1 a)
  finds_taken next taken s ruled at found =
      let words = ruled.words in (
        me.0,
        keeps,
        tt,
        same_views slots id me 0 next s ruled at
            (λ again. absurd (taken (sym (get_or-set_same s.words 0 next 0 (omega arith)) ∙ again)))
            (λ free. absurd (found free))
            (get_or-set_other s.words 0 1 next 0 (λ e. omega arith))
            (get_or-set_other s.words 0 2 next 0 (λ e. omega arith)) (other_bell s.words 0 next (omega arith))
            (λ vacant. sym (get_or-set_other s.words 0 5 next 0 (λ e. omega arith)) ∙ vacant),
        record { taken = λ free. absurd (found free); missed = λ _. refl },
      )

  -- a compare-exchange of the lock
  pub may_try : (next : ℕ) → next ≢ 0 → me.0.named ≡ true → Allows Ruled slots id me 0 (λ n. either (eqb n 0) next n) (Tries me)
  may_try next taken named s ruled homes at small =
      exchanged (get_or s.words 0 0) 0 next
      (λ word. (w : View) × (a : Act Carried) × Valid s.homes me.1 a × Ruled (stepped s 0 word id me.1 w a)
      × Tries me (get_or s.words 0 0) (w, carried_after me.1 a))
      (λ free. takes_lock next taken named s ruled at free)
      (λ found. finds_taken (get_or s.words 0 0) found s ruled at found)

  -- a swap of the lock
  pub may_ask : (next : ℕ) → next ≢ 0 → me.0.named ≡ true → Allows Ruled slots id me 0 (λ _. next) (Tries me)
  may_ask next taken named s ruled homes at small =
      dite (ℕ_discrete (get_or s.words 0 0) 0) (λ free. takes_lock next taken named s ruled at free)
      (λ found. finds_taken next taken s ruled at found)

-- a seat that has the lock may let it go, once all is published
lets_go : (slots id : ℕ) (view : View) (carried : Carried) → slots ≡ 1 → view.holds ≡ true → view.shows ≡ true
    → view.spent ≡ false → IsLeftBy (settings_of view) view.seen carried.connection
    → IsCovered view.budget carried.connection (cover_of carried) → ((waiter : Waiter) → IsRung waiter view)
    → Allows Ruled slots id (view, (0, carried) ∷ []) 0 (λ _. 0) (λ _ new. new ≡ (free_view view, []))
lets_go slots id view carried one holds shows there left covered rung s ruled homes at small =
    let past = ruled.past in
    let mine = ruled.fits id view at in
    let words = ruled.words in
    let new = free_view view in
    let all_shown = mine.current holds shows in
    let fresh : Fits past id new = record {
      opened = mine.opened;
      budgeted = mine.budgeted;
      part = mine.part;
      told = mine.told;
      numbered = mine.numbered;
      own = mine.own;
      one = λ never. absurd (cc never);
      whole = λ never. absurd (cc never);
      current = λ never. absurd (cc never);
      seen_shown = λ _. subst (λ (all : List Call). IsBeginning view.seen all) (sym all_shown) mine.part;
      sender_is = mine.sender_is;
      untouched = mine.untouched;
    } in (
      new,
      gives,
      tt,
      record {
        past = past;
        words = length-set s.words 0 0 ∙ words;
        free = λ _. record {
          home = record {
            carried = carried;
            here = one_set s.homes (some carried) (homes ∙ one);
            left = subst (λ (log : List Call). IsLeftBy past.settings log carried.connection) (mine.whole holds)
                (subst (λ (settings : Settings). IsLeftBy settings view.seen carried.connection) (mine.opened there) left);
            covered = subst (λ (budget : Within). IsCovered budget carried.connection (cover_of carried)) (mine.budgeted there) covered;
            all_shown = all_shown;
          };
          nobody = nobody_else past s.views id new ruled.fits (mine.one holds) refl;
        };
        taken = λ is. absurd (is (get_or-set_same s.words 0 0 0 (omega arith)));
        shares = shares_kept s.views id view new at refl refl refl ruled.shares;
        bells = λ waiter. (let same_bell = other_bell s.words 0 0 (omega arith) waiter in record {
          rung = λ _ due. same_bell ∙ (ruled.bells waiter).known id view at holds (rung waiter
              (subst (λ (log : List Call). is_due (moment_after waiter (settings_of view) (commands_of log)) ≡ true)
              (sym (mine.whole holds))
              (subst (λ (settings : Settings). is_due (moment_after waiter settings (commands_of past.log)) ≡ true)
              (sym (mine.opened there)) due)));
          known = λ seat other at_other has quiet. same_bell
              ∙ known_set waiter (get_or s.words (bell_word waiter) 0) s.views id view new at
              (λ never. absurd (cc never)) refl (ruled.bells waiter).known seat other at_other has quiet;
        });
        fits = fits_alone past s.views id new ruled.fits fresh;
        counts = other_word (λ number. AreCounted past.log number (set s.views id new)) s.words 0 1 0 (λ e. omega arith)
            (counts_set past.log (get_or s.words 1 0) s.views id view new at refl refl ruled.counts);
        shown = other_word (λ number. IsShown past number) s.words 0 2 0 (λ e. omega arith) ruled.shown;
        role = other_word (λ number. IsVacant past number) s.words 0 5 0 (λ e. omega arith) ruled.role;
      },
      refl,
    )

pub may_unlock : (slots id : ℕ) (me : Knows) → slots ≡ 1 → MayLeave me
    → Allows Ruled slots id me 0 (λ _. 0) (λ _ new. new ≡ (free_view me.0, table.rest me.1))
may_unlock slots id me one may =
    subst (λ (slots_of : List (ℕ × Carried)).
    Allows Ruled slots id (me.0, slots_of) 0 (λ _. 0) (λ _ new. new ≡ (free_view me.0, table.rest slots_of)))
    (sym may.lock.slot)
    (lets_go slots id me.0 (carried_in me.1) one may.lock.holds may.shows may.lock.seat.there may.left may.covered may.rung)
