-- Bells are heard, silenced and waited at.
use Rattle.std.proofs.Common.{◌≡◌, ◌≢◌, ◌<◌, ⊎_elim, ℕ, true, set, get_or}
use Rattle.std.proofs.Common.{refl, sym, ap, ◌∙◌, subst, arith, length-set}
use Rattle.std.proofs.lemmas.List.{get_or-set_same, get_or-set_other}
use mathlib.Core.Logic.{dite}
use mathlib.Core.Option.{some}
use native.Mathlib.Decide.{ℕ_discrete}
use lib.ListN.{get_elem?}
use Rattle.atomic_table.specs.Table.{Allows, keeps}
use Rattle.atomic_table.specs.declared.shared.Seat.{Seat}
use Rattle.atomic_table.proofs.Lists.{at_set}
use Rattle.ob_shared_connection.specs.Ruled.{awaited, bell_word, is_silent, silent, silenced, AreCounted, IsShown}
use Rattle.ob_shared_connection.specs.Ruled.{IsVacant, Ruled, hearing_view, IsSeatOf, table_of}
use Rattle.ob_shared_connection.specs.Steps.{Awaits, HasLock, Hears, Knows}
use Rattle.ob_shared_connection.specs.declared.bell.Waiter.{Waiter}
use Rattle.ob_shared_connection.specs.declared.carried.Carried.{Carried}
use Rattle.ob_shared_connection.specs.declared.shared.Shared.{Shared}
use Rattle.ob_shared_connection.specs.declared.view.Bells.{Bells}
use Rattle.ob_shared_connection.specs.declared.view.View.{View}
use Rattle.ob_shared_connection.proofs.Bells.{awaited_else, awaited_now, bell_apart, bell_within, bells_apart, role_apart, same_or_other, silent_else, silenced_else}
use Rattle.ob_shared_connection.proofs.Shares.{shares_kept}
use Rattle.ob_shared_connection.proofs.Views.{St, fits_alone, counts_set, taken_set, fits_still, nothing_known, other_word}

-- the seat that has the lock knows anew of the bells, one of which is written
module _ (slots id : ℕ) (me : Knows) (waiter : Waiter) (lock : HasLock me) where
  bell_step : (next : ℕ) (bells : Bells) → (s : St) (ruled : Ruled s) → get_elem? s.views id ≡ some me.0
      → ((other : Waiter) → is_silent other bells ≡ true
      → get_or (set s.words (bell_word waiter) next) (bell_word other) 0 ≡ 0)
      → Ruled (record {
        words = set s.words (bell_word waiter) next;
        homes = s.homes;
        views = set s.views id (hearing_view bells me.0);
      })
  bell_step next bells s ruled at known =
      let past = ruled.past in
      let mine = ruled.fits id me.0 at in
      let words = ruled.words in
      let new = hearing_view bells me.0 in
      let word = bell_word waiter in
      let unlocked : get_or (set s.words word next) 0 0 ≡ get_or s.words 0 0 =
      get_or-set_other s.words word 0 next 0 (λ e. bell_apart waiter 0 (omega arith) (sym e)) in
      let fresh = fits_still past id me.0 new refl mine.numbered mine.told mine in
      record {
        past = past;
        words = length-set s.words word next ∙ words;
        free = λ free. absurd (cc ((ruled.free (sym unlocked ∙ free)).nobody id me.0 at, lock.holds));
        taken = λ is. taken_set s.views id me.0 new at (λ holds. holds) (λ _ named. named)
            (ruled.taken (λ free. is (unlocked ∙ free)));
        fits = fits_alone past s.views id new ruled.fits fresh;
        counts = other_word (λ number. AreCounted past.log number (set s.views id new)) s.words word 1 next
            (λ e. bell_apart waiter 1 (omega arith) (sym e))
            (counts_set past.log (get_or s.words 1 0) s.views id me.0 new at refl refl ruled.counts);
        shares = shares_kept s.views id me.0 new at refl refl refl ruled.shares;
        bells = λ other. record {
          rung = λ free. absurd (cc ((ruled.free (sym unlocked ∙ free)).nobody id me.0 at, lock.holds));
          known = λ seat view there has quiet. ⊎_elim
              (λ here. known other (ap (λ (v : View). is_silent other v.bells) here.1 ∙ quiet))
              (λ apart. absurd (apart.0 ((ruled.fits seat view apart.1).one has ∙ sym (mine.one lock.holds))))
              (at_set s.views id seat new view there);
        };
        shown = other_word (λ number. IsShown past number) s.words word 2 next
            (λ e. bell_apart waiter 2 (omega arith) (sym e)) ruled.shown;
        role = other_word (λ number. IsVacant past number) s.words word 5 next (λ e. role_apart waiter (sym e)) ruled.role;
      }

  -- the other bell is as it was, and so is what is known of it
  else_known : (next : ℕ) (bells : Bells) → (s : St) (ruled : Ruled s) → get_elem? s.views id ≡ some me.0
      → (other : Waiter) → other ≢ waiter → is_silent other bells ≡ is_silent other me.0.bells
      → is_silent other bells ≡ true → get_or (set s.words (bell_word waiter) next) (bell_word other) 0 ≡ 0
  else_known next bells s ruled at other apart same quiet =
      get_or-set_other s.words (bell_word waiter) (bell_word other) next 0 (bells_apart waiter other apart)
      ∙ (ruled.bells other).known id me.0 at lock.holds (sym same ∙ quiet)

  here_known : (next : ℕ) → (s : St) → Ruled s → next ≡ 0 → (other : Waiter) → other ≡ waiter
      → get_or (set s.words (bell_word waiter) next) (bell_word other) 0 ≡ 0
  here_known next s ruled none other same =
      let words = ruled.words in
      let within = bell_within waiter in
      ap (λ (w : Waiter). get_or (set s.words (bell_word waiter) next) (bell_word w) 0) same
      ∙ get_or-set_same s.words (bell_word waiter) next 0 (omega arith) ∙ none

  -- a bell may be silenced by the seat that has the lock
  pub may_silence :
      Allows Ruled slots id me (bell_word waiter) (λ _. 0)
      (λ _ new. new ≡ (hearing_view (silenced waiter me.0.bells) me.0, me.1))
  may_silence s ruled homes at small =
      let bells = silenced waiter me.0.bells in (
        hearing_view bells me.0,
        keeps,
        tt,
        bell_step 0 bells s ruled at (λ other quiet. ⊎_elim (λ same. here_known 0 s ruled refl other same)
            (λ apart. else_known 0 bells s ruled at other apart (silenced_else waiter other me.0.bells apart).0 quiet)
            (same_or_other waiter other)),
        refl,
      )

  -- it may tell there that someone is to wait
  pub may_await : (next : ℕ) → next ≡ 1 → Allows Ruled slots id me (bell_word waiter) (λ _. next) (λ _. Awaits waiter me next)
  may_await next one s ruled homes at small =
      let bells = awaited waiter me.0.bells in (
        hearing_view bells me.0,
        keeps,
        tt,
        bell_step next bells s ruled at (λ other quiet. ⊎_elim
            (λ same. absurd (awaited_now waiter me.0.bells (ap (λ (w : Waiter). is_silent w bells) (sym same) ∙ quiet)))
            (λ apart. else_known next bells s ruled at other apart (awaited_else waiter other me.0.bells apart) quiet)
            (same_or_other waiter other)),
        record { is = refl; told = one },
      )

  -- and it may hear it
  pub may_hear : Allows Ruled slots id me (bell_word waiter) (λ n. n) (Hears waiter me)
  may_hear s ruled homes at small =
      let word = bell_word waiter in
      let found = get_or s.words word 0 in
      dite (ℕ_discrete found 0)
      (λ none. (let bells = silent waiter me.0.bells in (
        hearing_view bells me.0,
        keeps,
        tt,
        bell_step found bells s ruled at (λ other quiet. ⊎_elim
            (λ is. here_known found s ruled none other is)
            (λ apart. else_known found bells s ruled at other apart (silent_else waiter other me.0.bells apart).0 quiet)
            (same_or_other waiter other)),
        record { none = λ _. refl; some_one = λ some_one. absurd (some_one none) },
      )))
      (λ some_one. (
        me.0,
        keeps,
        tt,
        nothing_known slots id me word s ruled at,
        record { none = λ none. absurd (some_one none); some_one = λ _. refl },
      ))

-- what a step at a bell wants
pub at_bell : (shared : Shared) (seat : Seat Carried View) (bell : Waiter) (word : ℕ) (next : ℕ → ℕ)
    (told : ℕ → Knows → Type 0) → IsSeatOf shared seat → word ≡ bell_word bell → word < 6
    → Allows Ruled shared.table.shared.table_id.slots seat.id seat.me (bell_word bell) next told
    → (seat.table_id ≡ table_of shared) × (word < (table_of shared).words)
    × Allows Ruled shared.table.shared.table_id.slots seat.id seat.me word next told
at_bell shared seat bell word next told table is within allows = (
  table,
  omega (arith, shared.words),
  subst (λ (at : ℕ). Allows Ruled shared.table.shared.table_id.slots seat.id seat.me at next told) (sym is) allows,
)
