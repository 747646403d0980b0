-- What a handle is told at the lock, and what a call leaves.
use Rattle.std.proofs.Common.{◌≡◌, ℕ, ◌<◌, ◌^◌, List, [], ◌∷◌, ◌++◌, refl, sym, ap, ◌∙◌, subst, append_assoc, Option, Result, Ok}
use Rattle.std.proofs.lemmas.List.{append-nil}
use Rattle.atomic_table.specs.Seated.{TableId}
use Rattle.atomic_table.specs.Table.{rest}
use Rattle.ob_types.specs.Marks.{packed}
use Rattle.ob_types.specs.declared.command.Command.{Command}
use Rattle.ob_connection.specs.Connected.{Connected, StandsFor}
use Rattle.ob_covered.specs.Cover.{CoverValue}
use Rattle.ob_shared_connection.specs.Calls.{Continues, IsCall, IsLock}
use Rattle.ob_shared_connection.specs.Values.{IsCovered, IsUnder, budget_of, cover_of, calls_of, commands_by}
use Rattle.ob_shared_connection.specs.Values.{commands_of, IsLeftBy, recovered, IsGlance, IsLegal, glance_after}
use Rattle.ob_shared_connection.specs.Ruled.{settings_of, view_with}
use Rattle.ob_shared_connection.specs.Steps.{Holds, IsNamed, Knows, Locks, Reads, Rests, carried_in, connected_in}
use Rattle.ob_shared_connection.specs.Steps.{cover_in, handle_of, held_of}
use Rattle.ob_shared_connection.specs.declared.call.Call.{Call}
use Rattle.ob_shared_connection.specs.declared.carried.Carried.{Carried}
use Rattle.ob_shared_connection.specs.declared.glance.Glance.{Glance}
use Rattle.ob_shared_connection.specs.declared.view.View.{View}
use Rattle.ob_shared_connection.proofs.Lists.{commands_by-append, commands_of-more, first_of_nothing, nothing_more, own_added}

-- what a lock told
module _ (old new : Knows) (named : IsNamed old.0) (locks : Locks old new) where
  log : List Call
  log = old.0.seen ++ locks.between

  seat_left : IsLeftBy (settings_of new.0) new.0.seen (connected_in new.1)
  seat_left =
      subst (λ (view : View). IsLeftBy (settings_of view) view.seen (connected_in new.1)) (sym locks.view)
      (locks.left named.there)

  seat_covered : IsCovered new.0.budget (connected_in new.1) (cover_in new.1)
  seat_covered =
      subst (λ (view : View). IsCovered view.budget (connected_in new.1) (cover_in new.1)) (sym locks.view)
      (locks.covered named.there)

  -- a seat that took the lock has it
  pub has_lock : old.1 ≡ [] → Holds new
  has_lock none = record {
    lock = record {
      seat = record {
        named = ap (λ (view : View). view.named) locks.view ∙ named.named;
        there = ap (λ (view : View). view.spent) locks.view ∙ named.there;
        own = ap (λ (view : View). view.mine) locks.view ∙ locks.own named.named named.there
            ∙ ap (λ (view : View). commands_by view.caller view.seen) (sym locks.view);
      };
      holds = ap (λ (view : View). view.holds) locks.view;
      slot = locks.slot ∙ ap (λ (slots : List (ℕ × Carried)). (0, carried_in new.1) ∷ slots) none;
    };
    left = seat_left;
    covered = seat_covered;
    unheard_yet = ap (λ (view : View). view.bells) locks.view;
  }

  -- as contracts say it
  pub is_lock : (table : TableId) → IsLock (handle_of table old.0) (held_of table new)
  is_lock table = record {
    between = locks.between;
    sees = ap (handle_of table) locks.view;
    own = locks.own named.named named.there
        ∙ ap (λ (view : View). commands_by old.0.caller view.seen) (sym locks.view);
    others = nothing_more (commands_by old.0.caller old.0.seen) (commands_by old.0.caller locks.between)
        (sym (commands_by-append old.0.caller old.0.seen locks.between) ∙ sym (locks.own named.named named.there)
        ∙ named.own);
    untouched = locks.untouched;
    left = seat_left;
    covered = seat_covered;
  }

abbrev glance_of : ℕ → ℕ → Glance
glance_of word total = record { word = word; total = total }

-- what a read told
module _ (old : Knows) (found : ℕ) (new : Knows) (rests : Rests old) (reads : Reads old found new) where
  abbrev caller : ℕ
  caller = old.0.caller

  abbrev read : List Call
  read = old.0.seen ++ reads.between

  -- it told of calls of other handles alone
  others_made : commands_by caller reads.between ≡ []
  others_made =
      first_of_nothing (commands_by caller reads.between) (commands_by caller reads.later)
      (nothing_more (commands_by caller old.0.seen)
      (commands_by caller reads.between ++ commands_by caller reads.later)
      (sym (append_assoc (commands_by caller old.0.seen) (commands_by caller reads.between)
      (commands_by caller reads.later))
      ∙ ap (λ (first : List Command). first ++ commands_by caller reads.later)
      (sym (commands_by-append caller old.0.seen reads.between))
      ∙ sym (commands_by-append caller read reads.later)
      ∙ sym (reads.own rests.seat.named rests.seat.there) ∙ rests.seat.own))

  own_read : old.0.mine ≡ commands_by caller read
  own_read =
      rests.seat.own ∙ sym (append-nil (commands_by caller old.0.seen))
      ∙ ap (λ (more : List Command). commands_by caller old.0.seen ++ more) (sym others_made)
      ∙ sym (commands_by-append caller old.0.seen reads.between)

  -- the seat is at rest still
  pub still_rests : Rests new
  still_rests = subst (λ (me : Knows). Rests me) (sym reads.is) (record {
    seat = record { named = rests.seat.named; there = rests.seat.there; own = own_read };
    free = rests.free;
    slots = rests.slots;
  })

  -- and what is read is as contracts say it
  pub is_glance : (table : TableId) (word total : ℕ)
      → ((w t : ℕ) → t < 2 ^ 32 → packed w t ≡ found → (word ≡ w) × (total ≡ t))
      → IsGlance (handle_of table old.0) (record { word = word; total = total }) (handle_of table new.0)
  is_glance table word total undoes =
      let after = glance_after (settings_of old.0) read in
      let parts = undoes after.word after.total (reads.small rests.seat.there) (sym (reads.shows rests.seat.there)) in
      let seen : new.0.seen ≡ read = ap (λ (me : Knows). me.0.seen) reads.is in record {
        between = reads.between;
        sees = ap (λ (me : Knows). handle_of table me.0) reads.is;
        shows = glance_parts word total after parts.0 parts.1
            ∙ ap (λ (log : List Call). glance_after (settings_of old.0) log) (sym seen);
        legal = subst (λ (log : List Call). IsLegal (settings_of old.0) log) (sym seen)
            (reads.legal rests.seat.there);
        own = own_read ∙ ap (λ (log : List Call). commands_by caller log) (sym seen);
        others = others_made;
        untouched = reads.untouched;
      }
    where
      glance_parts : (w t : ℕ) (glance : Glance) → w ≡ glance.word → t ≡ glance.total → glance_of w t ≡ glance
      glance_parts w t glance same_word same_total = λ i. glance_of (same_word i) (same_total i)

-- what lies under the lock is covered, before a call and after one that left the cover
module _ (me : Knows) (before : Carried) (holds : Holds me) (had : me.1 ≡ (0, before) ∷ rest me.1) where
  covered_now : IsCovered me.0.budget before.connection (cover_of before)
  covered_now =
      subst (λ (carried : Carried). IsCovered me.0.budget carried.connection (cover_of carried)) (ap carried_in had) holds.covered

  pub under_now : IsUnder before.connection (cover_of before)
  under_now = covered_now.under

  -- after one that left the seat at its budget
  pub covered_after : (after : Carried) → budget_of (cover_of after) ≡ budget_of (cover_of before)
      → IsUnder after.connection (cover_of after) → IsCovered me.0.budget after.connection (cover_of after)
  covered_after after same under = record { budget_is = same ∙ covered_now.budget_is; under = under }

pub covered_still : (me : Knows) (before after : Carried) (holds : Holds me) (had : me.1 ≡ (0, before) ∷ rest me.1)
    → cover_of after ≡ cover_of before → IsUnder after.connection (cover_of after)
    → IsCovered me.0.budget after.connection (cover_of after)
covered_still me before after holds had same under = covered_after me before holds had after (ap budget_of same) under

-- what a call leaves in a seat that has the lock, of which nothing changed but the cover
module _ (me : Knows) (before after : Carried) (holds : Holds me) (had : me.1 ≡ (0, before) ∷ rest me.1)
    (covered : IsCovered me.0.budget after.connection (cover_of after)) where
  was : carried_in me.1 ≡ before
  was = ap carried_in had

  -- what the seat knows then, if the connection is as it was
  abbrev pub recovers : Knows
  recovers = (me.0, (0, after) ∷ rest me.1)

  -- it has the lock still
  pub still_recovers : after.connection ≡ before.connection → Holds recovers
  still_recovers same = record {
    lock = record {
      seat = holds.lock.seat;
      holds = holds.lock.holds;
      slot = ap (λ (slots : List (ℕ × Carried)). (0, after) ∷ rest slots) holds.lock.slot;
    };
    left = subst (λ (connected : Connected). IsLeftBy (settings_of me.0) me.0.seen connected)
        (ap (λ (carried : Carried). carried.connection) was ∙ sym same) holds.left;
    covered = covered;
    unheard_yet = holds.unheard_yet;
  }

  -- and contracts see the cover alone changed
  pub is_recovered : (table : TableId) → after.connection ≡ before.connection
      → held_of table recovers ≡ recovered (cover_of after) (held_of table me)
  is_recovered table same =
      ap (λ (connected : Connected). record {
        connected = connected;
        cover = cover_of after;
        handle = handle_of table me.0;
      }) (same ∙ ap (λ (carried : Carried). carried.connection) (sym was))

-- what an accepted call leaves
module _ (me : Knows) (commands : List Command) (before after : Carried) (holds : Holds me)
    (had : me.1 ≡ (0, before) ∷ rest me.1) (goes : Continues before.connection commands after.connection)
    (covered : IsCovered me.0.budget after.connection (cover_of after)) where
  -- what the seat knows then
  abbrev pub next : Knows
  next = (view_with commands me.0, (0, after) ∷ rest me.1)

  found : carried_in me.1 ≡ before
  found = ap carried_in had

  left_next : IsLeftBy (settings_of me.0) (me.0.seen ++ calls_of me.0.caller commands) after.connection
  left_next = record {
    settings_are = goes.settings ∙ ap (λ (carried : Carried). carried.connection.unsent.settings) (sym found)
        ∙ holds.left.settings_are;
    stands = subst (λ (history : List Command). StandsFor after.connection history)
        (sym (commands_of-more me.0.caller me.0.seen commands))
        (goes.stands (commands_of me.0.seen)
        (subst (λ (carried : Carried). StandsFor carried.connection (commands_of me.0.seen)) found holds.left.stands));
  }

  -- it has the lock still
  pub still_holds : Holds next
  still_holds = record {
    lock = record {
      seat = record {
        named = holds.lock.seat.named;
        there = holds.lock.seat.there;
        own = ap (λ (first : List Command). first ++ commands) holds.lock.seat.own
            ∙ sym (own_added me.0.caller me.0.seen commands);
      };
      holds = holds.lock.holds;
      slot = ap (λ (slots : List (ℕ × Carried)). (0, after) ∷ rest slots) holds.lock.slot;
    };
    left = left_next;
    covered = covered;
    unheard_yet = holds.unheard_yet;
  }

  -- and the call is as contracts say it, of the connection under the cover that it has then
  pub is_call_under : {A E : Type 0} (Uncovered : E → Type 0) (Does : Connected → Result A E → Connected → Type 0) (table : TableId) (answer : A)
      → Does before.connection (Ok answer) after.connection
      → IsCall Uncovered Does commands (recovered (cover_of after) (held_of table me)) (Ok answer) (held_of table next)
  is_call_under Uncovered Does table answer does = record {
    does = subst (λ (carried : Carried). Does carried.connection (Ok answer) after.connection) (sym found) does;
    listed = refl;
    refused = tt;
    left = left_next;
    kept = refl;
    covered = covered;
    lacks = tt;
  }

  -- so it is, if the cover is as it was
  pub is_call : {A E : Type 0} (Uncovered : E → Type 0) (Does : Connected → Result A E → Connected → Type 0) (table : TableId) (answer : A)
      → cover_of after ≡ cover_of before → Does before.connection (Ok answer) after.connection
      → IsCall Uncovered Does commands (held_of table me) (Ok answer) (held_of table next)
  is_call Uncovered Does table answer same does =
      subst (λ (cover : Option CoverValue).
      IsCall Uncovered Does commands (recovered cover (held_of table me)) (Ok answer) (held_of table next))
      (same ∙ ap cover_of (sym found)) (is_call_under Uncovered Does table answer does)
