-- What is published is read, calls join the list, and all is published.
use Rattle.std.proofs.Common.{◌≡◌, ◌≢◌, ℕ, true, false, List, [], ◌++◌, ◌<◌, ◌≤◌, ◌+◌, set, get_or, length}
use Rattle.std.proofs.Common.{refl, sym, ap, ◌∙◌, subst, arith, length-set, Bool}
use Rattle.std.proofs.lemmas.List.{append-nil, append_assoc, get_or-set_same, get_or-set_other, set-get_or, length-append, length-map}
use Rattle.std.proofs.lemmas.List.Elements.{All-append, All-nil}
use mathlib.Core.Logic.{dite}
use mathlib.Core.Option.{some, some-injective}
use native.Mathlib.Decide.{ℕ_discrete}
use lib.ListN.{get_elem?}
use Rattle.atomic_table.specs.Table.{Allows, keeps}
use Rattle.ob_types.specs.declared.command.Command.{Command}
use Rattle.ob_seq.specs.Rows.{Settings}
use Rattle.ob_shared_connection.specs.Ruled.{bell_word, AreCounted, Fits, Past, Ruled, calls_with, count_if, handles_of}
use Rattle.ob_shared_connection.specs.Ruled.{seeing_view, settings_of, shown_view, view_with}
use Rattle.ob_shared_connection.specs.Values.{IsLegal, glance_after, packed_glance, IsBeginning, calls_of, commands_by}
use Rattle.ob_shared_connection.specs.Values.{MayGive, NoneRemoves}
use Rattle.ob_shared_connection.specs.Steps.{Finds, HasLock, IsNow, Knows, Reads}
use Rattle.ob_shared_connection.specs.declared.bell.Waiter.{Waiter}
use Rattle.ob_shared_connection.specs.declared.call.Call.{Call}
use Rattle.ob_shared_connection.specs.declared.view.View.{View}
use Rattle.ob_shared_connection.proofs.Bells.{bells_set, known_set, other_bell}
use Rattle.ob_shared_connection.proofs.Shares.{shares_kept}
use Rattle.ob_shared_connection.proofs.Lists.{append_cancels, at_below, begins_further, begins_itself, both_parts, is_false, none_added, none_removes, own_added, sum_set}
use Rattle.ob_shared_connection.proofs.Views.{St, Removes, fits_set, fits_alone, nobody_still, counts_set, taken_set, nothing_known}

module _ (slots id : ℕ) (me : Knows) where
  -- a seat that reads sees what is published
  pub may_read : me.0.holds ≡ false → Allows Ruled slots id me 2 (λ n. n) (Reads me)
  may_read has_not s ruled homes at small =
      let past = ruled.past in
      let mine = ruled.fits id me.0 at in
      let seen = mine.seen_shown has_not in
      let begins = ruled.shown.begins in
      let log = me.0.seen ++ seen.rest in
      let new = seeing_view log me.0 in
      let apart : mine.part.rest ≡ seen.rest ++ begins.rest =
      append_cancels me.0.seen mine.part.rest (seen.rest ++ begins.rest)
      (mine.part.whole ∙ sym begins.whole ∙ ap (λ (first : List Call). first ++ begins.rest) (sym seen.whole)
      ∙ append_assoc me.0.seen seen.rest begins.rest) in
      let parts : me.0.sends ≡ true → NoneRemoves seen.rest × NoneRemoves begins.rest = λ sends.
      both_parts Removes seen.rest begins.rest
      (subst (λ (rest : List Call). NoneRemoves rest) apart (mine.untouched sends)) in
      let whole : log ++ begins.rest ≡ past.log =
      ap (λ (first : List Call). first ++ begins.rest) seen.whole ∙ begins.whole in
      let fresh : Fits past id new = record {
        opened = mine.opened;
        budgeted = mine.budgeted;
        part = record { rest = begins.rest; whole = whole };
        told = record { rest = past.shown; whole = refl };
        numbered = mine.numbered;
        own = mine.own;
        one = mine.one;
        whole = λ holds. absurd (cc (holds, has_not));
        current = λ holds. absurd (cc (holds, has_not));
        seen_shown = λ _. record { rest = []; whole = append-nil log ∙ seen.whole };
        sender_is = mine.sender_is;
        untouched = λ sends. (parts sends).1;
      } in
      let shown : past.shown ≡ log = sym seen.whole in (
        new,
        keeps,
        tt,
        subst (λ (words : List ℕ). Ruled (record { words = words; homes = s.homes; views = set s.views id new }))
            (sym (set-get_or s.words 2 0))
            (record {
              past = past;
              words = ruled.words;
              free = λ free. record {
                home = (ruled.free free).home;
                nobody = nobody_still s.views id new (ruled.free free).nobody has_not;
              };
              taken = λ is. taken_set s.views id me.0 new at (λ holds. holds) (λ _ named. named) (ruled.taken is);
              shares = shares_kept s.views id me.0 new at refl refl refl ruled.shares;
              bells = bells_set past (get_or s.words 0 0) (λ waiter. get_or s.words (bell_word waiter) 0) s.views id me.0
                  new at (λ holds. holds) refl ruled.bells;
              fits = fits_alone past s.views id new ruled.fits fresh;
              counts = counts_set past.log (get_or s.words 1 0) s.views id me.0 new at refl refl ruled.counts;
              shown = ruled.shown;
              role = ruled.role;
            }),
        record {
          between = seen.rest;
          is = refl;
          shows = λ there. ruled.shown.published
              ∙ ap (λ (settings : Settings). packed_glance (glance_after settings past.shown)) (sym (mine.opened there))
              ∙ ap (λ (all : List Call). packed_glance (glance_after (settings_of me.0) all)) shown;
          small = λ there. subst (λ (all : List Call). (glance_after (settings_of me.0) all).total < 4294967296) shown
              (subst (λ (settings : Settings). (glance_after settings past.shown).total < 4294967296)
              (sym (mine.opened there)) ruled.shown.small);
          legal = λ there. subst (λ (all : List Call). IsLegal (settings_of me.0) all) shown
              (subst (λ (settings : Settings). IsLegal settings past.shown) (sym (mine.opened there))
              ruled.shown.legal);
          told = subst (λ (all : List Call). IsBeginning me.0.told all) shown mine.told;
          untouched = λ sends. (parts sends).0;
          later = begins.rest;
          own = λ named there. mine.own there ∙ ap (λ (seat : ℕ). commands_by seat past.log) (sym (mine.numbered named))
              ∙ ap (λ (all : List Call). commands_by me.0.caller all) (sym whole);
        },
      )

-- a seat that has the lock may put its calls behind the list
pub may_list : (slots id : ℕ) (me : Knows) (commands : List Command) → HasLock me → MayGive me.0.sends commands
    → Allows Ruled slots id me 0 (λ n. n) (λ _ new. new ≡ (view_with commands me.0, me.1))
may_list slots id me commands lock may s ruled homes at small =
    let past = ruled.past in
    let mine = ruled.fits id me.0 at in
    let caller = mine.numbered lock.seat.named in
    let whole = mine.whole lock.holds in
    let more = calls_of id commands in
    let log = past.log ++ more in
    let then_past = record past { log = log } in
    let new = view_with commands me.0 in
    let seen : new.seen ≡ log =
    ap (λ (seen : List Call). seen ++ calls_of me.0.caller commands) whole
    ∙ ap (λ (seat : ℕ). past.log ++ calls_of seat commands) caller in
    let longer : (first : List Call) → IsBeginning first past.log → IsBeginning first log = λ first part. record {
      rest = part.rest ++ more;
      whole = sym (append_assoc first part.rest more) ∙ ap (λ (all : List Call). all ++ more) part.whole;
    } in
    let fresh : Fits then_past id new = record {
      opened = mine.opened;
      budgeted = mine.budgeted;
      part = record { rest = []; whole = append-nil new.seen ∙ seen };
      told = mine.told;
      numbered = mine.numbered;
      own = λ there. ap (λ (before : List Command). before ++ commands) (mine.own there)
          ∙ sym (own_added id past.log commands);
      one = mine.one;
      whole = λ _. seen;
      current = λ _ never. absurd (cc never);
      seen_shown = λ free. absurd (cc (free, lock.holds));
      sender_is = mine.sender_is;
      untouched = λ _. All-nil Removes;
    } in
    let still : (seat : ℕ) (view : View) → seat ≢ id → get_elem? s.views seat ≡ some view → Fits past seat view
    → Fits then_past seat view = λ seat view apart there old. record {
      opened = old.opened;
      budgeted = old.budgeted;
      part = longer view.seen old.part;
      told = old.told;
      numbered = old.numbered;
      own = λ live. old.own live ∙ sym (none_added seat id past.log commands apart);
      one = old.one;
      whole = λ holds. absurd (apart (old.one holds ∙ sym (mine.one lock.holds)));
      current = λ holds. absurd (apart (old.one holds ∙ sym (mine.one lock.holds)));
      seen_shown = old.seen_shown;
      sender_is = old.sender_is;
      untouched = λ sends. All-append Removes old.part.rest more (old.untouched sends)
          (none_removes id me.0.sends commands may (is_false me.0.sends
          (λ both. apart (some-injective seat id (sym (old.sender_is sends) ∙ mine.sender_is both)))));
    } in
    let handles = sum_set handles_of s.views id me.0 new at in
    let calls = sum_set calls_with s.views id me.0 new at in
    let live = lock.seat.named in
    let before : calls_with me.0 ≡ length me.0.mine + me.0.handed =
    ap (λ (named : Bool). count_if named (length me.0.mine + me.0.handed)) live in
    let after : calls_with new ≡ length (me.0.mine ++ commands) + me.0.handed =
    ap (λ (named : Bool). count_if named (length (me.0.mine ++ commands) + me.0.handed)) live in
    let made : length more ≡ length commands =
    length-map commands (λ (command : Command). record { caller = id; command = command }) in
    let all = length-append past.log more in
    let own = length-append me.0.mine commands in
    let counts = ruled.counts in (
      new,
      keeps,
      tt,
      subst (λ (words : List ℕ). Ruled (record { words = words; homes = s.homes; views = set s.views id new }))
          (sym (set-get_or s.words 0 0))
          (record {
            past = then_past;
            words = ruled.words;
            free = λ free. absurd (cc ((ruled.free free).nobody id me.0 at, lock.holds));
            taken = λ is. taken_set s.views id me.0 new at (λ holds. holds) (λ _ named. named) (ruled.taken is);
            shares = shares_kept s.views id me.0 new at refl refl refl ruled.shares;
            bells = λ waiter. record {
              rung = λ free. absurd (cc ((ruled.free free).nobody id me.0 at, lock.holds));
              known = known_set waiter (get_or s.words (bell_word waiter) 0) s.views id me.0 new at (λ holds. holds) refl
                  (ruled.bells waiter).known;
            };
            fits = fits_set past then_past s.views id new still ruled.fits fresh;
            counts = record {
              none_yet = λ seat far. (let shorter : length s.views ≤ seat = omega (arith, length-set s.views id new) in
                  let below = at_below s.views id me.0 at in
                  none_added seat id past.log commands (λ same_seat. omega arith) ∙ counts.none_yet seat shorter);
              given = counts.given ∙ omega arith;
              counted = (let counted = counts.counted in omega arith);
            };
            shown = record {
              begins = longer past.shown ruled.shown.begins;
              legal = ruled.shown.legal;
              published = ruled.shown.published;
              small = ruled.shown.small;
            };
            role = ruled.role;
          }),
      refl,
    )

-- once all calls are published, a seat fits, and may know that
fits_shown : (past : Past) (seat : ℕ) (old new : View) → new ≡ record old { shows = new.shows }
    → IsBeginning past.shown past.log → Fits past seat old → Fits (record past { shown = past.log }) seat new
fits_shown past seat old new same begins fits =
    subst (λ (view : View). Fits (record past { shown = past.log }) seat view) (sym same) (record {
      opened = fits.opened;
      budgeted = fits.budgeted;
      part = fits.part;
      told = begins_further old.told past.shown past.log fits.told begins;
      numbered = fits.numbered;
      own = fits.own;
      one = fits.one;
      whole = fits.whole;
      current = λ _ _. refl;
      seen_shown = λ _. fits.part;
      sender_is = fits.sender_is;
      untouched = fits.untouched;
    })

-- the glance after all calls is published
publishes : (id : ℕ) (me : Knows) (number : ℕ) → HasLock me → IsNow me.0 number → (s : St) (ruled : Ruled s)
    → get_elem? s.views id ≡ some me.0 → (words : List ℕ) → length words ≡ 6
    → get_or words 0 0 ≡ get_or s.words 0 0 → get_or words 1 0 ≡ get_or s.words 1 0 → get_or words 2 0 ≡ number
    → ((waiter : Waiter) → get_or words (bell_word waiter) 0 ≡ get_or s.words (bell_word waiter) 0)
    → get_or words 5 0 ≡ get_or s.words 5 0
    → Ruled (record { words = words; homes = s.homes; views = set s.views id (shown_view me.0) })
publishes id me number lock now s ruled at words long locked counts published bells role =
    let past = ruled.past in
    let mine = ruled.fits id me.0 at in
    let opened = mine.opened lock.seat.there in
    let whole = mine.whole lock.holds in
    let new = shown_view me.0 in
    let then_past = record past { shown = past.log } in
    let fresh = fits_shown past id me.0 new refl ruled.shown.begins mine in
    let still : (seat : ℕ) (view : View) → seat ≢ id → get_elem? s.views seat ≡ some view → Fits past seat view
    → Fits then_past seat view = λ seat view apart there old. fits_shown past seat view view refl ruled.shown.begins old in
    record {
      past = then_past;
      words = long;
      free = λ free. absurd (cc ((ruled.free (sym locked ∙ free)).nobody id me.0 at, lock.holds));
      taken = λ is. taken_set s.views id me.0 new at (λ holds. holds) (λ _ named. named)
          (ruled.taken (λ free. is (locked ∙ free)));
      shares = shares_kept s.views id me.0 new at refl refl refl ruled.shares;
      bells = λ waiter. record {
        rung = λ free. absurd (cc ((ruled.free (sym locked ∙ free)).nobody id me.0 at, lock.holds));
        known = λ seat view there has quiet. bells waiter
            ∙ known_set waiter (get_or s.words (bell_word waiter) 0) s.views id me.0 new at (λ holds. holds) refl
            (ruled.bells waiter).known seat view there has quiet;
      };
      fits = fits_set past then_past s.views id new still ruled.fits fresh;
      counts = subst (λ (count : ℕ). AreCounted past.log count (set s.views id new)) (sym counts)
          (counts_set past.log (get_or s.words 1 0) s.views id me.0 new at refl refl ruled.counts);
      shown = record {
        begins = begins_itself past.log;
        legal = subst (λ (log : List Call). IsLegal past.settings log) whole
            (subst (λ (settings : Settings). IsLegal settings me.0.seen) opened now.legal);
        published = published ∙ now.is
            ∙ ap (λ (settings : Settings). packed_glance (glance_after settings me.0.seen)) opened
            ∙ ap (λ (log : List Call). packed_glance (glance_after past.settings log)) whole;
        small = subst (λ (log : List Call). (glance_after past.settings log).total < 4294967296) whole
            (subst (λ (settings : Settings). (glance_after settings me.0.seen).total < 4294967296) opened now.small);
      };
      role = λ vacant. ruled.role (sym role ∙ vacant);
    }

-- a store by the seat that has the lock
pub may_publish : (slots id : ℕ) (me : Knows) (number : ℕ) → HasLock me → IsNow me.0 number
    → Allows Ruled slots id me 2 (λ _. number) (λ _ new. new ≡ (shown_view me.0, me.1))
may_publish slots id me number lock now s ruled homes at small =
    let words = ruled.words in (
      shown_view me.0,
      keeps,
      tt,
      publishes id me number lock now s ruled at (set s.words 2 number) (length-set s.words 2 number ∙ words)
          (get_or-set_other s.words 2 0 number 0 (λ e. omega arith))
          (get_or-set_other s.words 2 1 number 0 (λ e. omega arith))
          (get_or-set_same s.words 2 number 0 (omega arith)) (other_bell s.words 2 number (omega arith))
          (get_or-set_other s.words 2 5 number 0 (λ e. omega arith)),
      refl,
    )

-- a load by it, which may find that nothing has to be stored
pub may_find : (slots id : ℕ) (me : Knows) (number : ℕ) → HasLock me → IsNow me.0 number
    → Allows Ruled slots id me 2 (λ n. n) (Finds number me)
may_find slots id me number lock now s ruled homes at small =
    let same = set-get_or s.words 2 0 in
    dite (ℕ_discrete (get_or s.words 2 0) number)
    (λ found. (
      shown_view me.0,
      keeps,
      tt,
      subst (λ (words : List ℕ).
          Ruled (record { words = words; homes = s.homes; views = set s.views id (shown_view me.0) })) (sym same)
          (publishes id me number lock now s ruled at s.words ruled.words refl refl found
          (λ waiter. refl) refl),
      record { shown = λ _. refl; other = λ other. absurd (other found) },
    ))
    (λ other. (
      me.0,
      keeps,
      tt,
      nothing_known slots id me 2 s ruled at,
      record { shown = λ found. absurd (other found); other = λ _. refl },
    ))
