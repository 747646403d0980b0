-- Seats come, take others in, and what holds at the start.
use Rattle.std.proofs.Common.{◌≡◌, ⊎_elim, ℕ, true, false, List, [], ◌∷◌, ◌≤◌, ◌+◌, set, get_or, length}
use Rattle.std.proofs.Common.{refl, sym, ap, ◌∙◌, subst, arith, length-set, eqb, Bool}
use Rattle.std.proofs.lemmas.List.{get_or-set_same, get_or-set_other, length-append}
use Rattle.std.proofs.lemmas.List.Elements.{All-cons, All-nil}
use Rattle.std.proofs.lemmas.List.Sums.{sum_by-append}
use mathlib.Core.Option.{some, some-ne-none}
use prog.Atomic.{either}
use lib.ListN.{get_elem?}
use Rattle.atomic_table.specs.Table.{Act, Allows, Splits, Joins, Valid, keeps, stepped, carried_after, opening}
use Rattle.atomic_table.proofs.Lists.{at_longer, at_set, exchanged, set_else}
use Rattle.ob_types.specs.Marks.{packed}
use Rattle.ob_seq.proofs.Word.{word_at_start}
use Rattle.ob_connection.specs.Connected.{StandsFor}
use Rattle.ob_shared_connection.specs.Ruled.{bell_word, Fits, HasShare, IsShown, IsVacant, Past, Ruled, both_views}
use Rattle.ob_shared_connection.specs.Ruled.{calls_with, count_if, first_view, handles_of, named_view, new_view}
use Rattle.ob_shared_connection.specs.Ruled.{sharing_view, spent_view, within_of}
use Rattle.ob_shared_connection.specs.Values.{IsCovered, cover_of, commands_by}
use Rattle.ob_shared_connection.specs.Steps.{Names}
use Rattle.ob_shared_connection.specs.declared.bell.Waiter.{Waiter}
use Rattle.ob_shared_connection.specs.declared.bell.Waiter.TheVariants.{Writer, Sender}
use Rattle.ob_shared_connection.specs.declared.call.Call.{Call}
use Rattle.ob_shared_connection.specs.declared.carried.Carried.{Carried}
use Rattle.ob_shared_connection.specs.declared.rule.Opened.{Opened}
use Rattle.ob_shared_connection.specs.declared.view.View.{View}
use Rattle.ob_shared_connection.proofs.Bells.{known_set, other_bell}
use Rattle.ob_shared_connection.proofs.Shares.{shares_cut, shares_set, shares_taken}
use Rattle.ob_shared_connection.proofs.Lists.{at_more, commands_by-append, first_of_nothing, sum_set}
use Rattle.ob_shared_connection.proofs.Views.{St, Removes, fits_alone, nobody_still, counts_set, taken_set, fits_still, nothing_known, other_word}

-- a new seat may get its number, which is its own alone
names_seat : (slots id : ℕ) (view : View) (expected : ℕ) → (s : St) → Ruled s
    → get_elem? s.views id ≡ some (new_view view) → get_or s.words 1 0 ≡ expected
    → (w : View) × (a : Act Carried) × Valid s.homes [] a × Ruled (stepped s 1 (expected + 1) id [] w a)
    × Names expected (new_view view, []) (get_or s.words 1 0) (w, carried_after [] a)
names_seat slots id view expected s ruled at found =
    let past = ruled.past in
    let old = new_view view in
    let mine = ruled.fits id old at in
    let words = ruled.words in
    let new = named_view id old in
    let fresh = fits_still past id old new refl (λ _. refl) mine.told mine in
    let handles = sum_set handles_of s.views id old new at in
    let calls = sum_set calls_with s.views id old new at in
    let counts = ruled.counts in
    let given = counts.given in
    let none : commands_by id old.seen ≡ [] =
    first_of_nothing (commands_by id old.seen) (commands_by id mine.part.rest)
    (sym (commands_by-append id old.seen mine.part.rest)
    ∙ ap (λ (log : List Call). commands_by id log) mine.part.whole ∙ sym (mine.own refl)) in (
      new,
      keeps,
      tt,
      record {
        past = past;
        words = length-set s.words 1 (expected + 1) ∙ words;
        free = λ free. (let was_free = sym (get_or-set_other s.words 1 0 (expected + 1) 0 (λ e. omega arith)) ∙ free in
            record {
              home = (ruled.free was_free).home;
              nobody = nobody_still s.views id new (ruled.free was_free).nobody refl;
            });
        taken = λ is. taken_set s.views id old new at (λ holds. holds) (λ _ _. refl)
            (ruled.taken (λ free. is (get_or-set_other s.words 1 0 (expected + 1) 0 (λ e. omega arith) ∙ free)));
        shares = shares_set s.views id old new at refl (λ fine has. record {
          within = has.within;
          some = has.some;
          there = λ _. refl;
        }) ruled.shares;
        bells = λ waiter. (let same_bell = other_bell s.words 1 (expected + 1) (omega arith) waiter in record {
          rung = λ free due. same_bell ∙ (ruled.bells waiter).rung
              (sym (get_or-set_other s.words 1 0 (expected + 1) 0 (λ e. omega arith)) ∙ free) due;
          known = λ seat other at_other has quiet. same_bell
              ∙ known_set waiter (get_or s.words (bell_word waiter) 0) s.views id old new at (λ holds. holds) refl
              (ruled.bells waiter).known seat other at_other has quiet;
        });
        fits = fits_alone past s.views id new ruled.fits fresh;
        counts = record {
          none_yet = λ seat far. counts.none_yet seat (omega (arith, length-set s.views id new));
          given = get_or-set_same s.words 1 (expected + 1) 0 (omega arith) ∙ omega arith;
          counted = counts.counted ∙ omega arith;
        };
        shown = other_word (λ number. IsShown past number) s.words 1 2 (expected + 1) (λ e. omega arith) ruled.shown;
        role = other_word (λ number. IsVacant past number) s.words 1 5 (expected + 1) (λ e. omega arith) ruled.role;
      },
      record { named = λ _. refl; own = λ _ _ _. none; missed = λ other. absurd (other found) },
    )

pub may_name : (slots id : ℕ) (view : View) (expected : ℕ)
    → Allows Ruled slots id (new_view view, []) 1 (λ n. either (eqb n expected) (expected + 1) n)
    (Names expected (new_view view, []))
may_name slots id view expected s ruled homes at small =
    exchanged (get_or s.words 1 0) expected (expected + 1)
    (λ word. (w : View) × (a : Act Carried) × Valid s.homes [] a × Ruled (stepped s 1 word id [] w a)
    × Names expected (new_view view, []) (get_or s.words 1 0) (w, carried_after [] a))
    (λ found. names_seat slots id view expected s ruled at found)
    (λ other. (
      new_view view,
      keeps,
      tt,
      nothing_known slots id (new_view view, []) 1 s ruled at,
      record { named = λ found. absurd (other found); own = λ found. absurd (other found); missed = λ _. refl },
    ))

-- a seat may be cut that does not have the lock, and the new one is of no handle yet
pub may_cut : (id : ℕ) (view : View) → view.spent ≡ false → view.holds ≡ false
    → Splits Ruled id view (sharing_view view) (new_view (sharing_view view))
may_cut id view there has_not s ruled at =
    let past = ruled.past in
    let mine = ruled.fits id view at in
    let left = sharing_view view in
    let new = new_view left in
    let before = set s.views id left in
    let first = fits_still past id view left refl mine.numbered mine.told mine in
    let fits = fits_alone past s.views id left ruled.fits first in
    let same = length-set s.views id left in
    let count = length before in
    let counts = counts_set past.log (get_or s.words 1 0) s.views id view left at refl refl ruled.counts in
    let fresh : Fits past count new = record {
      opened = λ _. mine.opened there;
      budgeted = λ _. mine.budgeted there;
      part = mine.part;
      told = record { rest = past.shown; whole = refl };
      numbered = λ never. absurd (cc never);
      own = λ _. sym (counts.none_yet count (omega arith));
      one = λ never. absurd (cc never);
      whole = λ never. absurd (cc never);
      current = λ never. absurd (cc never);
      seen_shown = λ _. mine.seen_shown has_not;
      sender_is = λ never. absurd (cc never);
      untouched = λ never. absurd (cc never);
    } in
    let handles = sum_by-append handles_of before (new ∷ []) in
    let calls = sum_by-append calls_with before (new ∷ []) in
    let long = length-append before (new ∷ []) in
    record {
      past = past;
      words = ruled.words;
      free = λ free. record {
        home = (ruled.free free).home;
        nobody = λ seat other at_other. ⊎_elim
            (nobody_still s.views id left (ruled.free free).nobody has_not seat other)
            (λ last. subst (λ (v : View). v.holds ≡ false) last.1 refl) (at_more before new other seat at_other);
      };
      taken = λ is. (let still = taken_set s.views id view left at (λ holds. holds) (λ _ named. named) (ruled.taken is) in
          record {
            seat = still.seat;
            view = still.view;
            at = at_longer before (new ∷ []) still.seat still.view still.at;
            holds = still.holds;
            named = still.named;
          });
      shares = shares_cut s.views id view at there ruled.shares;
      bells = λ waiter. record {
        rung = (ruled.bells waiter).rung;
        known = λ seat other at_other has quiet. ⊎_elim
            (λ was. known_set waiter (get_or s.words (bell_word waiter) 0) s.views id view left at (λ holds. holds) refl
            (ruled.bells waiter).known seat other was has quiet)
            (λ last. absurd (cc (ap (λ (v : View). v.holds) last.1, has))) (at_more before new other seat at_other);
      };
      fits = λ seat other at_other. ⊎_elim (fits seat other)
          (λ last. subst (λ (v : View). Fits past seat v) last.1
          (subst (λ (number : ℕ). Fits past number new) (sym last.0) fresh))
          (at_more before new other seat at_other);
      counts = record {
        none_yet = λ seat far. counts.none_yet seat (omega arith);
        given = counts.given ∙ omega arith;
        counted = counts.counted ∙ omega arith;
      };
      shown = ruled.shown;
      role = ruled.role;
    }

-- a seat may take another one in, if neither has the lock
pub may_take : (id : ℕ) (view : View) (other : ℕ) (theirs : View) → view.named ≡ true → view.spent ≡ false → view.holds ≡ false
    → theirs.named ≡ true → theirs.holds ≡ false → Joins Ruled id view other theirs (both_views view theirs) spent_view
may_take id view other theirs named there free other_named other_free s ruled at apart then_at =
    let past = ruled.past in
    let both = both_views view theirs in
    let their_at = sym (set_else s.views id other both apart) ∙ then_at in
    let mine = ruled.fits id view at in
    let first = fits_still past id view both refl mine.numbered ((ruled.fits other theirs their_at).seen_shown other_free)
    mine in
    let second : Fits past other spent_view = record {
      opened = λ never. absurd (cc never);
      budgeted = λ never. absurd (cc never);
      part = record { rest = past.log; whole = refl };
      told = record { rest = past.shown; whole = refl };
      numbered = λ never. absurd (cc never);
      own = λ never. absurd (cc never);
      one = λ never. absurd (cc never);
      whole = λ never. absurd (cc never);
      current = λ never. absurd (cc never);
      seen_shown = λ _. record { rest = past.shown; whole = refl };
      sender_is = λ never. absurd (cc never);
      untouched = λ never. absurd (cc never);
    } in
    let views = set s.views id both in
    let handles = sum_set handles_of s.views id view both at in
    let their_handles = sum_set handles_of views other theirs spent_view then_at in
    let calls = sum_set calls_with s.views id view both at in
    let their_calls = sum_set calls_with views other theirs spent_view then_at in
    let my_handles : handles_of view ≡ 1 + view.others =
    ap (λ (one : Bool). count_if one (1 + view.others)) named in
    let both_handles : handles_of both ≡ 1 + (view.others + (1 + theirs.others)) =
    ap (λ (one : Bool). count_if one (1 + (view.others + (1 + theirs.others)))) named in
    let other_handles : handles_of theirs ≡ 1 + theirs.others =
    ap (λ (one : Bool). count_if one (1 + theirs.others)) other_named in
    let my_calls : calls_with view ≡ length view.mine + view.handed =
    ap (λ (one : Bool). count_if one (length view.mine + view.handed)) named in
    let both_calls : calls_with both ≡ length view.mine + (view.handed + (length theirs.mine + theirs.handed)) =
    ap (λ (one : Bool). count_if one (length view.mine + (view.handed + (length theirs.mine + theirs.handed)))) named in
    let other_calls : calls_with theirs ≡ length theirs.mine + theirs.handed =
    ap (λ (one : Bool). count_if one (length theirs.mine + theirs.handed)) other_named in
    let counts = ruled.counts in
    record {
      past = past;
      words = ruled.words;
      free = λ word. record {
        home = (ruled.free word).home;
        nobody = nobody_still views other spent_view (nobody_still s.views id both (ruled.free word).nobody free) refl;
      };
      taken = λ is. taken_set views other theirs spent_view then_at (λ holds. absurd (cc (holds, other_free)))
          (λ holds named. absurd (cc (holds, other_free))) (taken_set s.views id view both at (λ holds. holds) (λ _ named. named) (ruled.taken is));
      shares = shares_taken s.views id view other theirs at then_at their_at there ruled.shares;
      bells = λ waiter. record {
        rung = (ruled.bells waiter).rung;
        known = λ seat last at_last has quiet. ⊎_elim
            (λ here. absurd (cc (ap (λ (v : View). v.holds) here.1, has)))
            (λ apart. known_set waiter (get_or s.words (bell_word waiter) 0) s.views id view both at (λ holds. holds) refl
            (ruled.bells waiter).known seat last apart.1 has quiet)
            (at_set views other seat spent_view last at_last);
      };
      fits = fits_alone past views other spent_view (fits_alone past s.views id both ruled.fits first) second;
      counts = record {
        none_yet = λ seat far. counts.none_yet seat
            (omega (arith, length-set s.views id both, length-set views other spent_view));
        given = counts.given ∙ omega arith;
        counted = counts.counted ∙ omega arith;
      };
      shown = ruled.shown;
      role = ruled.role;
    }

-- what is behind a connection at the start
abbrev first_past : Opened → Past
first_past about = record {
  settings = record { marks = about.marks; estimate = about.estimate };
  budget = within_of about;
  log = [];
  shown = [];
  holder = 0;
  sender = some 0;
}

-- the first seat fits
first_fits : (about : Opened) → Fits (first_past about) 0 (first_view about)
first_fits about = record {
  opened = λ _. refl;
  budgeted = λ _. refl;
  part = record { rest = []; whole = refl };
  told = record { rest = []; whole = refl };
  numbered = λ _. refl;
  own = λ _. refl;
  one = λ never. absurd (cc never);
  whole = λ never. absurd (cc never);
  current = λ never. absurd (cc never);
  seen_shown = λ _. record { rest = []; whole = refl };
  sender_is = λ _. refl;
  untouched = λ _. All-nil Removes;
}

-- what holds of the first seat holds of each
only_first : (about : Opened) (P : ℕ → View → Type 0) → P 0 (first_view about) → (seat : ℕ) (view : View)
    → get_elem? (first_view about ∷ []) seat ≡ some view → P seat view
only_first about P holds seat view at =
    ⊎_elim (λ never. absurd (some-ne-none view (sym never)))
    (λ here. subst (λ (v : View). P seat v) here.1
    (subst (λ (number : ℕ). P number (first_view about)) (sym here.0) holds))
    (at_more [] (first_view about) view seat at)

-- nobody waits at the start
abbrev first_words : List ℕ
first_words = 0 ∷ 1 ∷ 0 ∷ 0 ∷ 0 ∷ 0 ∷ []

at_rest : (waiter : Waiter) → get_or first_words (bell_word waiter) 0 ≡ 0
at_rest Writer = refl
at_rest Sender = refl

-- what holds at the start
pub at_first : (about : Opened) (carried : Carried)
    → carried.connection.unsent.settings ≡ record { marks = about.marks; estimate = about.estimate }
    → StandsFor carried.connection []
    → IsCovered (within_of about) carried.connection (cover_of carried)
    → Ruled (opening (0 ∷ 1 ∷ 0 ∷ 0 ∷ 0 ∷ 0 ∷ []) (carried ∷ []) (first_view about))
at_first about carried settings stands covered =
    record {
      past = first_past about;
      words = refl;
      free = λ _. record {
        home = record {
          carried = carried;
          here = refl;
          left = record { settings_are = settings; stands = stands };
          covered = covered;
          all_shown = refl;
        };
        nobody = only_first about (λ seat view. view.holds ≡ false) refl;
      };
      taken = λ never. absurd (never refl);
      shares = record {
        fine = 0;
        each = only_first about (λ seat view. HasShare 0 view) (record {
          within = All-cons (λ halved. halved ≤ 0) 0 [] (omega arith) (All-nil (λ halved. halved ≤ 0));
          some = λ _. omega arith;
          there = λ _. refl;
        });
        whole = refl;
      };
      bells = λ waiter. record { rung = λ _ _. at_rest waiter; known = λ _ _ _ _ _. at_rest waiter };
      fits = only_first about (λ seat view. Fits (first_past about) seat view) (first_fits about);
      counts = record { none_yet = λ seat far. refl; given = refl; counted = refl };
      shown = record {
        begins = record { rest = []; whole = refl };
        legal = refl;
        published = sym (ap (λ (word : ℕ). packed word 0) (word_at_start (record { marks = about.marks; estimate = about.estimate })));
        small = omega arith;
      };
      role = λ never. absurd (cc never);
    }
