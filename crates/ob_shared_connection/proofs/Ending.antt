-- What holds at the end.
use Rattle.std.proofs.Common.{◌≡◌, ◌≤◌, ℕ, suc, Bool, true, false, List, [], ◌∷◌, ◌+◌, set, length, get_or, refl, sym, ap, ◌∙◌, subst, arith, eqb, eqb-true, eq-eqb}
use Rattle.std.specs.List.{sum_by}
use Rattle.std.proofs.lemmas.List.Sums.{sum_by-cons}
use mathlib.Core.Logic.{dite}
use mathlib.Core.Option.{Option, some, some-injective}
use native.Mathlib.Decide.{ℕ_discrete}
use lib.ListN.{get_elem?}
use Rattle.atomic_table.specs.Seated.{TableId}
use Rattle.atomic_table.specs.Table.{Final, Seen}
use Rattle.atomic_table.proofs.Lists.{set_else}
use Rattle.ob_seq.specs.Rows.{Settings}
use Rattle.ob_shared_connection.specs.Values.{IsCovered, Within, cover_of, commands_by, IsWhole, IsLeftBy}
use Rattle.ob_shared_connection.specs.Calls.{IsEnd}
use Rattle.ob_shared_connection.specs.Ruled.{AreShared, AtHome, IsTaken, Ruled, calls_with, count_if, handles_of}
use Rattle.ob_shared_connection.specs.Ruled.{spent_view}
use Rattle.ob_shared_connection.specs.Steps.{IsNamed, handle_of}
use Rattle.ob_shared_connection.specs.declared.carried.Carried.{Carried}
use Rattle.ob_shared_connection.specs.declared.view.View.{View}
use Rattle.ob_shared_connection.proofs.Lists.{at_read, sum_set}
use Rattle.ob_shared_connection.proofs.Shares.{no_other}

-- who stands for no handle made no call
none_made : (named : Bool) (others made : ℕ) → count_if named (1 + others) ≡ 0 → count_if named made ≡ 0
none_made true others made none = absurd (omega arith)
none_made false others made none = refl

-- where no handle is left no call is
nobody_made : (views : List View) → sum_by handles_of views ≡ 0 → sum_by calls_with views ≡ 0
nobody_made [] none = refl
nobody_made (view ∷ views) none =
    let handles = sum_by-cons handles_of view views in
    let calls = sum_by-cons calls_with view views in
    let first : calls_with view ≡ 0 =
    none_made view.named view.others (length view.mine + view.handed) (omega arith) in
    let rest : sum_by calls_with views ≡ 0 = nobody_made views (omega arith) in
    omega arith

-- where one seat stands for all handles, it stands for all calls
one_for_all : (views : List View) (id : ℕ) (view : View) → get_elem? views id ≡ some view
    → sum_by handles_of views ≡ handles_of view → sum_by calls_with views ≡ calls_with view
one_for_all views id view at all =
    let handles = sum_set handles_of views id view spent_view at in
    let calls = sum_set calls_with views id view spent_view at in
    let others = nobody_made (set views id spent_view) (omega arith) in
    omega arith

-- one seat stands for no more handles than there are
one_of_all : (views : List View) (id : ℕ) (view : View) → get_elem? views id ≡ some view
    → handles_of view ≤ sum_by handles_of views
one_of_all views id view at =
    let handles = sum_set handles_of views id view spent_view at in
    omega arith

-- where no seat is that of a handle, none stands for one
none_stands : (named : Bool) (count : ℕ) → (named ≡ true → ⊥) → count_if named count ≡ 0
none_stands true count never = absurd (never refl)
none_stands false count never = refl

nobody_stands : (views : List View)
    → ((seat : ℕ) (view : View) → get_elem? views seat ≡ some view → view.named ≡ true → ⊥)
    → sum_by handles_of views ≡ 0
nobody_stands [] never = refl
nobody_stands (view ∷ views) never =
    let all = sum_by-cons handles_of view views in
    let here : handles_of view ≡ 0 = none_stands view.named (1 + view.others) (never 0 view refl) in
    let rest = nobody_stands views (λ seat other at. never (suc seat) other at) in
    omega arith

-- a seat that has the whole stands for all handles
whole_stands : (views : List View) (id : ℕ) (view : View) → get_elem? views id ≡ some view → AreShared views
    → IsWhole view.share → sum_by handles_of views ≡ handles_of view
whole_stands views id view at shares whole =
    let sum = sum_set handles_of views id view spent_view at in
    let others = nobody_stands (set views id spent_view) (no_other views id view at shares whole) in
    omega arith

-- and if it does not have the lock, nobody has
whole_is_free : (views : List View) (id : ℕ) (view : View) → get_elem? views id ≡ some view → AreShared views
    → IsWhole view.share → view.holds ≡ false → IsTaken views → ⊥
whole_is_free views id view at shares whole free taken =
    dite (ℕ_discrete taken.seat id)
    (λ same. (let here = some-injective taken.view view
    (sym taken.at ∙ ap (λ (seat : ℕ). get_elem? views seat) same ∙ at) in
    cc (ap (λ (v : View). v.holds) (sym here) ∙ taken.holds, free)))
    (λ apart. no_other views id view at shares whole taken.seat taken.view
    (set_else views id taken.seat spent_view apart ∙ taken.at) taken.named)

-- what a seat that is left knows of the end
pub is_end : (id : ℕ) (view : View) (words : List ℕ) (slots : List Carried) (lock handles : ℕ) (carried : Carried)
    → IsNamed view → view.holds ≡ false → Final (Seen Ruled id view) words slots → get_elem? words 0 ≡ some lock
    → get_elem? words 1 ≡ some handles → get_elem? slots 0 ≡ some carried → (table : TableId)
    → IsEnd (handle_of table view) (record { connection = carried.connection; cover = cover_of carried; handles = handles; is_left = eqb lock 0 })
is_end id view words slots lock handles carried named rests final lock_at handles_at slot_at table =
    let s = final.0 in
    let ruled = final.1.0 in
    let at = final.1.1 in
    let mine = ruled.fits id view at in
    let word : (index value : ℕ) → get_elem? words index ≡ some value → get_or s.words index 0 ≡ value =
    λ index value is. at_read s.words index value 0
    (ap (λ (all : List ℕ). get_elem? all index) final.2 ∙ is) in
    let stands_for : handles_of view ≡ 1 + view.others =
    ap (λ (one : Bool). count_if one (1 + view.others)) named.named in
    let is_last : (home : AtHome ruled.past s.homes) → home.carried ≡ carried = λ home.
    some-injective home.carried carried
    (sym (final.4 0 home.carried (ap (λ (homes : List (Option Carried)). get_elem? homes 0) home.here)) ∙ slot_at) in
    record {
      log = ruled.past.log;
      part = mine.part;
      own = mine.own named.there ∙ ap (λ (seat : ℕ). commands_by seat ruled.past.log) (sym (mine.numbered named.named));
      left = λ free. (let home = (ruled.free (word 0 lock lock_at ∙ eqb-true lock 0 free)).home in
          subst (λ (settings : Settings). IsLeftBy settings ruled.past.log carried.connection) (sym (mine.opened named.there))
          (subst (λ (last : Carried). IsLeftBy ruled.past.settings ruled.past.log last.connection) (is_last home) home.left));
      covered = λ free. (let home = (ruled.free (word 0 lock lock_at ∙ eqb-true lock 0 free)).home in
          subst (λ (budget : Within). IsCovered budget carried.connection (cover_of carried)) (sym (mine.budgeted named.there))
          (subst (λ (last : Carried). IsCovered ruled.past.budget last.connection (cover_of last)) (is_last home) home.covered));
      few = (let given = ruled.counts.given in
          let count = word 1 handles handles_at in
          let some = one_of_all s.views id view at in
          omega (arith, stands_for));
      counted = λ all. (let given = ruled.counts.given in
          let count = word 1 handles handles_at in
          let made : calls_with view ≡ length view.mine + view.handed =
          ap (λ (one : Bool). count_if one (length view.mine + view.handed)) named.named in
          ruled.counts.counted ∙ one_for_all s.views id view at (omega arith) ∙ made);
      all = λ whole. (let given = ruled.counts.given in
          let count = word 1 handles handles_at in
          let stands = whole_stands s.views id view at ruled.shares whole in (
            omega (arith, stands_for),
            dite (ℕ_discrete lock 0) (λ free. eq-eqb lock 0 free)
                (λ taken. absurd (whole_is_free s.views id view at ruled.shares whole rests
                (ruled.taken (λ free. taken (sym (word 0 lock lock_at) ∙ free))))),
          ));
    }
