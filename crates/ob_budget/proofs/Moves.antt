-- The steps that a seat may make: what the table asks of each, which is that the rule is kept.
use Rattle.std.proofs.Common.{◌≡◌, ℕ, ◌≤◌, List, [], ◌∷◌, set, get_or, eqb, sym, refl, ap, ◌∙◌, subst, length-set, arith}
use mathlib.Core.Option.{some, none}
use lib.ListN.{get_elem?}
use Rattle.std.proofs.lemmas.List.{get_or-set_same}
use Rattle.std.proofs.lemmas.List.Elements.{All-set, All-append}
use Rattle.std.proofs.lemmas.List.Sums.{sum_by_push}
use prog.Atomic.{either}
use Rattle.atomic_table.specs.Table.{State, Act, keeps, Valid, stepped, carried_after, step, Allows, Enters}
use Rattle.atomic_table.proofs.Lists.{exchanged}
use Rattle.ob_budget.specs.Account.{MarksStand, MayFind, most_seats, after_read, after_loss, after_move, is_pressed}
use Rattle.ob_budget.specs.Account.{total_of, standing}
use Rattle.ob_budget.specs.Bounds.{BoundsValue}
use Rattle.ob_budget.specs.Ruled.{IsIdle, Keeps, Ruled, Knows, ToldRead, ToldMove, ToldGlance, MayMove, glanced}
use Rattle.ob_budget.specs.declared.account.Account.{Account}
use Rattle.ob_budget.proofs.Sums.{of-one, All-one, sum-set, one-le-sum}
use Rattle.ob_budget.proofs.Words.{turned}

abbrev pub St : Type 0
St = State (Unit {0}) Account

abbrev pub held_of : Account → ℕ
held_of account = account.held

abbrev pub seats_of : Account → ℕ
seats_of account = account.seats

abbrev pub began_of : Account → ℕ
began_of account = account.began

abbrev pub ended_of : Account → ℕ
ended_of account = account.ended

module _ (bounds : BoundsValue) (word : ℕ) (views : List Account) (id : ℕ) (account : Account)
    (kept : Keeps bounds word views) (at : get_elem? views id ≡ some account) where
  pub knows-bounds : account.bounds ≡ bounds
  knows-bounds = of-one (λ (a : Account). a.bounds ≡ bounds) views id account kept.same at

  -- what a seat finds it may find
  pub may-find : MayFind account word
  may-find =
      let room : account.bounds.room ≡ bounds.room = ap (λ (b : BoundsValue). b.room) knows-bounds in record {
        no_less = omega (arith, kept.sum, one-le-sum held_of views id account at);
        no_more = omega (arith, kept.within, room);
        marks = subst (λ b. MarksStand b word) (sym knows-bounds) kept.marks;
      }

  pub few-seats : account.seats ≤ most_seats
  few-seats = omega (arith, kept.seats, one-le-sum seats_of views id account at)

  -- another account that holds alike may stand in its place
  pub Keeps-read : (new : Account) → new.bounds ≡ account.bounds → new.held ≡ account.held → new.seats ≡ account.seats
      → new.began ≡ account.began → new.ended ≡ account.ended → Keeps bounds word (set views id new)
  Keeps-read new same held seats began ended =
      let idle = of-one IsIdle views id account kept.idle at in record {
        same = All-set (λ (a : Account). a.bounds ≡ bounds) views id new (same ∙ knows-bounds) kept.same;
        sum = omega (arith, kept.sum, held, sum-set held_of views id account new at);
        within = kept.within;
        marks = kept.marks;
        told = omega (arith, kept.told, began, ended, sum-set began_of views id account new at, sum-set ended_of views id account new at);
        seats = omega (arith, kept.seats, seats, sum-set seats_of views id account new at);
        idle = All-set IsIdle views id new (record {
          held = λ none. held ∙ idle.held (sym seats ∙ none);
          began = λ none. began ∙ idle.began (sym seats ∙ none);
          ended = λ none. ended ∙ idle.ended (sym seats ∙ none);
        }) kept.idle;
      }

  -- an exchange keeps the rule
  pub Keeps-move : (next : ℕ) → word ≡ account.last → MayMove account next → Keeps bounds next (set views id (after_move next account))
  Keeps-move next is may =
      let new : Account = after_move next account in
      let total : total_of word ≡ total_of account.last = ap total_of is in
      let pressed : standing (is_pressed word) ≡ standing (is_pressed account.last) = ap (λ w. standing (is_pressed w)) is in
      let room : account.bounds.room ≡ bounds.room = ap (λ (b : BoundsValue). b.room) knows-bounds in
      let some_seat = may.some_seat in record {
        same = All-set (λ (a : Account). a.bounds ≡ bounds) views id new knows-bounds kept.same;
        sum =
            omega (
              arith,
              kept.sum,
              total,
              may.no_less,
              one-le-sum held_of views id account at,
              sum-set held_of views id account new at,
            );
        within = omega (arith, may.no_more, room);
        marks = subst (λ b. MarksStand b next) knows-bounds may.marks;
        told =
            omega (
              arith,
              kept.told,
              pressed,
              turned (is_pressed account.last) (is_pressed next),
              sum-set began_of views id account new at,
              sum-set ended_of views id account new at,
            );
        seats = omega (arith, kept.seats, sum-set seats_of views id account new at);
        idle = All-set IsIdle views id new (record {
          held = λ none. absurd (omega (arith, none, some_seat));
          began = λ none. absurd (omega (arith, none, some_seat));
          ended = λ none. absurd (omega (arith, none, some_seat));
        }) kept.idle;
      }

-- a state with another word and another account of one seat
Ruled-placed : (bounds : BoundsValue) (s : St) (value id : ℕ) (slots : List (ℕ × Unit {0})) (new : Account) → Ruled bounds s
    → Keeps bounds value (set s.views id new) → Ruled bounds (stepped s 8 value id slots new keeps)
Ruled-placed bounds s value id slots new ruled kept =
    let sixteen = ruled.sixteen in record {
      sixteen = length-set s.words 8 value ∙ sixteen;
      keeps = subst (λ w. Keeps bounds w (set s.views id new)) (sym (get_or-set_same s.words 8 value 0 (omega (arith, sixteen)))) kept;
    }

pub may-read : (bounds : BoundsValue) (slots id : ℕ) (me : Knows)
    → Allows (Ruled bounds) slots id me 8 (λ n. n) (ToldRead me)
may-read bounds slots id me s ruled homes at small =
    let word : ℕ = get_or s.words 8 0 in (
      after_read word me.0,
      keeps,
      tt,
      Ruled-placed bounds s word id me.1 (after_read word me.0) ruled
          (Keeps-read bounds word s.views id me.0 ruled.keeps at (after_read word me.0) refl refl refl refl refl),
      record {
        after = refl;
        may = may-find bounds word s.views id me.0 ruled.keeps at;
        few = few-seats bounds word s.views id me.0 ruled.keeps at;
      },
    )

pub may-exchange : (bounds : BoundsValue) (slots id : ℕ) (me : Knows) (last next : ℕ) → me.0.last ≡ last → MayMove me.0 next
    → Allows (Ruled bounds) slots id me 8 (λ n. either (eqb n last) next n) (ToldMove (step slots 8 last next none) me)
may-exchange bounds slots id me last next is may s ruled homes at small =
    let word : ℕ = get_or s.words 8 0 in
    let finds = may-find bounds word s.views id me.0 ruled.keeps at in
    exchanged word last next (λ value. (new : Account) × (act : Act (Unit {0})) × Valid s.homes me.1 act
    × Ruled bounds (stepped s 8 value id me.1 new act) × ToldMove (step slots 8 last next none) me word (new, carried_after me.1 act))
    (λ won. (
      after_move next me.0,
      keeps,
      tt,
      Ruled-placed bounds s next id me.1 (after_move next me.0) ruled
          (Keeps-move bounds word s.views id me.0 ruled.keeps at next (won ∙ sym is) may),
      record { won = λ _. refl; lost = λ not. absurd (not won); may = finds },
    ))
    (λ lost. (
      after_loss word me.0,
      keeps,
      tt,
      Ruled-placed bounds s word id me.1 (after_loss word me.0) ruled
          (Keeps-read bounds word s.views id me.0 ruled.keeps at (after_loss word me.0) refl refl refl refl refl),
      record { won = λ won. absurd (lost won); lost = λ _. refl; may = finds },
    ))

-- a seat that only reads may come
pub may-glance : (bounds : BoundsValue) (slots : ℕ) (first : Account) → first.bounds ≡ bounds
    → Enters (Ruled bounds) slots 8 (λ found new. ToldGlance first found new)
may-glance bounds slots first is s ruled homes small =
    let word : ℕ = get_or s.words 8 0 in
    let new : Account = glanced first.bounds word in
    let kept = ruled.keeps in (
      new,
      record {
        sixteen = ruled.sixteen;
        keeps = record {
          same = All-append (λ (a : Account). a.bounds ≡ bounds) s.views (new ∷ []) kept.same
              (All-one (λ (a : Account). a.bounds ≡ bounds) new is);
          sum = omega (arith, kept.sum, sum_by_push held_of s.views new);
          within = kept.within;
          marks = kept.marks;
          told = omega (arith, kept.told, sum_by_push began_of s.views new, sum_by_push ended_of s.views new);
          seats = omega (arith, kept.seats, sum_by_push seats_of s.views new);
          idle = All-append IsIdle s.views (new ∷ []) kept.idle
              (All-one IsIdle new (record { held = λ _. refl; began = λ _. refl; ended = λ _. refl }));
        };
      },
      record {
        after = refl;
        may = subst (λ b. MayFind (glanced b word) word) (sym is)
            (record { no_less = omega arith; no_more = kept.within; marks = kept.marks });
      },
    )
