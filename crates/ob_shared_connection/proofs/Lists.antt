-- Lists of calls, and lists of views.
use Rattle.std.proofs.Common.{◌≡◌, ◌≢◌, ◌⊎◌, inl, inr, ⊎_elim, ℕ, zero, suc, Bool, true, false, List, [], ◌∷◌, ◌++◌, ◌<◌, ◌+◌, ◌||◌}
use Rattle.std.proofs.Common.{refl, sym, ap, ◌∙◌, subst, append_assoc, ne_eqb, eq-eqb, eqb, if◌then◌else◌, set, get_or, length, arith}
use Rattle.std.specs.List.{All, list_all, sum_by}
use Rattle.std.proofs.lemmas.List.{append-nil, map-append}
use Rattle.std.proofs.lemmas.List.Elements.{All-cons, All-head, All-map, All-nil, All-tail}
use Rattle.std.proofs.lemmas.List.Sums.{AllPass-from_list_all, sum_by-set}
use mathlib.Core.Option.{some, some-injective, some-ne-none}
use lib.ListN.{get_elem?}
use Rattle.ob_types.specs.declared.command.Command.{Command}
use Rattle.ob_shared_connection.specs.Values.{IsBeginning, calls_of, commands_by, commands_of, MayGive, NoneRemoves}
use Rattle.ob_shared_connection.specs.Values.{leaves_flushed}
use Rattle.ob_shared_connection.specs.declared.call.Call.{Call}

-- a list that ends with nothing more is itself
pub nothing_more : {A : Type 0} (all rest : List A) → all ++ rest ≡ all → rest ≡ []
nothing_more [] rest e = e
nothing_more (x ∷ all) rest e = nothing_more all rest (cc e)

-- of nothing each part is nothing
pub first_of_nothing : {A : Type 0} (first rest : List A) → first ++ rest ≡ [] → first ≡ []
first_of_nothing [] rest e = refl
first_of_nothing (x ∷ first) rest e = cc e

-- two lists with one beginning
pub append_cancels : {A : Type 0} (first rest other : List A) → first ++ rest ≡ first ++ other → rest ≡ other
append_cancels [] rest other e = e
append_cancels (x ∷ first) rest other e = append_cancels first rest other (cc e)

-- what holds of each of two lists together holds of each of either
pub both_parts : {A : Type 0} (P : A → Type 0) (first rest : List A) → All P (first ++ rest)
    → All P first × All P rest
both_parts P [] rest all = (All-nil P, all)
both_parts P (x ∷ first) rest all =
    let more = both_parts P first rest (All-tail P x (first ++ rest) all) in
    (All-cons P x first (All-head P x (first ++ rest) all) more.0, more.1)

-- calls begin themselves
pub begins_itself : (log : List Call) → IsBeginning log log
begins_itself log = record { rest = []; whole = append-nil log }

-- what begins a beginning begins the whole
pub begins_further : (first more all : List Call) → IsBeginning first more → IsBeginning more all → IsBeginning first all
begins_further first more all begins further = record {
  rest = begins.rest ++ further.rest;
  whole = sym (append_assoc first begins.rest further.rest)
      ∙ ap (λ (calls : List Call). calls ++ further.rest) begins.whole ∙ further.whole;
}

-- what one handle asked in two lists
pub commands_by-append : (caller : ℕ) (first rest : List Call)
    → commands_by caller (first ++ rest) ≡ commands_by caller first ++ commands_by caller rest
commands_by-append caller [] rest = refl
commands_by-append caller (call ∷ first) rest =
    let more = commands_by-append caller first rest in
    elim (eqb call.caller caller) as (λ mine.
    (if mine then call.command ∷ commands_by caller (first ++ rest) else commands_by caller (first ++ rest))
    ≡ (if mine then call.command ∷ commands_by caller first else commands_by caller first) ++ commands_by caller rest)
    [ true ↦ ap (λ (commands : List Command). call.command ∷ commands) more | false ↦ more ]

-- what a handle asked in its own calls
pub commands_by-own : (caller : ℕ) (commands : List Command) → commands_by caller (calls_of caller commands) ≡ commands
commands_by-own caller [] = refl
commands_by-own caller (command ∷ commands) =
    subst (λ (mine : Bool).
    (if mine then command ∷ commands_by caller (calls_of caller commands)
    else commands_by caller (calls_of caller commands)) ≡ command ∷ commands)
    (sym (eq-eqb caller caller refl))
    (ap (λ (more : List Command). command ∷ more) (commands_by-own caller commands))

-- and in those of another
pub commands_by-other : (caller other : ℕ) (commands : List Command) → caller ≢ other
    → commands_by caller (calls_of other commands) ≡ []
commands_by-other caller other [] apart = refl
commands_by-other caller other (command ∷ commands) apart =
    subst (λ (mine : Bool).
    (if mine then command ∷ commands_by caller (calls_of other commands)
    else commands_by caller (calls_of other commands)) ≡ [])
    (sym (ne_eqb other caller (λ same. apart (sym same)))) (commands_by-other caller other commands apart)

-- another handle's calls add nothing
pub none_added : (caller other : ℕ) (log : List Call) (commands : List Command) → caller ≢ other
    → commands_by caller (log ++ calls_of other commands) ≡ commands_by caller log
none_added caller other log commands apart =
    commands_by-append caller log (calls_of other commands)
    ∙ ap (λ (more : List Command). commands_by caller log ++ more) (commands_by-other caller other commands apart)
    ∙ append-nil (commands_by caller log)

-- and its own its commands
pub own_added : (caller : ℕ) (log : List Call) (commands : List Command)
    → commands_by caller (log ++ calls_of caller commands) ≡ commands_by caller log ++ commands
own_added caller log commands =
    commands_by-append caller log (calls_of caller commands)
    ∙ ap (λ (more : List Command). commands_by caller log ++ more) (commands_by-own caller commands)

-- the commands of calls
pub commands_of-calls : (caller : ℕ) (commands : List Command) → commands_of (calls_of caller commands) ≡ commands
commands_of-calls caller [] = refl
commands_of-calls caller (command ∷ commands) =
    ap (λ (more : List Command). command ∷ more) (commands_of-calls caller commands)

pub commands_of-more : (caller : ℕ) (log : List Call) (commands : List Command)
    → commands_of (log ++ calls_of caller commands) ≡ commands_of log ++ commands
commands_of-more caller log commands =
    map-append (λ (call : Call). call.command) log (calls_of caller commands)
    ∙ ap (λ (more : List Command). commands_of log ++ more) (commands_of-calls caller commands)

-- the calls of commands that take nothing away
pub none_removes : (caller : ℕ) (sends : Bool) (commands : List Command) → MayGive sends commands → sends ≡ false
    → NoneRemoves (calls_of caller commands)
none_removes caller sends commands may not_it =
    All-map (λ call. leaves_flushed call.command ≡ true) (λ command. record { caller = caller; command = command }) commands
    (AllPass-from_list_all leaves_flushed commands (without (list_all leaves_flushed commands) sends may not_it))
  where
    without : (all mine : Bool) → (all || mine) ≡ true → mine ≡ false → all ≡ true
    without true mine may not_it = refl
    without false mine may not_it = cc (may, not_it)

-- a test that cannot hold does not
pub is_false : (b : Bool) → (b ≡ true → ⊥) → b ≡ false
is_false true never = absurd (never refl)
is_false false never = refl

module _ {A : Type 0} where
  -- what stands somewhere stands below the end
  pub at_below : (l : List A) (i : ℕ) (a : A) → get_elem? l i ≡ some a → i < length l
  at_below [] i a e = absurd (some-ne-none a (sym e))
  at_below (x ∷ xs) zero a e = omega arith
  at_below (x ∷ xs) (suc i) a e = omega (arith, at_below xs i a e)

  -- and is what is read there
  pub at_read : (l : List A) (i : ℕ) (a d : A) → get_elem? l i ≡ some a → get_or l i d ≡ a
  at_read [] i a d e = absurd (some-ne-none a (sym e))
  at_read (x ∷ xs) zero a d e = some-injective x a e
  at_read (x ∷ xs) (suc i) a d e = at_read xs i a d e

  -- what stands in a longer list stands in the shorter one, or is its last
  pub at_more : (l : List A) (a b : A) (j : ℕ) → get_elem? (l ++ a ∷ []) j ≡ some b
      → (get_elem? l j ≡ some b) ⊎ ((j ≡ length l) × (a ≡ b))
  at_more [] a b zero e = inr (refl, some-injective a b e)
  at_more [] a b (suc j) e = absurd (some-ne-none b (sym e))
  at_more (x ∷ xs) a b zero e = inl e
  at_more (x ∷ xs) a b (suc j) e =
      ⊎_elim (λ here. inl here) (λ last. inr (ap suc last.0, last.1)) (at_more xs a b j e)

  -- a list of one, once that one is written
  pub one_set : (l : List A) (a : A) → length l ≡ 1 → set l 0 a ≡ a ∷ []
  one_set [] a e = absurd (omega arith)
  one_set (x ∷ []) a e = refl
  one_set (x ∷ y ∷ xs) a e = absurd (omega arith)

  -- a sum once one of its terms is another
  pub sum_set : (f : A → ℕ) (l : List A) (i : ℕ) (a b : A) → get_elem? l i ≡ some a
      → sum_by f (set l i b) + f a ≡ sum_by f l + f b
  sum_set f l i a b e =
      ap (λ (x : A). sum_by f (set l i b) + f x) (sym (at_read l i a a e)) ∙ sum_by-set f l i b a (at_below l i a e)
