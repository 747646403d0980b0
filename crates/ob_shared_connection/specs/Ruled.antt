-- What holds of the words, of the connection and of what each seat knows, between any two steps: of the bells, of
-- whoever lets the lock go, and of which table a seat is. No public clause cites it.
use Rattle.std.specs.Prelude.{ℕ, Bool, true, false, ◌≡◌, ◌≢◌, ◌<◌, ◌≤◌, ◌+◌, ◌^◌, List, [], ◌∷◌, ◌++◌, length}
use Rattle.std.specs.Prelude.{slice_index, None, option_map}
use Rattle.std.specs.List.{All, sum_by}
use Rattle.std.specs.Arc.{arc_value}
use mathlib.Core.Option.{Option, none, some}
use lib.ListN.{get_elem?}
use Rattle.atomic_table.specs.Seated.{TableId}
use Rattle.atomic_table.specs.declared.shared.Seat.{Seat}
use Rattle.atomic_table.specs.Table.{State}
use Rattle.ob_types.specs.declared.command.Command.{Command}
use Rattle.ob_seq.specs.Looks.{look_after}
use Rattle.ob_seq.specs.Rows.{Settings}
use Rattle.ob_connection.specs.Connected.{Connected, Gives}
use Rattle.ob_shared_connection.specs.Values.{IsCovered, Within, cover_of, IsBeginning, calls_of, commands_by}
use Rattle.ob_shared_connection.specs.Values.{commands_of, NoneRemoves, halves, parts_in, IsLeftBy, IsLegal}
use Rattle.ob_shared_connection.specs.Values.{glance_after, packed_glance, is_due, moment_after}
use Rattle.ob_shared_connection.specs.declared.bell.Waiter.{Waiter}
use Rattle.ob_shared_connection.specs.declared.bell.Waiter.TheVariants.{Writer, Sender}
use Rattle.ob_shared_connection.specs.declared.call.Call.{Call}
use Rattle.ob_shared_connection.specs.declared.carried.Carried.{Carried}
use Rattle.ob_shared_connection.specs.declared.looks.Parting.{Parting}
use Rattle.ob_shared_connection.specs.declared.rule.Opened.{Opened}
use Rattle.ob_shared_connection.specs.declared.shared.Shared.{Shared}
use Rattle.ob_shared_connection.specs.declared.view.Bells.{Bells}
use Rattle.ob_shared_connection.specs.declared.view.View.{View}

-- the word that is the lock
abbrev pub lock_word : ℕ
lock_word = 0

-- the word that counts the handles that there ever were
abbrev pub handles_word : ℕ
handles_word = 1

-- the word that is published
abbrev pub glance_word : ℕ
glance_word = 2

-- the word that is the bell
abbrev pub bell_word : Waiter → ℕ
bell_word Writer = 3
bell_word Sender = 4

-- the word that tells if nobody sends
abbrev pub role_word : ℕ
role_word = 5

-- what that word is if a handle sends, or was lost with the role
abbrev pub given_out : ℕ
given_out = 0

-- what it is if nobody sends
abbrev pub vacant : ℕ
vacant = 1

-- nothing is known of them, and nothing is owed
abbrev pub unheard : Bells
unheard = record { writers_silent = false; writers_owed = false; work_silent = false; work_owed = false }

-- whether it is known that nobody waits at the bell
abbrev pub is_silent : Waiter → Bells → Bool
is_silent Writer bells = bells.writers_silent
is_silent Sender bells = bells.work_silent

-- whether those who waited there are still to be woken
abbrev pub is_owed : Waiter → Bells → Bool
is_owed Writer bells = bells.writers_owed
is_owed Sender bells = bells.work_owed

-- once it was heard that nobody waits there
abbrev pub silent : Waiter → Bells → Bells
silent Writer bells = record bells { writers_silent = true }
silent Sender bells = record bells { work_silent = true }

-- once it was silenced, so that those are owed who waited
abbrev pub silenced : Waiter → Bells → Bells
silenced Writer bells = record bells { writers_silent = true; writers_owed = true }
silenced Sender bells = record bells { work_silent = true; work_owed = true }

-- once someone waits there
abbrev pub awaited : Waiter → Bells → Bells
awaited Writer bells = record bells { writers_silent = false }
awaited Sender bells = record bells { work_silent = false }

-- whatever history the connection stands for, these are the word and the total after it, and whether writers and the
-- transport may go on
pub record IsParting (connected : Connected) (parting : Parting) : Type 0 where
  pub word : Gives connected (λ settings commands. (look_after settings commands).word) parting.word
  pub total : Gives connected (λ settings commands. (look_after settings commands).total) parting.total
  pub writers : Gives connected (λ settings commands. is_due (moment_after Writer settings commands)) parting.writers
  pub work : Gives connected (λ settings commands. is_due (moment_after Sender settings commands)) parting.work

-- the name of a table
abbrev pub table_of : Shared → TableId
table_of shared = shared.table.shared.table_id

-- a seat is of this table
abbrev pub IsSeatOf : Shared → Seat Carried View → Type 0
IsSeatOf shared seat = seat.table_id ≡ table_of shared

-- it is the same seat, whatever it knows
pub record IsSameSeat (old new : Seat Carried View) : Type 0 where
  pub table : new.table_id ≡ old.table_id
  pub number : new.id ≡ old.id

-- what a seat's connection was opened with
abbrev pub settings_of : View → Settings
settings_of view = record { marks = view.marks; estimate = view.estimate }

-- the budget that a connection is opened within, if one
abbrev pub within_of : Opened → Within
within_of opened = option_map (λ budget. arc_value budget) opened.budget

-- what the first seat knows
abbrev pub first_view : Opened → View
first_view opened = record {
  marks = opened.marks;
  estimate = opened.estimate;
  budget = within_of opened;
  named = true;
  spent = false;
  caller = 0;
  sends = true;
  holds = false;
  shows = false;
  mine = [];
  seen = [];
  told = [];
  others = 0;
  handed = 0;
  share = 0 ∷ [];
  bells = unheard;
}

-- what a new seat knows that is cut off another one
abbrev pub new_view : View → View
new_view view = record {
  marks = view.marks;
  estimate = view.estimate;
  budget = view.budget;
  named = false;
  spent = false;
  caller = 0;
  sends = false;
  holds = false;
  shows = false;
  mine = [];
  seen = view.seen;
  told = [];
  others = 0;
  handed = 0;
  share = view.share;
  bells = unheard;
}

-- what the seat knows that it was cut off
abbrev pub sharing_view : View → View
sharing_view view = record view { share = halves view.share }

-- once it has its number
abbrev pub named_view : ℕ → View → View
named_view caller view = record view { named = true; caller = caller }

-- once it has the lock, and has seen these calls
abbrev pub held_view : List Call → View → View
held_view log view = record view { holds = true; shows = true; seen = log; bells = unheard }

-- once it has published the glance after all calls
abbrev pub shown_view : View → View
shown_view view = record view { shows = true }

-- once it knows this of the bells
abbrev pub hearing_view : Bells → View → View
hearing_view bells view = record view { bells = bells }

-- once it sends, and once it does not any more
abbrev pub sending_view : View → View
sending_view view = record view { sends = true }

abbrev pub resigned_view : View → View
resigned_view view = record view { sends = false }

-- once it let the lock go
abbrev pub free_view : View → View
free_view view = record view { holds = false }

-- once it has seen these calls, and all that it was told of
abbrev pub seeing_view : List Call → View → View
seeing_view log view = record view { seen = log; told = [] }

-- once these commands were accepted from its handle
abbrev pub view_with : List Command → View → View
view_with commands view = record view {
  shows = false;
  mine = view.mine ++ commands;
  seen = view.seen ++ calls_of view.caller commands;
}

-- once it took another one in
abbrev pub both_views : View → View → View
both_views view other = record view {
  told = other.seen;
  others = view.others + (1 + other.others);
  handed = view.handed + (length other.mine + other.handed);
  share = view.share ++ other.share;
}

-- what a seat knows that was taken in
abbrev pub spent_view : View
spent_view = record {
  marks = record { low = 0; high = 0 };
  estimate = record { overhead = 0; unknown = 0 };
  budget = None;
  named = false;
  spent = true;
  caller = 0;
  sends = false;
  holds = false;
  shows = false;
  mine = [];
  seen = [];
  told = [];
  others = 0;
  handed = 0;
  share = [];
  bells = unheard;
}

-- a number, if this holds, and else none
abbrev pub count_if : Bool → ℕ → ℕ
count_if true count = count
count_if false count = 0

-- how many handles a seat stands for
abbrev pub handles_of : View → ℕ
handles_of view = count_if view.named (1 + view.others)

-- how many calls were accepted from those
abbrev pub calls_with : View → ℕ
calls_with view = count_if view.named (length view.mine + view.handed)

-- what is behind the words and the connection: what was opened, within which budget, all accepted calls, those after
-- which the glance was published, which seat had the lock last, and which one sends, if one does
pub record Past : Type 0 where
  pub settings : Settings
  pub budget : Within
  pub log : List Call
  pub shown : List Call
  pub holder : ℕ
  pub sender : Option ℕ

-- what the seat with this number knows fits that: it has seen a beginning of the calls; those of its own number are its
-- own; if it has the lock it is the only one, has seen all, and knows if all are published; if it has not, what it has
-- seen is published, and so is what it was told of; and if it is the one that sends, it is the only one, and nothing that
-- it has not seen took flushed messages away
pub record Fits (past : Past) (seat : ℕ) (view : View) : Type 0 where
  pub opened : view.spent ≡ false → settings_of view ≡ past.settings
  pub budgeted : view.spent ≡ false → view.budget ≡ past.budget
  pub part : IsBeginning view.seen past.log
  pub told : IsBeginning view.told past.shown
  pub numbered : view.named ≡ true → view.caller ≡ seat
  pub own : view.spent ≡ false → view.mine ≡ commands_by seat past.log
  pub one : view.holds ≡ true → seat ≡ past.holder
  pub whole : view.holds ≡ true → view.seen ≡ past.log
  pub current : view.holds ≡ true → view.shows ≡ true → past.shown ≡ past.log
  pub seen_shown : view.holds ≡ false → IsBeginning view.seen past.shown
  pub sender_is : view.sends ≡ true → past.sender ≡ some seat
  pub untouched : view.sends ≡ true → NoneRemoves part.rest

-- all seats fit
abbrev pub AllFit : Past → List View → Type 0
AllFit past views = (seat : ℕ) (view : View) → get_elem? views seat ≡ some view → Fits past seat view

-- nobody has the lock
abbrev pub IsNobodys : List View → Type 0
IsNobodys views = (seat : ℕ) (view : View) → get_elem? views seat ≡ some view → view.holds ≡ false

-- the connection is at home, and is what the calls leave, and what is pending of it is covered; the glance after all of
-- them is published
pub record AtHome (past : Past) (homes : List (Option Carried)) : Type 0 where
  pub carried : Carried
  pub here : homes ≡ some carried ∷ []
  pub left : IsLeftBy past.settings past.log carried.connection
  pub covered : IsCovered past.budget carried.connection (cover_of carried)
  pub all_shown : past.shown ≡ past.log

-- nobody has the lock, and the connection is at home
pub record IsFree (past : Past) (homes : List (Option Carried)) (views : List View) : Type 0 where
  pub home : AtHome past homes
  pub nobody : IsNobodys views

-- this number is the glance after a beginning of the calls
pub record IsShown (past : Past) (number : ℕ) : Type 0 where
  pub begins : IsBeginning past.shown past.log
  pub legal : IsLegal past.settings past.shown
  pub published : number ≡ packed_glance (glance_after past.settings past.shown)
  pub small : (glance_after past.settings past.shown).total < 4294967296

-- this is the number of handles that there ever were, and each call is of one of them
pub record AreCounted (log : List Call) (number : ℕ) (views : List View) : Type 0 where
  pub none_yet : (seat : ℕ) → length views ≤ seat → commands_by seat log ≡ []
  pub given : number ≡ sum_by handles_of views
  pub counted : length log ≡ sum_by calls_with views

-- a seat has a share unless it was taken in, and the whole is cut as finely as its parts
pub record HasShare (fine : ℕ) (view : View) : Type 0 where
  pub within : All (λ halved. halved ≤ fine) view.share
  pub some : view.spent ≡ false → 0 < length view.share
  pub there : view.named ≡ true → view.spent ≡ false

-- the shares of all seats are together the whole
pub record AreShared (views : List View) : Type 0 where
  pub fine : ℕ
  pub each : (seat : ℕ) (view : View) → get_elem? views seat ≡ some view → HasShare fine view
  pub whole : sum_by (λ view. parts_in fine view.share) views ≡ 2 ^ fine

-- the seat of a handle has the lock
pub record IsTaken (views : List View) : Type 0 where
  pub seat : ℕ
  pub view : View
  pub at : get_elem? views seat ≡ some view
  pub holds : view.holds ≡ true
  pub named : view.named ≡ true

-- while the lock is free, nobody waits at a bell who may go on; and what the seat knows that has the lock is so
pub record IsBell (waiter : Waiter) (past : Past) (lock bell : ℕ) (views : List View) : Type 0 where
  pub rung : lock ≡ 0 → is_due (moment_after waiter past.settings (commands_of past.log)) ≡ true → bell ≡ 0
  pub known : (seat : ℕ) (view : View) → get_elem? views seat ≡ some view → view.holds ≡ true
      → is_silent waiter view.bells ≡ true → bell ≡ 0

-- if this number says that nobody sends, nobody does
abbrev pub IsVacant : Past → ℕ → Type 0
IsVacant past number = number ≡ vacant → past.sender ≡ none

-- there is one list of calls, which the views of all seats fit; while the lock is free the connection is at home, and else
-- a handle has it; each other word is what its name says
pub record Ruled (state : State Carried View) : Type 0 where
  pub past : Past
  pub words : length state.words ≡ 6
  pub free : slice_index state.words lock_word ≡ 0 → IsFree past state.homes state.views
  pub fits : AllFit past state.views
  pub taken : slice_index state.words lock_word ≢ 0 → IsTaken state.views
  pub counts : AreCounted past.log (slice_index state.words handles_word) state.views
  pub shares : AreShared state.views
  pub bells : (waiter : Waiter) →
      IsBell waiter past (slice_index state.words lock_word) (slice_index state.words (bell_word waiter)) state.views
  pub shown : IsShown past (slice_index state.words glance_word)
  pub role : IsVacant past (slice_index state.words role_word)
