-- What one more event adds to what is kept beside a connection.
use Rattle.std.proofs.Common.{◌≡◌, Bool, true, false, List, [], ◌∷◌, ◌++◌, ◌||◌, ◌&&◌, sym, refl, ap, ◌∙◌, subst, append_assoc, append-nil}
use Rattle.std.specs.List.{list_any}
use Rattle.std.proofs.lemmas.List.Elements.{filter_map-append}
use Rattle.std.proofs.lemmas.List.Folds.{list_any-append}
use Rattle.ob_lifecycle.specs.Events.{Event, Opened, command_of, commands_in, along_from, along, asks_for_the_end}
use Rattle.ob_lifecycle.specs.Events.{is_finishing, is_over, is_over_by, was_over}

-- the commands of more events
pub commands_more : (events more : List Event) → commands_in (events ++ more) ≡ commands_in events ++ commands_in more
commands_more events more = filter_map-append command_of events more

-- one more event has one more value
along_from_more : {A : Type 0} (value : List Event → Event → A) (earlier events : List Event) (event : Event)
    → along_from value earlier (events ++ event ∷ []) ≡ along_from value earlier events ++ value (earlier ++ events) event ∷ []
along_from_more value earlier [] event = ap (λ before. value before event ∷ []) (sym (append-nil earlier))
along_from_more value earlier (first ∷ events) event =
    ap (λ rest. value earlier first ∷ rest) (along_from_more value (earlier ++ first ∷ []) events event
    ∙ ap (λ before. along_from value (earlier ++ first ∷ []) events ++ value before event ∷ [])
    (append_assoc earlier (first ∷ []) events))

pub along_more : {A : Type 0} (value : List Event → Event → A) (events : List Event) (event : Event)
    → along value (events ++ event ∷ []) ≡ along value events ++ value events event ∷ []
along_more value events event = along_from_more value [] events event

-- what holds of no events, and of one more whenever it held before, holds of all
pub by_events_from : {X : Type 0} (P : List X → Type 0) → ((earlier : List X) (event : X) → P earlier → P (earlier ++ event ∷ []))
    → (earlier events : List X) → P earlier → P (earlier ++ events)
by_events_from P more earlier [] holds = subst P (sym (append-nil earlier)) holds
by_events_from P more earlier (event ∷ events) holds =
    subst P (append_assoc earlier (event ∷ []) events)
    (by_events_from P more (earlier ++ event ∷ []) events (more earlier event holds))

pub by_events : {X : Type 0} (P : List X → Type 0) → P []
    → ((earlier : List X) (event : X) → P earlier → P (earlier ++ event ∷ [])) → (events : List X) → P events
by_events P base more events = by_events_from P more [] events base

pub or_true : (b : Bool) → (b || true) ≡ true
or_true true = refl
or_true false = refl

pub or_none : (b : Bool) → (b || false) ≡ b
or_none true = refl
or_none false = refl

pub and_all : (b : Bool) → (b && true) ≡ b
and_all true = refl
and_all false = refl

any_more : {X : Type 0} (p : X → Bool) (xs : List X) (x : X) → list_any p (xs ++ x ∷ []) ≡ (list_any p xs || p x)
any_more p xs x = list_any-append p xs (x ∷ []) ∙ ap (λ b. list_any p xs || b) (or_none (p x))

pub finishing_more : (events : List Event) (event : Event)
    → is_finishing (events ++ event ∷ []) ≡ (is_finishing events || asks_for_the_end event)
finishing_more events event = any_more asks_for_the_end events event

pub over_more : (opened : Opened) (events : List Event) (event : Event)
    → was_over opened (events ++ event ∷ []) ≡ (was_over opened events || is_over opened (events ++ event ∷ []))
over_more opened events event =
    ap (λ moments. list_any (λ over. over) moments) (along_more (is_over_by opened) events event)
    ∙ any_more (λ over. over) (along (is_over_by opened) events) (is_over_by opened events event)

-- an end that is reached was reached at some moment
pub over_seen : (opened : Opened) (events : List Event) → is_over opened events ≡ true → was_over opened events ≡ true
over_seen opened events is =
    by_events (λ events. is_over opened events ≡ true → was_over opened events ≡ true) (λ never. absurd (cc))
    (λ earlier event before now. over_more opened earlier event ∙ ap (λ b. was_over opened earlier || b) now ∙ or_true (was_over opened earlier))
    events is
