-- What one more event makes of the window.
use Rattle.std.proofs.Common.{◌≡◌, List, [], ◌∷◌, ◌++◌, sym, ap, ◌∙◌, append-nil, append_assoc}
use Rattle.ob_lifecycle.specs.Events.{Event, Opened}
use Rattle.ob_lifecycle.specs.Strain.{watch_after, watched, watched_from}
use Rattle.ob_lifecycle.specs.declared.watch.Watch.{Watch}

watch_from_more : (opened : Opened) (earlier : List Event) (watch : Watch) (events : List Event) (event : Event)
    → watched_from opened earlier watch (events ++ event ∷ []) ≡ watched opened (earlier ++ events) event (watched_from opened earlier watch events)
watch_from_more opened earlier watch [] event = ap (λ before. watched opened before event watch) (sym (append-nil earlier))
watch_from_more opened earlier watch (first ∷ events) event =
    watch_from_more opened (earlier ++ first ∷ []) (watched opened earlier first watch) events event
    ∙ ap (λ before. watched opened before event (watched_from opened (earlier ++ first ∷ []) (watched opened earlier first watch) events))
    (append_assoc earlier (first ∷ []) events)

pub watch_more : (opened : Opened) (events : List Event) (event : Event)
    → watch_after opened (events ++ event ∷ []) ≡ watched opened events event (watch_after opened events)
watch_more opened events event = watch_from_more opened [] _ events event
