-- Whether a sink was asked, by how a pass ends.
use Rattle.std.proofs.Common.{◌≡◌, ℕ, ◌-◌, Bool, true, false, List, [], ◌∷◌, refl, sym, ap, subst, cond, leb}
use Rattle.std.specs.Prelude.{Option, Some, None, Result, Ok, Err}
use Rattle.std.specs.List.{concat}
use Rattle.ob_types.specs.declared.command.Command.{Command}
use Rattle.ob_types.specs.declared.command.Command.TheVariants.{Remove}
use Rattle.ob_types.specs.declared.message.Message.{Message}
use Rattle.ob_types.specs.declared.message.Message.TheVariants.{Block, Region, Other}
use Rattle.ob_transport.specs.Inside.{Clearing, IsOffered, Offer, Units, offer_at, offer_by}
use Rattle.ob_transport.specs.Pass.{Clears, Standing}
use Rattle.ob_transport.specs.Sent.{current_in, gathered_in, progress_in, Asked, IsAskedOnce, StandsInFront}
use Rattle.ob_transport.specs.Sent.{answer_told}
use Rattle.ob_transport.specs.declared.fault.Pass.{Pass}
use Rattle.ob_transport.specs.declared.fault.Pass.TheVariants.{Idle, Stalled, Cleared, Took}
use Rattle.ob_transport.specs.declared.fault.PassFault.{PassFault}
use Rattle.ob_transport.specs.declared.fault.PassFault.TheVariants.{Sink, HistoryFull, NoMemory, Unbooked}
use Rattle.ob_transport.specs.declared.limits.Limits.{Limits}
use Rattle.ob_transport.specs.declared.sink.SinkFault.{SinkFault}

-- what is cleared shows no answer
pub clears_unasked : (caller : ℕ) (command : Command) (before after : Standing) (result : Result Pass PassFault) →
    Clears caller command before result after → answer_told result ≡ None
clears_unasked caller command before after (Ok Idle) clears = absurd clears
clears_unasked caller command before after (Ok Stalled) clears = absurd clears
clears_unasked caller command before after (Ok Cleared) clears = refl
clears_unasked caller command before after (Ok (Took n)) clears = absurd clears
clears_unasked caller command before after (Err (Sink fault)) clears = absurd clears
clears_unasked caller command before after (Err HistoryFull) clears = refl
clears_unasked caller command before after (Err NoMemory) clears = refl
clears_unasked caller command before after (Err (Unbooked taken)) clears = absurd clears

-- if no answer is shown, a sink that is as it was is asked as it should be
pub unasked : {S : Type 0} (does : S → Asked → Result ℕ SinkFault → S → Type 0) (Kind : Asked → Type 0)
    (before after : S) (told : Option (Result ℕ SinkFault)) →
    told ≡ None → after ≡ before → IsAskedOnce does Kind before told after
unasked does Kind before after told none same =
    subst (λ told. IsAskedOnce does Kind before told after) (sym none) same

-- what is asked of one kind is asked of another that has all of it
pub asked_also : {S : Type 0} (does : S → Asked → Result ℕ SinkFault → S → Type 0) (Kind Wider : Asked → Type 0)
    (before after : S) (told : Option (Result ℕ SinkFault)) →
    ((asked : Asked) → Kind asked → Wider asked) → IsAskedOnce does Kind before told after →
    IsAskedOnce does Wider before told after
asked_also does Kind Wider before after None wider asks = asks
asked_also does Kind Wider before after (Some answer) wider asks = (asks.0, wider asks.0 asks.1, asks.2)

-- what there is to be offered stands in front
pub offered_stands : (limits : Limits) (at : Standing) (offer : Offer) → offer ≡ offer_at limits at →
    (asked : Asked) → IsOffered offer asked → StandsInFront limits at.history asked
offered_stands limits at offer is asked offered =
    by_message (current_in at.history) (gathered_in limits at.history) refl refl (subst (λ offer. IsOffered offer asked) is offered)
  where
    by_message : (message : Option Message) (blocks : List (List ℕ)) → current_in at.history ≡ message →
        gathered_in limits at.history ≡ blocks →
        IsOffered (offer_by message blocks (progress_in at.history)) asked → StandsInFront limits at.history asked
    by_message None blocks front gathered offered = absurd offered
    by_message (Some (Block bytes)) [] front gathered offered = absurd offered
    by_message (Some (Block bytes)) (block ∷ blocks) front gathered offered =
        subst (StandsInFront limits at.history) (sym offered) (sym (ap (λ blocks. concat blocks) gathered))
    by_message (Some (Region length)) blocks front gathered offered =
        by_test (leb length (progress_in at.history)) offered
      where
        by_test : (done : Bool) →
            IsOffered (cond done (Clearing Remove) (Units (length - progress_in at.history))) asked →
            StandsInFront limits at.history asked
        by_test true offered = absurd offered
        by_test false offered = subst (StandsInFront limits at.history) (sym offered) (length, front, refl)
    by_message (Some (Other value)) blocks front gathered offered = absurd offered
