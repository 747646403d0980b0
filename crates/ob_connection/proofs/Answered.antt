-- How a sending of several turns ends, turn by turn.
use Rattle.ob_connection.proofs.Words.{◌≡◌, ◌≤◌, ◌+◌, ℕ, List, [], ◌∷◌, ◌++◌, map, refl, sym, ap, ◌∙◌, subst}
use Rattle.ob_connection.proofs.Words.{append_assoc, arith, Option, Some, None, Result, length-append}
use Rattle.std.specs.List.{sum_by}
use Rattle.std.proofs.lemmas.List.{map-append}
use Rattle.std.proofs.lemmas.List.Elements.{All-append, All-nil}
use Rattle.std.proofs.lemmas.List.Sums.{sum_by-append, sum_by-cons}
use Rattle.ob_connection.specs.Calls.{Call, answers_in, bytes_of, calls_with, with_more}
use Rattle.ob_connection.specs.Sending.{AllTook, AsksInTurns, ended_by, EndsWithin, OffersInTurns, Stopped}
use Rattle.ob_connection.specs.declared.ending.Ending.{Ending}
use Rattle.ob_connection.specs.declared.ending.Ending.TheVariants.{Drained, Blocked, OtherInFront, TurnsUsed, Broken}
use Rattle.ob_connection.specs.declared.socket.SocketFault.{SocketFault}
use Rattle.ob_connection.specs.Inside.{answer_of, bytes_taken}
use Rattle.ob_connection.specs.declared.connection.offer.Offer.{Offer}
use Rattle.ob_connection.specs.declared.connection.offer.Offer.TheVariants.{Nothing, Took, Blocked as AskedBlocked, Broken as AskedBroken}
use Rattle.ob_connection.proofs.Offered.{taken_twice}

abbrev Answered : Type 0
Answered = Result ℕ SocketFault

abbrev TookBytes : Answered → Type 0
TookBytes answer = ended_by answer ≡ None

pub none_took : AllTook []
none_took = All-nil TookBytes

pub stopped_at_once : (last : Answered) (ending : Ending) → ended_by last ≡ Some ending → Stopped (last ∷ []) ending
stopped_at_once last ending ends = record { earlier = []; last = last; all = refl; took = none_took; ends = ends }

stopped_later : (earlier now : List Answered) (ending : Ending) → AllTook earlier → Stopped now ending →
    Stopped (earlier ++ now) ending
stopped_later earlier now ending took stopped = record {
  earlier = earlier ++ stopped.earlier;
  last = stopped.last;
  all = ap (λ answers. earlier ++ answers) stopped.all ∙ sym (append_assoc earlier stopped.earlier (stopped.last ∷ []));
  took = All-append TookBytes earlier stopped.earlier took stopped.took;
  ends = stopped.ends;
}

-- a turn after others that the socket took bytes in
one_more : (turns : ℕ) (earlier now : List Answered) (ending : Ending) → EndsWithin turns earlier TurnsUsed →
    EndsWithin 1 now ending → EndsWithin (turns + 1) (earlier ++ now) ending
one_more turns earlier now Drained before ends =
    (All-append TookBytes earlier now before.0 ends.0, omega (arith, length-append earlier now, before.1, ends.1))
one_more turns earlier now OtherInFront before ends =
    (All-append TookBytes earlier now before.0 ends.0, omega (arith, length-append earlier now, before.1, ends.1))
one_more turns earlier now TurnsUsed before ends =
    (All-append TookBytes earlier now before.0 ends.0, omega (arith, length-append earlier now, before.1, ends.1))
one_more turns earlier now Blocked before ends =
    (stopped_later earlier now Blocked before.0 ends.0, omega (arith, length-append earlier now, before.1, ends.1))
one_more turns earlier now (Broken error) before ends =
    (stopped_later earlier now (Broken error) before.0 ends.0, omega (arith, length-append earlier now, before.1, ends.1))

-- a sending that ended before its turns were used up would have ended so within more of them
more_turns : (few many : ℕ) (answers : List Answered) (ending : Ending) → ¬ (ending ≡ TurnsUsed) → few ≤ many →
    EndsWithin few answers ending → EndsWithin many answers ending
more_turns few many answers Drained other fit ends = (ends.0, omega (arith, ends.1, fit))
more_turns few many answers OtherInFront other fit ends = (ends.0, omega (arith, ends.1, fit))
more_turns few many answers TurnsUsed other fit ends = absurd (other refl)
more_turns few many answers Blocked other fit ends = (ends.0, omega (arith, ends.1, fit))
more_turns few many answers (Broken error) other fit ends = (ends.0, omega (arith, ends.1, fit))

abbrev answers_of : List Call → List Answered
answers_of made = map (λ call. call.answer) made

-- the answers of the one call that there is
pub answers_are : (pieces : List (List ℕ)) (answer : Option Answered) →
    map (λ (call : Call). call.answer) (calls_with pieces answer) ≡ answers_in answer
answers_are pieces None = refl
answers_are pieces (Some answer) = refl

-- the one call that there is was offered what is due at once
pub due_at_once : (Due : ℕ → List (List ℕ) → Type 0) {pieces : List (List ℕ)} (offer : Offer) →
    (¬ (offer ≡ Nothing) → Due 0 pieces) → OffersInTurns Due 0 (calls_with pieces (answer_of offer))
due_at_once Due Nothing due = tt
due_at_once Due (Took count) due = (due (λ same. absurd (cc)), tt)
due_at_once Due AskedBlocked due = (due (λ same. absurd (cc)), tt)
due_at_once Due (AskedBroken error) due = (due (λ same. absurd (cc)), tt)

-- the bytes of the one call that there is
pub taken_by : (pieces : List (List ℕ)) (offer : Offer) →
    sum_by (λ (call : Call). bytes_of call.answer) (calls_with pieces (answer_of offer)) ≡ bytes_taken offer
taken_by pieces Nothing = refl
taken_by pieces (Took count) = omega arith
taken_by pieces AskedBlocked = refl
taken_by pieces (AskedBroken error) = refl

module _ (Due : ℕ → List (List ℕ) → Type 0) where
  -- what is due by another rule is due by this one, some bytes further on
  offers_as : (Here : ℕ → List (List ℕ) → Type 0) (further : ℕ) →
      ((taken : ℕ) (pieces : List (List ℕ)) → Here taken pieces → Due (further + taken) pieces) →
      (taken : ℕ) (calls : List Call) → OffersInTurns Here taken calls → OffersInTurns Due (further + taken) calls
  offers_as Here further same taken [] offers = tt
  offers_as Here further same taken (call ∷ calls) offers = (
    same taken call.offered offers.0,
    subst (λ behind. OffersInTurns Due behind calls) (omega arith)
        (offers_as Here further same (taken + bytes_of call.answer) calls offers.1),
  )

  -- calls after others
  offers_more : (taken : ℕ) (earlier now : List Call) → OffersInTurns Due taken earlier →
      OffersInTurns Due (taken + sum_by (λ call. bytes_of call.answer) earlier) now →
      OffersInTurns Due taken (earlier ++ now)
  offers_more taken [] now before offers = subst (λ behind. OffersInTurns Due behind now) (omega arith) offers
  offers_more taken (call ∷ earlier) now before offers = (
    before.0,
    offers_more (taken + bytes_of call.answer) earlier now before.1
        (subst (λ behind. OffersInTurns Due behind now)
        (omega (arith, sum_by-cons (λ (call : Call). bytes_of call.answer) call earlier)) offers),
  )

  module _ {turns first : ℕ} {before : Option (List Call)} {mid : Option (List Call)} where
    -- turns after which the sending goes on, and one more
    pub asks_more : {more : ℕ} {was ending : Ending} {after : Option (List Call)} → was ≡ TurnsUsed →
        (Here : ℕ → List (List ℕ) → Type 0) → ((taken : ℕ) (pieces : List (List ℕ)) → Here taken pieces → Due (first + taken) pieces) →
        AsksInTurns Due turns first before was mid → AsksInTurns Here 1 more mid ending after →
        AsksInTurns Due (turns + 1) (first + more) before ending after
    asks_more {more} {was} {ending} {after} on Here further earlier now = record {
      made = earlier.made ++ now.made;
      calls = now.calls ∙ ap (λ told. with_more told now.made) earlier.calls ∙ taken_twice before earlier.made now.made;
      offers = offers_more 0 earlier.made now.made earlier.offers
          (subst (λ behind. OffersInTurns Due behind now.made) (omega (arith, earlier.bytes))
          (offers_as Here first further 0 now.made now.offers));
      bytes = sum_by-append (λ call. bytes_of call.answer) earlier.made now.made
          ∙ ap (λ count. count + sum_by (λ call. bytes_of call.answer) now.made) earlier.bytes
          ∙ ap (λ count. first + count) now.bytes;
      ends = rw (map-append (λ (call : Call). call.answer) earlier.made now.made)
          (one_more turns (answers_of earlier.made) (answers_of now.made) ending
          (subst (λ one. EndsWithin turns (answers_of earlier.made) one) on earlier.ends) now.ends);
    }

    -- a sending that ended early, of more turns
    pub asks_within : {many : ℕ} {ending : Ending} → ¬ (ending ≡ TurnsUsed) → turns ≤ many →
        AsksInTurns Due turns first before ending mid → AsksInTurns Due many first before ending mid
    asks_within {many} {ending} other fit asks = grind (arith, more_turns)

    -- a sending whose calls were offered what is due by this rule too
    pub asks_as : {ending : Ending} → (Here : ℕ → List (List ℕ) → Type 0) →
        ((taken : ℕ) (pieces : List (List ℕ)) → Here taken pieces → Due taken pieces) →
        AsksInTurns Here turns first before ending mid → AsksInTurns Due turns first before ending mid
    asks_as Here same asks = record {
      made = asks.made;
      calls = asks.calls;
      offers = offers_as Here 0 (λ taken pieces here. subst (λ n. Due n pieces) (omega arith) (same taken pieces here)) 0
          asks.made asks.offers;
      bytes = asks.bytes;
      ends = asks.ends;
    }

    -- a sending that used up its turns
    pub asks_all : {all : ℕ} {ending : Ending} → turns ≡ all → AsksInTurns Due turns first before ending mid →
        AsksInTurns Due all first before ending mid
    asks_all {ending = ending} same asks = subst (λ count. AsksInTurns Due count first before ending mid) same asks
