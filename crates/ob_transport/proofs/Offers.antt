-- What there is to do next, by what stands in front.
use Rattle.std.proofs.Common.{◌≡◌, ◌≢◌, ℕ, ◌+◌, ◌-◌, ◌<◌, ◌≤◌, Bool, true, false, List, [], ◌∷◌, length, refl, sym, ap}
use Rattle.std.proofs.Common.{◌∙◌, subst, cond, eqb, leb, arith}
use Rattle.std.specs.List.{concat}
use Rattle.std.specs.Prelude.{Option, Some, None, Result, Ok, Err}
use Rattle.std.proofs.lemmas.Bool.Decides.{nat_tests}
use Rattle.ob_types.specs.declared.command.Command.{Command}
use Rattle.ob_types.specs.declared.command.Command.TheVariants.{Remove}
use Rattle.ob_types.specs.declared.message.Message.{Message}
use Rattle.ob_types.specs.declared.message.Message.TheVariants.{Block, Region, Other}
use Rattle.ob_seq.specs.Answer.{are_accepted}
use Rattle.ob_seq.specs.Pending.{Pending, StandsFor}
use Rattle.ob_seq.specs.Rows.{Settings}
use Rattle.ob_history.specs.History.{accepted_commands, LacksPlaces}
use Rattle.ob_transport.specs.Inside.{Bytes, Clearing, Ends, HasBytes, Nothing, Offer, Units, offer_after, offer_at}
use Rattle.ob_transport.specs.Inside.{offer_by}
use Rattle.ob_transport.specs.Pass.{IsPass, Standing}
use Rattle.ob_transport.specs.Sent.{current_in, gathered_in, progress_in}
use Rattle.ob_transport.specs.declared.fault.Pass.{Pass}
use Rattle.ob_transport.specs.declared.fault.Pass.TheVariants.{Idle}
use Rattle.ob_transport.specs.declared.fault.PassFault.{PassFault}
use Rattle.ob_transport.specs.declared.fault.PassFault.TheVariants.{HistoryFull}
use Rattle.ob_transport.specs.declared.limits.Limits.{Limits}

-- with a block in front and something gathered there are bytes to be offered
pub has_bytes : (message : Option Message) (blocks : List (List ℕ)) (progress : ℕ) (bytes : List ℕ) →
    message ≡ Some (Block bytes) → blocks ≢ [] → HasBytes (offer_by message blocks progress)
has_bytes message [] progress bytes is some = absurd (some refl)
has_bytes message (block ∷ blocks) progress bytes is some =
    (concat (block ∷ blocks), ap (λ current. offer_by current (block ∷ blocks) progress) is)

-- what a buffer has to do that stands for a history is what there is to do there
pub offer_there : (limits : Limits) (before : Standing) (buffer : Pending) (offer : Offer) →
    StandsFor buffer (accepted_commands before.history.records) → buffer.settings ≡ before.history.settings →
    ((commands : List Command) → StandsFor buffer commands → offer ≡ offer_after limits buffer.settings commands) →
    offer ≡ offer_at limits before
offer_there limits before buffer offer stands settings is =
    let commands = accepted_commands before.history.records in
    is commands stands ∙ ap (λ settings. offer_after limits settings commands) settings

-- the commands that such a buffer stands for are accepted
pub accepted_there : (before : Standing) (buffer : Pending) →
    StandsFor buffer (accepted_commands before.history.records) → buffer.settings ≡ before.history.settings →
    are_accepted before.history.settings [] (accepted_commands before.history.records) ≡ true
accepted_there before buffer stands settings =
    let commands = accepted_commands before.history.records in
    sym (ap (λ (settings : Settings). are_accepted settings [] commands) settings) ∙ stands.accepted

module _ (limits : Limits) (caller : ℕ) (before : Standing) (result : Result Pass PassFault) (after : Standing)
    (ends : Ends caller (offer_at limits before) before result after) where
  abbrev EndsBy : Offer → Type 0
  EndsBy offer = Ends caller offer before result after

  -- what there is to do, by what is known of the front and of what is gathered
  by_front : (message : Option Message) → current_in before.history ≡ message →
      offer_at limits before ≡ offer_by message (gathered_in limits before.history) (progress_in before.history)
  by_front message is =
      ap (λ message. offer_by message (gathered_in limits before.history) (progress_in before.history)) is

  by_blocks : (bytes : List ℕ) → current_in before.history ≡ Some (Block bytes) → (blocks : List (List ℕ)) →
      gathered_in limits before.history ≡ blocks →
      offer_at limits before ≡ offer_by (Some (Block bytes)) blocks (progress_in before.history)
  by_blocks bytes is blocks gathered =
      by_front (Some (Block bytes)) is
      ∙ ap (λ blocks. offer_by (Some (Block bytes)) blocks (progress_in before.history)) gathered

  bytes_offered : (bytes : List ℕ) → current_in before.history ≡ Some (Block bytes) → (blocks : List (List ℕ)) →
      gathered_in limits before.history ≡ blocks → blocks ≢ [] →
      offer_at limits before ≡ Bytes (concat (gathered_in limits before.history))
  bytes_offered bytes is [] gathered some = absurd (some refl)
  bytes_offered bytes is (block ∷ blocks) gathered some =
      by_blocks bytes is (block ∷ blocks) gathered ∙ sym (ap (λ blocks. Bytes (concat blocks)) gathered)

  by_rest : (length : ℕ) → current_in before.history ≡ Some (Region length) → (done : Bool) →
      leb length (progress_in before.history) ≡ done →
      offer_at limits before ≡ cond done (Clearing Remove) (Units (length - progress_in before.history))
  by_rest length is done test =
      by_front (Some (Region length)) is
      ∙ ap (λ done. cond done (Clearing Remove) (Units (length - progress_in before.history))) test

  -- a pass that ends so does what a pass does
  pub pass_of_offer : IsPass limits caller before result after
  pass_of_offer = record {
    idle = λ is. subst EndsBy (by_front None is) ends;
    no_bytes = λ bytes is none. subst EndsBy (by_blocks bytes is [] none) ends;
    bytes = λ bytes is some. subst EndsBy (bytes_offered bytes is (gathered_in limits before.history) refl some) ends;
    no_units = λ length is done.
        subst EndsBy (by_rest length is true (at_most length (progress_in before.history) done)) ends;
    units = λ length is more.
        subst EndsBy (by_rest length is false (above length (progress_in before.history) more)) ends;
    other = λ value is. subst EndsBy (by_front (Some (Other value)) is) ends;
  }
    where
      at_most : (n m : ℕ) → n ≤ m → leb n m ≡ true
      at_most n m h = grind (arith, nat_tests)

      above : (n m : ℕ) → m < n → leb n m ≡ false
      above n m h = grind (arith, nat_tests)

-- how a pass ends that does what such a buffer has to do
pub ends_there : (limits : Limits) (caller : ℕ) (before : Standing) (buffer : Pending) (offer : Offer)
    (result : Result Pass PassFault) (after : Standing) →
    StandsFor buffer (accepted_commands before.history.records) → buffer.settings ≡ before.history.settings →
    ((commands : List Command) → StandsFor buffer commands → offer ≡ offer_after limits buffer.settings commands) →
    Ends caller offer before result after → IsPass limits caller before result after
ends_there limits caller before buffer offer result after stands settings is ends =
    pass_of_offer limits caller before result after
    (subst (λ offer. Ends caller offer before result after)
    (offer_there limits before buffer offer stands settings is) ends)

-- a full history lacks two places
full_lacks : (count limit : ℕ) → eqb count limit ≡ true → limit < count + 2
full_lacks count limit is = grind (arith, nat_tests)

-- a pass is refused as a full history only if two places are lacking, before it and after it
pub full_of_offer : (caller : ℕ) (offer : Offer) (before after : Standing) →
    Ends caller offer before (Err HistoryFull) after →
    LacksPlaces after.history 2
full_of_offer caller Nothing before after ends = absurd (let idle = ends.0 in cc)
full_of_offer caller (Clearing command) before after ends =
    subst (λ (at : Standing). LacksPlaces at.history 2) (sym ends.1)
    (full_lacks (length before.history.records) before.history.limit ends.0)
full_of_offer caller (Bytes bytes) before after ends = subst (λ (at : Standing). LacksPlaces at.history 2)
    (sym ends.1) ends.0
full_of_offer caller (Units rest) before after ends = subst (λ (at : Standing). LacksPlaces at.history 2)
    (sym ends.1) ends.0

-- an idle pass had nothing to do
idle_offer : (caller : ℕ) (offer : Offer) (before after : Standing) → Ends caller offer before (Ok Idle) after →
    (offer ≡ Nothing) × (after ≡ before)
idle_offer caller Nothing before after ends = (refl, ends.1)
idle_offer caller (Clearing command) before after ends = absurd ends
idle_offer caller (Bytes bytes) before after ends = absurd ends
idle_offer caller (Units rest) before after ends = absurd ends

nothing_in_front : (message : Option Message) (blocks : List (List ℕ)) (progress : ℕ) →
    offer_by message blocks progress ≡ Nothing → message ≡ None
nothing_in_front None blocks progress is = refl
nothing_in_front (Some (Block bytes)) [] progress is = absurd (cc)
nothing_in_front (Some (Block bytes)) (block ∷ blocks) progress is = absurd (cc)
nothing_in_front (Some (Region length)) blocks progress is = by_test (leb length progress) is
  where
    by_test : (none : Bool) → cond none (Clearing Remove) (Units (length - progress)) ≡ Nothing →
        Some (Region length) ≡ None
    by_test true is = absurd (cc)
    by_test false is = absurd (cc)
nothing_in_front (Some (Other value)) blocks progress is = absurd (cc)

pub idle_of_offer : (limits : Limits) (caller : ℕ) (before after : Standing) →
    Ends caller (offer_at limits before) before (Ok Idle) after →
    current_in after.history ≡ None
idle_of_offer limits caller before after ends =
    let both = idle_offer caller (offer_at limits before) before after ends in
    ap (λ at. current_in at.history) both.1
    ∙ nothing_in_front (current_in before.history) (gathered_in limits before.history)
    (progress_in before.history) both.0
