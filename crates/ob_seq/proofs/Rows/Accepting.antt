-- The accepted commands among those that are given.
use Rattle.ob_seq.proofs.Words.{◌≡◌, Bool, true, false, ◌&&◌, List, [], ◌∷◌, ◌++◌, refl, sym, cond, ◌⊎◌, inl, inr}
use Rattle.ob_seq.proofs.Words.{append_assoc, append-nil, arith, Option, Some, None, is_ok, fold, Command, Estimate}
use Rattle.ob_seq.proofs.Words.{ℕ, Refusal, Closed, Reply, Settings, is_accepted, are_accepted, accepted_among}
use Rattle.ob_seq.proofs.Words.{first_refusal, refusal_of, unless_refused, is_closed, rows_after, settled_along}
use Rattle.ob_seq.specs.Answer.{accepted_among_within, are_accepted_within, buffer_limit, commands_after_within}
use Rattle.ob_seq.specs.Answer.{first_refusal_within, is_accepted_within, refusal_within}
use Rattle.ob_seq.specs.Pending.{settled_along_within}
use Rattle.std.proofs.lemmas.List.Sums.{fold-append}

-- there is none, or there is one
pub none_or_some : {X : Type 0} (found : Option X) → (found ≡ None) ⊎ ((one : X) × (found ≡ Some one))
none_or_some None = inl refl
none_or_some (Some one) = inr (one, refl)

accepted_then : (refusal : Option Refusal) (reply : Reply) (rest : Bool) →
    (is_ok (unless_refused refusal reply) && rest) ≡ true → (refusal ≡ None) × (rest ≡ true)
accepted_then refusal reply rest all = grind arith

open_then : (closed : Bool) (refusal : Option Refusal) → cond closed (Some Closed) refusal ≡ None →
    (closed ≡ false) × (refusal ≡ None)
open_then closed refusal accepted = grind arith

-- under every limit on writes
module _ (limit : Option ℕ) where
  -- a command that is not refused comes before any close, and nothing of the rows refuses it
  pub open_and_fit_within : (estimate : Estimate) (earlier : List Command) (command : Command) →
      first_refusal_within limit estimate earlier command ≡ None →
      (is_closed earlier ≡ false) × (refusal_within limit estimate (rows_after estimate earlier) command ≡ None)
  open_and_fit_within estimate earlier command accepted = open_then (is_closed earlier) _ accepted

  module _ (settings : Settings) where
    -- the first command of accepted ones is accepted, and so are the others after it
    first_and_rest : (earlier : List Command) (command : Command) (commands : List Command) →
        are_accepted_within limit settings earlier (command ∷ commands) ≡ true →
        (first_refusal_within limit settings.estimate earlier command ≡ None)
        × (are_accepted_within limit settings (earlier ++ command ∷ []) commands ≡ true)
    first_and_rest earlier command commands all = grind (arith, accepted_then)

    -- an accepted command is not refused
    pub not_refused_within : (earlier : List Command) (command : Command) →
        is_accepted_within limit settings earlier command ≡ true →
        first_refusal_within limit settings.estimate earlier command ≡ None
    not_refused_within earlier command accepted = (first_and_rest earlier command [] (rw accepted)).0

    -- what each accepted command keeps holds after all of them
    pub kept_along_within : (Holds : List Command → Type 0) →
        ((earlier : List Command) (command : Command) →
        first_refusal_within limit settings.estimate earlier command ≡ None →
        Holds earlier → Holds (earlier ++ command ∷ [])) →
        (earlier commands : List Command) → are_accepted_within limit settings earlier commands ≡ true →
        Holds earlier → Holds (earlier ++ commands)
    kept_along_within Holds keeps earlier [] all holds = rw append-nil holds
    kept_along_within Holds keeps earlier (command ∷ commands) all holds =
        let both = first_and_rest earlier command commands all in
        rw append_assoc at
        (kept_along_within Holds keeps (earlier ++ command ∷ []) commands both.1
        (keeps earlier command both.0 holds))

    -- of accepted commands none is left out
    pub all_among_within : (commands : List Command) →
        are_accepted_within limit settings [] commands ≡ true →
        accepted_among_within limit settings commands ≡ commands
    all_among_within commands all =
        kept_along_within (λ earlier. accepted_among_within limit settings earlier ≡ earlier)
        (λ earlier command none same. rw (
          fold-append (commands_after_within limit settings) [] earlier (command ∷ []),
          same,
          none,
        ))
        [] commands all refl

    -- the accepted commands after earlier ones, which settle what all of them do
    record GoesOn (earlier commands : List Command) : Type 0 where
      more : List Command
      is : fold (commands_after_within limit settings) earlier commands ≡ earlier ++ more
      accepted : are_accepted_within limit settings earlier more ≡ true
      settles : settled_along_within limit settings earlier more ≡ settled_along_within limit settings earlier commands

    goes_on : (earlier commands : List Command) → GoesOn earlier commands
    goes_on earlier [] = record { more = []; is = sym (append-nil earlier); accepted = refl; settles = refl }
    goes_on earlier (command ∷ commands) =
        elim (none_or_some (first_refusal_within limit settings.estimate earlier command)) [
          | inl none ↦ let rest = goes_on (earlier ++ command ∷ []) commands in record {
            more = command ∷ rest.more;
            is = rw (none, rest.is, append_assoc);
            accepted = rw none rest.accepted;
            settles = rw (none, rest.settles);
          }
          | inr some ↦ let rest = goes_on earlier commands in record {
            more = rest.more;
            is = rw some.1 rest.is;
            accepted = rest.accepted;
            settles = rw some.1 rest.settles;
          }
        ]

-- an accepted command is not refused by a buffer
pub not_refused : (settings : Settings) (earlier : List Command) (command : Command) →
    is_accepted settings earlier command ≡ true → first_refusal settings.estimate earlier command ≡ None
not_refused = not_refused_within buffer_limit

pub open_and_fit : (estimate : Estimate) (earlier : List Command) (command : Command) →
    first_refusal estimate earlier command ≡ None →
    (is_closed earlier ≡ false) × (refusal_of estimate (rows_after estimate earlier) command ≡ None)
open_and_fit = open_and_fit_within buffer_limit

pub kept_along_accepted : (settings : Settings) (Holds : List Command → Type 0) →
    ((earlier : List Command) (command : Command) → first_refusal settings.estimate earlier command ≡ None →
    Holds earlier → Holds (earlier ++ command ∷ [])) →
    (earlier commands : List Command) → are_accepted settings earlier commands ≡ true →
    Holds earlier → Holds (earlier ++ commands)
kept_along_accepted = kept_along_within buffer_limit

module _ (settings : Settings) where
  -- of commands that a buffer accepts none is left out
  pub all_among : (commands : List Command) →
      are_accepted settings [] commands ≡ true → accepted_among settings commands ≡ commands
  all_among = all_among_within buffer_limit settings

  -- what is accepted among commands is accepted, one command after another
  pub among_are_accepted : (commands : List Command) →
      are_accepted settings [] (accepted_among settings commands) ≡ true
  among_are_accepted commands = let all = goes_on buffer_limit settings [] commands in rw all.is all.accepted

  -- the accepted ones among commands settle what all of them do
  pub among_settle : (commands : List Command) →
      settled_along settings [] (accepted_among settings commands) ≡ settled_along settings [] commands
  among_settle commands = let all = goes_on buffer_limit settings [] commands in rw all.is all.settles
