-- One more command at the end of a history, an open one, and replies by their parts.
use Rattle.std.proofs.lemmas.Bool.{and_parts}
use Rattle.std.proofs.lemmas.List.Folds.{list_any-append}
use Rattle.std.proofs.lemmas.List.Sums.{fold-append}
use Rattle.ob_types.specs.declared.reply.Answer.{Answer}
use Rattle.ob_types.specs.declared.reply.Change.{Change}
use Rattle.ob_seq.proofs.Words.{◌≡◌, false, List, Option, Command, PromiseId, Outcome, Reply, Settings, is_closed}
use Rattle.ob_seq.proofs.Words.{Pending, Leaves, [], ◌∷◌, ◌++◌, append_assoc, append-nil, true, arith, None, Estimate}
use Rattle.ob_seq.proofs.Words.{effect, rows_after, is_close, ℕ}
use Rattle.ob_seq.specs.Answer.{first_refusal_within, refusal_within, is_accepted_within, are_accepted_within}

-- the commands that left a buffer that is not closed hold no close
pub open_history : (settings : Settings) (commands : List Command) (command : Command) (buffer : Pending) →
    Leaves buffer commands → buffer.closed ≡ false → is_closed commands ≡ false
open_history settings commands command buffer leaves unclosed = cc

-- a reply by its parts
abbrev pub reply_from : Answer → List (PromiseId × Outcome) → Option Change → Reply
reply_from answer settled change = record { answer = answer; settled = settled; change = change }

-- two replies with the same parts are the same
pub same_reply : {answer answer' : Answer} {settled settled' : List (PromiseId × Outcome)}
    {change change' : Option Change} → answer ≡ answer' → settled ≡ settled' → change ≡ change' →
    reply_from answer settled change ≡ reply_from answer' settled' change'
same_reply answers settlements changes = cc

-- the rows after one more command
pub rows_after_more : (estimate : Estimate) (commands : List Command) (command : Command) →
    rows_after estimate (commands ++ command ∷ []) ≡ effect estimate (rows_after estimate commands) command
rows_after_more estimate commands command = fold-append (effect estimate) [] commands (command ∷ [])

-- a command after a history closes it exactly if it is a close
pub closed_more : (commands : List Command) (command : Command) → is_closed commands ≡ false →
    is_closed (commands ++ command ∷ []) ≡ is_close command
closed_more commands command unclosed = let more = list_any-append is_close commands (command ∷ []) in grind arith

-- a command with no refusal is accepted
pub accepted_by : (limit : Option ℕ) (settings : Settings) (commands : List Command) (command : Command) →
    first_refusal_within limit settings.estimate commands command ≡ None → is_accepted_within limit settings commands command ≡ true
accepted_by limit settings commands command none = rw none

pub accepted_from_more : (limit : Option ℕ) (settings : Settings) (earlier commands : List Command) (command : Command) →
    are_accepted_within limit settings earlier commands ≡ true → is_accepted_within limit settings (earlier ++ commands) command ≡ true →
    are_accepted_within limit settings earlier (commands ++ command ∷ []) ≡ true
accepted_from_more limit settings earlier [] command all last = rw (rw append-nil at last)
accepted_from_more limit settings earlier (first ∷ commands) command all last =
    let next = earlier ++ first ∷ [] in
    let both = and_parts (is_accepted_within limit settings earlier first) (are_accepted_within limit settings next commands) all in
    rw (
      both.0,
      accepted_from_more limit settings next commands command both.1
          (rw (append_assoc earlier (first ∷ []) commands) last),
    )

-- a history goes on with a command that is not refused
pub accepted_more : (limit : Option ℕ) (settings : Settings) (commands : List Command) (command : Command) → is_closed commands ≡ false →
    are_accepted_within limit settings [] commands ≡ true →
    refusal_within limit settings.estimate (rows_after settings.estimate commands) command ≡ None →
    are_accepted_within limit settings [] (commands ++ command ∷ []) ≡ true
accepted_more limit settings commands command unclosed all last =
    accepted_from_more limit settings [] commands command all (accepted_by limit settings commands command (rw unclosed last))
