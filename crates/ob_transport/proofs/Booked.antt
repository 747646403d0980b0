-- Bytes that were left unbooked, once their removal is recorded.
use Rattle.std.proofs.Common.{◌≡◌, ℕ, Bool, true, false, List, [], ◌++◌, length, refl, sym, ap, ◌∙◌, cond}
use Rattle.std.specs.Prelude.{Result, Ok, Err, OnOk, IsErrOf}
use Rattle.ob_types.specs.declared.command.Command.{Command}
use Rattle.ob_types.specs.declared.command.Command.TheVariants.{RemoveBytes}
use Rattle.ob_types.specs.declared.refusal.Refusal.{Refusal}
use Rattle.ob_types.specs.declared.refusal.Refusal.TheVariants.{HistoryFull, NoMemory}
use Rattle.ob_seq.specs.Answer.{are_accepted}
use Rattle.ob_history.specs.History.{IsCall, call_answer, history_after, is_full, next_record, accepted_commands}
use Rattle.ob_history.specs.History.{History, receipt_of}
use Rattle.ob_history.specs.declared.receipt.Receipt.{Receipt}
use Rattle.ob_transport.specs.Sent.{sent_bytes_in, unread_in}
use Rattle.ob_transport.proofs.Passes.{removal_sends}

-- a call that returns a receipt found a place
found_place : (history : History) (caller : ℕ) (command : Command) (receipt : Receipt) →
    Ok receipt ≡ call_answer history caller command →
    is_full history ≡ false
found_place history caller command receipt is = by_test (is_full history) refl is
  where
    by_test : (full : Bool) → is_full history ≡ full →
        Ok receipt ≡ cond full (Err HistoryFull) (Ok (receipt_of (next_record history caller command))) →
        is_full history ≡ false
    by_test true full is = absurd (cc)
    by_test false full is = full

-- the removal that is booked sends the bytes with which the line begins
pub book_sends : (history new : History) (caller taken : ℕ) (result : Result Receipt Refusal) (bytes rest : List ℕ) →
    are_accepted history.settings [] (accepted_commands history.records) ≡ true →
    length bytes ≡ taken → unread_in history ≡ bytes ++ rest →
    IsCall history caller (RemoveBytes taken) result new →
    OnOk result (sent_bytes_in new ≡ sent_bytes_in history ++ bytes)
book_sends history new caller taken (Ok receipt) bytes rest all count begins call =
    let told : ¬ IsErrOf {E = Refusal} (Ok receipt) NoMemory = λ no. absurd (cc) in
    ap sent_bytes_in (call.after told)
    ∙ ap (λ n. sent_bytes_in (history_after history caller (RemoveBytes n))) (sym count)
    ∙ removal_sends history caller all (found_place history caller (RemoveBytes taken) receipt (call.answer told)) bytes
    rest begins
book_sends history new caller taken (Err refusal) bytes rest all count begins call = tt
