-- What a caller has to hand in after a call whose receipt it keeps.
use Rattle.std.proofs.Common.{◌≡◌, ℕ, false, List, [], ◌∷◌, ◌++◌, Ok, ap, ◌∙◌}
use Rattle.ob_types.specs.declared.command.Command.{Command}
use Rattle.ob_history.specs.History.{IsCall, is_full, next_record, History, receipt_of}
use Rattle.ob_history.specs.declared.receipt.Receipt.{Receipt}
use Rattle.ob_history.proofs.Calls.{called_with_place}
use Rattle.ob_shared.specs.Calls.{with_record_of, Handed, Maker, one_more, ShareValue, share_after, sight_of}

-- what is handed in of a caller with another share and other receipts
abbrev pub now_with : Handed → ShareValue → List Receipt → Handed
now_with old share receipts = record old { maker = share.maker; sight = share.sight; receipts = receipts }

-- with the share that left after its record, and the receipt after the others
pub keeps_record : (old : Handed) (history after : History) (who maker : Maker) (share : ShareValue) (command : Command)
    (receipt : Receipt) (receipts : List Receipt) → who ≡ old.maker → IsCall history who.caller command (Ok receipt) after
    → maker ≡ one_more who → share ≡ share_after maker after.records → receipts ≡ old.receipts ++ receipt ∷ []
    → (is_full history ≡ false)
    × (now_with old share receipts
    ≡ with_record_of old history.records (next_record history old.maker.caller command))
keeps_record old history after who maker share command receipt receipts its call made left kept =
    let placed = called_with_place history who.caller command receipt after call in
    let caller = ap (λ (m : Maker). m.caller) its in
    let is_maker = ap (λ (s : ShareValue). s.maker) left ∙ made ∙ ap one_more its in
    let is_sight = ap (λ (s : ShareValue). s.sight) left
    ∙ ap (λ (h : History). sight_of h.records) placed.2
    ∙ ap (λ (c : ℕ). sight_of (history.records ++ next_record history c command ∷ [])) caller in
    let are_receipts = kept ∙ ap (λ (one : Receipt). old.receipts ++ one ∷ []) placed.1
    ∙ ap (λ (c : ℕ). old.receipts ++ receipt_of (next_record history c command) ∷ []) caller in (
      placed.0,
      λ i. record {
        maker = is_maker i;
        sight = is_sight i;
        receipts = are_receipts i;
        told = old.told;
        seen = old.seen;
      },
    )

-- without a record, and with what the share has seen
pub keeps_nothing : (old : Handed) (share : ShareValue) (receipts : List Receipt) → share.maker ≡ old.maker
    → receipts ≡ old.receipts → now_with old share receipts ≡ record old { sight = share.sight }
keeps_nothing old share receipts maker kept = λ i. record {
  maker = maker i;
  sight = share.sight;
  receipts = kept i;
  told = old.told;
  seen = old.seen;
}
