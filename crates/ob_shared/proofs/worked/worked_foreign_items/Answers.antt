use Rattle.std.proofs.Common.{rules, ◌≡◌, [], ◌∷◌, inl, inr, refl, ap, arith}
use Rattle.std.specs.List.{All}
use Rattle.ob_history.specs.History.{IsFirstBreak, AreOwn, IsReceiptIn, receipt_of, record_of, IsSeenIn}
use Rattle.ob_history.specs.declared.record.Record.{Record}
use Rattle.ob_shared.specs.Calls.{StandsIn, Handed}
use Rattle.ob_shared.specs.Worked.{closed, flushed, flusher, look, records, removed, settings, whole_writer, writer, written}
use Rattle.ob_shared.proofs.Finishing.{foreign_of_all, foreign_receipt, foreign_seen, foreign_told}
use Rattle.ob_shared.proofs.worked.worked_foreign_items.Goals as goal

writer_stands : All (StandsIn settings records) (whole_writer ∷ [])
writer_stands = search rules

closed_is_foreign : ¬ IsReceiptIn records closed
closed_is_foreign kept =
    let same : flushed ≡ record_of closed = cc kept in absurd (cc (ap (λ (one : Record). one.command) same))

abbrev changed : Handed
changed = record (flusher [] []) { receipts = closed ∷ [] }

first_receipt : IsFirstBreak (AreOwn 1 records) (closed ∷ []) 0
first_receipt = record {
  within = omega arith;
  before = search rules;
  broken = λ own. closed_is_foreign (own.kept 0 closed (omega arith));
}

pub returns-clause-command : goal.returns-clause-command
returns-clause-command c =
    foreign_of_all settings records (whole_writer ∷ changed ∷ []) 1 changed 1 (omega arith) refl writer_stands
    (foreign_receipt settings records changed 0 first_receipt)
    (inl (record { index = 0; item = closed; first = first_receipt; found = refl; named = refl }))

abbrev exchanged : Handed
exchanged = writer (receipt_of removed ∷ receipt_of written ∷ [])

second_receipt : IsFirstBreak (AreOwn 0 records) exchanged.receipts 1
second_receipt = record {
  within = omega arith;
  before = search rules;
  broken = λ own. omega (arith, own.rising 0 1 (receipt_of removed) (omega arith) (omega arith));
}

pub returns-clause-exchanged : goal.returns-clause-exchanged
returns-clause-exchanged c =
    foreign_of_all settings records (exchanged ∷ []) 0 exchanged 0 (omega arith) refl (search rules)
    (foreign_receipt settings records exchanged 1 second_receipt)
    (inl (record { index = 1; item = receipt_of written; first = second_receipt; found = refl; named = refl }))

abbrev told_wrong : Handed
told_wrong = flusher (closed ∷ []) (record look { place = 0 } ∷ [])

own_flush : AreOwn 1 records told_wrong.receipts
own_flush = search rules

first_told : IsFirstBreak (All (IsReceiptIn records)) (closed ∷ []) 0
first_told = record {
  within = omega arith;
  before = search rules;
  broken = λ all. closed_is_foreign (all 0 closed (omega arith));
}

pub returns-clause-told : goal.returns-clause-told
returns-clause-told c =
    foreign_of_all settings records (told_wrong ∷ []) 0 told_wrong 1 (omega arith) refl (search rules)
    (foreign_told settings records told_wrong 0 first_told)
    (inr (inl (own_flush, record { index = 0; item = closed; first = first_told; found = refl; named = refl })))

abbrev saw_wrong : Handed
saw_wrong = flusher [] (record look { place = 7 } ∷ [])

first_seen : IsFirstBreak (All (IsSeenIn settings records)) saw_wrong.seen 0
first_seen = record {
  within = omega arith;
  before = search rules;
  broken = λ all. let seen = (all 0 look (omega arith)) in omega (arith, seen.within);
}

pub returns-clause-look : goal.returns-clause-look
returns-clause-look c =
    foreign_of_all settings records (whole_writer ∷ saw_wrong ∷ []) 1 saw_wrong 7 (omega arith) refl writer_stands
    (foreign_seen settings records saw_wrong 0 first_seen)
    (inr (inr (
      own_flush,
      search rules,
      record { index = 0; item = record look { place = 7 }; first = first_seen; found = refl; named = refl },
    )))
