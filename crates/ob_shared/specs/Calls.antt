-- What a shared buffer is opened with. What a reader of the published word has seen. Who makes calls of a shared
-- buffer, what its share and its desk are, and what it hands in at the end. A call whose caller keeps the receipt,
-- what a history tells of a promise, and for whom it is rung. What the end of a shared buffer compares, its faults by
-- their numbers, and what comes back if it is not finished.
use Rattle.std.specs.Prelude.{◌≡◌, ℕ, [], List, ◌∷◌, ◌++◌, length, ◌+◌, map, ◌<◌, ◌==◌, Bool, false, sum_by, ◌⊎◌, true}
use Rattle.std.specs.Prelude.{Result, IsOk, IsErr, IsErrOf, OnErr, ◌≤◌, not, count_by, Option, option_map, Some}
use Rattle.std.specs.Prelude.{slice_get}
use Rattle.std.specs.List.{range_with_len, All, list_any, Contains, find}
use Rattle.atomic_table.specs.Seated.{TableId}
use Rattle.ob_types.specs.Marks.{packed}
use Rattle.ob_types.specs.Traits.{writes_block}
use Rattle.ob_types.specs.declared.command.Command.{Command}
use Rattle.ob_types.specs.declared.promise.Outcome.{Outcome}
use Rattle.ob_types.specs.declared.promise.PromiseId.{PromiseId}
use Rattle.ob_types.specs.declared.refusal.Refusal.{Refusal}
use Rattle.ob_types.specs.declared.refusal.Refusal.TheVariants.{HistoryFull, NoMemory}
use Rattle.ob_types.specs.declared.reply.Reply.{Reply}
use Rattle.ob_seq.specs.Looks.{look_after}
use Rattle.ob_seq.specs.Pending.{settled_by}
use Rattle.ob_seq.specs.Rows.{Settings}
use Rattle.ob_seq.specs.State.{writes_in}
use Rattle.ob_history.specs.History.{is_full, next_record, History, IsLegal, accepted_commands, IsBeginning}
use Rattle.ob_history.specs.History.{IsFirstBreak, receipt_of, IsReceiptIn, record_of, AreOwn, records_of, glance_after}
use Rattle.ob_history.specs.History.{settlements_in, settles, IsSeenIn}
use Rattle.ob_history.specs.declared.glance.Glance.{Glance}
use Rattle.ob_history.specs.declared.receipt.Receipt.{Receipt}
use Rattle.ob_history.specs.declared.record.Record.{Record}
use Rattle.ob_history.specs.declared.seen.Seen.{Seen}
use Rattle.ob_shared.specs.declared.finish_fault.FinishFault.{FinishFault}
use Rattle.ob_shared.specs.declared.finish_fault.FinishFault.TheVariants.{ForeignReceipt, SharesMissing, NoMemory}
use Rattle.ob_shared.specs.declared.finish_fault.FinishFault.TheVariants.{ReceiptsMissing}

-- what was opened: the number of the ledger that counts the calls, how many callers there are, the settings of the
-- buffer, the most records that its history may hold, and which table has the published word
pub record Opened : Type 0 where
  pub ledger : ℕ
  pub callers : ℕ
  pub settings : Settings
  pub limit : ℕ
  pub table : TableId

-- a filler for `nothing_opened`, which has no table
abbrev no_table : TableId
no_table = record { words = 0; slots = 0; views_name = 0; atom = 0; block = 0; offset = 0; slot_names = [] }

-- what the marker stands for that nobody picked a name for
abbrev pub nothing_opened : Opened
nothing_opened = record {
  ledger = 0;
  callers = 0;
  settings = record { marks = record { low = 0; high = 0 }; estimate = record { overhead = 0; unknown = 0 } };
  limit = 0;
  table = no_table;
}

-- a name is that of an opening if it stands for what was opened, and its ledger is the one that was opened, with a
-- part for each caller
pub record IsNameOf (opening named : Opened) (number parts : ℕ) : Type 0 where
  pub opened : named ≡ opening
  pub ledger : number ≡ opening.ledger
  pub callers : parts ≡ opening.callers

-- a history is kept as it was opened if it has the settings and the limit of the opening, and its records are legal
pub record IsAsOpened (opened : Opened) (history : History) : Type 0 where
  pub settings : history.settings ≡ opened.settings
  pub limit : history.limit ≡ opened.limit
  pub legal : IsLegal history.settings history.records

-- what a reader has seen, the records of a beginning of the history; and what its own reads found since it met the
-- history under the lock
pub record Sight : Type 0 where
  pub seen : List Record
  pub reads : List ℕ

-- a reader that has just met a history under the lock has seen all of it, and read nothing since
abbrev pub sight_of : List Record → Sight
sight_of records = record { seen = records; reads = [] }

-- a word and a total in the one number that is published
abbrev pub packed_glance : Glance → ℕ
packed_glance glance = packed glance.word glance.total

-- a read finds one number more, and shows the glance after what is seen then: a legal history, which begins with all
-- that was seen before
pub record IsRead (settings : Settings) (old : Sight) (shown : Glance) (new : Sight) : Type 0 where
  pub shows : shown ≡ glance_after settings new.seen
  pub reads : new.reads ≡ old.reads ++ packed_glance shown ∷ []
  pub longer : IsBeginning old.seen new.seen
  pub legal : IsLegal settings new.seen

-- a look under the lock is after all records that are seen then, a legal history that begins with all that was seen
-- before, and names their number; no read was made since
pub record IsCheckIn (settings : Settings) (old : Sight) (look : Seen) (new : Sight) : Type 0 where
  pub place : look.place ≡ length new.seen
  pub shows : look.look ≡ look_after settings (accepted_commands new.seen)
  pub longer : IsBeginning old.seen new.seen
  pub legal : IsLegal settings new.seen
  pub reads : new.reads ≡ []

-- a caller, by its number, and how many records it has made
pub record Maker : Type 0 where
  pub caller : ℕ
  pub made : ℕ

-- a caller that has made no record
abbrev pub new_maker : ℕ → Maker
new_maker caller = record { caller = caller; made = 0 }

-- a caller that has made one record more
abbrev pub one_more : Maker → Maker
one_more maker = record maker { made = maker.made + 1 }

-- a share: whose it is, with how many records were made with it, and what it has seen
pub record ShareValue : Type 0 where
  pub maker : Maker
  pub sight : Sight

-- a share of a maker that has just met these records under the lock
abbrev pub share_after : Maker → List Record → ShareValue
share_after maker records = record { maker = maker; sight = sight_of records }

-- the share of a caller with which no record was made, and which has seen none
abbrev pub new_share : ℕ → ShareValue
new_share caller = share_after (new_maker caller) []

-- the shares of a new buffer, whose callers are numbered from 0
abbrev pub new_shares : ℕ → List ShareValue
new_shares count = map new_share (range_with_len 0 count)

-- what a desk holds: the history under the lock, and the caller who makes its calls, with how many records it has made
pub record Held : Type 0 where
  pub history : History
  pub maker : Maker

-- what a caller hands in: who it is and how many records it made, what its share has seen, the receipts of its calls,
-- those that it was told of, and its looks
pub record Handed : Type 0 where
  pub maker : Maker
  pub sight : Sight
  pub receipts : List Receipt
  pub told : List Receipt
  pub seen : List Seen

-- whether a caller handed in
abbrev pub has_handed_in : ℕ → List Handed → Bool
has_handed_in caller handed = list_any (λ one. one.maker.caller == caller) handed

-- the share of a caller is missing exactly if one of `callers` callers did not hand in
abbrev pub LacksShare : ℕ → List Handed → Type 0
LacksShare callers handed = (caller : ℕ) × (caller < callers) × (has_handed_in caller handed ≡ false)

-- how many records all who handed in have made together
abbrev pub made_by : List Handed → ℕ
made_by handed = sum_by (λ one. one.maker.made) handed

-- no caller hands in a look
abbrev pub HasNoLooks : List Handed → Type 0
HasNoLooks handed = All (λ one. one.seen ≡ []) handed

-- what a caller has to hand in that has made no record with this share
abbrev pub nothing_done : ShareValue → Handed
nothing_done share = record { maker = share.maker; sight = share.sight; receipts = []; told = []; seen = [] }

-- what a caller has to hand in after one more record past these: its receipt comes after its others, and its share
-- has seen all
abbrev pub with_record_of : Handed → List Record → Record → Handed
with_record_of caller records one = record caller {
  maker = one_more caller.maker;
  sight = sight_of (records ++ one ∷ []);
  receipts = caller.receipts ++ receipt_of one ∷ [];
}

-- a call is recorded in a history that was kept as it was opened and begins with what the share had seen, and the caller
-- has the receipt of its record; or it is refused, by a full history, or out of memory before the history is asked or
-- with a place left in it, and the caller has what it had; the history is what its share has seen then
pub record IsKept (opened : Opened) (old : Handed) (command : Command) (result : Result Unit Refusal) (new : Handed)
    : Type 0 where
  pub recorded : IsOk result → (history : History) × IsAsOpened opened history × (is_full history ≡ false)
      × (new ≡ with_record_of old history.records (next_record history old.maker.caller command))
      × IsBeginning old.sight.seen history.records
  pub full : IsErrOf result HistoryFull → (history : History) × IsAsOpened opened history × (is_full history ≡ true)
      × (new.sight ≡ sight_of history.records)
  pub no_memory : IsErrOf result NoMemory → (new ≡ old) ⊎ ((history : History) × IsAsOpened opened history
      × (is_full history ≡ false) × (new.sight ≡ sight_of history.records))
  pub refusals : IsErr result → IsErrOf result HistoryFull ⊎ IsErrOf result NoMemory
  pub refused : OnErr result (new ≡ record old { sight = new.sight })
  pub longer : IsBeginning old.sight.seen new.sight.seen

-- a promise is unknown to a history exactly if no write was accepted under its id, which is the number of writes
-- accepted before it
abbrev pub IsUnknown : List Record → PromiseId → Type 0
IsUnknown records id = writes_in (accepted_commands records) ≤ id.0

-- a promise is not settled in a history exactly if it stands with no outcome among the settlements
abbrev pub IsUnsettled : List Record → PromiseId → Type 0
IsUnsettled records id = (outcome : Outcome) → ¬ Contains (settlements_in records) (id, outcome)

-- a receipt tells of the settlement of a promise if it is the record at its place, and that record settles the
-- promise
pub record TellsOf (records : List Record) (id : PromiseId) (receipt : Receipt) : Type 0 where
  pub kept : IsReceiptIn records receipt
  pub settled : settles id (record_of receipt) ≡ true

-- a record is copied without an allocation if its command shares no block, and it settles at most four promises
pub record IsCopiedFreely (one : Record) : Type 0 where
  pub command : writes_block one.command ≡ false
  pub few : length (settled_by one.reply) ≤ 4

-- what settles a promise in a history is copied without an allocation
abbrev pub IsToldFreely : List Record → PromiseId → Type 0
IsToldFreely records id = All (λ one. settles id one ≡ true → IsCopiedFreely one) records

-- whether an answer settles a promise
abbrev pub settles_any : Result Reply Refusal → Bool
settles_any answer = not (length (settled_by answer) == 0)

-- how many records settle a promise
abbrev pub settling_count : List Record → ℕ
settling_count records = count_by (λ one. settles_any one.reply) records

-- whether a caller hands in another number of receipts than it has made records
abbrev pub is_short : Handed → Bool
is_short one = not (length one.receipts == one.maker.made)

-- the caller of the first who does, if there is one
abbrev pub first_short : List Handed → Option ℕ
first_short handed = option_map (λ one. one.maker.caller) (find is_short handed)

-- what a caller hands in stands in a history if the receipts are the caller's own there, each that it was told of is
-- the record at its place, and each look is of the history
pub record StandsIn (settings : Settings) (records : List Record) (one : Handed) : Type 0 where
  pub own : AreOwn one.maker.caller records one.receipts
  pub told : All (IsReceiptIn records) one.told
  pub seen : All (IsSeenIn settings records) one.seen

-- a caller hands in the receipts of all its records, in the order of its calls
abbrev pub HandsInAll : List Record → Handed → Type 0
HandsInAll records one = map record_of one.receipts ≡ records_of one.maker.caller records

-- a list breaks a property at a place if the first item with which it does names the place
pub record BreaksAt {A : Type 0} (property : List A → Type 0) (place_of : A → ℕ) (items : List A) (place : ℕ)
    : Type 0 where
  pub index : ℕ
  pub item : A
  pub first : IsFirstBreak property items index
  pub found : slice_get items index ≡ Some item
  pub named : place_of item ≡ place

-- what a caller hands in is foreign at a place first: one of its receipts names it; or these stand, and one that it was
-- told of does; or these stand too, and a look does
abbrev pub IsFirstForeign : Settings → List Record → Handed → ℕ → Type 0
IsFirstForeign settings records one place =
    BreaksAt (AreOwn one.maker.caller records) (λ receipt. receipt.place) one.receipts place
    ⊎ AreOwn one.maker.caller records one.receipts
    × BreaksAt (All (IsReceiptIn records)) (λ receipt. receipt.place) one.told place
    ⊎ AreOwn one.maker.caller records one.receipts × All (IsReceiptIn records) one.told
    × BreaksAt (All (IsSeenIn settings records)) (λ look. look.place) one.seen place

-- a caller and a place name the first foreign item of all that is handed in: it is the caller of the first of whom not
-- all stands in the history, and the place is that of the first item of it that is foreign
pub record IsForeign (settings : Settings) (records : List Record) (handed : List Handed) (caller place : ℕ)
    : Type 0 where
  pub index : ℕ
  pub one : Handed
  pub first : IsFirstBreak (All (StandsIn settings records)) handed index
  pub found : slice_get handed index ≡ Some one
  pub who : one.maker.caller ≡ caller
  pub item : IsFirstForeign settings records one place

-- what a caller hands in, after its share has met these records
abbrev pub after_meeting : List Record → Handed → Handed
after_meeting records one = record one { sight = sight_of records }

-- all that was handed in comes back after each share has met the history, which was kept as it was opened and begins with
-- what each had seen; and what is named as foreign is the first foreign item of this history
pub record IsGivenBack (opening : Opened) (handed : List Handed) (fault : FinishFault) (back : List Handed) : Type 0 where
  pub history : History
  pub opened : IsAsOpened opening history
  pub saw : All (λ one. IsBeginning one.sight.seen history.records) handed
  pub met : back ≡ map (after_meeting history.records) handed
  pub foreign : (caller place : ℕ) → fault ≡ ForeignReceipt caller place →
      IsForeign history.settings history.records handed caller place

-- the number of a fault
abbrev pub number_of : FinishFault → ℕ
number_of SharesMissing = 1
number_of (ForeignReceipt caller place) = 2
number_of NoMemory = 3
number_of (ReceiptsMissing caller) = 4
