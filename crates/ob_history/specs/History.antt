-- What a contract sees of a stored history, which of its commands were accepted, and when it is legal. What is seen of
-- its buffer, at a glance and whole, and what it settles. Receipts, the records that they are of, and those of one
-- caller. One more call of it.
use Rattle.std.specs.List.{flat_map, list_any, All, AllPairs}
use Rattle.std.specs.Prelude.{◌≡◌, ◌↔◌, ℕ, ◌+◌, ◌<◌, ◌≤◌, List, [], length, max, Result, IsErrOf, IsOk, IsOkUnless}
use Rattle.std.specs.Prelude.{OnOk, OnErr, Bool, filter, is_ok, map, Some, slice_get, take, ◌++◌, ◌==◌, ◌≢◌, drop}
use Rattle.std.specs.Prelude.{sum_by, IfOk, ◌∷◌, ◌-◌, true, false, if◌then◌else◌, Ok, Err}
use Rattle.ob_types.specs.Limits.{inline_settlements}
use Rattle.ob_types.specs.Traits.{is_write}
use Rattle.ob_types.specs.declared.command.Command.{Command}
use Rattle.ob_types.specs.declared.promise.Outcome.{Outcome}
use Rattle.ob_types.specs.declared.promise.PromiseId.{PromiseId}
use Rattle.ob_types.specs.declared.refusal.Refusal.{Refusal}
use Rattle.ob_types.specs.declared.refusal.Refusal.TheVariants.{HistoryFull, NoMemory}
use Rattle.ob_seq.specs.Answer.{answer_to}
use Rattle.ob_seq.specs.Effect.{rows_after}
use Rattle.ob_seq.specs.Looks.{look_after}
use Rattle.ob_seq.specs.Pending.{Pending, StandsFor, settled_by, settled_after}
use Rattle.ob_seq.specs.Rows.{Settings, total}
use Rattle.ob_seq.specs.State.{word_after}
use Rattle.ob_history.specs.declared.glance.Glance.{Glance}
use Rattle.ob_history.specs.declared.receipt.Receipt.{Receipt}
use Rattle.ob_history.specs.declared.record.Record.{Record}
use Rattle.ob_history.specs.declared.seen.Seen.{Seen}

-- a stored history: the settings of its buffer, the most records that it may hold, its records, oldest first, and
-- how many more calls are reserved
pub record History : Type 0 where
  pub settings : Settings
  pub limit : ℕ
  pub records : List Record
  pub reserved : ℕ

-- the history before the first call
abbrev pub new_history : Settings → ℕ → History
new_history settings limit = record { settings = settings; limit = limit; records = []; reserved = 0 }

-- the most records that any history may hold
abbrev pub most_records : ℕ
most_records = 1048576

-- a history is bounded if its records and the reserved calls have places under its limit, which is at most 1048576
pub record IsBounded (history : History) : Type 0 where
  pub places : length history.records + history.reserved ≤ history.limit
  pub limit : history.limit ≤ most_records

-- a history lacks `count` places exactly if its limit is below the number of its records with them
abbrev pub LacksPlaces : History → ℕ → Type 0
LacksPlaces history count = history.limit < length history.records + count

-- a history with at least `count` calls reserved
abbrev pub with_reserved : History → ℕ → History
with_reserved history count = record history { reserved = max history.reserved count }

-- a reservation leaves at least `count` calls reserved; it is refused as full exactly if the history lacks as many
-- places, and else only if it is out of memory, and never if as many are reserved already; what is refused leaves the
-- history as it was
pub record IsReservation (old : History) (count : ℕ) {A : Type 0} (result : Result A Refusal) (new : History)
    : Type 0 where
  pub reserved : OnOk result (new ≡ with_reserved old count)
  pub full : IsErrOf result HistoryFull ↔ LacksPlaces old count
  pub no_memory : ¬ LacksPlaces old count → IsOkUnless result NoMemory
  pub frugal : count ≤ old.reserved → IsOk result
  pub refused : OnErr result (new ≡ old)

-- whether the command of a record was accepted
abbrev pub is_accepted : Record → Bool
is_accepted one = is_ok one.reply

-- the accepted commands of records, oldest first
abbrev pub accepted_commands : List Record → List Command
accepted_commands records = map (λ one. one.command) (filter is_accepted records)

-- a record stands rightly at an index: that is its place, and its reply is the answer to its command after the
-- accepted ones of the records before it
pub record IsRecordAt (settings : Settings) (records : List Record) (index : ℕ) (one : Record) : Type 0 where
  pub place : one.place ≡ index
  pub reply : one.reply ≡ answer_to settings (accepted_commands (take index records)) one.command

-- a history is legal exactly if each of its records stands rightly at its index
abbrev pub IsLegal : Settings → List Record → Type 0
IsLegal settings records =
    (index : ℕ) (one : Record) → slice_get records index ≡ Some one → IsRecordAt settings records index one

-- a buffer is that of a history if it stands for the accepted commands of its records, by its settings; and the
-- history is legal and bounded
pub record IsBufferOf (history : History) (buffer : Pending) : Type 0 where
  pub stands : StandsFor buffer (accepted_commands history.records)
  pub settings : buffer.settings ≡ history.settings
  pub legal : IsLegal history.settings history.records
  pub bounded : IsBounded history

-- records are a beginning of others if some records after them make those
pub record IsBeginning (first all : List Record) : Type 0 where
  pub rest : List Record
  pub whole : first ++ rest ≡ all

-- an item is the first that breaks a property of lists if the items before it have the property, and those up to it
-- don't
pub record IsFirstBreak {A : Type 0} (property : List A → Type 0) (items : List A) (index : ℕ) : Type 0 where
  pub within : index < length items
  pub before : property (take index items)
  pub broken : ¬ property (take (index + 1) items)

-- the glance after the accepted commands of records: the word, and the pending bytes
abbrev pub glance_after : Settings → List Record → Glance
glance_after settings records = record {
  word = word_after settings (accepted_commands records);
  total = total (rows_after settings.estimate (accepted_commands records));
}

-- what is seen of a history now: how many records it has, and the look after their accepted commands
abbrev pub seen_now : History → Seen
seen_now history = record {
  place = length history.records;
  look = look_after history.settings (accepted_commands history.records);
}

-- a look is at a history if it is what is seen of it now, and the history is bounded
pub record IsLookAt (history : History) (look : Seen) : Type 0 where
  pub seen : look ≡ seen_now history
  pub bounded : IsBounded history

-- a look is of a history if its place is at most the number of records, and it shows what a new buffer shows after the
-- accepted commands of the records before its place
pub record IsSeenIn (settings : Settings) (records : List Record) (seen : Seen) : Type 0 where
  pub within : seen.place ≤ length records
  pub look : seen.look ≡ look_after settings (accepted_commands (take seen.place records))

-- the settlements of a history: the promises and outcomes in its replies, in order
abbrev pub settlements_in : List Record → List (PromiseId × Outcome)
settlements_in records = flat_map (λ one. settled_by one.reply) records

-- a record settles a promise exactly if that stands among the settlements of its reply
abbrev pub settles : PromiseId → Record → Bool
settles id one = list_any (λ settlement. settlement.0.0 == id.0) (settled_by one.reply)

-- the receipt of a record
abbrev pub receipt_of : Record → Receipt
receipt_of one = record { place = one.place; caller = one.caller; command = one.command; reply = one.reply }

-- the record that a receipt is of
abbrev pub record_of : Receipt → Record
record_of receipt =
    record { place = receipt.place; caller = receipt.caller; command = receipt.command; reply = receipt.reply }

-- a receipt is the record at its place
abbrev pub IsReceiptIn : List Record → Receipt → Type 0
IsReceiptIn records receipt = slice_get records receipt.place ≡ Some (record_of receipt)

-- the records of a caller, in order
abbrev pub records_of : ℕ → List Record → List Record
records_of caller records = filter (λ one. one.caller == caller) records

-- the receipts of the records of a caller from a place on, in order
abbrev pub receipts_since : ℕ → ℕ → List Record → List Receipt
receipts_since caller place records = map receipt_of (records_of caller (drop place records))

-- what is given are the receipts of the records of a caller from a place on, and they are refused only out of memory
pub record AreGivenSince {V : Type 0} (items : V → List Receipt) (records : List Record) (caller place : ℕ)
    (result : Result V Refusal) : Type 0 where
  pub receipts : IfOk result (λ given. items given ≡ receipts_since caller place records)
  pub no_memory : IsOkUnless result NoMemory

-- receipts are a caller's own if each is the record at its place and names the caller, and their places rise
pub record AreOwn (caller : ℕ) (records : List Record) (receipts : List Receipt) : Type 0 where
  pub kept : All (IsReceiptIn records) receipts
  pub named : All (λ receipt. receipt.caller ≡ caller) receipts
  pub rising : AllPairs (λ earlier later. earlier.place < later.place) receipts

-- a caller with the receipts that it holds
pub record Holding : Type 0 where
  pub caller : ℕ
  pub receipts : List Receipt

-- distinct callers hold receipts of their own, and together as many as there are records
pub record HoldAll (records : List Record) (holdings : List Holding) : Type 0 where
  pub distinct : AllPairs (λ one other. one.caller ≢ other.caller) holdings
  pub own : All (λ one. AreOwn one.caller records one.receipts) holdings
  pub as_many : sum_by (λ one. length one.receipts) holdings ≡ length records

-- the receipt of the call's record stands behind those that were kept; a call that is refused leaves them as they were
pub record KeepsReceipt (made : Record) (before after : List Receipt) (result : Result (Unit {0}) Refusal) : Type 0 where
  pub kept : OnOk result (after ≡ before ++ receipt_of made ∷ [])
  pub unkept : OnErr result (after ≡ before)

-- whether a history holds as many records as it may
abbrev pub is_full : History → Bool
is_full history = length history.records == history.limit

-- the record of one more call: the next place, what was asked and by whom, and the answer after the accepted commands
abbrev pub next_record : History → ℕ → Command → Record
next_record history caller command = record {
  place = length history.records;
  caller = caller;
  command = command;
  reply = answer_to history.settings (accepted_commands history.records) command;
}

-- a history with one more record, which uses a reserved call up, if there is one
abbrev pub with_record : History → Record → History
with_record history one = record history { records = history.records ++ one ∷ []; reserved = history.reserved - 1 }

-- the answer to one more call: the refusal of a full history, and else the receipt of its record
abbrev pub call_answer : History → ℕ → Command → Result Receipt Refusal
call_answer history caller command =
    if is_full history then Err HistoryFull else Ok (receipt_of (next_record history caller command))

-- the history after one more call: a full one stays, and any other has its record
abbrev pub history_after : History → ℕ → Command → History
history_after history caller command =
    if is_full history then history else with_record history (next_record history caller command)

-- a call is assured if one is reserved, and its command is no write and settles at most four promises
pub record IsAssured (history : History) (command : Command) : Type 0 where
  pub reserved : 0 < history.reserved
  pub no_write : is_write command ≡ false
  pub few : settled_after history.settings (accepted_commands history.records) command ≤ inline_settlements

-- one more call of a history gives its answer and leaves the history after it, unless it is out of memory; it is out of
-- memory only if the history is not full and the call is not assured; what is refused leaves the history as it was
pub record IsCall (old : History) (caller : ℕ) (command : Command) (result : Result Receipt Refusal) (new : History)
    : Type 0 where
  pub answer : ¬ IsErrOf result NoMemory → result ≡ call_answer old caller command
  pub after : ¬ IsErrOf result NoMemory → new ≡ history_after old caller command
  pub no_memory_last : IsErrOf result NoMemory → is_full old ≡ false
  pub frugal : IsAssured old command → IsOk result
  pub refused : OnErr result (new ≡ old)

-- one more call of a history whose receipt nobody asks for: a full history is refused, and any other has its record
-- unless the call is out of memory, which an assured call never is; what is refused leaves the history as it was
pub record IsRecording (old : History) (caller : ℕ) (command : Command) (result : Result (Unit {0}) Refusal) (new : History)
    : Type 0 where
  pub full : is_full old ≡ true → IsErrOf result HistoryFull
  pub no_memory : is_full old ≡ false → IsOkUnless result NoMemory
  pub after : ¬ IsErrOf result NoMemory → new ≡ history_after old caller command
  pub frugal : IsAssured old command → IsOk result
  pub refused : OnErr result (new ≡ old)
