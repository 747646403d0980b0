-- What is pending of a connection after a write that the budget let through.
use Rattle.std.proofs.Common.{◌≡◌, ℕ, ◌+◌, ◌≤◌, Bool, true, false, [], ◌∷◌, ◌++◌, if◌then◌else◌, sym, refl, ap, ◌∙◌, subst, arith}
use Rattle.std.specs.Prelude.{Result, Ok, Err, Option, None, IfErr, OnOk}
use Rattle.std.proofs.lemmas.List.Sums.{fold-append, sum_by_push}
use Rattle.ob_types.specs.PendingSize.{counted_bytes, is_oversize, pending_size_of}
use Rattle.ob_types.specs.declared.command.Command.TheVariants.{Write}
use Rattle.ob_types.specs.declared.estimate.Estimate.{Estimate}
use Rattle.ob_types.specs.declared.message.Message.{Message}
use Rattle.ob_types.specs.declared.refusal.Refusal.{Refusal}
use Rattle.ob_types.specs.declared.refusal.Refusal.TheVariants.{Oversize}
use Rattle.ob_seq.specs.Effect.{effect, rows_after}
use Rattle.ob_seq.specs.Rows.{new_row, counted_size}
use Rattle.ob_seq.specs.Unsent.{room_for_one_more}
use Rattle.ob_budget.specs.declared.pressure.Pressure.{Pressure}
use Rattle.ob_connection.specs.Connected.{Connected, StandsForSome, room_in}
use Rattle.ob_connection.specs.Connected.{Shows}
use Rattle.ob_connection.specs.Obeying.{Obeys, written_reply}
use Rattle.ob_connection.specs.declared.look.Look.{Look}
use Rattle.ob_connection.specs.declared.replies.Written.{Written}
use Rattle.ob_covered.specs.Budgeted.{BudgetedValue, pending, IsPending, IsWithin, IsNotWritten, WritesWithin, accepted}
use Rattle.ob_covered.specs.Cover.{CoverValue, TakesSparingly, Tells}
use Rattle.ob_covered.specs.Inside.{Covers, HoldsBeside, IsNotPut, let_through}
use Rattle.ob_covered.specs.declared.fault.WriteFault.{WriteFault}
use Rattle.ob_covered.specs.declared.fault.WriteFault.TheVariants.{Refused, OverBudget}
use Rattle.ob_covered.proofs.Pending.{shown, covered}

-- an accepted write adds what its message counts
pub grows : (old new : Connected) (message : Message) (written : Written) (look : Look) → StandsForSome old
    → Obeys old (Write message) written_reply (accepted written) new → Shows new look → (before : ℕ)
    → IsPending old before → IsPending new (before + counted_bytes old.unsent.settings.estimate message)
grows old new message written look some obeys shows before is commands stands =
    let estimate = old.unsent.settings.estimate in
    let rows = rows_after estimate some.0 in
    let row = new_row estimate message in
    let more : rows_after estimate (some.0 ++ Write message ∷ []) ≡ rows ++ row ∷ [] =
    fold-append (effect estimate) [] some.0 (Write message ∷ []) in
    let longer : pending old.unsent.settings (some.0 ++ Write message ∷ []) ≡ pending old.unsent.settings some.0 + counted_bytes estimate message =
    rw more (sum_by_push counted_size rows row) in
    let seen : look.total ≡ pending old.unsent.settings (some.0 ++ Write message ∷ []) =
    shown new look shows (some.0 ++ Write message ∷ []) (obeys.stands some.0 some.1)
    ∙ ap (λ s. pending s (some.0 ++ Write message ∷ [])) obeys.settings in
    omega (arith, is some.0 some.1, longer, seen, shown new look shows commands stands)

-- the size of a message that is not too large is what it counts
size_if : (over : Bool) (counted size : ℕ) (fault : Refusal) → Ok size ≡ (if over then Err fault else Ok counted) → size ≡ counted
size_if true counted size fault is = absurd (cc)
size_if false counted size fault is = cc

pub size_is : (estimate : Estimate) (message : Message) (size : ℕ) → Ok size ≡ pending_size_of estimate message
    → size ≡ counted_bytes estimate message
size_is estimate message size is = size_if (is_oversize estimate message) (counted_bytes estimate message) size Oversize is

not_put : (old new : Connected) (message : Message) (why : WriteFault) → IsNotPut old message why new → new ≡ old
not_put old new message (Refused refusal) not = not.refused
not_put old new message (OverBudget fault) not = absurd not

-- so a seat that holds the message beside what was pending covers the connection, whether it was written or not
pub put_within : {E : Type 0} (why : E → WriteFault) (old new : Connected) (message : Message) (result : Result Written E)
    (before held less : ℕ) → IsWithin old less → less ≤ held
    → OnOk result ((before : ℕ) → IsPending old before
    → IsPending new (before + counted_bytes old.unsent.settings.estimate message))
    → IfErr result (λ not. IsNotPut old message (why not) new) → IsPending old before
    → before + counted_bytes old.unsent.settings.estimate message ≤ held → IsWithin new held
put_within why old new message (Ok written) before held less within more grown refused is fits =
    covered new (before + counted_bytes old.unsent.settings.estimate message) held (grown before is) fits
put_within why old new message (Err not) before held less within more grown refused is fits =
    subst (λ c. IsWithin c held) (sym (not_put old new message (why not) refused))
    (λ commands stands. omega (arith, within commands stands, more))

-- what a look has shown is what is pending, so a cover that took sparingly for the one did for the other
pub spares : (old : Connected) (now seen size needed : ℕ) (before after : CoverValue) → StandsForSome old
    → IsPending old now → IsPending old seen → needed ≡ seen + size → TakesSparingly needed before after
    → TakesSparingly (now + size) before after
spares old now seen size needed before after some is shows needs sparing =
    let same : now ≡ seen = is some.0 some.1 ∙ sym (shows some.0 some.1) in
    subst (λ n. TakesSparingly n before after) (needs ∙ ap (λ n. n + size) (sym same)) sparing

-- a cover that stays as it is takes nothing
pub takes_nothing : (needed : ℕ) (cover : CoverValue) → TakesSparingly needed cover cover
takes_nothing needed cover = record { enough = λ enough. refl; lacking = λ less. omega arith }

-- what the connection refused within a budget that let it through is no fault of the budget
refused_one : (old new : BudgetedValue) (message : Message) (why : WriteFault)
    → IsNotPut old.connection message why new.connection → IsNotWritten old message why new
refused_one old new message (Refused refusal) not = not
refused_one old new message (OverBudget fault) not = absurd not

pub refused_as : {E : Type 0} (why : E → WriteFault) (old new : BudgetedValue) (message : Message) (result : Result Written E)
    → IfErr result (λ not. IsNotPut old.connection message (why not) new.connection)
    → IfErr result (λ not. IsNotWritten old message (why not) new)
refused_as why old new message (Ok written) refused = refused
refused_as why old new message (Err not) refused = refused_one old new message (why not) refused

-- and it tells of no turn
pub tells_nothing : (cover : CoverValue) → Tells cover None cover
tells_nothing cover =
    record { quantum = refl; budget = refl; seats = refl; began = omega arith; ended = omega arith }

-- what the connection answered to a block, as an answer that was let through
block_grows : (old new : Connected) (message : Message) (answer : Result Written Refusal) (look : Look) → StandsForSome old
    → Obeys old (Write message) written_reply answer new → Shows new look
    → OnOk (let_through answer) ((before : ℕ) → IsPending old before
    → IsPending new (before + counted_bytes old.unsent.settings.estimate message))
block_grows old new message (Ok written) look some obeys shows = grows old new message written look some obeys shows
block_grows old new message (Err refusal) look some obeys shows = tt

block_refused : (old new : Connected) (message : Message) (answer : Result Written Refusal)
    → Obeys old (Write message) written_reply answer new → IfErr (let_through answer) (λ why. IsNotPut old message why new)
block_refused old new message (Ok written) obeys = tt
block_refused old new message (Err refusal) obeys = obeys

-- a cover that was taken, of the connection as it is kept
pub covers_by : (message : Message) (old between new : BudgetedValue) (pressure : Option Pressure)
    (answer : Result (Option Pressure) WriteFault) → answer ≡ Ok pressure → between ≡ new → Covers message old answer new
    → Covers message old (Ok pressure) between
covers_by message old between new pressure answer is kept covers =
    subst (λ v. Covers message old (Ok pressure) v) (sym kept) (subst (λ a. Covers message old a new) is covers)

-- a cover that holds the message already
pub covers_already : (message : Message) (old : BudgetedValue)
    → HoldsBeside old.connection (counted_bytes old.connection.unsent.settings.estimate message) old.cover.seat.account.held
    → Covers message old (Ok None) old
covers_already message old holds = record {
  same = refl;
  holds = holds;
  told = tells_nothing old.cover;
  untold = tt;
  refused = tt;
  last = tt;
  sparing = λ now is. takes_nothing _ old.cover;
}

-- so a seat that covers the block covers the connection after it, whatever that answered
pub block_within : (message : Message) (old between : BudgetedValue) (pressure : Option Pressure)
    (answer : Result Written Refusal) (new : Connected) (look : Look) → StandsForSome old.connection
    → Covers message old (Ok pressure) between → Obeys between.connection (Write message) written_reply answer new
    → Shows new look → IsWithin between.connection between.cover.seat.account.held
    → IsWithin new between.cover.seat.account.held
block_within message old between pressure answer new look some covers obeys shows within =
    let held = between.cover.seat.account.held in
    let obeyed = subst (λ c. Obeys c (Write message) written_reply answer new) covers.same obeys in
    put_within (λ why. why) old.connection new message (let_through answer) covers.holds.now held held
    (subst (λ c. IsWithin c held) covers.same within) (omega arith)
    (block_grows old.connection new message answer look some obeyed shows)
    (block_refused old.connection new message answer obeyed) covers.holds.is_pending covers.holds.fits

-- and the write is one within the budget
writes_by : (message : Message) (old new : BudgetedValue) (pressure : Option Pressure) (answer : Result Written Refusal)
    → Tells old.cover pressure new.cover
    → ((now : ℕ) → IsPending old.connection now
    → TakesSparingly (now + counted_bytes old.connection.unsent.settings.estimate message) old.cover new.cover)
    → Obeys old.connection (Write message) written_reply answer new.connection
    → OnOk answer (room_in new.connection ≡ room_for_one_more old.connection.unsent)
    → WritesWithin (λ why. why) message old (record { answer = let_through answer; pressure = pressure }) new
writes_by message old new pressure (Ok written) tells sparing obeys room =
    record { written = obeys; room = room; refused = tt; tells = tells; sparing = sparing }
writes_by message old new pressure (Err refusal) tells sparing obeys room =
    record { written = tt; room = tt; refused = obeys; tells = tells; sparing = sparing }

pub writes_block : (message : Message) (old between : BudgetedValue) (pressure : Option Pressure)
    (answer : Result Written Refusal) (new : Connected) → Covers message old (Ok pressure) between
    → Obeys between.connection (Write message) written_reply answer new
    → OnOk answer (room_in new ≡ room_for_one_more between.connection.unsent)
    → WritesWithin (λ why. why) message old (record { answer = let_through answer; pressure = pressure })
    (record { connection = new; cover = between.cover })
writes_block message old between pressure answer new covers obeys room =
    writes_by message old (record { connection = new; cover = between.cover }) pressure answer covers.told covers.sparing
    (subst (λ c. Obeys c (Write message) written_reply answer new) covers.same obeys)
    (subst (λ c. OnOk answer (room_in new ≡ room_for_one_more c.unsent)) covers.same room)
