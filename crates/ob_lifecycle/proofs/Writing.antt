-- Why a write is refused, and what it brings.
use Rattle.std.proofs.Common.{◌≡◌, ℕ, ◌+◌, ◌≤◌, max, arith, Bool, true, false, List, [], ◌∷◌, ◌++◌, ◌||◌, ◌&&◌, sym, refl, ap, ◌∙◌, subst, append-nil}
use Rattle.ob_types.specs.PendingSize.{counted_bytes, is_oversize}
use Rattle.std.specs.Prelude.{Result, Ok, Err, IfOk, IfErr, OnOk, Option, Some, None, option_map, if◌then◌else◌, ◌==◌, is_ok, is_some}
use Rattle.ob_types.specs.declared.command.Command.TheVariants.{Write}
use Rattle.ob_types.specs.declared.message.Message.{Message}
use Rattle.ob_types.specs.declared.refusal.Refusal.{Refusal}
use Rattle.ob_types.specs.declared.refusal.Refusal.TheVariants.{Closed, Oversize, NoMemory}
use Rattle.ob_types.specs.declared.reply.Reply.{Reply}
use Rattle.ob_seq.specs.Answer.{unless_refused, first_refusal_within}
use Rattle.ob_seq.specs.State.{is_closed}
use Rattle.ob_seq.specs.Unsent.{room_for_one_more}
use Rattle.ob_connection.specs.Connected.{Connected, StandsFor as ConnectionStandsFor, connection_limit, room_in}
use Rattle.ob_connection.specs.Connected.{Refuses, waiting_count_after}
use Rattle.ob_connection.specs.Obeying.{Accepts, Obeys, written_reply}
use Rattle.ob_connection.specs.declared.replies.Written.{Written}
use Rattle.ob_lifecycle.specs.Events.{Event, Accepted, Refused as WasRefused, commands_in, is_finishing, is_untold}
use Rattle.ob_lifecycle.specs.Events.{most_told, pending_after, tally_by, Counts}
use Rattle.ob_lifecycle.specs.Inside.{FitsIn, HasRoom, own_fault, own_fault_by}
use Rattle.ob_lifecycle.specs.Managed.{Managed, StandsFor, Brings, Gives, opened_as, IsNotWritten, WritesTo, accepted}
use Rattle.ob_lifecycle.specs.Managed.{declined, fault_in, fault_of_write, write_happens, StandsForSome}
use Rattle.ob_lifecycle.specs.declared.fault.WriteFault.{WriteFault}
use Rattle.ob_lifecycle.specs.declared.fault.WriteFault.TheVariants.{Refused, Finishing, Full}
use Rattle.std.proofs.lemmas.Bool.Decides.{nat_tests}
use Rattle.ob_types.specs.declared.command.Command.{Command}
use Rattle.ob_connection.specs.Connected.{Shows}
use Rattle.ob_connection.specs.declared.look.Look.{Look}
use Rattle.ob_lifecycle.specs.declared.count.Count.{Count}
use Rattle.ob_lifecycle.specs.declared.tally.Tally.{Tally}
use Rattle.ob_lifecycle.specs.Strain.{change_in, strained}
use Rattle.ob_lifecycle.specs.declared.strain.Strain.{Strain}
use Rattle.ob_lifecycle.proofs.Straining.{strains_accepted, strains_refused}
use Rattle.ob_lifecycle.proofs.Watching.{watch_more}
use Rattle.ob_lifecycle.proofs.Bringing.{and_not, unmoved_over, brings_one, counted, managed_with, uncounted}
use Rattle.ob_lifecycle.proofs.Steps.{finishing_more, or_none}
use Rattle.ob_lifecycle.proofs.Tallies.{cancels_step, fits_of, plus_none, tally_like}

-- if there is no fault of ours, the first is the connection's
others_first : (closed finishing oversize past : Bool) (rest : Option Refusal)
    → None ≡ own_fault_by closed finishing oversize past
    → option_map (λ refusal. Refused refusal) (if closed then Some Closed else (if oversize then Some Oversize else rest))
    ≡ (if closed then Some (Refused Closed)
    else (if finishing then Some Finishing
    else (if oversize then Some (Refused Oversize)
    else (if past then Some Full else option_map (λ refusal. Refused refusal) (if oversize then Some Oversize else rest)))))
others_first true finishing oversize past rest is = refl
others_first false true oversize past rest is = absurd (cc)
others_first false false true past rest is = refl
others_first false false false true rest is = absurd (cc)
others_first false false false false rest is = refl

-- what the connection's answer says of its first refusal
accepted_says : (refusal : Option Refusal) (told reply : Reply) → Ok told ≡ unless_refused refusal reply → None ≡ refusal
accepted_says None told reply is = refl
accepted_says (Some refusal) told reply is = absurd (cc)

refused_says : (refusal : Option Refusal) (first : Refusal) (reply : Reply) → Err first ≡ unless_refused refusal reply
    → Some first ≡ refusal
refused_says None first reply is = absurd (cc)
refused_says (Some refusal) first reply is = cc

some_memory : (refusal : Refusal) → ¬ (Some (Refused refusal) ≡ Some (Refused NoMemory)) → ¬ (declined refusal ≡ Err NoMemory)
some_memory refusal other is = other (cc)

never_memory : (written : Written) → ¬ (accepted written ≡ Err NoMemory)
never_memory written is = cc

first_of_fault : (managed : Managed) (message : Message) (new : Connected) (events : List Event) → StandsFor managed events
    → None ≡ own_fault message (opened_as managed) events → (fault : WriteFault)
    → IsNotWritten managed.connection message fault new → ¬ (Some fault ≡ Some Finishing) → ¬ (Some fault ≡ Some Full)
    → ¬ (Some fault ≡ Some (Refused NoMemory)) → Some fault ≡ fault_of_write message (opened_as managed) events
first_of_fault managed message new events stands own (Refused refusal) is no_end no_cap memory =
    let first : Some refusal ≡ first_refusal_within connection_limit managed.connection.unsent.settings.estimate (commands_in events) (Write message) =
    refused_says _ refusal _ ((is.answer (some_memory refusal memory)).says (commands_in events) stands.commands) in
    ap (option_map (λ refusal. Refused refusal)) first ∙ others_first _ _ _ _ _ own
first_of_fault managed message new events stands own Finishing is no_end no_cap memory = absurd (no_end refl)
first_of_fault managed message new events stands own Full is no_end no_cap memory = absurd (no_cap refl)

-- if there is none of ours and none of the connection's, there is none
pub none_of_both : (managed : Managed) (message : Message) (refusal : Option Refusal) → Gives managed (own_fault message) None
    → Refuses managed.connection (Write message) refusal
    → Gives managed (fault_of_write message) (option_map (λ refusal. Refused refusal) refusal)
none_of_both managed message refusal own first events stands =
    ap (option_map (λ refusal. Refused refusal)) (first (commands_in events) stands.commands) ∙ others_first _ _ _ _ _ (own events stands)

accepts_says : (refusal : Option Refusal) (reply : Reply) → true ≡ is_ok (unless_refused refusal reply) → None ≡ refusal
accepts_says None reply is = refl
accepts_says (Some refusal) reply is = absurd (cc)

-- memory is the last fault
pub memory_last_of_put : {E : Type 0} (why : E → WriteFault) (managed : Managed) (message : Message) (new : Connected)
    (result : Result Written E) → Gives managed (own_fault message) None
    → IfErr result (λ left. IsNotWritten managed.connection message (why left) new)
    → fault_in why result ≡ Some (Refused NoMemory) → Gives managed (fault_of_write message) None
memory_last_of_put why managed message new (Ok written) own refused is events stands = absurd (cc)
memory_last_of_put why managed message new (Err left) own refused is events stands =
    let same : why left ≡ Refused NoMemory = cc in
    let obeys : Obeys managed.connection (Write message) written_reply (declined NoMemory) new =
    subst (λ fault. IsNotWritten managed.connection message fault new) same refused in
    let none : None ≡ first_refusal_within connection_limit managed.connection.unsent.settings.estimate (commands_in events) (Write message) =
    accepts_says _ _ (obeys.no_memory_last refl (commands_in events) stands.commands) in
    ap (option_map (λ refusal. Refused refusal)) none ∙ others_first _ _ _ _ _ (own events stands)

-- the fault of a write that the connection was asked for is its first
pub first_of_put : {E : Type 0} (why : E → WriteFault) (managed : Managed) (message : Message) (new : Connected) (result : Result Written E)
    → Gives managed (own_fault message) None
    → IfOk result (λ written. Obeys managed.connection (Write message) written_reply (accepted written) new)
    → IfErr result (λ left. IsNotWritten managed.connection message (why left) new)
    → ¬ (fault_in why result ≡ Some Finishing) → ¬ (fault_in why result ≡ Some Full)
    → ¬ (fault_in why result ≡ Some (Refused NoMemory)) → Gives managed (fault_of_write message) (fault_in why result)
first_of_put why managed message new (Ok written) own wrote refused no_end no_cap memory events stands =
    let none : None ≡ first_refusal_within connection_limit managed.connection.unsent.settings.estimate (commands_in events) (Write message) =
    accepted_says _ _ _ ((wrote.answer (never_memory written)).says (commands_in events) stands.commands) in
    ap (option_map (λ refusal. Refused refusal)) none ∙ others_first _ _ _ _ _ (own events stands)
first_of_put why managed message new (Err left) own wrote refused no_end no_cap memory events stands =
    first_of_fault managed message new events stands (own events stands) (why left) refused no_end no_cap memory

-- a write that was refused
pub refused_brings : (old : Managed) (connection : Connected) (strain : Strain) (why : WriteFault) → connection ≡ old.connection
    → strain ≡ strained (Err why) old.strain
    → Brings old (WasRefused why ∷ []) false (managed_with old connection old.ending old.tally strain)
refused_brings old connection strain why same strains = brings_one old connection old.ending old.tally strain (WasRefused why) false (record {
  settings = ap (λ c. c.unsent.settings) same;
  stands = λ commands stands. subst (λ c. ConnectionStandsFor c (commands ++ [])) (sym same)
      (subst (λ c. ConnectionStandsFor old.connection c) (sym (append-nil commands)) stands);
  asked = sym (or_none old.ending.asked);
  over = λ events stands. unmoved_over old (WasRefused why) refl refl events stands;
  told = and_not old.ending.over;
  watch = λ events stands. stands.watch ∙ sym (watch_more (opened_as old) events (WasRefused why));
  counts = uncounted old (WasRefused why) old.tally refl refl;
  strained = strains_refused old why strain strains;
  messages = λ events stands. stands.messages;
  bytes = λ events stands. stands.bytes;
})

-- an open connection with no fault of ours was not asked to end
open_by : (closed : Bool) (rest : Option Refusal) → None ≡ (if closed then Some Closed else rest) → closed ≡ false
open_by true rest is = absurd (cc)
open_by false rest is = refl

not_finishing : (closed finishing oversize past : Bool) → None ≡ own_fault_by closed finishing oversize past → closed ≡ false
    → finishing ≡ false
not_finishing true finishing oversize past own unclosed = absurd (cc)
not_finishing false true oversize past own unclosed = absurd (cc)
not_finishing false false oversize past own unclosed = refl

not_put : (old new : Connected) (message : Message) (fault : WriteFault) → IsNotWritten old message fault new → new ≡ old
not_put old new message (Refused refusal) is = is.refused
not_put old new message Finishing is = is
not_put old new message Full is = is

-- numbers with room for a message can tell it
told_messages : (count : Count) (size : ℕ) → is_untold count size ≡ false → count.messages + 1 ≤ most_told
told_messages count size room = grind (arith, nat_tests, room)

told_bytes : (count : Count) (size : ℕ) → is_untold count size ≡ false → count.bytes + size ≤ most_told
told_bytes count size room = grind (arith, nat_tests, room)

-- a message that is written was not too large
fine_by : (closed oversize : Bool) (rest : Option Refusal)
    → None ≡ (if closed then Some Closed else (if oversize then Some Oversize else rest)) → oversize ≡ false
fine_by true oversize rest is = absurd (cc)
fine_by false true rest is = absurd (cc)
fine_by false false rest is = refl

pub written_open : (old new : Connected) (message : Message) (written : Written) (commands : List Command)
    → ConnectionStandsFor old commands → Obeys old (Write message) written_reply (accepted written) new
    → is_closed commands ≡ false
written_open old new message written commands stands wrote =
    open_by _ _ (accepted_says (first_refusal_within connection_limit old.unsent.settings.estimate commands (Write message)) _ _
    ((wrote.answer (never_memory written)).says commands stands))

pub written_fine : (old new : Connected) (message : Message) (written : Written) (commands : List Command)
    → ConnectionStandsFor old commands → Obeys old (Write message) written_reply (accepted written) new
    → is_oversize old.unsent.settings.estimate message ≡ false
written_fine old new message written commands stands wrote =
    fine_by _ _ _ (accepted_says (first_refusal_within connection_limit old.unsent.settings.estimate commands (Write message)) _ _
    ((wrote.answer (never_memory written)).says commands stands))

-- the numbers have room for a message that is not refused by us
past_by : (closed finishing oversize past : Bool) → None ≡ own_fault_by closed finishing oversize past → closed ≡ false
    → oversize ≡ false → past ≡ false
past_by true finishing oversize past own a b = absurd (cc)
past_by false true oversize past own a b = absurd (cc)
past_by false false true past own a b = absurd (cc)
past_by false false false true own a b = absurd (cc)
past_by false false false false own a b = refl

or_right : (a b : Bool) → (a || b) ≡ false → b ≡ false
or_right true b is = absurd (cc)
or_right false b is = is

may_count : (managed : Managed) (message : Message) → StandsForSome managed → Gives managed (own_fault message) None
    → (commands : List Command) → ConnectionStandsFor managed.connection commands → is_closed commands ≡ false
    → is_oversize managed.connection.unsent.settings.estimate message ≡ false
    → is_untold managed.tally.accepted (counted_bytes managed.connection.unsent.settings.estimate message) ≡ false
may_count managed message some own commands stands unclosed fine =
    let same : is_closed (commands_in some.0) ≡ false = sym some.1.commands.as_buffer.leaves.closed ∙ stands.as_buffer.leaves.closed ∙ unclosed in
    let size = counted_bytes managed.connection.unsent.settings.estimate message in
    ap (λ t. is_untold t.accepted size) some.1.tally
    ∙ or_right _ _ (past_by _ _ _ _ (own some.0 some.1) same fine)

-- a message is counted by what was accepted in all with it, and by what is pending then
pub put_counted : (old new : Connected) (message : Message) (written : Written) (after : Look) (bytes pending : ℕ) (tally : Tally)
    → Obeys old (Write message) written_reply (accepted written) new → Shows new after → pending ≡ after.total
    → bytes ≡ tally.accepted.bytes + counted_bytes old.unsent.settings.estimate message
    → Counts {E = Refusal} old tally (Write message) (Ok written)
    (record tally { accepted = record { messages = tally.accepted.messages + 1; bytes = bytes }; peak = max tally.peak pending })
put_counted old new message written after bytes pending tally wrote shown same is commands stands fits =
    let settings = old.unsent.settings in
    let now : pending ≡ (pending_after settings (commands ++ Write message ∷ [])).bytes =
    same ∙ ap (λ look. look.total) (shown _ (wrote.stands commands stands))
    ∙ ap (λ s. (pending_after s (commands ++ Write message ∷ [])).bytes) wrote.settings in
    tally_like _ (tally_by settings commands (Write message) tally)
    (ap (λ n. record { messages = tally.accepted.messages + 1; bytes = n }) is) (sym (plus_none tally.failed))
    (sym (plus_none tally.cancelled)) (ap (max tally.peak) now) (fits.cancels ∙ sym (cancels_step commands (Write message)))

pub put_brings : {E : Type 0} (why : E → WriteFault) (old : Managed) (message : Message) (new : Connected) (tally : Tally) (strain : Strain)
    (result : Result Written E) → Gives old (own_fault message) None
    → IfOk result (λ written. Obeys old.connection (Write message) written_reply (accepted written) new)
    → IfErr result (λ left. IsNotWritten old.connection message (why left) new)
    → Counts old.connection old.tally (Write message) result tally
    → strain ≡ strained (change_in (λ written. written.change) why result) old.strain
    → Brings old (write_happens why message result) false (managed_with old new old.ending tally strain)
put_brings {E = E} why old message new tally strain (Ok written) own wrote refused counts strains =
    brings_one old new old.ending tally strain (Accepted (Write message)) false (record {
      settings = wrote.settings;
      stands = wrote.stands;
      asked = sym (or_none old.ending.asked);
      over = λ events stands.
          let goes_on : is_finishing (events ++ Accepted (Write message) ∷ []) ≡ false =
          finishing_more events (Accepted (Write message)) ∙ or_none (is_finishing events)
          ∙ not_finishing _ _ _ _ (own events stands) (written_open old.connection new message written (commands_in events) stands.commands wrote) in
          sym (or_none old.ending.over)
          ∙ ap (λ b. old.ending.over || (b && (waiting_count_after old.connection.unsent.settings (commands_in (events ++ Accepted (Write message) ∷ [])) == 0))) (sym goes_on);
      told = and_not old.ending.over;
      watch = λ events stands. stands.watch ∙ sym (watch_more (opened_as old) events (Accepted (Write message)));
      counts = counted E old (Write message) written tally counts;
      strained = strains_accepted old new (Write message) written_reply written written.change strain (λ promises. refl) wrote strains;
      messages = λ events stands.
          let room = may_count old message (events, stands) own (commands_in events) stands.commands
          (written_open old.connection new message written (commands_in events) stands.commands wrote)
          (written_fine old.connection new message written (commands_in events) stands.commands wrote) in
          omega (arith, told_messages old.tally.accepted _ room, ap (λ t. t.accepted.messages) (counts (commands_in events) stands.commands (fits_of old events stands)));
      bytes = λ events stands.
          let room = may_count old message (events, stands) own (commands_in events) stands.commands
          (written_open old.connection new message written (commands_in events) stands.commands wrote)
          (written_fine old.connection new message written (commands_in events) stands.commands wrote) in
          omega (arith, told_bytes old.tally.accepted _ room, ap (λ t. t.accepted.bytes) (counts (commands_in events) stands.commands (fits_of old events stands)));
    })
put_brings why old message new tally strain (Err left) own wrote refused counts strains =
    subst (λ t. Brings old (WasRefused (why left) ∷ []) false (managed_with old new old.ending t strain)) (sym counts)
    (refused_brings old new strain (why left) (not_put old.connection new message (why left) refused) strains)

-- what was refused in one form is so in another
pub refused_alike : {E : Type 0} (why : E → WriteFault) (message : Message) (old new : Managed) (left : E)
    → WritesTo (λ why. why) message old (Err (why left)) new → WritesTo why message old (Err left) new
refused_alike why message old new left it = record {
  written = tt;
  room = tt;
  refused = it.refused;
  first = it.first;
  memory_last = it.memory_last;
  brings = it.brings;
}

-- a write for which the connection is asked
pub put_writes : {E : Type 0} (why : E → WriteFault) (old : Managed) (message : Message) (new : Connected) (tally : Tally) (strain : Strain)
    (result : Result Written E) → Gives old (own_fault message) None
    → IfOk result (λ written. Obeys old.connection (Write message) written_reply (accepted written) new)
    → OnOk result (room_in new ≡ room_for_one_more old.connection.unsent)
    → IfErr result (λ left. IsNotWritten old.connection message (why left) new)
    → ¬ (fault_in why result ≡ Some Finishing) → ¬ (fault_in why result ≡ Some Full)
    → Counts old.connection old.tally (Write message) result tally
    → strain ≡ strained (change_in (λ written. written.change) why result) old.strain
    → WritesTo why message old result (managed_with old new old.ending tally strain)
put_writes why old message new tally strain result own wrote room refused no_end no_cap counts strains = record {
  written = wrote;
  room = room;
  refused = refused;
  first = first_of_put why old message new result own wrote refused no_end no_cap;
  memory_last = memory_last_of_put why old message new result own refused;
  brings = put_brings why old message new tally strain result own wrote refused counts strains;
}

-- a block that is not shared, since a write of it would be refused
pub unshared_writes : (old : Managed) (strain : Strain) (message : Message) (why : WriteFault)
    → Gives old (fault_of_write message) (Some why) → IsNotWritten old.connection message why old.connection
    → ¬ (Some why ≡ Some (Refused NoMemory)) → strain ≡ strained (Err why) old.strain
    → WritesTo (λ why. why) message old (Err why) (record old { strain = strain })
unshared_writes old strain message why first left other strains = record {
  written = tt;
  room = tt;
  refused = left;
  first = λ memory. first;
  memory_last = λ is. absurd (other is);
  brings = refused_brings old old.connection strain why refl strains;
}

-- and since there is no memory
pub without_memory : (old : Managed) (strain : Strain) (message : Message) → Gives old (fault_of_write message) None
    → Accepts old.connection (Write message) → strain ≡ strained (Err (Refused NoMemory)) old.strain
    → WritesTo (λ why. why) message old (Err (Refused NoMemory)) (record old { strain = strain })
without_memory old strain message none accepts strains = record {
  written = tt;
  room = tt;
  refused = record {
    answer = λ other. absurd (other refl);
    stands = λ commands stands. stands;
    settings = refl;
    refused = refl;
    no_memory_last = λ is. accepts;
  };
  first = λ other. absurd (other refl);
  memory_last = λ is. none;
  brings = refused_brings old old.connection strain (Refused NoMemory) refl strains;
}

-- a write that the connection accepted, while there was room
pub wrote_writes : {E : Type 0} (why : E → WriteFault) (old : Managed) (message : Message) (new : Connected) (written : Written) (after : Look)
    (bytes pending : ℕ) (tally : Tally) (strain : Strain) → HasRoom message old bytes
    → Obeys old.connection (Write message) written_reply (accepted written) new
    → room_in new ≡ room_for_one_more old.connection.unsent → Shows new after → pending ≡ after.total
    → tally ≡ record old.tally { accepted = record { messages = old.tally.accepted.messages + 1; bytes = bytes }; peak = max old.tally.peak pending }
    → strain ≡ strained (Ok written.change) old.strain
    → WritesTo why message old (Ok written) (managed_with old new old.ending tally strain)
wrote_writes why old message new written after bytes pending tally strain has wrote room shown same tallied strains =
    put_writes why old message new tally strain (Ok written) has.own wrote room tt (λ is. cc) (λ is. cc)
    (subst (λ t. Counts {E = Refusal} old.connection old.tally (Write message) (Ok written) t) (sym tallied)
    (put_counted old.connection new message written after bytes pending old.tally wrote shown same has.bytes)) strains

-- and one that it refused
pub declined_writes : {E : Type 0} (why : E → WriteFault) (old : Managed) (message : Message) (new : Connected) (left : E) (refusal : Refusal)
    (strain : Strain) → why left ≡ Refused refusal → Gives old (own_fault message) None
    → Obeys old.connection (Write message) written_reply (declined refusal) new
    → strain ≡ strained (Err (Refused refusal)) old.strain
    → WritesTo why message old (Err left) (managed_with old new old.ending old.tally strain)
declined_writes why old message new left refusal strain same own obeys strains =
    put_writes why old message new old.tally strain (Err left) own tt tt
    (subst (λ fault. IsNotWritten old.connection message fault new) (sym same) obeys) (λ is. cc) (λ is. cc) refl
    (strains ∙ ap (λ fault. strained (Err fault) old.strain) (sym same))

-- whether there is room for a message
pub fits_none : (message : Message) (managed : Managed) (fits : Option ℕ) → is_some fits ≡ false → FitsIn message managed fits
    → FitsIn message managed None
fits_none message managed None is fits = fits
fits_none message managed (Some bytes) is fits = absurd (cc)

pub fits_own : (message : Message) (managed : Managed) (fits : Option ℕ) → is_some fits ≡ true → FitsIn message managed fits
    → Gives managed (own_fault message) None
fits_own message managed None is fits = absurd (cc)
fits_own message managed (Some bytes) is fits = fits.own
