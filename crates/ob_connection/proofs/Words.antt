-- The words that the proofs of this crate speak, passed on from one place. Declares nothing.
pub use Rattle.std.proofs.Common.{◌≡◌, refl, sym, ap, ◌∙◌, subst, arith, ℕ, zero, suc, ◌+◌, ◌-◌, ◌<◌, ◌≤◌, List, [], ◌∷◌, ◌++◌}
pub use Rattle.std.proofs.Common.{Bool, true, false, length, map, take, drop, ltb, cond, append_assoc, append-nil, length-append, not, inl, inr, ◌⊎◌}
pub use Rattle.std.specs.Prelude.{Option, Some, None, Result, Ok, Err, is_ok, IsErrOf, OnErr, IfOk, if◌then◌else◌, ⊤}
pub use Rattle.std.proofs.lemmas.Bool.Decides.{nat_tests}
pub use Rattle.ob_types.specs.Marks.{change_between}
pub use Rattle.ob_types.specs.declared.command.Command.{Command}
pub use Rattle.ob_types.specs.declared.promise.Outcome.{Outcome}
pub use Rattle.ob_types.specs.declared.promise.PromiseState.{PromiseState}
pub use Rattle.ob_types.specs.declared.refusal.Refusal.{Refusal}
pub use Rattle.ob_types.specs.declared.refusal.Refusal.TheVariants.{Closed, NoMemory}
pub use Rattle.ob_types.specs.declared.reply.Reply.{Reply}
pub use Rattle.ob_seq.specs.Answer.{answer_within}
pub use Rattle.ob_seq.specs.Pending.{Leaves, Pending, StandsForWithin}
pub use Rattle.ob_seq.specs.Rows.{Settings}
pub use Rattle.ob_seq.specs.Steps.Commands.{step_within}
pub use Rattle.ob_seq.specs.Steps.Step.{Step, Makes, answer_by, held_by, first_of_step}
pub use Rattle.ob_seq.specs.Unsent.{whole, Unsent, waiting_count}
pub use Rattle.ob_connection.specs.Inside.{Past, held, Becomes, Steps, Moves, connected_of}
pub use Rattle.ob_connection.specs.Connected.{Connected, accepted_writes, connection_limit, most_ids, StandsFor}
pub use Rattle.ob_connection.specs.Connected.{StandsForSome, Gives}
pub use Rattle.ob_connection.specs.Obeying.{Answers, Follows, Obeys, commands_with, promises_after, told_by}
