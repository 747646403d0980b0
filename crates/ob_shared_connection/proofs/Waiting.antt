-- What holds of who waits.
use Rattle.std.proofs.Common.{◌≡◌, ◌++◌, true, List, [], refl, sym, ap, ◌∙◌, subst, append_assoc}
use Rattle.std.proofs.lemmas.List.Elements.{All-append, All-nil}
use Rattle.std.proofs.lemmas.List.{append-nil}
use Rattle.ob_types.specs.declared.command.Command.{Command}
use Rattle.ob_shared_connection.specs.Calls.{IsLock}
use Rattle.ob_shared_connection.specs.Values.{commands_by, leaves_flushed, HandleValue, Held}
use Rattle.ob_shared_connection.specs.declared.call.Call.{Call}
use Rattle.ob_shared_connection.proofs.Lists.{commands_by-append}

-- who let the lock go and took it again took it, as one who took it once
pub lock_again : (old : HandleValue) (first second : Held) → IsLock old first → IsLock first.handle second → IsLock old second
lock_again old first second one two = record {
  between = one.between ++ two.between;
  sees = two.sees ∙ ap (λ (handle : HandleValue). record handle { seen = handle.seen ++ two.between }) one.sees
      ∙ ap (λ (log : List Call). record old { seen = log }) (append_assoc old.seen one.between two.between);
  own = ap (λ (handle : HandleValue). handle.mine) (sym one.sees) ∙ two.own
      ∙ ap (λ (handle : HandleValue). commands_by handle.caller second.handle.seen) one.sees;
  others = commands_by-append old.caller one.between two.between
      ∙ ap (λ (commands : List Command). commands ++ commands_by old.caller two.between) one.others
      ∙ ap (λ (handle : HandleValue). commands_by handle.caller two.between) (sym one.sees) ∙ two.others;
  untouched = λ sends. All-append (λ call. leaves_flushed call.command ≡ true) one.between two.between
      (one.untouched sends) (two.untouched (ap (λ (handle : HandleValue). handle.sends) one.sees ∙ sends));
  left = two.left;
  covered = two.covered;
}

-- who has just taken it has it with what it knows
pub lock_itself : (old : HandleValue) (held : Held) → IsLock old held → IsLock held.handle held
lock_itself old held lock = record {
  between = [];
  sees = ap (λ (seen : List Call). record held.handle { seen = seen }) (sym (append-nil held.handle.seen));
  own = ap (λ (handle : HandleValue). handle.mine) lock.sees ∙ lock.own
      ∙ ap (λ (handle : HandleValue). commands_by handle.caller held.handle.seen) (sym lock.sees);
  others = refl;
  untouched = λ _. All-nil (λ call. leaves_flushed call.command ≡ true);
  left = lock.left;
  covered = lock.covered;
}

-- under the lock since, and a look at it changed nothing
pub locked_still : (old : HandleValue) (first now looked : Held) → IsLock old first → IsLock first.handle now
    → looked ≡ now → IsLock old looked
locked_still old first now looked one two same =
    subst (λ (held : Held). IsLock old held) (sym same) (lock_again old first now one two)

-- and after a look one let it go, and took it again
pub locked_anew : (old : HandleValue) (now looked again : Held) (left : HandleValue) → IsLock old now → looked ≡ now
    → left ≡ looked.handle → IsLock left again → IsLock old again
locked_anew old now looked again left one same is two =
    lock_again old now again one
    (subst (λ (handle : HandleValue). IsLock handle again) (is ∙ ap (λ (held : Held). held.handle) same) two)
