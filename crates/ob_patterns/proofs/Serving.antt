-- One turn of serving after another.
use Rattle.std.proofs.Common.{◌≡◌, refl, sym, ◌∙◌, arith, ℕ, ◌+◌, ◌<◌, List, false, ◌⊎◌, inl, inr}
use Rattle.std.specs.Prelude.{Option}
use Rattle.ob_seq.specs.State.{closed_after}
use Rattle.ob_connection.specs.Calls.{Call}
use Rattle.ob_connection.specs.Connected.{Connected, Gives}
use Rattle.ob_patterns.specs.Sending.{Serves, Spins}
use Rattle.ob_patterns.specs.declared.next.Next.{Next}
use Rattle.ob_patterns.specs.declared.next.Next.TheVariants.{ComeAgain}

-- what was done last was to send
pub record SentLast (turn : ℕ) (now : Connected) (sent : Option (List ℕ)) (calls : Option (List Call)) : Type 0 where
  pub some : 0 < turn
  pub ready : Connected
  pub sent_before : Option (List ℕ)
  pub calls_before : Option (List Call)
  pub said : Next
  pub spins : Spins 16 ready sent_before calls_before said now sent calls

-- nothing is done yet, or what was done last was to send
pub record Served (turn : ℕ) (old : Connected) (sent_before : Option (List ℕ)) (calls_before : Option (List Call))
    (now : Connected) (sent : Option (List ℕ)) (calls : Option (List Call)) : Type 0 where
  pub unclosed : Gives old closed_after false
  pub last : ((turn ≡ 0) × (now ≡ old) × (sent ≡ sent_before) × (calls ≡ calls_before)) ⊎ SentLast turn now sent calls

pub none_served : {old : Connected} (sent_before : Option (List ℕ)) (calls_before : Option (List Call)) →
    Gives old closed_after false → Served 0 old sent_before calls_before old sent_before calls_before
none_served sent_before calls_before unclosed = record { unclosed = unclosed; last = inl (refl, refl, refl, refl) }

module _ {turn : ℕ} {old between : Connected} {sent_before sent_between : Option (List ℕ)}
    {calls_before calls_between : Option (List Call)}
    (served : Served turn old sent_before calls_before between sent_between calls_between) where
  -- one turn more
  pub one_served : {ready now : Connected} {sent_ready sent : Option (List ℕ)} {calls_ready calls : Option (List Call)}
      {said : Next} → Spins 16 ready sent_ready calls_ready said now sent calls →
      Served (turn + 1) old sent_before calls_before now sent calls
  one_served spins = record {
    unclosed = served.unclosed;
    last = inr record {
      some = omega arith;
      ready = _;
      sent_before = _;
      calls_before = _;
      said = _;
      spins = spins;
    };
  }

  -- the turns are used up
  pub all_served : {turns : ℕ} → turn ≡ turns →
      Serves turns old sent_before calls_before ComeAgain between sent_between calls_between
  all_served all = elim served.last [
    | inl none ↦ inr (inl record {
      unclosed = served.unclosed;
      none = sym all ∙ none.0;
      says = refl;
      kept = none.1;
      unsent = none.2;
      unasked = none.3;
    })
    | inr sent ↦ inl record {
      unclosed = served.unclosed;
      some = omega (arith, sent.some, all);
      ready = sent.ready;
      sent_before = sent.sent_before;
      calls_before = sent.calls_before;
      said = sent.said;
      spins = sent.spins;
      says = inr refl;
    }
  ]
