-- The pieces of a long response, one after another.
use Rattle.std.proofs.Common.{◌≡◌, refl, sym, ap, ◌∙◌, arith, ℕ, ◌+◌, ◌<◌, ◌≤◌, List, [], ◌∷◌, ◌++◌, length}
use Rattle.std.proofs.Common.{append_assoc, append-nil, below_more, length-append, true}
use Rattle.std.proofs.Math.Seq.{take-append_seam}
use Rattle.std.proofs.lemmas.List.{map-append, take-append-le}
use Rattle.std.specs.Prelude.{Option, Some, None, Result, Err, map, take}
use Rattle.ob_types.specs.declared.command.Command.TheVariants.{Write}
use Rattle.ob_types.specs.declared.message.Message.TheVariants.{Block}
use Rattle.ob_seq.specs.State.{writable_after}
use Rattle.ob_connection.proofs.Offered.{taken_twice}
use Rattle.ob_connection.specs.Connected.{Connected, Gives}
use Rattle.ob_connection.specs.Obeying.{Obeys, written_reply}
use Rattle.ob_connection.specs.Calls.{with_more}
use Rattle.ob_connection.specs.declared.refused.Refused.{Refused}
use Rattle.ob_connection.specs.declared.replies.Written.{Written}
use Rattle.ob_patterns.specs.Writing.{accepted, Adds, RefusesWrite, AreWanted, Stops, WritesGiven, last_answer, written}
use Rattle.ob_patterns.specs.declared.chunks.Progress.{Progress}

-- what a source answers that gives these pieces
abbrev gave : List (List ℕ) → List (Option (List ℕ))
gave pieces = map (λ piece. Some piece) pieces

-- a source gave *n* pieces while they were wanted, and each of them is written, in their order
pub record Wrote (count : ℕ) (old : Connected) (before : Option (List (Option (List ℕ)))) (now : Connected)
    (after : Option (List (Option (List ℕ)))) : Type 0 where
  pub pieces : List (List ℕ)
  pub so_far : length pieces ≡ count
  pub wanted : AreWanted old pieces
  pub adds : Adds old (written pieces) now
  pub answers : after ≡ with_more before (gave pieces)

pub none_more : {A : Type 0} (told : Option (List A)) → with_more told [] ≡ told
none_more None = refl
none_more (Some before) = ap Some (append-nil before)

-- nothing is written at first
pub none_wrote : (old : Connected) (before : Option (List (Option (List ℕ)))) → Wrote 0 old before old before
none_wrote old before = record {
  pieces = [];
  so_far = refl;
  wanted = λ place within. absurd (omega arith);
  adds = record { stands = λ commands stands. rw append-nil stands; settings = refl };
  answers = sym (none_more before);
}

module _ {count : ℕ} {old between : Connected} {before now : Option (List (Option (List ℕ)))}
    (wrote : Wrote count old before between now) where
  module _ (piece : List ℕ) (writable : Gives between writable_after true) where
    abbrev pieces : List (List ℕ)
    pieces = wrote.pieces ++ piece ∷ []

    -- a place at which the connection was writable
    abbrev IsWanted : ℕ → Type 0
    IsWanted place = Gives old (λ settings commands. writable_after settings (commands ++ written (take place pieces))) true

    earlier : (place : ℕ) → place < length wrote.pieces → IsWanted place
    earlier place within = rw (take-append-le place wrote.pieces (piece ∷ []) (omega (arith, within)))
        (wrote.wanted place within)

    here : IsWanted (length wrote.pieces)
    here commands stands =
        rw (take-append_seam wrote.pieces (piece ∷ []), ← wrote.adds.settings)
        (writable (commands ++ written wrote.pieces) (wrote.adds.stands commands stands))

    wanted_more : AreWanted old pieces
    wanted_more place within =
        below_more IsWanted (length wrote.pieces) earlier here place
        (omega (arith, within, length-append wrote.pieces (piece ∷ [])))

    -- one piece more
    pub one_wrote : {new : Connected} {after : Option (List (Option (List ℕ)))} {done : Written} →
        Obeys between (Write (Block piece)) written_reply (accepted done) new →
        after ≡ with_more now (Some piece ∷ []) → Wrote (count + 1) old before new after
    one_wrote {after = after} writes gives = record {
      pieces = pieces;
      so_far = omega (arith, length-append wrote.pieces (piece ∷ []), wrote.so_far);
      wanted = wanted_more;
      adds = record {
        stands = λ commands stands.
            rw (map-append, ← append_assoc)
            (writes.stands (commands ++ written wrote.pieces) (wrote.adds.stands commands stands));
        settings = writes.settings ∙ wrote.adds.settings;
      };
      answers =
          rw map-append (gives ∙ ap (λ told. with_more told (Some piece ∷ [])) wrote.answers
          ∙ taken_twice before (gave wrote.pieces) (Some piece ∷ []));
    }

  -- that is all
  pub writes_given : {most : ℕ} (result : Result Progress Refused) {new : Connected}
      {after : Option (List (Option (List ℕ)))} → count ≤ most → new ≡ between →
      after ≡ with_more now (last_answer result) → Stops most count result new →
      WritesGiven most old before result new after
  writes_given result few same gives stops = record {
    pieces = wrote.pieces;
    few = omega (arith, few, wrote.so_far);
    wanted = wrote.wanted;
    adds = rw same wrote.adds;
    answers = gives ∙ ap (λ told. with_more told (last_answer result)) wrote.answers
        ∙ taken_twice before (gave wrote.pieces) (last_answer result);
    stops = rw wrote.so_far stops;
  }

  -- or a piece was refused that the source gave last
  pub refused_given : {most : ℕ} (refused : Refused) (piece : List ℕ) {new : Connected}
      {after : Option (List (Option (List ℕ)))} → count ≤ most → new ≡ between → refused.message ≡ Block piece →
      after ≡ with_more now (Some piece ∷ []) → Gives between writable_after true →
      RefusesWrite between (Block piece) refused.refusal → WritesGiven most old before (Err refused) new after
  refused_given refused piece few same is gives writable refuses =
      writes_given (Err refused) few same (rw is gives) (rw (same, is) (writable, refl, refuses))
