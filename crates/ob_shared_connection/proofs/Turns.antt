-- A sending in turns.
use Rattle.std.proofs.Common.{◌≡◌, ◌≤◌, ◌<◌, ◌+◌, ◌++◌, ℕ, List, [], ◌∷◌, length, min, inl, inr, refl, sym, ap, ◌∙◌, subst, arith, Option, Some, None, Ok, Err, append_assoc}
use Rattle.std.proofs.lemmas.List.{length-append}
use Rattle.std.proofs.lemmas.List.Elements.{All-push}
use Rattle.std.proofs.lemmas.List.Sums.{sum_by_push}
use Rattle.std.specs.List.{All, sum_by}
use Rattle.std.specs.Option.{option_or}
use Rattle.ob_types.specs.declared.reply.Change.{Change}
use Rattle.ob_connection.specs.Calls.{most_pieces}
use Rattle.ob_connection.specs.declared.connection.sending.Sent.{Sent}
use Rattle.ob_connection.specs.declared.ending.Ending.{Ending}
use Rattle.ob_connection.specs.declared.ending.Ending.TheVariants.{TurnsUsed}
use Rattle.ob_connection.specs.declared.replies.SentTurns.{SentTurns}
use Rattle.ob_shared_connection.specs.Sending.{SendsOnce, Told, EndsWith, GoesOn, MakesTurns, Reports, SendsEach}
use Rattle.ob_shared_connection.specs.Sending.{SendsWithin, ended_by, first_change}
use Rattle.ob_shared_connection.specs.Values.{HandleValue}
use Rattle.ob_shared_connection.specs.declared.transport.sending.SendFault.{SendFault}

-- one more turn behind others
pub each_more : (max_bytes : ℕ) (turns : List Sent) (sent : Sent) (old between : HandleValue) (before told : Told)
    (new : HandleValue) (after : Told)
    → SendsEach max_bytes turns old before between told
    → SendsOnce most_pieces max_bytes between told (Ok sent) new after
    → SendsEach max_bytes (turns ++ sent ∷ []) old before new after
each_more max_bytes [] sent old between before told new after (same, unasked) sends = (
  new,
  after,
  subst (λ (at : HandleValue). SendsOnce most_pieces max_bytes at before (Ok sent) new after) same
      (subst (λ (at : Told). SendsOnce most_pieces max_bytes between at (Ok sent) new after) unasked sends),
  (refl, refl),
)
each_more max_bytes (turn ∷ turns) sent old between before told new after (first, first_told, here, rest) sends =
    (first, first_told, here, each_more max_bytes turns sent first between first_told told new after rest sends)

change_more : (turns : List Sent) (sent : Sent)
    → first_change (turns ++ sent ∷ []) ≡ option_or (first_change turns) sent.taken.change
change_more [] sent = by_change sent.taken.change
  where
    by_change : (change : Option Change) → option_or change None ≡ change
    by_change (Some change) = refl
    by_change None = refl
change_more (turn ∷ turns) sent = by_change turn.taken.change (change_more turns sent)
  where
    by_change : (change : Option Change) → first_change (turns ++ sent ∷ []) ≡ option_or (first_change turns) sent.taken.change
        → option_or change (first_change (turns ++ sent ∷ []))
        ≡ option_or (option_or change (first_change turns)) sent.taken.change
    by_change (Some change) more = refl
    by_change None more = more

-- what is added up is what all bring, as far as it is counted
counted_more : (f : Sent → ℕ) (turns : List Sent) (sent : Sent) (total : ℕ)
    → total ≡ min (sum_by f turns) 18446744073709551615
    → min (total + f sent) 18446744073709551615 ≡ min (sum_by f (turns ++ sent ∷ [])) 18446744073709551615
counted_more f turns sent total is =
    let push = sum_by_push f turns sent in
    omega arith

pub reports_more : (turns : List Sent) (first last sent : Sent) (total done : SentTurns) → Reports turns first last total
    → done.bytes ≡ min (total.bytes + sent.bytes) 18446744073709551615
    → done.taken.count ≡ min (total.taken.count + sent.taken.count) 18446744073709551615
    → done.taken.change ≡ option_or total.taken.change sent.taken.change
    → done.taken.from ≡ total.taken.from → done.taken.to ≡ sent.taken.to → done.taken.outcome ≡ sent.taken.outcome
    → Reports (turns ++ sent ∷ []) first sent done
reports_more turns first last sent total done reports bytes count change from to outcome = record {
  bytes = bytes ∙ counted_more (λ turn. turn.bytes) turns sent total.bytes reports.bytes;
  count = count ∙ counted_more (λ turn. turn.taken.count) turns sent total.taken.count reports.count;
  change = change ∙ ap (λ (before : Option Change). option_or before sent.taken.change) reports.change
      ∙ sym (change_more turns sent);
  from = from ∙ reports.from;
  to = to;
  outcome = outcome;
}

-- the turns until now, and what is known of the last one
pub record SoFar (made max_bytes : ℕ) (old : HandleValue) (before : Told) (total : SentTurns) (new : HandleValue)
    (after : Told) : Type 0 where
  pub makes : MakesTurns max_bytes old before total new after
  pub many : length makes.turns ≡ made + 1
  pub ends : EndsWith makes.last total.ending

module _ (max_bytes : ℕ) (old : HandleValue) (before : Told) where
  pub one_made : (sent : Sent) (total : SentTurns) (new : HandleValue) (after : Told)
      → SendsOnce most_pieces max_bytes old before (Ok sent) new after
      → Reports (sent ∷ []) sent sent total → EndsWith sent total.ending
      → SoFar 0 max_bytes old before total new after
  one_made sent total new after sends reports ends = record {
    makes = record {
      turns = sent ∷ [];
      each = (new, after, sends, (refl, refl));
      first = sent;
      later = [];
      begins = refl;
      earlier = [];
      last = sent;
      ends = refl;
      went_on = λ at other few. absurd (omega arith);
      reports = reports;
    };
    many = refl;
    ends = ends;
  }

  module _ (made : ℕ) (total : SentTurns) (between : HandleValue) (told : Told)
      (so_far : SoFar made max_bytes old before total between told) where
    goes_on : total.ending ≡ TurnsUsed → GoesOn so_far.makes.last
    goes_on used_up = subst (λ (ending : Ending). EndsWith so_far.makes.last ending) used_up so_far.ends

    pub one_more : (sent : Sent) (done : SentTurns) (new : HandleValue) (after : Told) → total.ending ≡ TurnsUsed
        → SendsOnce most_pieces max_bytes between told (Ok sent) new after
        → ((turns : List Sent) (first last : Sent) → Reports turns first last total
        → Reports (turns ++ sent ∷ []) first sent done)
        → EndsWith sent done.ending → SoFar (made + 1) max_bytes old before done new after
    one_more sent done new after used_up sends reports ends =
        let makes = so_far.makes in
        let all = append_assoc makes.earlier (makes.last ∷ []) (sent ∷ []) in
        let long = ap length makes.ends in
        record {
          makes = record {
            turns = makes.turns ++ sent ∷ [];
            each = each_more max_bytes makes.turns sent old between before told new after makes.each sends;
            first = makes.first;
            later = makes.later ++ sent ∷ [];
            begins = ap (λ (turns : List Sent). turns ++ sent ∷ []) makes.begins;
            earlier = makes.turns;
            last = sent;
            ends = refl;
            went_on = subst (λ (turns : List Sent). All GoesOn turns) (sym makes.ends)
                (All-push GoesOn makes.earlier makes.last makes.went_on (goes_on used_up));
            reports = reports makes.turns makes.first makes.last makes.reports;
          };
          many = length-append makes.turns (sent ∷ []) ∙ ap (λ (n : ℕ). n + 1) so_far.many;
          ends = ends;
        }

    -- it ends with the last turn
    pub stops : (limit : ℕ) → made + 1 ≤ limit → (total.ending ≡ TurnsUsed → made + 1 ≡ limit)
        → SendsWithin limit max_bytes old before total between told
    stops limit within used_up = record {
      between = between;
      told = told;
      makes = so_far.makes;
      ends = inl (
        record {
          within = subst (λ (n : ℕ). n ≤ limit) (sym so_far.many) within;
          ends = so_far.ends;
          used_up = λ used. so_far.many ∙ used_up used;
        },
        refl,
        refl,
      );
    }

    -- or by a further one
    pub fails : (limit : ℕ) (fault : SendFault) (done : SentTurns) (new : HandleValue) (after : Told) → made + 1 < limit
        → total.ending ≡ TurnsUsed → SendsOnce most_pieces max_bytes between told (Err fault) new after
        → done ≡ record total { ending = ended_by fault } → SendsWithin limit max_bytes old before done new after
    fails limit fault done new after fewer used_up sends is =
        let makes = so_far.makes in
        subst (λ (all : SentTurns). SendsWithin limit max_bytes old before all new after) (sym is) (record {
          between = between;
          told = told;
          makes = record {
            turns = makes.turns;
            each = makes.each;
            first = makes.first;
            later = makes.later;
            begins = makes.begins;
            earlier = makes.earlier;
            last = makes.last;
            ends = makes.ends;
            went_on = makes.went_on;
            reports = record {
              bytes = makes.reports.bytes;
              count = makes.reports.count;
              change = makes.reports.change;
              from = makes.reports.from;
              to = makes.reports.to;
              outcome = makes.reports.outcome;
            };
          };
          ends = inr (record {
            fewer = subst (λ (n : ℕ). n < limit) (sym so_far.many) fewer;
            goes_on = goes_on used_up;
            fault = fault;
            sends = sends;
            ends = refl;
          });
        })
