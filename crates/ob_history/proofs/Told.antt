-- In a legal history a promise is settled with an outcome exactly if the two stand among the settlements, and a
-- record that settles it is found.
use Rattle.std.proofs.Common.{◌≡◌, ℕ, zero, suc, Bool, true, false, List, [], ◌∷◌, ◌++◌, inl, inr, length, map, cond}
use Rattle.std.proofs.Common.{refl, sym, ap, ◌∙◌, append_assoc, append-nil, subst, arith}
use Rattle.std.specs.Prelude.{◌↔◌, ◌==◌, Option, Some, None, fold, slice_get, IfSome, IsNone}
use Rattle.std.specs.List.{All, Contains, find}
use Rattle.std.specs.Option.{MatchOption, option_copied}
use Rattle.std.proofs.lemmas.Bool.{eqb-true, eq-eqb}
use Rattle.std.proofs.lemmas.List.Elements.{All-cons, All-nil, All-tail, Contains-append_left, Contains-append_right}
use Rattle.std.proofs.lemmas.List.Elements.{Contains-append_cases}
use Rattle.std.proofs.lemmas.List.Folds.{Any-from_list_any, list_any_at}
use Rattle.std.proofs.Math.Seq.{take-append_seam}
use denote.Ref.{Bor}
use Rattle.ob_types.specs.declared.command.Command.{Command}
use Rattle.ob_types.specs.declared.promise.Outcome.{Outcome}
use Rattle.ob_types.specs.declared.promise.PromiseId.{PromiseId}
use Rattle.ob_types.specs.declared.promise.PromiseState.TheVariants.{Settled}
use Rattle.ob_seq.specs.Answer.{accepted_among, answer_to, are_accepted, commands_after}
use Rattle.ob_seq.specs.Looks.{promise_after}
use Rattle.ob_seq.specs.Rows.{Settings}
use Rattle.ob_seq.specs.Pending.{settled_by}
use Rattle.ob_seq.proofs.Rows.Accepting.{among_are_accepted}
use Rattle.ob_seq.proofs.Rows.Told.{settled_is_told}
use Rattle.ob_history.specs.History.{accepted_commands, IsLegal, settlements_in, settles}
use Rattle.ob_history.specs.declared.record.Record.{Record}
use Rattle.ob_history.proofs.Histories.{accepted_with_next, command_of, found_behind, settlements_of_legal}

accepted_behind : (settings : Settings) (before more : List Record) → IsLegal settings (before ++ more) →
    accepted_commands (before ++ more) ≡ fold (commands_after settings) (accepted_commands before) (map command_of more)
accepted_behind settings before [] legal = ap accepted_commands (append-nil before)
accepted_behind settings before (one ∷ more) legal =
    let same = append_assoc before (one ∷ []) more in
    let reply : one.reply ≡ answer_to settings (accepted_commands before) one.command =
    (legal (length before) one (found_behind before one more)).reply
    ∙ ap (λ earlier. answer_to settings (accepted_commands earlier) one.command)
    (take-append_seam before (one ∷ more)) in
    ap accepted_commands (sym same)
    ∙ accepted_behind settings (before ++ one ∷ []) more (subst (IsLegal settings) (sym same) legal)
    ∙ ap (λ commands. fold (commands_after settings) commands (map command_of more))
    (accepted_with_next settings before one reply)

-- the accepted commands of a legal history are those among all its commands
pub accepted_of_legal : (settings : Settings) (records : List Record) → IsLegal settings records →
    accepted_commands records ≡ accepted_among settings (map command_of records)
accepted_of_legal settings records legal = accepted_behind settings [] records legal

-- and so they are accepted
pub legal_are_accepted : (settings : Settings) (records : List Record) → IsLegal settings records →
    are_accepted settings [] (accepted_commands records) ≡ true
legal_are_accepted settings records legal =
    ap (are_accepted settings []) (accepted_of_legal settings records legal)
    ∙ among_are_accepted settings (map command_of records)

-- a promise is settled exactly if it is reported
pub legal_is_told : (settings : Settings) (records : List Record) (id : PromiseId) (outcome : Outcome) →
    IsLegal settings records →
    promise_after settings (accepted_commands records) id ≡ Some (Settled outcome)
    ↔ Contains (settlements_in records) (id, outcome)
legal_is_told settings records id outcome legal =
    subst (λ (commands : List Command). promise_after settings commands id ≡ Some (Settled outcome)
    ↔ Contains (settlements_in records) (id, outcome)) (sym (accepted_of_legal settings records legal))
    (subst (λ settlements. promise_after settings (accepted_among settings (map command_of records)) id
    ≡ Some (Settled outcome) ↔ Contains settlements (id, outcome))
    (sym (settlements_of_legal settings records legal))
    (settled_is_told settings id outcome (map command_of records)))

-- what is found stands in the list and passes the test
abbrev IsThere : {X : Type 0} → (X → Bool) → List X → X → Type 0
IsThere test xs x = (test x ≡ true) × ((index : ℕ) × (slice_get xs index ≡ Some x))

pub found_there : {X : Type 0} (test : X → Bool) (xs : List X) (x : X) → find test xs ≡ Some x → IsThere test xs x
found_there test [] x is = absurd (cc)
found_there test (y ∷ xs) x is = by_test (test y) refl (found_there test xs x) is
  where
    by_test : (passes : Bool) → test y ≡ passes → (find test xs ≡ Some x → IsThere test xs x) →
        cond passes (Some y) (find test xs) ≡ Some x → IsThere test (y ∷ xs) x
    by_test true passes rest is = let same : y ≡ x = cc in (ap test (sym same) ∙ passes, (0, is))
    by_test false fails rest is = let later = rest is in (later.0, (suc later.1.0, later.1.1))

-- if nothing is found, nothing passes the test
pub none_found : {X : Type 0} (test : X → Bool) (xs : List X) → find test xs ≡ None → All (λ x. test x ≡ false) xs
none_found test [] none = All-nil (λ x. test x ≡ false)
none_found test (y ∷ xs) none = by_test (test y) refl (none_found test xs) none
  where
    by_test : (passes : Bool) → test y ≡ passes → (find test xs ≡ None → All (λ x. test x ≡ false) xs) →
        cond passes (Some y) (find test xs) ≡ None → All (λ x. test x ≡ false) (y ∷ xs)
    by_test true passes rest none = absurd (cc)
    by_test false fails rest none = All-cons (λ x. test x ≡ false) y xs fails (rest none)

module _ (id : PromiseId) where
  -- a record that settles the promise does so with some outcome
  settles_with : (one : Record) → settles id one ≡ true →
      (outcome : Outcome) × Contains (settled_by one.reply) (id, outcome)
  settles_with one is =
      let found =
      Any-from_list_any (λ (settlement : PromiseId × Outcome). settlement.0.0 == id.0) (settled_by one.reply) is in
      let numbered : ℕ → PromiseId × Outcome = λ number. (record { 0 = number }, found.1.1) in
      let same : found.1 ≡ (id, found.1.1) = ap numbered (eqb-true found.1.0.0 id.0 found.4) in
      (found.1.1, subst (Contains (settled_by one.reply)) same (found.0, found.2, found.3))

  -- and one that settles it with an outcome settles it
  settled_with : (one : Record) (outcome : Outcome) → Contains (settled_by one.reply) (id, outcome) →
      settles id one ≡ true
  settled_with one outcome there =
      list_any_at (λ settlement. settlement.0.0 == id.0) (settled_by one.reply) there.0 (id, outcome) there.1
      (ap (λ (settlement : PromiseId × Outcome). settlement.0.0 == id.0) there.2 ∙ eq-eqb id.0 id.0 refl)

  -- what a record settles is settled by the history
  told_by : (records : List Record) (index : ℕ) (one : Record) (outcome : Outcome) →
      slice_get records index ≡ Some one → Contains (settled_by one.reply) (id, outcome) →
      Contains (settlements_in records) (id, outcome)
  told_by [] index one outcome is there = absurd (cc)
  told_by (first ∷ records) zero one outcome is there =
      let same : first ≡ one = cc in
      Contains-append_left (settled_by first.reply) (settlements_in records) (id, outcome)
      (subst (λ (other : Record). Contains (settled_by other.reply) (id, outcome)) (sym same) there)
  told_by (first ∷ records) (suc index) one outcome is there =
      Contains-append_right (settled_by first.reply) (settlements_in records) (id, outcome)
      (told_by records index one outcome is there)

  -- if no record settles it, it is not among the settlements
  not_told : (records : List Record) (outcome : Outcome) → All (λ one. settles id one ≡ false) records →
      Contains (settlements_in records) (id, outcome) → ⊥
  not_told [] outcome none there = absurd (omega (arith, there.1))
  not_told (first ∷ records) outcome none there =
      elim (Contains-append_cases (settled_by first.reply) (settlements_in records) (id, outcome) there) [
        | inl here ↦ absurd (cc (settled_with first outcome here, none 0 first (omega arith)))
        | inr later ↦ not_told records outcome (All-tail (λ (one : Record). settles id one ≡ false) first records none)
            later
      ]

  module _ (records : List Record) where
    -- what is found by the walk over the records
    abbrev pub IsFound : Option (Bor Record) → Type 0
    IsFound result = option_copied result ≡ find (settles id) records

    pub found_settles : (result : Option (Bor Record)) → IsFound result →
        IfSome result (λ one. settles id one.now ≡ true)
    found_settles None is = tt
    found_settles (Some one) is = (found_there (settles id) records one.now (sym is)).0

    pub none_settles : (result : Option (Bor Record)) → IsFound result → IsNone result →
        All (λ one. settles id one ≡ false) records
    none_settles None is none = none_found (settles id) records (sym is)
    none_settles (Some one) is none = absurd (cc)

    module _ (settings : Settings) (legal : IsLegal settings records) where
      -- the record that is found stands at its place
      pub found_at_place : (result : Option (Bor Record)) → IsFound result →
          IfSome result (λ one. slice_get records one.now.place ≡ Some one.now)
      found_at_place None is = tt
      found_at_place (Some one) is =
          let there = (found_there (settles id) records one.now (sym is)).1 in
          subst (λ place. slice_get records place ≡ Some one.now) (sym (legal there.0 one.now there.1).place) there.1

      -- if the promise is settled, a record is found that settles it so
      pub settled_is_found : (result : Option (Bor Record)) → IsFound result → (outcome : Outcome) →
          promise_after settings (accepted_commands records) id ≡ Some (Settled outcome) →
          MatchOption result ⊥ (λ one. Contains (settled_by one.now.reply) (id, outcome))
      settled_is_found None is outcome settled =
          not_told records outcome (none_found (settles id) records (sym is))
          ((legal_is_told settings records id outcome legal).0 settled)
      settled_is_found (Some one) is outcome settled =
          let found = found_there (settles id) records one.now (sym is) in
          let with = settles_with one.now found.0 in
          let again =
          (legal_is_told settings records id with.0 legal).1
          (told_by records found.1.0 one.now with.0 found.1.1 with.1) in
          let same : with.0 ≡ outcome = cc in
          subst (λ (other : Outcome). Contains (settled_by one.now.reply) (id, other)) same with.1
